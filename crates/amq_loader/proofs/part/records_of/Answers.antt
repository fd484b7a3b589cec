use Rattle.std.proofs.Common.{◌∙◌, ◌++◌, List, ap, map}
use Rattle.amq_model.specs.declared.record.Placed.{Placed}
use Rattle.amq_record.specs.declared.spot.Spot.{Spot}
use Rattle.amq_record.specs.Refs.{spot_of}
use Rattle.amq_state.specs.Fed.{placed_of}
use Rattle.amq_loader.proofs.Tallies.{spots_placed}
use Rattle.amq_loader.proofs.part.records_of.Goals as goal

pub returns : goal.returns
returns c = record {
  spots = map spot_of c.in_ok-spots.spots.items;
  scan = c.in_ok-spots.ensures;
  are = c.of.ensures ∙ c.in_ok-copy_spots.ensures.ok ∙ ap (λ (l : List Placed). l ++ map (placed_of c.args.id) c.deref.result.now) c.new-records.ensures.items
      ∙ ap (λ (ss : List Spot). map (placed_of c.args.id) ss) c.deref.ensures.value ∙ spots_placed c.args.id c.in_ok-spots.spots.items;
}
