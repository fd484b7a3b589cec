use Rattle.std.proofs.Common.{◌≡◌, ◌∙◌, List, sym, ap, rules}
use Rattle.std.specs.List.{filter_map}
use Rattle.std.specs.declared.borrow.Cow.{Cow}
use Rattle.std.proofs.lemmas.List.{map-id}
use Rattle.std.proofs.lemmas.Iterator.Adapters.{YieldsList-from_vec}
use Rattle.std.proofs.lemmas.Iterator.Consumers.{YieldsList-end}
use Rattle.amq_model.specs.declared.record.Placed.{Placed}
use Rattle.amq_model.specs.Effect.{entry_of, removal_of}
use Rattle.amq_state.specs.Held.{held}
use Rattle.amq_state.proofs.HeldLaws.{found_one_more}
use Rattle.amq_state.proofs.owned.parts_of.Goals as goal

pub loop-placed-preserved : goal.loop-placed-preserved
loop-placed-preserved c = record {
  entries = found_one_more entry_of c.loop-placed.yielded c.in-Some.placed c.loop-placed.entries.items c.add_part.new.entries.items c.loop-placed.invariant.entries c.in_ok-add_part.ensures.entries;
  removals = found_one_more removal_of c.loop-placed.yielded c.in-Some.placed c.loop-placed.removals.items c.add_part.new.removals.items c.loop-placed.invariant.removals c.in_ok-add_part.ensures.removals;
}

pub returns : goal.returns
returns c =
    let start = c.into_iter-placed-iterator.ensures.into_iter_gives in
    let all : c.loop-placed.yielded ≡ c.args.changes.items =
    sym (map-id c.loop-placed.yielded) ∙ (YieldsList-end (YieldsList-from_vec c.args.changes.items start.0 (start.1 ∙ search rules)) c.loop-placed.yielded c.loop-placed.placed-iterator c.loop-placed.yielded_by c.next.result c.next.new.self c.in-None.is c.next.ensures.steps).0 in
    record {
      entries = c.loop-placed.invariant.entries ∙ ap (λ (cs : List (Cow Placed)). filter_map entry_of (held cs)) all;
      removals = c.loop-placed.invariant.removals ∙ ap (λ (cs : List (Cow Placed)). filter_map removal_of (held cs)) all;
    }
