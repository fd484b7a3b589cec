use Rattle.std.proofs.Common.{◌≡◌, ◌∙◌, map, sym, ap, rules}
use Rattle.std.proofs.lemmas.List.{map-id}
use Rattle.std.proofs.lemmas.Iterator.Adapters.{YieldsList-from_vec}
use Rattle.std.proofs.lemmas.Iterator.Consumers.{YieldsList-end}
use Rattle.amq_loader.specs.declared.part.Part.{Part}
use Rattle.amq_loader.specs.Parts.{all_records}
use Rattle.amq_loader.proofs.Tallies.{files_more, joined_more}
use Rattle.amq_loader.proofs.parts.join.Goals as goal

pub loop-part-preserved : goal.loop-part-preserved
loop-part-preserved c = record {
  files = files_more c.loop-part.yielded c.in-Some.part c.loop-part.files.items c.add_part.new.files.items c.loop-part.invariant.files c.in_ok-add_part.ensures.files;
  records = joined_more c.loop-part.yielded c.in-Some.part c.loop-part.records.items c.add_part.new.records.items c.loop-part.invariant.records c.in_ok-add_part.ensures.records;
}

pub returns : goal.returns
returns c =
    let start = c.into_iter-part-iterator.ensures.into_iter_gives in
    let all : c.loop-part.yielded ≡ c.args.parts.items =
    sym (map-id c.loop-part.yielded) ∙ (YieldsList-end (YieldsList-from_vec c.args.parts.items start.0 (start.1 ∙ search rules)) c.loop-part.yielded c.loop-part.part-iterator c.loop-part.yielded_by c.next.result c.next.new.self c.in-None.is c.next.ensures.steps).0 in
    record {
      files = c.loop-part.invariant.files ∙ ap (map (λ (p : Part). p.file)) all;
      records = c.loop-part.invariant.records ∙ ap all_records all;
    }
