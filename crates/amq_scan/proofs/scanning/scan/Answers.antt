use Rattle.std.proofs.Common.{List, [], map, subst}
use Rattle.std.proofs.lemmas.List.{append-nil}
use Rattle.amq_model.specs.RecordAt.{Spot}
use Rattle.amq_model.specs.Scan.{IsScan}
use Rattle.amq_record.specs.Refs.{spot_of}
use Rattle.amq_scan.proofs.Scans.{none_left, passes_over, none_begins}
use Rattle.amq_scan.proofs.scanning.scan.Goals as goal

pub loop-place-preserved : goal.loop-place-preserved
loop-place-preserved c = λ rest h. c.loop-place.invariant rest (passes_over c.args.bytes.now c.args.fid c.args.version c.loop-place.place rest c.in-None.ensures.none h)

pub loop-place-preserved-then-not-is_kind : goal.loop-place-preserved-then-not-is_kind
loop-place-preserved-then-not-is_kind c = λ rest h. c.loop-place.invariant rest (passes_over c.args.bytes.now c.args.fid c.args.version c.loop-place.place rest
    (none_begins c.args.bytes.now c.args.fid c.args.version c.loop-place.place cc) h)

pub returns : goal.returns
returns c = subst (λ (spots : List Spot). IsScan c.args.bytes.now c.args.fid c.args.version spots) (append-nil (map spot_of c.loop-place.spots.items)) (c.loop-place.invariant [] (none_left c.args.bytes.now c.args.fid c.args.version c.loop-place.place c.loop-place-test.false))
