use Rattle.std.proofs.Common.{◌-◌, List, ◌++◌, length, map}
use Rattle.amq_model.specs.RecordAt.{Spot}
use Rattle.amq_model.specs.Scan.{IsScanFrom, IsScan}
use Rattle.amq_record.specs.Refs.{spot_of}
use Rattle.amq_scan.proofs.scanning.scan.Given as goal

-- whatever is found from here on completes the scan
abbrev pub invariant-loop-place : goal.invariant-loop-place
invariant-loop-place l = (rest : List Spot) → IsScanFrom l.bytes l.fid l.version l.place rest → IsScan l.bytes l.fid l.version (map spot_of l.spots.items ++ rest)

abbrev pub decreases-loop-place : goal.decreases-loop-place
decreases-loop-place l = length l.bytes - l.place
