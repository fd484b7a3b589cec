use Rattle.std.proofs.Common.{◌≤◌, map, take}
use Rattle.amq_model.specs.Leaves.{Leaves, Unchanged, OnlyAsks}
use Rattle.amq_model.specs.LoadCalls.{Makes}
use Rattle.amq_loader.specs.Asked.{sizes}
use Rattle.amq_io.specs.Cause.{NoneFailed}
use Rattle.amq_loader.specs.Parts.{AreFound}
use Rattle.amq_loader.proofs.Asking.{AreReads}
use Rattle.amq_loader.proofs.loading.read_files.Given as goal

-- the files so far were read
abbrev pub invariant-loop-info : goal.invariant-loop-info
invariant-loop-info g l = record {
  found : AreFound l.user_version (map (λ i. i.name) (take l.info-index l.infos)) (g.D.Disk.past l.fn.disk) l.parts.items;
  calls : Makes (AreReads (sizes (take l.info-index l.infos))) (g.D.Disk.past l.fn.disk) (g.D.Disk.past l.disk);
  asks : OnlyAsks (g.D.Disk.past l.fn.disk) (g.D.Disk.past l.disk);
  only_asks : Leaves Unchanged Unchanged (g.D.Disk.past l.fn.disk) (g.D.Disk.past l.disk);
  later : g.D.Disk.moment l.fn.disk ≤ g.D.Disk.moment l.disk;
  faults : NoneFailed (g.D.Disk.faults l.fn.disk) (g.D.Disk.faults l.disk);
}
