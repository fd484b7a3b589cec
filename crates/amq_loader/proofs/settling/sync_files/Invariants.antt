use Rattle.std.proofs.Common.{◌≡◌, ◌≤◌, map, take}
use Rattle.amq_model.specs.Leaves.{Leaves, Syncs, HasSettledNames, AllAgree, IsListedSame}
use Rattle.amq_model.specs.LoadCalls.{AreCalls, Makes}
use Rattle.amq_loader.proofs.Syncing.{AllSettled, sync_of}
use Rattle.amq_io.specs.Cause.{NoneFailed}
use Rattle.amq_loader.proofs.settling.sync_files.Given as goal

-- the first ones are settled
abbrev pub invariant-loop-file : goal.invariant-loop-file
invariant-loop-file g l = record {
  so_far : Leaves Syncs Syncs (g.D.Disk.past l.fn.disk) (g.D.Disk.past l.disk);
  calls : Makes (λ s. AreCalls (map sync_of (take l.file-index l.loaded.files))) (g.D.Disk.past l.fn.disk) (g.D.Disk.past l.disk);
  names : HasSettledNames (g.D.Disk.past l.disk);
  settled : AllSettled (g.D.Disk.past l.disk) (take l.file-index l.loaded.files);
  listed : AllAgree (g.D.Disk.past l.fn.disk) IsListedSame → AllAgree (g.D.Disk.past l.disk) IsListedSame;
  later : g.D.Disk.moment l.fn.disk ≤ g.D.Disk.moment l.disk;
  faults : NoneFailed (g.D.Disk.faults l.fn.disk) (g.D.Disk.faults l.disk);
}
