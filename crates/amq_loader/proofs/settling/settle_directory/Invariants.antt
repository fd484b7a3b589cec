use Rattle.std.proofs.Common.{◌≡◌, ◌≤◌, map, take}
use Rattle.amq_model.specs.Calls.{removing}
use Rattle.amq_model.specs.LoadCalls.{AreCalls, Makes}
use Rattle.amq_model.specs.Leaves.{Leaves}
use Rattle.amq_io.specs.Cause.{NoneFailed}
use Rattle.amq_loader.specs.Bases.{Clears, Cleared}
use Rattle.amq_loader.proofs.settling.settle_directory.Given as goal

-- the first ones are gone
abbrev pub invariant-loop-name : goal.invariant-loop-name
invariant-loop-name g l = record {
  so_far : Leaves (Clears l.loaded.leftovers) (Cleared (take l.name-index l.loaded.leftovers)) (g.D.Disk.past l.fn.disk) (g.D.Disk.past l.disk);
  calls : Makes (λ s. AreCalls (map removing (take l.name-index l.loaded.leftovers))) (g.D.Disk.past l.fn.disk) (g.D.Disk.past l.disk);
  later : g.D.Disk.moment l.fn.disk ≤ g.D.Disk.moment l.disk;
  faults : NoneFailed (g.D.Disk.faults l.fn.disk) (g.D.Disk.faults l.disk);
}
