use Rattle.std.proofs.Common.{◌≡◌, ◌+◌, ◌-◌, ◌^◌, ◌≤◌, min, ℕ, true, Option}
use Rattle.amq_model.specs.declared.config.Config.{Config}
use Rattle.amq_tx.specs.State.{TxState}
use Rattle.amq_engine.specs.declared.tail.Tail.{Tail}
use Rattle.amq_engine.specs.Lists.{Lists}
use Rattle.amq_model.specs.Leaves.{Told}
use Rattle.amq_io.specs.Cause.{NoneFailed}
use Rattle.amq_loader.specs.Loads.{IsTidy}
use Rattle.amq_engine.specs.DataFiles.{WorkedTo}
use Rattle.amq_engine.specs.Receipts.{GoesOn}
use Rattle.amq_engine.specs.Engine.{Stage, IsValid, with_files}
use Rattle.amq_engine.proofs.moving.fill_pool.Given as goal

abbrev pub invariant-loop : goal.invariant-loop
invariant-loop g l = record {
  filled : l.pool ≡ with_files l.counter l.fn.pool;
  few : l.counter ≤ min (l.fn.min_files - l.fn.files) (2 ^ 31 - 1 - l.fn.pool.highest);
  highest : l.pool.highest ≡ l.fn.pool.highest + l.counter;
  valid : (stage : Stage) (lists : Option Lists) (room : ℕ) (config : Config) (table : TxState) (tail : Tail)
      → IsValid stage (g.D.Disk.past l.fn.disk) (g.D.Disk.moment l.fn.disk) lists room config table l.fn.pool tail
      → IsValid stage (g.D.Disk.past l.disk) (g.D.Disk.moment l.disk) lists room config table l.pool tail;
  faults : NoneFailed (g.D.Disk.faults l.fn.disk) (g.D.Disk.faults l.disk);
  later : g.D.Disk.moment l.fn.disk ≤ g.D.Disk.moment l.disk;
  tidy : Told (g.D.Disk.past l.fn.disk) IsTidy → Told (g.D.Disk.past l.disk) IsTidy;
  goes : GoesOn (g.D.Disk.past l.fn.disk) (g.D.Disk.past l.disk);
  works : WorkedTo true l.fn.pool.config.file_size (l.fn.pool.highest + 1) l.fn.pool.highest l.pool.highest (g.D.Disk.past l.fn.disk) (g.D.Disk.past l.disk);
}
