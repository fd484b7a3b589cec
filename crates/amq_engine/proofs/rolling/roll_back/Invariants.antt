use Rattle.std.proofs.Common.{◌≡◌, ◌≤◌, true, List, [], option_map, IfSome}
use Rattle.amq_model.specs.declared.record.Placed.{Placed}
use Rattle.amq_model.specs.Answers.{history_of}
use Rattle.amq_model.specs.Legal.{rolled_back}
use Rattle.amq_tx.specs.Tables.{state_of}
use Rattle.amq_model.specs.Leaves.{Told}
use Rattle.amq_io.specs.Cause.{NoneFailed}
use Rattle.amq_loader.specs.Loads.{IsTidy}
use Rattle.amq_engine.specs.declared.chronicle.Receipted.{Receipted}
use Rattle.amq_engine.specs.Receipts.{GoesOn, StartsWith}
use Rattle.amq_engine.specs.Engine.{rolling, IsValid, end_of_tail}
use Rattle.amq_engine.specs.Opening.{EndsIn}
use Rattle.amq_engine.proofs.Rollbacks.{ArePlaced}
use Rattle.amq_engine.specs.Owed.{AreOwedToSteps}
use Rattle.amq_pool.specs.Pools.{numbered_file}
use Rattle.amq_engine.specs.DataFiles.{WorkedTo}
use Rattle.amq_engine.proofs.rolling.roll_back.Given as goal

abbrev pub invariant-loop-done : goal.invariant-loop-done
invariant-loop-done g l = record {
  valid : (base : List Placed) → l.fn.txs ≡ rolled_back base
      → IsValid (rolling base 0) (g.D.Disk.past l.fn.disk) (g.D.Disk.moment l.fn.disk) (g.C.Chronicle.lists l.fn.chronicle) (g.C.Chronicle.receipt_room l.fn.chronicle) l.fn.config (state_of l.fn.table) l.fn.pool l.fn.tail
      → IsValid (rolling base l.done) (g.D.Disk.past l.disk) (g.D.Disk.moment l.disk) (g.C.Chronicle.lists l.chronicle) (g.C.Chronicle.receipt_room l.chronicle) l.config (state_of l.table) l.pool l.tail;
  begun : (l.pool.prepared ≡ []) × (l.pool.highest ≡ l.tail.file.id);
  later_file : l.fn.tail.file.id ≤ l.tail.file.id;
  base : option_map (λ k. k.base) (g.C.Chronicle.lists l.chronicle) ≡ option_map (λ k. k.base) (g.C.Chronicle.lists l.fn.chronicle);
  ends : IfSome (g.C.Chronicle.lists l.chronicle) (λ k. EndsIn l.fn.tail.file.id (history_of k.steps) l.tail.file.id (end_of_tail l.tail));
  placed : IfSome (g.C.Chronicle.lists l.chronicle) (λ k. ArePlaced l.fn.config l.fn.tail.file.id l.fn.txs l.done k.steps);
  faults : NoneFailed (g.D.Disk.faults l.fn.disk) (g.D.Disk.faults l.disk);
  later : g.D.Disk.moment l.fn.disk ≤ g.D.Disk.moment l.disk;
  tidy : Told (g.D.Disk.past l.fn.disk) IsTidy → Told (g.D.Disk.past l.disk) IsTidy;
  first : (r : Receipted) → IfSome (g.C.Chronicle.lists l.fn.chronicle) (StartsWith r) → IfSome (g.C.Chronicle.lists l.chronicle) (StartsWith r);
  goes : GoesOn (g.D.Disk.past l.fn.disk) (g.D.Disk.past l.disk);
  owed : IfSome (g.C.Chronicle.lists l.fn.chronicle) (AreOwedToSteps l.fn.config) → IfSome (g.C.Chronicle.lists l.chronicle) (AreOwedToSteps l.fn.config);
  named : l.tail.file ≡ numbered_file l.pool.highest;
  works : WorkedTo true l.fn.config.file_size l.fn.pool.highest l.fn.pool.highest l.pool.highest (g.D.Disk.past l.fn.disk) (g.D.Disk.past l.disk);
}
