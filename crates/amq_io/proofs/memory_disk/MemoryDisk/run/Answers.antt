use Rattle.std.proofs.Common.{◌≤◌, rules}
use Rattle.amq_io.proofs.Recorded.{kept_same, nothing, when_err}
use Rattle.amq_io.proofs.memory_disk.MemoryDisk.run.Goals as goal

pub invariant_of-self : goal.invariant_of-self
invariant_of-self c =
    let le : c.self.inside.moment ≤ c.saturating_add-self-inside.result = search rules in
    kept_same c.self.inside.start.items c.self.inside.files.items _ c.self.inside.calls.items _ c.self.inside.moment _ c.self.invariant (nothing _) c.try_reserve.ensures.items le

pub invariant_of-self-then-is_err-2 : goal.invariant_of-self-then-is_err-2
invariant_of-self-then-is_err-2 c =
    let le : c.self.inside.moment ≤ c.saturating_add-self-inside.result = search rules in
    kept_same c.self.inside.start.items c.self.inside.files.items _ c.self.inside.calls.items _ c.self.inside.moment _ c.self.invariant (when_err c.perform.result _ c.if-is_err-2.ensures.value c.perform.ensures.err) c.try_reserve.ensures.items le
