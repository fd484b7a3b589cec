use Rattle.std.proofs.Common.{◌≤◌, rules, refl}
use Rattle.amq_io.proofs.Recorded.{kept_same, nothing}
use Rattle.amq_io.proofs.memory_disk.MemoryDisk.refuse.Goals as goal

pub invariant_of-self : goal.invariant_of-self
invariant_of-self g c =
    let le : c.self.inside.moment ≤ c.saturating_add-self-inside.result = search rules in
    kept_same c.self.inside.start.items c.self.inside.files.items _ c.self.inside.calls.items _ c.self.inside.moment _ c.self.invariant (nothing _) refl le
