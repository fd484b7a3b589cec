-- When a call may fail.
use Rattle.std.specs.Prelude.{◌≡◌, ℕ, ◌+◌, ◌-◌, ◌^◌, ◌≤◌, min, Option, Some, Result, Ok, Err}
use Rattle.amq_model.specs.declared.refusal.DiskCall.{DiskCall}
use Rattle.amq_io.specs.declared.disk.DiskError.{DiskError}
use Rattle.amq_io.specs.declared.disk.DiskError.TheVariants.{Failed, NoMemory}

-- a count rose, or stands at the greatest u64
abbrev pub Rose : ℕ → ℕ → Type 0
Rose before now = min (before + 1) (2 ^ 64 - 1) ≤ now

-- how often a call failed, and which one did last
abbrev pub Faults : Type 0
Faults = ℕ × Option DiskCall

-- no call failed in between: the count is as it was, and so is which one failed last
abbrev pub NoneFailed : Faults → Faults → Type 0
NoneFailed old new = (new.0 ≡ old.0) × (new.1 ≡ old.1)

-- A call fails only where the count rose in it, and it is then the one that failed last. No other answer changes the count, or which one that is.
abbrev pub HasCause : {T : Type 0} → DiskCall → Result T DiskError → Faults → Faults → Type 0
HasCause call (Ok x) old new = NoneFailed old new
HasCause call (Err NoMemory) old new = NoneFailed old new
HasCause call (Err Failed) old new = Rose old.0 new.0 × (old.0 ≤ new.0) × (new.1 ≡ Some call)
