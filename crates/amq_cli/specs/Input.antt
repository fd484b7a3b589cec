-- Reading a source to its end.
use Rattle.std.specs.Prelude.{◌≡◌, ℕ, ◌<◌, List, [], length, Option, None, Some, IfSome}
use Rattle.amq_io.specs.Cause.{Rose}
use Rattle.amq_cli.specs.declared.input.InputFault.{InputFault}
use Rattle.amq_cli.specs.declared.input.InputFault.TheVariants as f

-- these are all the bytes that were left, and none is left; nothing is said of a source that doesn't tell
abbrev pub IsReadWhole : List ℕ → Option (List ℕ) → Option (List ℕ) → Type 0
IsReadWhole bytes None new = new ≡ None
IsReadWhole bytes (Some old) new = (bytes ≡ old) × (new ≡ Some [])

-- the count of faults rises only where a read failed
abbrev pub HasInputCount : InputFault → ℕ → ℕ → Type 0
HasInputCount f.Failed old new = Unit {0}
HasInputCount _ old new = new ≡ old

-- why an input wasn't read: the count of faults rose, or more bytes than the limit were left
abbrev pub HasInputCause : ℕ → InputFault → Option (List ℕ) → ℕ → ℕ → Type 0
HasInputCause limit f.Failed left old new = Rose old new
HasInputCause limit f.NoMemory left old new = Unit {0}
HasInputCause limit f.TooLong left old new = IfSome left (λ bytes. limit < length bytes)
