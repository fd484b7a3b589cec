-- Writing to a sink.
use Rattle.std.specs.Prelude.{◌≡◌, ℕ, ◌<◌, ◌≤◌, List, ◌++◌, length, take, Option, option_map}
use Rattle.amq_io.specs.Cause.{Rose}
use Rattle.amq_io.specs.declared.sink.SinkError.{SinkError}
use Rattle.amq_io.specs.declared.sink.SinkError.TheVariants as e

-- the sink has taken these bytes up to some place, where it tells
pub record IsPartWritten (bytes : List ℕ) (old new : Option (List ℕ)) : Type 0 where
  pub count : ℕ
  pub within : count ≤ length bytes
  pub is : new ≡ option_map (λ text. text ++ take count bytes) old

-- the sink has taken these bytes up to some place before their end, where it tells
pub record IsBrokenOff (bytes : List ℕ) (old new : Option (List ℕ)) : Type 0 where
  pub count : ℕ
  pub within : count < length bytes
  pub is : new ≡ option_map (λ text. text ++ take count bytes) old

-- why a sink took nothing more: a write failed, or there was no memory and none has failed
abbrev pub HasOutputCause : SinkError → ℕ → ℕ → Type 0
HasOutputCause e.Failed old new = Rose old new
HasOutputCause e.NoMemory old new = new ≡ old
