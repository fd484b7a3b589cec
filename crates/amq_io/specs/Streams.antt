-- What a call of a source or of a sink does to the bytes that they tell.
use Rattle.std.specs.Prelude.{◌≡◌, ◌<◌, ℕ, true, false, min, List, [], ◌++◌, length, take, drop, Option, None, Some, Result, Ok, Err}
use Rattle.amq_model.specs.Calls.{counted}
use Rattle.amq_io.specs.Failing.{is_to_fail}
use Rattle.amq_io.specs.declared.sink.SinkError.{SinkError}
use Rattle.amq_io.specs.declared.sink.SinkError.TheVariants as sink
use Rattle.amq_io.specs.declared.source.Failed.{Failed}

-- The front of the piece are the next n bytes that the source had left. Whether it tells them stays.
abbrev pub Gives : ℕ → List ℕ → Option (List ℕ) → Option (List ℕ) → Type 0
Gives n piece None new = new ≡ None
Gives n piece (Some old) None = ⊥
Gives n piece (Some old) (Some new) = old ≡ take n piece ++ new

-- no byte for a piece that isn't empty is the end
abbrev pub EndsOnlyAtTheEnd : ℕ → List ℕ → Option (List ℕ) → Type 0
EndsOnlyAtTheEnd n piece None = Unit {0}
EndsOnlyAtTheEnd n piece (Some left) = 0 < length piece → n ≡ 0 → left ≡ []

-- The first n bytes of the piece stand behind what the sink had taken. Whether it tells them stays.
abbrev pub Takes : ℕ → List ℕ → Option (List ℕ) → Option (List ℕ) → Type 0
Takes n piece None new = new ≡ None
Takes n piece (Some old) new = new ≡ Some (old ++ take n piece)

-- A stream in memory: the bytes that a source has left or that a sink has taken, the most bytes of one call, how many calls there were and the numbers of those that are to fail, and how often one failed.
pub record Stream : Type 0 where
  pub bytes : List ℕ
  pub piece : ℕ
  pub calls : ℕ
  pub fails : List ℕ
  pub faults : ℕ

-- the next call fails, and nothing is read or taken
abbrev pub HasFailed : Stream → Stream → Type 0
HasFailed old new = (is_to_fail old.fails (counted old.calls) ≡ true) × (new ≡ record { bytes = old.bytes; piece = old.piece; calls = counted old.calls; fails = old.fails; faults = counted old.faults })

-- The next read of a source into a piece of this length. It fails exactly where its number is to fail, and all is left then; else it gives as many bytes as were asked for, as one call gives and as are left.
abbrev pub ReadsAsTold : ℕ → Result ℕ Failed → Stream → Stream → Type 0
ReadsAsTold len (Ok n) old new = (is_to_fail old.fails (counted old.calls) ≡ false) × (n ≡ min (min len old.piece) (length old.bytes)) × (new ≡ record { bytes = drop n old.bytes; piece = old.piece; calls = counted old.calls; fails = old.fails; faults = old.faults })
ReadsAsTold len (Err failed) old new = HasFailed old new

-- The next write of these bytes to a sink. It fails exactly where its number is to fail; else it takes as many bytes as there are and as one call takes; or there was no memory, and it took nothing.
abbrev pub WritesAsTold : List ℕ → Result ℕ SinkError → Stream → Stream → Type 0
WritesAsTold bytes (Ok n) old new = (is_to_fail old.fails (counted old.calls) ≡ false) × (n ≡ min (length bytes) old.piece) × (new ≡ record { bytes = old.bytes ++ take n bytes; piece = old.piece; calls = counted old.calls; fails = old.fails; faults = old.faults })
WritesAsTold bytes (Err sink.Failed) old new = HasFailed old new
WritesAsTold bytes (Err sink.NoMemory) old new = (is_to_fail old.fails (counted old.calls) ≡ false) × (new ≡ record { bytes = old.bytes; piece = old.piece; calls = counted old.calls; fails = old.fails; faults = old.faults })
