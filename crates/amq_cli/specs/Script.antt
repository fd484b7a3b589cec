-- The script that a source holds.
use Rattle.std.specs.Prelude.{◌≡◌, ℕ, ◌<◌, ◌≤◌, List, [], length, Option, None, Some, IfSome}
use Rattle.amq_model.specs.declared.script.Line.{Line}
use Rattle.amq_io.specs.Cause.{Rose}
use Rattle.amq_cli.specs.declared.status.Status.{Status}
use Rattle.amq_cli.specs.declared.status.Status.TheVariants as s
use Rattle.amq_cli.specs.declared.status.Unbuilt.TheVariants as u
use Rattle.amq_cli.specs.Replay.{script_lines}

-- the most bytes that a source may hold
abbrev pub input_limit : ℕ
input_limit = 67108864

-- These are the lines of all that was left, which isn't too long, and nothing is left; nothing is said of a source that doesn't tell.
abbrev pub IsSaid : List Line → Option (List ℕ) → Option (List ℕ) → Type 0
IsSaid lines None new = new ≡ None
IsSaid lines (Some old) new = (length old ≤ input_limit) × (script_lines old ≡ Some lines) × (new ≡ Some [])

-- why a script wasn't run: its grammar, or want of memory
abbrev pub HasScriptCause : Status → Option (List Line) → Type 0
HasScriptCause (s.NotBuilt u.Script) lines = lines ≡ None
HasScriptCause s.NoMemory lines = Unit {0}
HasScriptCause _ lines = ⊥

-- why the script wasn't read, by what was left and how often a read had failed
abbrev pub HasReadCause : Status → Option (List ℕ) → ℕ → ℕ → Type 0
HasReadCause s.SourceFault left old new = Rose old new
HasReadCause s.NoMemory left old new = Unit {0}
HasReadCause (s.InputTooLong limit) left old new = (limit ≡ input_limit) × IfSome left (λ bytes. input_limit < length bytes)
HasReadCause (s.NotBuilt u.Script) left old new = IfSome left (λ bytes. (length bytes ≤ input_limit) × (script_lines bytes ≡ None))
HasReadCause _ left old new = ⊥
