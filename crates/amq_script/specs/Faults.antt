-- What the parts of the reader answer.
use Rattle.std.specs.Prelude.{◌≡◌, ℕ, List, Result, Ok, Err}
use Rattle.amq_model.specs.declared.script.Line.{Line}
use Rattle.amq_model.specs.declared.script.ScriptCause.{ScriptCause}
use Rattle.amq_script.specs.declared.faults.LineFault.{LineFault}
use Rattle.amq_script.specs.declared.faults.LineFault.TheVariants as f
use Rattle.amq_script.specs.declared.faults.ScriptFault.{ScriptFault}
use Rattle.amq_script.specs.declared.faults.ScriptFault.TheVariants as s

-- it is what the grammar says, but for want of memory
abbrev pub Reads : {A : Type 0} → Result A LineFault → Result A ScriptCause → Type 0
Reads (Ok x) said = said ≡ Ok x
Reads (Err (f.Wrong cause)) said = said ≡ Err cause
Reads (Err f.NoMemory) said = Unit {0}

-- the script's fault, where this is the fault of its line of that number
abbrev pub fault_at : LineFault → ℕ → ScriptFault
fault_at (f.Wrong cause) line = s.At line cause
fault_at f.NoMemory line = s.NoMemory

-- a refused script's line and cause are what the grammar says
abbrev pub IsRefused : ScriptFault → Result (List (List Line)) (ℕ × ScriptCause) → Type 0
IsRefused (s.At line cause) script = script ≡ Err (line, cause)
IsRefused s.NoMemory script = Unit {0}
