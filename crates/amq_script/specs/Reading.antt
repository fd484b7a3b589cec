-- What the reader of a script has read.
use Rattle.std.specs.Prelude.{◌≡◌, ℕ, List, [], ◌∷◌, ◌++◌, fold, Option, Result, Ok, Err}
use Rattle.std.specs.List.{list_any}
use Rattle.std.specs.Option.{option_to_list}
use Rattle.amq_model.specs.declared.script.Mode.{Mode}
use Rattle.amq_model.specs.declared.script.Said.{Said}
use Rattle.amq_model.specs.Names.{same}
use Rattle.amq_model.specs.Script.{sections_of, labels_behind, line_says}
use Rattle.amq_script.specs.declared.faults.LineFault.{LineFault}
use Rattle.amq_script.specs.declared.faults.LineFault.TheVariants as f
use Rattle.amq_script.specs.declared.parsing.Reader.{Reader}

-- the reader has the lines of what was said, by section, and the labels of the last one
pub record HasRead (saids : List Said) (reader : Reader) : Type 0 where
  pub lines : sections_of saids ≡ reader.sections.items ++ reader.current.items ∷ []
  pub labels : (x : List ℕ) → list_any (same x) reader.labels ≡ list_any (same x) (fold labels_behind [] saids)

-- the line is in the grammar, and was read behind what was said before; or the fault is that of the line
abbrev pub HasReadLine : Mode → List Said → List ℕ → Result (Unit {0}) LineFault → Reader → Type 0
HasReadLine mode saids line (Ok _) reader = (said : Option Said) × (line_says mode saids line ≡ Ok said) × HasRead (saids ++ option_to_list said) reader
HasReadLine mode saids line (Err (f.Wrong cause)) reader = line_says mode saids line ≡ Err cause
HasReadLine mode saids line (Err f.NoMemory) reader = Unit {0}
