-- Which lines are in the grammar, one behind the other.
use Rattle.std.specs.Prelude.{◌≡◌, ℕ, ◌+◌, List, [], ◌∷◌, ◌++◌, length, Option, Ok, Err}
use Rattle.std.specs.Option.{option_to_list}
use Rattle.amq_model.specs.declared.script.Mode.{Mode}
use Rattle.amq_model.specs.declared.script.Said.{Said}
use Rattle.amq_model.specs.declared.script.ScriptCause.{ScriptCause}
use Rattle.amq_model.specs.Script.{lines_of, line_says}

-- each of these lines is in the grammar behind the lines before it; with what was said before them, all is said
abbrev pub AreSaid : Mode → List Said → List (List ℕ) → List Said → Type 0
AreSaid mode before [] all = before ≡ all
AreSaid mode before (line ∷ lines) all = (said : Option Said) × (line_says mode before line ≡ Ok said) × AreSaid mode (before ++ option_to_list said) lines all

-- the line of this number is not in the grammar, for this cause, and each line before it is
pub record IsFirstWrong (mode : Mode) (bytes : List ℕ) (number : ℕ) (cause : ScriptCause) : Type 0 where
  pub front : List (List ℕ)
  pub line : List ℕ
  pub back : List (List ℕ)
  pub saids : List Said
  pub lines : lines_of bytes ≡ front ++ line ∷ back
  pub numbered : number ≡ length front + 1
  pub before : AreSaid mode [] front saids
  pub wrong : line_says mode saids line ≡ Err cause
