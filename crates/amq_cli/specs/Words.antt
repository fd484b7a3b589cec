-- What the words of a command ask for.
use Rattle.std.specs.Prelude.{ℕ, Bool, true, false, not, ◌&&◌, ◌==◌, if◌then◌else◌, List, [], ◌∷◌, map, Option, None, Some, codes}
use Rattle.std.specs.Borrow.{Bor}
use Rattle.amq_model.specs.declared.command.Command.TheVariants.{Commit, Rollback}
use Rattle.amq_model.specs.Names.{same, number_spelled}
use Rattle.amq_cli.specs.declared.words.Task.{Task}
use Rattle.amq_cli.specs.declared.words.Task.TheVariants.{Replay, Print, Settle}

-- a word that names a folder: it isn't empty and doesn't begin with a dash
abbrev pub folder_named : List ℕ → Bool
folder_named [] = false
folder_named (b ∷ bs) = not (b == 45)

-- the command of one word
abbrev pub task_named : List ℕ → Option Task
task_named word = if same word (codes "replay") then Some Replay else (if same word (codes "print") then Some Print else None)

-- the end of the transaction with this number, by the word for it
abbrev pub settling : List ℕ → ℕ → Option Task
settling end tx = if same end (codes "commit") then Some (Settle (Commit tx)) else (if same end (codes "rollback") then Some (Settle (Rollback tx)) else None)

-- the command of `settle` and two words, of which the second spells a number
abbrev pub settling_spelled : List ℕ → List ℕ → Option Task
settling_spelled end digits = elim (number_spelled digits) [ None ↦ None | Some tx ↦ settling end tx ]

-- what the words ask for: DIR and a command; none where they are outside the grammar, or of a form that isn't built
abbrev pub task_of : List (List ℕ) → Option Task
task_of (folder ∷ command ∷ []) = if folder_named folder then task_named command else None
task_of (folder ∷ command ∷ end ∷ digits ∷ []) = if folder_named folder && same command (codes "settle") then settling_spelled end digits else None
task_of _ = None

-- the same of the words that a call is given
abbrev pub asked : List (Bor (List ℕ)) → Option Task
asked words = task_of (map (λ word. word.now) words)

-- they ask for a report alone, and nothing is opened
abbrev pub prints : Option Task → Bool
prints (Some Print) = true
prints _ = false

-- they ask for lines that the source has
abbrev pub reads_script : Option Task → Bool
reads_script (Some Replay) = true
reads_script _ = false
