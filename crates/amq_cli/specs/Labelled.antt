-- What the labels of a script stand for.
use Rattle.std.specs.Prelude.{ℕ, List, Option, None, Some, is_some, Bool}
use Rattle.std.specs.Ordering.{nat_cmp}
use Rattle.std.specs.Cmp.Lexicographic.{slice_cmp}
use Rattle.std.specs.BTreeMap.{get}
use Rattle.amq_cli.specs.declared.labels.Labels.{Labels}

-- the number, 0 where there is none
abbrev pub number_or_none : Option ℕ → ℕ
number_or_none None = 0
number_or_none (Some number) = number

-- the number that a label stands for, 0 where it stands for none
abbrev pub number_in : Labels → List ℕ → ℕ
number_in labels label = number_or_none (get (slice_cmp nat_cmp) labels.numbers label)

-- the label is known
abbrev pub is_known : Labels → List ℕ → Bool
is_known labels label = is_some (get (slice_cmp nat_cmp) labels.numbers label)
