-- What a list has behind `extend`.
use Rattle.std.proofs.Common.{◌≡◌, ℕ, List, map, Ok}
use Rattle.std.specs.Prelude.{Option}
use Rattle.std.specs.Iterator.{Drains}
use Rattle.std.proofs.lemmas.Iterator.{YieldsList}
use Rattle.std.proofs.lemmas.Iterator.Adapters.{fact_from_extend}
use Rattle.std.proofs.lemmas.Iterator.Consumers.{YieldsList-at}

-- a chain that gave all its items
pub extended_by : {T A C Q : Type 0} {steps : T → Option A → T → Type 0} {all : List C} {s : T} {P : List A → Type 0} (v : A → C) → ((it : T) × (xs : List A) × (it ≡ s) × P xs × Drains steps it xs) → YieldsList steps v s all → ((xs : List A) → map v xs ≡ all → P xs → Q) → Q
extended_by v ran road fact = fact_from_extend {E = ℕ} v (Ok tt) ran (λ it is. YieldsList-at is road) fact
