-- What the plain program keeps.
use Rattle.std.specs.Prelude.{ℕ, Bool, true, false, List, [], ◌∷◌, ◌++◌, map, Option, Some, None}
use denote.Ref.{Bor}
use Rattle.amq_model.specs.declared.record.Placed.{Placed}

-- the numbers and bytes of these
abbrev pub numbered : List (ℕ × Bor (List ℕ)) → List (ℕ × List ℕ)
numbered xs = map (λ x. (x.0, x.1.now)) xs

-- the bytes, if there are some
abbrev pub bytes_or_none : Option (Bor (List ℕ)) → List ℕ
bytes_or_none None = []
bytes_or_none (Some b) = b.now

-- the open records, by whether the new one is an end and whether it is a change
abbrev pub opened : Bool → Bool → List Placed → Placed → List Placed
opened true change before q = []
opened false true before q = before ++ q ∷ []
opened false false before q = before
