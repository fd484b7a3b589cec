-- What is live, from the back of an order of effect.
use Rattle.std.specs.Prelude.{ℕ, Bool, if◌then◌else◌, List, [], ◌∷◌, map, Option, Some, None}
use denote.Ref.{Bor}
use Rattle.amq_model.specs.declared.record.Placed.{Placed}
use Rattle.amq_model.specs.declared.state.Entry.{Entry}
use Rattle.amq_model.specs.Effect.{entry_of}

-- what references refer to
abbrev pub values : List (Bor Placed) → List Placed
values ps = map (λ p. p.now) ps

-- the entry, if there is one, and its id isn't among those that are deleted
abbrev pub standing_of : (ℕ → Bool) → Option Entry → List Entry
standing_of deleted None = []
standing_of deleted (Some e) = if deleted e.id then [] else e ∷ []

-- the add or update that the record is, unless its id is among those that are deleted behind it
abbrev pub standing : (ℕ → Bool) → Placed → List Entry
standing deleted p = standing_of deleted (entry_of p)
