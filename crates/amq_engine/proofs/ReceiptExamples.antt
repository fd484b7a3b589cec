-- Receipts that follow each other, and receipts that don't.
use Rattle.std.proofs.Common.{ℕ, ◌+◌, ◌-◌, ◌^◌, ◌≤◌, [], ◌∷◌, refl, arith}
use Rattle.amq_engine.specs.declared.chronicle.Receipted.{Receipted}
use Rattle.amq_engine.specs.Receipts.{Follows, AreInOrder, IsLastCount}

abbrev receipt : ℕ → ℕ → Receipted
receipt durable moment = record { durable = durable; moment = moment; steps = 0 }

-- ---- one behind another

-- a write and a sync later
pub two_calls_later : Follows (receipt 0 5) (receipt 3 7)
two_calls_later = record { counts = omega arith; moments = omega arith; apart = λ more low. omega arith }

-- the same count at the same moment: nothing was written
pub the_same_again : Follows (receipt 3 7) (receipt 3 7)
the_same_again = record { counts = omega arith; moments = omega arith; apart = λ more low. absurd (omega (arith, more)) }

-- at the greatest moment nothing is claimed of how far apart they are
pub at_the_greatest_moment : Follows (receipt 0 (2 ^ 64 - 1)) (receipt 3 (2 ^ 64 - 1))
at_the_greatest_moment = record { counts = omega arith; moments = omega arith; apart = λ more low. absurd (omega (arith, low)) }

-- one call isn't a write and a sync
pub one_call_later : Follows (receipt 0 5) (receipt 3 6) → ⊥
one_call_later h = let apart : 5 + 2 ≤ 6 = h.apart (omega arith) (omega arith) in omega arith

pub a_lesser_count : Follows (receipt 3 5) (receipt 2 7) → ⊥
a_lesser_count h = let counts = h.counts in omega arith

pub an_earlier_moment : Follows (receipt 3 7) (receipt 3 6) → ⊥
an_earlier_moment h = let moments = h.moments in omega arith

-- ---- in order

pub none : AreInOrder 0 []
none = tt

pub three : AreInOrder 9 (receipt 0 1 ∷ receipt 2 5 ∷ receipt 3 9 ∷ [])
three = (refl, (two, (one, omega arith))) where
  two : Follows (receipt 0 1) (receipt 2 5)
  two = record { counts = omega arith; moments = omega arith; apart = λ more low. omega arith }

  one : Follows (receipt 2 5) (receipt 3 9)
  one = record { counts = omega arith; moments = omega arith; apart = λ more low. omega arith }

-- the first one counts nothing
pub one_of_a_record_first : AreInOrder 9 (receipt 1 1 ∷ []) → ⊥
one_of_a_record_first h = let count = h.0 in omega arith

-- and none is later than now
pub one_later_than_now : AreInOrder 8 (receipt 0 1 ∷ receipt 3 9 ∷ []) → ⊥
one_later_than_now h = let moment = h.1.1 in omega arith

pub out_of_order : AreInOrder 9 (receipt 0 1 ∷ receipt 3 9 ∷ receipt 2 9 ∷ []) → ⊥
out_of_order h = a_lesser h.1.1.0 where
  a_lesser : Follows (receipt 3 9) (receipt 2 9) → ⊥
  a_lesser follows = let counts = follows.counts in omega arith

-- ---- the last count

pub the_last_counts_three : IsLastCount 3 (receipt 0 1 ∷ receipt 2 5 ∷ receipt 3 9 ∷ [])
the_last_counts_three = refl

pub not_one_before : IsLastCount 2 (receipt 0 1 ∷ receipt 2 5 ∷ receipt 3 9 ∷ []) → ⊥
not_one_before e = omega arith

pub no_last_one : IsLastCount 0 [] → ⊥
no_last_one h = h
