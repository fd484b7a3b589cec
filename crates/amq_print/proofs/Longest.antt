-- How long a line of a few words is.
use Rattle.std.proofs.Common.{ℕ, ◌+◌, ◌≤◌, List, [], ◌∷◌, ◌++◌, length, arith}
use Rattle.std.proofs.lemmas.List.{length-append}
use Rattle.amq_model.specs.Texts.{line}

pub two_words : (a b : List ℕ) → length a + length b ≤ 57 → length (line (a ∷ b ∷ [])) ≤ 59
two_words a b few = omega (arith, few, length-append (a ++ 32 ∷ b) (10 ∷ []), length-append a (32 ∷ b))

pub three_words : (a b c : List ℕ) → length a + length b + length c ≤ 56 → length (line (a ∷ b ∷ c ∷ [])) ≤ 59
three_words a b c few = omega (arith, few, length-append (a ++ 32 ∷ (b ++ 32 ∷ c)) (10 ∷ []), length-append a (32 ∷ (b ++ 32 ∷ c)), length-append b (32 ∷ c))

pub four_words : (a b c d : List ℕ) → length a + length b + length c + length d ≤ 55 → length (line (a ∷ b ∷ c ∷ d ∷ [])) ≤ 59
four_words a b c d few = omega (arith, few, length-append (a ++ 32 ∷ (b ++ 32 ∷ (c ++ 32 ∷ d))) (10 ∷ []), length-append a (32 ∷ (b ++ 32 ∷ (c ++ 32 ∷ d))), length-append b (32 ∷ (c ++ 32 ∷ d)), length-append c (32 ∷ d))
