-- Decimal digits.
use Rattle.std.proofs.Common.{◌≡◌, ℕ, ◌+◌, ◌*◌, ◌^◌, ◌<◌, ◌≤◌, true, List, length, get_or, arith, lit<}
use Rattle.std.proofs.Math.Nat.{pow-le-pow_right}
use Rattle.std.proofs.lemmas.List.Sums.{AllPass-from_list_all}
use Rattle.std.proofs.lemmas.Bool.Decides.{nat_tests}
use Rattle.std.specs.List.{list_all}
use Rattle.amq_model.specs.Names.{is_digit}

-- a digit is 48 to 57
pub digit_range : (b : ℕ) → is_digit b ≡ true → (48 ≤ b) × (b ≤ 57)
digit_range b h = grind (arith, nat_tests)

-- at each place of digits stands one
pub digit_at : (digits : List ℕ) (i : ℕ) → list_all is_digit digits ≡ true → i < length digits → (48 ≤ get_or digits i 0) × (get_or digits i 0 ≤ 57)
digit_at digits i h within = digit_range _ (AllPass-from_list_all is_digit digits h i 0 within)

-- at most 19 digits stay below 2 ^ 64
pub fits : (value i : ℕ) → value < 10 ^ i → i < 19 → value * 10 + 9 < 2 ^ 64
fits value i below few = let le : i ≤ 18 = omega arith in let top : 10 ^ i ≤ 10 ^ 18 = pow-le-pow_right (lit< tt) le in omega arith
