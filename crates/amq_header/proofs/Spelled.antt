-- A number that is written is the number that is read.
use Rattle.std.proofs.Common.{◌≡◌, ℕ, ◌^◌, ◌<◌, true, ltb, leb, length, Some, arith, rules, lit<, ap}
use Rattle.std.specs.List.{list_all}
use Rattle.std.specs.Fmt.{decimal}
use Rattle.std.proofs.lemmas.Fmt.{digits_decimal, digits_value-decimal, length-decimal-le, decimal_nonempty}
use Rattle.std.proofs.lemmas.Str.Parse.{IsNumeralModel, numerals_by_fold, IsDigitsTest, FoldsDigits}
use Rattle.std.proofs.lemmas.Bool.{lt-ltb, le-leb}
use Rattle.std.specs.List.{fold}
use Rattle.std.specs.Prelude.{◌+◌, ◌*◌, ◌-◌}
use Rattle.amq_model.specs.Names.{is_digit, value_of, number_spelled}

tests_digits : IsDigitsTest (λ ds. list_all is_digit ds ≡ true)
tests_digits = search rules

folds_digits : FoldsDigits (λ k ds. fold (λ n d. n * 10 + (d - 48)) k ds)
folds_digits = search rules

-- the digits of the names are those of a numeral
pub own : IsNumeralModel (λ ds. list_all is_digit ds ≡ true) value_of
own = numerals_by_fold _ tests_digits (λ k ds. fold (λ n d. n * 10 + (d - 48)) k ds) folds_digits

pub decimal_is_spelled : (n : ℕ) → n < 2 ^ 63 → number_spelled (decimal n) ≡ Some n
decimal_is_spelled n small =
    let wide : n < 2 ^ 64 = omega arith in
    let some : leb 1 (length (decimal n)) ≡ true = le-leb _ _ (decimal_nonempty n wide) in
    let few : leb (length (decimal n)) 19 ≡ true = le-leb _ _ (length-decimal-le 19 n (lit< tt) (omega arith) wide) in
    let value = digits_value-decimal own n wide in
    let below : ltb (value_of (decimal n)) (2 ^ 63) ≡ true = rw value (lt-ltb n (2 ^ 63) small) in
    rw (some, few, digits_decimal own n wide, below) (ap Some value)
