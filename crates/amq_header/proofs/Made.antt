-- The names that are made: their form, and what is read in them.
use Rattle.std.proofs.Common.{◌≡◌, ℕ, zero, suc, ◌+◌, ◌^◌, ◌<◌, ◌≤◌, T, ltb, List, [], ◌∷◌, ◌++◌, length, codes, Option, Some, refl, sym, ap, ◌∙◌, ltb→lt, lit<, append_assoc, arith, length-append}
use Rattle.std.specs.List.{list_all}
use Rattle.std.specs.Option.{option_and_then}
use Rattle.std.specs.Str.{IsAscii}
use Rattle.std.specs.Fmt.{decimal}
use Rattle.std.proofs.lemmas.Fmt.{IsAscii-decimal, length-decimal-le}
use Rattle.std.proofs.lemmas.Str.{IsAscii-append}
use Rattle.amq_model.specs.Name.{HasNameForm}
use Rattle.amq_model.specs.Names.{same, data_number, compacted_number, number_spelled, control_name}
use Rattle.amq_model.proofs.Literals.{one, other}
use Rattle.amq_header.specs.Classes.{first_number, number_in, temporary_number, data_name, compacted_name, temporary_name}
use Rattle.amq_header.proofs.Endings.{before_appended}
use Rattle.amq_header.proofs.Spelled.{decimal_is_spelled}

-- ---- what is read in them

pub data_is_read : (n : ℕ) → n < 2 ^ 63 → data_number (data_name n) ≡ Some n
data_is_read n small = ap (option_and_then number_spelled) (before_appended (codes ".amq") (decimal n)) ∙ decimal_is_spelled n small

pub compacted_is_read : (n : ℕ) → n < 2 ^ 63 → compacted_number (compacted_name n) ≡ Some n
compacted_is_read n small = ap (option_and_then data_number) (before_appended (codes ".cmp") (data_name n)) ∙ data_is_read n small

pub temporary_is_read : (n : ℕ) → n < 2 ^ 63 → temporary_number (temporary_name n) ≡ Some (Some n)
temporary_is_read n small =
    ap (option_and_then number_in) (before_appended (codes ".tmp") (data_name n))
    ∙ ap (λ (o : Option ℕ). first_number o (compacted_number (data_name n)) (same (data_name n) control_name)) (data_is_read n small)

only : (m n : ℕ) → Some m ≡ Some n → m ≡ n
only m n e = cc

only_inside : (m n : ℕ) → Some (Some m) ≡ Some (Some n) → m ≡ n
only_inside m n e = cc

pub data_differ : (m n : ℕ) → m < 2 ^ 63 → n < 2 ^ 63 → data_name m ≡ data_name n → m ≡ n
data_differ m n low high e = only m n (sym (data_is_read m low) ∙ ap data_number e ∙ data_is_read n high)

pub compacted_differ : (m n : ℕ) → m < 2 ^ 63 → n < 2 ^ 63 → compacted_name m ≡ compacted_name n → m ≡ n
compacted_differ m n low high e = only m n (sym (compacted_is_read m low) ∙ ap compacted_number e ∙ compacted_is_read n high)

pub temporary_differ : (m n : ℕ) → m < 2 ^ 63 → n < 2 ^ 63 → temporary_name m ≡ temporary_name n → m ≡ n
temporary_differ m n low high e = only_inside m n (sym (temporary_is_read m low) ∙ ap temporary_number e ∙ temporary_is_read n high)

-- ---- their text

pub compacted_text : (n : ℕ) → codes "activemq-data-" ++ (decimal n ++ codes ".amq.cmp") ≡ compacted_name n
compacted_text n = ap (λ (l : List ℕ). codes "activemq-data-" ++ l) (sym (append_assoc (decimal n) (codes ".amq") (codes ".cmp")))

pub temporary_text : (n : ℕ) → codes "activemq-data-" ++ (decimal n ++ codes ".amq.tmp") ≡ temporary_name n
temporary_text n = ap (λ (l : List ℕ). codes "activemq-data-" ++ l) (sym (append_assoc (decimal n) (codes ".amq") (codes ".tmp")))

-- ---- their form

are_ascii : (bytes : List ℕ) → T (list_all (λ b. ltb b 128) bytes) → IsAscii bytes
are_ascii [] h i = omega arith
are_ascii (b ∷ bytes) h zero = ltb→lt b 128 (one (ltb b 128) _ h)
are_ascii (b ∷ bytes) h (suc i) = are_ascii bytes (other (ltb b 128) _ h) i

module _ (n : ℕ) (small : n < 2 ^ 63) where
  digits_short : length (decimal n) ≤ 19
  digits_short = length-decimal-le 19 n (lit< tt) (omega arith) (omega arith)

  parts : length (data_name n) ≡ 14 + (length (decimal n) + 4)
  parts = length-append (codes "activemq-data-") (decimal n ++ codes ".amq") ∙ ap (λ k. 14 + k) (length-append (decimal n) (codes ".amq"))

  pub data_form : HasNameForm (data_name n)
  data_form = record {
    some = omega (arith, parts);
    short = omega (arith, parts, digits_short);
    ascii = IsAscii-append (codes "activemq-data-") (decimal n ++ codes ".amq") (are_ascii (codes "activemq-data-") tt) (IsAscii-append (decimal n) (codes ".amq") (IsAscii-decimal n (omega arith)) (are_ascii (codes ".amq") tt));
  }

  longer_form : (back : List ℕ) → length back ≡ 4 → IsAscii back → HasNameForm (data_name n ++ back)
  longer_form back four ascii = record {
    some = omega (arith, parts, length-append (data_name n) back);
    short = omega (arith, parts, digits_short, four, length-append (data_name n) back);
    ascii = IsAscii-append (data_name n) back data_form.ascii ascii;
  }

  pub compacted_form : HasNameForm (compacted_name n)
  compacted_form = longer_form (codes ".cmp") refl (are_ascii (codes ".cmp") tt)

  pub temporary_form : HasNameForm (temporary_name n)
  temporary_form = longer_form (codes ".tmp") refl (are_ascii (codes ".tmp") tt)
