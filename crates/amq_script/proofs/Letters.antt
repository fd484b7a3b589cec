-- The letters of labels.
use Rattle.std.proofs.Common.{◌≡◌, ℕ, ◌<◌, Bool, true, ◌&&◌, nat_le, List, [], ◌∷◌, length, arith}
use Rattle.std.proofs.lemmas.Bool.{and_parts}
use Rattle.std.proofs.lemmas.Bool.Decides.{nat_tests}
use Rattle.std.specs.List.{list_all}
use Rattle.std.specs.Str.{IsAscii, IsUtf8}
use Rattle.std.proofs.lemmas.Str.{IsUtf8-from_ascii}
use Rattle.std.proofs.lemmas.Str.Ascii.{IsAscii-nil, IsAscii-cons}
use Rattle.amq_model.specs.Name.{HasNameForm}
use Rattle.amq_model.specs.Script.{is_label}

abbrev is_letter : ℕ → Bool
is_letter b = nat_le 97 b && nat_le b 122

below : (b : ℕ) → is_letter b ≡ true → b < 128
below b h = grind (arith, nat_tests)

-- letters are ASCII
pub IsAscii_letters : (word : List ℕ) → list_all (λ b. nat_le 97 b && nat_le b 122) word ≡ true → IsAscii word
IsAscii_letters [] h = IsAscii-nil
IsAscii_letters (b ∷ bs) h =
    let parts = and_parts (is_letter b) (list_all is_letter bs) h in
    IsAscii-cons b bs (below b parts.0) (IsAscii_letters bs parts.1)

-- a label has a name's form
pub HasNameForm_label : (word : List ℕ) → is_label word ≡ true → HasNameForm word
HasNameForm_label word h =
    let outer = and_parts (nat_le 1 (length word) && nat_le (length word) 16) (list_all is_letter word) h in
    let sizes = and_parts (nat_le 1 (length word)) (nat_le (length word) 16) outer.0 in
    record { some = grind (arith, nat_tests); short = grind (arith, nat_tests); ascii = IsAscii_letters word outer.1 }

-- a label is text
pub IsUtf8_label : (word : List ℕ) → is_label word ≡ true → IsUtf8 word
IsUtf8_label word h = let form = HasNameForm_label word h in IsUtf8-from_ascii word form.ascii
