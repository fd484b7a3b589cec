-- Pairs of hexadecimal digits.
use Rattle.std.proofs.Common.{◌≡◌, ℕ, ◌+◌, ◌*◌, ◌<◌, ◌%◌, Bool, true, false, ◌&&◌, ◌==◌, nat_lt, nat_le, List, [], ◌∷◌, length, get_or, Some, Ok, Err, arith, refl, sym, ap, ◌∙◌, codes}
use Rattle.std.proofs.lemmas.Bool.{and_parts}
use Rattle.std.proofs.lemmas.Bool.Decides.{nat_tests}
use Rattle.std.proofs.lemmas.List.Sums.{list_all-from_AllPass}
use Rattle.std.specs.List.{list_all}
use Rattle.std.specs.Char.{digit_value}
use Rattle.hex.specs.declared.error.FromHexError.{FromHexError}
use Rattle.hex.specs.Hex.{hex_digit_value, is_hex_digit, pair_value, decode_pairs, decode_of}
use Rattle.hex.proofs.HexLemmas.{decode_of-ok, decode_of-even}
use Rattle.amq_model.specs.Names.{same}
use Rattle.amq_model.specs.Script.{pairs, are_pairs, body_of}
use Rattle.amq_model.specs.declared.script.ScriptCause.TheVariants.{Hex}

-- a digit
abbrev pub is_hex : ℕ → Bool
is_hex b = nat_lt (digit_value b) 16

-- a digit's value
pub digit_value_is : (c : ℕ) → is_hex c ≡ true → hex_digit_value c ≡ Some (digit_value c)
digit_value_is c h = grind (arith, nat_tests)

-- what has a value is a digit
pub is_hex_from : (c : ℕ) → is_hex_digit c ≡ true → is_hex c ≡ true
is_hex_from c h = grind (arith, nat_tests)

-- pairs of digits are decoded as they spell
pub decode_pairs_spelled : (i : ℕ) (s : List ℕ) → length s % 2 ≡ 0 → list_all is_hex s ≡ true → decode_pairs i s ≡ Ok (pairs s)
unfolding decode_pairs
decode_pairs_spelled i [] even h = refl
decode_pairs_spelled i (a ∷ []) even h = absurd (omega (arith, even))
decode_pairs_spelled i (a ∷ b ∷ rest) even h =
    let first = and_parts (is_hex a) (is_hex b && list_all is_hex rest) h in
    let second = and_parts (is_hex b) (list_all is_hex rest) first.1 in
    let ha = digit_value_is a first.0 in
    let hb = digit_value_is b second.0 in
    let pair : pair_value a b i ≡ Ok (digit_value a * 16 + digit_value b) = rw (ha, hb) refl in
    let less : length rest % 2 ≡ 0 = omega (arith, even) in
    let more = decode_pairs_spelled (i + 2) rest less second.1 in
    rw pair (rw more refl)

-- pairs of digits are decoded
pub decode_of_spelled : (s : List ℕ) → are_pairs s ≡ true → decode_of s ≡ Ok (pairs s)
decode_of_spelled s h =
    let sized = and_parts (nat_le 2 (length s) && (length s % 2 == 0)) (list_all is_hex s) h in
    let even : length s % 2 ≡ 0 = grind (arith, nat_tests) in
    decode_of-even s even ∙ decode_pairs_spelled 0 s even sized.1

-- what is decoded are pairs of digits
pub are_pairs_decoded : (s bytes : List ℕ) → 0 < length s → decode_of s ≡ Ok bytes → are_pairs s ≡ true
are_pairs_decoded s bytes some h =
    let d = decode_of-ok s bytes h in
    let digits : list_all is_hex s ≡ true = list_all-from_AllPass is_hex s (λ k x lt. is_hex_from (get_or s k x) (d.1 k x lt)) in
    let even = d.0 in
    let two : nat_le 2 (length s) ≡ true = grind (arith, nat_tests) in
    let none : (length s % 2 == 0) ≡ true = grind (arith, nat_tests) in
    rw two (rw none digits)

-- what is refused are no pairs of digits
pub are_pairs_refused : (s : List ℕ) (e : FromHexError) → decode_of s ≡ Err e → are_pairs s ≡ false
are_pairs_refused s e h = by (are_pairs s) refl
  where
    by : (b : Bool) → are_pairs s ≡ b → are_pairs s ≡ false
    by false i = i
    by true i = absurd (cc (sym h ∙ decode_of_spelled s i))

-- no dash
pub no_dash : (word dash : List ℕ) → dash ≡ codes "-" → false ≡ same word dash → same word (codes "-") ≡ false
no_dash word dash e h = ap (same word) (sym e) ∙ sym h

-- pairs of digits are a body
pub body_of_pairs : (word : List ℕ) → same word (codes "-") ≡ false → are_pairs word ≡ true → body_of word ≡ Ok (pairs word)
body_of_pairs word dash valid = rw dash (rw valid refl)

-- another word is none
pub body_of_other : (word : List ℕ) → same word (codes "-") ≡ false → are_pairs word ≡ false → body_of word ≡ Err Hex
body_of_other word dash other = rw dash (rw other refl)

-- an empty word is none
pub body_of_empty : (word : List ℕ) → length word ≡ 0 → body_of word ≡ Err Hex
body_of_empty [] e = refl
body_of_empty (b ∷ bs) e = absurd (omega (arith, e))

-- what is decoded is what the pairs spell
pub pairs_decoded : (s bytes : List ℕ) → are_pairs s ≡ true → decode_of s ≡ Ok bytes → pairs s ≡ bytes
pairs_decoded s bytes valid h = let e = sym (decode_of_spelled s valid) ∙ h in cc
