-- The digits that the encoder of hexadecimal text writes are those of the texts.
use Rattle.std.proofs.Common.{add-one, ◌≡◌, ℕ, zero, suc, ◌+◌, ◌/◌, ◌%◌, ◌<◌, ◌==◌, Bool, true, false, ◌&&◌, inl, inr, List, [], ◌∷◌, get_or, slice_index, refl, arith}
use Rattle.std.specs.Fmt.{digit_glyph}
use Rattle.std.specs.List.{flat_map}
use Rattle.std.proofs.lemmas.Bool.{and_parts, cases_lt, eqb-true}
use Rattle.hex.specs.Hex.{encode_lower, encode_with, lower_digits}
use Rattle.amq_model.specs.Texts.{hex_digits}

-- whether the first n digits of the table are the digits of the texts
abbrev are_same : ℕ → Bool
are_same zero = true
are_same (suc n) = (slice_index lower_digits n == digit_glyph false n) && are_same n

-- a digit among those that were tested
same_below : (n d : ℕ) → are_same n ≡ true → d < n → slice_index lower_digits d ≡ digit_glyph false d
same_below zero d h lt = absurd (omega arith)
same_below (suc n) d h lt =
    let parts = and_parts (slice_index lower_digits n == digit_glyph false n) (are_same n) h in
    elim (cases_lt d n) [
      | inl below ↦ same_below n d parts.1 below
      | inr top ↦
          let e : d ≡ n = omega arith in
          rw e (eqb-true (slice_index lower_digits n) (digit_glyph false n) parts.0)
    ]

-- the digit of a number below 16
same_digit : (d : ℕ) → d < 16 → slice_index lower_digits d ≡ digit_glyph false d
same_digit d lt = same_below 16 d refl lt

-- the encoding of bytes is the digits of each
pub encoded : (bytes : List ℕ) → ((i : ℕ) → get_or bytes i 0 < 256) → encode_lower bytes ≡ flat_map hex_digits bytes
unfolding encode_with
encoded [] h = refl
encoded (b ∷ bs) h =
    let first : b < 256 = h 0 in
    let rest = encoded bs (λ i. let shown : get_or (b ∷ bs) (i + 1) 0 < 256 = h (i + 1) in rw add-one at shown) in
    rw (same_digit (b / 16) (omega arith), same_digit (b % 16) (omega arith), rest) refl
