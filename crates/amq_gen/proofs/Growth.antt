-- The script, one record more.
use Rattle.std.proofs.Common.{◌≡◌, ℕ, zero, suc, ◌+◌, ◌*◌, ◌%◌, ◌^◌, List, [], ◌∷◌, ◌++◌, add-zero, add-one, sym, ap, ◌∙◌, arith}
use Rattle.std.specs.List.{flat_map, range_with_len}
use Rattle.std.proofs.lemmas.Grind.{flat_map-append}
use Rattle.std.proofs.lemmas.List.{append-nil}
use Rattle.amq_model.specs.Generator.{x_at}

-- a number more
pub range_more : (a n : ℕ) → range_with_len a (n + 1) ≡ range_with_len a n ++ (a + n) ∷ []
range_more a zero = ap (λ k. k ∷ []) (sym (add-zero a))
range_more a (suc n) =
    let top : suc n + 1 ≡ suc (suc n) = omega arith in
    let same : suc n ≡ n + 1 = omega arith in
    let last : a + 1 + n ≡ a + suc n = omega arith in
    ap (range_with_len a) top ∙ ap (λ l. a ∷ l) (ap (range_with_len (a + 1)) same ∙ range_more (a + 1) n ∙ ap (λ k. range_with_len (a + 1) n ++ k ∷ []) last)

-- the lists of one number more
pub flat_map-range_more : {X : Type 0} (f : ℕ → List X) (n : ℕ) → flat_map f (range_with_len 1 (n + 1)) ≡ flat_map f (range_with_len 1 n) ++ f (n + 1)
flat_map-range_more f n =
    let last : 1 + n ≡ n + 1 = omega arith in
    ap (flat_map f) (range_more 1 n)
    ∙ flat_map-append f (range_with_len 1 n) ((1 + n) ∷ [])
    ∙ ap (λ l. flat_map f (range_with_len 1 n) ++ l) (append-nil (f (1 + n)) ∙ ap f last)

-- the sequence's next number
pub x_at-more : (number k : ℕ) → x_at number (k + 1) ≡ (x_at number k * 6364136223846793005 + 1442695040888963407) % 2 ^ 64
x_at-more number k = ap (x_at number) (add-one k)
