-- Words joined, and texts that go on.
use Rattle.std.proofs.Common.{◌≡◌, ℕ, ◌<◌, ◌≤◌, ◌+◌, zero, suc, List, [], ◌∷◌, ◌++◌, length, take, map, get_or, Result, Ok, Err, OnErr, refl, sym, ap, ◌∙◌, arith}
use Rattle.std.proofs.lemmas.List.{append_assoc, map_more, length-map, length-take, length-append, take-take}
use Rattle.std.proofs.Math.Seq.{take-append_seam}
use Rattle.std.specs.List.{join_with_byte}

-- one piece more
pub join-more : (c : ℕ) (xs : List (List ℕ)) (x : List ℕ) → 0 < length xs → join_with_byte c (xs ++ x ∷ []) ≡ join_with_byte c xs ++ (c ∷ x)
join-more c [] x some = absurd (omega (arith, some))
join-more c (y ∷ []) x some = refl
join-more c (y ∷ z ∷ zs) x some =
    ap (λ t. y ++ (c ∷ t)) (join-more c (z ∷ zs) x (omega arith)) ∙ sym (append_assoc y (c ∷ join_with_byte c (z ∷ zs)) (c ∷ x))

-- the first word behind a text
pub first_word : {X : Type 0} (f : X → List ℕ) (xs : List X) (i : ℕ) (d : X) (a new : List ℕ) → i < length xs → i ≤ 0 → new ≡ (a ++ join_with_byte 32 (map f (take i xs))) ++ f (get_or xs i d) → new ≡ a ++ join_with_byte 32 (map f (take (i + 1) xs))
first_word f [] i d a new within first e = absurd (omega (arith, within))
first_word f (x ∷ xs) zero d a new within first e = e ∙ append_assoc a [] (f x)
first_word f (x ∷ xs) (suc i) d a new within first e = absurd (omega (arith, first))

-- one word more behind a text
pub next_word : {X : Type 0} (f : X → List ℕ) (xs : List X) (i : ℕ) (d : X) (a new : List ℕ) → i < length xs → 0 < i → new ≡ ((a ++ join_with_byte 32 (map f (take i xs))) ++ 32 ∷ []) ++ f (get_or xs i d) → new ≡ a ++ join_with_byte 32 (map f (take (i + 1) xs))
next_word f xs i d a new within later e =
    let some : 0 < length (map f (take i xs)) = simp (length-map, length-take) (omega arith) in
    let n = ap (join_with_byte 32) (map_more f xs i d within) ∙ join-more 32 (map f (take i xs)) (f (get_or xs i d)) some in
    rw e (rw n (simp append_assoc))

-- what goes on with a longer text goes on with its front
pub take_front : (long a b c : List ℕ) → long ≡ a ++ b → take (length long) c ≡ long → take (length a) c ≡ a
take_front long a b c e h =
    let le : length a ≤ length long = omega (arith, length-append a b, ap length e) in
    sym (take-take (length a) (length long) c le) ∙ ap (take (length a)) (h ∙ e) ∙ take-append_seam a b

-- a fact that holds holds of an error
pub on_err : {T E : Type 0} (r : Result T E) {P : Type 0} → P → OnErr r P
on_err (Ok x) p = tt
on_err (Err e) p = p

-- the first words joined are no longer than all
join_grows : {X : Type 0} (f : X → List ℕ) (xs : List X) (i : ℕ) → length (join_with_byte 32 (map f (take i xs))) ≤ length (join_with_byte 32 (map f xs))
join_grows f xs zero = omega arith
join_grows f [] (suc i) = omega arith
join_grows f (x ∷ []) (suc zero) = omega arith
join_grows f (x ∷ []) (suc (suc i)) = omega arith
join_grows f (x ∷ y ∷ ys) (suc zero) = omega (arith, length-append (f x) (32 ∷ join_with_byte 32 (map f (y ∷ ys))))
join_grows f (x ∷ y ∷ ys) (suc (suc i)) =
    let rest = join_grows f (y ∷ ys) (suc i) in
    omega (arith, rest, length-append (f x) (32 ∷ join_with_byte 32 (map f (y ∷ ys))), length-append (f x) (32 ∷ join_with_byte 32 (map f (y ∷ take i ys))))

-- a text that had no room for one word more had none for all
pub no_room : {X : Type 0} (f : X → List ℕ) (xs : List X) (i room : ℕ) (a b c : List ℕ) → b ++ c ≡ a ++ join_with_byte 32 (map f (take (i + 1) xs)) → room < length b + length c → room < length a + length (join_with_byte 32 (map f xs))
no_room f xs i room a b c e less = omega (arith, less, length-append b c, ap length e, length-append a (join_with_byte 32 (map f (take (i + 1) xs))), join_grows f xs (i + 1))
