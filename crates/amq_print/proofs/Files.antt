-- The records of one file among those of all.
use Rattle.std.proofs.Common.{◌≡◌, ℕ, ◌+◌, ◌≤◌, ◌<◌, Bool, true, false, cond, add-one, List, [], ◌∷◌, ◌++◌, take, drop, length, get_or, Some, refl, sym, ap, ◌∙◌, arith}
use Rattle.std.specs.Prelude.{filter}
use Rattle.std.specs.Ordering.{nat_cmp, is_le, is_some_and}
use Rattle.std.specs.List.{IsAllAdjacentAnswer}
use Rattle.std.specs.List.Sorted.{IsNonDecreasingBy}
use Rattle.std.proofs.lemmas.List.Sorted.{IsNonDecreasingBy-from_all_adjacent}
use Rattle.std.proofs.lemmas.Map.Keys.{le_from_is_le}
use Rattle.std.proofs.lemmas.List.Elements.{filter-append}
use Rattle.std.proofs.lemmas.List.{take-append-drop, take_more, append-nil, length-take-le, length-drop, get_or-take, get_or-drop}
use Rattle.std.proofs.lemmas.Bool.Decides.{nat_tests}
use Rattle.amq_model.specs.declared.record.Placed.{Placed}
use Rattle.amq_model.specs.RecordLines.{is_in}

-- neighbours that do not fall make a list that does not
pub ascending : (xs : List Placed) (r : Bool) → IsAllAdjacentAnswer (λ x y b. b ≡ is_some_and is_le (Some (nat_cmp x.file y.file))) xs r → r ≡ true → IsNonDecreasingBy (λ p. p.file) xs
ascending xs true h e = IsNonDecreasingBy-from_all_adjacent (λ p. p.file) xs (λ k d lt. le_from_is_le (get_or xs k d).file (get_or xs (k + 1) d).file (sym (h k d lt)))
ascending xs false h e = absurd (cc e)

-- none is kept where none passes
pub filter_none : (test : Placed → Bool) (xs : List Placed) → ((k : ℕ) (d : Placed) → k < length xs → test (get_or xs k d) ≡ false) → filter test xs ≡ []
filter_none test [] h = refl
filter_none test (x ∷ xs) h =
    let first : test x ≡ false = h 0 x (omega arith) in
    rw first (filter_none test xs (λ k d lt. let shown : test (get_or (x ∷ xs) (k + 1) d) ≡ false = h (k + 1) d (omega arith) in rw add-one at shown))

-- another file's record
pub other_file : (id : ℕ) (p : Placed) → (p.file ≡ id → ⊥) → is_in id p ≡ false
other_file id p ne = grind (arith, nat_tests)

-- a record of the file, or none, goes on with what is kept
pub kept_more : (test : Placed → Bool) (xs : List Placed) (i : ℕ) (d : Placed) → i < length xs → filter test (take (i + 1) xs) ≡ filter test (take i xs) ++ cond (test (get_or xs i d)) (get_or xs i d ∷ []) []
kept_more test xs i d within = ap (filter test) (take_more xs i d within) ∙ filter-append test (take i xs) (get_or xs i d ∷ [])

-- the records behind the last of a lesser file, up to the first of a greater one, are all of the file
pub part_has_all : (id first count : ℕ) (xs rest : List Placed) → rest ≡ drop first xs → first ≤ length xs → ((k : ℕ) (d : Placed) → k < first → (get_or xs k d).file < id) → ((k : ℕ) (d : Placed) → count ≤ k → k < length rest → id < (get_or rest k d).file) → filter (is_in id) (take count rest) ≡ filter (is_in id) xs
part_has_all id first count xs rest is within lesser greater =
    let front : filter (is_in id) (take first xs) ≡ [] = filter_none (is_in id) (take first xs) (λ k d lt.
    let low : k < first = omega (arith, length-take-le first xs within, lt) in
    let same = get_or-take first xs k d low in
    other_file id (get_or (take first xs) k d) (λ e. absurd (omega (arith, lesser k d low, e, ap (λ (p : Placed). p.file) same)))) in
    let back : filter (is_in id) (drop count rest) ≡ [] = filter_none (is_in id) (drop count rest) (λ k d lt.
    let same = get_or-drop count rest k d in
    let high : count + k < length rest = omega (arith, length-drop count rest, lt) in
    other_file id (get_or (drop count rest) k d) (λ e. absurd (omega (arith, greater (count + k) d (omega arith) high, e, ap (λ (p : Placed). p.file) same)))) in
    let whole = sym (ap (filter (is_in id)) (take-append-drop first xs)) ∙ filter-append (is_in id) (take first xs) (drop first xs) in
    let part = sym (ap (filter (is_in id)) (take-append-drop count rest)) ∙ filter-append (is_in id) (take count rest) (drop count rest) in
    sym (whole ∙ ap (λ l. l ++ filter (is_in id) (drop first xs)) front ∙ ap (filter (is_in id)) (sym is) ∙ part ∙ ap (λ l. filter (is_in id) (take count rest) ++ l) back ∙ append-nil (filter (is_in id) (take count rest)))
