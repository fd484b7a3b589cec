-- A source that is read piece by piece.
use Rattle.std.proofs.Common.{◌≡◌, ℕ, ◌+◌, ◌≤◌, List, [], ◌++◌, length, take, drop, Option, None, Some, refl, sym, ap, ◌∙◌, append_assoc, arith}
use Rattle.std.specs.Prelude.{option_map}
use Rattle.std.proofs.lemmas.List.{append-nil, take_all, take-append-drop, take-take, drop-take}
use Rattle.amq_io.specs.Streams.{Gives, Takes}

-- these bytes were read so far
abbrev pub IsReadPart : List ℕ → Option (List ℕ) → Option (List ℕ) → Type 0
IsReadPart bytes None new = new ≡ None
IsReadPart bytes (Some old) new = (rest : List ℕ) × (new ≡ Some rest) × (old ≡ bytes ++ rest)

pub at_first : (bytes : List ℕ) (left : Option (List ℕ)) → bytes ≡ [] → IsReadPart bytes left left
at_first bytes None is = refl
at_first bytes (Some old) is = (old, refl, sym (ap (λ (b : List ℕ). b ++ old) is))

-- one piece more
pub one_more : (n : ℕ) (bytes piece : List ℕ) (left now new : Option (List ℕ)) → IsReadPart bytes left now → Gives n piece now new → IsReadPart (bytes ++ take n piece) left new
one_more n bytes piece None now new part gives = none_more now new part gives where
  none_more : (now new : Option (List ℕ)) → now ≡ None → Gives n piece now new → new ≡ None
  none_more None new e gives = gives
  none_more (Some x) new e gives = absurd cc
one_more n bytes piece (Some old) None new part gives = absurd (let e : None ≡ Some part.0 = part.1 in cc)
one_more n bytes piece (Some old) (Some rest) None part gives = absurd gives
one_more n bytes piece (Some old) (Some rest) (Some later) part gives =
    let same : rest ≡ part.0 = cc in
    (later, refl, part.2 ∙ ap (λ (r : List ℕ). bytes ++ r) (sym same ∙ gives) ∙ sym (append_assoc bytes (take n piece) later))

-- ---- a sink that takes piece by piece

take-plus : (n m : ℕ) (xs : List ℕ) → take (n + m) xs ≡ take n xs ++ take m (drop n xs)
take-plus n m xs = sym (take-append-drop n (take (n + m) xs)) ∙ ap (λ (l : List ℕ). l ++ drop n (take (n + m) xs)) (take-take n (n + m) xs (omega arith)) ∙ ap (λ (l : List ℕ). take n xs ++ l) (drop-take n m xs)

-- so many bytes were taken
abbrev pub IsTaken : ℕ → List ℕ → Option (List ℕ) → Option (List ℕ) → Type 0
IsTaken n bytes old new = new ≡ option_map (λ text. text ++ take n bytes) old

pub taken_none : (bytes : List ℕ) (old : Option (List ℕ)) → IsTaken 0 bytes old old
taken_none bytes None = refl
taken_none bytes (Some text) = ap (λ (t : List ℕ). Some t) (sym (append-nil text))

pub taken_more : (n m : ℕ) (bytes rest : List ℕ) (old now new : Option (List ℕ)) → IsTaken n bytes old now → rest ≡ drop n bytes → Takes m rest now new → IsTaken (n + m) bytes old new
taken_more n m bytes rest None now new taken is takes = by now taken takes where
  by : (now : Option (List ℕ)) → now ≡ None → Takes m rest now new → new ≡ None
  by None e takes = takes
  by (Some t) e takes = absurd cc
taken_more n m bytes rest (Some text) now new taken is takes = by now taken takes where
  by : (now : Option (List ℕ)) → now ≡ Some (text ++ take n bytes) → Takes m rest now new → new ≡ Some (text ++ take (n + m) bytes)
  by None e takes = absurd cc
  by (Some t) e takes =
      let same : t ≡ text ++ take n bytes = cc in
      takes ∙ ap (λ (t : List ℕ). Some t) (ap (λ (t : List ℕ). t ++ take m rest) same ∙ append_assoc text (take n bytes) (take m rest)
      ∙ ap (λ (r : List ℕ). text ++ (take n bytes ++ take m r)) is ∙ ap (λ (r : List ℕ). text ++ r) (sym (take-plus n m bytes)))

pub taken_whole : (n : ℕ) (bytes : List ℕ) (old new : Option (List ℕ)) → length bytes ≤ n → IsTaken n bytes old new → new ≡ option_map (λ text. text ++ bytes) old
taken_whole n bytes None new le taken = taken
taken_whole n bytes (Some text) new le taken = taken ∙ ap (λ (b : List ℕ). Some (text ++ b)) (take_all n bytes le)
