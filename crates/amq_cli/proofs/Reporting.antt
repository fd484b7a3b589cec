-- A report that is written in pieces.
use Rattle.std.proofs.Common.{◌≡◌, true, ℕ, ◌+◌, ◌<◌, List, [], ◌∷◌, ◌++◌, take, drop, length, get_or, Option, None, Some, Result, Ok, Err, refl, sym, ap, subst, ◌∙◌, arith}
use Rattle.std.specs.Prelude.{option_map, OnErr, OnOk, is_ok}
use Rattle.std.specs.List.{flat_map}
use Rattle.std.proofs.lemmas.List.{append-nil, append_assoc, length-append, flat_map_more, take_more, take-append-le, take-append-drop}
use Rattle.std.proofs.lemmas.Grind.{flat_map-append}
use Rattle.std.proofs.Math.Seq.{take-append-add, take-length}
use Rattle.amq_cli.specs.Output.{IsPartWritten}
use Rattle.amq_cli.specs.Offline.{IsWritten}
use Rattle.amq_cli.specs.Report.{IsSent}

pub nothing_part : (text : List ℕ) (taken : Option (List ℕ)) → IsPartWritten text taken taken
nothing_part text taken = record { count = 0; within = omega arith; is = by taken } where
  by : (o : Option (List ℕ)) → o ≡ option_map (λ t. t ++ take 0 text) o
  by None = refl
  by (Some t) = ap Some (sym (append-nil t))

-- one text behind another
pub written_behind : (a b : List ℕ) (old mid new : Option (List ℕ)) → IsWritten a old mid → IsWritten b mid new → IsWritten (a ++ b) old new
written_behind a b old mid new first second = second ∙ ap (λ (o : Option (List ℕ)). option_map (λ t. t ++ b) o) first ∙ by old where
  by : (o : Option (List ℕ)) → option_map (λ t. t ++ b) (option_map (λ t. t ++ a) o) ≡ option_map (λ t. t ++ (a ++ b)) o
  by None = refl
  by (Some t) = ap Some (append_assoc t a b)

-- more of the text
pub sent_behind : (text more waiting waiting' : List ℕ) (old mid new : Option (List ℕ)) → IsSent text waiting old mid → IsSent (waiting ++ more) waiting' mid new → IsSent (text ++ more) waiting' old new
sent_behind text more waiting waiting' old mid new first second = record {
  sent = first.sent ++ second.sent;
  is = ap (λ (t : List ℕ). t ++ more) first.is ∙ append_assoc first.sent waiting more ∙ ap (λ (t : List ℕ). first.sent ++ t) second.is ∙ sym (append_assoc first.sent second.sent waiting');
  taken = written_behind first.sent second.sent old mid new first.taken second.taken;
}

-- the rest of the text is written
pub written_rest : (text waiting : List ℕ) (old mid new : Option (List ℕ)) → IsSent text waiting old mid → IsWritten waiting mid new → IsWritten text old new
written_rest text waiting old mid new first written = subst (λ (t : List ℕ). IsWritten t old new) (sym first.is) (written_behind first.sent waiting old mid new first.taken written)

-- a part of a text is one of a longer text
pub part_longer : (text more : List ℕ) (old new : Option (List ℕ)) → IsPartWritten text old new → IsPartWritten (text ++ more) old new
part_longer text more old new part = record {
  count = part.count;
  within = omega (arith, part.within, length-append text more);
  is = part.is ∙ ap (λ (t : List ℕ). option_map (λ s. s ++ t) old) (sym (take-append-le part.count text more part.within));
}

-- a part of what waited, behind what was sent
pub part_behind : (text more waiting : List ℕ) (old mid new : Option (List ℕ)) → IsSent text waiting old mid → IsPartWritten (waiting ++ more) mid new → IsPartWritten (text ++ more) old new
part_behind text more waiting old mid new first part =
    let is : text ++ more ≡ first.sent ++ (waiting ++ more) = ap (λ (t : List ℕ). t ++ more) first.is ∙ append_assoc first.sent waiting more in
    subst (λ (t : List ℕ). IsPartWritten t old new) (sym is) (record {
      count = length first.sent + part.count;
      within = omega (arith, part.within, length-append first.sent (waiting ++ more));
      is = written_behind first.sent (take part.count (waiting ++ more)) old mid new first.taken part.is ∙ ap (λ (t : List ℕ). option_map (λ s. s ++ t) old) (sym (take-append-add first.sent (waiting ++ more) part.count));
    })

-- the whole is a part
pub whole_part : (text : List ℕ) (old new : Option (List ℕ)) → IsWritten text old new → IsPartWritten text old new
whole_part text old new written = record {
  count = length text;
  within = omega arith;
  is = written ∙ ap (λ (t : List ℕ). option_map (λ s. s ++ t) old) (sym (take-length text));
}

-- the lines of one element more
pub lines_more : {X : Type 0} (f : X → List ℕ) (xs : List X) (front : List ℕ) (i : ℕ) (x : X) → i < length xs → x ≡ get_or xs i x → (front ++ flat_map f (take i xs)) ++ f x ≡ front ++ flat_map f (take (i + 1) xs)
lines_more {X = X} f xs front i x within at = flat_map_more f front (take i xs) x ∙ ap (λ (l : List X). front ++ flat_map f l) (sym (take_more xs i x within ∙ ap (λ (y : X). take i xs ++ y ∷ []) (sym at)))

-- one element more is sent
pub lines_sent : {X : Type 0} (f : X → List ℕ) (xs : List X) (front : List ℕ) (i : ℕ) (x : X) (waiting waiting' : List ℕ) (old mid new : Option (List ℕ)) → i < length xs → x ≡ get_or xs i x
    → IsSent (front ++ flat_map f (take i xs)) waiting old mid → IsSent (waiting ++ f x) waiting' mid new → IsSent (front ++ flat_map f (take (i + 1) xs)) waiting' old new
lines_sent f xs front i x waiting waiting' old mid new within at first second =
    subst (λ (t : List ℕ). IsSent t waiting' old new) (lines_more f xs front i x within at) (sent_behind (front ++ flat_map f (take i xs)) (f x) waiting waiting' old mid new first second)

-- a part of one element more is written
pub lines_part : {X : Type 0} (f : X → List ℕ) (xs : List X) (front : List ℕ) (i : ℕ) (x : X) (waiting : List ℕ) (old mid new : Option (List ℕ)) → i < length xs → x ≡ get_or xs i x
    → IsSent (front ++ flat_map f (take i xs)) waiting old mid → IsPartWritten (waiting ++ f x) mid new → IsPartWritten (front ++ flat_map f xs) old new
lines_part {X = X} f xs front i x waiting old mid new within at first part =
    let up : IsPartWritten (front ++ flat_map f (take (i + 1) xs)) old new = subst (λ (t : List ℕ). IsPartWritten t old new) (lines_more f xs front i x within at) (part_behind (front ++ flat_map f (take i xs)) (f x) waiting old mid new first part) in
    let whole : (front ++ flat_map f (take (i + 1) xs)) ++ flat_map f (drop (i + 1) xs) ≡ front ++ flat_map f xs =
    append_assoc front (flat_map f (take (i + 1) xs)) (flat_map f (drop (i + 1) xs))
    ∙ ap (λ (t : List ℕ). front ++ t) (sym (flat_map-append f (take (i + 1) xs) (drop (i + 1) xs)) ∙ ap (flat_map f) (take-append-drop (i + 1) xs)) in
    subst (λ (t : List ℕ). IsPartWritten t old new) whole (part_longer (front ++ flat_map f (take (i + 1) xs)) (flat_map f (drop (i + 1) xs)) old new up)

-- a part of what waits, behind what was sent
pub part_rest : (text waiting : List ℕ) (old mid new : Option (List ℕ)) → IsSent text waiting old mid → IsPartWritten waiting mid new → IsPartWritten text old new
part_rest text waiting old mid new first part =
    subst (λ (t : List ℕ). IsPartWritten t old new) (append-nil text) (part_behind text [] waiting old mid new first (subst (λ (t : List ℕ). IsPartWritten t mid new) (sym (append-nil waiting)) part))

-- what holds of an answer holds where there is one
pub with_ok : {T E : Type 0} (r : Result T E) {P : Type 0} → true ≡ is_ok r → OnOk r P → P
with_ok (Ok x) is p = p
with_ok (Err e) is p = absurd (cc is)

-- the line of a count stands behind what waited
pub counted : {E : Type 0} (f : ℕ → List ℕ) (r : Result Unit E) (n m : ℕ) (before waiting : List ℕ) → true ≡ is_ok r → OnOk r (waiting ≡ before ++ f n) → n ≡ m → waiting ≡ before ++ f m
counted f r n m before waiting ok is same = with_ok r ok is ∙ ap (λ (k : ℕ). before ++ f k) same

-- the same elements
pub sent_of : {X : Type 0} (f : X → List ℕ) (front : List ℕ) {xs ys : List X} {waiting : List ℕ} {old new : Option (List ℕ)} → xs ≡ ys → IsSent (front ++ flat_map f xs) waiting old new → IsSent (front ++ flat_map f ys) waiting old new
sent_of {X = X} f front {waiting = waiting} {old = old} {new = new} is sent = subst (λ (l : List X). IsSent (front ++ flat_map f l) waiting old new) is sent

pub part_of : {X : Type 0} (f : X → List ℕ) (front : List ℕ) {xs ys : List X} {old new : Option (List ℕ)} → xs ≡ ys → IsPartWritten (front ++ flat_map f xs) old new → IsPartWritten (front ++ flat_map f ys) old new
part_of {X = X} f front {old = old} {new = new} is part = subst (λ (l : List X). IsPartWritten (front ++ flat_map f l) old new) is part

-- ---- a text in four parts

-- the first two of four parts are sent, of the rest none
pub half_part : (a b c d first waiting : List ℕ) (old mid : Option (List ℕ)) → first ≡ a → IsSent (first ++ b) waiting old mid → IsPartWritten (a ++ b ++ c ++ d) old mid
half_part a b c d first waiting old mid is sent =
    subst (λ (t : List ℕ). IsPartWritten t old mid) (sym (append_assoc (a ++ b) c d)) (part_longer (a ++ b) (c ++ d) old mid (subst (λ (t : List ℕ). IsPartWritten (t ++ b) old mid) is (part_rest (first ++ b) waiting old mid mid sent (nothing_part waiting mid))))

-- a part of the first two of four parts
pub part_of_half : (a b c d first : List ℕ) (old new : Option (List ℕ)) → first ≡ a → IsPartWritten (first ++ b) old new → IsPartWritten (a ++ b ++ c ++ d) old new
part_of_half a b c d first old new is part =
    subst (λ (t : List ℕ). IsPartWritten t old new) (sym (append_assoc (a ++ b) c d)) (part_longer (a ++ b) (c ++ d) old new (subst (λ (t : List ℕ). IsPartWritten (t ++ b) old new) is part))

-- the text that the first two of four parts and the second two make
whole_of : (a b c d first waiting second : List ℕ) → second ≡ waiting ++ c → second ++ d ≡ waiting ++ (c ++ d)
whole_of a b c d first waiting second is = ap (λ (t : List ℕ). t ++ d) is ∙ append_assoc waiting c d

-- all four parts are sent, or wait
pub whole_sent : (a b c d first waiting second last : List ℕ) (old mid new : Option (List ℕ)) → first ≡ a → second ≡ waiting ++ c → IsSent (first ++ b) waiting old mid → IsSent (second ++ d) last mid new → IsSent (a ++ b ++ c ++ d) last old new
whole_sent a b c d first waiting second last old mid new is is' sent sent' =
    subst (λ (t : List ℕ). IsSent t last old new) (sym (append_assoc (a ++ b) c d))
    (sent_behind (a ++ b) (c ++ d) waiting last old mid new (subst (λ (t : List ℕ). IsSent (t ++ b) waiting old mid) is sent) (subst (λ (t : List ℕ). IsSent t last mid new) (whole_of a b c d first waiting second is') sent'))

-- a part of the second two of four parts
pub whole_part_of : (a b c d first waiting second : List ℕ) (old mid new : Option (List ℕ)) → first ≡ a → second ≡ waiting ++ c → IsSent (first ++ b) waiting old mid → IsPartWritten (second ++ d) mid new → IsPartWritten (a ++ b ++ c ++ d) old new
whole_part_of a b c d first waiting second old mid new is is' sent part =
    subst (λ (t : List ℕ). IsPartWritten t old new) (sym (append_assoc (a ++ b) c d))
    (part_behind (a ++ b) (c ++ d) waiting old mid new (subst (λ (t : List ℕ). IsSent (t ++ b) waiting old mid) is sent) (subst (λ (t : List ℕ). IsPartWritten t mid new) (whole_of a b c d first waiting second is') part))

-- the rest of a text is written, or a part of it
pub all_written : {T E : Type 0} (r : Result T E) (rest : List ℕ) (new : Option (List ℕ)) {text waiting : List ℕ} {old mid : Option (List ℕ)} → rest ≡ waiting → IsSent text waiting old mid → OnOk r (IsWritten rest mid new) → OnOk r (IsWritten text old new)
all_written (Ok x) rest new {text = text} {waiting = waiting} {old = old} {mid = mid} is sent written = written_rest text waiting old mid new sent (subst (λ (t : List ℕ). IsWritten t mid new) is written)
all_written (Err e) rest new is sent written = tt

pub part_written : {T E : Type 0} (r : Result T E) (rest : List ℕ) (new : Option (List ℕ)) {text waiting : List ℕ} {old mid : Option (List ℕ)} → rest ≡ waiting → IsSent text waiting old mid → OnErr r (IsPartWritten rest mid new) → OnErr r (IsPartWritten text old new)
part_written (Ok x) rest new is sent part = tt
part_written (Err e) rest new {text = text} {waiting = waiting} {old = old} {mid = mid} is sent part = part_rest text waiting old mid new sent (subst (λ (t : List ℕ). IsPartWritten t mid new) is part)
