-- The records of an image against those of the file.
use Rattle.std.proofs.Common.{◌≡◌, inl, inr, ⊎_elim, ℕ, ◌+◌, ◌<◌, ◌≤◌, List, [], ◌∷◌, length, take, drop, get_or, refl, sym, ap, subst, ◌∙◌, arith}
use Rattle.std.specs.Prelude.{Contains}
use Rattle.std.proofs.lemmas.Bool.{cases_lt}
use Rattle.std.proofs.lemmas.List.{ext_get_or, get_or-take, get_or-drop, length-take-le, length-drop}
use Rattle.amq_model.specs.Files.{Range, IsTorn}
use Rattle.amq_model.specs.RecordAt.{Spot, RecordAt}
use Rattle.amq_model.specs.Scan.{IsScanFrom}
use Rattle.amq_model.specs.Kept.{IsPart}
use Rattle.amq_scan.proofs.Scans.{takes_room}
use Rattle.amq_scan.proofs.Parts.{Has, contains_has, all_has}
use Rattle.amq_scan.specs.Images.{IsOutside, IsLeft}

-- spots one behind the other
abbrev pub Ascends : ℕ → List Spot → Type 0
Ascends from [] = Unit {0}
Ascends from (s ∷ ss) = (from ≤ s.place) × (0 < s.len) × Ascends (s.place + s.len) ss

pub scan_ascends : (bytes : List ℕ) (fid version from : ℕ) (ss : List Spot) → IsScanFrom bytes fid version from ss → Ascends from ss
scan_ascends bytes fid version from [] scan = tt
scan_ascends bytes fid version from (s ∷ ss) scan = (scan.0, takes_room bytes fid version s scan.2, scan_ascends bytes fid version (s.place + s.len) ss scan.3)

pub ascends_has : (from : ℕ) (ss : List Spot) (s : Spot) → Ascends from ss → Has ss s → from ≤ s.place
ascends_has from [] s a h = absurd h
ascends_has from (t ∷ ts) s a (inl e) = subst (λ (u : Spot). from ≤ u.place) e a.0
ascends_has from (t ∷ ts) s a (inr h) = omega (arith, ascends_has (t.place + t.len) ts s a.2 h, a.0)

not_first : (x s : Spot) (ss : List Spot) → Has (x ∷ ss) s → (x ≡ s → ⊥) → Has ss s
not_first x s ss (inl e) other = absurd (other e)
not_first x s ss (inr h) other = h

same_place : (s t : Spot) → s ≡ t → s.place ≡ t.place
same_place s t e = ap (λ (u : Spot). u.place) e

same_len : (s t : Spot) → s ≡ t → s.len ≡ t.len
same_len s t e = ap (λ (u : Spot). u.len) e

-- of two ascending lists one of which has all members of the other
pub part_of : (f g : ℕ) (b a : List Spot) → Ascends f a → Ascends g b → ((s : Spot) → Has b s → Has a s) → IsPart b a
part_of f g [] a asc bsc sub = tt
part_of f g (y ∷ b) [] asc bsc sub = sub y (inl refl)
part_of f g (y ∷ b) (x ∷ a) asc bsc sub =
    ⊎_elim
    (λ (e : x ≡ y). inl (
      sym e,
      part_of (x.place + x.len) (y.place + y.len) b a asc.2 bsc.2
          (λ s h. not_first x s a (sub s (inr h)) (λ e'. omega (arith, ascends_has (y.place + y.len) b s bsc.2 h, bsc.1, same_place x y e, same_place x s e'))),
    ))
    (λ (l : Has a y). inr (part_of (x.place + x.len) y.place (y ∷ b) a asc.2 (omega arith, bsc.1, bsc.2)
    (λ s h. not_first x s a (sub s h) (λ e'. omega (arith, ascends_has y.place (y ∷ b) s (omega arith, bsc.1, bsc.2) h, ascends_has (x.place + x.len) a y asc.2 l, asc.1, same_place x s e')))))
    (sub y (inl refl))

-- ---- what stands in the image

record Covers (ss : List Spot) (p : ℕ) : Type 0 where
  spot : Spot
  there : Has ss spot
  from : spot.place ≤ p
  to : p < spot.place + spot.len

covered : (bytes : List ℕ) (fid version from : ℕ) (ss : List Spot) (s : Spot) → IsScanFrom bytes fid version from ss → from ≤ s.place → RecordAt bytes fid version s → Covers ss s.place
covered bytes fid version from [] s scan le h = absurd (scan s.place le s refl h)
covered bytes fid version from (t ∷ ts) s scan le h =
    elim (cases_lt s.place t.place) [
      | inl before ↦ absurd (scan.1 s.place le before s refl h)
      | inr ge ↦ elim (cases_lt s.place (t.place + t.len)) [
        | inl within ↦ record { spot = t; there = inl refl; from = ge; to = within }
        | inr past ↦ let c = covered bytes fid version (t.place + t.len) ts s scan.3 past h in record { spot = c.spot; there = inr c.there; from = c.from; to = c.to }
      ]
    ]

-- of spots one behind the other only one covers a place
one_covers : (from : ℕ) (ss : List Spot) (t s : Spot) → Ascends from ss → Has ss t → Has ss s → t.place ≤ s.place → s.place < t.place + t.len → t ≡ s
one_covers from [] t s a ht hs le lt = absurd ht
one_covers from (u ∷ us) t s a (inl et) (inl es) le lt = sym et ∙ es
one_covers from (u ∷ us) t s a (inl et) (inr hs) le lt = absurd (omega (arith, ascends_has (u.place + u.len) us s a.2 hs, same_place u t et, same_len u t et, lt))
one_covers from (u ∷ us) t s a (inr ht) (inl es) le lt = absurd (omega (arith, ascends_has (u.place + u.len) us t a.2 ht, same_place u s es, a.1, le))
one_covers from (u ∷ us) t s a (inr ht) (inr hs) le lt = one_covers (u.place + u.len) us t s a.2 ht hs le lt

-- the bytes of a part are the same where each one is
pub same_part : (old new : List ℕ) (place len : ℕ) → place + len ≤ length old → length new ≡ length old → ((i : ℕ) → place ≤ i → i < place + len → get_or new i 0 ≡ get_or old i 0) → take len (drop place new) ≡ take len (drop place old)
same_part old new place len within long same =
    let l : length (take len (drop place new)) ≡ len = length-take-le len (drop place new) (omega (arith, length-drop place new, within, long)) in
    let m : length (take len (drop place old)) ≡ len = length-take-le len (drop place old) (omega (arith, length-drop place old, within)) in
    ext_get_or 0 (take len (drop place new)) (take len (drop place old)) (l ∙ sym m)
    (λ i lt. get_or-take len (drop place new) i 0 (omega (arith, l, lt)) ∙ get_or-drop place new i 0 ∙ same (place + i) (omega arith) (omega (arith, l, lt))
    ∙ sym (get_or-drop place old i 0) ∙ sym (get_or-take len (drop place old) i 0 (omega (arith, l, lt))))

-- a record outside the pending ranges stands in each image
pub stands_on : (pending : List Range) (old new : List ℕ) (fid version : ℕ) (s : Spot) → IsTorn pending old new → IsOutside pending s → RecordAt old fid version s → RecordAt new fid version s
stands_on pending old new fid version s torn outside h = record {
  values = h.values;
  compact = h.compact;
  len = h.len;
  within = omega (arith, h.within, torn.len);
  spelled = same_part old new s.place s.len h.within torn.len (λ i from to. torn.same i (omega (arith, to, h.within)) (outside i from to)) ∙ h.spelled;
}

pub scan_stands : (bytes : List ℕ) (fid version from : ℕ) (ss : List Spot) (s : Spot) → IsScanFrom bytes fid version from ss → Has ss s → RecordAt bytes fid version s
scan_stands bytes fid version from [] s scan h = absurd h
scan_stands bytes fid version from (t ∷ ts) s scan (inl e) = subst (RecordAt bytes fid version) e scan.2
scan_stands bytes fid version from (t ∷ ts) s scan (inr h) = scan_stands bytes fid version (t.place + t.len) ts s scan.3 h

pub left_part : (pending : List Range) (reading image : List ℕ) (fid version : ℕ) (found left : List Spot) → IsLeft pending reading image fid version found left → IsPart left found
left_part pending reading image fid version found left l =
    part_of 16 16 left found (scan_ascends reading fid version 16 found l.found_is) (scan_ascends image fid version 16 left l.left_is)
    (λ s h. contains_has found s (all_has (Contains found) left l.none_false s h))

pub left_durable : (pending : List Range) (reading image : List ℕ) (fid version : ℕ) (found left : List Spot) → IsLeft pending reading image fid version found left → (s : Spot) → Has found s → IsOutside pending s → Has left s
left_durable pending reading image fid version found left l s h outside =
    let asc = scan_ascends reading fid version 16 found l.found_is in
    let c = covered image fid version 16 left s l.left_is (ascends_has 16 found s asc h) (stands_on pending reading image fid version s l.torn outside (scan_stands reading fid version 16 found s l.found_is h)) in
    let same : c.spot ≡ s = one_covers 16 found c.spot s asc (contains_has found c.spot (all_has (Contains found) left l.none_false c.spot c.there)) h c.from c.to in
    subst (Has left) same c.there
