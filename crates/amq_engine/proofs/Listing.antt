-- The list of the files of a journal: it grows at its end, and its names and ids are apart.
use Rattle.std.proofs.Common.{◌≡◌, ◌⊎◌, inl, inr, ℕ, ◌+◌, ◌-◌, ◌^◌, ◌<◌, ◌≤◌, List, [], ◌∷◌, ◌++◌, map, Some, refl, sym, ap, subst, ◌∙◌, append_assoc, arith}
use Rattle.std.specs.Prelude.{All, IsTrue}
use Rattle.std.proofs.lemmas.List.{map-append}
use Rattle.std.proofs.lemmas.List.Elements.{All-nil, All-cons, All-append}
use Rattle.std.proofs.lemmas.Option.{same_Some}
use Rattle.amq_model.specs.RecordAt.{Spot}
use Rattle.amq_model.specs.Names.{is_data, data_number}
use Rattle.amq_model.specs.Files.{FileName}
use Rattle.amq_model.specs.Directory.{placed}
use Rattle.amq_header.specs.Classes.{data_name}
use Rattle.amq_header.proofs.Made.{data_is_read}
use Rattle.amq_scan.specs.Written.{Item}
use Rattle.amq_scan.specs.Segments.{Segment, records_in, records_of, IsNamed}
use Rattle.amq_pool.specs.declared.pool.PoolFile.{PoolFile}
use Rattle.amq_pool.specs.Pools.{numbered_file}
use Rattle.amq_engine.specs.Directory.{segment, named_file, all_files, HasName, AreListed}
use Rattle.amq_engine.proofs.Segments.{number_names}

-- ---- names in a list

pub has_front : (n : FileName) (fs gs : List PoolFile) → HasName n fs → HasName n (fs ++ gs)
has_front n [] gs h = absurd h
has_front n (f ∷ fs) gs (inl e) = inl e
has_front n (f ∷ fs) gs (inr h) = inr (has_front n fs gs h)

pub has_back : (n : FileName) (fs gs : List PoolFile) → HasName n gs → HasName n (fs ++ gs)
has_back n [] gs h = h
has_back n (f ∷ fs) gs h = inr (has_back n fs gs h)

pub has_either : (n : FileName) (fs gs : List PoolFile) → HasName n (fs ++ gs) → HasName n fs ⊎ HasName n gs
has_either n [] gs h = inr h
has_either n (f ∷ fs) gs (inl e) = inl (inl e)
has_either n (f ∷ fs) gs (inr h) = front (has_either n fs gs h)
  where
    front : HasName n fs ⊎ HasName n gs → HasName n (f ∷ fs) ⊎ HasName n gs
    front (inl k) = inl (inr k)
    front (inr k) = inr k

pub has_closed : (n : FileName) (closed : List Segment) (used : PoolFile) (free : List PoolFile) → IsNamed n closed → HasName n (all_files closed used free)
has_closed n [] used free h = absurd h
has_closed n (g ∷ gs) used free (inl e) = inl e
has_closed n (g ∷ gs) used free (inr h) = inr (has_closed n gs used free h)

pub has_used : (closed : List Segment) (used : PoolFile) (free : List PoolFile) → HasName used.name (all_files closed used free)
has_used closed used free = has_back used.name (map named_file closed) (used ∷ free) (inl refl)

pub has_free : (n : FileName) (closed : List Segment) (used : PoolFile) (free : List PoolFile) → HasName n free → HasName n (all_files closed used free)
has_free n closed used free h = has_back n (map named_file closed) (used ∷ free) (inr h)

-- ---- the numbers of the names

-- each name has a number, and none is above the highest
pub listed_number : (highest least : ℕ) (fs : List PoolFile) (q : FileName) → AreListed highest least fs → HasName q fs → (n : ℕ) × (data_number q ≡ Some n) × (n ≤ highest)
listed_number highest least [] q a h = absurd h
listed_number highest least (f ∷ fs) q a (inl e) = (a.2.0, ap data_number (sym e) ∙ a.2.1, a.2.2)
listed_number highest least (f ∷ fs) q a (inr h) = listed_number highest (f.id + 1) fs q a.4 h

-- each is a data file's
pub listed_data : (highest least : ℕ) (fs : List PoolFile) (q : FileName) → AreListed highest least fs → HasName q fs → IsTrue (is_data q)
listed_data highest least fs q a h = let n = listed_number highest least fs q a h in number_names q n.0 n.1

-- the next file's name is new
pub next_apart : (highest least : ℕ) (fs : List PoolFile) → AreListed highest least fs → highest + 1 < 2 ^ 63 → HasName (data_name (highest + 1)) fs → ⊥
next_apart highest least fs a low h =
    let n = listed_number highest least fs (data_name (highest + 1)) a h in
    let same : n.0 ≡ highest + 1 = same_Some n.0 (highest + 1) (sym n.1 ∙ data_is_read (highest + 1) low) in
    omega (arith, same, n.2)

-- ---- one file more

pub listed_next : (highest least : ℕ) (fs : List PoolFile) → AreListed highest least fs → least ≤ highest + 1 → highest < 2 ^ 31 - 1 → AreListed (highest + 1) least (fs ++ numbered_file (highest + 1) ∷ [])
listed_next highest least [] a le low = (le, omega arith, (highest + 1, data_is_read (highest + 1) (omega (arith, low)), omega arith), λ none. none, tt)
listed_next highest least (f ∷ fs) a le low = (
  a.0,
  omega (arith, a.1),
  (a.2.0, a.2.1, omega (arith, a.2.2)),
  λ h. new (has_either f.name fs (numbered_file (highest + 1) ∷ []) h),
  listed_next highest (f.id + 1) fs a.4 (omega (arith, a.1)) low,
)
  where
    new : HasName f.name fs ⊎ HasName f.name (numbered_file (highest + 1) ∷ []) → ⊥
    new (inl h) = a.3 h
    new (inr (inr none)) = none
    new (inr (inl e)) =
        let same : a.2.0 ≡ highest + 1 = same_Some a.2.0 (highest + 1) (sym a.2.1 ∙ ap data_number (sym e) ∙ data_is_read (highest + 1) (omega (arith, low))) in
        omega (arith, same, a.2.2)

pub all_files_more : (closed : List Segment) (used : PoolFile) (free : List PoolFile) (f : PoolFile) → all_files closed used (free ++ f ∷ []) ≡ all_files closed used free ++ f ∷ []
all_files_more closed used free f = sym (append_assoc (map named_file closed) (used ∷ free) (f ∷ []))

-- all files with one more prepared
pub listed_more : (highest : ℕ) (closed : List Segment) (used : PoolFile) (free : List PoolFile) → highest < 2 ^ 31 - 1 → AreListed highest 0 (all_files closed used free) → AreListed (highest + 1) 0 (all_files closed used (free ++ numbered_file (highest + 1) ∷ []))
listed_more highest closed used free low a = subst (AreListed (highest + 1) 0) (sym (all_files_more closed used free (numbered_file (highest + 1)))) (listed_next highest 0 (all_files closed used free) a (omega arith) low)

-- the journal goes on to the next file
pub all_files_on : (closed : List Segment) (used : PoolFile) (items : List Item) (f : PoolFile) (fs : List PoolFile) → all_files closed used (f ∷ fs) ≡ all_files (closed ++ segment used items ∷ []) f fs
all_files_on closed used items f fs = sym (ap (λ (l : List PoolFile). l ++ f ∷ fs) (map-append named_file closed (segment used items ∷ [])) ∙ append_assoc (map named_file closed) (used ∷ []) (f ∷ fs))

-- ---- ids

module _ (highest : ℕ) (used : PoolFile) where
  pub used_between : (least : ℕ) (closed : List Segment) (free : List PoolFile) → AreListed highest least (all_files closed used free) → (least ≤ used.id) × (used.id ≤ highest)
  used_between least [] free a = (a.0, a.1)
  used_between least (g ∷ gs) free a = let r = used_between (g.id + 1) gs free a.4 in (omega (arith, a.0, r.0), r.1)

  next_above : (least : ℕ) (closed : List Segment) (f : PoolFile) (fs : List PoolFile) → AreListed highest least (all_files closed used (f ∷ fs)) → used.id < f.id
  next_above least [] f fs a = omega (arith, a.4.0)
  next_above least (g ∷ gs) f fs a = next_above (g.id + 1) gs f fs a.4

  each_below : (g : Segment) (gs : List Segment) (free : List PoolFile) → AreListed highest (g.id + 1) (all_files gs used free) → All (λ p. p.file < used.id) (records_in g)
  each_below g gs free a = each (omega (arith, (used_between (g.id + 1) gs free a).0)) g.spots
    where
      each : g.id < used.id → (spots : List Spot) → All (λ p. p.file < used.id) (map (placed g.id) spots)
      each below [] = All-nil (λ p. p.file < used.id)
      each below (s ∷ ss) = All-cons (λ p. p.file < used.id) (placed g.id s) (map (placed g.id) ss) below (each below ss)

  closed_below : (least : ℕ) (closed : List Segment) (free : List PoolFile) → AreListed highest least (all_files closed used free) → All (λ p. p.file < used.id) (records_of closed)
  closed_below least [] free a = All-nil (λ p. p.file < used.id)
  closed_below least (g ∷ gs) free a = All-append (λ p. p.file < used.id) (records_in g) (records_of gs) (each_below g gs free a.4) (closed_below (g.id + 1) gs free a.4)

  front_below : (least : ℕ) (old closed : List Segment) (free : List PoolFile) → AreListed highest least (all_files (old ++ closed) used free) → All (λ p. p.file < used.id) (records_of old)
  front_below least [] closed free a = All-nil (λ p. p.file < used.id)
  front_below least (g ∷ gs) closed free a = All-append (λ p. p.file < used.id) (records_in g) (records_of gs) (each_below g (gs ++ closed) free a.4) (front_below (g.id + 1) gs closed free a.4)

  back_below : (least : ℕ) (old closed : List Segment) (free : List PoolFile) → AreListed highest least (all_files (old ++ closed) used free) → All (λ p. p.file < used.id) (records_of closed)
  back_below least [] closed free a = closed_below least closed free a
  back_below least (g ∷ gs) closed free a = back_below (g.id + 1) gs closed free a.4

pub used_id : (highest : ℕ) (closed : List Segment) (used : PoolFile) (free : List PoolFile) → AreListed highest 0 (all_files closed used free) → used.id ≤ highest
used_id highest closed used free a = (used_between highest used 0 closed free a).1

pub next_id : (highest : ℕ) (closed : List Segment) (used f : PoolFile) (fs : List PoolFile) → AreListed highest 0 (all_files closed used (f ∷ fs)) → used.id < f.id
next_id highest closed used f fs a = next_above highest used 0 closed f fs a

-- the records of a front of the closed files
pub old_ids : (highest : ℕ) (old closed : List Segment) (used : PoolFile) (free : List PoolFile) → AreListed highest 0 (all_files (old ++ closed) used free) → All (λ p. p.file < used.id) (records_of old)
old_ids highest old closed used free a = front_below highest used 0 old closed free a

-- and of those behind it
pub closed_ids : (highest : ℕ) (old closed : List Segment) (used : PoolFile) (free : List PoolFile) → AreListed highest 0 (all_files (old ++ closed) used free) → All (λ p. p.file < used.id) (records_of closed)
closed_ids highest old closed used free a = back_below highest used 0 old closed free a

-- ---- names apart

pub closed_apart : (highest least : ℕ) (closed : List Segment) (used : PoolFile) (free : List PoolFile) → AreListed highest least (all_files closed used free) → IsNamed used.name closed → ⊥
closed_apart highest least [] used free a h = absurd h
closed_apart highest least (g ∷ gs) used free a (inl e) = a.3 (subst (λ (n : FileName). HasName n (all_files gs used free)) (sym e) (has_used gs used free))
closed_apart highest least (g ∷ gs) used free a (inr h) = closed_apart highest (g.id + 1) gs used free a.4 h

pub free_apart : (highest least : ℕ) (closed : List Segment) (used : PoolFile) (free : List PoolFile) → AreListed highest least (all_files closed used free) → HasName used.name free → ⊥
free_apart highest least [] used free a h = a.3 h
free_apart highest least (g ∷ gs) used free a h = free_apart highest (g.id + 1) gs used free a.4 h
