-- What the pending ranges of a file in memory are, and what picking their bytes makes of the file.
use Rattle.std.proofs.Common.{◌≡◌, ◌⊎◌, inl, inr, ⊎_elim, ℕ, zero, suc, ◌+◌, ◌-◌, ◌<◌, ◌≤◌, List, [], ◌∷◌, ◌++◌, length, get_or, take, drop, map, replicate, refl, sym, ◌∙◌, ap, subst, arith, length-append, length-drop}
use Rattle.std.specs.Prelude.{reverse}
use Rattle.std.proofs.Math.ListN.{get_or-append}
use Rattle.std.proofs.Math.Seq.{take-append_seam}
use Rattle.std.proofs.lemmas.Bool.{cases_lt}
use Rattle.std.proofs.lemmas.List.{ext_get_or, get_or-take, get_or-drop, get_or-append_right, get_or-replicate, length-replicate, length-take-le, drop_more, reverse-append}
use Rattle.amq_model.specs.Files.{IsPending, overlaid}
use Rattle.amq_io.specs.declared.pick.Pick.{Pick}
use Rattle.amq_io.specs.declared.pick.Pick.TheVariants.{Keep, Revert, Fill}
use Rattle.amq_io.specs.declared.memory_file.Pending.{Pending}
use Rattle.amq_io.specs.Versions.{Versions}
use Rattle.amq_io.specs.MemoryFile.{range_of, AreInside, picked, all_picked}
use Rattle.amq_io.specs.Torn.{picked_byte, IsTornBy}

-- ---- bytes over others

module _ (old : List ℕ) (place : ℕ) (bytes : List ℕ) (fits : place + length bytes ≤ length old) where
  front : length (take place old) ≡ place
  front = length-take-le place old (omega arith)

  both : length (take place old ++ bytes) ≡ place + length bytes
  both = length-append (take place old) bytes ∙ ap (λ n. n + length bytes) front

  pub length-overlaid : length (overlaid old place bytes) ≡ length old
  length-overlaid = omega (arith, length-append (take place old ++ bytes) (drop (place + length bytes) old), both, length-drop (place + length bytes) old)

  pub over_inside : (i : ℕ) → place ≤ i → i < place + length bytes → get_or (overlaid old place bytes) i 0 ≡ get_or bytes (i - place) 0
  over_inside i from to = get_or-append (take place old ++ bytes) (drop (place + length bytes) old) 0 i (omega (arith, both, to)) ∙ get_or-append_right (take place old) bytes place i 0 front from

  pub over_before : (i : ℕ) → i < place → get_or (overlaid old place bytes) i 0 ≡ get_or old i 0
  over_before i lt =
      get_or-append (take place old ++ bytes) (drop (place + length bytes) old) 0 i (omega (arith, both, lt))
      ∙ get_or-append (take place old) bytes 0 i (omega (arith, front, lt))
      ∙ get_or-take place old i 0 lt

  pub over_behind : (i : ℕ) → place + length bytes ≤ i → get_or (overlaid old place bytes) i 0 ≡ get_or old i 0
  over_behind i le =
      get_or-append_right (take place old ++ bytes) (drop (place + length bytes) old) (place + length bytes) i 0 both le
      ∙ get_or-drop (place + length bytes) old (i - (place + length bytes)) 0
      ∙ ap (λ k. get_or old k 0) (omega (arith, le))

  pub over_outside : (i : ℕ) → ((place ≤ i) × (i < place + length bytes) → ⊥) → get_or (overlaid old place bytes) i 0 ≡ get_or old i 0
  over_outside i out =
      ⊎_elim (λ lt. over_before i lt) (λ le. ⊎_elim (λ lt. absurd (out (le, lt))) (λ behind. over_behind i behind) (cases_lt i (place + length bytes))) (cases_lt i place)

-- what was there before, put back over bytes that differ from it there at most
pub back_again : (old new before : List ℕ) (place : ℕ) → length new ≡ length old → place + length before ≤ length old → before ≡ take (length before) (drop place old)
    → ((i : ℕ) → ((place ≤ i) × (i < place + length before) → ⊥) → get_or new i 0 ≡ get_or old i 0) → overlaid new place before ≡ old
back_again old new before place long fits was same =
    ext_get_or 0 (overlaid new place before) old (length-overlaid new place before (omega (arith, long, fits)) ∙ long)
    (λ i lt. ⊎_elim
    (λ before_it. over_before new place before (omega (arith, long, fits)) i before_it ∙ same i (λ inside. omega (arith, inside.0, before_it)))
    (λ le. ⊎_elim
    (λ inside. over_inside new place before (omega (arith, long, fits)) i le inside ∙ there i le inside)
    (λ behind. over_behind new place before (omega (arith, long, fits)) i behind ∙ same i (λ inside. omega (arith, inside.1, behind)))
    (cases_lt i (place + length before)))
    (cases_lt i place))
  where
    there : (i : ℕ) → place ≤ i → i < place + length before → get_or before (i - place) 0 ≡ get_or old i 0
    there i le lt =
        ap (λ (l : List ℕ). get_or l (i - place) 0) was
        ∙ get_or-take (length before) (drop place old) (i - place) 0 (omega (arith, le, lt))
        ∙ get_or-drop place old (i - place) 0
        ∙ ap (λ k. get_or old k 0) (omega (arith, le))

-- ---- the pending ranges

pub inside_of : (m n : ℕ) (ps : List Pending) → m ≡ n → AreInside m ps → AreInside n ps
inside_of m n ps same inside = subst (λ k. AreInside k ps) same inside

pub inside_at : (len : ℕ) (ps : List Pending) (i : ℕ) (p : Pending) → i < length ps → p ≡ get_or ps i p → AreInside len ps → p.place + length p.before.items ≤ len
inside_at len [] i p lt is inside = absurd (omega (arith, lt))
inside_at len (q ∷ ps) zero p lt is inside = subst (λ (p : Pending). p.place + length p.before.items ≤ len) (sym is) inside.0
inside_at len (q ∷ ps) (suc i) p lt is inside = inside_at len ps i p (omega (arith, lt)) is inside.1

inside_drop : (len : ℕ) (ps : List Pending) (i : ℕ) → AreInside len ps → AreInside len (drop i ps)
inside_drop len [] zero inside = tt
inside_drop len [] (suc i) inside = tt
inside_drop len (p ∷ ps) zero inside = inside
inside_drop len (p ∷ ps) (suc i) inside = inside_drop len ps i inside.1

pub inside_push : (len : ℕ) (ps : List Pending) (p : Pending) → AreInside len ps → p.place + length p.before.items ≤ len → AreInside len (ps ++ p ∷ [])
inside_push len [] p inside fits = (fits, tt)
inside_push len (q ∷ ps) p inside fits = (inside.0, inside_push len ps p inside.1 fits)

pub inside_reverse : (len : ℕ) (ps : List Pending) → AreInside len ps → AreInside len (reverse ps)
inside_reverse len [] inside = tt
inside_reverse len (p ∷ ps) inside = subst (AreInside len) (sym (reverse-append (p ∷ []) ps)) (inside_push len (reverse ps) p (inside_reverse len ps inside.1) inside.0)

length-picked : (pick : Pick) (bytes : List ℕ) (p : Pending) → p.place + length p.before.items ≤ length bytes → length (picked pick bytes p) ≡ length bytes
length-picked Keep bytes p fits = refl
length-picked Revert bytes p fits = length-overlaid bytes p.place p.before.items fits
length-picked (Fill fill) bytes p fits = length-overlaid bytes p.place (replicate (length p.before.items) fill) (omega (arith, fits, length-replicate {A = ℕ} (length p.before.items) fill))

pub length-all_picked : (pick : Pick) (bytes : List ℕ) (ps : List Pending) → AreInside (length bytes) ps → length (all_picked pick bytes ps) ≡ length bytes
length-all_picked pick bytes [] inside = refl
length-all_picked pick bytes (p ∷ ps) inside =
    let same = length-picked pick bytes p inside.0 in
    length-all_picked pick (picked pick bytes p) ps (inside_of _ _ ps (sym same) inside.1) ∙ same

pub all_more : (pick : Pick) (bytes : List ℕ) (ps : List Pending) (p : Pending) → all_picked pick bytes (ps ++ p ∷ []) ≡ picked pick (all_picked pick bytes ps) p
all_more pick bytes [] p = refl
all_more pick bytes (q ∷ ps) p = all_more pick (picked pick bytes q) ps p

-- one range more, from the newest on
pub all_next : (pick : Pick) (bytes : List ℕ) (ps : List Pending) (i : ℕ) (p : Pending) → i < length ps → p ≡ get_or ps i p → picked pick (all_picked pick bytes (reverse (drop (i + 1) ps))) p ≡ all_picked pick bytes (reverse (drop i ps))
all_next pick bytes ps i p lt is =
    let rest : List Pending = drop (i + 1) ps in
    let here : drop i ps ≡ p ∷ rest = drop_more ps i p lt ∙ ap (λ (p : Pending). p ∷ rest) (sym is) in
    sym (all_more pick bytes (reverse rest) p) ∙ ap (all_picked pick bytes) (sym (ap reverse here ∙ reverse-append (p ∷ []) rest))

-- and it fits
pub next_fits : (pick : Pick) (bytes now : List ℕ) (ps : List Pending) (i : ℕ) (p : Pending) → AreInside (length bytes) ps → now ≡ all_picked pick bytes (reverse (drop (i + 1) ps)) → i < length ps → p ≡ get_or ps i p
    → p.place + length p.before.items ≤ length now
next_fits pick bytes now ps i p inside is lt at =
    let long : length now ≡ length bytes =
    ap length is ∙ length-all_picked pick bytes (reverse (drop (i + 1) ps)) (inside_reverse (length bytes) (drop (i + 1) ps) (inside_drop (length bytes) ps (i + 1) inside)) in
    omega (arith, long, inside_at (length bytes) ps i p lt at inside)

-- ---- what a crash makes of the bytes

picked_outside : (pick : Pick) (bytes : List ℕ) (p : Pending) (i : ℕ) → p.place + length p.before.items ≤ length bytes → ((p.place ≤ i) × (i < p.place + length p.before.items) → ⊥) → get_or (picked pick bytes p) i 0 ≡ get_or bytes i 0
picked_outside Keep bytes p i fits out = refl
picked_outside Revert bytes p i fits out = over_outside bytes p.place p.before.items fits i out
picked_outside (Fill fill) bytes p i fits out =
    let long = length-replicate {A = ℕ} (length p.before.items) fill in
    over_outside bytes p.place (replicate (length p.before.items) fill) (omega (arith, fits, long)) i (λ inside. out (inside.0, omega (arith, inside.1, long)))

all_outside : (pick : Pick) (bytes : List ℕ) (ps : List Pending) (i : ℕ) → AreInside (length bytes) ps → (IsPending (map range_of ps) i → ⊥) → get_or (all_picked pick bytes ps) i 0 ≡ get_or bytes i 0
all_outside pick bytes [] i inside free = refl
all_outside pick bytes (p ∷ ps) i inside free =
    all_outside pick (picked pick bytes p) ps i (inside_of _ _ ps (sym (length-picked pick bytes p inside.0)) inside.1) (λ later. free (inr later))
    ∙ picked_outside pick bytes p i inside.0 (λ here. free (inl here))

all_kept : (bytes : List ℕ) (ps : List Pending) → all_picked Keep bytes ps ≡ bytes
all_kept bytes [] = refl
all_kept bytes (p ∷ ps) = all_kept bytes ps

filled_here : (fill : ℕ) (bytes : List ℕ) (p : Pending) (i : ℕ) → p.place + length p.before.items ≤ length bytes → (p.place ≤ i) × (i < p.place + length p.before.items) → get_or (picked (Fill fill) bytes p) i 0 ≡ fill
filled_here fill bytes p i fits inside =
    let long = length-replicate {A = ℕ} (length p.before.items) fill in
    over_inside bytes p.place (replicate (length p.before.items) fill) (omega (arith, fits, long)) i inside.0 (omega (arith, inside.1, long))
    ∙ get_or-replicate (length p.before.items) (i - p.place) fill 0 (omega (arith, inside.0, inside.1))

filled_still : (fill : ℕ) (bytes : List ℕ) (p : Pending) (i : ℕ) → p.place + length p.before.items ≤ length bytes → get_or bytes i 0 ≡ fill → get_or (picked (Fill fill) bytes p) i 0 ≡ fill
filled_still fill bytes p i fits is =
    ⊎_elim
    (λ before. picked_outside (Fill fill) bytes p i fits (λ inside. omega (arith, inside.0, before)) ∙ is)
    (λ le. ⊎_elim (λ lt. filled_here fill bytes p i fits (le, lt)) (λ behind. picked_outside (Fill fill) bytes p i fits (λ inside. omega (arith, inside.1, behind)) ∙ is) (cases_lt i (p.place + length p.before.items)))
    (cases_lt i p.place)

all_filled : (fill : ℕ) (bytes : List ℕ) (ps : List Pending) (i : ℕ) → AreInside (length bytes) ps → (get_or bytes i 0 ≡ fill) ⊎ IsPending (map range_of ps) i → get_or (all_picked (Fill fill) bytes ps) i 0 ≡ fill
all_filled fill bytes [] i inside (inl is) = is
all_filled fill bytes [] i inside (inr none) = absurd none
all_filled fill bytes (p ∷ ps) i inside (inl is) =
    all_filled fill (picked (Fill fill) bytes p) ps i (inside_of _ _ ps (sym (length-picked (Fill fill) bytes p inside.0)) inside.1) (inl (filled_still fill bytes p i inside.0 is))
all_filled fill bytes (p ∷ ps) i inside (inr (inl here)) =
    all_filled fill (picked (Fill fill) bytes p) ps i (inside_of _ _ ps (sym (length-picked (Fill fill) bytes p inside.0)) inside.1) (inl (filled_here fill bytes p i inside.0 here))
all_filled fill bytes (p ∷ ps) i inside (inr (inr later)) =
    all_filled fill (picked (Fill fill) bytes p) ps i (inside_of _ _ ps (sym (length-picked (Fill fill) bytes p inside.0)) inside.1) (inr later)

pub torn_by : (pick : Pick) (bytes new : List ℕ) (ps : List Pending) → AreInside (length bytes) ps → new ≡ all_picked pick bytes ps → ((i : ℕ) → get_or new i 0 < 256)
    → IsTornBy pick (record { bytes = bytes; pending = map range_of ps }) (all_picked Revert bytes ps) new
torn_by pick bytes new ps inside is below = record {
  torn = record {
    len = ap length is ∙ length-all_picked pick bytes ps inside;
    same = λ i lt free. ap (λ (l : List ℕ). get_or l i 0) is ∙ all_outside pick bytes ps i inside free;
    bytes = below;
  };
  picks = λ i lt pending. ap (λ (l : List ℕ). get_or l i 0) is ∙ at pick i pending;
}
  where
    at : (pick : Pick) (i : ℕ) → IsPending (map range_of ps) i → get_or (all_picked pick bytes ps) i 0 ≡ picked_byte pick (get_or bytes i 0) (get_or (all_picked Revert bytes ps) i 0)
    at Keep i pending = ap (λ (l : List ℕ). get_or l i 0) (all_kept bytes ps)
    at Revert i pending = refl
    at (Fill fill) i pending = all_filled fill bytes ps i inside (inr pending)

-- ---- the file that is seen

abbrev pub seen : List ℕ → List Pending → Versions
seen bytes ps = record { read = record { bytes = bytes; pending = map range_of (reverse ps) }; synced = all_picked Revert bytes (reverse ps) }

-- one range more is pending, and the bytes differ there at most
pub hold_is : (bytes new : List ℕ) (p : Pending) (ps items : List Pending) (len : ℕ) (old : Versions) → length new ≡ length bytes → p.place + len ≤ length bytes → p.before.items ≡ take len (drop p.place bytes)
    → ((i : ℕ) → ((p.place ≤ i) × (i < p.place + len) → ⊥) → get_or new i 0 ≡ get_or bytes i 0) → items ≡ ps ++ p ∷ [] → seen bytes ps ≡ old
    → seen new items ≡ record { read = record { bytes = new; pending = (p.place, len) ∷ old.read.pending }; synced = old.synced }
hold_is bytes new p ps items len old long fits was same put is =
    let size : length p.before.items ≡ len = ap length was ∙ length-take-le len (drop p.place bytes) (omega (arith, fits, length-drop p.place bytes)) in
    let again : overlaid new p.place p.before.items ≡ bytes =
    back_again bytes new p.before.items p.place long (omega (arith, fits, size)) (was ∙ ap (λ k. take k (drop p.place bytes)) (sym size))
    (λ i out. same i (λ inside. out (inside.0, omega (arith, inside.1, size)))) in
    let qs : List Pending = reverse ps in
    let held : List ℕ → ℕ → Versions = λ b k. record { read = record { bytes = new; pending = (p.place, k) ∷ map range_of qs }; synced = all_picked Revert b qs } in
    let all : List Pending → Versions = λ l. record { read = record { bytes = new; pending = map range_of l }; synced = all_picked Revert new l } in
    let first : seen new items ≡ held (overlaid new p.place p.before.items) (length p.before.items) = ap all (ap reverse put ∙ reverse-append ps (p ∷ [])) in
    let then : held (overlaid new p.place p.before.items) (length p.before.items) ≡ held bytes (length p.before.items) = ap (λ (b : List ℕ). held b (length p.before.items)) again in
    let last : held bytes (length p.before.items) ≡ held bytes len = ap (held bytes) size in
    first ∙ then ∙ last ∙ ap (λ (v : Versions). record { read = record { bytes = new; pending = (p.place, len) ∷ v.read.pending }; synced = v.synced }) is

-- and it is inside the file
pub hold_inside : (bytes : List ℕ) (p : Pending) (ps items : List Pending) (len : ℕ) → AreInside (length bytes) ps → p.place + len ≤ length bytes → p.before.items ≡ take len (drop p.place bytes) → items ≡ ps ++ p ∷ []
    → AreInside (length bytes) items
hold_inside bytes p ps items len inside fits was put =
    let size : length p.before.items ≡ len = ap length was ∙ length-take-le len (drop p.place bytes) (omega (arith, fits, length-drop p.place bytes)) in
    subst (AreInside (length bytes)) (sym put) (inside_push (length bytes) ps p inside (omega (arith, fits, size)))

-- written back to where a vector keeps them
pub written_back : (new old : List ℕ) (n : ℕ) → length new ≡ n → take n (new ++ drop (length new) old) ≡ new
written_back new old n long = ap (λ k. take k (new ++ drop (length new) old)) (sym long) ∙ take-append_seam new (drop (length new) old)
