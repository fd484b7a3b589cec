-- Directories that a journal begins on, what removes leftovers, and why a load has no answer.
use Rattle.std.proofs.Common.{◌≡◌, inl, inr, ℕ, zero, suc, ◌≤◌, Bool, true, false, cond, List, [], ◌∷◌, ◌++◌, map, Contains, Option, None, Some, codes, refl, sym, ap, subst, ◌∙◌, arith}
use Rattle.std.specs.Prelude.{Result, Err, is_some, slice_index}
use Rattle.std.specs.List.{AllByRecursion}
use Rattle.std.specs.FinMap as finite
use Rattle.std.specs.Ordering.{eq_by_cmp, nat_cmp}
use Rattle.std.specs.Cmp.Lexicographic.{slice_cmp}
use Rattle.std.proofs.lemmas.Option.{same_Some, none-some}
use Rattle.std.proofs.lemmas.List.Elements.{All-nil, All-cons, All-head}
use Rattle.amq_model.specs.declared.record.Placed.{Placed}
use Rattle.amq_model.specs.declared.refusal.DiskCall.TheVariants.{Read, Sync}
use Rattle.amq_model.specs.declared.directory.DirFault.TheVariants.{Version}
use Rattle.amq_model.specs.RecordAt.{Spot}
use Rattle.amq_model.specs.Names.{control_name}
use Rattle.amq_model.specs.Directory.{placed}
use Rattle.amq_model.specs.Files.{FileName, File, Files, Range, IsPending}
use Rattle.amq_model.specs.Calls.{Past}
use Rattle.amq_model.specs.Leaves.{IsThere}
use Rattle.amq_model.proofs.Crashes.{file, one, has_one}
use Rattle.amq_model.proofs.Lookups.{same_true, same_other}
use Rattle.amq_model.proofs.Literals.{unequal}
use Rattle.amq_io.specs.Cause.{Faults}
use Rattle.amq_scan.specs.Segments.{Segment, records_of, IsNamed, IsSegment, AreClosed, IsClosedDirectory}
use Rattle.amq_scan.proofs.Examples.{hi_at}
use Rattle.amq_loader.specs.declared.loaded.Loaded.{Loaded}
use Rattle.amq_loader.specs.declared.faults.LoadFault.{LoadFault}
use Rattle.amq_loader.specs.declared.faults.LoadFault.TheVariants as f
use Rattle.amq_loader.specs.Loads.{is_leftover, IsTidy}
use Rattle.amq_loader.specs.Bases.{AreNamed, IsBaseFile, IsBase, AreThere, AreApart, Clears, Cleared}
use Rattle.amq_loader.specs.Faults.{HasLoadFault}
use Rattle.amq_loader.proofs.Examples.{with_hi, hi_is_found, one_loaded, durably, directory, of_version_3, version_3, one_file, a_sound_directory, controlled}

-- ---- names and ids

abbrev bare : FileName → ℕ → Segment
bare name id = record { name = name; id = id; spots = [] }

pub two_names : AreNamed 9 (bare (codes "activemq-data-9.amq") 1 ∷ bare (codes "activemq-data-02.amq") 2 ∷ [])
two_names = ((9, refl, omega arith), apart, ((2, refl, omega arith), (λ p. p), tt)) where
  apart : IsNamed (codes "activemq-data-9.amq") (bare (codes "activemq-data-02.amq") 2 ∷ []) → ⊥
  apart (inl e) = unequal 48 57 tt (ap (λ (n : FileName). slice_index n 14) e)
  apart (inr p) = p

pub a_number_above_the_highest : AreNamed 8 (bare (codes "activemq-data-9.amq") 1 ∷ []) → ⊥
a_number_above_the_highest h = let e : 9 ≡ h.0.0 = same_Some 9 h.0.0 h.0.1 in omega (arith, e, h.0.2)

pub one_name_twice : AreNamed 9 (bare (codes "activemq-data-9.amq") 1 ∷ bare (codes "activemq-data-9.amq") 2 ∷ []) → ⊥
one_name_twice h = h.1 (inl refl)

pub a_name_without_a_number : AreNamed 9 (bare (codes "notes.txt") 1 ∷ []) → ⊥
a_name_without_a_number h = none-some h.0.0 h.0.1

pub an_id_up_to_the_highest : IsBaseFile 9 (bare (codes "activemq-data-1.amq") 9)
an_id_up_to_the_highest = record { id = omega arith; few = omega arith }

pub an_id_above_the_highest : IsBaseFile 8 (bare (codes "activemq-data-1.amq") 9) → ⊥
an_id_above_the_highest h = omega (arith, h.id)

-- ---- bases

abbrev name : FileName
name = codes "activemq-data-1.amq"

-- one file with one record, of which this is pending
abbrev with_pending : List Range → Files
with_pending pending = one name (file with_hi pending)

-- the disk reads this, and no call was made
abbrev fresh : Files → Option Past
fresh s = Some (record { start = s; calls = []; moment = 0 })

-- its one file
file_of_one : (pending : List Range) (n : FileName) (g : File) → finite.get (with_pending pending) n ≡ Some g → (name ≡ n) × (file with_hi pending ≡ g)
file_of_one pending n g there = by (eq_by_cmp (slice_cmp nat_cmp) n name) refl (sym (has_one name (file with_hi pending) n) ∙ there) where
  by : (b : Bool) → eq_by_cmp (slice_cmp nat_cmp) n name ≡ b → cond b (Some (file with_hi pending)) None ≡ Some g → (name ≡ n) × (file with_hi pending ≡ g)
  by true is e = (sym (same_true n name is), same_Some (file with_hi pending) g e)
  by false is e = absurd (none-some g e)

abbrev with_record : Segment
with_record = record { name = name; id = 1; spots = hi_at 16 ∷ [] }

record_there : IsSegment 0 with_record with_hi
record_there = record { named = refl; long = omega arith; short = omega arith; version = refl; user_version = refl; id = refl; scan = hi_is_found }

one_closed : IsClosedDirectory 0 (with_record ∷ []) (with_pending [])
one_closed = record {
  ascending = (omega arith, tt);
  there = (record { file = file with_hi []; there = has_one name (file with_hi []) name; is = record_there; still = λ i p. p }, tt);
  only = λ n g named long there. inl (file_of_one [] n g there).0;
  uncontrolled = has_one name (file with_hi []) control_name;
}

pub one_durable_file : IsBase (fresh (with_pending [])) 0 1 one_loaded.base
one_durable_file = record {
  files = with_record ∷ [];
  records = refl;
  ascending = (omega arith, tt);
  named = ((1, refl, omega arith), (λ p. p), tt);
  each = (record { id = omega arith; few = omega arith }, tt);
  reads = λ s is. subst (IsClosedDirectory 0 (with_record ∷ [])) (sym is) one_closed;
}

-- the same where the disk tells no content
pub untold : IsBase None 0 1 one_loaded.base
untold = record {
  files = with_record ∷ [];
  records = refl;
  ascending = (omega arith, tt);
  named = ((1, refl, omega arith), (λ p. p), tt);
  each = (record { id = omega arith; few = omega arith }, tt);
  reads = tt;
}

-- a byte of the record is pending
pub a_pending_byte : (highest : ℕ) (base : List Placed) → IsBase (fresh (with_pending ((16, 1) ∷ []))) 0 highest base → ⊥
a_pending_byte highest base h = by h.files closed.there (closed.only name (file with_hi ((16, 1) ∷ [])) refl (omega arith) (has_one name (file with_hi ((16, 1) ∷ [])) name)) where
  closed : IsClosedDirectory 0 h.files (with_pending ((16, 1) ∷ []))
  closed = h.reads (with_pending ((16, 1) ∷ [])) refl

  by : (gs : List Segment) → AreClosed 0 (with_pending ((16, 1) ∷ [])) gs → IsNamed name gs → ⊥
  by [] there named = named
  by (g ∷ gs) there named = subst (λ (x : File). (i : ℕ) → IsPending x.pending i → ⊥) (sym (file_of_one ((16, 1) ∷ []) g.name there.0.file there.0.there).1) there.0.still 16 (inl (omega arith, omega arith))

-- each record is in a file whose id isn't above the highest
first_within : (highest : ℕ) (gs : List Segment) → AllByRecursion (IsBaseFile highest) gs → (p : Placed) (ps : List Placed) → records_of gs ≡ p ∷ ps → p.file ≤ highest
first_within highest [] each p ps is = absurd cc
first_within highest (g ∷ gs) each p ps is = of (first_within highest gs each.1 p ps) g.spots refl where
  of : (records_of gs ≡ p ∷ ps → p.file ≤ highest) → (spots : List Spot) → g.spots ≡ spots → p.file ≤ highest
  of rest [] none = rest (ap (λ (l : List Spot). map (placed g.id) l ++ records_of gs) (sym none) ∙ is)
  of rest (s ∷ ss) some =
      let e : placed g.id s ∷ (map (placed g.id) ss ++ records_of gs) ≡ p ∷ ps = ap (λ (l : List Spot). map (placed g.id) l ++ records_of gs) (sym some) ∙ is in
      omega (arith, each.0.id, ap (first_file 0) e) where
        first_file : ℕ → List Placed → ℕ
        first_file none [] = none
        first_file none (q ∷ qs) = q.file

pub a_file_above_the_highest : (past : Option Past) → IsBase past 0 0 one_loaded.base → ⊥
a_file_above_the_highest past h = omega (arith, first_within 0 h.files h.each (placed 1 (hi_at 16)) [] h.records)

-- ---- files that are there

pub the_loaded_file_is_there : AreThere one_loaded.files (with_pending [])
the_loaded_file_is_there = All-cons (λ d. IsThere d.name (with_pending [])) _ [] (ap is_some (has_one name (file with_hi []) name)) (All-nil _)

pub another_file_is_not : AreThere (record { name = codes "activemq-data-2.amq"; id = 2; len = 16; version = 2 } ∷ []) (with_pending []) → ⊥
another_file_is_not h =
    let e : false ≡ true = sym (ap is_some (has_one name (file with_hi []) (codes "activemq-data-2.amq"))) ∙ All-head (λ d. IsThere d.name (with_pending [])) _ [] h in
    absurd cc

-- ---- removing leftovers

abbrev left : FileName
left = codes "activemq-data-9.amq.tmp"

abbrev notes : FileName
notes = codes "notes.txt"

pub two_leftovers_are_apart : AreApart (left ∷ codes "activemq-data-9.amq.cmp" ∷ [])
two_leftovers_are_apart = (others, ((λ c. omega (arith, c.1)), tt)) where
  others : Contains (codes "activemq-data-9.amq.cmp" ∷ []) left → ⊥
  others (zero, low, is) = unequal 99 116 tt (ap (λ (n : FileName). slice_index n 20) is)
  others (suc k, low, is) = omega (arith, low)

pub one_leftover_twice : AreApart (left ∷ left ∷ []) → ⊥
one_leftover_twice h = h.0 (0, omega arith, refl)

abbrev unsettled : Files
unsettled = directory ((left, 0x4a ∷ []) ∷ (notes, 0x68 ∷ []) ∷ [])

abbrev settled : Files
settled = directory ((notes, 0x68 ∷ []) ∷ [])

in_unsettled : (n : FileName) → finite.get unsettled n ≡ finite.find (slice_cmp nat_cmp) n ((left, file (0x4a ∷ []) []) ∷ (notes, file (0x68 ∷ []) []) ∷ [])
in_unsettled n = finite.get-from_sorted (slice_cmp nat_cmp) _ n tt

in_settled : (n : FileName) → finite.get settled n ≡ finite.find (slice_cmp nat_cmp) n ((notes, file (0x68 ∷ []) []) ∷ [])
in_settled n = finite.get-from_sorted (slice_cmp nat_cmp) _ n tt

others_are_spared : Clears (left ∷ []) unsettled settled
others_are_spared n other = in_settled n ∙ sym (in_unsettled n ∙ ap (λ (b : Bool). cond b (Some (file (0x4a ∷ []) [])) (finite.find (slice_cmp nat_cmp) n ((notes, file (0x68 ∷ []) []) ∷ []))) (same_other n left (λ e. other (0, omega arith, sym e))))

pub one_is_removed : Cleared (left ∷ []) unsettled settled
one_is_removed = record { others = others_are_spared; gone = gone } where
  gone : (n : FileName) → Contains (left ∷ []) n → finite.get settled n ≡ None
  gone n (zero, low, is) = subst (λ (m : FileName). finite.get settled m ≡ None) is (in_settled left)
  gone n (suc k, low, is) = absurd (omega (arith, low))

-- it may be there so far
pub none_is_removed_yet : Clears (left ∷ []) unsettled unsettled
none_is_removed_yet n other = refl

pub none_is_removed : Cleared (left ∷ []) unsettled unsettled → ⊥
none_is_removed h = none-some _ (sym (h.gone left (0, omega arith, refl)) ∙ in_unsettled left)

pub notes_are_removed : Clears (left ∷ []) unsettled (directory []) → ⊥
notes_are_removed h = none-some _ (sym (finite.get-from_sorted (slice_cmp nat_cmp) [] notes tt) ∙ h notes other ∙ in_unsettled notes) where
  other : Contains (left ∷ []) notes → ⊥
  other (zero, low, is) = unequal 97 110 tt (ap (λ (n : FileName). slice_index n 0) is)
  other (suc k, low, is) = omega (arith, low)

-- one name is there, and it is no leftover's
pub notes_are_tidy : IsTidy settled
notes_are_tidy n leftover = by (eq_by_cmp (slice_cmp nat_cmp) n notes) refl where
  by : (b : Bool) → eq_by_cmp (slice_cmp nat_cmp) n notes ≡ b → finite.get settled n ≡ None
  by true is = absurd (let e : false ≡ true = ap is_leftover (sym (same_true n notes is)) ∙ leftover in cc)
  by false is = in_settled n ∙ ap (λ (b : Bool). cond b (Some (file (0x68 ∷ []) [])) None) is

pub a_leftover_is_untidy : IsTidy unsettled → ⊥
a_leftover_is_untidy h = none-some _ (sym (h left refl) ∙ in_unsettled left)

-- ---- why there is no answer

-- a load that gave no answer
abbrev refused : LoadFault → Result Loaded LoadFault
refused fault = Err fault

pub for_its_version : HasLoadFault 0 (refused (f.Directory (Version name 3))) (fresh (directory of_version_3)) (0, None) (0, None)
for_its_version = (version_3, omega arith, refl)

pub for_a_control_file : HasLoadFault 0 (refused f.NotBuilt) (fresh (directory controlled)) (0, None) (0, None)
for_a_control_file = (ap is_some (finite.get-from_sorted (slice_cmp nat_cmp) _ control_name tt), omega arith, refl)

pub for_a_call_that_failed : HasLoadFault 0 (refused (f.Disk Read)) None (4, None) (5, Some Read)
for_a_call_that_failed = (omega arith, omega arith, refl)

pub without_a_control_file : (old new : Faults) → HasLoadFault 0 (refused f.NotBuilt) (fresh (directory one_file)) old new → ⊥
without_a_control_file old new h =
    let e : false ≡ true = sym (ap is_some (finite.get-from_sorted (slice_cmp nat_cmp) (durably one_file) control_name tt)) ∙ h.0 in
    absurd cc

pub without_a_fault : (old new : Faults) → HasLoadFault 0 (refused (f.Directory (Version name 3))) (fresh (directory one_file)) old new → ⊥
without_a_fault old new h = a_sound_directory _ h.0

pub without_a_rise : HasLoadFault 0 (refused (f.Disk Read)) None (4, None) (4, Some Read) → ⊥
without_a_rise h = omega (arith, h.0)

pub another_call_failed_last : HasLoadFault 0 (refused (f.Disk Read)) None (4, None) (5, Some Sync) → ⊥
another_call_failed_last h = absurd (let e : Some Sync ≡ Some Read = h.2 in cc)
