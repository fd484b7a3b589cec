-- Directories of data files, and what isn't one.
use Rattle.std.proofs.Common.{◌≡◌, inl, inr, ℕ, ◌≤◌, Bool, true, false, cond, List, [], ◌∷◌, ◌++◌, length, take, replicate, None, Some, codes, refl, sym, ap, subst, ◌∙◌, arith}
use Rattle.std.specs.FinMap as finite
use Rattle.std.specs.Ordering.{eq_by_cmp, nat_cmp}
use Rattle.std.specs.Cmp.Lexicographic.{slice_cmp}
use Rattle.std.proofs.lemmas.Cmp.{nat_list_cmp_total}
use Rattle.std.proofs.lemmas.Option.{same_Some, none-some}
use Rattle.amq_model.specs.RecordAt.{Spot}
use Rattle.amq_model.specs.Scan.{IsScan}
use Rattle.amq_model.specs.declared.record.Placed.{Placed}
use Rattle.amq_model.specs.Directory.{Listing, file_of, data_files, fault, SaysControl, IsJoined, placed}
use Rattle.amq_model.proofs.Alone.{alone}
use Rattle.amq_model.specs.Files.{FileName, Files, File, IsPending}
use Rattle.amq_model.specs.Names.{control_name}
use Rattle.amq_model.proofs.Lookups.{same_true, same_other, get-insert_same}
use Rattle.amq_model.proofs.Literals.{none_behind}
use Rattle.amq_model.proofs.Crashes.{file, nothing, one, has_one}
use Rattle.amq_record.specs.Reading.{compact_at, read_at, front_of, fields_at, layout_at, typed_at, sized_at, len_at}
use Rattle.amq_scan.specs.Segments.{Segment, IsNamed, IsSegment, IsDirectory, IsLeftOf}
use Rattle.amq_scan.proofs.Examples.{scan_by_reading, header, add_hi, add_yo, hi_at, yo_at}

-- ---- one file

abbrev name : FileName
name = codes "activemq-data-1.amq"

-- the data file of id 1 with these records
abbrev with_records : List Spot → Segment
with_records spots = record { name = name; id = 1; spots = spots }

-- a directory of one file has no other name
named_one : (n : FileName) (f g : File) (q : FileName) → finite.get (one n f) q ≡ Some g → n ≡ q
named_one n f g q there = by (eq_by_cmp (slice_cmp nat_cmp) q n) refl (sym (has_one n f q) ∙ there) where
  by : (b : Bool) → eq_by_cmp (slice_cmp nat_cmp) q n ≡ b → cond b (Some f) None ≡ Some g → n ≡ q
  by true is e = sym (same_true q n is)
  by false is e = absurd (none-some g e)

-- its one file
file_of_one : (f g : File) → finite.get (one name f) name ≡ Some g → f ≡ g
file_of_one f g there = same_Some f g (sym (has_one name f name) ∙ there)

header_alone : IsSegment 0 (with_records []) (header 1)
header_alone = record { named = refl; long = omega arith; short = omega arith; version = refl; user_version = refl; id = refl; scan = λ p low. none_behind (header 1) 1 p low }

-- two records of 25 bytes
abbrev both : List ℕ
both = header 1 ++ (add_hi ++ add_yo)

both_are_found : IsScan both 1 2 (hi_at 16 ∷ yo_at 41 ∷ [])
unfolding compact_at read_at front_of fields_at layout_at typed_at sized_at len_at
both_are_found = scan_by_reading _ 1 (hi_at 16 ∷ yo_at 41 ∷ []) refl refl refl

two_records : IsSegment 0 (with_records (hi_at 16 ∷ yo_at 41 ∷ [])) both
two_records = record { named = refl; long = omega arith; short = omega arith; version = refl; user_version = refl; id = refl; scan = both_are_found }

-- ---- directories

pub no_file : IsDirectory 0 0 [] nothing
no_file = record {
  ascending = tt;
  there = tt;
  only = λ n f named long there. none-some f (sym (finite.get-empty (slice_cmp nat_cmp) n) ∙ there);
  uncontrolled = finite.get-empty (slice_cmp nat_cmp) control_name;
}

pub a_header_alone : IsDirectory 0 0 (with_records [] ∷ []) (one name (file (header 1) []))
a_header_alone = record {
  ascending = (omega arith, tt);
  there = (record { file = file (header 1) []; there = has_one name (file (header 1) []) name; is = header_alone; behind = λ i p. absurd p }, tt);
  only = λ n f named long there. inl (named_one name (file (header 1) []) f n there);
  uncontrolled = has_one name (file (header 1) []) control_name;
}

-- a data file's name with fewer bytes than a header doesn't count
pub fifteen_bytes : IsDirectory 0 0 [] (one name (file (take 15 (header 1)) []))
fifteen_bytes = record {
  ascending = tt;
  there = tt;
  only = λ n f named long there. short f long (named_one name (file (take 15 (header 1)) []) f n there) there;
  uncontrolled = has_one name (file (take 15 (header 1)) []) control_name;
} where
  short : (f : File) {n : FileName} → 16 ≤ length f.bytes → name ≡ n → finite.get (one name (file (take 15 (header 1)) [])) n ≡ Some f → ⊥
  short f long is there =
      let e : file (take 15 (header 1)) [] ≡ f = file_of_one (file (take 15 (header 1)) []) f (ap (finite.get (one name (file (take 15 (header 1)) []))) is ∙ there) in
      omega (arith, long, ap (λ (g : File). length g.bytes) e)

-- the second record is pending, so the first one alone is durable
abbrev second_pending : File
second_pending = file both ((41, 25) ∷ [])

pub one_of_two_is_durable : IsDirectory 0 1 (with_records (hi_at 16 ∷ yo_at 41 ∷ []) ∷ []) (one name second_pending)
one_of_two_is_durable = record {
  ascending = (omega arith, tt);
  there = (record { file = second_pending; there = has_one name second_pending name; is = two_records; behind = behind }, tt);
  only = λ n f named long there. inl (named_one name second_pending f n there);
  uncontrolled = has_one name second_pending control_name;
} where
  behind : (i : ℕ) → IsPending ((41, 25) ∷ []) i → 41 ≤ i
  behind i (inl p) = p.0
  behind i (inr p) = absurd p

-- the file of the lower id goes first, whatever the names say
abbrev other_name : FileName
other_name = codes "activemq-data-2.amq"

abbrev named_other : ℕ → Segment
named_other id = record { name = other_name; id = id; spots = [] }

abbrev two : Files
two = finite.insert (one name (file (header 1) [])) other_name (file (header 0) [])

pub two_by_their_ids : IsDirectory 0 0 (named_other 0 ∷ with_records [] ∷ []) two
two_by_their_ids = record {
  ascending = (omega arith, (omega arith, tt));
  there = (
    record { file = file (header 0) []; there = get-insert_same (one name (file (header 1) [])) other_name (file (header 0) []); is = lower; behind = λ i p. absurd p },
    (record { file = file (header 1) []; there = at name ∙ has_one name (file (header 1) []) name; is = header_alone; behind = λ i p. absurd p }, tt),
  );
  only = λ n f named long there. by n f (eq_by_cmp (slice_cmp nat_cmp) n other_name) refl (sym (at n) ∙ there);
  uncontrolled = at control_name ∙ has_one name (file (header 1) []) control_name;
} where
  at : (q : FileName) → finite.get two q ≡ cond (eq_by_cmp (slice_cmp nat_cmp) q other_name) (Some (file (header 0) [])) (finite.get (one name (file (header 1) [])) q)
  at q = finite.get-insert nat_list_cmp_total (one name (file (header 1) [])) other_name (file (header 0) []) q

  lower : IsSegment 0 (named_other 0) (header 0)
  lower = record { named = refl; long = omega arith; short = omega arith; version = refl; user_version = refl; id = refl; scan = λ p low. none_behind (header 0) 0 p low }

  by : (n : FileName) (f : File) (b : Bool) → eq_by_cmp (slice_cmp nat_cmp) n other_name ≡ b → cond b (Some (file (header 0) [])) (finite.get (one name (file (header 1) [])) n) ≡ Some f → IsNamed n (named_other 0 ∷ with_records [] ∷ [])
  by n f true is e = inl (sym (same_true n other_name is))
  by n f false is e = inr (inl (named_one name (file (header 1) []) f n e))

-- ---- what isn't one

pub with_a_control_file : (wanted sure : ℕ) (gs : List Segment) (f : File) → IsDirectory wanted sure gs (one control_name f) → ⊥
with_a_control_file wanted sure gs f d = none-some f (sym d.uncontrolled ∙ has_one control_name f control_name)

pub an_unlisted_file : (wanted sure : ℕ) → IsDirectory wanted sure [] (one name (file (header 1) [])) → ⊥
an_unlisted_file wanted sure d = d.only name (file (header 1) []) refl (omega arith) (has_one name (file (header 1) []) name)

-- a listed file that isn't there
pub a_missing_file : (wanted sure : ℕ) → IsDirectory wanted sure (with_records [] ∷ []) nothing → ⊥
a_missing_file wanted sure d = none-some d.there.0.file (sym (finite.get-empty (slice_cmp nat_cmp) name) ∙ d.there.0.there)

-- a pending record isn't durable
pub two_of_two_are_durable : (wanted : ℕ) → IsDirectory wanted 2 (with_records (hi_at 16 ∷ yo_at 41 ∷ []) ∷ []) (one name second_pending) → ⊥
two_of_two_are_durable wanted d =
    let t = d.there.0 in
    let same : t.file ≡ second_pending = sym (file_of_one second_pending t.file t.there) in
    let low : 66 ≤ 41 = subst (λ (f : File). (i : ℕ) → IsPending f.pending i → 66 ≤ i) same t.behind 41 (inl (omega arith, omega arith)) in
    omega (arith, low)

pub against_their_ids : (wanted sure : ℕ) (s : Files) → IsDirectory wanted sure (with_records [] ∷ named_other 0 ∷ []) s → ⊥
against_their_ids wanted sure s d = omega (arith, d.ascending.1.0)

pub two_of_one_id : (wanted sure : ℕ) (s : Files) → IsDirectory wanted sure (with_records [] ∷ named_other 1 ∷ []) s → ⊥
two_of_one_id wanted sure s d = omega (arith, d.ascending.1.0)

-- ---- what is left of one

abbrev two_in_one : List Segment
two_in_one = with_records (hi_at 16 ∷ yo_at 41 ∷ []) ∷ []

entries_of : (bytes : List ℕ) → finite.entries (one name bytes) ≡ (name, bytes) ∷ []
entries_of bytes = alone name bytes (one name bytes) (has_one name bytes name) (λ q ne. has_one name bytes q ∙ ap (λ b. cond b (Some bytes) None) (same_other q name ne))

-- the pending one was torn
abbrev torn : List ℕ
torn = header 1 ++ (add_hi ++ replicate 25 0)

first_is_found : IsScan torn 1 2 (hi_at 16 ∷ [])
unfolding compact_at read_at front_of fields_at layout_at typed_at sized_at len_at
first_is_found = scan_by_reading _ 1 (hi_at 16 ∷ []) refl refl refl

pub the_durable_one_is_left : IsLeftOf 0 1 two_in_one (one name torn)
the_durable_one_is_left = record {
  sound = subst (λ (l : Listing). fault l None 0 ≡ None) (sym (entries_of torn)) refl;
  uncontrolled = has_one name torn control_name;
  says = subst (λ (l : Listing). SaysControl l None) (sym (entries_of torn)) (λ bytes c e. absurd cc);
  rest = [];
  some = tt;
  joined = subst (λ (l : Listing). IsJoined (data_files l None) (placed 1 (hi_at 16) ∷ [])) (sym (entries_of torn)) (hi_at 16 ∷ [], first_is_found, [], refl, refl);
}

pub both_are_left : IsLeftOf 0 1 two_in_one (one name both)
both_are_left = record {
  sound = subst (λ (l : Listing). fault l None 0 ≡ None) (sym (entries_of both)) refl;
  uncontrolled = has_one name both control_name;
  says = subst (λ (l : Listing). SaysControl l None) (sym (entries_of both)) (λ bytes c e. absurd cc);
  rest = placed 1 (yo_at 41) ∷ [];
  some = inl (refl, tt);
  joined = subst (λ (l : Listing). IsJoined (data_files l None) (placed 1 (hi_at 16) ∷ placed 1 (yo_at 41) ∷ [])) (sym (entries_of both)) (hi_at 16 ∷ yo_at 41 ∷ [], both_are_found, [], refl, refl);
}

-- no crash leaves the durable one out
pub none_is_left : IsLeftOf 0 1 two_in_one (one name (header 1)) → ⊥
none_is_left left = by left.rest (subst (λ (l : Listing). IsJoined (data_files l None) (placed 1 (hi_at 16) ∷ left.rest)) (entries_of (header 1)) left.joined) where
  by : (rest : List Placed) → IsJoined (file_of name (header 1) ∷ []) (placed 1 (hi_at 16) ∷ rest) → ⊥
  by rest ([], scan, others, no_others, is) = let e : placed 1 (hi_at 16) ∷ rest ≡ [] = is ∙ no_others in absurd cc
  by rest (s ∷ ss, scan, others, none, is) = none_behind (header 1) 1 s.place scan.0 s refl scan.2
