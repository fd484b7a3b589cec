-- The directory of a journal, from call to call.
use Rattle.std.proofs.Common.{◌≡◌, ◌⊎◌, inl, inr, ⊎_elim, ℕ, ◌+◌, ◌-◌, ◌^◌, ◌<◌, ◌≤◌, Bool, true, false, List, [], ◌∷◌, ◌++◌, length, take, drop, replicate, codes, Option, None, Some, IsSome, refl, sym, ap, subst, ◌∙◌, arith}
use Rattle.std.specs.Prelude.{All, IsTrue, IfSome, is_some}
use Rattle.std.proofs.lemmas.List.{length-append, take-append-le, take_all}
use Rattle.std.proofs.lemmas.List.Elements.{All-drop, All-replicate, All-weaker}
use Rattle.std.specs.FinMap as finite
use Rattle.amq_model.specs.declared.config.Config.{Config}
use Rattle.amq_model.specs.Configs.{IsConfig}
use Rattle.amq_model.specs.Names.{same, is_data, data_number, control_name}
use Rattle.amq_model.specs.Files.{FileName, Files, File, overlaid}
use Rattle.amq_model.specs.Calls.{Past}
use Rattle.amq_model.specs.Leaves.{AllReads, Told, IsThere, IsWithin}
use Rattle.amq_model.proofs.Keeping.{all_told}
use Rattle.amq_header.specs.Classes.{data_name, temporary_name}
use Rattle.amq_header.proofs.Endings.{mark, mark_of, same_is, same_self}
use Rattle.amq_header.proofs.Exclusive.{data_mark}
use Rattle.amq_header.proofs.Made.{data_is_read}
use Rattle.amq_scan.specs.Written.{Item, IsItem, file_bytes, spelled, end_from}
use Rattle.amq_scan.specs.Segments.{Segment, IsNamed, IsSegment, IsClosed, AreClosed}
use Rattle.amq_scan.proofs.Lengths.{fill_rest}
use Rattle.amq_pool.specs.declared.pool.PoolFile.{PoolFile}
use Rattle.amq_pool.specs.Pools.{header_for, file_for, numbered_file, Making, Made, Unmade}
use Rattle.amq_pool.proofs.Contents.{header_long, file_long}
use Rattle.amq_engine.specs.Puts.{IsPutting, Puts, Put}
use Rattle.amq_engine.specs.Engine.{IsNewItem}
use Rattle.amq_engine.specs.Directory.{segment, all_files, HasName, AreListed, IsInUse, ArePrepared, Stands, StandsNow}
use Rattle.amq_engine.proofs.Putting.{length-overlaid}
use Rattle.amq_engine.proofs.Texts.{whole_put}
use Rattle.amq_engine.proofs.Segments.{number_names, in_use_segment}
use Rattle.amq_engine.proofs.Listing.{has_front, has_back, has_closed, has_used, has_free, listed_data, listed_more, all_files_more, all_files_on, used_id, closed_apart, free_apart, next_apart}

-- ---- names

-- a name is another or it isn't
pub same_or_not : (a b : FileName) → (a ≡ b) ⊎ (a ≡ b → ⊥)
same_or_not a b = by (same a b) refl
  where
    by : (r : Bool) → same a b ≡ r → (a ≡ b) ⊎ (a ≡ b → ⊥)
    by true e = inl (same_is a b e)
    by false e = inr (λ is. differ (sym e ∙ ap (λ (c : FileName). same a c) (sym is) ∙ same_self a))
      where
        differ : false ≡ true → ⊥
        differ e = cc

-- a data file's name has the mark of one
data_marked : (q : FileName) → IsTrue (is_data q) → mark q ≡ 97
data_marked q named = by (data_number q) refl named
  where
    by : (r : Option ℕ) → data_number q ≡ r → IsTrue (is_some r) → mark q ≡ 97
    by None e some = absurd (none some)
      where
        none : IsTrue false → ⊥
        none f = cc
    by (Some n) e some = data_mark q n e

-- the names that a directory of a journal speaks of: the data files' and the control file's
abbrev pub Matters : FileName → Type 0
Matters q = IsTrue (is_data q) ⊎ (q ≡ control_name)

control_marked : mark control_name ≡ 99
control_marked = refl

temporary_marked : (n : ℕ) → mark (temporary_name n) ≡ 116
temporary_marked n = mark_of (data_name n) (codes ".tmp") refl

pub control_apart : (q : FileName) → IsTrue (is_data q) → q ≡ control_name → ⊥
control_apart q named is = omega (arith, control_marked, ap mark is, data_marked q named)

-- a temporary name is none of them
pub temporary_apart : (n : ℕ) (q : FileName) → Matters q → q ≡ temporary_name n → ⊥
temporary_apart n q (inl named) is = omega (arith, temporary_marked n, ap mark is, data_marked q named)
temporary_apart n q (inr control) is = omega (arith, temporary_marked n, ap mark is, ap mark control, control_marked)

-- ---- what is kept

-- what matters but one name, and that name too
pub kept_but : (o s : Files) (n : FileName) → ((q : FileName) → Matters q → (q ≡ n → ⊥) → finite.get s q ≡ finite.get o q) → finite.get s n ≡ finite.get o n → (q : FileName) → Matters q → finite.get s q ≡ finite.get o q
kept_but o s n others here q matters = by (same_or_not q n)
  where
    by : (q ≡ n) ⊎ (q ≡ n → ⊥) → finite.get s q ≡ finite.get o q
    by (inl e) = ap (finite.get s) e ∙ here ∙ sym (ap (finite.get o) e)
    by (inr ne) = others q matters ne

-- closed files are as they were
pub closed_kept : (wanted : ℕ) (o s : Files) (gs : List Segment) → ((q : FileName) → IsNamed q gs → finite.get s q ≡ finite.get o q) → AreClosed wanted o gs → AreClosed wanted s gs
closed_kept wanted o s [] kept a = tt
closed_kept wanted o s (g ∷ gs) kept a = (record { file = a.0.file; there = kept g.name (inl refl) ∙ a.0.there; is = a.0.is; still = a.0.still }, closed_kept wanted o s gs (λ q h. kept q (inr h)) a.1)

pub closed_data : (wanted : ℕ) (o : Files) (gs : List Segment) (q : FileName) → AreClosed wanted o gs → IsNamed q gs → IsTrue (is_data q)
closed_data wanted o [] q a h = absurd h
closed_data wanted o (g ∷ gs) q a (inl e) = subst (λ (n : FileName). IsTrue (is_data n)) e a.0.is.named
closed_data wanted o (g ∷ gs) q a (inr h) = closed_data wanted o gs q a.1 h

closed_more : (wanted : ℕ) (s : Files) (gs : List Segment) (g : Segment) → AreClosed wanted s gs → IsClosed wanted s g → AreClosed wanted s (gs ++ g ∷ [])
closed_more wanted s [] g a is = (is, tt)
closed_more wanted s (f ∷ gs) g a is = (a.0, closed_more wanted s gs g a.1 is)

module _ (config : Config) where
  free_kept : (o s : Files) (fs : List PoolFile) → ((q : FileName) → HasName q fs → finite.get s q ≡ finite.get o q) → ArePrepared config o fs → ArePrepared config s fs
  free_kept o s [] kept a = tt
  free_kept o s (f ∷ fs) kept a = (kept f.name (inl refl) ∙ a.0, free_kept o s fs (λ q h. kept q (inr h)) a.1)

  free_more : (s : Files) (fs : List PoolFile) (f : PoolFile) → ArePrepared config s fs → finite.get s f.name ≡ Some (file_for config f.id) → ArePrepared config s (fs ++ f ∷ [])
  free_more s [] f a is = (is, tt)
  free_more s (g ∷ fs) f a is = (a.0, free_more s fs f a.1 is)

  free_last : (s : Files) (fs : List PoolFile) (f : PoolFile) → ArePrepared config s (fs ++ f ∷ []) → finite.get s f.name ≡ Some (file_for config f.id)
  free_last s [] f a = a.0
  free_last s (g ∷ fs) f a = free_last s fs f a.1

  module _ (closed : List Segment) (used : PoolFile) where
    -- the file in use is as it was
    used_kept : (o s : Files) (sure : ℕ) (items : List Item) → finite.get s used.name ≡ finite.get o used.name → IsInUse config used sure items o → IsInUse config used sure items s
    used_kept o s sure items kept u = record {
      file = u.file;
      there = kept ∙ u.there;
      put = u.put;
      fill = u.fill;
      ahead = u.ahead;
      most = u.most;
      bytes = u.bytes;
      filled = u.filled;
      size = u.size;
      behind = u.behind;
      still = u.still;
    }

    module _ (highest least : ℕ) (free : List PoolFile) (listed : AreListed highest least (all_files closed used free)) (o s : Files) where
      -- all that matters is as it was
      stands_same : ((q : FileName) → Matters q → finite.get s q ≡ finite.get o q) → (sure : ℕ) (items : List Item) → Stands config closed used sure items free o → Stands config closed used sure items free s
      stands_same kept sure items was =
          let listed_kept : (q : FileName) → HasName q (all_files closed used free) → finite.get s q ≡ finite.get o q = λ q h. kept q (inl (listed_data highest least (all_files closed used free) q listed h)) in
          record {
            closed_there = closed_kept config.user_version o s closed (λ q h. kept q (inl (closed_data config.user_version o closed q was.closed_there h))) was.closed_there;
            used_there = used_kept o s sure items (listed_kept used.name (has_used closed used free)) was.used_there;
            free_there = free_kept o s free (λ q h. listed_kept q (has_free q closed used free h)) was.free_there;
            only = λ q file named long there. was.only q file named long (sym (kept q (inl named)) ∙ there);
            uncontrolled = kept control_name (inr refl) ∙ was.uncontrolled;
          }

      -- only the file in use has changed
      stands_used : ((q : FileName) → (q ≡ used.name → ⊥) → finite.get s q ≡ finite.get o q) → (sure new : ℕ) (old items : List Item) → IsInUse config used new items s → Stands config closed used sure old free o → Stands config closed used new items free s
      stands_used others sure new old items now was =
          let named : IsTrue (is_data used.name) = listed_data highest least (all_files closed used free) used.name listed (has_used closed used free) in
          record {
            closed_there = closed_kept config.user_version o s closed (λ q h. others q (λ e. closed_apart highest least closed used free listed (subst (λ (n : FileName). IsNamed n closed) e h))) was.closed_there;
            used_there = now;
            free_there = free_kept o s free (λ q h. others q (λ e. free_apart highest least closed used free listed (subst (λ (n : FileName). HasName n free) e h))) was.free_there;
            only = λ q file of_data long there. found q file of_data long there (same_or_not q used.name);
            uncontrolled = others control_name (λ e. control_apart used.name named (sym e)) ∙ was.uncontrolled;
          }
        where
          found : (q : FileName) (file : File) → IsTrue (is_data q) → 16 ≤ length file.bytes → finite.get s q ≡ Some file → (q ≡ used.name) ⊎ (q ≡ used.name → ⊥) → HasName q (all_files closed used free)
          found q file of_data long there (inl e) = subst (λ (n : FileName). HasName n (all_files closed used free)) (sym e) (has_used closed used free)
          found q file of_data long there (inr ne) = was.only q file of_data long (sym (others q ne) ∙ there)

    -- one file more is prepared
    stands_more : (highest : ℕ) (free : List PoolFile) → highest < 2 ^ 31 - 1 → AreListed highest 0 (all_files closed used free) → (o s : Files)
        → ((q : FileName) → Matters q → (q ≡ data_name (highest + 1) → ⊥) → finite.get s q ≡ finite.get o q) → finite.get s (data_name (highest + 1)) ≡ Some (file_for config (highest + 1))
        → (sure : ℕ) (items : List Item) → Stands config closed used sure items free o → Stands config closed used sure items (free ++ numbered_file (highest + 1) ∷ []) s
    stands_more highest free low listed o s kept new sure items was =
        let files : List PoolFile = all_files closed used free in
        let next : PoolFile = numbered_file (highest + 1) in
        let apart : (q : FileName) → HasName q files → q ≡ data_name (highest + 1) → ⊥ = λ q h e. next_apart highest 0 files listed (omega (arith, low)) (subst (λ (n : FileName). HasName n files) e h) in
        let listed_kept : (q : FileName) → HasName q files → finite.get s q ≡ finite.get o q = λ q h. kept q (inl (listed_data highest 0 files q listed h)) (apart q h) in
        let more = all_files_more closed used free next in
        record {
          closed_there = closed_kept config.user_version o s closed (λ q h. listed_kept q (has_closed q closed used free h)) was.closed_there;
          used_there = used_kept o s sure items (listed_kept used.name (has_used closed used free)) was.used_there;
          free_there = free_more s free next (free_kept o s free (λ q h. listed_kept q (has_free q closed used free h)) was.free_there) new;
          only = λ q file named long there. subst (HasName q) (sym more) (found q file named long there (same_or_not q (data_name (highest + 1))));
          uncontrolled = kept control_name (inr refl) (λ e. control_apart (data_name (highest + 1)) (number_names (data_name (highest + 1)) (highest + 1) (data_is_read (highest + 1) (omega (arith, low)))) (sym e)) ∙ was.uncontrolled;
        }
      where
        found : (q : FileName) (file : File) → IsTrue (is_data q) → 16 ≤ length file.bytes → finite.get s q ≡ Some file → (q ≡ data_name (highest + 1)) ⊎ (q ≡ data_name (highest + 1) → ⊥) → HasName q (all_files closed used free ++ numbered_file (highest + 1) ∷ [])
        found q file named long there (inl e) = has_back q (all_files closed used free) (numbered_file (highest + 1) ∷ []) (inl (sym e))
        found q file named long there (inr ne) = has_front q (all_files closed used free) (numbered_file (highest + 1) ∷ []) (was.only q file named long (sym (kept q (inl named) ne) ∙ there))

    -- the same of a directory that may have one file more
    now_by : (sure new highest : ℕ) (old items : List Item) (free : List PoolFile) → AreListed highest 0 (all_files closed used free) → (o s : Files)
        → ((most : ℕ) (fs : List PoolFile) → AreListed most 0 (all_files closed used fs) → Stands config closed used sure old fs o → Stands config closed used new items fs s)
        → StandsNow config closed used sure old highest free o → StandsNow config closed used new items highest free s
    now_by sure new highest old items free listed o s on (inl was) = inl (on highest free listed was)
    now_by sure new highest old items free listed o s on (inr was) = inr (was.0, on (highest + 1) (free ++ numbered_file (highest + 1) ∷ []) (listed_more highest closed used free was.0 listed) was.1)

-- ---- bytes are put

module _ (config : Config) (closed : List Segment) (used : PoolFile) (sure : ℕ) (items : List Item) (highest : ℕ) (free : List PoolFile) (place : ℕ) (bytes : List ℕ) where
  module _ (is : IsConfig config) (at : place ≡ end_from 2 16 (take sure items)) (written : bytes ≡ spelled 2 used.id (drop sure items)) (waits : sure < length items) (fits : place + length bytes ≤ config.file_size) where
    abbrev Whole : ℕ → List ℕ → Type 0
    Whole put fill = (rest : ℕ) × (overlaid (file_bytes 2 used.id (header_for config used.id) (take put items) fill) place bytes ≡ file_bytes 2 used.id (header_for config used.id) (take (length items) items) (drop rest fill))

    whole : (put : ℕ) (fill : List ℕ) → sure ≤ put → Whole put fill
    whole put fill le = whole_put used.id (header_for config used.id) fill items sure put place bytes (header_long config used.id is) le at written

    used_by : (o s : Files) (was : IsInUse config used sure items o) (new : File) → finite.get s used.name ≡ Some new → IsPutting place bytes was.file new
        → (new.bytes ≡ was.file.bytes) ⊎ (new.bytes ≡ overlaid was.file.bytes place bytes) → IsInUse config used sure items s
    used_by o s was new there putting (inl same) = record {
      file = new;
      there = there;
      put = was.put;
      fill = was.fill;
      ahead = was.ahead;
      most = was.most;
      bytes = same ∙ was.bytes;
      filled = was.filled;
      size = ap length same ∙ was.size;
      behind = λ i p. ⊎_elim (was.behind i) (λ r. omega (arith, r.0, at)) (putting.pending i p);
      still = λ e. absurd (omega (arith, waits, e));
    }
    used_by o s was new there putting (inr over) =
        let all = whole was.put was.fill was.ahead in
        record {
          file = new;
          there = there;
          put = length items;
          fill = drop all.0 was.fill;
          ahead = omega (arith, waits);
          most = omega arith;
          bytes = over ∙ ap (λ (l : List ℕ). overlaid l place bytes) was.bytes ∙ all.1;
          filled = fill_rest all.0 was.fill was.filled;
          size = ap length over ∙ length-overlaid was.file.bytes place bytes (omega (arith, fits, was.size)) ∙ was.size;
          behind = λ i p. ⊎_elim (was.behind i) (λ r. omega (arith, r.0, at)) (putting.pending i p);
          still = λ e. absurd (omega (arith, waits, e));
        }

    used_put : (o s : Files) (was : IsInUse config used sure items o) → finite.get s used.name ≡ Some (record { bytes = overlaid was.file.bytes place bytes; pending = [] }) → IsInUse config used (length items) items s
    used_put o s was there =
        let all = whole was.put was.fill was.ahead in
        record {
          file = record { bytes = overlaid was.file.bytes place bytes; pending = [] };
          there = there;
          put = length items;
          fill = drop all.0 was.fill;
          ahead = omega arith;
          most = omega arith;
          bytes = ap (λ (l : List ℕ). overlaid l place bytes) was.bytes ∙ all.1;
          filled = fill_rest all.0 was.fill was.filled;
          size = length-overlaid was.file.bytes place bytes (omega (arith, fits, was.size)) ∙ was.size;
          behind = λ i none. absurd none;
          still = λ e i none. none;
        }

    -- while bytes are put, and wherever that ends
    pub puts_stand : AreListed highest 0 (all_files closed used free) → (o s : Files)
        → StandsNow config closed used sure items highest free o → Puts used.name place bytes o s → StandsNow config closed used sure items highest free s
    puts_stand listed o s was puts = now_by config closed used sure sure highest items items free listed o s on was
      where
        on : (most : ℕ) (fs : List PoolFile) → AreListed most 0 (all_files closed used fs) → Stands config closed used sure items fs o → Stands config closed used sure items fs s
        on most fs at_most stood =
            let u = stood.used_there in
            let new = puts.this u.file u.there in
            stands_used config closed used most 0 fs at_most o s puts.others sure sure items items (used_by o s u new.0 new.1 new.2 new.2.reads) stood

    -- in the end
    pub put_stands : AreListed highest 0 (all_files closed used free) → (o s : Files)
        → StandsNow config closed used sure items highest free o → Put used.name place bytes o s → StandsNow config closed used (length items) items highest free s
    put_stands listed o s was end = now_by config closed used sure (length items) highest items items free listed o s on was
      where
        on : (most : ℕ) (fs : List PoolFile) → AreListed most 0 (all_files closed used fs) → Stands config closed used sure items fs o → Stands config closed used (length items) items fs s
        on most fs at_most stood = let u = stood.used_there in stands_used config closed used most 0 fs at_most o s end.others sure (length items) items items (used_put o s u (end.this u.file u.there)) stood

-- ---- a file is prepared

module _ (config : Config) (closed : List Segment) (used : PoolFile) (sure : ℕ) (items : List Item) (highest : ℕ) (free : List PoolFile) where
  -- the next file is there
  next_there : highest < 2 ^ 31 - 1 → AreListed highest 0 (all_files closed used free) → (o s : Files) → ((q : FileName) → (q ≡ temporary_name (highest + 1) → ⊥) → (q ≡ data_name (highest + 1) → ⊥) → finite.get s q ≡ finite.get o q)
      → finite.get s (data_name (highest + 1)) ≡ Some (file_for config (highest + 1)) → StandsNow config closed used sure items highest free o → Stands config closed used sure items (free ++ numbered_file (highest + 1) ∷ []) s
  next_there low listed o s others new (inl was) = stands_more config closed used highest free low listed o s (λ q matters ne. others q (temporary_apart (highest + 1) q matters) ne) new sure items was
  next_there low listed o s others new (inr was) =
      let more : List PoolFile = free ++ numbered_file (highest + 1) ∷ [] in
      let here : finite.get s (data_name (highest + 1)) ≡ finite.get o (data_name (highest + 1)) = new ∙ sym (free_last config o free (numbered_file (highest + 1)) was.1.free_there) in
      stands_same config closed used (highest + 1) 0 more (listed_more highest closed used free low listed) o s
      (kept_but o s (data_name (highest + 1)) (λ q matters ne. others q (temporary_apart (highest + 1) q matters) ne) here) sure items was.1

  pub made_stands : highest < 2 ^ 31 - 1 → AreListed highest 0 (all_files closed used free) → (o s : Files) → StandsNow config closed used sure items highest free o → Made config (highest + 1) o s
      → Stands config closed used sure items (free ++ numbered_file (highest + 1) ∷ []) s
  made_stands low listed o s was made = next_there low listed o s made.others made.final was

  -- all that matters is as it was
  same_stand : AreListed highest 0 (all_files closed used free) → (o s : Files) → ((q : FileName) → Matters q → finite.get s q ≡ finite.get o q) → StandsNow config closed used sure items highest free o → StandsNow config closed used sure items highest free s
  same_stand listed o s kept was = now_by config closed used sure sure highest items items free listed o s (λ most fs at_most stood. stands_same config closed used most 0 fs at_most o s kept sure items stood) was

  pub unmade_stands : AreListed highest 0 (all_files closed used free) → (o s : Files) → StandsNow config closed used sure items highest free o → Unmade (highest + 1) o s → StandsNow config closed used sure items highest free s
  unmade_stands listed o s was spares = same_stand listed o s (λ q matters. spares q (temporary_apart (highest + 1) q matters)) was

  pub making_stands : highest < 2 ^ 31 - 1 → AreListed highest 0 (all_files closed used free) → (o s : Files) → StandsNow config closed used sure items highest free o → Making config (highest + 1) o s
      → StandsNow config closed used sure items highest free s
  making_stands low listed o s was making = by making.final
    where
      by : (finite.get s (data_name (highest + 1)) ≡ finite.get o (data_name (highest + 1))) ⊎ ((finite.get s (data_name (highest + 1)) ≡ Some (file_for config (highest + 1))) × (finite.get s (temporary_name (highest + 1)) ≡ None)) → StandsNow config closed used sure items highest free s
      by (inl here) = same_stand listed o s (kept_but o s (data_name (highest + 1)) (λ q matters ne. making.others q (temporary_apart (highest + 1) q matters) ne) here) was
      by (inr new) = inr (low, next_there low listed o s making.others new.0 was)

-- ---- the journal goes on to the next file

-- a prepared file can be in use
pub prepared_in_use : (config : Config) (f : PoolFile) → IsConfig config → (s : Files) → finite.get s f.name ≡ Some (file_for config f.id) → IsInUse config f 0 [] s
prepared_in_use config f is s there = record {
  file = file_for config f.id;
  there = there;
  put = 0;
  fill = drop (0 + length (header_for config f.id)) (replicate config.file_size 74);
  ahead = omega arith;
  most = omega arith;
  bytes = refl;
  filled = All-drop (λ b. 20 ≤ b) (0 + length (header_for config f.id)) (replicate config.file_size 74) (All-replicate (λ b. 20 ≤ b) config.file_size 74 (omega arith));
  size = file_long config f.id is;
  behind = λ i none. absurd none;
  still = λ e i none. none;
}

module _ (config : Config) (closed : List Segment) (used : PoolFile) (sure : ℕ) (items : List Item) (highest : ℕ) (f : PoolFile) (fs : List PoolFile) (is : IsConfig config) (new : All IsNewItem items) where
  module _ (most : highest ≤ 2 ^ 31 - 1) (listed : AreListed highest 0 (all_files closed used (f ∷ fs))) (all : sure ≡ length items) where
    -- the file that was in use is closed
    use_closed : (s : Files) → IsInUse config used sure items s → IsClosed config.user_version s (segment used items)
    use_closed s u =
        let named : IsTrue (is_data used.name) = listed_data highest 0 (all_files closed used (f ∷ fs)) used.name listed (has_used closed used (f ∷ fs)) in
        let low : used.id < 2 ^ 31 = omega (arith, most, used_id highest closed used (f ∷ fs) listed) in
        let are : All (IsItem 2) items = All-weaker IsNewItem (IsItem 2) (λ x n. n.item) items new in
        record {
          file = u.file;
          there = u.there;
          is = subst (λ (l : List Item). IsSegment config.user_version (segment used l) u.file.bytes) (take_all u.put items (omega (arith, all, u.ahead))) (in_use_segment config used is named low sure items are s u);
          still = u.still all;
        }

    on_by : (rest : List PoolFile) (s : Files) → Stands config closed used sure items (f ∷ rest) s → Stands config (closed ++ segment used items ∷ []) f 0 [] rest s
    on_by rest s was = record {
      closed_there = closed_more config.user_version s closed (segment used items) was.closed_there (use_closed s was.used_there);
      used_there = prepared_in_use config f is s was.free_there.0;
      free_there = was.free_there.1;
      only = λ q file of_data long there. subst (HasName q) (all_files_on closed used items f rest) (was.only q file of_data long there);
      uncontrolled = was.uncontrolled;
    }

    pub stands_on : (s : Files) → StandsNow config closed used sure items highest (f ∷ fs) s → StandsNow config (closed ++ segment used items ∷ []) f 0 [] highest fs s
    stands_on s (inl was) = inl (on_by fs s was)
    stands_on s (inr was) = inr (was.0, on_by (fs ++ numbered_file (highest + 1) ∷ []) s was.1)

-- ---- one record more

module _ (config : Config) (closed : List Segment) (used : PoolFile) (sure : ℕ) (items : List Item) (highest : ℕ) (free : List PoolFile) (x : Item) where
  used_grows : sure ≤ length items → (s : Files) → IsInUse config used sure items s → IsInUse config used sure (items ++ x ∷ []) s
  used_grows some s u = record {
    file = u.file;
    there = u.there;
    put = u.put;
    fill = u.fill;
    ahead = u.ahead;
    most = omega (arith, u.most, length-append items (x ∷ []));
    bytes = u.bytes ∙ ap (λ (l : List Item). file_bytes 2 used.id (header_for config used.id) l u.fill) (sym (take-append-le u.put items (x ∷ []) u.most));
    filled = u.filled;
    size = u.size;
    behind = λ i p. subst (λ (l : List Item). end_from 2 16 l ≤ i) (sym (take-append-le sure items (x ∷ []) some)) (u.behind i p);
    still = λ e. absurd (omega (arith, some, e, length-append items (x ∷ [])));
  }

  grown : sure ≤ length items → (fs : List PoolFile) (s : Files) → Stands config closed used sure items fs s → Stands config closed used sure (items ++ x ∷ []) fs s
  grown some fs s was = record { closed_there = was.closed_there; used_there = used_grows some s was.used_there; free_there = was.free_there; only = was.only; uncontrolled = was.uncontrolled }

  pub grows_stand : sure ≤ length items → (s : Files) → StandsNow config closed used sure items highest free s → StandsNow config closed used sure (items ++ x ∷ []) highest free s
  grows_stand some s (inl was) = inl (grown some free s was)
  grows_stand some s (inr was) = inr (was.0, grown some (free ++ numbered_file (highest + 1) ∷ []) s was.1)

-- ---- what the calls require

module _ (config : Config) (closed : List Segment) (used : PoolFile) (sure : ℕ) (items : List Item) (highest : ℕ) (free : List PoolFile) where
  -- the file in use is there
  pub now_used : (s : Files) → StandsNow config closed used sure items highest free s → IsInUse config used sure items s
  now_used s (inl was) = was.used_there
  now_used s (inr was) = was.1.used_there

  stands_there : (s : Files) → StandsNow config closed used sure items highest free s → IsThere used.name s
  stands_there s was = subst IsSome (sym (now_used s was).there) refl

  stands_within : (end : ℕ) → end ≤ config.file_size → (s : Files) → StandsNow config closed used sure items highest free s → IsWithin used.name end s
  stands_within end fits s was =
      let u = now_used s was in
      let Q : Option File → Type 0 = λ f. IfSome f (λ f. end ≤ length f.bytes) in
      subst Q (sym u.there) (omega (arith, fits, u.size))

  pub stand_there : (past : Option Past) → AllReads past (StandsNow config closed used sure items highest free) → Told past (IsThere used.name)
  stand_there None all = tt
  stand_there (Some p) all = stands_there _ (all_told (Some p) (StandsNow config closed used sure items highest free) all)

  pub stand_within : (end : ℕ) (past : Option Past) → end ≤ config.file_size → AllReads past (StandsNow config closed used sure items highest free) → Told past (IsWithin used.name end)
  stand_within end None fits all = tt
  stand_within end (Some p) fits all = stands_within end fits _ (all_told (Some p) (StandsNow config closed used sure items highest free) all)
