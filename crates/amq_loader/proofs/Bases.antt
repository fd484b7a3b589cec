-- The directory that a journal begins on: what a load says of it, and what stays of it.
use Rattle.std.proofs.Common.{◌≡◌, ◌⊎◌, inl, inr, ℕ, ◌-◌, Bool, true, false, ◌||◌, cond, List, [], ◌∷◌, length, map, filter, Option, None, Some, Contains, All, IsSome, refl, sym, ap, subst, ◌∙◌}
use Rattle.std.specs.Prelude.{IsTrue, option_map, is_some}
use Rattle.std.specs.FinMap as finite
use Rattle.std.proofs.lemmas.Bool.{false≢true}
use Rattle.amq_model.specs.declared.record.Placed.{Placed}
use Rattle.amq_model.specs.Names.{is_data, is_compacted, is_temporary, control_name, data_number, compacted_number}
use Rattle.amq_model.specs.Files.{FileName, File, Files, Image, IsReading}
use Rattle.amq_model.specs.Calls.{Past, content}
use Rattle.amq_model.specs.declared.directory.DataFile as model
use Rattle.amq_model.specs.Directory.{FileOf, files_by_name, data_files}
use Rattle.amq_model.specs.Leaves.{Leaves, Syncs, OnlyAsks, AllReads, Told, IsThere}
use Rattle.amq_model.proofs.Settling.{bytes_synced}
use Rattle.amq_model.proofs.Asking.{told_asked}
use Rattle.amq_model.proofs.Chain.{told_then}
use Rattle.amq_model.proofs.Keeping.{reads_on, reads_weaker}
use Rattle.amq_header.specs.Classes.{IsOfClass, temporary_number}
use Rattle.amq_header.specs.declared.classes.FileClass.TheVariants.{DataFile, Compacted, Temporary, Control}
use Rattle.amq_header.proofs.Exclusive.{one_class, temporary_is}
use Rattle.amq_scan.specs.Segments.{Segment, records_of, IsSegment, AreClosed, IsClosed, IsClosedDirectory, IsDirectory}
use Rattle.amq_scan.specs.Segments as segments
use Rattle.amq_scan.proofs.Parts.{Has, has_contains, contains_has, all_by}
use Rattle.amq_scan.proofs.Fronts.{has_map}
use Rattle.amq_scan.proofs.Sorted.{sorted_has}
use Rattle.amq_scan.proofs.Entries.{Entry, HaveOwnNames, own_names, entry_there, file_has}
use Rattle.amq_loader.specs.declared.loaded.Loaded.{Loaded}
use Rattle.amq_loader.specs.Loads.{data_file, is_leftover, leftovers_of, IsLoadOf}
use Rattle.amq_loader.specs.Bases.{IsBase, AreThere, AreApart, Clears}

-- ---- leftovers

-- none of these names is a data file's or the control file's
abbrev pub HoldNoData : List FileName → Type 0
HoldNoData names = (n : FileName) → Contains names n → (is_data n ≡ false) × (n ≡ control_name → ⊥)

data_class : (n : FileName) → is_data n ≡ true → (k : ℕ) × IsOfClass n (DataFile k)
data_class n is = by (data_number n) refl is where
  by : (o : Option ℕ) → data_number n ≡ o → is_some o ≡ true → (k : ℕ) × IsOfClass n (DataFile k)
  by None e s = absurd cc
  by (Some k) e s = (k, e)

compacted_class : (n : FileName) → is_compacted n ≡ true → (k : ℕ) × IsOfClass n (Compacted k)
compacted_class n is = by (compacted_number n) refl is where
  by : (o : Option ℕ) → compacted_number n ≡ o → is_some o ≡ true → (k : ℕ) × IsOfClass n (Compacted k)
  by None e s = absurd cc
  by (Some k) e s = (k, e)

temporary_class : (n : FileName) → is_temporary n ≡ true → (k : Option ℕ) × IsOfClass n (Temporary k)
temporary_class n is = by (temporary_number n) refl (sym (temporary_is n) ∙ is) where
  by : (o : Option (Option ℕ)) → temporary_number n ≡ o → is_some o ≡ true → (k : Option ℕ) × IsOfClass n (Temporary k)
  by None e s = absurd cc
  by (Some k) e s = (k, e)

-- a leftover's name is of one of two classes
leftover_class : (n : FileName) → is_leftover n ≡ true → ((k : ℕ) × IsOfClass n (Compacted k)) ⊎ ((k : Option ℕ) × IsOfClass n (Temporary k))
leftover_class n is = by (is_compacted n) refl is where
  by : (b : Bool) → is_compacted n ≡ b → (b || is_temporary n) ≡ true → ((k : ℕ) × IsOfClass n (Compacted k)) ⊎ ((k : Option ℕ) × IsOfClass n (Temporary k))
  by true e is = inl (compacted_class n e)
  by false e is = inr (temporary_class n is)

leftover_no_data : (n : FileName) → is_leftover n ≡ true → is_data n ≡ false
leftover_no_data n is = by (is_data n) refl where
  not_both : (k : ℕ) → IsOfClass n (DataFile k) → ((k : ℕ) × IsOfClass n (Compacted k)) ⊎ ((k : Option ℕ) × IsOfClass n (Temporary k)) → ⊥
  not_both k plain (inl other) = let e : DataFile k ≡ Compacted other.0 = one_class n (DataFile k) (Compacted other.0) plain other.1 in absurd cc
  not_both k plain (inr other) = let e : DataFile k ≡ Temporary other.0 = one_class n (DataFile k) (Temporary other.0) plain other.1 in absurd cc

  by : (b : Bool) → is_data n ≡ b → b ≡ false
  by true e = let plain = data_class n e in absurd (not_both plain.0 plain.1 (leftover_class n is))
  by false e = refl

leftover_no_control : (n : FileName) → is_leftover n ≡ true → n ≡ control_name → ⊥
leftover_no_control n is control = by (leftover_class n is) where
  by : ((k : ℕ) × IsOfClass n (Compacted k)) ⊎ ((k : Option ℕ) × IsOfClass n (Temporary k)) → ⊥
  by (inl other) = let e : Control ≡ Compacted other.0 = one_class n Control (Compacted other.0) control other.1 in absurd cc
  by (inr other) = let e : Control ≡ Temporary other.0 = one_class n Control (Temporary other.0) control other.1 in absurd cc

-- a name that passes a test, of an entry
passed : (p : FileName → Bool) (es : List Entry) (n : FileName) → Has (filter p (map (λ e. e.0) es)) n → (p n ≡ true) × (e : Entry) × Has es e × (e.0 ≡ n)
passed p [] n h = absurd h
passed p (x ∷ xs) n h = by (p x.0) refl h (passed p xs n) where
  by : (b : Bool) → p x.0 ≡ b → Has (cond b (x.0 ∷ filter p (map (λ e. e.0) xs)) (filter p (map (λ e. e.0) xs))) n
      → (Has (filter p (map (λ e. e.0) xs)) n → (p n ≡ true) × (e : Entry) × Has xs e × (e.0 ≡ n)) → (p n ≡ true) × (e : Entry) × Has (x ∷ xs) e × (e.0 ≡ n)
  by true is (inl e) rest = (ap p (sym e) ∙ is, x, inl refl, e)
  by true is (inr h) rest = let r = rest h in (r.0, r.1, inr r.2, r.3)
  by false is h rest = let r = rest h in (r.0, r.1, inr r.2, r.3)

apart_names : (p : FileName → Bool) (es : List Entry) → HaveOwnNames es → AreApart (filter p (map (λ e. e.0) es))
apart_names p [] own = tt
apart_names p (x ∷ xs) own = by (p x.0) (apart_names p xs own.1) where
  another : Contains (filter p (map (λ e. e.0) xs)) x.0 → ⊥
  another there = let r = passed p xs x.0 (contains_has (filter p (map (λ e. e.0) xs)) x.0 there) in own.0 r.1 r.2 r.3

  by : (b : Bool) → AreApart (filter p (map (λ e. e.0) xs)) → AreApart (cond b (x.0 ∷ filter p (map (λ e. e.0) xs)) (filter p (map (λ e. e.0) xs)))
  by true rest = (another, rest)
  by false rest = rest

-- what is read is there
read_there : (s : Files) (image : Image) (n : FileName) (bytes : List ℕ) → IsReading s image → finite.get image n ≡ Some bytes → IsThere n s
read_there s image n bytes reading is = by (finite.get s n) refl (sym (reading n) ∙ is) where
  by : (o : Option File) → finite.get s n ≡ o → option_map (λ f. f.bytes) o ≡ Some bytes → IsThere n s
  by None e is = absurd cc
  by (Some f) e is = subst (λ (o : Option File). IsSome o) (sym e) refl

module _ (wanted : ℕ) (l : Loaded) (s : Files) (load : IsLoadOf wanted l s) where
  leftover : (n : FileName) → Contains l.leftovers n → (is_leftover n ≡ true) × (e : Entry) × Has (finite.entries load.image) e × (e.0 ≡ n)
  leftover n there = passed is_leftover (finite.entries load.image) n (contains_has (leftovers_of (finite.entries load.image)) n (subst (λ (names : List FileName). Contains names n) load.leftovers there))

  -- Each leftover that was loaded is a compacted or a temporary file,
  pub leftovers_are : (n : FileName) → Contains l.leftovers n → is_leftover n ≡ true
  leftovers_are n there = (leftover n there).0

  -- which is there,
  pub leftovers_there : All (λ n. IsThere n s) l.leftovers
  leftovers_there = all_by (λ n. IsThere n s) l.leftovers (λ n h.
      let found = leftover n (has_contains l.leftovers n h) in
      read_there s load.image n found.1.1 load.reading (ap (finite.get load.image) (sym found.3) ∙ entry_there load.image found.1 found.2))

  -- no two have one name,
  pub leftovers_apart : AreApart l.leftovers
  leftovers_apart = subst AreApart (sym load.leftovers) (apart_names is_leftover (finite.entries load.image) (own_names load.image))

  -- and none is a data file or the control file.
  pub leftovers_no_data : HoldNoData l.leftovers
  leftovers_no_data n there = (leftover_no_data n (leftovers_are n there), leftover_no_control n (leftovers_are n there))

  -- The data files that were loaded are there.
  pub files_there : AreThere l.files s
  files_there = subst (λ (files : List model.DataFile). AreThere files s) (sym load.files) (all_by (λ d. IsThere d.name s) (map data_file (data_files (finite.entries load.image) None)) (λ d h.
      let f = has_map data_file (data_files (finite.entries load.image) None) d h in
      let e = file_has (finite.entries load.image) f.0 (sorted_has (files_by_name (finite.entries load.image) None) f.0 f.1) in
      let name : e.0.0 ≡ d.name = ap (λ (g : FileOf). g.name) e.3 ∙ ap (λ (d : model.DataFile). d.name) f.2 in
      read_there s load.image d.name e.0.1 load.reading (ap (finite.get load.image) (sym name) ∙ entry_there load.image e.0 e.1)))

told_by : (P Q : Files → Type 0) (past : Option Past) → ((s : Files) → P s → Q s) → Told past P → Told past Q
told_by P Q None by told = tt
told_by P Q (Some p) by told = by (content p.start p.calls) told

-- so it is of what a disk tells
pub told_files_there : (wanted : ℕ) (l : Loaded) (past : Option Past) → Told past (IsLoadOf wanted l) → Told past (AreThere l.files)
told_files_there wanted l past told = told_by (IsLoadOf wanted l) (AreThere l.files) past (λ s load. files_there wanted l s load) told

pub told_leftovers_there : (wanted : ℕ) (l : Loaded) (past : Option Past) → Told past (IsLoadOf wanted l) → Told past (λ s. All (λ n. IsThere n s) l.leftovers)
told_leftovers_there wanted l past told = told_by (IsLoadOf wanted l) (λ s. All (λ n. IsThere n s) l.leftovers) past (λ s load. leftovers_there wanted l s load) told

pub told_leftovers_apart : (wanted : ℕ) (l : Loaded) (past : Option Past) → Told past (IsLoadOf wanted l) → Told past (λ _. AreApart l.leftovers)
told_leftovers_apart wanted l past told = told_by (IsLoadOf wanted l) (λ _. AreApart l.leftovers) past (λ s load. leftovers_apart wanted l s load) told

pub told_leftovers_no_data : (wanted : ℕ) (l : Loaded) (past : Option Past) → Told past (IsLoadOf wanted l) → Told past (λ _. HoldNoData l.leftovers)
told_leftovers_no_data wanted l past told = told_by (IsLoadOf wanted l) (λ _. HoldNoData l.leftovers) past (λ s load. leftovers_no_data wanted l s load) told

-- what was loaded is still that of the directory, behind calls that only ask
pub load_asked : (wanted : ℕ) (l : Loaded) (a b : Option Past) → OnlyAsks a b → Told a (IsLoadOf wanted l) → Told b (IsLoadOf wanted l)
load_asked wanted l a b asks told = told_asked (IsLoadOf wanted l) a b asks told

load_of_synced : (wanted : ℕ) (l : Loaded) (o s : Files) → IsLoadOf wanted l o → Syncs o s → IsLoadOf wanted l s
load_of_synced wanted l o s load syncs = record {
  image = load.image;
  reading = λ n. load.reading n ∙ sym (bytes_synced o s syncs n);
  uncontrolled = load.uncontrolled;
  faultless = load.faultless;
  files = load.files;
  joined = load.joined;
  highest_file = load.highest_file;
  leftovers = load.leftovers;
}

-- and behind syncs
pub load_synced : (wanted : ℕ) (l : Loaded) (a b : Option Past) → Leaves Syncs Syncs a b → Told a (IsLoadOf wanted l) → Told b (IsLoadOf wanted l)
load_synced wanted l a b leaves told = told_then Syncs Syncs (IsLoadOf wanted l) (IsLoadOf wanted l) a b told (load_of_synced wanted l) leaves

-- ---- a base

closed_still : (wanted : ℕ) (names : List FileName) (o s : Files) (gs : List Segment) → HoldNoData names → Clears names o s → AreClosed wanted o gs → AreClosed wanted s gs
closed_still wanted names o s [] none clears closed = tt
closed_still wanted names o s (g ∷ gs) none clears closed = (record { file = closed.0.file; there = there; is = closed.0.is; still = closed.0.still }, closed_still wanted names o s gs none clears closed.1) where
  there : finite.get s g.name ≡ Some closed.0.file
  there = clears g.name (λ named. is_none (none g.name named).0 closed.0.is.named) ∙ closed.0.there where
    is_none : is_data g.name ≡ false → IsTrue (is_data g.name) → ⊥
    is_none is named = false≢true (subst IsTrue is named)

-- files that are no data files are removed
pub closed_clears : (wanted : ℕ) (names : List FileName) (gs : List Segment) (o s : Files) → HoldNoData names → IsClosedDirectory wanted gs o → Clears names o s → IsClosedDirectory wanted gs s
closed_clears wanted names gs o s none closed clears = record {
  ascending = closed.ascending;
  there = closed_still wanted names o s gs none clears closed.there;
  only = λ n file plain long is. closed.only n file plain long (sym (clears n (λ named. false≢true (subst IsTrue (none n named).0 plain))) ∙ is);
  uncontrolled = clears control_name (λ named. (none control_name named).1 refl) ∙ closed.uncontrolled;
}

-- The directory is that of a base still while files are removed that are no data files.
pub base_clears : (wanted highest : ℕ) (base : List Placed) (names : List FileName) (a b : Option Past) → Told a (λ _. HoldNoData names) → IsBase a wanted highest base → Leaves (Clears names) (Clears names) a b → IsBase b wanted highest base
base_clears wanted highest base names a b none is leaves = record {
  files = is.files;
  records = is.records;
  ascending = is.ascending;
  named = is.named;
  each = is.each;
  reads = still_closed a b none is.reads leaves;
} where
  still_closed : (a b : Option Past) → Told a (λ _. HoldNoData names) → AllReads a (IsClosedDirectory wanted is.files) → Leaves (Clears names) (Clears names) a b → AllReads b (IsClosedDirectory wanted is.files)
  still_closed None b none reads leaves = subst (λ (h : Option Past). AllReads h (IsClosedDirectory wanted is.files)) (sym leaves) tt
  still_closed (Some p) b none reads leaves = reads_on (Clears names) (Clears names) (IsClosedDirectory wanted is.files) (IsClosedDirectory wanted is.files) (Some p) b reads (λ o s closed clears. closed_clears wanted names is.files o s none closed clears) leaves

durable_there : (wanted sure : ℕ) (s : Files) (gs : List Segment) → AreClosed wanted s gs → segments.AreThere wanted sure s gs
durable_there wanted sure s [] closed = tt
durable_there wanted sure s (g ∷ gs) closed = (
  record { file = closed.0.file; there = closed.0.there; is = closed.0.is; behind = λ i pends. absurd (closed.0.still i pends) },
  durable_there wanted (sure - length g.spots) s gs closed.1,
)

-- all of its records are durable
pub closed_is_directory : (wanted : ℕ) (gs : List Segment) (s : Files) → IsClosedDirectory wanted gs s → IsDirectory wanted (length (records_of gs)) gs s
closed_is_directory wanted gs s closed = record {
  ascending = closed.ascending;
  there = durable_there wanted (length (records_of gs)) s gs closed.there;
  only = closed.only;
  uncontrolled = closed.uncontrolled;
}

-- each reading is the directory of the base, all of it durable
pub base_reads : (wanted highest : ℕ) (base : List Placed) (past : Option Past) (is : IsBase past wanted highest base) → AllReads past (IsDirectory wanted (length base) is.files)
base_reads wanted highest base past is = reads_weaker (IsClosedDirectory wanted is.files) (IsDirectory wanted (length base) is.files) past
    (λ s closed. subst (λ (n : ℕ). IsDirectory wanted n is.files s) (ap length is.records) (closed_is_directory wanted is.files s closed)) is.reads
