-- What an opening loads, and what that says of the directory.
use Rattle.std.proofs.Common.{◌≡◌, inl, inr, ℕ, ◌+◌, ◌≤◌, Bool, true, false, cond, List, [], ◌∷◌, length, map, filter, Option, None, Some, IsSome, refl, sym, ap, subst, ◌∙◌, arith}
use Rattle.std.specs.Prelude.{Contains, not, ◌&&◌, ◌==◌, option_map}
use Rattle.std.specs.List.{AllByRecursion, filter_map, list_any}
use Rattle.std.specs.FinMap as finite
use Rattle.std.proofs.lemmas.List.{length-map}
use Rattle.std.proofs.lemmas.Option.{none-some}
use Rattle.amq_model.specs.declared.record.Placed.{Placed}
use Rattle.amq_model.specs.declared.directory.DataFile.{DataFile}
use Rattle.amq_model.specs.Names.{control_name}
use Rattle.amq_model.specs.Files.{FileName, File, Files}
use Rattle.amq_model.specs.Calls.{Past, content}
use Rattle.amq_model.specs.Directory.{FileOf, files_by_name, data_files, SaysControl}
use Rattle.amq_model.specs.Effect.{prepared, ascending, result_of}
use Rattle.amq_model.specs.Answers.{number_of, is_left_open}
use Rattle.amq_model.specs.Legal.{rolled_back}
use Rattle.amq_model.specs.Open.{open_tx, open_txs}
use Rattle.amq_model.specs.Leaves.{Leaves, Unchanged, Syncs, IsSyncedFile, Told, IsThere, OnlyAsks}
use Rattle.amq_model.proofs.Moments.{go_on, still}
use Rattle.amq_model.proofs.Chain.{loosely}
use Rattle.amq_scan.proofs.Parts.{Has, has_contains, all_by}
use Rattle.amq_scan.proofs.Entries.{Entry, entry_there, there_entry, not_there, file_has}
use Rattle.amq_scan.proofs.Sorted.{sorted_has}
use Rattle.amq_loader.specs.declared.loaded.Loaded.{Loaded}
use Rattle.amq_loader.specs.Loads.{is_leftover, leftovers_of, data_file, AreRising, IsSoundFile, IsLoad, IsLoadOf, IsStateOf}
use Rattle.amq_loader.specs.Bases.{AreThere}
use Rattle.amq_loader.proofs.Bases.{leftovers_are, leftovers_there, leftovers_apart, leftovers_no_data, load_asked, load_synced}
use Rattle.amq_engine.specs.Opening.{HasBase, HasNumbers, AreLeft}

-- ---- calls that only ask or sync

same_file : (f : Option File) → IsSyncedFile f f
same_file None = tt
same_file (Some f) = (refl, λ i p. p)

then_synced : (f g h : Option File) → IsSyncedFile f g → IsSyncedFile g h → IsSyncedFile f h
then_synced None None None a b = tt
then_synced None None (Some h) a b = b
then_synced None (Some g) h a b = absurd a
then_synced (Some f) None h a b = absurd a
then_synced (Some f) (Some g) None a b = absurd b
then_synced (Some f) (Some g) (Some h) a b = (b.0 ∙ a.0, λ i p. a.1 i (b.1 i p))

syncs_same : (o s : Files) → Unchanged o s → Syncs o s
syncs_same o s is n = subst (λ (t : Files). IsSyncedFile (finite.get o n) (finite.get t n)) (sym is) (same_file (finite.get o n))

syncs_then : (o m s : Files) → Syncs o m → Syncs m s → Syncs o s
syncs_then o m s a b n = then_synced (finite.get o n) (finite.get m n) (finite.get s n) (a n) (b n)

-- nothing was called
pub syncs_none : (h : Option Past) → Leaves Syncs Syncs h h
syncs_none h = still Syncs Syncs h (λ s n. same_file (finite.get s n))

-- what only asks leaves what syncs may
pub asks_sync : (a b : Option Past) → Leaves Unchanged Unchanged a b → Leaves Syncs Syncs a b
asks_sync a b leaves = loosely Unchanged Syncs Unchanged Syncs a b syncs_same syncs_same leaves

-- syncs behind calls that only ask
pub asks_then_sync : (a b c : Option Past) → Leaves Unchanged Unchanged a b → Leaves Syncs Syncs b c → Leaves Syncs Syncs a c
asks_then_sync a b c one two = go_on a b c syncs_same (λ o m s e i. syncs_then o m s (syncs_same o m e) i) (λ o m s e i. syncs_then o m s (syncs_same o m e) i) one two

-- ---- what a load says of the directory

-- what is so of a content is so of what is told
pub told_by : (P Q : Files → Type 0) (h : Option Past) → ((s : Files) → P s → Q s) → Told h P → Told h Q
told_by P Q None f told = tt
told_by P Q (Some p) f told = f (content p.start p.calls) told

-- an entry whose name passes a test
passes : (p : FileName → Bool) (es : List Entry) (n : FileName) (bytes : List ℕ) → p n ≡ true → Has es (n, bytes) → Has (filter p (map (λ e. e.0) es)) n
passes p [] n bytes is has = absurd has
passes p (e ∷ es) n bytes is (inl same) =
    let named : e.0 ≡ n = ap (λ (x : Entry). x.0) same in
    let kept : p e.0 ≡ true = ap p named ∙ is in
    subst (λ (b : Bool). Has (cond b (e.0 ∷ filter p (map (λ e. e.0) es)) (filter p (map (λ e. e.0) es))) n) (sym kept) (inl named)
passes p (e ∷ es) n bytes is (inr has) = by (p e.0) (passes p es n bytes is has) where
  by : (b : Bool) → Has (filter p (map (λ e. e.0) es)) n → Has (cond b (e.0 ∷ filter p (map (λ e. e.0) es)) (filter p (map (λ e. e.0) es))) n
  by true rest = inr rest
  by false rest = rest

module _ (wanted : ℕ) (l : Loaded) (s : Files) (load : IsLoadOf wanted l s) where
  says_none : SaysControl (finite.entries load.image) None
  says_none = λ bytes c there read. none-some bytes (sym (not_there load.image control_name load.uncontrolled) ∙ there)

  base_of_load : HasBase wanted l.base s
  base_of_load = record { image = load.image; reading = load.reading; uncontrolled = load.uncontrolled; read = record { says = says_none; joined = load.joined }; faultless = load.faultless }

  state_of_load : l.state ≡ result_of l.base → IsStateOf wanted l.state s
  state_of_load is = record { image = load.image; reading = load.reading; uncontrolled = load.uncontrolled; loads = record { control = None; records = l.base; read = record { says = says_none; joined = load.joined }; sound = load.faultless; is = is } }

  numbers_of_load : HasNumbers (length l.files) l.highest_file s
  numbers_of_load = record { image = load.image; reading = load.reading; count = ap (λ (fs : List DataFile). length fs) load.files ∙ length-map (data_files (finite.entries load.image) None) data_file; is = load.highest_file }

  left_of_load : AreLeft l.leftovers s
  left_of_load = record {
    there = leftovers_there wanted l s load;
    apart = leftovers_apart wanted l s load;
    are = leftovers_are wanted l s load;
    others = leftovers_no_data wanted l s load;
    all = λ n is out. no_other n is out (finite.get s n) refl;
  }
    where
      no_other : (n : FileName) → is_leftover n ≡ true → (Contains l.leftovers n → ⊥) → (o : Option File) → finite.get s n ≡ o → o ≡ None
      no_other n is out None there = refl
      no_other n is out (Some f) there =
          let has : Has (finite.entries load.image) (n, f.bytes) = there_entry load.image n f.bytes (load.reading n ∙ ap (option_map (λ f. f.bytes)) there) in
          absurd (out (subst (λ (names : List FileName). Contains names n) (sym load.leftovers) (has_contains (leftovers_of (finite.entries load.image)) n (passes is_leftover (finite.entries load.image) n f.bytes is has))))

  file_there : (f : FileOf) → Has (data_files (finite.entries load.image) None) f → IsThere f.name s
  file_there f has =
      let e = file_has (finite.entries load.image) f (sorted_has (files_by_name (finite.entries load.image) None) f has) in
      let named : e.0.0 ≡ f.name = ap (λ (g : FileOf). g.name) e.3 in
      is_there (e.0.1) (sym (load.reading f.name) ∙ ap (finite.get load.image) (sym named) ∙ entry_there load.image e.0 e.1)
    where
      is_there : (bytes : List ℕ) → option_map (λ f. f.bytes) (finite.get s f.name) ≡ Some bytes → IsThere f.name s
      is_there bytes is = by (finite.get s f.name) refl is where
        by : (o : Option File) → finite.get s f.name ≡ o → option_map (λ f. f.bytes) o ≡ Some bytes → IsThere f.name s
        by None e is = absurd cc
        by (Some g) e is = subst (λ (o : Option File). IsSome o) (sym e) refl

  files_of_load : AreThere l.files s
  files_of_load = subst (λ (fs : List DataFile). AreThere fs s) (sym load.files) (all_by (λ (f : DataFile). IsThere f.name s) (map data_file (data_files (finite.entries load.image) None)) (λ d has. of_map (data_files (finite.entries load.image) None) (λ f h. file_there f h) d has))
    where
      of_map : (fs : List FileOf) → ((f : FileOf) → Has fs f → IsThere f.name s) → (d : DataFile) → Has (map data_file fs) d → IsThere d.name s
      of_map [] each d has = absurd has
      of_map (f ∷ fs) each d (inl e) = subst (λ (n : FileName). IsThere n s) (ap (λ (g : DataFile). g.name) e) (each f (inl refl))
      of_map (f ∷ fs) each d (inr h) = of_map fs (λ g k. each g (inr k)) d h

-- what it says of what a disk tells
pub told_base : (wanted : ℕ) (l : Loaded) (h : Option Past) → Told h (IsLoadOf wanted l) → Told h (HasBase wanted l.base)
told_base wanted l h told = told_by (IsLoadOf wanted l) (HasBase wanted l.base) h (λ s load. base_of_load wanted l s load) told

pub told_numbers : (wanted : ℕ) (l : Loaded) (h : Option Past) → Told h (IsLoadOf wanted l) → Told h (HasNumbers (length l.files) l.highest_file)
told_numbers wanted l h told = told_by (IsLoadOf wanted l) (HasNumbers (length l.files) l.highest_file) h (λ s load. numbers_of_load wanted l s load) told

pub told_some_numbers : (wanted : ℕ) (l : Loaded) (h : Option Past) → Told h (IsLoadOf wanted l) → Told h (λ s. (files : ℕ) × (base : List Placed) × HasBase wanted base s × HasNumbers files l.highest_file s)
told_some_numbers wanted l h told = told_by (IsLoadOf wanted l) (λ s. (files : ℕ) × (base : List Placed) × HasBase wanted base s × HasNumbers files l.highest_file s) h (λ s load. (length l.files, l.base, base_of_load wanted l s load, numbers_of_load wanted l s load)) told

-- the state that was loaded is the directory's
pub told_state : (wanted : ℕ) (l : Loaded) (h : Option Past) → l.state ≡ result_of l.base → Told h (IsLoadOf wanted l) → Told h (IsStateOf wanted l.state)
told_state wanted l h is told = told_by (IsLoadOf wanted l) (IsStateOf wanted l.state) h (λ s load. state_of_load wanted l s load is) told

-- the files that were loaded are there, behind the load
pub told_there : (wanted : ℕ) (l : Loaded) (a b : Option Past) → OnlyAsks a b → Told a (IsLoadOf wanted l) → Told b (AreThere l.files)
told_there wanted l a b asks told = told_by (IsLoadOf wanted l) (AreThere l.files) b (λ s load. files_of_load wanted l s load) (load_asked wanted l a b asks told)

-- and so are the leftovers, behind syncs
pub told_left : (wanted : ℕ) (l : Loaded) (a b c : Option Past) → OnlyAsks a b → Leaves Syncs Syncs b c → Told a (IsLoadOf wanted l) → Told c (AreLeft l.leftovers)
told_left wanted l a b c asks syncs told = told_by (IsLoadOf wanted l) (AreLeft l.leftovers) c (λ s load. left_of_load wanted l s load) (load_synced wanted l b c syncs (load_asked wanted l a b asks told))

-- ---- how many files

rising_few : (wanted highest least : ℕ) (fs : List FileOf) → AreRising least fs → AllByRecursion (IsSoundFile wanted highest) fs → least ≤ highest + 1 → length fs + least ≤ highest + 1
rising_few wanted highest least [] rising sound low = omega (arith, low)
rising_few wanted highest least (f ∷ fs) rising sound low =
    let id : f.id ≤ highest = sound.0.id in
    let from : least ≤ f.id = rising.0 in
    let rest : length fs + (f.id + 1) ≤ highest + 1 = rising_few wanted highest (f.id + 1) fs rising.1 sound.1 (omega (arith, id)) in
    omega (arith, rest, from)

-- there are no more data files than numbers
pub load_few : (wanted : ℕ) (l : Loaded) → IsLoad wanted l → length l.files ≤ l.highest_file + 1
load_few wanted l load = omega (arith, ap (λ (fs : List DataFile). length fs) load.files, length-map load.read data_file, rising_few wanted l.highest_file 0 load.read load.rising load.sound (omega arith))

-- ---- the transactions that are rolled back

-- those of these numbers that are open and not prepared
numbers_left : (base : List Placed) (ns : List ℕ) → map (λ o. o.tx) (filter (λ o. not o.prepared) (map (open_tx base) (filter (λ tx. is_left_open tx base) ns)))
    ≡ filter (λ tx. is_left_open tx base && not (list_any (λ x. x.0 == tx) (prepared base))) ns
numbers_left base [] = refl
numbers_left base (n ∷ ns) = by (is_left_open n base) (list_any (λ x. x.0 == n) (prepared base)) refl refl (numbers_left base ns) where
  G : List ℕ
  G = filter (λ tx. is_left_open tx base && not (list_any (λ x. x.0 == tx) (prepared base))) ns

  by : (left done : Bool) → is_left_open n base ≡ left → list_any (λ x. x.0 == n) (prepared base) ≡ done → map (λ o. o.tx) (filter (λ o. not o.prepared) (map (open_tx base) (filter (λ tx. is_left_open tx base) ns))) ≡ G
      → map (λ o. o.tx) (filter (λ o. not o.prepared) (map (open_tx base) (cond (is_left_open n base) (n ∷ filter (λ tx. is_left_open tx base) ns) (filter (λ tx. is_left_open tx base) ns))))
      ≡ cond (is_left_open n base && not (list_any (λ x. x.0 == n) (prepared base))) (n ∷ G) G
  by true true o d rest = rw (o, d) rest
  by true false o d rest = rw (o, d) (ap (λ (l : List ℕ). n ∷ l) rest)
  by false done o d rest = rw o rest

pub left_are_rolled_back : (base : List Placed) → map (λ o. o.tx) (filter (λ o. not o.prepared) (open_txs base)) ≡ rolled_back base
left_are_rolled_back base = numbers_left base (ascending (filter_map (λ p. number_of p.rec) base))
