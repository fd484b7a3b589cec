-- What the files of a directory mean, once they were read.
use Rattle.std.proofs.Common.{◌≡◌, inl, inr, ℕ, ◌≤◌, true, false, List, [], ◌∷◌, ◌++◌, length, map, Option, None, Some, Err, refl, sym, ap, subst, ◌∙◌, arith}
use Rattle.std.specs.Prelude.{Result, max, fold, filter, IfSome}
use Rattle.std.specs.List.{filter_map, cons_option, list_any, AllByRecursion}
use Rattle.std.specs.FinMap as finite
use Rattle.std.proofs.lemmas.Bool.{false≢true}
use Rattle.std.proofs.lemmas.Option.{none-some}
use Rattle.amq_model.specs.declared.record.Placed.{Placed}
use Rattle.amq_model.specs.declared.state.LoadState.{LoadState}
use Rattle.amq_model.specs.declared.directory.DataFile.{DataFile}
use Rattle.amq_model.specs.declared.directory.DirFault.{DirFault}
use Rattle.amq_model.specs.Files.{Files}
use Rattle.amq_model.specs.Calls.{Past, content}
use Rattle.amq_model.specs.Leaves.{Leaves, Unchanged, Told, IsThere}
use Rattle.amq_model.specs.Names.{same, is_data, data_number, compacted_number, control_name}
use Rattle.amq_model.specs.Directory.{Listing, FileOf, files_by_name, data_files, shared, fault, fault_of, first_of_them, IsJoined, SaysControl}
use Rattle.amq_model.specs.Effect.{result_of}
use Rattle.amq_model.specs.Ids.{live_numbers}
use Rattle.amq_model.specs.Open.{open_txs, highest_of}
use Rattle.amq_header.specs.Classes.{first_number}
use Rattle.amq_scan.proofs.Parts.{Has}
use Rattle.amq_scan.proofs.Sorted.{sorted_has}
use Rattle.amq_scan.proofs.Entries.{file_has, there_entry, not_there}
use Rattle.amq_io.specs.declared.disk.FileInfo.{FileInfo}
use Rattle.amq_io.specs.Listed.{IsListed}
use Rattle.amq_io.specs.Cause.{Faults, NoneFailed}
use Rattle.amq_loader.specs.declared.faults.LoadFault.{LoadFault}
use Rattle.amq_loader.specs.declared.faults.LoadFault.TheVariants as f
use Rattle.amq_loader.specs.declared.loaded.Loaded.{Loaded}
use Rattle.amq_loader.specs.declared.part.Part.{Part}
use Rattle.amq_loader.specs.Loads.{number_of, is_leftover, data_file, IsSoundFile, IsLoad, IsLoadOf, IsFaulty, IsStateOf}
use Rattle.amq_loader.specs.Faults.{HasLoadFault}
use Rattle.amq_loader.specs.Causes.{HasCauseBy}
use Rattle.amq_loader.specs.Parts.{ArePartsOf, listing_of, AreLoaded, IsFault, all_records, highest_in}
use Rattle.amq_loader.proofs.Readings.{reading_of, is_reading, reading_entries}
use Rattle.amq_loader.proofs.Chain.{told_back}
use Rattle.amq_loader.proofs.Found.{listed_name, named_listed}

-- ---- parts and their files

parts_files : (fs : List FileOf) (ps : List Part) → ArePartsOf fs ps → map (λ p. p.file) ps ≡ map data_file fs
parts_files [] [] are = refl
parts_files [] (p ∷ ps) are = absurd are
parts_files (f ∷ fs) [] are = absurd are
parts_files (f ∷ fs) (p ∷ ps) are = ap (λ (d : DataFile). d ∷ map (λ p. p.file) ps) are.0.file ∙ ap (λ (l : List DataFile). data_file f ∷ l) (parts_files fs ps are.1)

parts_ids : (fs : List FileOf) (ps : List Part) → ArePartsOf fs ps → map (λ p. p.file.id) ps ≡ map (λ f. f.id) fs
parts_ids [] [] are = refl
parts_ids [] (p ∷ ps) are = absurd are
parts_ids (f ∷ fs) [] are = absurd are
parts_ids (f ∷ fs) (p ∷ ps) are = ap (λ (d : DataFile). d.id ∷ map (λ p. p.file.id) ps) are.0.file ∙ ap (λ (l : List ℕ). f.id ∷ l) (parts_ids fs ps are.1)

parts_joined : (fs : List FileOf) (ps : List Part) → ArePartsOf fs ps → IsJoined fs (all_records ps)
parts_joined [] [] are = refl
parts_joined [] (p ∷ ps) are = absurd are
parts_joined (f ∷ fs) [] are = absurd are
parts_joined (f ∷ fs) (p ∷ ps) are = (are.0.records.spots, are.0.records.scan, all_records ps, parts_joined fs ps are.1, ap (λ (l : List Placed). l ++ all_records ps) are.0.records.are)

-- ---- numbers

fold_above : (n : ℕ) (xs : List ℕ) → n ≤ fold max n xs
fold_above n [] = omega arith
fold_above n (x ∷ xs) = omega (arith, fold_above (max n x) xs)

has_below : (n : ℕ) (xs : List ℕ) (x : ℕ) → Has xs x → x ≤ fold max n xs
has_below n [] x h = absurd h
has_below n (y ∷ xs) x (inl e) = omega (arith, e, fold_above (max n y) xs)
has_below n (y ∷ xs) x (inr h) = has_below (max n y) xs x h

has_mapped : {X Y : Type 0} (f : X → Y) (xs : List X) (x : X) → Has xs x → Has (map f xs) (f x)
has_mapped f [] x h = absurd h
has_mapped f (y ∷ xs) x (inl e) = inl (ap f e)
has_mapped f (y ∷ xs) x (inr h) = inr (has_mapped f xs x h)

has_left : {X : Type 0} (xs ys : List X) (x : X) → Has xs x → Has (xs ++ ys) x
has_left [] ys x h = absurd h
has_left (y ∷ xs) ys x (inl e) = inl e
has_left (y ∷ xs) ys x (inr h) = inr (has_left xs ys x h)

has_right : {X : Type 0} (xs ys : List X) (x : X) → Has ys x → Has (xs ++ ys) x
has_right [] ys x h = h
has_right (y ∷ xs) ys x h = inr (has_right xs ys x h)

has_number : (h : List ℕ → Option ℕ) (names : List (List ℕ)) (name : List ℕ) (n : ℕ) → Has names name → h name ≡ Some n → Has (filter_map h names) n
has_number h [] name n has is = absurd has
has_number h (x ∷ names) name n (inl e) is = by (h x) (ap h e ∙ is) where
  by : (o : Option ℕ) → o ≡ Some n → Has (cons_option o (filter_map h names)) n
  by None e = absurd (none-some n e)
  by (Some m) e = inl (let i : Some m ≡ Some n = e in cc)
has_number h (x ∷ names) name n (inr has) is = by (h x) (has_number h names name n has is) where
  by : (o : Option ℕ) → Has (filter_map h names) n → Has (cons_option o (filter_map h names)) n
  by None r = r
  by (Some m) r = inr r

data_counts : (name : List ℕ) (n : ℕ) → data_number name ≡ Some n → number_of name ≡ Some n
data_counts name n is = by (data_number name) is where
  by : (d : Option ℕ) → d ≡ Some n → elim (first_number d (compacted_number name) (same name control_name)) as (λ x. Option ℕ) [ Some n ↦ n | None ↦ elim (Rattle.amq_header.specs.Classes.temporary_number name) [ Some n ↦ n | None ↦ None ] ] ≡ Some n
  by None e = absurd (none-some n e)
  by (Some m) e = e

-- ---- each file

each_by : (P : FileOf → Type 0) (fs : List FileOf) → ((f : FileOf) → Has fs f → P f) → AllByRecursion P fs
each_by P [] h = tt
each_by P (f ∷ fs) h = (h f (inl refl), each_by P fs (λ g k. h g (inr k)))

none_each : (p : FileOf → Option DirFault) (fs : List FileOf) (o : Option DirFault) → first_of_them p fs o ≡ None → (f : FileOf) → Has fs f → p f ≡ None
none_each p [] o none f has = absurd has
none_each p (g ∷ fs) o none f has = by (p g) refl none has (none_each p fs o) where
  by : (x : Option DirFault) → p g ≡ x → elim x as (λ y. Option DirFault) [ Some y ↦ Some y | None ↦ first_of_them p fs o ] ≡ None → Has (g ∷ fs) f → (first_of_them p fs o ≡ None → (f : FileOf) → Has fs f → p f ≡ None) → p f ≡ None
  by None e none (inl is) rest = subst (λ (x : FileOf). p x ≡ None) is e
  by None e none (inr has) rest = rest none f has
  by (Some d) e none has rest = absurd (cc)

module _ (wanted : ℕ) (names : List (List ℕ)) (past : Option Past) (parts : List Part) (a : AreLoaded wanted names past parts) where
  abbrev files : List FileOf
  files = data_files a.listing None

  highest_is : highest_in parts names ≡ fold max 0 (map (λ f. f.id) files ++ filter_map number_of names)
  highest_is = ap (λ (ids : List ℕ). fold max 0 (ids ++ filter_map number_of names)) (parts_ids files parts a.kept)

  sound_file : (f : FileOf) → Has files f → IsSoundFile wanted (highest_in parts names) f
  sound_file f has =
      let by_name = sorted_has (files_by_name a.listing None) f has in
      let r = file_has a.listing f by_name in
      let name : r.0.0 ≡ f.name = ap (λ (g : FileOf). g.name) r.3 in
      let bytes : r.0.1 ≡ f.bytes = ap (λ (g : FileOf). g.bytes) r.3 in
      let listed : Has names f.name = subst (λ (ns : List (List ℕ)). Has ns f.name) a.named (subst (Has (map (λ (e : List ℕ × List ℕ). e.0) a.listing)) name (has_mapped (λ (e : List ℕ × List ℕ). e.0) a.listing r.0 r.1)) in
      record {
        named = ap is_data (sym name) ∙ r.2.named;
        long = subst (λ (b : List ℕ). 16 ≤ length b) bytes r.2.long;
        faultless = none_each (fault_of wanted) (files_by_name a.listing None) (shared files) a.faultless f by_name;
        id = subst (λ (n : ℕ). f.id ≤ n) (sym highest_is) (has_below 0 (map (λ f. f.id) files ++ filter_map number_of names) f.id (has_left (map (λ f. f.id) files) (filter_map number_of names) f.id (has_mapped (λ (f : FileOf). f.id) files f has)));
        number = numbered (data_number f.name) refl listed;
      }
    where
      numbered : (o : Option ℕ) → data_number f.name ≡ o → Has names f.name → IfSome o (λ n. n ≤ highest_in parts names)
      numbered None is listed = tt
      numbered (Some n) is listed =
          has_below 0 (map (λ p. p.file.id) parts ++ filter_map number_of names) n (has_right (map (λ p. p.file.id) parts) (filter_map number_of names) n (has_number number_of names f.name n listed (data_counts f.name n is)))

-- what is loaded is all that there is of the files
pub record AreTaken (names : List (List ℕ)) (parts : List Part) (l : Loaded) : Type 0 where
  pub files : l.files ≡ map (λ p. p.file) parts
  pub base : l.base ≡ all_records parts
  pub state : l.state ≡ result_of (all_records parts)
  pub live : l.live ≡ live_numbers (all_records parts)
  pub opened : l.open_txs ≡ open_txs (all_records parts)
  pub highest_tx : l.highest_tx ≡ highest_of (all_records parts)
  pub highest_file : l.highest_file ≡ highest_in parts names
  pub control : l.control ≡ None
  pub leftovers : l.leftovers ≡ filter is_leftover names

pub is_load : (wanted : ℕ) (names : List (List ℕ)) (past : Option Past) (parts : List Part) (l : Loaded) → AreLoaded wanted names past parts → AreTaken names parts l → IsLoad wanted l
is_load wanted names past parts l a t = record {
  read = data_files a.listing None;
  files = t.files ∙ parts_files (data_files a.listing None) parts a.kept;
  rising = a.rising;
  sound = subst (λ (n : ℕ). AllByRecursion (IsSoundFile wanted n) (data_files a.listing None)) (sym t.highest_file) (each_by (IsSoundFile wanted (highest_in parts names)) (data_files a.listing None) (sound_file wanted names past parts a));
  joined = subst (IsJoined (data_files a.listing None)) (sym t.base) (parts_joined (data_files a.listing None) parts a.kept);
  state = t.state ∙ ap result_of (sym t.base);
  live = t.live ∙ ap live_numbers (sym t.base);
  opened = t.opened ∙ ap open_txs (sym t.base);
  highest_tx = t.highest_tx ∙ ap highest_of (sym t.base);
  control = t.control;
}

-- ---- the control file

uncontrolled : (infos : List FileInfo) (s : Files) → IsListed infos s → list_any (λ i. same i.name control_name) infos ≡ false → finite.get (reading_of s) control_name ≡ None
uncontrolled infos s listed none = by (finite.get (reading_of s) control_name) refl where
  by : (o : Option (List ℕ)) → finite.get (reading_of s) control_name ≡ o → o ≡ None
  by None is = refl
  by (Some bytes) is = absurd (false≢true (sym none ∙ listed_name infos s control_name bytes listed (subst (λ (l : Listing). Has l (control_name, bytes)) (reading_entries s) (there_entry (reading_of s) control_name bytes is))))

-- a file that has the name is there
pub control_there : (infos : List FileInfo) (past : Option Past) → Told past (IsListed infos) → list_any (λ i. same i.name control_name) infos ≡ true → Told past (IsThere control_name)
control_there infos None listed some = tt
control_there infos (Some p) listed some = named_listed infos (content p.start p.calls) control_name listed some

-- ---- the directory

module _ (wanted : ℕ) (infos : List FileInfo) (s : Files) (listed : IsListed infos s) (none : list_any (λ i. same i.name control_name) infos ≡ false) where
  abbrev es : Listing
  es = finite.entries (reading_of s)

  is_faulty : (found : DirFault) → IsFault wanted found s → IsFaulty wanted found s
  is_faulty found is = record {
    image = reading_of s;
    reading = is_reading s;
    uncontrolled = uncontrolled infos s listed none;
    is = record { control = None; says = says; is = sym (ap (λ (l : Listing). fault l None wanted) (reading_entries s) ∙ is) };
  }
    where
      says : SaysControl es None
      says bytes c there is = none-some bytes (sym (not_there (reading_of s) control_name (uncontrolled infos s listed none)) ∙ there)

  no_control : SaysControl es None
  no_control bytes c there is = none-some bytes (sym (not_there (reading_of s) control_name (uncontrolled infos s listed none)) ∙ there)

  module _ (l : Listing) (parts : List Part) (all : l ≡ es) (faultless : fault l None wanted ≡ None) (kept : ArePartsOf (data_files l None) parts) where
    abbrev sound : fault es None wanted ≡ None
    sound = ap (λ (l : Listing). fault l None wanted) (sym all) ∙ faultless

    kept_here : ArePartsOf (data_files es None) parts
    kept_here = subst (λ (l : Listing). ArePartsOf (data_files l None) parts) all kept

    is_state_of : (state : LoadState) → state ≡ result_of (all_records parts) → IsStateOf wanted state s
    is_state_of state is = record {
      image = reading_of s;
      reading = is_reading s;
      uncontrolled = uncontrolled infos s listed none;
      loads = record {
        control = None;
        records = all_records parts;
        read = record { says = no_control; joined = parts_joined (data_files es None) parts kept_here };
        sound = sound;
        is = is;
      };
    }

    numbers_of : (l : Listing) → filter_map number_of (map (λ f. f.0) l) ≡ filter_map (λ f. number_of f.0) l
    numbers_of [] = refl
    numbers_of (f ∷ l) = ap (cons_option (number_of f.0)) (numbers_of l)

    is_load_of : (names : List (List ℕ)) (x : Loaded) → map (λ f. f.0) l ≡ names → AreTaken names parts x → IsLoadOf wanted x s
    is_load_of names x named t =
        let here : map (λ f. f.0) es ≡ names = ap (λ (l : Listing). map (λ f. f.0) l) (sym all) ∙ named in
        record {
          image = reading_of s;
          reading = is_reading s;
          uncontrolled = uncontrolled infos s listed none;
          faultless = sound;
          files = t.files ∙ parts_files (data_files es None) parts kept_here;
          joined = subst (IsJoined (data_files es None)) (sym t.base) (parts_joined (data_files es None) parts kept_here);
          highest_file = t.highest_file ∙ ap (λ (ids : List ℕ). fold max 0 (ids ++ filter_map number_of names)) (parts_ids (data_files es None) parts kept_here)
              ∙ ap (λ (ns : List ℕ). fold max 0 (map (λ (f : FileOf). f.id) (data_files es None) ++ ns)) (ap (filter_map number_of) (sym here) ∙ numbers_of es);
          leftovers = t.leftovers ∙ ap (filter is_leftover) (sym here);
        }

abbrev HasNone : List FileInfo → Type 0
HasNone infos = list_any (λ i. same i.name control_name) infos ≡ false

pub told_load : (wanted : ℕ) (infos : List FileInfo) (past : Option Past) (parts : List Part) (l : Loaded) → Told past (IsListed infos) → HasNone infos → AreLoaded wanted (map (λ i. i.name) infos) past parts → AreTaken (map (λ i. i.name) infos) parts l → Told past (IsLoadOf wanted l)
told_load wanted infos None parts l listed none a t = tt
told_load wanted infos (Some p) parts l listed none a t =
    let s = content p.start p.calls in
    is_load_of wanted infos s listed none a.listing parts (a.told ∙ sym (reading_entries s)) a.faultless a.kept (map (λ i. i.name) infos) l a.named t

pub told_state : (wanted : ℕ) (infos : List FileInfo) (past : Option Past) (parts : List Part) (state : LoadState) → Told past (IsListed infos) → HasNone infos → AreLoaded wanted (map (λ i. i.name) infos) past parts → state ≡ result_of (all_records parts) → Told past (IsStateOf wanted state)
told_state wanted infos None parts state listed none a is = tt
told_state wanted infos (Some p) parts state listed none a is =
    let s = content p.start p.calls in
    is_state_of wanted infos s listed none a.listing parts (a.told ∙ sym (reading_entries s)) a.faultless a.kept state is

pub told_faulty : (wanted : ℕ) (infos : List FileInfo) (past : Option Past) (found : DirFault) → Told past (IsListed infos) → HasNone infos → Told past (IsFault wanted found) → Told past (IsFaulty wanted found)
told_faulty wanted infos None found listed none is = tt
told_faulty wanted infos (Some p) found listed none is = is_faulty wanted infos (content p.start p.calls) listed none found is

-- ---- why there is none

-- the fault of a call in this one, handed on
pub load_fault_err : (S T : Type 0) (wanted : ℕ) (P : DirFault → Type 0) (Q : Type 0) (e : LoadFault) (result : Result T LoadFault) (past : Option Past) (a b c : Faults)
    → ((found : DirFault) → P found → Told past (IsFaulty wanted found)) → (Q → Told past (IsThere control_name)) → NoneFailed a b → result ≡ Err e → HasCauseBy {T = S} P Q (Err e) b c → HasLoadFault wanted result past a c
load_fault_err S T wanted P Q e result past a b c weaker other went is cause = subst (λ (r : Result T LoadFault). HasLoadFault wanted r past a c) (sym is) (by e cause) where
  by : (e : LoadFault) → HasCauseBy {T = S} P Q (Err e) b c → HasLoadFault {T = T} wanted (Err e) past a c
  by (f.Directory found) cause = (weaker found cause.0, omega (arith, went.0, cause.1), cause.2 ∙ went.1)
  by f.NotBuilt cause = (other cause.0, omega (arith, went.0, cause.1), cause.2 ∙ went.1)
  by (f.Disk call) cause = (omega (arith, went.0, cause.0), omega (arith, went.0, cause.1), cause.2)
  by f.NoMemory cause = (omega (arith, went.0, cause.0), cause.1 ∙ went.1)

-- what a disk tells later it told before
pub loaded_back : (wanted : ℕ) (names : List (List ℕ)) (a b : Option Past) (parts : List Part) → Leaves Unchanged Unchanged a b → AreLoaded wanted names b parts → AreLoaded wanted names a parts
loaded_back wanted names a b parts leaves is = record {
  listing = is.listing;
  named = is.named;
  told = told_back (λ s. is.listing ≡ listing_of s) a b leaves is.told;
  faultless = is.faultless;
  rising = is.rising;
  kept = is.kept;
}
