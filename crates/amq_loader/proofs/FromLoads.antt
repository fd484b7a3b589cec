-- What was loaded is a base, once its files are durable.
use Rattle.std.proofs.Common.{◌≡◌, inl, inr, ℕ, ◌+◌, ◌^◌, ◌<◌, ◌≤◌, Bool, true, false, cond, ltb, eqb, List, [], ◌∷◌, ◌++◌, length, map, Option, None, Some, refl, sym, ap, subst, ◌∙◌, arith}
use Rattle.std.specs.Prelude.{IsTrue, IfSome, ◌%◌, option_map, is_some}
use Rattle.std.specs.List.{AllByRecursion}
use Rattle.std.specs.FinMap as finite
use Rattle.std.proofs.lemmas.Bool.{ltb-false, eqb-true}
use Rattle.amq_model.specs.declared.record.Placed.{Placed}
use Rattle.amq_model.specs.declared.directory.DataFile.{DataFile}
use Rattle.amq_model.specs.declared.directory.DirFault.{DirFault}
use Rattle.amq_model.specs.declared.directory.DirFault.TheVariants.{TooLong, Version, UserVersion}
use Rattle.amq_model.specs.RecordAt.{Spot}
use Rattle.amq_model.specs.Scan.{IsScan, IsScanFrom}
use Rattle.amq_model.specs.Names.{is_data, data_number, control_name}
use Rattle.amq_model.specs.Files.{FileName, Range, File, Files, IsPending}
use Rattle.amq_model.specs.Calls.{Past, content}
use Rattle.amq_model.specs.Directory.{FileOf, file_of, files_by_name, data_files, fault_of, first_of_them, shared, placed, IsJoined}
use Rattle.amq_model.specs.Leaves.{Leaves, Goes, Syncs, AllAgree, IsSettled, IsListedSame, NothingPending, Told}
use Rattle.amq_model.proofs.Settling.{bytes_synced}
use Rattle.amq_header.specs.Classes.{data_name}
use Rattle.amq_header.proofs.Made.{data_is_read, data_differ}
use Rattle.amq_scan.specs.Segments.{Segment, records_of, AreAscending, IsNamed, IsSegment, IsClosed, AreClosed, IsClosedDirectory}
use Rattle.amq_scan.proofs.Parts.{Has, all_has}
use Rattle.amq_scan.proofs.Fronts.{has_map}
use Rattle.amq_scan.proofs.Scans.{takes_room}
use Rattle.amq_scan.proofs.Sorted.{sorted_has, has_sorted}
use Rattle.amq_scan.proofs.Entries.{Entry, entry_there, there_entry, IsDataFile, has_file, file_has}
use Rattle.amq_loader.specs.declared.loaded.Loaded.{Loaded}
use Rattle.amq_loader.specs.Loads.{data_file, AreRising, IsSoundFile, IsLoad, IsLoadOf}
use Rattle.amq_loader.specs.Bases.{AreNamed, IsBaseFile, IsBase}
use Rattle.amq_loader.proofs.Syncing.{AllSettled}

-- ---- one file

-- a file without a fault
no_fault : (wanted : ℕ) (f : FileOf) → fault_of wanted f ≡ None → (length f.bytes ≤ 268435456) × (f.version ≡ 2) × (f.user_version ≡ wanted)
no_fault wanted f is = by (ltb 268435456 (length f.bytes)) refl (eqb f.version 2) refl (eqb f.user_version wanted) refl is where
  by : (a : Bool) → ltb 268435456 (length f.bytes) ≡ a → (b : Bool) → eqb f.version 2 ≡ b → (c : Bool) → eqb f.user_version wanted ≡ c
      → cond a (Some (TooLong f.name (length f.bytes))) (cond b (cond c None (Some (UserVersion f.name f.user_version wanted))) (Some (Version f.name f.version))) ≡ None
      → (length f.bytes ≤ 268435456) × (f.version ≡ 2) × (f.user_version ≡ wanted)
  by true p b q c r is = absurd cc
  by false p false q c r is = absurd cc
  by false p true q false r is = absurd cc
  by false p true q true r is = (ltb-false 268435456 (length f.bytes) p, eqb-true f.version 2 q, eqb-true f.user_version wanted r)

-- no more records than bytes
spots_fit : (bytes : List ℕ) (fid version from : ℕ) (ss : List Spot) → from ≤ length bytes → IsScanFrom bytes fid version from ss → from + length ss ≤ length bytes
spots_fit bytes fid version from [] low scan = omega (arith, low)
spots_fit bytes fid version from (s ∷ ss) low scan =
    let rest = spots_fit bytes fid version (s.place + s.len) ss scan.2.within scan.3 in
    let some = takes_room bytes fid version s scan.2 in
    omega (arith, rest, some, scan.0)

sound_has : (wanted highest : ℕ) (fs : List FileOf) (f : FileOf) → AllByRecursion (IsSoundFile wanted highest) fs → Has fs f → IsSoundFile wanted highest f
sound_has wanted highest [] f all h = absurd h
sound_has wanted highest (g ∷ gs) f all (inl is) = subst (IsSoundFile wanted highest) is all.0
sound_has wanted highest (g ∷ gs) f all (inr h) = sound_has wanted highest gs f all.1 h

sound_by : (wanted highest : ℕ) (fs : List FileOf) → ((f : FileOf) → Has fs f → IsSoundFile wanted highest f) → AllByRecursion (IsSoundFile wanted highest) fs
sound_by wanted highest [] each = tt
sound_by wanted highest (g ∷ gs) each = (each g (inl refl), sound_by wanted highest gs (λ f h. each f (inr h)))

-- ---- files by their records

-- the segments of files that are named so
abbrev pub segments_of : (naming : FileOf → FileName) (fs : List FileOf) (l : List Placed) → IsJoined fs l → List Segment
segments_of naming [] l joined = []
segments_of naming (f ∷ fs) l (spots, scan, rest, more, is) = record { name = naming f; id = f.id; spots = spots } ∷ segments_of naming fs rest more

records_are : (naming : FileOf → FileName) (fs : List FileOf) (l : List Placed) (joined : IsJoined fs l) → records_of (segments_of naming fs l joined) ≡ l
records_are naming [] l joined = sym joined
records_are naming (f ∷ fs) l (spots, scan, rest, more, is) = ap (λ (r : List Placed). map (placed f.id) spots ++ r) (records_are naming fs rest more) ∙ sym is

ascending_are : (naming : FileOf → FileName) (least : ℕ) (fs : List FileOf) (l : List Placed) (joined : IsJoined fs l) → AreRising least fs → AreAscending least (segments_of naming fs l joined)
ascending_are naming least [] l joined rising = tt
ascending_are naming least (f ∷ fs) l (spots, scan, rest, more, is) rising = (rising.0, ascending_are naming (f.id + 1) fs rest more rising.1)

each_are : (wanted highest : ℕ) (naming : FileOf → FileName) (fs : List FileOf) (l : List Placed) (joined : IsJoined fs l) → AllByRecursion (IsSoundFile wanted highest) fs → AllByRecursion (IsBaseFile highest) (segments_of naming fs l joined)
each_are wanted highest naming [] l joined sound = tt
each_are wanted highest naming (f ∷ fs) l (spots, scan, rest, more, is) sound =
    let fit = spots_fit f.bytes (f.id % 2 ^ 31) f.version 16 spots sound.0.long scan in
    let short = (no_fault wanted f sound.0.faultless).0 in
    (record { id = sound.0.id; few = omega (arith, fit, short) }, each_are wanted highest naming fs rest more sound.1)

rising_has : (least : ℕ) (fs : List FileOf) (f : FileOf) → AreRising least fs → Has fs f → least ≤ f.id
rising_has least [] f r h = absurd h
rising_has least (g ∷ gs) f r (inl e) = subst (λ (x : FileOf). least ≤ x.id) e r.0
rising_has least (g ∷ gs) f r (inr h) = omega (arith, r.0, rising_has (g.id + 1) gs f r.1 h)

named_has : (naming : FileOf → FileName) (n : FileName) (fs : List FileOf) (l : List Placed) (joined : IsJoined fs l) → IsNamed n (segments_of naming fs l joined) → (f : FileOf) × Has fs f × (naming f ≡ n)
named_has naming n [] l joined named = absurd named
named_has naming n (f ∷ fs) l (spots, scan, rest, more, is) (inl e) = (f, inl refl, e)
named_has naming n (f ∷ fs) l (spots, scan, rest, more, is) (inr named) = let r = named_has naming n fs rest more named in (r.0, inr r.1, r.2)

has_named : (naming : FileOf → FileName) (f : FileOf) (fs : List FileOf) (l : List Placed) (joined : IsJoined fs l) → Has fs f → IsNamed (naming f) (segments_of naming fs l joined)
has_named naming f [] l joined h = absurd h
has_named naming f (g ∷ gs) l (spots, scan, rest, more, is) (inl e) = inl (ap naming e)
has_named naming f (g ∷ gs) l (spots, scan, rest, more, is) (inr h) = inr (has_named naming f gs rest more h)

-- a number that isn't above the highest
abbrev IsNumbered : ℕ → FileName → Type 0
IsNumbered highest name = (n : ℕ) × (data_number name ≡ Some n) × (n ≤ highest)

named_are : (highest : ℕ) (naming : FileOf → FileName) (least : ℕ) (fs : List FileOf) (l : List Placed) (joined : IsJoined fs l) → AreRising least fs
    → ((f : FileOf) → Has fs f → IsNumbered highest (naming f)) → ((f g : FileOf) → Has fs f → Has fs g → naming f ≡ naming g → f.id ≡ g.id) → AreNamed highest (segments_of naming fs l joined)
named_are highest naming least [] l joined rising numbered own = tt
named_are highest naming least (f ∷ fs) l (spots, scan, rest, more, is) rising numbered own = (
  numbered f (inl refl),
  (λ named. let other = named_has naming (naming f) fs rest more named in
      let above = rising_has (f.id + 1) fs other.0 rising.1 other.1 in
      let same_id : other.0.id ≡ f.id = own other.0 f (inr other.1) (inl refl) other.2 in
      omega (arith, above, same_id)),
  named_are highest naming (f.id + 1) fs rest more rising.1 (λ g h. numbered g (inr h)) (λ g k h j. own g k (inr h) (inr j)),
)

-- ---- a disk that tells no content

-- files of such a disk may share a name, so each has the name that is made of its id
pub base_untold : (wanted : ℕ) (l : Loaded) → IsLoad wanted l → l.highest_file < 2 ^ 31 → IsBase None wanted l.highest_file l.base
base_untold wanted l load low = record {
  files = segments_of named load.read l.base load.joined;
  records = records_are named load.read l.base load.joined;
  ascending = ascending_are named 0 load.read l.base load.joined load.rising;
  named = named_are l.highest_file named 0 load.read l.base load.joined load.rising numbered own;
  each = each_are wanted l.highest_file named load.read l.base load.joined load.sound;
  reads = tt;
} where
  named : FileOf → FileName
  named f = data_name f.id

  low_id : (f : FileOf) → Has load.read f → f.id ≤ l.highest_file
  low_id f h = (sound_has wanted l.highest_file load.read f load.sound h).id

  numbered : (f : FileOf) → Has load.read f → IsNumbered l.highest_file (data_name f.id)
  numbered f h = (f.id, data_is_read f.id (omega (arith, low_id f h, low)), low_id f h)

  own : (f g : FileOf) → Has load.read f → Has load.read g → data_name f.id ≡ data_name g.id → f.id ≡ g.id
  own f g h k is = data_differ f.id g.id (omega (arith, low_id f h, low)) (omega (arith, low_id g k, low)) is

-- ---- a disk that tells its content

rising_alike : (least : ℕ) (xs ys : List FileOf) → map data_file xs ≡ map data_file ys → AreRising least xs → AreRising least ys
rising_alike least [] [] same rising = tt
rising_alike least [] (y ∷ ys) same rising = absurd cc
rising_alike least (x ∷ xs) [] same rising = absurd cc
rising_alike least (x ∷ xs) (y ∷ ys) same rising =
    let first : data_file x ≡ data_file y = cc in
    let rest : map data_file xs ≡ map data_file ys = cc in
    let id : x.id ≡ y.id = ap (λ (d : DataFile). d.id) first in
    (omega (arith, id, rising.0), rising_alike (y.id + 1) xs ys rest (subst (λ (n : ℕ). AreRising (n + 1) xs) id rising.1))

into_map : {X Y : Type 0} (f : X → Y) (xs : List X) (x : X) → Has xs x → Has (map f xs) (f x)
into_map f [] x h = absurd h
into_map f (y ∷ ys) x (inl e) = inl (ap f e)
into_map f (y ∷ ys) x (inr h) = inr (into_map f ys x h)

first_none : (p : FileOf → Option DirFault) (fs : List FileOf) (o : Option DirFault) (f : FileOf) → first_of_them p fs o ≡ None → Has fs f → p f ≡ None
first_none p [] o f none h = absurd h
first_none p (g ∷ gs) o f none h = by (p g) refl none h (first_none p gs o f) where
  by : (found : Option DirFault) → p g ≡ found → ◌≡◌ {A = Option DirFault} (elim found [ Some y ↦ Some y | None ↦ first_of_them p gs o ]) None → Has (g ∷ gs) f → (first_of_them p gs o ≡ None → Has gs f → p f ≡ None) → p f ≡ None
  by None is none (inl e) rest = ap p (sym e) ∙ is
  by None is none (inr h) rest = rest none h
  by (Some y) is none h rest = absurd cc

module _ (wanted : ℕ) (l : Loaded) (s : Files) (load : IsLoad wanted l) (of : IsLoadOf wanted l s) where
  abbrev es : List Entry
  es = finite.entries of.image

  abbrev fs : List FileOf
  fs = data_files es None

  -- the entry of a data file
  of_entry : (f : FileOf) → Has fs f → (e : Entry) × Has es e × IsDataFile e × (file_of e.0 e.1 ≡ f)
  of_entry f h = file_has es f (sorted_has (files_by_name es None) f h)

  is_there : (f : FileOf) → Has fs f → finite.get of.image f.name ≡ Some f.bytes
  is_there f h = let e = of_entry f h in subst (λ (g : FileOf). finite.get of.image g.name ≡ Some g.bytes) e.3 (entry_there of.image e.0 e.1)

  by_its_bytes : (f : FileOf) → Has fs f → file_of f.name f.bytes ≡ f
  by_its_bytes f h = let e = of_entry f h in subst (λ (g : FileOf). file_of g.name g.bytes ≡ g) e.3 refl

  read_has : (f : FileOf) → Has fs f → (g : FileOf) × Has load.read g × (data_file g ≡ data_file f)
  read_has f h = has_map data_file load.read (data_file f) (subst (λ (files : List DataFile). Has files (data_file f)) (sym of.files ∙ load.files) (into_map data_file fs f h))

  sound : AllByRecursion (IsSoundFile wanted l.highest_file) fs
  sound = sound_by wanted l.highest_file fs (λ f h.
      let e = of_entry f h in
      let r = read_has f h in
      let was = sound_has wanted l.highest_file load.read r.0 load.sound r.1 in
      record {
        named = ap (λ (g : FileOf). is_data g.name) (sym e.3) ∙ e.2.named;
        long = subst (λ (g : FileOf). 16 ≤ length g.bytes) e.3 e.2.long;
        faultless = first_none (fault_of wanted) (files_by_name es None) (shared fs) f of.faultless (sorted_has (files_by_name es None) f h);
        id = subst (λ (d : DataFile). d.id ≤ l.highest_file) r.2 was.id;
        number = subst (λ (d : DataFile). IfSome (data_number d.name) (λ n. n ≤ l.highest_file)) r.2 was.number;
      })

  rising : AreRising 0 fs
  rising = rising_alike 0 load.read fs (sym load.files ∙ of.files) load.rising

  own : (f g : FileOf) → Has fs f → Has fs g → f.name ≡ g.name → f.id ≡ g.id
  own f g h k is =
      let bytes : Some f.bytes ≡ Some g.bytes = sym (is_there f h) ∙ ap (finite.get of.image) is ∙ is_there g k in
      let same : f.bytes ≡ g.bytes = cc in
      ap (λ (x : FileOf). x.id) (sym (by_its_bytes f h)) ∙ ap (λ (b : List ℕ). (file_of f.name b).id) same ∙ ap (λ (x : FileOf). x.id) (by_its_bytes g k)

  numbered : (f : FileOf) → Has fs f → IsNumbered l.highest_file f.name
  numbered f h = let is = sound_has wanted l.highest_file fs f sound h in by (data_number f.name) refl is.named is.number where
    by : (o : Option ℕ) → data_number f.name ≡ o → IsTrue (is_some o) → IfSome o (λ n. n ≤ l.highest_file) → IsNumbered l.highest_file f.name
    by None e named low = absurd cc
    by (Some n) e named low = (n, e, low)

  abbrev gs : List Segment
  gs = segments_of (λ f. f.name) fs l.base of.joined

  -- the file as it is, with nothing pending
  record IsDurable (now : Files) (f : FileOf) : Type 0 where
    file : File
    there : finite.get now f.name ≡ Some file
    bytes : file.bytes ≡ f.bytes
    still : file.pending ≡ []

  closed_are : (now : Files) (files : List FileOf) (base : List Placed) (joined : IsJoined files base) → AllByRecursion (IsSoundFile wanted l.highest_file) files
      → ((f : FileOf) → Has files f → file_of f.name f.bytes ≡ f) → ((f : FileOf) → Has files f → IsDurable now f) → AreClosed wanted now (segments_of (λ f. f.name) files base joined)
  closed_are now [] base joined is_sound whole durable = tt
  closed_are now (f ∷ files) base (spots, scan, rest, more, is) is_sound whole durable = (one, closed_are now files rest more is_sound.1 (λ g h. whole g (inr h)) (λ g h. durable g (inr h))) where
    g : Segment
    g = record { name = f.name; id = f.id; spots = spots }

    d : IsDurable now f
    d = durable f (inl refl)

    own_bytes : file_of f.name f.bytes ≡ f
    own_bytes = whole f (inl refl)

    faultless : (length f.bytes ≤ 268435456) × (f.version ≡ 2) × (f.user_version ≡ wanted)
    faultless = no_fault wanted f is_sound.0.faultless

    its_segment : IsSegment wanted g f.bytes
    its_segment = record {
      named = is_sound.0.named;
      long = is_sound.0.long;
      short = faultless.0;
      version = ap (λ (x : FileOf). x.version) own_bytes ∙ faultless.1;
      user_version = ap (λ (x : FileOf). x.user_version) own_bytes ∙ faultless.2;
      id = ap (λ (x : FileOf). x.id) own_bytes;
      scan = subst (λ (v : ℕ). IsScan f.bytes (f.id % 2 ^ 31) v spots) faultless.1 scan;
    }

    one : IsClosed wanted now g
    one = record {
      file = d.file;
      there = d.there;
      is = subst (IsSegment wanted g) (sym d.bytes) its_segment;
      still = λ i pends. subst (λ (p : List Range). IsPending p i) d.still pends;
    }

  -- What a reading has, where it has the names and lengths that the disk tells, and its data files are durable.
  closed_directory : (told now : Files) → Syncs s told → IsListedSame told now → ((f : FileOf) → Has fs f → IsSettled f.name told now) → IsClosedDirectory wanted gs now
  closed_directory told now syncs listed settled = record {
    ascending = ascending_are (λ f. f.name) 0 fs l.base of.joined rising;
    there = closed_are now fs l.base of.joined sound by_its_bytes durable;
    only = only;
    uncontrolled = none (finite.get now control_name) (finite.get told control_name) (listed control_name) (told_bytes control_name ∙ of.uncontrolled);
  } where
    -- the image has what the disk tells
    told_bytes : (n : FileName) → option_map (λ f. f.bytes) (finite.get told n) ≡ finite.get of.image n
    told_bytes n = bytes_synced s told syncs n ∙ sym (of.reading n)

    none : (x y : Option File) → option_map (λ f. length f.bytes) x ≡ option_map (λ f. length f.bytes) y → option_map (λ f. f.bytes) y ≡ None → x ≡ None
    none None y same nothing = refl
    none (Some f) None same nothing = absurd cc
    none (Some f) (Some g) same nothing = absurd cc

    durable : (f : FileOf) → Has fs f → IsDurable now f
    durable f h = by (finite.get now f.name) refl ((settled f h).bytes ∙ told_bytes f.name ∙ is_there f h) (settled f h).durable where
      by : (o : Option File) → finite.get now f.name ≡ o → option_map (λ f. f.bytes) o ≡ Some f.bytes → NothingPending o → IsDurable now f
      by None is bytes still = absurd cc
      by (Some file) is bytes still = record { file = file; there = is; bytes = cc; still = still }

    only : (n : FileName) (file : File) → IsTrue (is_data n) → 16 ≤ length file.bytes → finite.get now n ≡ Some file → IsNamed n gs
    only n file named long is = by (finite.get told n) refl (sym (ap (option_map (λ (f : File). length f.bytes)) is) ∙ listed n) (sym (told_bytes n)) where
      by : (o : Option File) → finite.get told n ≡ o → Some (length file.bytes) ≡ option_map (λ f. length f.bytes) o → finite.get of.image n ≡ option_map (λ f. f.bytes) o → IsNamed n gs
      by None e lens bytes = absurd cc
      by (Some g) e lens bytes =
          let len : length file.bytes ≡ length g.bytes = cc in
          let entry : Has es (n, g.bytes) = there_entry of.image n g.bytes bytes in
          has_named (λ f. f.name) (file_of n g.bytes) fs l.base of.joined
          (has_sorted (files_by_name es None) (file_of n g.bytes) (has_file es (n, g.bytes) entry (record { long = omega (arith, len, long); named = named })))

  base_told : (p q : Past) → content p.start p.calls ≡ s → Goes Syncs Syncs p q → AllAgree (Some q) IsListedSame → AllSettled (Some q) l.files → IsBase (Some q) wanted l.highest_file l.base
  base_told p q is goes listed settled = record {
    files = gs;
    records = records_are (λ f. f.name) fs l.base of.joined;
    ascending = ascending_are (λ f. f.name) 0 fs l.base of.joined rising;
    named = named_are l.highest_file (λ f. f.name) 0 fs l.base of.joined rising numbered own;
    each = each_are wanted l.highest_file (λ f. f.name) fs l.base of.joined sound;
    reads = λ now reads. closed_directory (content q.start q.calls) now (subst (λ (o : Files). Syncs o (content q.start q.calls)) is goes.told) (listed now reads) (λ f h. all_settled f h now reads);
  } where
    all_settled : (f : FileOf) → Has fs f → AllAgree (Some q) (IsSettled f.name)
    all_settled f h = all_has (λ (d : DataFile). AllAgree (Some q) (IsSettled d.name)) l.files settled (data_file f) (subst (λ (files : List DataFile). Has files (data_file f)) (sym of.files) (into_map data_file fs f h))

-- ---- what was loaded

-- What was loaded is a base behind syncs that made each of its files one content, all of it durable.
pub loaded_is_base : (wanted : ℕ) (l : Loaded) (a b : Option Past) → IsLoad wanted l → Told a (IsLoadOf wanted l) → l.highest_file < 2 ^ 31 → Leaves Syncs Syncs a b → AllAgree b IsListedSame → AllSettled b l.files → IsBase b wanted l.highest_file l.base
loaded_is_base wanted l None b load of low leaves listed settled = subst (λ (h : Option Past). IsBase h wanted l.highest_file l.base) (sym leaves) (base_untold wanted l load low)
loaded_is_base wanted l (Some p) b load of low leaves listed settled =
    subst (λ (h : Option Past). IsBase h wanted l.highest_file l.base) (sym leaves.1)
    (base_told wanted l (content p.start p.calls) load of p leaves.0 refl leaves.2 (subst (λ (h : Option Past). AllAgree h IsListedSame) leaves.1 listed) (subst (λ (h : Option Past). AllSettled h l.files) leaves.1 settled))
