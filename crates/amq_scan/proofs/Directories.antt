-- What a directory of data files loads, and what a crash leaves of it.
use Rattle.std.proofs.Common.{◌≡◌, inl, inr, ℕ, zero, suc, ◌+◌, ◌-◌, ◌^◌, ◌≤◌, ◌<◌, Bool, true, false, cond, leb, List, [], ◌∷◌, ◌++◌, length, take, drop, Option, None, Some, refl, sym, ap, subst, ◌∙◌, arith}
use Rattle.std.specs.Prelude.{IsTrue, ◌&&◌, ◌%◌, All, Contains, option_map, map}
use Rattle.std.specs.Int.{w32, w64, from_be_bytes}
use Rattle.std.specs.List.{cons_option}
use Rattle.std.specs.FinMap as finite
use Rattle.std.proofs.Math.Nat.{mod-lt}
use Rattle.std.proofs.lemmas.Bool.{leb-true, le-ltb, eq-eqb}
use Rattle.std.proofs.lemmas.Option.{same_Some, none-some}
use Rattle.std.proofs.lemmas.List.{take-append-drop, length-map, map-append, take-map, drop-map}
use Rattle.amq_model.specs.declared.record.Record.{Record}
use Rattle.amq_model.specs.declared.record.Placed.{Placed}
use Rattle.amq_model.specs.RecordAt.{Spot, RecordAt, whole_len}
use Rattle.amq_model.specs.Scan.{IsScan}
use Rattle.amq_model.specs.Kept.{IsPart}
use Rattle.amq_model.specs.Files.{FileName, Files, File, Image, IsTorn, IsFileImage, IsImage, IsReading}
use Rattle.amq_model.specs.Names.{is_data, control_name}
use Rattle.amq_model.specs.Directory.{FileOf, file_of, files_by_name, data_files, fault_of, fault, shared, SaysControl, IsJoined, placed}
use Rattle.amq_model.specs.Crash.{IsFoundIn, NoFalseRecord}
use Rattle.amq_scan.specs.Segments.{Segment, records_in, records_of, AreAscending, IsNamed, end_of_spots, IsSegment, IsThere, AreThere, IsDirectory, IsLeftOf}
use Rattle.amq_scan.specs.Images.{IsLeft}
use Rattle.amq_scan.proofs.Parts.{Has, has_contains, contains_has, all_by, all_has, has_left}
use Rattle.amq_scan.proofs.Scans.{scan_from, scan_of-is, same_scan}
use Rattle.amq_scan.proofs.Images.{Ascends, scan_ascends, same_part, scan_stands, left_part, left_durable}
use Rattle.amq_scan.proofs.Written.{front_kept}
use Rattle.amq_scan.proofs.Fronts.{part_map, has_map, nothing_taken, drop_both, part_append, front_of_both}
use Rattle.amq_scan.proofs.Sorted.{AscendById, ascend_has, same_ascending, sorted_has, has_sorted, HaveOwnIds, sorted_ascend, none_shared, none_first}
use Rattle.amq_scan.proofs.Entries.{Entry, HaveOwnNames, own_names, entry_there, there_entry, not_there, IsDataFile, has_file, file_has}

-- ---- spots

end_behind : (place : ℕ) (ss : List Spot) → Ascends place ss → place ≤ end_of_spots place ss
end_behind place [] a = omega arith
end_behind place (s ∷ ss) a = omega (arith, a.0, end_behind (s.place + s.len) ss a.2)

-- each ends no later than the last
ends_before : (place : ℕ) (ss : List Spot) (s : Spot) → Ascends place ss → Has ss s → s.place + s.len ≤ end_of_spots place ss
ends_before place [] s a h = absurd h
ends_before place (t ∷ ts) s a (inl e) = subst (λ (u : Spot). u.place + u.len ≤ end_of_spots (t.place + t.len) ts) e (end_behind (t.place + t.len) ts a.2)
ends_before place (t ∷ ts) s a (inr h) = ends_before (t.place + t.len) ts s a.2 h

ascends_take : (place n : ℕ) (ss : List Spot) → Ascends place ss → Ascends place (take n ss)
ascends_take place zero ss a = tt
ascends_take place (suc n) [] a = tt
ascends_take place (suc n) (s ∷ ss) a = (a.0, a.1, ascends_take (s.place + s.len) n ss a.2)

spot_by : (p q l m c d : ℕ) (r t : Record) → p ≡ q → l ≡ m → c ≡ d → r ≡ t → (let a : Spot = record { place = p; len = l; compact = c; rec = r } in a) ≡ record { place = q; len = m; compact = d; rec = t }
spot_by p q l m c d r t at long count says = cc

-- a record that stands somewhere is told by its place, its compact count and what it says
same_spot : (bytes other : List ℕ) (fid version id : ℕ) (a b : Spot) → RecordAt bytes fid version a → RecordAt other fid version b → placed id a ≡ placed id b → a ≡ b
same_spot bytes other fid version id a b one two is =
    let says : a.rec ≡ b.rec = ap (λ (p : Placed). p.rec) is in
    spot_by a.place b.place a.len b.len a.compact b.compact a.rec b.rec
    (ap (λ (p : Placed). p.place) is) (one.len ∙ ap (whole_len version) says ∙ sym two.len) (ap (λ (p : Placed). p.compact) is) says

-- ---- data files without a fault

-- what these bytes are but for the records
record IsSound (wanted : ℕ) (g : Segment) (bytes : List ℕ) : Type 0 where
  named : IsTrue (is_data g.name)
  long : 16 ≤ length bytes
  short : length bytes ≤ 268435456
  version : (file_of g.name bytes).version ≡ 2
  user_version : (file_of g.name bytes).user_version ≡ wanted
  id : (file_of g.name bytes).id ≡ g.id

no_fault : (wanted : ℕ) (g : Segment) (bytes : List ℕ) → IsSound wanted g bytes → fault_of wanted (file_of g.name bytes) ≡ None
no_fault wanted g bytes is = rw (le-ltb 268435456 (length bytes) is.short, eq-eqb _ _ is.version, eq-eqb _ _ is.user_version) refl

-- the image has such a file
record IsSoundIn (wanted : ℕ) (image : Image) (g : Segment) : Type 0 where
  bytes : List ℕ
  there : finite.get image g.name ≡ Some bytes
  is : IsSound wanted g bytes

-- it has all of these
abbrev AreSoundIn : ℕ → Image → List Segment → Type 0
AreSoundIn wanted image [] = Unit {0}
AreSoundIn wanted image (g ∷ gs) = IsSoundIn wanted image g × AreSoundIn wanted image gs

-- the files that it has so
abbrev files_of : (wanted : ℕ) (image : Image) (gs : List Segment) → AreSoundIn wanted image gs → List FileOf
files_of wanted image [] a = []
files_of wanted image (g ∷ gs) a = file_of g.name a.0.bytes ∷ files_of wanted image gs a.1

-- it has these files, no other data file, and no control file
record HasFiles (wanted : ℕ) (gs : List Segment) (image : Image) : Type 0 where
  ascending : AreAscending 0 gs
  sound : AreSoundIn wanted image gs
  only : (n : FileName) (bytes : List ℕ) → IsTrue (is_data n) → 16 ≤ length bytes → finite.get image n ≡ Some bytes → IsNamed n gs
  uncontrolled : finite.get image control_name ≡ None

module _ (wanted : ℕ) (image : Image) where
  abbrev es : List Entry
  es = finite.entries image

  ascend_by_id : (least : ℕ) (gs : List Segment) (a : AreSoundIn wanted image gs) → AreAscending least gs → AscendById least (files_of wanted image gs a)
  ascend_by_id least [] a r = tt
  ascend_by_id least (g ∷ gs) a r =
      let e = a.0.is.id in
      (subst (λ (k : ℕ). least ≤ k) (sym e) r.0, subst (λ (k : ℕ). AscendById (k + 1) (files_of wanted image gs a.1)) (sym e) (ascend_by_id (g.id + 1) gs a.1 r.1))

  listed : (gs : List Segment) (a : AreSoundIn wanted image gs) (f : FileOf) → Has (files_of wanted image gs a) f → Has (files_by_name es None) f
  listed [] a f h = absurd h
  listed (g ∷ gs) a f (inl e) = subst (Has (files_by_name es None)) e (has_file es (g.name, a.0.bytes) (there_entry image g.name a.0.bytes a.0.there) (record { long = a.0.is.long; named = a.0.is.named }))
  listed (g ∷ gs) a f (inr h) = listed gs a.1 f h

  each_sound : (gs : List Segment) (a : AreSoundIn wanted image gs) (f : FileOf) → Has (files_of wanted image gs a) f → fault_of wanted f ≡ None
  each_sound [] a f h = absurd h
  each_sound (g ∷ gs) a f (inl e) = subst (λ (f : FileOf). fault_of wanted f ≡ None) e (no_fault wanted g a.0.bytes a.0.is)
  each_sound (g ∷ gs) a f (inr h) = each_sound gs a.1 f h

  named_has : (gs : List Segment) (a : AreSoundIn wanted image gs) (e : Entry) → IsNamed e.0 gs → finite.get image e.0 ≡ Some e.1 → Has (files_of wanted image gs a) (file_of e.0 e.1)
  named_has [] a e n got = absurd n
  named_has (g ∷ gs) a e (inl same) got =
      inl (ap (λ (n : FileName). file_of n a.0.bytes) same ∙ ap (file_of e.0) (same_Some a.0.bytes e.1 (sym a.0.there ∙ ap (finite.get image) same ∙ got)))
  named_has (g ∷ gs) a e (inr n) got = inr (named_has gs a.1 e n got)

  module _ (gs : List Segment) (h : HasFiles wanted gs image) where
    abbrev files : List FileOf
    files = files_of wanted image gs h.sound

    entry_has : (e : Entry) → Has es e → IsDataFile e → Has files (file_of e.0 e.1)
    entry_has e has is = let got = entry_there image e has in named_has gs h.sound e (h.only e.0 e.1 is.named is.long got) got

    by_name_has : (f : FileOf) → Has (files_by_name es None) f → Has files f
    by_name_has f has = let r = file_has es f has in subst (Has files) r.3 (entry_has r.0 r.1 r.2)

    ascend : AscendById 0 files
    ascend = ascend_by_id 0 gs h.sound h.ascending

    one_id : (least : ℕ) (fs : List FileOf) (a b : FileOf) → AscendById least fs → Has fs a → Has fs b → a.id ≡ b.id → a ≡ b
    one_id least [] a b r h k e = absurd h
    one_id least (f ∷ fs) a b r (inl x) (inl y) e = sym x ∙ y
    one_id least (f ∷ fs) a b r (inl x) (inr y) e = absurd (omega (arith, ascend_has (f.id + 1) fs b r.1 y, ap (λ (f : FileOf). f.id) x, e))
    one_id least (f ∷ fs) a b r (inr x) (inl y) e = absurd (omega (arith, ascend_has (f.id + 1) fs a r.1 x, ap (λ (f : FileOf). f.id) y, e))
    one_id least (f ∷ fs) a b r (inr x) (inr y) e = one_id (f.id + 1) fs a b r.1 x y e

    own_ids : (some : List Entry) → HaveOwnNames some → ((e : Entry) → Has some e → Has es e) → HaveOwnIds (files_by_name some None)
    own_ids [] own within = tt
    own_ids (e ∷ some) own within = by (leb 16 (length e.1)) refl (is_data e.0) refl (own_ids some own.1 (λ x k. within x (inr k))) where
      by : (a : Bool) → leb 16 (length e.1) ≡ a → (b : Bool) → is_data e.0 ≡ b → HaveOwnIds (files_by_name some None) → HaveOwnIds (cons_option (cond (a && b) (Some (file_of e.0 e.1)) None) (files_by_name some None))
      by true le true named rest = (
        λ g k same.
            let r = file_has some g k in
            let here = entry_has e (within e (inl refl)) (record { long = leb-true 16 (length e.1) le; named = named }) in
            own.0 r.0 r.1 (ap (λ (f : FileOf). f.name) (one_id 0 files (file_of r.0.0 r.0.1) (file_of e.0 e.1) ascend (entry_has r.0 (within r.0 (inr r.1)) r.2) here (ap (λ (f : FileOf). f.id) r.3 ∙ same))),
        rest,
      )
      by true le false named rest = rest
      by false le b named rest = rest

    files_are : data_files es None ≡ files
    files_are = same_ascending 0 0 (data_files es None) files (sorted_ascend (files_by_name es None) (own_ids es (own_names image) (λ e k. k))) ascend
        (λ f k. by_name_has f (sorted_has (files_by_name es None) f k))
        (λ f k. has_sorted (files_by_name es None) f (listed gs h.sound f k))

    none_faulty : fault es None wanted ≡ None
    none_faulty = none_first (fault_of wanted) (files_by_name es None) (shared (data_files es None)) (λ f k. each_sound gs h.sound f (by_name_has f k)) ∙ ap shared files_are ∙ none_shared 0 files ascend

    no_control : SaysControl es None
    no_control bytes c there is = none-some bytes (sym (not_there image control_name h.uncontrolled) ∙ there)

    joined_are : (l : List Placed) → IsJoined files l → IsJoined (data_files es None) l
    joined_are l joined = subst (λ (fs : List FileOf). IsJoined fs l) (sym files_are) joined

-- ---- the directory itself

segment_sound : (wanted : ℕ) (g : Segment) (bytes : List ℕ) → IsSegment wanted g bytes → IsSound wanted g bytes
segment_sound wanted g bytes is = record { named = is.named; long = is.long; short = is.short; version = is.version; user_version = is.user_version; id = is.id }

-- the scan of a file by what its header says
scan_by_header : (wanted : ℕ) (g : Segment) (bytes : List ℕ) (spots : List Spot) → IsSound wanted g bytes → IsScan bytes (g.id % 2 ^ 31) 2 spots → IsScan bytes ((file_of g.name bytes).id % 2 ^ 31) (file_of g.name bytes).version spots
scan_by_header wanted g bytes spots is scan =
    subst (λ (v : ℕ). IsScan bytes ((file_of g.name bytes).id % 2 ^ 31) v spots) (sym is.version)
    (subst (λ (k : ℕ). IsScan bytes (k % 2 ^ 31) 2 spots) (sym is.id) scan)

-- the same the other way round
scan_by_id : (wanted : ℕ) (g : Segment) (bytes : List ℕ) (spots : List Spot) → IsSound wanted g bytes → IsScan bytes ((file_of g.name bytes).id % 2 ^ 31) (file_of g.name bytes).version spots → IsScan bytes (g.id % 2 ^ 31) 2 spots
scan_by_id wanted g bytes spots is scan =
    subst (λ (k : ℕ). IsScan bytes (k % 2 ^ 31) 2 spots) is.id
    (subst (λ (v : ℕ). IsScan bytes ((file_of g.name bytes).id % 2 ^ 31) v spots) is.version scan)

module _ (wanted : ℕ) (s : Files) (reading : Image) (reads : IsReading s reading) where
  read_there : (n : FileName) (file : File) → finite.get s n ≡ Some file → finite.get reading n ≡ Some file.bytes
  read_there n file there = reads n ∙ ap (option_map (λ (f : File). f.bytes)) there

  was_read : (n : FileName) (found : Option File) (bytes : List ℕ) → option_map (λ (f : File). f.bytes) found ≡ Some bytes → (file : File) × (found ≡ Some file) × (file.bytes ≡ bytes)
  was_read n None bytes is = absurd (none-some bytes is)
  was_read n (Some file) bytes is = (file, refl, same_Some file.bytes bytes is)

  read_sound : (sure : ℕ) (gs : List Segment) → AreThere wanted sure s gs → AreSoundIn wanted reading gs
  read_sound sure [] a = tt
  read_sound sure (g ∷ gs) a = (record { bytes = a.0.file.bytes; there = read_there g.name a.0.file a.0.there; is = segment_sound wanted g a.0.file.bytes a.0.is }, read_sound (sure - length g.spots) gs a.1)

  read_joined : (sure : ℕ) (gs : List Segment) (a : AreThere wanted sure s gs) → IsJoined (files_of wanted reading gs (read_sound sure gs a)) (records_of gs)
  unfolding read_sound
  read_joined sure [] a = refl
  read_joined sure (g ∷ gs) a =
      let is = segment_sound wanted g a.0.file.bytes a.0.is in (
        g.spots,
        scan_by_header wanted g a.0.file.bytes g.spots is a.0.is.scan,
        records_of gs,
        read_joined (sure - length g.spots) gs a.1,
        ap (λ (k : ℕ). map (placed k) g.spots ++ records_of gs) (sym is.id),
      )

  read_files : (sure : ℕ) (gs : List Segment) → IsDirectory wanted sure gs s → HasFiles wanted gs reading
  read_files sure gs d = record {
    ascending = d.ascending;
    sound = read_sound sure gs d.there;
    only = λ n bytes named long there.
        let w = was_read n (finite.get s n) bytes (sym (reads n) ∙ there) in
        d.only n w.0 named (subst (λ (l : List ℕ). 16 ≤ length l) (sym w.2) long) w.1;
    uncontrolled = reads control_name ∙ ap (option_map (λ (f : File). f.bytes)) d.uncontrolled;
  }

-- What the directory loads: no fault, no control file, and its records.
pub directory_read : (wanted sure : ℕ) (gs : List Segment) (s : Files) (reading : Image) → IsReading s reading → IsDirectory wanted sure gs s
    → (fault (finite.entries reading) None wanted ≡ None) × SaysControl (finite.entries reading) None × IsJoined (data_files (finite.entries reading) None) (records_of gs)
unfolding read_files
directory_read wanted sure gs s reading reads d =
    let h = read_files wanted s reading reads sure gs d in
    (none_faulty wanted reading gs h, no_control wanted reading gs h, joined_are wanted reading gs h (records_of gs) (read_joined wanted s reading reads sure gs d.there))

-- ---- one file of an image

image_of : (found : Option (List ℕ)) (file : File) → IsFileImage (Some file) found → (left : List ℕ) × (found ≡ Some left) × IsTorn file.pending file.bytes left
image_of None file is = absurd is
image_of (Some left) file is = (left, refl, is)

was_there : (found : Option File) (left : List ℕ) → IsFileImage found (Some left) → (file : File) × (found ≡ Some file) × (length left ≡ length file.bytes)
was_there None left is = absurd is
was_there (Some file) left is = (file, refl, is.len)

none_left : (found : Option (List ℕ)) → IsFileImage None found → found ≡ None
none_left None is = refl
none_left (Some left) is = absurd is

module _ (wanted sure : ℕ) (s : Files) (g : Segment) (t : IsThere wanted sure s g) (left : List ℕ) (torn : IsTorn t.file.pending t.file.bytes left) where
  abbrev fid : ℕ
  fid = g.id % 2 ^ 31

  fid_low : g.id % 2 ^ 31 < 2 ^ 32
  fid_low = omega (arith, mod-lt g.id {m = 2 ^ 31} (omega arith))

  ascends : Ascends 16 g.spots
  ascends = scan_ascends t.file.bytes fid 2 16 g.spots t.is.scan

  sure_ascends : Ascends 16 (take sure g.spots)
  sure_ascends = ascends_take 16 sure g.spots ascends

  -- the header is never pending
  header_stays : (place len : ℕ) → place + len ≤ 16 → take len (drop place left) ≡ take len (drop place t.file.bytes)
  header_stays place len within =
      same_part t.file.bytes left place len (omega (arith, within, t.is.long)) torn.len
      (λ i from to. torn.same i (omega (arith, t.is.long, within, to)) (λ p. omega (arith, t.behind i p, end_behind 16 (take sure g.spots) sure_ascends, within, to)))

  left_sound : IsSound wanted g left
  left_sound = record {
    named = t.is.named;
    long = omega (arith, torn.len, t.is.long);
    short = omega (arith, torn.len, t.is.short);
    version = ap (from_be_bytes w32) (header_stays 0 4 (omega arith)) ∙ t.is.version;
    user_version = ap (from_be_bytes w32) (header_stays 4 4 (omega arith)) ∙ t.is.user_version;
    id = ap (from_be_bytes w64) (header_stays 8 8 (omega arith)) ∙ t.is.id;
  }

  module _ (reading : Image) (read : finite.get reading g.name ≡ Some t.file.bytes) where
    -- a record that is found in both stands where it stood
    found_in : (u : Spot) → RecordAt left fid 2 u → IsFoundIn reading (file_of g.name left) u → Has g.spots u
    found_in u stands f =
        let here : f.bytes ≡ t.file.bytes = same_Some f.bytes t.file.bytes (sym f.there ∙ read) in
        let is = segment_sound wanted g t.file.bytes t.is in
        let scan : IsScan t.file.bytes fid 2 f.spots = scan_by_id wanted g t.file.bytes f.spots is
        (subst (λ (bytes : List ℕ). IsScan bytes ((file_of g.name bytes).id % 2 ^ 31) (file_of g.name bytes).version f.spots) here f.scan) in
        let all : f.spots ≡ g.spots = same_scan t.file.bytes fid 2 16 f.spots g.spots fid_low scan t.is.scan in
        let file : (file_of g.name f.bytes).id ≡ g.id = ap (λ (bytes : List ℕ). (file_of g.name bytes).id) here ∙ is.id in
        let there : Contains (map (placed g.id) g.spots) (placed g.id u) =
        subst (λ (k : ℕ). Contains (map (placed g.id) g.spots) (placed k u)) left_sound.id
        (subst (λ (k : ℕ). Contains (map (placed k) g.spots) (placed (file_of g.name left).id u)) file
        (subst (λ (us : List Spot). Contains (map (placed (file_of g.name f.bytes).id) us) (placed (file_of g.name left).id u)) all f.found)) in
        let v = has_map (placed g.id) g.spots (placed g.id u) (contains_has (map (placed g.id) g.spots) (placed g.id u) there) in
        subst (Has g.spots) (same_spot t.file.bytes left fid 2 g.id v.0 u (scan_stands t.file.bytes fid 2 16 g.spots v.0 t.is.scan v.1) stands v.2) v.1

    -- the sure records and a part of the others
    spots_left : (spots : List Spot) → IsScan left fid 2 spots → All (IsFoundIn reading (file_of g.name left)) spots → (rest : List Spot) × (spots ≡ take sure g.spots ++ rest) × IsPart rest (drop sure g.spots)
    spots_left spots scan found =
        let front : List Spot = take sure g.spots in
        let back : List Spot = drop sure g.spots in
        let both : front ++ back ≡ g.spots = take-append-drop sure g.spots in
        let l : IsLeft t.file.pending t.file.bytes left fid 2 g.spots spots = record {
          torn = torn;
          found_is = t.is.scan;
          left_is = scan;
          none_false = all_by (Contains g.spots) spots (λ u has. has_contains g.spots u (found_in u (scan_stands left fid 2 16 spots u scan has) (all_has (IsFoundIn reading (file_of g.name left)) spots found u has)));
        } in
        front_kept 16 spots front back (subst (Ascends 16) (sym both) ascends) (subst (IsPart spots) (sym both) (left_part t.file.pending t.file.bytes left fid 2 g.spots spots l))
        (λ u has. left_durable t.file.pending t.file.bytes left fid 2 g.spots spots l u (subst (λ (us : List Spot). Has us u) both (has_left front back u has))
        (λ i from to p. omega (arith, to, ends_before 16 front u sure_ascends has, t.behind i p)))

    -- the same of the records
    records_left : ((spots : List Spot) → IsScan left ((file_of g.name left).id % 2 ^ 31) (file_of g.name left).version spots → All (IsFoundIn reading (file_of g.name left)) spots)
        → (spots : List Spot) × IsScan left ((file_of g.name left).id % 2 ^ 31) (file_of g.name left).version spots
        × (rest : List Placed) × IsPart rest (drop sure (records_in g)) × (map (placed (file_of g.name left).id) spots ≡ take sure (records_in g) ++ rest)
    records_left none_false =
        let spots : List Spot = scan_from (length left) left fid 2 16 in
        let scan : IsScan left fid 2 spots = scan_of-is left fid 2 torn.bytes fid_low in
        let by_header = scan_by_header wanted g left spots left_sound scan in
        let r = spots_left spots scan (none_false spots by_header) in
        let f : Spot → Placed = placed g.id in (
          spots,
          by_header,
          map f r.0,
          subst (IsPart (map f r.0)) (sym (drop-map f sure g.spots)) (part_map f r.0 (drop sure g.spots) r.2),
          ap (λ (k : ℕ). map (placed k) spots) left_sound.id ∙ ap (map f) r.1 ∙ map-append f (take sure g.spots) r.0 ∙ ap (λ (l : List Placed). l ++ map f r.0) (sym (take-map f sure g.spots)),
        )

-- ---- all of them

module _ (wanted : ℕ) (s : Files) (reading image : Image) (reads : IsReading s reading) (is : IsImage s image) where
  image_in : (sure : ℕ) (g : Segment) (t : IsThere wanted sure s g) → (left : List ℕ) × (finite.get image g.name ≡ Some left) × IsTorn t.file.pending t.file.bytes left
  image_in sure g t = image_of (finite.get image g.name) t.file (subst (λ (f : Option File). IsFileImage f (finite.get image g.name)) t.there (is g.name))

  image_sound : (sure : ℕ) (gs : List Segment) → AreThere wanted sure s gs → AreSoundIn wanted image gs
  image_sound sure [] a = tt
  image_sound sure (g ∷ gs) a =
      let l = image_in sure g a.0 in
      (record { bytes = l.0; there = l.1; is = left_sound wanted sure s g a.0 l.0 l.2 }, image_sound (sure - length g.spots) gs a.1)

  image_files : (sure : ℕ) (gs : List Segment) → IsDirectory wanted sure gs s → HasFiles wanted gs image
  image_files sure gs d = record {
    ascending = d.ascending;
    sound = image_sound sure gs d.there;
    only = λ n bytes named long there.
        let w = was_there (finite.get s n) bytes (subst (IsFileImage (finite.get s n)) there (is n)) in
        d.only n w.0 named (omega (arith, long, w.2)) w.1;
    uncontrolled = none_left (finite.get image control_name) (subst (λ (f : Option File). IsFileImage f (finite.get image control_name)) d.uncontrolled (is control_name));
  }

  -- no record of this file is a false one
  abbrev HasNoFalse : FileOf → Type 0
  HasNoFalse f = (spots : List Spot) → IsScan f.bytes (f.id % 2 ^ 31) f.version spots → All (IsFoundIn reading f) spots

  image_joined : (sure : ℕ) (gs : List Segment) (a : AreThere wanted sure s gs) → ((f : FileOf) → Has (files_of wanted image gs (image_sound sure gs a)) f → HasNoFalse f)
      → (rest : List Placed) × IsPart rest (drop sure (records_of gs)) × IsJoined (files_of wanted image gs (image_sound sure gs a)) (take sure (records_of gs) ++ rest)
  unfolding image_in image_sound
  image_joined sure [] a none_false = ([], tt, nothing_taken sure)
  image_joined sure (g ∷ gs) a none_false =
      let l = image_in sure g a.0 in
      let one = records_left wanted sure s g a.0 l.0 l.2 reading (read_there wanted s reading reads g.name a.0.file a.0.there) (none_false (file_of g.name l.0) (inl refl)) in
      let more = image_joined (sure - length g.spots) gs a.1 (λ f has. none_false f (inr has)) in
      let files : List FileOf = files_of wanted image gs (image_sound (sure - length g.spots) gs a.1) in
      let xs : List Placed = records_in g in
      let ys : List Placed = records_of gs in
      let many : length g.spots ≡ length xs = sym (length-map g.spots (placed g.id)) in
      let some : List Placed = one.2 in
      let rest : List Placed = more.0 in
      let part : IsPart rest (drop (sure - length xs) ys) = subst (λ (k : ℕ). IsPart rest (drop (sure - k) ys)) many more.1 in
      let joined : IsJoined files (take (sure - length xs) ys ++ rest) = subst (λ (k : ℕ). IsJoined files (take (sure - k) ys ++ rest)) many more.2 in (
        some ++ rest,
        subst (IsPart (some ++ rest)) (sym (drop_both sure xs ys)) (part_append some rest (drop sure xs) (drop (sure - length xs) ys) one.3 part),
        (
          one.0,
          one.1,
          take (sure - length xs) ys ++ rest,
          joined,
          sym (front_of_both sure xs ys some rest one.3) ∙ ap (λ (l : List Placed). l ++ (take (sure - length xs) ys ++ rest)) (sym one.4),
        ),
      )

-- What a crash leaves of the directory: no fault, no control file, and the sure records with a part of the others.
pub directory_left : (wanted sure : ℕ) (gs : List Segment) (s : Files) (reading image : Image) → IsReading s reading → IsImage s image → NoFalseRecord reading image → IsDirectory wanted sure gs s → IsLeftOf wanted sure gs image
unfolding image_files
directory_left wanted sure gs s reading image reads is none_false d =
    let h = image_files wanted s reading image reads is sure gs d in
    let says = no_control wanted image gs h in
    let files : List FileOf = files_of wanted image gs h.sound in
    let P : FileOf → Type 0 = HasNoFalse wanted s reading image reads is in
    let each : All P files = subst (All P) (files_are wanted image gs h) (none_false None says) in
    let r = image_joined wanted s reading image reads is sure gs d.there (λ f has. all_has P files each f has) in
    record {
      sound = none_faulty wanted image gs h;
      uncontrolled = h.uncontrolled;
      says = says;
      rest = r.0;
      some = r.1;
      joined = joined_are wanted image gs h (take sure (records_of gs) ++ r.0) r.2;
    }
