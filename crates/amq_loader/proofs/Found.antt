-- What is found in the files of a directory, one after the other.
use Rattle.std.proofs.Common.{◌≡◌, inl, inr, ℕ, zero, suc, ◌+◌, ◌<◌, Bool, true, false, cond, List, [], ◌∷◌, ◌++◌, length, take, get_or, map, Option, None, Some, refl, sym, ap, subst, ◌∙◌, add-one, arith}
use Rattle.std.specs.Prelude.{◌||◌, option_map, IfSome, IsSome}
use Rattle.std.specs.Option.{option_to_list}
use Rattle.std.specs.List.{cons_option, list_any, AllByRecursion}
use Rattle.std.specs.FinMap as finite
use Rattle.std.proofs.lemmas.Bool.{false≢true}
use Rattle.std.proofs.lemmas.Option.{same_Some, none-some}
use Rattle.std.proofs.lemmas.List.{map-append, length-append, length-map, length-take-le, map_more, take_all}
use Rattle.std.proofs.lemmas.List.Elements.{filter_map-append}
use Rattle.amq_model.specs.declared.directory.DirFault.{DirFault}
use Rattle.amq_model.specs.Files.{FileName, Files, File}
use Rattle.amq_model.specs.Names.{same}
use Rattle.amq_header.proofs.Endings.{same_is, same_self}
use Rattle.amq_model.specs.Calls.{Past, content}
use Rattle.amq_model.specs.Leaves.{Told, HasBytes, IsThere}
use Rattle.amq_model.specs.Directory.{Listing, FileOf, file_of, files_by_name, fault_of, first_of_them, shared, data_files, fault}
use Rattle.amq_scan.proofs.Parts.{Has}
use Rattle.amq_scan.proofs.Entries.{entry_there}
use Rattle.amq_io.specs.declared.disk.FileInfo.{FileInfo}
use Rattle.amq_io.specs.Listed.{IsListed}
use Rattle.amq_loader.specs.declared.part.Part.{Part}
use Rattle.amq_loader.specs.Parts.{ArePartsOf, is_counted, IsFound, IsFaultHere, IsListedFile, IsFoundIn, IsFaultIn, listing_of, AreFound, IsFirstFault, AreLoaded, IsFault, parts_by_id, shared_id}
use Rattle.amq_loader.proofs.Readings.{reading_of, is_reading, reading_entries}
use Rattle.amq_loader.proofs.Sorting.{sorted_parts, shared_parts, rising_parts}

-- ---- a file of the listing

abbrev lengths : Listing → List (FileName × ℕ)
lengths l = map {B = FileName × ℕ} (λ e. (e.0, length e.1)) l

lengths_of : (es : List (FileName × File)) → map {B = FileName × ℕ} (λ e. (e.0, length e.1.bytes)) es ≡ lengths (map {B = List ℕ × List ℕ} (λ e. (e.0, e.1.bytes)) es)
lengths_of [] = refl
lengths_of (e ∷ es) = ap (λ (l : List (FileName × ℕ)). (e.0, length e.1.bytes) ∷ l) (lengths_of es)

-- the listing's file at a place
pub record At (i : ℕ) (info : FileInfo) (l : Listing) : Type 0 where
  pub file : List ℕ × List ℕ
  pub name : file.0 ≡ info.name
  pub len : info.len ≡ length file.1
  pub rest : Listing
  pub split : l ≡ take i l ++ file ∷ rest
  pub more : take (suc i) l ≡ take i l ++ file ∷ []
  pub has : Has l file

at : (i : ℕ) (infos : List FileInfo) (l : Listing) (info : FileInfo) → map {B = FileName × ℕ} (λ i. (i.name, i.len)) infos ≡ lengths l → i < length infos → info ≡ get_or infos i info → At i info l
at i [] l info is lt here = absurd (omega (arith, lt))
at i (x ∷ xs) [] info is lt here = absurd cc
at zero (x ∷ xs) (e ∷ l) info is lt here =
    let both : (x.name, x.len) ≡ (e.0, length e.1) = cc in
    record {
      file = e;
      name = sym (ap (λ (p : FileName × ℕ). p.0) both) ∙ sym (ap (λ i. i.name) here);
      len = ap (λ i. i.len) here ∙ ap (λ (p : FileName × ℕ). p.1) both;
      rest = l;
      split = refl;
      more = refl;
      has = inl refl;
    }
at (suc i) (x ∷ xs) (e ∷ l) info is lt here =
    let r = at i xs l info (cc) (omega (arith, lt)) here in
    record {
      file = r.file;
      name = r.name;
      len = r.len;
      rest = r.rest;
      split = ap (λ (es : Listing). e ∷ es) r.split;
      more = ap (λ (es : Listing). e ∷ es) r.more;
      has = inr r.has;
    }

pub listed_at : (i : ℕ) (infos : List FileInfo) (info : FileInfo) (s : Files) → IsListed infos s → i < length infos → info ≡ get_or infos i info → At i info (listing_of s)
listed_at i infos info s listed lt here = at i infos (listing_of s) info (listed ∙ lengths_of (finite.entries s)) lt here

-- the files of a list are there
was_there : (s : Files) (file : List ℕ × List ℕ) → Has (listing_of s) file → (found : File) × (finite.get s file.0 ≡ Some found) × (found.bytes ≡ file.1)
was_there s file has = by (finite.get s file.0) (sym (is_reading s file.0) ∙ entry_there (reading_of s) file (subst (λ (l : Listing). Has l file) (sym (reading_entries s)) has)) where
  by : (o : Option File) → option_map (λ f. f.bytes) o ≡ Some file.1 → (found : File) × (o ≡ Some found) × (found.bytes ≡ file.1)
  by None e = absurd (none-some file.1 e)
  by (Some f) e = (f, refl, same_Some f.bytes file.1 e)

pub listed_file : (i : ℕ) (infos : List FileInfo) (info : FileInfo) (s : Files) → i < length infos → info ≡ get_or infos i info → IsListed infos s → IsListedFile info s
listed_file i infos info s lt here listed =
    let a = listed_at i infos info s listed lt here in
    let w = was_there s a.file a.has in
    record { file = w.0; there = ap (finite.get s) (sym a.name) ∙ w.1; len = a.len ∙ ap length (sym w.2) }

-- ---- one more file

abbrev one_by_name : List ℕ × List ℕ → Option FileOf
one_by_name f = cond (is_counted f.0 f.1) (Some (file_of f.0 f.1)) None

all_more : (P : FileOf → Type 0) (xs ys : List FileOf) → AllByRecursion P xs → AllByRecursion P ys → AllByRecursion P (xs ++ ys)
all_more P [] ys a b = b
all_more P (x ∷ xs) ys a b = (a.0, all_more P xs ys a.1 b)

parts_more : (fs gs : List FileOf) (ps qs : List Part) → ArePartsOf fs ps → ArePartsOf gs qs → ArePartsOf (fs ++ gs) (ps ++ qs)
parts_more [] gs [] qs a b = b
parts_more [] gs (p ∷ ps) qs a b = absurd a
parts_more (f ∷ fs) gs [] qs a b = absurd a
parts_more (f ∷ fs) gs (p ∷ ps) qs a b = (a.0, parts_more fs gs ps qs a.1 b)

-- what is found in one file, as of a list of one
abbrev Faultless : ℕ → FileOf → Type 0
Faultless wanted f = fault_of wanted f ≡ None

one_found : (wanted : ℕ) (name bytes : List ℕ) (found : Option Part) → IsFound wanted name bytes found
    → AllByRecursion (Faultless wanted) (files_by_name ((name, bytes) ∷ []) None) × ArePartsOf (files_by_name ((name, bytes) ∷ []) None) (option_to_list found)
one_found wanted name bytes found is = by (is_counted name bytes) refl found is where
  by : (b : Bool) → is_counted name bytes ≡ b → (found : Option Part) → IsFound wanted name bytes found
      → AllByRecursion (Faultless wanted) (cons_option (cond b (Some (file_of name bytes)) None) []) × ArePartsOf (cons_option (cond b (Some (file_of name bytes)) None) []) (option_to_list found)
  by true e None is = absurd (false≢true (sym is ∙ e))
  by true e (Some p) is = ((is.faultless, tt), (is.part, tt))
  by false e None is = (tt, tt)
  by false e (Some p) is = absurd (false≢true (sym e ∙ is.counts))

told_more : (past : Option Past) (i : ℕ) (infos : List FileInfo) (info : FileInfo) (l : Listing) (bytes : List ℕ) → i < length infos → info ≡ get_or infos i info → length l ≡ i
    → Told past (IsListed infos) → Told past (λ s. l ≡ take (length l) (listing_of s)) → Told past (HasBytes info.name bytes) → Told past (λ s. l ++ (info.name, bytes) ∷ [] ≡ take (length (l ++ (info.name, bytes) ∷ [])) (listing_of s))
told_more None i infos info l bytes lt here len listed front has = tt
told_more (Some p) i infos info l bytes lt here len listed front has =
    let s = content p.start p.calls in
    let a = listed_at i infos info s listed lt here in
    let w = was_there s a.file a.has in
    let named : finite.get s info.name ≡ Some w.0 = ap (finite.get s) (sym a.name) ∙ w.1 in
    let is : bytes ≡ w.0.bytes = subst (λ (o : Option File). IfSome o (λ f. bytes ≡ f.bytes)) named has in
    let file : a.file ≡ (info.name, bytes) = pair a.file info.name bytes a.name (sym w.2 ∙ sym is) in
    let longer : length (l ++ (info.name, bytes) ∷ []) ≡ i + 1 = length-append l ((info.name, bytes) ∷ []) ∙ ap (λ (n : ℕ). n + 1) len in
    ap (λ (x : Listing). x ++ (info.name, bytes) ∷ []) (front ∙ ap (λ (n : ℕ). take n (listing_of s)) len)
    ∙ ap (λ (x : List ℕ × List ℕ). take i (listing_of s) ++ x ∷ []) (sym file)
    ∙ sym a.more
    ∙ ap (λ (n : ℕ). take n (listing_of s)) (sym (longer ∙ add-one i))
  where
    pair : (f : List ℕ × List ℕ) (n b : List ℕ) → f.0 ≡ n → f.1 ≡ b → f ≡ (n, b)
    pair f n b x y = ap (λ (m : List ℕ). (let p : List ℕ × List ℕ = (m, f.1) in p)) x ∙ ap (λ (c : List ℕ). (let p : List ℕ × List ℕ = (n, c) in p)) y

pub found_none : (wanted : ℕ) (past : Option Past) → AreFound wanted [] past []
found_none wanted past = record { listing = []; named = refl; told = none past; faultless = tt; kept = tt } where
  none : (past : Option Past) → Told past (λ s. [] ≡ take 0 (listing_of s))
  none None = tt
  none (Some p) = refl

pub found_more : (wanted : ℕ) (past : Option Past) (i : ℕ) (infos : List FileInfo) (info : FileInfo) (parts : List Part) (found : Option Part) → i < length infos → info ≡ get_or infos i info
    → Told past (IsListed infos) → AreFound wanted (map (λ i. i.name) (take i infos)) past parts → IsFoundIn wanted info.name past found
    → AreFound wanted (map (λ i. i.name) (take (i + 1) infos)) past (parts ++ option_to_list found)
found_more wanted past i infos info parts found lt here listed so_far one =
    let l = so_far.listing in
    let x : List ℕ × List ℕ = (info.name, one.bytes) in
    let len : length l ≡ i = sym (length-map l (λ (f : List ℕ × List ℕ). f.0)) ∙ ap length so_far.named ∙ length-map (take i infos) (λ (i : FileInfo). i.name) ∙ length-take-le i infos (omega (arith, lt)) in
    let each = one_found wanted info.name one.bytes found one.is in
    let files : files_by_name (l ++ x ∷ []) None ≡ files_by_name l None ++ files_by_name (x ∷ []) None = filter_map-append one_by_name l (x ∷ []) in
    record {
      listing = l ++ x ∷ [];
      named = map-append (λ (f : List ℕ × List ℕ). f.0) l (x ∷ []) ∙ ap (λ (ns : List (List ℕ)). ns ++ info.name ∷ []) so_far.named ∙ ap (λ (j : FileInfo). map (λ i. i.name) (take i infos) ++ j.name ∷ []) here ∙ sym (map_more (λ (i : FileInfo). i.name) infos i info lt);
      told = told_more past i infos info l one.bytes lt here len listed so_far.told one.told;
      faultless = subst (AllByRecursion (Faultless wanted)) (sym files) (all_more (Faultless wanted) (files_by_name l None) (files_by_name (x ∷ []) None) so_far.faultless each.0);
      kept = subst (λ (fs : List FileOf). ArePartsOf fs (parts ++ option_to_list found)) (sym files) (parts_more (files_by_name l None) (files_by_name (x ∷ []) None) parts (option_to_list found) so_far.kept each.1);
    }

-- ---- a fault

first_behind : (wanted : ℕ) (fs gs : List FileOf) (o : Option DirFault) → AllByRecursion (Faultless wanted) fs → first_of_them (fault_of wanted) (fs ++ gs) o ≡ first_of_them (fault_of wanted) gs o
first_behind wanted [] gs o none = refl
first_behind wanted (f ∷ fs) gs o none = ap (λ (found : Option DirFault). elim found [ Some y ↦ Some y | None ↦ first_of_them (fault_of wanted) (fs ++ gs) o ]) none.0 ∙ first_behind wanted fs gs o none.1

fault_first : (wanted : ℕ) (file : List ℕ × List ℕ) (rest : Listing) (found : DirFault) (o : Option DirFault) → IsFaultHere wanted file.0 file.1 found → first_of_them (fault_of wanted) (files_by_name (file ∷ rest) None) o ≡ Some found
fault_first wanted file rest found o is =
    ap (λ (b : Bool). first_of_them (fault_of wanted) (cons_option (cond b (Some (file_of file.0 file.1)) None) (files_by_name rest None)) o) is.counts
    ∙ ap (λ (x : Option DirFault). elim x [ Some y ↦ Some y | None ↦ first_of_them (fault_of wanted) (files_by_name rest None) o ]) is.is

first_fault : (wanted : ℕ) (i : ℕ) (infos : List FileInfo) (info : FileInfo) (l : Listing) (found : DirFault) (s : Files) → i < length infos → info ≡ get_or infos i info → length l ≡ i → AllByRecursion (Faultless wanted) (files_by_name l None)
    → IsListed infos s → l ≡ take (length l) (listing_of s) → IsFaultIn wanted info.name found s → IsFirstFault wanted found s
first_fault wanted i infos info l found s lt here len none listed front fails otherwise =
    let a = listed_at i infos info s listed lt here in
    let w = was_there s a.file a.has in
    let named : finite.get s info.name ≡ Some w.0 = ap (finite.get s) (sym a.name) ∙ w.1 in
    let is : IsFaultHere wanted info.name w.0.bytes found = subst (λ (o : Option File). IfSome o (λ f. IsFaultHere wanted info.name f.bytes found)) named fails in
    let is : IsFaultHere wanted a.file.0 a.file.1 found = subst (λ (n : List ℕ). IsFaultHere wanted n a.file.1 found) (sym a.name) (subst (λ (b : List ℕ). IsFaultHere wanted info.name b found) w.2 is) in
    let first : l ≡ take i (listing_of s) = front ∙ ap (λ (n : ℕ). take n (listing_of s)) len in
    let split : listing_of s ≡ l ++ a.file ∷ a.rest = a.split ∙ ap (λ (x : Listing). x ++ a.file ∷ a.rest) (sym first) in
    ap (λ (x : Listing). first_of_them (fault_of wanted) (files_by_name x None) otherwise) split
    ∙ ap (λ (fs : List FileOf). first_of_them (fault_of wanted) fs otherwise) (filter_map-append one_by_name l (a.file ∷ a.rest))
    ∙ first_behind wanted (files_by_name l None) (files_by_name (a.file ∷ a.rest) None) otherwise none
    ∙ fault_first wanted a.file a.rest found otherwise is

pub told_fault : (wanted : ℕ) (past : Option Past) (i : ℕ) (infos : List FileInfo) (info : FileInfo) (parts : List Part) (found : DirFault) → i < length infos → info ≡ get_or infos i info
    → Told past (IsListed infos) → AreFound wanted (map (λ i. i.name) (take i infos)) past parts → Told past (IsFaultIn wanted info.name found) → Told past (IsFirstFault wanted found)
told_fault wanted None i infos info parts found lt here listed so_far fails = tt
told_fault wanted (Some p) i infos info parts found lt here listed so_far fails =
    let l = so_far.listing in
    let len : length l ≡ i = sym (length-map l (λ (f : List ℕ × List ℕ). f.0)) ∙ ap length so_far.named ∙ length-map (take i infos) (λ (i : FileInfo). i.name) ∙ length-take-le i infos (omega (arith, lt)) in
    first_fault wanted i infos info l found (content p.start p.calls) lt here len so_far.faultless listed so_far.told fails

-- ---- all files

whole : (infos : List FileInfo) (l : Listing) (s : Files) → map (λ f. f.0) l ≡ map (λ i. i.name) infos → IsListed infos s → l ≡ take (length l) (listing_of s) → l ≡ listing_of s
whole infos l s named listed front =
    let len : length (listing_of s) ≡ length l =
    sym (length-map (listing_of s) (λ (e : List ℕ × List ℕ). (let p : FileName × ℕ = (e.0, length e.1) in p))) ∙ sym (ap length (listed ∙ lengths_of (finite.entries s))) ∙ length-map infos (λ (i : FileInfo). (let p : FileName × ℕ = (i.name, i.len) in p))
    ∙ sym (length-map infos (λ (i : FileInfo). i.name)) ∙ sym (ap length named) ∙ length-map l (λ (f : List ℕ × List ℕ). f.0) in
    front ∙ take_all (length l) (listing_of s) (omega (arith, len))

told_whole : (past : Option Past) (infos : List FileInfo) (l : Listing) → map (λ f. f.0) l ≡ map (λ i. i.name) infos → Told past (IsListed infos) → Told past (λ s. l ≡ take (length l) (listing_of s)) → Told past (λ s. l ≡ listing_of s)
told_whole None infos l named listed front = tt
told_whole (Some p) infos l named listed front = whole infos l (content p.start p.calls) named listed front

none_first : (wanted : ℕ) (fs : List FileOf) (o : Option DirFault) → AllByRecursion (Faultless wanted) fs → first_of_them (fault_of wanted) fs o ≡ o
none_first wanted [] o none = refl
none_first wanted (f ∷ fs) o none = ap (λ (found : Option DirFault). elim found [ Some y ↦ Some y | None ↦ first_of_them (fault_of wanted) fs o ]) none.0 ∙ none_first wanted fs o none.1

shared_is : (wanted : ℕ) (l : Listing) (parts : List Part) → AllByRecursion (Faultless wanted) (files_by_name l None) → ArePartsOf (files_by_name l None) parts → fault l None wanted ≡ shared_id (parts_by_id parts)
shared_is wanted l parts none kept = none_first wanted (files_by_name l None) (shared (data_files l None)) none ∙ shared_parts (data_files l None) (parts_by_id parts) (sorted_parts (files_by_name l None) parts kept)

pub are_loaded : (wanted : ℕ) (past : Option Past) (infos : List FileInfo) (parts : List Part) → Told past (IsListed infos) → AreFound wanted (map (λ i. i.name) infos) past parts → shared_id (parts_by_id parts) ≡ None
    → AreLoaded wanted (map (λ i. i.name) infos) past (parts_by_id parts)
are_loaded wanted past infos parts listed found none = record {
  listing = found.listing;
  named = found.named;
  told = told_whole past infos found.listing found.named listed found.told;
  faultless = shared_is wanted found.listing parts found.faultless found.kept ∙ none;
  rising = rising_parts (files_by_name found.listing None) parts found.kept none;
  kept = sorted_parts (files_by_name found.listing None) parts found.kept;
}

pub two_told : (wanted : ℕ) (past : Option Past) (infos : List FileInfo) (parts : List Part) (fails : DirFault) → Told past (IsListed infos) → AreFound wanted (map (λ i. i.name) infos) past parts → shared_id (parts_by_id parts) ≡ Some fails
    → Told past (IsFault wanted fails)
two_told wanted None infos parts fails listed found is = tt
two_told wanted (Some p) infos parts fails listed found is =
    let s = content p.start p.calls in
    ap (λ (l : Listing). fault l None wanted) (sym (whole infos found.listing s found.named listed found.told)) ∙ shared_is wanted found.listing parts found.faultless found.kept ∙ is

-- a first fault of one file is the directory's
pub first_told : (wanted : ℕ) (fails : DirFault) (s : Files) → IsFirstFault wanted fails s → IsFault wanted fails s
first_told wanted fails s is = is (shared (data_files (listing_of s) None))

-- ---- names

or_right : (a b : Bool) → b ≡ true → (a || b) ≡ true
or_right true b e = refl
or_right false b e = e

-- a file of the directory is in its list
pub listed_name : (infos : List FileInfo) (s : Files) (name bytes : List ℕ) → IsListed infos s → Has (listing_of s) (name, bytes) → list_any (λ i. same i.name name) infos ≡ true
listed_name infos s name bytes listed has = by infos (listing_of s) (listed ∙ lengths_of (finite.entries s)) has where
  by : (infos : List FileInfo) (l : Listing) → map {B = FileName × ℕ} (λ i. (i.name, i.len)) infos ≡ lengths l → Has l (name, bytes) → list_any (λ i. same i.name name) infos ≡ true
  by [] [] is has = absurd has
  by [] (e ∷ l) is has = absurd cc
  by (i ∷ infos) [] is has = absurd has
  by (i ∷ infos) (e ∷ l) is (inl here) =
      let both : (i.name, i.len) ≡ (e.0, length e.1) = cc in
      let named : i.name ≡ name = ap (λ (p : FileName × ℕ). p.0) both ∙ ap (λ (p : List ℕ × List ℕ). p.0) here in
      ap (λ (n : List ℕ). same n name || list_any (λ i. same i.name name) infos) named ∙ ap (λ (b : Bool). b || list_any (λ i. same i.name name) infos) (same_self name)
  by (i ∷ infos) (e ∷ l) is (inr there) = or_right (same i.name name) (list_any (λ i. same i.name name) infos) (by infos l (cc) there)

-- a name of the list is there
pub named_listed : (infos : List FileInfo) (s : Files) (name : List ℕ) → IsListed infos s → list_any (λ i. same i.name name) infos ≡ true → IsThere name s
named_listed infos s name listed some = found (by infos (listing_of s) (listed ∙ lengths_of (finite.entries s)) some) where
  by : (infos : List FileInfo) (l : Listing) → map {B = FileName × ℕ} (λ i. (i.name, i.len)) infos ≡ lengths l → list_any (λ i. same i.name name) infos ≡ true → (e : List ℕ × List ℕ) × Has l e × (e.0 ≡ name)
  by [] l is some = absurd (false≢true some)
  by (i ∷ infos) [] is some = absurd cc
  by (i ∷ infos) (e ∷ l) is some = here (same i.name name) refl some (by infos l (cc)) where
    here : (b : Bool) → same i.name name ≡ b → (b || list_any (λ i. same i.name name) infos) ≡ true → (list_any (λ i. same i.name name) infos ≡ true → (e : List ℕ × List ℕ) × Has l e × (e.0 ≡ name)) → (x : List ℕ × List ℕ) × Has (e ∷ l) x × (x.0 ≡ name)
    here true t some rest =
        let both : (i.name, i.len) ≡ (e.0, length e.1) = cc in
        (e, inl refl, sym (ap (λ (p : FileName × ℕ). p.0) both) ∙ same_is i.name name t)
    here false t some rest = let r = rest some in (r.0, inr r.1, r.2)

  found : (r : (e : List ℕ × List ℕ) × Has (listing_of s) e × (e.0 ≡ name)) → IsThere name s
  found r = let w = was_there s r.0 r.1 in subst IsSome (sym (ap (finite.get s) (sym r.2) ∙ w.1)) refl
