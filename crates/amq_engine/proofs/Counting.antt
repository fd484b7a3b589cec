-- How many data files there are behind an opening.
use Rattle.std.proofs.Common.{◌≡◌, ◌⊎◌, inl, inr, ⊎_elim, ℕ, zero, suc, ◌+◌, ◌-◌, ◌^◌, ◌<◌, ◌≤◌, Bool, true, false, cond, leb, ltb, List, [], ◌∷◌, ◌++◌, length, Option, None, Some, refl, sym, ap, subst, ◌∙◌, arith}
use Rattle.std.specs.Prelude.{max, fold, map, option_map, ◌&&◌}
use Rattle.std.specs.List.{filter_map, cons_option}
use Rattle.std.specs.FinMap as finite
use Rattle.std.proofs.lemmas.Bool.{leb-true, le-leb, cases_lt}
use Rattle.std.proofs.lemmas.List.{length-append, length-map}
use Rattle.amq_model.specs.Names.{is_data, data_number}
use Rattle.amq_model.specs.Files.{FileName, File, Files, Image, IsReading}
use Rattle.amq_model.specs.Directory.{FileOf, file_of, files_by_name, data_files, placed_by_id, by_id}
use Rattle.amq_header.specs.Classes.{data_name}
use Rattle.amq_header.proofs.Made.{data_is_read, data_differ}
use Rattle.amq_loader.specs.Loads.{number_of}
use Rattle.amq_loader.proofs.Readings.{reading_of, is_reading}
use Rattle.amq_scan.proofs.Parts.{Has}
use Rattle.amq_scan.proofs.Entries.{Entry, HaveOwnNames, own_names, entry_there, there_entry, IsDataFile, has_file, file_has}
use Rattle.amq_engine.specs.Opening.{HasNumbers}
use Rattle.amq_model.specs.Calls.{Past}
use Rattle.amq_model.specs.Leaves.{Told}
use Rattle.amq_engine.proofs.FilesTold.{told_for}
use Rattle.amq_engine.specs.DataFiles.{Works, id_and_length, data_file_at, HasCount, HasFilesMade, IsNumbered}

-- ---- lists of names

abbrev Differ : List FileName → Type 0
Differ [] = Unit {0}
Differ (x ∷ xs) = (Has xs x → ⊥) × Differ xs

record Without (x : FileName) (ys : List FileName) : Type 0 where
  rest : List FileName
  long : length ys ≡ length rest + 1
  keeps : (y : FileName) → Has ys y → (y ≡ x → ⊥) → Has rest y

without : (ys : List FileName) (x : FileName) → Has ys x → Without x ys
without [] x h = absurd h
without (y ∷ ys) x (inl e) = record { rest = ys; long = omega arith; keeps = λ z h ne. ⊎_elim (λ (is : y ≡ z). absurd (ne (sym is ∙ e))) (λ (k : Has ys z). k) h }
without (y ∷ ys) x (inr h) = let r = without ys x h in record { rest = y ∷ r.rest; long = omega (arith, r.long); keeps = λ z k ne. ⊎_elim (λ (is : y ≡ z). inl is) (λ (l : Has ys z). inr (r.keeps z l ne)) k }

no_more : (xs ys : List FileName) → Differ xs → ((x : FileName) → Has xs x → Has ys x) → length xs ≤ length ys
no_more [] ys d each = omega arith
no_more (x ∷ xs) ys d each =
    let r = without ys x (each x (inl refl)) in
    omega (arith, r.long, no_more xs r.rest d.1 (λ y h. r.keeps y (each y (inr h)) (λ e. d.0 (subst (Has xs) e h))))

has_left : (xs ys : List FileName) (x : FileName) → Has xs x → Has (xs ++ ys) x
has_left [] ys x h = absurd h
has_left (a ∷ xs) ys x (inl e) = inl e
has_left (a ∷ xs) ys x (inr h) = inr (has_left xs ys x h)

has_right : {X : Type 0} (xs ys : List X) (x : X) → Has ys x → Has (xs ++ ys) x
has_right [] ys x h = h
has_right (a ∷ xs) ys x h = inr (has_right xs ys x h)

has_either : (xs ys : List FileName) (x : FileName) → Has (xs ++ ys) x → Has xs x ⊎ Has ys x
has_either [] ys x h = inr h
has_either (a ∷ xs) ys x (inl e) = inl (inl e)
has_either (a ∷ xs) ys x (inr h) = ⊎_elim (λ (k : Has xs x). inl (inr k)) (λ (k : Has ys x). inr k) (has_either xs ys x h)

differ_both : (xs ys : List FileName) → Differ xs → Differ ys → ((x : FileName) → Has xs x → Has ys x → ⊥) → Differ (xs ++ ys)
differ_both [] ys p q apart = q
differ_both (x ∷ xs) ys p q apart = (λ h. ⊎_elim (λ (k : Has xs x). p.0 k) (λ (k : Has ys x). apart x (inl refl) k) (has_either xs ys x h), differ_both xs ys p.1 q (λ y h k. apart y (inr h) k))

-- ---- the names of the new numbers

abbrev names_from : ℕ → ℕ → List FileName
names_from first zero = []
names_from first (suc n) = data_name (first + 1) ∷ names_from (first + 1) n

names_long : (first n : ℕ) → length (names_from first n) ≡ n
names_long first zero = refl
names_long first (suc n) = omega (arith, names_long (first + 1) n)

names_has : (first n : ℕ) (q : FileName) → Has (names_from first n) q → IsNumbered first (first + n) q
names_has first zero q h = absurd h
names_has first (suc n) q (inl e) = (first + 1, omega arith, omega arith, sym e)
names_has first (suc n) q (inr h) = let r = names_has (first + 1) n q h in (r.0, omega (arith, r.1), omega (arith, r.2), r.3)

has_names : (first n : ℕ) (q : FileName) → IsNumbered first (first + n) q → Has (names_from first n) q
has_names first zero q r = absurd (omega (arith, r.1, r.2))
has_names first (suc n) q r =
    ⊎_elim
    (λ (lt : first + 1 < r.0). inr (has_names (first + 1) n q (r.0, lt, omega (arith, r.2), r.3)))
    (λ (ge : r.0 ≤ first + 1). inl (ap data_name (omega (arith, ge, r.1)) ∙ sym r.3)) (cases_lt (first + 1) r.0)

names_differ : (first n : ℕ) → first + n < 2 ^ 63 → Differ (names_from first n)
names_differ first zero low = tt
names_differ first (suc n) low =
    (λ h. (let r = names_has (first + 1) n (data_name (first + 1)) h in let e : first + 1 ≡ r.0 = data_differ (first + 1) r.0 (omega (arith, low)) (omega (arith, low, r.2)) r.3 in omega (arith, e, r.1)), names_differ (first + 1) n (omega (arith, low)))

-- ---- the data files of a directory

names_of : List Entry → List FileName
names_of es = map (λ (f : FileOf). f.name) (files_by_name es None)

placed_long : (f : FileOf) (gs : List FileOf) → length (placed_by_id f gs) ≡ length gs + 1
placed_long f [] = refl
placed_long f (g ∷ gs) = by (ltb g.id f.id) (placed_long f gs) where
  by : (b : Bool) → length (placed_by_id f gs) ≡ length gs + 1 → length (cond b (g ∷ placed_by_id f gs) (f ∷ g ∷ gs)) ≡ length (g ∷ gs) + 1
  by true rest = omega (arith, rest)
  by false rest = omega arith

by_id_long : (fs : List FileOf) → length (by_id fs) ≡ length fs
by_id_long [] = refl
by_id_long (f ∷ fs) = omega (arith, placed_long f (by_id fs), by_id_long fs)

mapped_has : (fs : List FileOf) (q : FileName) → Has (map (λ (f : FileOf). f.name) fs) q → (f : FileOf) × Has fs f × (f.name ≡ q)
mapped_has [] q h = absurd h
mapped_has (f ∷ fs) q (inl e) = (f, inl refl, e)
mapped_has (f ∷ fs) q (inr h) = let r = mapped_has fs q h in (r.0, inr r.1, r.2)

has_mapped : (fs : List FileOf) (f : FileOf) → Has fs f → Has (map (λ (f : FileOf). f.name) fs) f.name
has_mapped [] f h = absurd h
has_mapped (g ∷ gs) f (inl e) = inl (ap (λ (x : FileOf). x.name) e)
has_mapped (g ∷ gs) f (inr h) = inr (has_mapped gs f h)

-- the entry of a name
name_has : (es : List Entry) (q : FileName) → Has (map (λ (f : FileOf). f.name) (files_by_name es None)) q → (e : Entry) × Has es e × IsDataFile e × (e.0 ≡ q)
name_has es q h =
    let f = mapped_has (files_by_name es None) q h in
    let e = file_has es f.0 f.1 in
    (e.0, e.1, e.2, ap (λ (x : FileOf). x.name) e.3 ∙ f.2)

files_differ : (es : List Entry) → HaveOwnNames es → Differ (map (λ (f : FileOf). f.name) (files_by_name es None))
files_differ [] own = tt
files_differ (x ∷ xs) own = by (leb 16 (length x.1) && is_data x.0) (files_differ xs own.1) where
  by : (b : Bool) → Differ (map (λ (f : FileOf). f.name) (files_by_name xs None)) → Differ (map (λ (f : FileOf). f.name) (cons_option (cond b (Some (file_of x.0 x.1)) None) (files_by_name xs None)))
  by true rest = (λ h. (let e = name_has xs x.0 h in own.0 e.0 e.1 e.3), rest)
  by false rest = rest

module _ (s : Files) (image : Image) (reads : IsReading s image) where
  -- a data file that is there by its name
  named_there : (q : FileName) → Has (map (λ (f : FileOf). f.name) (files_by_name (finite.entries image) None)) q → data_file_at q s ≡ None → ⊥
  named_there q h none =
      let e = name_has (finite.entries image) q h in
      let got : finite.get image q ≡ Some e.0.1 = ap (finite.get image) (sym e.3) ∙ entry_there image e.0 e.1 in
      let is_one : is_data q ≡ true = ap is_data (sym e.3) ∙ e.2.named in
      by (finite.get s q) e.0.1 (sym (reads q) ∙ got) e.2.long (ap (λ (b : Bool). cond b (id_and_length (finite.get s q)) None) (sym is_one) ∙ none)
    where
      long_some : (file : File) (b : Bool) → b ≡ true → cond {A = Option (ℕ × ℕ)} b (Some (Rattle.std.specs.Int.from_be_bytes Rattle.std.specs.Int.w64 (Rattle.std.specs.Prelude.take 8 (Rattle.std.specs.Prelude.drop 8 file.bytes)), length file.bytes)) None ≡ None → ⊥
      long_some file true e none = cc
      long_some file false e none = cc

      by : (o : Option File) (bytes : List ℕ) → option_map (λ (f : File). f.bytes) o ≡ Some bytes → 16 ≤ length bytes → id_and_length o ≡ None → ⊥
      by None bytes is long none = cc
      by (Some file) bytes is long none = let same : file.bytes ≡ bytes = cc in long_some file (leb 16 (length file.bytes)) (le-leb 16 (length file.bytes) (subst (λ (l : List ℕ). 16 ≤ length l) (sym same) long)) none

  there_named : (q : FileName) → (data_file_at q s ≡ None → ⊥) → Has (map (λ (f : FileOf). f.name) (files_by_name (finite.entries image) None)) q
  there_named q some = by (is_data q) refl (finite.get s q) refl some where
    here : (file : File) → finite.get s q ≡ Some file → is_data q ≡ true → (b : Bool) → leb 16 (length file.bytes) ≡ b → (cond {A = Option (ℕ × ℕ)} b (Some (Rattle.std.specs.Int.from_be_bytes Rattle.std.specs.Int.w64 (Rattle.std.specs.Prelude.take 8 (Rattle.std.specs.Prelude.drop 8 file.bytes)), length file.bytes)) None ≡ None → ⊥) → Has (map (λ (f : FileOf). f.name) (files_by_name (finite.entries image) None)) q
    here file got is_one false long some = absurd (some refl)
    here file got is_one true long some =
        has_mapped (files_by_name (finite.entries image) None) (file_of q file.bytes)
        (has_file (finite.entries image) (q, file.bytes) (there_entry image q file.bytes (reads q ∙ ap (option_map (λ (f : File). f.bytes)) got)) (record { long = leb-true 16 (length file.bytes) long; named = is_one }))

    by : (b : Bool) → is_data q ≡ b → (o : Option File) → finite.get s q ≡ o → (cond b (id_and_length o) None ≡ None → ⊥) → Has (map (λ (f : FileOf). f.name) (files_by_name (finite.entries image) None)) q
    by false is_one o got some = absurd (some refl)
    by true is_one None got some = absurd (some refl)
    by true is_one (Some file) got some = here file got is_one (leb 16 (length file.bytes)) refl some

  -- as many as data files
  count_is : length (data_files (finite.entries image) None) ≡ length (map (λ (f : FileOf). f.name) (files_by_name (finite.entries image) None))
  count_is = by_id_long (files_by_name (finite.entries image) None) ∙ sym (length-map (files_by_name (finite.entries image) None) (λ (f : FileOf). f.name))

-- ---- no file has a number above the highest

from_le : (a : ℕ) (ns : List ℕ) → a ≤ fold max a ns
from_le a [] = omega arith
from_le a (n ∷ ns) = omega (arith, from_le (max a n) ns)

pub has_le : (a : ℕ) (ns : List ℕ) (k : ℕ) → Has ns k → k ≤ fold max a ns
has_le a [] k h = absurd h
has_le a (n ∷ ns) k (inl e) = omega (arith, e, from_le (max a n) ns)
has_le a (n ∷ ns) k (inr h) = has_le (max a n) ns k h

numbers_have : (es : List Entry) (e : Entry) (k : ℕ) → Has es e → number_of e.0 ≡ Some k → Has (filter_map (λ (f : Entry). number_of f.0) es) k
numbers_have [] e k h is = absurd h
numbers_have (x ∷ xs) e k h is = by h (numbers_have xs e k) where
  first : (o : Option ℕ) (rest : List ℕ) → o ≡ Some k → Has (cons_option o rest) k
  first None rest e = absurd cc
  first (Some j) rest e = inl cc

  later : (o : Option ℕ) (rest : List ℕ) → Has rest k → Has (cons_option o rest) k
  later None rest h = h
  later (Some j) rest h = inr h

  by : Has (x ∷ xs) e → (Has xs e → number_of e.0 ≡ Some k → Has (filter_map (λ (f : Entry). number_of f.0) xs) k) → Has (filter_map (λ (f : Entry). number_of f.0) (x ∷ xs)) k
  by (inl same) rest = first (number_of x.0) (filter_map (λ (f : Entry). number_of f.0) xs) (ap (λ (y : Entry). number_of y.0) same ∙ is)
  by (inr h) rest = later (number_of x.0) (filter_map (λ (f : Entry). number_of f.0) xs) (rest h is)

number_is : (n : FileName) (k : ℕ) → data_number n ≡ Some k → number_of n ≡ Some k
number_is n k e = rw e refl

-- ---- the count

module _ (size files before last : ℕ) (o s : Files) (on : before ≤ last) (low : last < 2 ^ 63) (had : HasNumbers files before o) (made : HasFilesMade size before last o s) where
  abbrev old : List FileName
  old = map (λ (f : FileOf). f.name) (files_by_name (finite.entries had.image) None)

  abbrev now : List FileName
  now = map (λ (f : FileOf). f.name) (files_by_name (finite.entries (reading_of s)) None)

  abbrev new : List FileName
  new = names_from before (last - before)

  numbered : (q : FileName) → Has new q → IsNumbered before last q
  numbered q h = let r = names_has before (last - before) q h in (r.0, r.1, omega (arith, r.2, on), r.3)

  apart : (q : FileName) → Has old q → Has new q → ⊥
  apart q h k =
      let r = numbered q k in
      let e = name_has (finite.entries had.image) q h in
      let read : number_of e.0.0 ≡ Some r.0 = number_is e.0.0 r.0 (ap data_number (e.3 ∙ r.3) ∙ data_is_read r.0 (omega (arith, low, r.2))) in
      omega (
        arith,
        r.1,
        had.is,
        has_le 0 (map (λ (f : FileOf). f.id) (data_files (finite.entries had.image) None) ++ filter_map (λ (f : Entry). number_of f.0) (finite.entries had.image)) r.0
            (has_right (map (λ (f : FileOf). f.id) (data_files (finite.entries had.image) None)) (filter_map (λ (f : Entry). number_of f.0) (finite.entries had.image)) r.0 (numbers_have (finite.entries had.image) e.0 r.0 e.1 read)),
      )

  to : (q : FileName) → Has (old ++ new) q → Has now q
  to q h = there_named s (reading_of s) (is_reading s) q (λ none. ⊎_elim
      (λ (k : Has old q). named_there o had.image had.reading q k (sym (made.others q (λ r. apart q k (has_names before (last - before) q (r.0, r.1, omega (arith, r.2, on), r.3)))) ∙ none))
      (λ (k : Has new q). (let r = numbered q k in some (r.0, size) (sym (made.made r.0 r.1 r.2) ∙ ap (λ (m : FileName). data_file_at m s) (sym r.3) ∙ none))) (has_either old new q h))
    where
      some : (x : ℕ × ℕ) → Some x ≡ None → ⊥
      some x e = cc

  split : (q : FileName) → Has new q ⊎ (Has new q → ⊥)
  split q = by (last - before) before where
    by : (n first : ℕ) → Has (names_from first n) q ⊎ (Has (names_from first n) q → ⊥)
    by zero first = inr (λ h. h)
    by (suc n) first = ⊎_elim (λ (e : q ≡ data_name (first + 1)). inl (inl (sym e)))
        (λ (ne : q ≡ data_name (first + 1) → ⊥). ⊎_elim (λ (h : Has (names_from (first + 1) n) q). inl (inr h)) (λ (no : Has (names_from (first + 1) n) q → ⊥). inr (λ h. ⊎_elim (λ e. ne (sym e)) no h)) (by n (first + 1)))
        (Rattle.amq_engine.proofs.Standing.same_or_not q (data_name (first + 1)))

  back : (q : FileName) → Has now q → Has (old ++ new) q
  back q h = ⊎_elim
      (λ (k : Has new q). has_right old new q k)
      (λ (no : Has new q → ⊥). has_left old new q (there_named o had.image had.reading q (λ none. named_there s (reading_of s) (is_reading s) q h (made.others q (λ r. no (has_names before (last - before) q (r.0, r.1, omega (arith, r.2, on), r.3))) ∙ none)))) (split q)

  count : length (data_files (finite.entries (reading_of s)) None) ≡ files + (last - before)
  count =
      let below : length (old ++ new) ≤ length now = no_more (old ++ new) now (differ_both old new (files_differ (finite.entries had.image) (own_names had.image)) (names_differ before (last - before) (omega (arith, on, low))) apart) to in
      let above : length now ≤ length (old ++ new) = no_more now (old ++ new) (files_differ (finite.entries (reading_of s)) (own_names (reading_of s))) back in
      omega (arith, below, above, length-append old new, names_long before (last - before), count_is s (reading_of s) (is_reading s), count_is o had.image had.reading, had.count)

  pub count_made : HasCount (files + (last - before)) s
  count_made = record { image = reading_of s; reading = is_reading s; is = count }

pub count_told : (Keeps : Files → Files → Type 0) (size files before last : ℕ) (a b : Option Past) → before ≤ last → last < 2 ^ 63 → Told a (HasNumbers files before) → Works Keeps size before last a b → Told b (HasCount (files + (last - before)))
count_told Keeps size files before last None b on low had w = subst (λ (h : Option Past). Told h (HasCount (files + (last - before)))) (sym w.keeps) tt
count_told Keeps size files before last (Some p) b on low had w = told_for (HasFilesMade size before last _) (HasCount (files + (last - before))) b (λ s made. count_made size files before last _ s on low had made) w.files
