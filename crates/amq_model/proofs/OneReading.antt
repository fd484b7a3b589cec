-- Behind a list that answered Ok each reading has the names that the disk reads, and of a file that is synced later on the same bytes.
use Rattle.std.proofs.Common.{◌≡◌, ◌⊎◌, inl, inr, ℕ, suc, Bool, true, false, cond, not, List, [], ◌∷◌, Contains, Option, None, Some, refl, sym, ◌∙◌, ap, subst, arith}
use Rattle.std.specs.Prelude.{option_map, is_some, ◌==◌}
use Rattle.std.specs.FinMap as map
use Rattle.std.proofs.lemmas.Bool.Decides.{Decides-eqb}
use Rattle.std.proofs.lemmas.Slice.Eq.{slice_eq-Decides}
use Rattle.amq_model.specs.Names.{same}
use Rattle.amq_model.specs.Files.{FileName, File, Files, put_where, changed, move_where, renamed, synced, overlaid}
use Rattle.amq_model.specs.Calls.{Call, Part, Outcome, Event, listing, reading, creating, writing, syncing, renaming, removing, undone, whole, short, absent, fine, no_room, broken, done, partly, after, content}
use Rattle.amq_model.specs.Crash.{name_before, other_names, names_before, synced_since, listed_since, Settling, settled_since, MayHaveDone, Next, ReadsBefore}
use Rattle.amq_model.specs.Leaves.{IsSameFile, IsDoneList, IsAskingOrSyncing, AreNamesSettled}
use Rattle.amq_model.proofs.Fewer.{into_mapped, into_kept}
use Rattle.amq_model.proofs.Lookups.{get-insert_same, get-insert_other, get-remove_same, get-remove_other, get-changed_other}

-- ---- names

pub same_is : (a b : FileName) → same a b ≡ true → a ≡ b
same_is a b = (slice_eq-Decides {E = ◌==◌} Decides-eqb a b (same a b) refl).0

pub same_self : (a : FileName) → same a a ≡ true
same_self a = (slice_eq-Decides {E = ◌==◌} Decides-eqb a a (same a a) refl).1 refl

-- a name is this one or another
is_or_not : (q n : FileName) → ((q ≡ n) × (same q n ≡ true)) ⊎ ((q ≡ n → ⊥) × (same q n ≡ false))
is_or_not q n = by (same q n) refl where
  by : (b : Bool) → same q n ≡ b → ((q ≡ n) × (same q n ≡ true)) ⊎ ((q ≡ n → ⊥) × (same q n ≡ false))
  by true is = inl (same_is q n is, is)
  by false is = inr ((λ e. let both : true ≡ false = sym (same_self q) ∙ ap (same q) e ∙ is in cc), is)

-- ---- which files are there

-- the same files are there
abbrev pub HaveSameNames : Files → Files → Type 0
HaveSameNames told s = (q : FileName) → is_some (map.get s q) ≡ is_some (map.get told q)

there_put : (found : Option File) (f : File → File) (s : Files) (n q : FileName) → map.get s n ≡ found → is_some (map.get (put_where found f s n) q) ≡ is_some (map.get s q)
there_put None f s n q is = refl
there_put (Some file) f s n q is = by (is_or_not q n) where
  by : ((q ≡ n) × (same q n ≡ true)) ⊎ ((q ≡ n → ⊥) × (same q n ≡ false)) → is_some (map.get (map.insert s n (f file)) q) ≡ is_some (map.get s q)
  by (inl e) = subst (λ (q : FileName). is_some (map.get (map.insert s n (f file)) q) ≡ is_some (map.get s q)) (sym e.0) (ap is_some (get-insert_same s n (f file)) ∙ ap is_some (sym is))
  by (inr e) = ap is_some (get-insert_other s n q (f file) e.0)

there_changed : (n : FileName) (f : File → File) (s : Files) (q : FileName) → is_some (map.get (changed n f s) q) ≡ is_some (map.get s q)
there_changed n f s q = there_put (map.get s n) f s n q refl

names_removed : (n : FileName) (told s : Files) → HaveSameNames told s → HaveSameNames (map.remove told n) (map.remove s n)
names_removed n told s names q = by (is_or_not q n) where
  by : ((q ≡ n) × (same q n ≡ true)) ⊎ ((q ≡ n → ⊥) × (same q n ≡ false)) → is_some (map.get (map.remove s n) q) ≡ is_some (map.get (map.remove told n) q)
  by (inl e) = subst (λ (q : FileName). is_some (map.get (map.remove s n) q) ≡ is_some (map.get (map.remove told n) q)) (sym e.0) (ap is_some (get-remove_same s n) ∙ sym (ap is_some (get-remove_same told n)))
  by (inr e) = ap is_some (get-remove_other s n q e.0) ∙ names q ∙ sym (ap is_some (get-remove_other told n q e.0))

names_inserted : (n : FileName) (f g : File) (told s : Files) → HaveSameNames told s → HaveSameNames (map.insert told n f) (map.insert s n g)
names_inserted n f g told s names q = by (is_or_not q n) where
  by : ((q ≡ n) × (same q n ≡ true)) ⊎ ((q ≡ n → ⊥) × (same q n ≡ false)) → is_some (map.get (map.insert s n g) q) ≡ is_some (map.get (map.insert told n f) q)
  by (inl e) = subst (λ (q : FileName). is_some (map.get (map.insert s n g) q) ≡ is_some (map.get (map.insert told n f) q)) (sym e.0) (ap is_some (get-insert_same s n g) ∙ sym (ap is_some (get-insert_same told n f)))
  by (inr e) = ap is_some (get-insert_other s n q g e.0) ∙ names q ∙ sym (ap is_some (get-insert_other told n q f e.0))

names_moved : (x y : Option File) (from to : FileName) (told s : Files) → is_some y ≡ is_some x → HaveSameNames told s → HaveSameNames (move_where x from to told) (move_where y from to s)
names_moved None None from to told s both names = names
names_moved (Some f) (Some g) from to told s both names = names_inserted to f g (map.remove told from) (map.remove s from) (names_removed from told s names)
names_moved None (Some g) from to told s both names = absurd cc
names_moved (Some f) None from to told s both names = absurd cc

names_renamed : (from to : FileName) (told s : Files) → HaveSameNames told s → HaveSameNames (renamed from to told) (renamed from to s)
names_renamed from to told s names = names_moved (map.get told from) (map.get s from) from to told s (names from) names

names_changed : (n : FileName) (f g : File → File) (told s : Files) → HaveSameNames told s → HaveSameNames (changed n f told) (changed n g s)
names_changed n f g told s names q = there_changed n g s q ∙ names q ∙ sym (there_changed n f told q)

names_done : (call : Call) (told s : Files) → HaveSameNames told s → HaveSameNames (done call told) (done call s)
names_done listing told s names = names
names_done (reading n) told s names = names
names_done (creating n len fill) told s names = names_inserted n _ _ told s names
names_done (writing n place bytes) told s names = names_changed n _ _ told s names
names_done (syncing n) told s names = names_changed n _ _ told s names
names_done (renaming from to) told s names = names_renamed from to told s names
names_done (removing n) told s names = names_removed n told s names

names_partly : (call : Call) (part : Part) (told s : Files) → HaveSameNames told s → HaveSameNames (partly call part told) (partly call part s)
names_partly listing part told s names = names
names_partly (reading n) part told s names = names
names_partly (creating n len fill) undone told s names = names
names_partly (creating n len fill) whole told s names = names_inserted n _ _ told s names
names_partly (creating n len fill) (short k) told s names = names_inserted n _ _ told s names
names_partly (creating n len fill) absent told s names = names_removed n told s names
names_partly (writing n place bytes) undone told s names = names_changed n _ _ told s names
names_partly (writing n place bytes) whole told s names = names_changed n _ _ told s names
names_partly (writing n place bytes) (short k) told s names = names_changed n _ _ told s names
names_partly (writing n place bytes) absent told s names = names_changed n _ _ told s names
names_partly (syncing n) part told s names = names
names_partly (renaming from to) undone told s names = names
names_partly (renaming from to) whole told s names = names_renamed from to told s names
names_partly (renaming from to) (short k) told s names = names
names_partly (renaming from to) absent told s names = names
names_partly (removing n) undone told s names = names
names_partly (removing n) whole told s names = names_removed n told s names
names_partly (removing n) (short k) told s names = names
names_partly (removing n) absent told s names = names

-- the names after a write don't go by how far it came
names_written : (n : FileName) (place : ℕ) (bytes : List ℕ) (part other : Part) (told s : Files) → HaveSameNames told s → HaveSameNames (partly (writing n place bytes) part told) (partly (writing n place bytes) other s)
names_written n place bytes part other told s names = by part other where
  by : (part other : Part) → HaveSameNames (partly (writing n place bytes) part told) (partly (writing n place bytes) other s)
  by undone undone = names_changed n _ _ told s names
  by undone whole = names_changed n _ _ told s names
  by undone (short k) = names_changed n _ _ told s names
  by undone absent = names_changed n _ _ told s names
  by whole undone = names_changed n _ _ told s names
  by whole whole = names_changed n _ _ told s names
  by whole (short k) = names_changed n _ _ told s names
  by whole absent = names_changed n _ _ told s names
  by (short j) undone = names_changed n _ _ told s names
  by (short j) whole = names_changed n _ _ told s names
  by (short j) (short k) = names_changed n _ _ told s names
  by (short j) absent = names_changed n _ _ told s names
  by absent undone = names_changed n _ _ told s names
  by absent whole = names_changed n _ _ told s names
  by absent (short k) = names_changed n _ _ told s names
  by absent absent = names_changed n _ _ told s names

-- behind a call whose failure is settled, the names are alike again
names_next : (later : Settling) (call : Call) (outcome : Outcome) (told o s : Files) → later.listed ≡ true → HaveSameNames told o → Next later call outcome told o s → HaveSameNames (after call outcome told) s
names_next later call fine told o s listed names next = subst (HaveSameNames (done call told)) (sym next.0) (names_done call told o names)
names_next later call no_room told o s listed names next = subst (HaveSameNames told) (sym next) names
names_next later call (broken part) told o s listed names (other, may, is) = subst (HaveSameNames (partly call part told)) (sym is) (by call may) where
  by : (call : Call) → MayHaveDone later call part other → HaveSameNames (partly call part told) (partly call other o)
  by listing may = names
  by (reading n) may = names
  by (creating n len fill) may = subst (λ (p : Part). HaveSameNames (partly (creating n len fill) part told) (partly (creating n len fill) p o)) (sym (may listed)) (names_partly (creating n len fill) part told o names)
  by (writing n place bytes) may = names_written n place bytes part other told o names
  by (syncing n) may = names
  by (renaming from to) may = subst (λ (p : Part). HaveSameNames (partly (renaming from to) part told) (partly (renaming from to) p o)) (sym (may listed)) (names_partly (renaming from to) part told o names)
  by (removing n) may = subst (λ (p : Part). HaveSameNames (partly (removing n) part told) (partly (removing n) p o)) (sym (may listed)) (names_partly (removing n) part told o names)

listed_on : (call : Call) (outcome : Outcome) (listed : Bool) → listed ≡ true → listed_since call outcome listed ≡ true
listed_on listing fine listed is = refl
listed_on listing no_room listed is = is
listed_on listing (broken part) listed is = is
listed_on (reading n) outcome listed is = is
listed_on (creating n len fill) outcome listed is = is
listed_on (writing n place bytes) outcome listed is = is
listed_on (syncing n) outcome listed is = is
listed_on (renaming from to) outcome listed is = is
listed_on (removing n) outcome listed is = is

-- where a list follows, each reading has the names that the disk reads
pub one_set_of_names : (later : Settling) (start : Files) (es : List Event) (s : Files) → later.listed ≡ true → ReadsBefore later start es s → HaveSameNames (content start es) s
one_set_of_names later start [] s listed reads = subst (HaveSameNames start) (sym reads) (λ q. refl)
one_set_of_names later start (e ∷ es) s listed (o, reads, next) =
    names_next later e.call e.outcome (content start es) o s listed
    (one_set_of_names (settled_since e.call e.outcome (content start es) later) start es o (listed_on e.call e.outcome later.listed listed) reads)
    next

-- ---- what is in one file

-- the same change of the same file
same_put : (x y : Option File) (f : File → File) (told s : Files) (n : FileName) → ((a b : File) → b.bytes ≡ a.bytes → (f b).bytes ≡ (f a).bytes) → map.get told n ≡ x → map.get s n ≡ y → IsSameFile n told s
    → option_map (λ f. f.bytes) (map.get (put_where y f s n) n) ≡ option_map (λ f. f.bytes) (map.get (put_where x f told n) n)
same_put None None f told s n alike is_x is_y same = same
same_put (Some a) (Some b) f told s n alike is_x is_y same =
    let both : Some b.bytes ≡ Some a.bytes = ap (option_map (λ (f : File). f.bytes)) (sym is_y) ∙ same ∙ ap (option_map (λ (f : File). f.bytes)) is_x in
    ap (option_map (λ (f : File). f.bytes)) (get-insert_same s n (f b)) ∙ ap (λ (l : List ℕ). Some l) (alike a b cc) ∙ sym (ap (option_map (λ (f : File). f.bytes)) (get-insert_same told n (f a)))
same_put None (Some b) f told s n alike is_x is_y same =
    let both : Some b.bytes ≡ None = ap (option_map (λ (f : File). f.bytes)) (sym is_y) ∙ same ∙ ap (option_map (λ (f : File). f.bytes)) is_x in absurd cc
same_put (Some a) None f told s n alike is_x is_y same =
    let both : None ≡ Some a.bytes = ap (option_map (λ (f : File). f.bytes)) (sym is_y) ∙ same ∙ ap (option_map (λ (f : File). f.bytes)) is_x in absurd cc

same_changed : (f : File → File) (told s : Files) (n : FileName) → ((a b : File) → b.bytes ≡ a.bytes → (f b).bytes ≡ (f a).bytes) → IsSameFile n told s → IsSameFile n (changed n f told) (changed n f s)
same_changed f told s n alike same = same_put (map.get told n) (map.get s n) f told s n alike refl refl same

-- what is done to other files changes nothing of this one
same_apart : (n : FileName) (told s told_on s_on : Files) → map.get told_on n ≡ map.get told n → map.get s_on n ≡ map.get s n → IsSameFile n told s → IsSameFile n told_on s_on
same_apart n told s told_on s_on is_told is_s same = ap (option_map (λ (f : File). f.bytes)) is_s ∙ same ∙ sym (ap (option_map (λ (f : File). f.bytes)) is_told)

same_created : (n q : FileName) (f : File) (told s : Files) → ((q ≡ n → ⊥) → same q n ≡ false → IsSameFile q told s) → IsSameFile q (map.insert told n f) (map.insert s n f)
same_created n q f told s same_others = by (is_or_not q n) where
  by : ((q ≡ n) × (same q n ≡ true)) ⊎ ((q ≡ n → ⊥) × (same q n ≡ false)) → IsSameFile q (map.insert told n f) (map.insert s n f)
  by (inl e) = subst (λ (q : FileName). IsSameFile q (map.insert told n f) (map.insert s n f)) (sym e.0) (ap (option_map (λ (f : File). f.bytes)) (get-insert_same s n f) ∙ sym (ap (option_map (λ (f : File). f.bytes)) (get-insert_same told n f)))
  by (inr e) = same_apart q told s (map.insert told n f) (map.insert s n f) (get-insert_other told n q f e.0) (get-insert_other s n q f e.0) (same_others e.0 e.1)

same_removed : (n q : FileName) (told s : Files) → ((q ≡ n → ⊥) → same q n ≡ false → IsSameFile q told s) → IsSameFile q (map.remove told n) (map.remove s n)
same_removed n q told s same_others = by (is_or_not q n) where
  by : ((q ≡ n) × (same q n ≡ true)) ⊎ ((q ≡ n → ⊥) × (same q n ≡ false)) → IsSameFile q (map.remove told n) (map.remove s n)
  by (inl e) = subst (λ (q : FileName). IsSameFile q (map.remove told n) (map.remove s n)) (sym e.0) (ap (option_map (λ (f : File). f.bytes)) (get-remove_same s n) ∙ sym (ap (option_map (λ (f : File). f.bytes)) (get-remove_same told n)))
  by (inr e) = same_apart q told s (map.remove told n) (map.remove s n) (get-remove_other told n q e.0) (get-remove_other s n q e.0) (same_others e.0 e.1)

-- the files of these names are the same
abbrev pub AreSame : List FileName → Files → Files → Type 0
AreSame names told s = (m : FileName) → Contains names m → IsSameFile m told s

same_moved : (x y : Option File) (from to q : FileName) (names : List FileName) (told s : Files) → map.get told from ≡ x → map.get s from ≡ y → is_some y ≡ is_some x → AreSame (names_before x from to names) told s → Contains names q
    → IsSameFile q (move_where x from to told) (move_where y from to s)
same_moved None None from to q names told s is_x is_y both are there = are q there
same_moved None (Some g) from to q names told s is_x is_y both are there = absurd cc
same_moved (Some f) None from to q names told s is_x is_y both are there = absurd cc
same_moved (Some f) (Some g) from to q names told s is_x is_y both are there = by (is_or_not q to) where
  before : IsSameFile (name_before from to q) told s
  before = are (name_before from to q) (into_mapped (name_before from to) names q (name_before from to q) there refl)

  apart : (q ≡ to → ⊥) → IsSameFile q told s → IsSameFile q (map.insert (map.remove told from) to f) (map.insert (map.remove s from) to g)
  apart ne alike = same_apart q (map.remove told from) (map.remove s from) (map.insert (map.remove told from) to f) (map.insert (map.remove s from) to g)
      (get-insert_other (map.remove told from) to q f ne) (get-insert_other (map.remove s from) to q g ne)
      (same_removed from q told s (λ e is. alike))

  by : ((q ≡ to) × (same q to ≡ true)) ⊎ ((q ≡ to → ⊥) × (same q to ≡ false)) → IsSameFile q (map.insert (map.remove told from) to f) (map.insert (map.remove s from) to g)
  by (inl e) =
      let moved : IsSameFile from told s = subst (λ (b : Bool). IsSameFile (cond b from q) told s) e.1 before in
      let bytes : Some g.bytes ≡ Some f.bytes = ap (option_map (λ (f : File). f.bytes)) (sym is_y) ∙ moved ∙ ap (option_map (λ (f : File). f.bytes)) is_x in
      subst (λ (q : FileName). IsSameFile q (map.insert (map.remove told from) to f) (map.insert (map.remove s from) to g)) (sym e.0)
      (ap (option_map (λ (f : File). f.bytes)) (get-insert_same (map.remove s from) to g) ∙ bytes ∙ sym (ap (option_map (λ (f : File). f.bytes)) (get-insert_same (map.remove told from) to f)))
  by (inr e) = apart e.0 (subst (λ (b : Bool). IsSameFile (cond b from q) told s) e.1 before)

same_renamed : (from to q : FileName) (names : List FileName) (told s : Files) → HaveSameNames told s → AreSame (names_before (map.get told from) from to names) told s → Contains names q → IsSameFile q (renamed from to told) (renamed from to s)
same_renamed from to q names told s have are there = same_moved (map.get told from) (map.get s from) from to q names told s refl refl (have from) are there

others_kept : (n q : FileName) (names : List FileName) → Contains names q → same q n ≡ false → Contains (other_names n names) q
others_kept n q names there is = into_kept (λ m. not (same m n)) names q there (ap not is)

same_written : (n q : FileName) (f : File → File) (told s : Files) → ((a b : File) → b.bytes ≡ a.bytes → (f b).bytes ≡ (f a).bytes) → IsSameFile q told s → IsSameFile q (changed n f told) (changed n f s)
same_written n q f told s alike same_file = by (is_or_not q n) where
  by : ((q ≡ n) × (same q n ≡ true)) ⊎ ((q ≡ n → ⊥) × (same q n ≡ false)) → IsSameFile q (changed n f told) (changed n f s)
  by (inl e) = subst (λ (m : FileName). IsSameFile q (changed m f told) (changed m f s)) e.0 (same_changed f told s q alike same_file)
  by (inr e) = same_apart q told s (changed n f told) (changed n f s) (get-changed_other n f told q e.0) (get-changed_other n f s q e.0) same_file

same_done : (call : Call) (q : FileName) (names : List FileName) (told s : Files) → HaveSameNames told s → AreSame (synced_since call fine told names) told s → Contains names q → IsSameFile q (done call told) (done call s)
same_done listing q names told s have are there = are q there
same_done (reading n) q names told s have are there = are q there
same_done (creating n len fill) q names told s have are there = same_created n q _ told s (λ ne is. are q (others_kept n q names there is))
same_done (writing n place bytes) q names told s have are there = same_written n q _ told s (λ a b e. ap (λ (old : List ℕ). overlaid old place bytes) e) (are q there)
same_done (syncing n) q names told s have are there = same_written n q _ told s (λ a b e. e) (are q (let k = there in (suc k.0, omega (arith, k.1), k.2)))
same_done (renaming from to) q names told s have are there = same_renamed from to q names told s have are there
same_done (removing n) q names told s have are there = same_removed n q told s (λ ne is. are q there)

same_partly : (call : Call) (part : Part) (q : FileName) (names : List FileName) (told s : Files) → HaveSameNames told s → AreSame (synced_since call (broken part) told names) told s → Contains names q → IsSameFile q (partly call part told) (partly call part s)
same_partly listing part q names told s have are there = are q there
same_partly (reading n) part q names told s have are there = are q there
same_partly (creating n len fill) undone q names told s have are there = are q there
same_partly (creating n len fill) whole q names told s have are there = same_created n q _ told s (λ ne is. are q (others_kept n q names there is))
same_partly (creating n len fill) (short k) q names told s have are there = same_created n q _ told s (λ ne is. are q (others_kept n q names there is))
same_partly (creating n len fill) absent q names told s have are there = same_removed n q told s (λ ne is. are q (others_kept n q names there is))
same_partly (writing n place bytes) undone q names told s have are there = same_written n q _ told s (λ a b e. e) (are q there)
same_partly (writing n place bytes) whole q names told s have are there = same_written n q _ told s (λ a b e. ap (λ (old : List ℕ). overlaid old place bytes) e) (are q there)
same_partly (writing n place bytes) (short k) q names told s have are there = same_written n q _ told s (λ a b e. e) (are q there)
same_partly (writing n place bytes) absent q names told s have are there = same_written n q _ told s (λ a b e. e) (are q there)
same_partly (syncing n) part q names told s have are there = are q there
same_partly (renaming from to) undone q names told s have are there = are q there
same_partly (renaming from to) whole q names told s have are there = same_renamed from to q names told s have are there
same_partly (renaming from to) (short k) q names told s have are there = are q there
same_partly (renaming from to) absent q names told s have are there = are q there
same_partly (removing n) undone q names told s have are there = are q there
same_partly (removing n) whole q names told s have are there = same_removed n q told s (λ ne is. are q there)
same_partly (removing n) (short k) q names told s have are there = are q there
same_partly (removing n) absent q names told s have are there = are q there

-- a failed write of another file changes nothing of this one
get-written_other : (n q : FileName) (place : ℕ) (bytes : List ℕ) (part : Part) (s : Files) → (q ≡ n → ⊥) → map.get (partly (writing n place bytes) part s) q ≡ map.get s q
get-written_other n q place bytes undone s ne = get-changed_other n _ s q ne
get-written_other n q place bytes whole s ne = get-changed_other n _ s q ne
get-written_other n q place bytes (short k) s ne = get-changed_other n _ s q ne
get-written_other n q place bytes absent s ne = get-changed_other n _ s q ne

-- the file is the same behind a call whose failure is settled
same_next : (later : Settling) (call : Call) (outcome : Outcome) (told o s : Files) (q : FileName) → later.listed ≡ true → Contains later.synced q → HaveSameNames told o → AreSame (synced_since call outcome told later.synced) told o
    → Next later call outcome told o s → IsSameFile q (after call outcome told) s
same_next later call fine told o s q listed there have are next = subst (IsSameFile q (done call told)) (sym next.0) (same_done call q later.synced told o have are there)
same_next later call no_room told o s q listed there have are next = subst (IsSameFile q told) (sym next) (are q (kept_names call there)) where
  kept_names : (call : Call) → Contains later.synced q → Contains (synced_since call no_room told later.synced) q
  kept_names listing there = there
  kept_names (reading n) there = there
  kept_names (creating n len fill) there = there
  kept_names (writing n place bytes) there = there
  kept_names (syncing n) there = there
  kept_names (renaming from to) there = there
  kept_names (removing n) there = there
same_next later call (broken part) told o s q listed there have are (other, may, is) = subst (IsSameFile q (partly call part told)) (sym is) (by call are may) where
  by : (call : Call) → AreSame (synced_since call (broken part) told later.synced) told o → MayHaveDone later call part other → IsSameFile q (partly call part told) (partly call other o)
  by listing are may = are q there
  by (reading n) are may = are q there
  by (creating n len fill) are may = subst (λ (p : Part). IsSameFile q (partly (creating n len fill) part told) (partly (creating n len fill) p o)) (sym (may listed)) (same_partly (creating n len fill) part q later.synced told o have are there)
  by (writing n place bytes) are may = which (is_or_not q n) where
    which : ((q ≡ n) × (same q n ≡ true)) ⊎ ((q ≡ n → ⊥) × (same q n ≡ false)) → IsSameFile q (partly (writing n place bytes) part told) (partly (writing n place bytes) other o)
    which (inl e) =
        let settled : other ≡ part = may (subst (Contains later.synced) e.0 there) in
        subst (λ (p : Part). IsSameFile q (partly (writing n place bytes) part told) (partly (writing n place bytes) p o)) (sym settled) (same_partly (writing n place bytes) part q later.synced told o have are there)
    which (inr e) = same_apart q told o (partly (writing n place bytes) part told) (partly (writing n place bytes) other o) (get-written_other n q place bytes part told e.0) (get-written_other n q place bytes other o e.0) (are q there)
  by (syncing n) are may = are q there
  by (renaming from to) are may = subst (λ (p : Part). IsSameFile q (partly (renaming from to) part told) (partly (renaming from to) p o)) (sym (may listed)) (same_partly (renaming from to) part q later.synced told o have are there)
  by (removing n) are may = subst (λ (p : Part). IsSameFile q (partly (removing n) part told) (partly (removing n) p o)) (sym (may listed)) (same_partly (removing n) part q later.synced told o have are there)

-- Where a list follows and a sync of the file, each reading has the bytes of it that the disk reads.
pub one_content : (later : Settling) (start : Files) (es : List Event) (s : Files) (q : FileName) → later.listed ≡ true → Contains later.synced q → ReadsBefore later start es s → IsSameFile q (content start es) s
one_content later start [] s q listed there reads = subst (IsSameFile q start) (sym reads) refl
one_content later start (e ∷ es) s q listed there (o, reads, next) =
    let before = settled_since e.call e.outcome (content start es) later in
    let on = listed_on e.call e.outcome later.listed listed in
    same_next later e.call e.outcome (content start es) o s q listed there
    (one_set_of_names before start es o on reads)
    (λ m is. one_content before start es o m on is reads)
    next

-- a file whose bytes the calls behind a list don't change
pub one_content_behind_list : (later : Settling) (start : Files) (es : List Event) (s : Files) (q : FileName) → AreNamesSettled es → Contains later.synced q → ReadsBefore later start es s → IsSameFile q (content start es) s
one_content_behind_list later start [] s q settled there reads = absurd settled
one_content_behind_list later start (e ∷ es) s q (inl listed) there (o, reads, next) = by e.call e.outcome listed reads next where
  by : (call : Call) (outcome : Outcome) → IsDoneList call outcome → ReadsBefore (settled_since call outcome (content start es) later) start es o → Next later call outcome (content start es) o s → IsSameFile q (after call outcome (content start es)) s
  by listing fine is reads next = subst (IsSameFile q (content start es)) (sym next.0) (one_content (settled_since listing fine (content start es) later) start es o q refl there reads)
  by listing no_room is reads next = absurd is
  by listing (broken part) is reads next = absurd is
  by (reading n) outcome is reads next = absurd is
  by (creating n len fill) outcome is reads next = absurd is
  by (writing n place bytes) outcome is reads next = absurd is
  by (syncing n) outcome is reads next = absurd is
  by (renaming from to) outcome is reads next = absurd is
  by (removing n) outcome is reads next = absurd is
one_content_behind_list later start (e ∷ es) s q (inr (asks, settled)) there (o, reads, next) = by (λ l is before. one_content_behind_list l start es o q settled is before) e.call e.outcome asks reads next where
  told : Files
  told = content start es

  Reaches : Call → Outcome → Type 0
  Reaches call outcome = ReadsBefore (settled_since call outcome told later) start es o → Next later call outcome told o s → IsSameFile q (after call outcome told) s

  Before : Type 0
  Before = (l : Settling) → Contains l.synced q → ReadsBefore l start es o → IsSameFile q told o

  by : Before → (call : Call) (outcome : Outcome) → IsAskingOrSyncing call → Reaches call outcome
  by alike listing fine asks reads next = subst (IsSameFile q told) (sym next.0) (alike (settled_since listing fine told later) there reads)
  by alike listing no_room asks reads next = subst (IsSameFile q told) (sym next) (alike (settled_since listing no_room told later) there reads)
  by alike listing (broken part) asks reads next = subst (IsSameFile q told) (sym next.2) (alike (settled_since listing (broken part) told later) there reads)
  by alike (reading n) fine asks reads next = subst (IsSameFile q told) (sym next.0) (alike (settled_since (reading n) fine told later) there reads)
  by alike (reading n) no_room asks reads next = subst (IsSameFile q told) (sym next) (alike (settled_since (reading n) no_room told later) there reads)
  by alike (reading n) (broken part) asks reads next = subst (IsSameFile q told) (sym next.2) (alike (settled_since (reading n) (broken part) told later) there reads)
  by alike (syncing n) fine asks reads next = subst (IsSameFile q (synced n told)) (sym next.0) (same_written n q _ told o (λ a b e. e) (alike (settled_since (syncing n) fine told later) (suc there.0, omega (arith, there.1), there.2) reads))
  by alike (syncing n) no_room asks reads next = subst (IsSameFile q told) (sym next) (alike (settled_since (syncing n) no_room told later) there reads)
  by alike (syncing n) (broken part) asks reads next = subst (IsSameFile q told) (sym next.2) (alike (settled_since (syncing n) (broken part) told later) there reads)
  by alike (creating n len fill) outcome asks reads next = absurd asks
  by alike (writing n place bytes) outcome asks reads next = absurd asks
  by alike (renaming from to) outcome asks reads next = absurd asks
  by alike (removing n) outcome asks reads next = absurd asks
