-- Which directories hold a history, and what loading gives of what a crash leaves of one that does.
use Rattle.std.proofs.Common.{◌≡◌, inl, inr, ℕ, suc, ◌+◌, ◌-◌, ◌<◌, ◌≤◌, ◌^◌, List, [], ◌∷◌, ◌++◌, length, take, drop, None, Some, refl, sym, ap, subst, ◌∙◌, append_assoc, arith}
use Rattle.std.specs.Prelude.{All, IsTrue, map}
use Rattle.std.specs.FinMap as finite
use Rattle.std.proofs.lemmas.List.{take-take, take-append-drop, take-append-le, length-take-le, length-append, length-map, take-map, append-nil}
use Rattle.std.proofs.lemmas.List.Elements.{All-drop, All-map}
use Rattle.amq_model.specs.declared.config.Config.{Config}
use Rattle.amq_model.specs.declared.record.Placed.{Placed}
use Rattle.amq_model.specs.declared.history.Step.{Step}
use Rattle.amq_model.specs.RecordAt.{whole_len}
use Rattle.amq_model.specs.Answers.{history_of}
use Rattle.amq_model.specs.Configs.{IsConfig}
use Rattle.amq_model.specs.Crash.{NoFalseRecord}
use Rattle.amq_model.specs.Directory.{IsJoined, data_files, placed}
use Rattle.amq_model.specs.Files.{FileName, Files, File, Image, IsImage, IsReading}
use Rattle.amq_model.specs.Headline.{LoadsKept}
use Rattle.amq_model.specs.Kept.{IsPart, IsKept}
use Rattle.amq_model.specs.Legal.{AreLegalFrom}
use Rattle.amq_model.specs.Names.{is_data, control_name}
use Rattle.amq_scan.specs.Written.{Item, IsItem, spots_from, end_from}
use Rattle.amq_scan.specs.Segments.{Segment, records_in, records_of, AreAscending, IsNamed, end_of_spots, AreThere, IsDirectory, AreClosed}
use Rattle.amq_scan.proofs.Lengths.{spots_take}
use Rattle.amq_scan.proofs.Directories.{directory_left}
use Rattle.amq_tx.proofs.WholeKept.{left_is_kept}
use Rattle.amq_pool.specs.declared.pool.PoolFile.{PoolFile}
use Rattle.amq_pool.specs.Pools.{file_for, numbered_file}
use Rattle.amq_engine.specs.Directory.{placed_in, segment, bare, named_file, all_files, HasName, AreListed, ArePrepared, IsInUse, Stands, StandsNow}
use Rattle.amq_engine.specs.Engine.{IsNewItem, Holds, records}
use Rattle.amq_engine.proofs.History.{length-placed}
use Rattle.amq_engine.proofs.Segments.{number_names, in_use_segment, prepared_segment}
use Rattle.amq_engine.proofs.Listing.{listed_next, all_files_more}

-- ---- a list behind another

take_behind : {X : Type 0} (n : ℕ) (xs ys : List X) → take (length xs + n) (xs ++ ys) ≡ xs ++ take n ys
take_behind n [] ys = let e : 0 + n ≡ n = omega arith in ap (λ (k : ℕ). take k ys) e
take_behind {X} n (x ∷ xs) ys = let e : suc (length xs) + n ≡ suc (length xs + n) = omega arith in ap (λ (k : ℕ). take k (x ∷ (xs ++ ys))) e ∙ ap (λ (l : List X). x ∷ l) (take_behind n xs ys)

drop_behind : {X : Type 0} (n : ℕ) (xs ys : List X) → drop (length xs + n) (xs ++ ys) ≡ drop n ys
drop_behind n [] ys = let e : 0 + n ≡ n = omega arith in ap (λ (k : ℕ). drop k ys) e
drop_behind n (x ∷ xs) ys = let e : suc (length xs) + n ≡ suc (length xs + n) = omega arith in ap (λ (k : ℕ). drop k (x ∷ (xs ++ ys))) e ∙ drop_behind n xs ys

-- ---- what a crash leaves

-- What is left of a directory that holds a history loads to the base and a kept part of the history.
pub holds_loads : (config : Config) (wanted least : ℕ) (base history : List Placed) (steps : List Step) (s : Files) (reading image : Image) → AreLegalFrom base config [] steps → history_of steps ≡ history
    → Holds wanted base least history s → IsReading s reading → IsImage s image → NoFalseRecord reading image → LoadsKept base history least wanted image
holds_loads config wanted least base history steps s reading image legal told h reads is none_false =
    let front : List Placed = take h.put history in
    let durable : List Placed = take h.sure history in
    let written : List Placed = drop h.sure front in
    let later : List Placed = drop h.put history in
    let count : ℕ = length base + h.sure in
    let left = directory_left wanted count h.files s reading image reads is none_false h.is in
    let rest : List Placed = left.rest in
    let kept : List Placed = durable ++ rest in
    let sure_front : take h.sure front ≡ durable = take-take h.sure h.put history h.ahead in
    let both : front ≡ durable ++ written = sym (take-append-drop h.sure front) ∙ ap (λ (l : List Placed). l ++ written) sure_front in
    let split : history ≡ durable ++ (written ++ later) = sym (take-append-drop h.put history) ∙ ap (λ (l : List Placed). l ++ later) both ∙ append_assoc durable written later in
    let first : take count (records_of h.files) ≡ base ++ durable = ap (take count) h.records ∙ take_behind h.sure base front ∙ ap (λ (l : List Placed). base ++ l) sure_front in
    let others : drop count (records_of h.files) ≡ written = ap (drop count) h.records ∙ drop_behind h.sure base front in
    let all : take count (records_of h.files) ++ rest ≡ base ++ kept = ap (λ (l : List Placed). l ++ rest) first ∙ append_assoc base durable rest in
    let ahead : h.sure ≤ h.put = h.ahead in
    let within : h.put ≤ length history = h.within in
    let enough : least ≤ h.sure = h.enough in
    let le : least ≤ length durable = omega (arith, enough, length-take-le h.sure history (omega (arith, ahead, within))) in
    record {
      kept = kept;
      is = subst (λ (ps : List Placed). IsKept base ps least kept) told
          (left_is_kept base config steps durable written later rest kept h.last least legal (told ∙ split) h.one refl (subst (IsPart rest) others left.some) le);
      uncontrolled = left.uncontrolled;
      loads = record {
        control = None;
        records = base ++ kept;
        read = record { says = left.says; joined = subst (λ (l : List Placed). IsJoined (data_files (finite.entries image) None) l) all left.joined };
        sound = left.sound;
        is = refl;
      };
    }

-- ---- names and ids

-- the files behind the closed ones are listed from some id on
pub listed_behind : (highest least : ℕ) (closed : List Segment) (fs : List PoolFile) → AreListed highest least (map named_file closed ++ fs) → (k : ℕ) × AreListed highest k fs
listed_behind highest least [] fs a = (least, a)
listed_behind highest least (g ∷ gs) fs a = listed_behind highest (g.id + 1) gs fs a.4

bare_ascend : (highest least : ℕ) (free : List PoolFile) → AreListed highest least free → AreAscending least (bare free)
bare_ascend highest least [] a = tt
bare_ascend highest least (f ∷ fs) a = (a.0, bare_ascend highest (f.id + 1) fs a.4)

pub all_ascend : (highest least : ℕ) (closed : List Segment) (used : PoolFile) (items : List Item) (free : List PoolFile) → AreListed highest least (all_files closed used free) → AreAscending least (closed ++ segment used items ∷ bare free)
all_ascend highest least [] used items free a = (a.0, bare_ascend highest (used.id + 1) free a.4)
all_ascend highest least (g ∷ gs) used items free a = (a.0, all_ascend highest (g.id + 1) gs used items free a.4)

-- with the next file the files are listed up to its number
pub listed_more : (highest : ℕ) (closed : List Segment) (used : PoolFile) (free : List PoolFile) → highest < 2 ^ 31 - 1 → AreListed highest 0 (all_files closed used free) → AreListed (highest + 1) 0 (all_files closed used (free ++ numbered_file (highest + 1) ∷ []))
listed_more highest closed used free low listed =
    subst (AreListed (highest + 1) 0) (sym (all_files_more closed used free (numbered_file (highest + 1)))) (listed_next highest 0 (all_files closed used free) listed (omega arith) low)

bare_named : (n : FileName) (free : List PoolFile) → HasName n free → IsNamed n (bare free)
bare_named n [] h = h
bare_named n (f ∷ fs) (inl e) = inl e
bare_named n (f ∷ fs) (inr h) = inr (bare_named n fs h)

pub all_named : (n : FileName) (closed : List Segment) (used : PoolFile) (items : List Item) (free : List PoolFile) → HasName n (all_files closed used free) → IsNamed n (closed ++ segment used items ∷ bare free)
all_named n [] used items free (inl e) = inl e
all_named n [] used items free (inr h) = inr (bare_named n free h)
all_named n (g ∷ gs) used items free (inl e) = inl e
all_named n (g ∷ gs) used items free (inr h) = inr (all_named n gs used items free h)

-- ---- records

-- spots end where the records that they are of do
spots_end : (place : ℕ) (items : List Item) → end_of_spots place (spots_from 2 place items) ≡ end_from 2 place items
spots_end place [] = refl
spots_end place (x ∷ xs) = spots_end (place + whole_len 2 x.rec) xs

-- how many records there are
pub length-records : (closed : List Segment) (used : PoolFile) (items : List Item) → length (records closed used items) ≡ length (records_of closed) + length items
length-records closed used items = omega (arith, length-append (records_of closed) (placed_in used.id items), length-placed used.id items)

-- so many records of a file are those of so many items
pub placed_in-take : (id n : ℕ) (items : List Item) → take n (placed_in id items) ≡ placed_in id (take n items)
placed_in-take id n items = take-map (placed id) n (spots_from 2 16 items) ∙ ap (map (placed id)) (spots_take 2 16 n items)

-- they stand in the file
pub placed_in-file : (id : ℕ) (items : List Item) → All (λ p. p.file ≡ id) (placed_in id items)
placed_in-file id items = All-map (λ p. p.file ≡ id) (placed id) (spots_from 2 16 items) (λ k d lt. refl)

pub bare_records : (free : List PoolFile) → records_of (bare free) ≡ []
bare_records [] = refl
bare_records (f ∷ fs) = bare_records fs

pub records_of_both : (gs hs : List Segment) → records_of (gs ++ hs) ≡ records_of gs ++ records_of hs
records_of_both [] hs = refl
records_of_both (g ∷ gs) hs = ap (λ (l : List Placed). records_in g ++ l) (records_of_both gs hs) ∙ sym (append_assoc (records_in g) (records_of gs) (records_of hs))

-- the records of all files, where so many items stand in the file in use
pub records_of_all : (closed : List Segment) (used : PoolFile) (items : List Item) (free : List PoolFile) → records_of (closed ++ segment used items ∷ bare free) ≡ records closed used items
records_of_all closed used items free =
    let here : List Placed = placed_in used.id items in
    records_of_both closed (segment used items ∷ bare free) ∙ ap (λ (l : List Placed). records_of closed ++ l) (ap (λ (l : List Placed). here ++ l) (bare_records free) ∙ append-nil here)

-- the records of the old files are the base, and the others stand behind it
pub records_since : (old closed : List Segment) (used : PoolFile) (items : List Item) (base : List Placed) → records_of old ≡ base → records (old ++ closed) used items ≡ base ++ records closed used items
records_since old closed used items base based =
    ap (λ (l : List Placed). l ++ placed_in used.id items) (records_of_both old closed ∙ ap (λ (l : List Placed). l ++ records_of closed) based) ∙ append_assoc base (records_of closed) (placed_in used.id items)

-- ---- files

-- closed files are durable, whatever stands behind them
closed_there : (wanted sure : ℕ) (s : Files) (closed more : List Segment) → AreClosed wanted s closed → AreThere wanted sure s more → AreThere wanted (length (records_of closed) + sure) s (closed ++ more)
closed_there wanted sure s [] more a there = let e : sure ≡ 0 + sure = omega arith in subst (λ (n : ℕ). AreThere wanted n s more) e there
closed_there wanted sure s (g ∷ gs) more a there =
    let e : length (records_of gs) + sure ≡ (length (records_of (g ∷ gs)) + sure) - length g.spots = omega (arith, length-append (records_in g) (records_of gs), length-map g.spots (placed g.id)) in (
      record { file = a.0.file; there = a.0.there; is = a.0.is; behind = λ i p. absurd (a.0.still i p) },
      subst (λ (n : ℕ). AreThere wanted n s (gs ++ more)) e (closed_there wanted sure s gs more a.1 there),
    )

free_there : (config : Config) (highest least sure : ℕ) (s : Files) (free : List PoolFile) → IsConfig config → highest ≤ 2 ^ 31 - 1 → AreListed highest least free → ArePrepared config s free → AreThere config.user_version sure s (bare free)
free_there config highest least sure s [] ranges low listed are = tt
free_there config highest least sure s (f ∷ fs) ranges low listed are = (
  record {
    file = file_for config f.id;
    there = are.0;
    is = prepared_segment config f ranges (number_names f.name listed.2.0 listed.2.1) (omega (arith, listed.1, low));
    behind = λ i p. absurd p;
  },
  free_there config highest (f.id + 1) (sure - 0) s fs ranges low listed.4 are.1,
)

pub items_of : (items : List Item) → All IsNewItem items → All (IsItem 2) items
items_of items all = λ k d lt. (all k d lt).item

module _ (config : Config) (closed : List Segment) (used : PoolFile) (sure : ℕ) (items : List Item) (highest : ℕ) (free : List PoolFile) (s : Files)
    (ranges : IsConfig config) (new : All IsNewItem items) (low : highest ≤ 2 ^ 31 - 1) (listed : AreListed highest 0 (all_files closed used free)) where
  used_there : (h : IsInUse config used sure items s) → ArePrepared config s free → AreThere config.user_version sure s (segment used (take h.put items) ∷ bare free)
  used_there h are =
      let front : List Item = take h.put items in
      let behind = listed_behind highest 0 closed (used ∷ free) listed in
      let l = behind.1 in
      let spots : take sure (spots_from 2 16 front) ≡ spots_from 2 16 (take sure items) = spots_take 2 16 sure front ∙ ap (spots_from 2 16) (take-take sure h.put items h.ahead) in
      let ends : end_of_spots 16 (take sure (spots_from 2 16 front)) ≡ end_from 2 16 (take sure items) = ap (end_of_spots 16) spots ∙ spots_end 16 (take sure items) in (
        record {
          file = h.file;
          there = h.there;
          is = in_use_segment config used ranges (number_names used.name l.2.0 l.2.1) (omega (arith, l.1, low)) sure items (items_of items new) s h;
          behind = λ i p. omega (arith, ends, h.behind i p);
        },
        free_there config highest (used.id + 1) (sure - length (spots_from 2 16 front)) s free ranges low l.4 are,
      )

  -- the directory of a journal, by its files' records
  pub stands_directory : (st : Stands config closed used sure items free s) → IsDirectory config.user_version (length (records_of closed) + sure) (closed ++ segment used (take st.used_there.put items) ∷ bare free) s
  stands_directory st =
      let front : List Item = take st.used_there.put items in
      let files : List Segment = closed ++ segment used front ∷ bare free in
      record {
        ascending = all_ascend highest 0 closed used front free listed;
        there = closed_there config.user_version sure s closed (segment used front ∷ bare free) st.closed_there (used_there st.used_there st.free_there);
        only = λ n file named long there. all_named n closed used front free (st.only n file named long there);
        uncontrolled = st.uncontrolled;
      }

-- It holds the records of the old files, of those closed since, and those of the file in use that are durable.
pub stands_holds : (config : Config) (old closed : List Segment) (used : PoolFile) (sure : ℕ) (items : List Item) (highest : ℕ) (free : List PoolFile) (base : List Placed) (s : Files) (d : ℕ) → IsConfig config → All IsNewItem items → sure ≤ length items → highest ≤ 2 ^ 31 - 1
    → AreListed highest 0 (all_files (old ++ closed) used free) → records_of old ≡ base → d ≤ length (records_of closed) + sure → Stands config (old ++ closed) used sure items free s → Holds config.user_version base d (records closed used items) s
stands_holds config old closed used sure items highest free base s d ranges new some low listed based le st =
    let h = st.used_there in
    let front : List Item = take h.put items in
    let n : ℕ = length (records_of closed) in
    let taken : take (n + h.put) (records closed used items) ≡ records closed used front =
    take_behind h.put (records_of closed) (placed_in used.id items) ∙ ap (λ (l : List Placed). records_of closed ++ l) (placed_in-take used.id h.put items) in
    let behind : drop (n + sure) (take (n + h.put) (records closed used items)) ≡ drop sure (placed_in used.id front) = ap (drop (n + sure)) taken ∙ drop_behind sure (records_of closed) (placed_in used.id front) in
    let both : records_of (old ++ closed) ≡ base ++ records_of closed = records_of_both old closed ∙ ap (λ (l : List Placed). l ++ records_of closed) based in
    let same : length (records_of (old ++ closed)) + sure ≡ length base + (n + sure) = omega (arith, ap length both, length-append base (records_of closed)) in
    let ahead : sure ≤ h.put = h.ahead in
    let most : h.put ≤ length items = h.most in
    let files : List Segment = (old ++ closed) ++ segment used front ∷ bare free in
    record {
      files = files;
      sure = n + sure;
      put = n + h.put;
      enough = le;
      ahead = omega (arith, ahead);
      within = omega (arith, most, length-records closed used items);
      is = subst (λ (k : ℕ). IsDirectory config.user_version k files s) same (stands_directory config (old ++ closed) used sure items highest free s ranges new low listed st);
      records = records_of_all (old ++ closed) used front free ∙ records_since old closed used front base based ∙ ap (λ (l : List Placed). base ++ l) (sym taken);
      last = used.id;
      one = subst (All (λ p. p.file ≡ used.id)) (sym behind) (All-drop (λ p. p.file ≡ used.id) sure (placed_in used.id front) (placed_in-file used.id front));
    }

-- the same where one more file may be prepared
pub stands_now_holds : (config : Config) (old closed : List Segment) (used : PoolFile) (sure : ℕ) (items : List Item) (highest : ℕ) (free : List PoolFile) (base : List Placed) (s : Files) (d : ℕ) → IsConfig config → All IsNewItem items → sure ≤ length items → highest ≤ 2 ^ 31 - 1
    → AreListed highest 0 (all_files (old ++ closed) used free) → records_of old ≡ base → d ≤ length (records_of closed) + sure → StandsNow config (old ++ closed) used sure items highest free s → Holds config.user_version base d (records closed used items) s
stands_now_holds config old closed used sure items highest free base s d ranges new some low listed based le (inl st) = stands_holds config old closed used sure items highest free base s d ranges new some low listed based le st
stands_now_holds config old closed used sure items highest free base s d ranges new some low listed based le (inr st) =
    stands_holds config old closed used sure items (highest + 1) (free ++ numbered_file (highest + 1) ∷ []) base s d ranges new some (omega (arith, st.0)) (listed_more highest (old ++ closed) used free st.0 listed) based le st.1

-- before the first file, a directory holds none of any history
pub empty_holds : (wanted : ℕ) (history : List Placed) (s : Files) → ((n : FileName) (file : File) → IsTrue (is_data n) → finite.get s n ≡ Some file → ⊥) → finite.get s control_name ≡ None → Holds wanted [] 0 history s
empty_holds wanted history s none uncontrolled = record {
  files = [];
  sure = 0;
  put = 0;
  enough = omega arith;
  ahead = omega arith;
  within = omega arith;
  is = record { ascending = tt; there = tt; only = λ n file named long there. none n file named there; uncontrolled = uncontrolled };
  records = refl;
  last = 0;
  one = λ k d lt. absurd (omega (arith, lt));
}

-- ---- more records, and fewer that are durable

pub holds_grows : (wanted least : ℕ) (base history more : List Placed) (s : Files) → Holds wanted base least history s → Holds wanted base least (history ++ more) s
holds_grows wanted least base history more s h =
    let same : take h.put history ≡ take h.put (history ++ more) = sym (take-append-le h.put history more h.within) in
    let within : h.put ≤ length history = h.within in
    record {
      files = h.files;
      sure = h.sure;
      put = h.put;
      enough = h.enough;
      ahead = h.ahead;
      within = omega (arith, within, length-append history more);
      is = h.is;
      records = h.records ∙ ap (λ (l : List Placed). base ++ l) same;
      last = h.last;
      one = subst (λ (l : List Placed). All (λ p. p.file ≡ h.last) (drop h.sure l)) same h.one;
    }

pub holds_fewer : (wanted d least : ℕ) (base history : List Placed) (s : Files) → d ≤ least → Holds wanted base least history s → Holds wanted base d history s
holds_fewer wanted d least base history s le h =
    let enough : least ≤ h.sure = h.enough in
    record {
      files = h.files;
      sure = h.sure;
      put = h.put;
      enough = omega (arith, le, enough);
      ahead = h.ahead;
      within = h.within;
      is = h.is;
      records = h.records;
      last = h.last;
      one = h.one;
    }
