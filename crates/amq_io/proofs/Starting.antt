-- What a disk in memory reads at first.
use Rattle.std.proofs.Common.{◌≡◌, ◌≢◌, ℕ, suc, List, [], ◌∷◌, None, Some, refl, sym, ◌∙◌, ap, subst, arith, get_or, Vec, Global}
use Rattle.std.specs.Prelude.{map as map_of, All, Result, Ok, Err, IfOk}
use Rattle.std.specs.List.{AllPairs}
use Rattle.std.specs.FinMap as map
use Rattle.std.specs.Cmp.Lexicographic.{slice_cmp}
use Rattle.std.specs.Ordering.{nat_cmp}
use Rattle.std.proofs.lemmas.List.Elements.{All-nil, All-cons, All-head, All-tail, All-map}
use Rattle.std.proofs.lemmas.List.Kept.{AllPairs-cons}
use Rattle.amq_model.specs.Files.{FileName, File, Files}
use Rattle.amq_model.proofs.Lookups.{get-insert_same, get-insert_other}
use Rattle.amq_io.specs.Versions.{Versions}
use Rattle.amq_io.specs.Entries.{files_by, durable_pair, durable_entry}
use Rattle.amq_model.specs.Calls.{content}
use Rattle.amq_io.specs.MemoryDisk.{Memory, content_of, from_pairs, HoldsFiles, IsFresh}

abbrev Named : Type 0
Named = FileName × List ℕ

abbrev durable : Named → FileName × File
durable f = durable_pair f.0 f.1

abbrev Differ : Named → Named → Type 0
Differ a b = a.0 ≢ b.0

pairs_tail : {X : Type 0} (R : X → X → Type 0) (x : X) (xs : List X) → AllPairs R (x ∷ xs) → AllPairs R xs
pairs_tail R x xs pairs i j d below within = pairs (suc i) (suc j) d (omega (arith, below)) (omega (arith, within))

pairs_head : {X : Type 0} (R : X → X → Type 0) (x : X) (xs : List X) → AllPairs R (x ∷ xs) → All (R x) xs
pairs_head R x xs pairs k d within = pairs 0 (suc k) d (omega arith) (omega (arith, within))

others_of : (fs : List Named) (n : FileName) → All (λ f. f.0 ≢ n) fs → map.get (from_pairs (map_of durable fs)) n ≡ None
others_of [] n other = map.get-empty (slice_cmp nat_cmp) n
others_of (f ∷ fs) n other =
    get-insert_other (from_pairs (map_of durable fs)) f.0 n (durable f).1 (λ same. All-head (λ f. f.0 ≢ n) f fs other (sym same)) ∙ others_of fs n (All-tail (λ f. f.0 ≢ n) f fs other)

abbrev Reads : List Named → Named → Type 0
Reads fs f = map.get (from_pairs (map_of durable fs)) f.0 ≡ Some (record { bytes = f.1; pending = [] })

each_of : (fs : List Named) → AllPairs Differ fs → All (Reads fs) fs
each_of [] differ = All-nil (Reads [])
each_of (f ∷ fs) differ =
    All-cons (Reads (f ∷ fs)) f fs (get-insert_same (from_pairs (map_of durable fs)) f.0 (durable f).1)
    (λ k d within. get-insert_other (from_pairs (map_of durable fs)) f.0 (get_or fs k d).0 (durable f).1 (λ same. pairs_head Differ f fs differ k d within (sym same)) ∙ each_of fs (pairs_tail Differ f fs differ) k d within)

holds : (fs : List Named) → AllPairs Differ fs → HoldsFiles fs (from_pairs (map_of durable fs))
holds fs differ = record { each = each_of fs differ; others = λ n other. others_of fs n other }

abbrev Given : Type 0
Given = FileName × Vec ℕ Global

abbrev plain : Given → Named
plain f = (f.0, f.1.items)

plain_differ : (files : List Given) → AllPairs (λ a b. a.0 ≢ b.0) files → AllPairs Differ (map_of plain files)
plain_differ [] differ = λ i j d below within. absurd (omega (arith, within))
plain_differ (f ∷ fs) differ =
    AllPairs-cons Differ (plain f) (map_of plain fs) (All-map (Differ (plain f)) plain fs (pairs_head (λ a b. a.0 ≢ b.0) f fs differ)) (plain_differ fs (pairs_tail (λ a b. a.0 ≢ b.0) f fs differ))

plain_start : (files : List Given) → map_of (λ f. durable_pair f.0 f.1.items) files ≡ map_of durable (map_of plain files)
plain_start [] = refl
plain_start (f ∷ fs) = ap (λ (l : List (FileName × File)). durable (plain f) ∷ l) (plain_start fs)

-- entries made of the files stand for it, whichever version is taken
pub entries_start : (version : Versions → File) → ((bytes : List ℕ) → version (record { read = record { bytes = bytes; pending = [] }; synced = bytes }) ≡ record { bytes = bytes; pending = [] }) → (files : List Given)
    → files_by version (map_of (λ f. durable_entry f.0 f.1.items) files) ≡ from_pairs (map_of (λ f. durable_pair f.0 f.1.items) files)
entries_start version is [] = refl
entries_start version is (f ∷ fs) =
    ap (λ (s : Files). map.insert s f.0 (version (durable_entry f.0 f.1.items).file)) (entries_start version is fs) ∙ ap (map.insert (from_pairs (map_of (λ f. durable_pair f.0 f.1.items) fs)) f.0) (is f.1.items)

-- entries made of files whose names differ
pub holds_given : (files : List Given) → AllPairs (λ a b. a.0 ≢ b.0) files → HoldsFiles (map_of plain files) (from_pairs (map_of (λ f. durable_pair f.0 f.1.items) files))
holds_given files differ =
    let P : List (FileName × File) → Type 0 = λ l. HoldsFiles (map_of plain files) (from_pairs l) in
    subst P (sym (plain_start files)) (holds (map_of plain files) (plain_differ files differ))

-- what a disk reads on which no call was made
pub fresh_content : (d : Memory) (start : List (FileName × File)) → d.calls ≡ [] → d.start ≡ start → content_of d ≡ from_pairs start
fresh_content d start none is = ap (content (from_pairs d.start)) none ∙ ap from_pairs is

pub holds_started : {E : Type 0} (r : Result Memory E) (files : List Given) → AllPairs (λ a b. a.0 ≢ b.0) files → IfOk r IsFresh → IfOk r (λ d. d.start ≡ map_of (λ f. durable_pair f.0 f.1.items) files)
    → IfOk r (λ d. HoldsFiles (map_of plain files) (content_of d))
holds_started (Ok d) files differ fresh start =
    let P : Files → Type 0 = λ s. HoldsFiles (map_of plain files) s in
    subst P (sym (fresh_content d _ fresh.calls start)) (holds_given files differ)
holds_started (Err e) files differ fresh start = tt
