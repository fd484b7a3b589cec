-- Files that are made durable one after the other.
use Rattle.std.proofs.Common.{◌≡◌, ℕ, zero, suc, ◌+◌, ◌<◌, ◌≤◌, List, [], ◌∷◌, ◌++◌, length, take, get_or, All, IsSome, Option, None, Some, option_map, refl, sym, ap, subst, ◌∙◌, arith}
use Rattle.std.specs.FinMap as map
use Rattle.std.proofs.lemmas.List.{take_more}
use Rattle.std.proofs.lemmas.List.Elements.{All-nil, All-push, All-get_or, All-weaker}
use Rattle.amq_model.specs.declared.directory.DataFile.{DataFile}
use Rattle.amq_model.specs.Files.{FileName, File, Files}
use Rattle.amq_model.specs.Calls.{Call, Past, syncing, fine, noted}
use Rattle.amq_model.specs.Leaves.{Leaves, IsSyncedFile, Syncs, HasSettledNames, AllAgree, IsSettled, Told, IsThere}
use Rattle.amq_model.proofs.Settling.{syncs_itself, sync_settles_listed, settled_synced}
use Rattle.amq_model.proofs.Moments.{still}
use Rattle.amq_model.proofs.Chain.{told_then}
use Rattle.amq_loader.specs.Bases.{AreThere}

-- the sync of a data file
abbrev pub sync_of : DataFile → Call
sync_of f = syncing f.name

-- each of these files has one content, all of it durable
abbrev pub AllSettled : Option Past → List DataFile → Type 0
AllSettled past files = All (λ f. AllAgree past (IsSettled f.name)) files

pub none_synced : (past : Option Past) → Leaves Syncs Syncs past past
none_synced past = still Syncs Syncs past syncs_itself

pub none_settled : (past : Option Past) → AllSettled past []
none_settled past = All-nil (λ f. AllAgree past (IsSettled f.name))

-- one more that was synced
pub one_settled : (files : List DataFile) (i : ℕ) (f : DataFile) (name : FileName) (a b : Option Past) → i < length files → f ≡ get_or files i f → name ≡ f.name → HasSettledNames a → AllSettled a (take i files)
    → b ≡ option_map (noted (syncing name) fine) a → AllSettled b (take (i + 1) files)
one_settled files i f name a b low is named names settled notes =
    subst (AllSettled b) (sym (take_more files i f low ∙ ap (λ (g : DataFile). take i files ++ g ∷ []) (sym is)))
    (All-push (λ f. AllAgree b (IsSettled f.name)) (take i files) f
    (All-weaker (λ f. AllAgree a (IsSettled f.name)) (λ f. AllAgree b (IsSettled f.name)) (λ g was. settled_synced g.name name a b was notes) (take i files) settled)
    (subst (λ (n : FileName). AllAgree b (IsSettled n)) named (sync_settles_listed name a b names notes)))

-- syncs take no file away
there_synced : (n : FileName) (o s : Files) → IsThere n o → Syncs o s → IsThere n s
there_synced n o s there syncs = by (map.get o n) (map.get s n) (syncs n) there where
  by : (x y : Option File) → IsSyncedFile x y → IsSome x → IsSome y
  by None None kept is = is
  by None (Some g) kept is = absurd kept
  by (Some f) None kept is = absurd kept
  by (Some f) (Some g) kept is = refl

-- the next one is there
pub next_is_there : (files : List DataFile) (i : ℕ) (f : DataFile) (name : FileName) (a b : Option Past) → i < length files → f ≡ get_or files i f → name ≡ f.name → Told a (AreThere files) → Leaves Syncs Syncs a b → Told b (IsThere name)
next_is_there files i f name a b low is named there so_far =
    subst (λ (n : FileName). Told b (IsThere n)) (sym (named ∙ ap (λ (g : DataFile). g.name) is))
    (told_then Syncs Syncs (AreThere files) (IsThere (get_or files i f).name) a b there (λ o s all syncs. there_synced (get_or files i f).name o s (All-get_or (λ f. IsThere f.name o) files i f low all) syncs) so_far)

-- all of them
pub all_settled : (files : List DataFile) (i : ℕ) (past : Option Past) → length files ≤ i → AllSettled past (take i files) → AllSettled past files
all_settled files i past done settled = subst (AllSettled past) (take_whole files i done) settled where
  take_whole : (files : List DataFile) (i : ℕ) → length files ≤ i → take i files ≡ files
  take_whole [] zero done = refl
  take_whole [] (suc i) done = refl
  take_whole (f ∷ fs) zero done = absurd (omega (arith, done))
  take_whole (f ∷ fs) (suc i) done = ap (λ (l : List DataFile). f ∷ l) (take_whole fs i (omega (arith, done)))
