-- What an opening finds and leaves, of literal directories and chronicles.
use Rattle.std.proofs.Common.{◌≡◌, ◌⊎◌, inl, inr, ℕ, ◌+◌, ◌-◌, ◌^◌, ◌≤◌, Bool, true, false, cond, List, [], ◌∷◌, ◌++◌, length, None, Some, option_map, codes, refl, sym, ap, subst, ◌∙◌, arith}
use Rattle.std.specs.Prelude.{fold, map}
use Rattle.std.specs.FinMap as finite
use Rattle.std.specs.Ordering.{eq_by_cmp, nat_cmp}
use Rattle.std.specs.Cmp.Lexicographic.{slice_cmp}
use Rattle.std.proofs.lemmas.Bool.{false≢true}
use Rattle.std.proofs.lemmas.Cmp.{nat_list_cmp_total}
use Rattle.std.proofs.lemmas.Option.{none-some}
use Rattle.amq_model.specs.declared.command.Command.TheVariants.{Rollback}
use Rattle.amq_model.specs.declared.command.Reply.TheVariants.{Appended}
use Rattle.amq_model.specs.declared.config.Config.{Config}
use Rattle.amq_model.specs.declared.directory.OpenFault.TheVariants as o
use Rattle.amq_model.specs.declared.history.Answer.TheVariants.{Done, Refused}
use Rattle.amq_model.specs.declared.history.Step.{Step}
use Rattle.amq_model.specs.declared.record.Placed.{Placed}
use Rattle.amq_model.specs.declared.record.Record.TheVariants as r
use Rattle.amq_model.specs.declared.refusal.DiskCall.TheVariants.{Read, Sync}
use Rattle.amq_model.specs.declared.refusal.Refusal.TheVariants.{FileIdsSpent}
use Rattle.amq_model.specs.Names.{control_name}
use Rattle.amq_model.specs.Calls.{Call, Event, listing as listing_call, reading as reading_call, syncing, removing, fine}
use Rattle.amq_model.specs.LoadCalls.{calls_of, names_among, load_calls}
use Rattle.amq_engine.specs.Receipts.{AreOpeningCalls}
use Rattle.amq_model.specs.Directory.{FileOf, Listing, IsRead, IsJoined, data_files, fault}
use Rattle.amq_model.specs.Legal.{IsOpeningStep}
use Rattle.amq_model.specs.Files.{FileName, File, Files, Image, IsReading}
use Rattle.amq_model.proofs.Literals.{unequal}
use Rattle.amq_loader.specs.Loads.{highest_number}
use Rattle.amq_engine.specs.Lists.{Lists}
use Rattle.amq_engine.specs.Opening.{HasBase, HasNumbers, AreRolledBack, AreFirstRollbacks, EndsIn, IsFilled, NeedsFile, HasOpenCause, rollback_behind, rollbacks_behind}

-- ---- the directory

-- one temporary file
abbrev listing : Listing
listing = (codes "activemq-data-7.amq.tmp", []) ∷ []

abbrev files : Files
files = finite.from_sorted ((codes "activemq-data-7.amq.tmp", record { bytes = []; pending = [] }) ∷ [])

abbrev image : Image
image = finite.from_sorted listing

found : (n : FileName) → finite.find (slice_cmp nat_cmp) n listing ≡ option_map (λ (f : File). f.bytes) (finite.find (slice_cmp nat_cmp) n ((codes "activemq-data-7.amq.tmp", record { bytes = []; pending = [] }) ∷ []))
found n = by (eq_by_cmp (slice_cmp nat_cmp) n (codes "activemq-data-7.amq.tmp")) where
  by : (b : Bool) → cond b (Some []) None ≡ option_map (λ (f : File). f.bytes) (cond b (Some (record { bytes = []; pending = [] })) None)
  by true = refl
  by false = refl

reads : IsReading files image
reads n = finite.get-from_sorted (slice_cmp nat_cmp) listing n tt ∙ found n ∙ sym (ap (option_map (λ (f : File). f.bytes)) (finite.get-from_sorted (slice_cmp nat_cmp) ((codes "activemq-data-7.amq.tmp", record { bytes = []; pending = [] }) ∷ []) n tt))

of_image : (P : Listing → Type 0) → P listing → P (finite.entries image)
of_image P is = subst P (sym (finite.entries-from_sorted (slice_cmp nat_cmp) listing tt)) is

from_image : (i : Image) → IsReading files i → (P : Listing → Type 0) → P (finite.entries i) → P listing
from_image i reading P is =
    subst P (ap finite.entries (finite.same_map nat_list_cmp_total (finite.slice_cmp-IsAntisymmetric finite.nat_cmp-IsAntisymmetric) i image (λ q. reading q ∙ sym (reads q))) ∙ finite.entries-from_sorted (slice_cmp nat_cmp) listing tt) is

-- without a data file the base is empty
pub no_file_has_no_records : HasBase 0 [] files
no_file_has_no_records = record {
  image = image;
  reading = reads;
  uncontrolled = finite.get-from_sorted (slice_cmp nat_cmp) listing control_name tt;
  read = of_image (λ l. IsRead l None []) (record { says = λ bytes c e. absurd cc; joined = refl });
  faultless = of_image (λ l. fault l None 0 ≡ None) refl;
}

pub no_record_is_made_up : (p : Placed) → HasBase 0 (p ∷ []) files → ⊥
no_record_is_made_up p h = let none : p ∷ [] ≡ [] = from_image h.image h.reading (λ l. IsJoined (data_files l None) (p ∷ [])) h.read.joined in unequal 1 0 tt (ap (λ (l : List Placed). length l) none)

-- with a control file there is no base
pub a_control_file_has_no_base : (base : List Placed) (s : Files) (f : File) → finite.get s control_name ≡ Some f → HasBase 0 base s → ⊥
a_control_file_has_no_base base s f there h = none-some f.bytes (sym h.uncontrolled ∙ h.reading control_name ∙ ap (option_map (λ (f : File). f.bytes)) there)

-- the number of a temporary file counts
pub the_numbers : HasNumbers 0 7 files
the_numbers = record { image = image; reading = reads; count = of_image (λ l. 0 ≡ length (data_files l None)) refl; is = of_image (λ l. 7 ≡ highest_number l (data_files l None)) refl }

no_data : (n highest : ℕ) → HasNumbers n highest files → (n ≡ 0) × (highest ≡ 7)
no_data n highest h = (from_image h.image h.reading (λ l. n ≡ length (data_files l None)) h.count, from_image h.image h.reading (λ l. highest ≡ highest_number l (data_files l None)) h.is)

pub not_without_a_number : HasNumbers 0 0 files → ⊥
not_without_a_number h = unequal 0 7 tt (no_data 0 0 h).1

-- ---- calls up to the first receipt

abbrev event : Call → ℕ → Event
event call before = record { call = call; outcome = fine; before = before }

one_list : load_calls files ≡ listing_call ∷ []
one_list = ap (λ (es : List (FileName × File)). listing_call ∷ map reading_call (names_among (map (λ (e : FileName × File). (e.0, length e.1.bytes)) es))) (finite.entries-from_sorted (slice_cmp nat_cmp) ((codes "activemq-data-7.amq.tmp", record { bytes = []; pending = [] }) ∷ []) tt)

-- without a data file the list is the one call
pub the_list_alone : AreOpeningCalls files (event listing_call 0 ∷ [])
the_list_alone = (image, reads, of_image (λ l. calls_of (event listing_call 0 ∷ []) ≡ load_calls files ++ map (λ (f : FileOf). syncing f.name) (data_files l None)) (sym (ap (λ (cs : List Call). cs ++ []) one_list)))

-- the temporary file is removed behind the receipt
pub not_a_removal : AreOpeningCalls files (event (removing (codes "activemq-data-7.amq.tmp")) 1 ∷ event listing_call 0 ∷ []) → ⊥
not_a_removal h =
    let made : List Event = event (removing (codes "activemq-data-7.amq.tmp")) 1 ∷ event listing_call 0 ∷ [] in
    let is : calls_of made ≡ load_calls files ++ [] = from_image h.0 h.1 (λ l. calls_of made ≡ load_calls files ++ map (λ (f : FileOf). syncing f.name) (data_files l None)) h.2 in
    let many : ◌≡◌ {A = ℕ} 2 1 = ap (λ (cs : List Call). length cs) (is ∙ ap (λ (cs : List Call). cs ++ []) one_list) in
    omega (arith, many)

-- ---- rollbacks

-- files of 64 bytes
abbrev config : Config
config = record { file_size = 64; min_files = 2; pool_files = None; compact_min_files = 10; compact_percentage = 30; buffer_size = 64; buffer_timeout = 3; user_version = 0 }

-- an add of transaction 1 and one of transaction 2, which have no end
abbrev left_open : List Placed
left_open = record { file = 1; place = 16; compact = 0; rec = r.AddTx 1 3 7 [] } ∷ record { file = 1; place = 45; compact = 0; rec = r.AddTx 2 4 7 [] } ∷ []

-- a rollback in that file, which ends there
abbrev rolls_back : ℕ → ℕ → ℕ → Step
rolls_back tx file end = record { seat = 0; number = tx; command = Rollback tx; answer = Done (Appended (tx - 1)); placed = Some (record { file = file; place = end - 18; compact = 0; rec = r.Rollback tx }) }

-- the record of a rollback
abbrev rolled : ℕ → ℕ → ℕ → Placed
rolled tx file place = record { file = file; place = place; compact = 0; rec = r.Rollback tx }

is_its : (tx file end : ℕ) → IsOpeningStep tx tx (rolls_back tx file end)
is_its tx file end = record { seat = refl; number = refl; command = refl }

pub both_are_rolled_back : AreRolledBack left_open (rolls_back 1 2 34 ∷ rolls_back 2 2 52 ∷ [])
both_are_rolled_back = (refl, refl, (is_its 1 2 34, (is_its 2 2 52, tt)))

pub not_one_alone : AreRolledBack left_open (rolls_back 1 2 34 ∷ []) → ⊥
not_one_alone h = let many : ◌≡◌ {A = ℕ} 1 2 = h.0 in omega (arith, many)

-- one that was refused isn't appended
pub not_where_one_is_refused : AreRolledBack left_open (rolls_back 1 2 34 ∷ record { seat = 0; number = 2; command = Rollback 2; answer = Refused (FileIdsSpent 5); placed = None } ∷ []) → ⊥
not_where_one_is_refused h = let many : ◌≡◌ {A = ℕ} 1 2 = h.1 in omega (arith, many)

-- ---- where they stand

-- two of them fill a file, and the third is the first of the next
pub where_three_stand : rollbacks_behind config 8 16 (1 ∷ 2 ∷ 3 ∷ []) ≡ rolled 1 8 16 ∷ rolled 2 8 34 ∷ rolled 3 9 16 ∷ []
where_three_stand = refl

pub a_file_that_has_room_is_not_left : rollback_behind config 8 34 2 ≡ rolled 2 9 16 → ⊥
a_file_that_has_room_is_not_left e = let file : ◌≡◌ {A = ℕ} 8 9 = ap (λ (p : Placed). p.file) e in omega (arith, file)

pub the_first_was_appended : AreFirstRollbacks config (record { base = left_open; steps = rolls_back 1 8 34 ∷ []; receipts = [] }) files
the_first_was_appended = record { files = 0; before = 7; had = the_numbers; placed = refl }

-- no number is skipped
pub not_in_the_file_behind_the_next : AreFirstRollbacks config (record { base = left_open; steps = rolls_back 1 9 34 ∷ []; receipts = [] }) files → ⊥
not_in_the_file_behind_the_next h =
    let first : record { file = 9; place = 16; compact = 0; rec = r.Rollback 1 } ∷ [] ≡ rolled 1 (h.before + 1) 16 ∷ [] = h.placed in
    let file : 9 ≡ h.before + 1 = ap (λ (ps : List Placed). fold (λ _ p. p.file) 0 ps) first in
    omega (arith, file, (no_data h.files h.before h.had).1)

-- ---- where it ends

pub where_the_file_begins : EndsIn 2 [] 2 16
where_the_file_begins = (refl, refl)

pub where_the_last_rollback_ends : EndsIn 2 (record { file = 3; place = 16; compact = 0; rec = r.Rollback 1 } ∷ []) 3 34
where_the_last_rollback_ends = (refl, refl)

pub not_in_the_first_file : EndsIn 2 (record { file = 3; place = 16; compact = 0; rec = r.Rollback 1 } ∷ []) 2 34 → ⊥
not_in_the_first_file h = let file : ◌≡◌ {A = ℕ} 2 3 = h.0 in omega (arith, file)

-- ---- files

-- the new file and a prepared one make two
pub two_files_are_enough : IsFilled config [] [] 8 16 9 (9 ∷ []) files
two_files_are_enough = record { files = 0; before = 7; had = the_numbers; unspent = omega arith; placed = refl; begun = omega arith; within = omega arith; most = omega arith; ends = (refl, refl); prepared = refl; enough = inl (omega arith); no_more = inr (omega arith) }

pub one_is_not : IsFilled config [] [] 8 16 8 [] files → ⊥
one_is_not h = by h.enough (no_data h.files h.before h.had) where
  by : (2 ≤ h.files + (8 - h.before)) ⊎ (◌≡◌ {A = ℕ} 8 (2 ^ 31 - 1)) → (h.files ≡ 0) × (h.before ≡ 7) → ⊥
  by (inl many) are = omega (arith, many, are.0, are.1)
  by (inr top) are = omega (arith, top)

-- ---- a further file

-- the first rollback ends with the file of the greatest number
abbrev full : Lists
full = record { base = left_open; steps = rolls_back 1 (2 ^ 31 - 1) 64 ∷ []; receipts = [] }

pub the_next_needs_a_file : NeedsFile config full
the_next_needs_a_file = (omega arith, refl, refl)

pub not_where_it_fits : NeedsFile config (record full { steps = rolls_back 1 (2 ^ 31 - 1) 34 ∷ [] }) → ⊥
not_where_it_fits h = false≢true h.1

pub not_in_another_file : NeedsFile config (record full { steps = rolls_back 1 5 64 ∷ [] }) → ⊥
not_in_another_file h = let file : ◌≡◌ {A = ℕ} 5 2147483647 = h.2 in omega (arith, file)

-- ---- why it failed

pub spent_behind_a_rollback : HasOpenCause config (o.FileIdsSpent (2 ^ 31 - 1)) (Some full) None None (3, Some Read) (3, Some Read)
spent_behind_a_rollback = ((refl, refl), inr (refl, (the_next_needs_a_file, tt)))

pub not_spent_at_five : HasOpenCause config (o.FileIdsSpent 5) (Some full) None None (3, None) (3, None) → ⊥
not_spent_at_five (same, inl h) = omega (arith, h.0)
not_spent_at_five (same, inr h) = let top : ◌≡◌ {A = ℕ} 5 2147483647 = h.0 in omega (arith, top)

pub a_sync_failed : HasOpenCause config (o.Disk Sync) None None None (3, Some Read) (4, Some Sync)
a_sync_failed = (omega arith, refl)

pub not_without_a_failed_call : HasOpenCause config (o.Disk Sync) None None None (3, Some Sync) (3, Some Sync) → ⊥
not_without_a_failed_call h = omega (arith, h.0)

pub no_memory : HasOpenCause config o.NoMemory None None None (3, Some Read) (3, Some Read)
no_memory = (refl, refl)

-- no control file is found behind the first receipt
pub not_built_before_the_base : HasOpenCause config o.NotBuilt (Some full) None None (3, None) (3, None) → ⊥
not_built_before_the_base h = let none : length left_open ≡ 0 = ap (λ (l : List Placed). length l) h.2.0 in omega (arith, none)
