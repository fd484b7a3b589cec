-- Data files by their ids and lengths, which of them are new, and which names calls may touch: what is so and what isn't.
use Rattle.std.proofs.Common.{◌≡◌, ◌⊎◌, inl, inr, ⊎_elim, ℕ, ◌+◌, ◌-◌, ◌^◌, ◌<◌, ◌≤◌, Bool, true, false, cond, List, [], ◌∷◌, codes, length, Option, None, Some, refl, sym, ap, subst, ◌∙◌, arith}
use Rattle.std.specs.Prelude.{IsSome, is_some}
use Rattle.std.specs.FinMap as finite
use Rattle.std.proofs.lemmas.Option.{same_Some, none-some}
use Rattle.amq_model.specs.declared.config.Config.{Config}
use Rattle.amq_model.specs.declared.record.Placed.{Placed}
use Rattle.amq_model.specs.declared.record.Record.TheVariants.{Rollback}
use Rattle.amq_model.specs.declared.record.Record.TheVariants as r
use Rattle.amq_model.specs.declared.command.Command.TheVariants as c
use Rattle.amq_model.specs.declared.command.Reply.TheVariants.{Appended}
use Rattle.amq_model.specs.declared.history.Answer.TheVariants.{Done}
use Rattle.amq_model.specs.declared.history.Step.{Step}
use Rattle.amq_model.specs.Legal.{rolled_back}
use Rattle.amq_model.specs.Names.{is_data, data_number}
use Rattle.amq_model.specs.Files.{FileName, File, Files}
use Rattle.amq_model.specs.Calls.{Past, content}
use Rattle.amq_model.specs.Leaves.{Leaves, Syncs, IsSyncedFile}
use Rattle.amq_header.specs.Classes.{data_name, temporary_name, temporary_number}
use Rattle.amq_header.proofs.Made.{data_is_read, temporary_is_read, temporary_differ}
use Rattle.amq_engine.specs.Lists.{Lists}
use Rattle.amq_engine.specs.DataFiles.{id_and_length, data_file_at, HasSameFiles, HasFilesMade, HasId, IsNumbered, IsPreparing, IsUsedOrNew, IsRenewed, LeavesAllBut, SyncsAllBut, WorkedTo, HasFilesOf, HasFilesSoFar, FailedFlushed, HasBegunFiles, HasFailedFiles, file_of_last}
use Rattle.amq_engine.specs.Opening.{NextNeedsFile}
use Rattle.amq_engine.proofs.DataFiles.{same_made}
use Rattle.amq_engine.proofs.Standing.{temporary_apart}

-- a header of version 2 and id 3, and one byte
abbrev bytes : List ℕ
bytes = 0 ∷ 0 ∷ 0 ∷ 2 ∷ 0 ∷ 0 ∷ 0 ∷ 0 ∷ 0 ∷ 0 ∷ 0 ∷ 0 ∷ 0 ∷ 0 ∷ 0 ∷ 3 ∷ 74 ∷ []

abbrev file : File
file = record { bytes = bytes; pending = [] }

pub id_is_read : id_and_length (Some file) ≡ Some (3, 17)
id_is_read = refl

pub a_short_file_has_none : id_and_length (Some (record { bytes = 0 ∷ 0 ∷ []; pending = [] })) ≡ None
a_short_file_has_none = refl

-- under a data file's name it is one
pub there_is_one : (n : FileName) (s : Files) → is_data n ≡ true → finite.get s n ≡ Some file → HasId 3 s n
there_is_one n s named there = (17, ap (λ (b : Bool). cond b (id_and_length (finite.get s n)) None) named ∙ ap id_and_length there)

-- and under another it isn't
pub notes_are_none : (s : Files) → HasId 3 s (codes "notes.txt") → ⊥
notes_are_none s h = none-some (3, h.0) h.1

-- where no file is there no data file is
missing : (n : FileName) (s : Files) → finite.get s n ≡ None → data_file_at n s ≡ None
missing n s none = ap (λ (f : Option File). cond (is_data n) (id_and_length f) None) none ∙ by (is_data n) where
  by : (b : Bool) → cond {A = Option (ℕ × ℕ)} b None None ≡ None
  by true = refl
  by false = refl

pub nothing_changes : (s : Files) → HasSameFiles s s
nothing_changes s n = refl

pub a_lost_file_is_missed : (n : FileName) (o s : Files) → HasId 3 o n → finite.get s n ≡ None → HasSameFiles o s → ⊥
a_lost_file_is_missed n o s had none same = none-some (3, had.0) (sym (missing n s none) ∙ same n ∙ had.1)

-- no number is new
pub nothing_is_made : (s : Files) → HasFilesMade 64 5 5 s s
nothing_is_made s = same_made 64 5 s s (λ n. refl)

-- a number that is told has a file
pub a_file_left_out : (o s : Files) → finite.get s (data_name 6) ≡ None → HasFilesMade 64 5 6 o s → ⊥
a_file_left_out o s none made = none-some (6, 64) (sym (missing (data_name 6) s none) ∙ made.made 6 (omega arith) (omega arith))

-- one of another length isn't it
pub another_length : (o s : Files) → data_file_at (data_name 6) s ≡ Some (6, 32) → HasFilesMade 64 5 6 o s → ⊥
another_length o s there made = omega (arith, ap (λ (x : ℕ × ℕ). x.1) (same_Some (6, 32) (6, 64) (sym there ∙ made.made 6 (omega arith) (omega arith))))

-- names by their numbers
pub second_of_two : IsNumbered 1 2 (data_name 2)
second_of_two = (2, omega arith, omega arith, refl)

pub none_between : (n : FileName) → IsNumbered 2 2 n → ⊥
none_between n is = omega (arith, is.1, is.2)

pub prepared_under_its_temporary_name : IsPreparing 2 2 (temporary_name 2)
prepared_under_its_temporary_name = (2, omega arith, omega arith, inr refl)

pub none_is_prepared : (n : FileName) → IsPreparing 3 2 n → ⊥
none_is_prepared n is = omega (arith, is.1, is.2)

pub the_one_in_use : (n : FileName) → IsUsedOrNew n 3 2 n
the_one_in_use n = inl refl

pub no_other : (n m : FileName) → (m ≡ n → ⊥) → IsUsedOrNew n 3 2 m → ⊥
no_other n m other is = ⊎_elim (λ (e : m ≡ n). other e) (λ p. none_is_prepared m p) is

-- what an opening may remove or make
pub a_temporary_file_goes : IsRenewed None 0 0 (codes "activemq-data-7.amq.tmp")
a_temporary_file_goes = inl (refl, tt)

-- a temporary file that wasn't there is made for a new number alone
pub none_of_an_old_number : (old : Past) → finite.get (content old.start old.calls) (temporary_name 3) ≡ None → IsRenewed (Some old) 3 5 (temporary_name 3) → ⊥
none_of_an_old_number old none (inl is) = lost (finite.get (content old.start old.calls) (temporary_name 3)) none is.1 where
  lost : (f : Option File) → f ≡ None → IsSome f → ⊥
  lost None e some = absurd cc
  lost (Some f) e some = none-some f (sym e)
none_of_an_old_number old none (inr (k, above, below, inl e)) = temporary_apart 3 (data_name k) (inl (ap is_some (data_is_read k (omega (arith, below))))) (sym e)
none_of_an_old_number old none (inr (k, above, below, inr e)) = omega (arith, above, temporary_differ 3 k (omega arith) (omega (arith, below)) e)

pub notes_stay : (old : Option Past) (first last : ℕ) → last ≤ 2 ^ 31 - 1 → IsRenewed old first last (codes "notes.txt") → ⊥
notes_stay old first last low (inl is) = let other : false ≡ true = is.0 in cc
notes_stay old first last low (inr (k, above, below, inl e)) = none-some k (ap data_number e ∙ data_is_read k (omega (arith, below, low)))
notes_stay old first last low (inr (k, above, below, inr e)) = none-some (Some k) (ap temporary_number e ∙ temporary_is_read k (omega (arith, below, low)))

pub a_file_that_goes : (n : FileName) (f : File) (o s : Files) → finite.get o n ≡ Some f → finite.get s n ≡ None → SyncsAllBut (λ m. ⊥) o s → ⊥
a_file_that_goes n f o s had none keeps = subst (λ (g : Option File). IsSyncedFile (Some f) g) none (subst (λ (g : Option File). IsSyncedFile g (finite.get s n)) had (keeps n (λ no. no)))

-- numbers of files go up to the greatest one
pub no_greater_number : (a b : Option Past) → WorkedTo true 64 1 1 (2 ^ 31) a b → ⊥
no_greater_number a b w = omega (arith, w.limit, w.all refl)

-- a disk that tells nothing still does
pub nothing_told : (Among : Files → FileName → Type 0) → LeavesAllBut Among None None
nothing_told Among = refl

-- ---- a run

-- an append in that file
abbrev append_in : ℕ → Placed
append_in file = record { file = file; place = 16; compact = 0; rec = Rollback 1 }

pub none_appended : file_of_last 4 [] ≡ 4
none_appended = refl

pub the_last_counts : file_of_last 4 (append_in 5 ∷ append_in 7 ∷ []) ≡ 7
the_last_counts = refl

-- of a disk that tells nothing nothing is known
pub files_untold : (config : Config) → config.min_files ≤ 1 → HasFilesOf true config (append_in 1 ∷ []) None None
files_untold config few = record {
  files = 0;
  before = 0;
  had = tt;
  most = 1;
  limit = omega arith;
  begun = omega arith;
  worked = record { last = 1; least = omega arith; within = omega arith; near = omega arith; all = λ is. refl; works = record { keeps = refl; files = tt } };
  stands = omega arith;
  enough = λ is. inl (omega (arith, few));
  tidy = λ is. tt;
  no_more = inl (omega arith);
}

-- none is left out that the last append needs
pub no_append_without_its_file : (done : Bool) (config : Config) (a b : Option Past) (h : HasFilesOf done config (append_in 4 ∷ []) a b) → h.most ≡ 3 → ⊥
no_append_without_its_file done config a b h is = omega (arith, h.stands, h.worked.within, is)

-- and none is one too many
pub no_file_too_many : (config : Config) (a b : Option Past) (h : HasFilesOf true config (append_in 4 ∷ []) a b) → config.min_files ≤ h.files → h.most ≡ 5 → ⊥
no_file_too_many config a b h few is = ⊎_elim (λ (le : h.most ≤ 4). omega (arith, le, is)) (λ (le : h.files + (h.most - h.before) ≤ config.min_files). omega (arith, le, few, is, h.begun)) h.no_more

-- where not all was done that of the next append may be there, and no further one
pub no_second_file_too_many : (config : Config) (a b : Option Past) (h : HasFilesOf false config (append_in 4 ∷ []) a b) → config.min_files ≤ h.files → h.most ≡ 6 → ⊥
no_second_file_too_many config a b h few is = ⊎_elim (λ (le : h.most ≤ 5). omega (arith, le, is)) (λ (le : h.files + (h.most - h.before) ≤ config.min_files). omega (arith, le, few, is, h.begun)) h.no_more

-- The base has an open transaction, in file 1. So much was done: nothing, or its rollback was appended, in file 2.
abbrev left_open : List Placed
left_open = record { file = 1; place = 16; compact = 0; rec = r.AddTx 1 3 7 [] } ∷ []

abbrev rolls_back : Step
rolls_back = record { seat = 0; number = 1; command = c.Rollback 1; answer = Done (Appended 0); placed = Some (append_in 2) }

abbrev opened_with : List Step → ℕ → Lists
opened_with steps durable = record { base = left_open; steps = steps; receipts = record { durable = 0; moment = 9; steps = 0 } ∷ record { durable = durable; moment = 15; steps = length steps } ∷ [] }

-- an opening that failed at once
pub nothing_was_done : (config : Config) (old : Option Past) → Leaves Syncs Syncs old old → HasFailedFiles config (opened_with [] 0) old old
nothing_was_done config old same = inl (refl, same)

-- at least nine files are asked for; one was there, of number 1, and the disk tells nothing of them
abbrev nine_files : Config
nine_files = record { file_size = 1024; min_files = 9; pool_files = None; compact_min_files = 10; compact_percentage = 30; buffer_size = 64; buffer_timeout = 3; user_version = 0 }

untold_up_to : (most : ℕ) (history : List Placed) → file_of_last 1 history ≤ most → 1 < most → most ≤ 9 → HasFilesOf false nine_files history None None
untold_up_to most history stands above below = record {
  files = 1;
  before = 1;
  had = tt;
  most = most;
  limit = omega (arith, below);
  begun = above;
  worked = record { last = most; least = omega (arith, above); within = omega arith; near = omega arith; all = λ is. refl; works = record { keeps = refl; files = tt } };
  stands = stands;
  enough = λ is. absurd cc;
  tidy = λ is. tt;
  no_more = inr (omega (arith, above, below));
}

-- once the rollback is counted as durable, further files are asked for
pub filled_behind_the_flush : HasBegunFiles nine_files (opened_with (rolls_back ∷ []) 1) None None
filled_behind_the_flush = record {
  files = untold_up_to 5 (append_in 2 ∷ []) (omega arith) (omega arith) (omega arith);
  flushed = inr (inr (refl, refl));
}

-- where the flush failed none was asked for
pub none_asked_where_the_flush_failed : HasBegunFiles nine_files (opened_with (rolls_back ∷ []) 0) None None
unfolding untold_up_to
none_asked_where_the_flush_failed = record {
  files = untold_up_to 2 (append_in 2 ∷ []) (omega arith) (omega arith) (omega arith);
  flushed = inr (inl (omega arith));
}

-- and none before
pub none_filled_before_the_flush : (a b : Option Past) (h : HasBegunFiles nine_files (opened_with (rolls_back ∷ []) 0) a b) → h.files.most ≡ 3 → ⊥
none_filled_before_the_flush a b h is = by h.flushed where
  by : ((length {A = Step} (rolls_back ∷ []) < length (rolled_back left_open)) × NextNeedsFile nine_files (opened_with (rolls_back ∷ []) 0) × (h.files.most ≤ 2 + 1)) ⊎ (h.files.most ≤ 2) ⊎ ((length {A = Step} (rolls_back ∷ []) ≡ length (rolled_back left_open)) × (◌≡◌ {A = ℕ} 0 1)) → ⊥
  by (inl (few, needs, near)) = omega (arith, few)
  by (inr (inl low)) = omega (arith, low, is)
  by (inr (inr (all, counts))) = omega (arith, counts)

-- nor before the rollback is appended, which fits the file that was begun
pub none_filled_before_the_rollback : (a b : Option Past) (h : HasBegunFiles nine_files (opened_with [] 0) a b) → h.files.before ≡ 1 → h.files.most ≡ 3 → ⊥
none_filled_before_the_rollback a b h first is = by h.flushed where
  by : ((length {A = Step} [] < length (rolled_back left_open)) × NextNeedsFile nine_files (opened_with [] 0) × (h.files.most ≤ h.files.before + 1 + 1)) ⊎ (h.files.most ≤ h.files.before + 1) ⊎ ((length {A = Step} [] ≡ length (rolled_back left_open)) × (◌≡◌ {A = ℕ} 0 0)) → ⊥
  by (inl (few, needs, near)) = absurd cc
  by (inr (inl low)) = omega (arith, low, first, is)
  by (inr (inr (all, counts))) = let none : ◌≡◌ {A = ℕ} 0 1 = all in omega (arith, none)

-- a file is asked for where the next rollback doesn't fit behind the last append
pub one_for_the_next_rollback : (old new : Option Past) → FailedFlushed (record nine_files { file_size = 32 }) 2 2 (1 ∷ 5 ∷ []) old new (opened_with (rolls_back ∷ []) 0)
one_for_the_next_rollback old new = inl (omega arith, refl, refl)

-- and none of the least number where the last receipt doesn't count the one rollback
pub none_uncounted : (old new : Option Past) → FailedFlushed nine_files 2 3 (1 ∷ []) old new (opened_with (rolls_back ∷ []) 0) → ⊥
none_uncounted old new f = by f where
  by : ((length {A = Step} (rolls_back ∷ []) < length {A = ℕ} (1 ∷ [])) × NextNeedsFile nine_files (opened_with (rolls_back ∷ []) 0) × (◌≡◌ {A = ℕ} 3 2)) ⊎ ((◌≡◌ {A = ℕ} 3 2) × WorkedTo true 1024 2 2 3 old new) ⊎ ((length {A = Step} (rolls_back ∷ []) ≡ length {A = ℕ} (1 ∷ [])) × (◌≡◌ {A = ℕ} 0 1)) → ⊥
  by (inl (few, needs, at)) = omega (arith, at)
  by (inr (inl (at, to))) = omega (arith, at)
  by (inr (inr (all, counts))) = omega (arith, counts)

-- a file of another name is never lost
pub no_other_file_is_lost : (config : Config) (l : Lists) (p q : Past) (f : File) → finite.get (content p.start p.calls) (codes "notes.txt") ≡ Some f → finite.get (content q.start q.calls) (codes "notes.txt") ≡ None → HasFailedFiles config l (Some p) (Some q) → ⊥
no_other_file_is_lost config l p q f had none failed = by failed where
  lost : (o s : Option File) → o ≡ Some f → s ≡ None → IsSyncedFile o s → ⊥
  lost None s had none same = none-some f had
  lost (Some o) None had none same = same
  lost (Some o) (Some s) had none same = none-some s (sym none)

  now : (r : Past) → Some q ≡ Some r → finite.get (content r.start r.calls) (codes "notes.txt") ≡ None
  now r e = subst (λ (x : Past). finite.get (content x.start x.calls) (codes "notes.txt") ≡ None) (same_Some q r e) none

  by : HasFailedFiles config l (Some p) (Some q) → ⊥
  by (inl (none, went)) = lost (finite.get (content p.start p.calls) (codes "notes.txt")) (finite.get (content went.0.start went.0.calls) (codes "notes.txt")) had (now went.0 went.1) (went.2.told (codes "notes.txt"))
  by (inr begun) =
      let h = begun.files in
      let went = h.worked.works.keeps in
      lost (finite.get (content p.start p.calls) (codes "notes.txt")) (finite.get (content went.0.start went.0.calls) (codes "notes.txt")) had (now went.0 went.1) (went.2.told (codes "notes.txt") (notes_stay (Some p) h.before h.most h.limit))

-- where all was done no file stays that was being prepared
pub no_leftover_stays : (config : Config) (history : List Placed) (a : Option Past) (q : Past) (f : File) → finite.get (content q.start q.calls) (codes "activemq-data-9.amq.tmp") ≡ Some f → HasFilesOf true config history a (Some q) → ⊥
no_leftover_stays config history a q f there h = none-some f (sym (h.tidy refl (codes "activemq-data-9.amq.tmp") refl) ∙ there)

-- a journal that has appended nothing so far
pub so_far_untold : (config : Config) → config.min_files ≤ 1 → HasFilesSoFar true config 1 16 1 (record { base = []; steps = []; receipts = [] }) None None
so_far_untold config few = record {
  files = record {
    files = 0;
    before = 0;
    had = tt;
    most = 1;
    limit = omega arith;
    begun = omega arith;
    worked = record { last = 1; least = omega arith; within = omega arith; near = omega arith; all = λ is. refl; works = record { keeps = refl; files = tt } };
    stands = omega arith;
    enough = λ is. inl (omega (arith, few));
    tidy = λ is. tt;
    no_more = inl (omega arith);
  };
  reached = omega arith;
  next = omega arith;
  all = λ is. refl;
  begun = omega arith;
  stands = (tt, (refl, refl));
}

-- the file in use is never one behind the greatest number
pub none_in_use_is_behind : (config : Config) (a b : Option Past) → HasFilesSoFar true config 2 16 1 (record { base = []; steps = []; receipts = [] }) a b → ⊥
none_in_use_is_behind config a b h = omega (arith, h.files.begun, h.all refl, h.stands.1.0)
