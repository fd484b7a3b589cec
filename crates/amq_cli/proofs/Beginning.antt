-- The first receipt of a run stays, and up to it the disk was only asked and synced.
use Rattle.std.proofs.Common.{◌≡◌, inl, ℕ, Bool, List, [], Option, Some, sym, ap, subst}
use Rattle.std.specs.Prelude.{Err}
use Rattle.amq_model.specs.Files.{Files}
use Rattle.amq_model.specs.Calls.{Event, Past}
use Rattle.amq_model.specs.LoadCalls.{AreFirstCalls, Makes, load_calls}
use Rattle.amq_model.proofs.Making.{all_are_first, made_weaker}
use Rattle.amq_loader.specs.declared.faults.LoadFault.TheVariants as f
use Rattle.amq_loader.proofs.Asking.{load_begins}
use Rattle.amq_model.specs.Leaves.{Syncs}
use Rattle.amq_model.proofs.Moments.{still}
use Rattle.amq_model.proofs.Settling.{syncs_itself}
use Rattle.amq_engine.specs.declared.chronicle.Receipted.{Receipted}
use Rattle.amq_engine.specs.Lists.{Lists}
use Rattle.amq_engine.specs.Receipts.{GoesOn, AreFirstOpeningCalls, BeginsBySyncs, IsLastCount}
use Rattle.amq_cli.specs.declared.status.Status.{Status}
use Rattle.amq_cli.specs.declared.status.Status.TheVariants as s
use Rattle.amq_cli.specs.declared.status.Unbuilt.TheVariants as u
use Rattle.amq_cli.specs.Offline.{HasPrintCalls}
use Rattle.amq_engine.specs.Engine.{receipted}
use Rattle.amq_engine.proofs.OpeningCalls.{no_calls}
use Rattle.amq_engine.proofs.Beginning.{starts_receipted, begins_through}
use Rattle.amq_cli.specs.Playing.{KeepsFirst}
use Rattle.amq_cli.proofs.Recovering.{last_some}

-- ---- the first receipt

-- nothing was noted
pub first_still : (l : Lists) → KeepsFirst l l
first_still l r starts = starts

pub first_through : (a b c : Lists) → KeepsFirst a b → KeepsFirst b c → KeepsFirst a c
first_through a b c one two r starts = two r (one r starts)

-- a further receipt, or none
pub first_receipted : (b : Bool) (count moment : ℕ) (old new : Lists) → Some new ≡ receipted b count moment (Some old) → KeepsFirst old new
first_receipted b count moment old new is r starts = starts_receipted r b count moment (Some old) (Some new) is starts

-- ---- the calls up to it

-- no call was made, and nothing noted
pub begins_still : (past : Option Past) → BeginsBySyncs [] past past
begins_still past = (still Syncs Syncs past syncs_itself, no_calls past)

-- there is no receipt
pub nothing_begins : (a b : Option Past) (rs : List Receipted) → rs ≡ [] → BeginsBySyncs [] a b → BeginsBySyncs rs a b
nothing_begins a b rs none begins = subst (λ (rs : List Receipted). BeginsBySyncs rs a b) (sym none) begins

-- a print makes the calls of a load, or the first of them
pub print_begins : (status : Status) (a b : Option Past) → Makes (HasPrintCalls status) a b → Makes AreFirstOpeningCalls a b
print_begins status a b made = made_weaker (HasPrintCalls status) AreFirstOpeningCalls a b (λ before events calls. inl (by status before events calls)) made where
  by : (status : Status) (before : Files) (events : List Event) → HasPrintCalls status before events → AreFirstCalls (load_calls before) events
  by s.Ok before events calls = all_are_first (load_calls before) events calls
  by s.SinkFault before events calls = all_are_first (load_calls before) events calls
  by (s.Directory fault) before events calls = load_begins {T = Unit {0}} (Err (f.Directory fault)) before events calls
  by (s.NotBuilt u.Directory) before events calls = load_begins {T = Unit {0}} (Err f.NotBuilt) before events calls
  by (s.NotBuilt u.Words) before events calls = absurd calls
  by (s.NotBuilt u.Script) before events calls = absurd calls
  by s.DiskFault before events calls = calls
  by s.NoMemory before events calls = calls
  by s.SourceFault before events calls = absurd calls
  by (s.FileIdsSpent highest) before events calls = absurd calls
  by (s.InputTooLong limit) before events calls = absurd calls

-- behind an opening that answered Ok
pub begins_run : (count : ℕ) (old new : Lists) (a b d : Option Past) → IsLastCount count old.receipts → BeginsBySyncs old.receipts a b → new.base ≡ old.base → KeepsFirst old new → GoesOn b d → BeginsBySyncs new.receipts a d
begins_run count old new a b d last begins same first goes = begins_through (Some old) (Some new) a b d (last_some count old.receipts last) begins (ap Some same) first goes
