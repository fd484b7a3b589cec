-- What the sink has taken of a run, however it ended.
use Rattle.std.proofs.Common.{◌≡◌, ◌⊎◌, inl, inr, ℕ, false, zero, suc, List, [], ◌++◌, length, take, Option, None, Some, refl, sym, ap, subst, ◌∙◌, arith}
use Rattle.std.proofs.lemmas.List.{append-nil}
use Rattle.amq_model.specs.declared.script.Line.{Line}
use Rattle.amq_model.specs.declared.history.Step.{Step}
use Rattle.amq_model.specs.declared.state.LoadState.{LoadState}
use Rattle.amq_model.specs.declared.directory.OpenFault.{OpenFault}
use Rattle.amq_model.specs.declared.directory.OpenFault.TheVariants as o
use Rattle.amq_model.specs.declared.config.Config.{Config}
use Rattle.amq_model.specs.Calls.{Past}
use Rattle.amq_engine.specs.Lists.{Lists}
use Rattle.amq_cli.specs.Statuses.{status_of_opening}
use Rattle.amq_io.specs.Cause.{Faults, NoneFailed}
use Rattle.amq_engine.specs.declared.chronicle.Receipted.{Receipted}
use Rattle.amq_cli.specs.declared.status.Status.{Status}
use Rattle.amq_cli.specs.declared.status.Status.TheVariants as s
use Rattle.amq_cli.specs.declared.status.Unbuilt.TheVariants as u
use Rattle.amq_cli.specs.Output.{IsPartWritten}
use Rattle.amq_cli.specs.Script.{HasReadCause}
use Rattle.amq_cli.specs.Replay.{own}
use Rattle.amq_cli.specs.declared.words.Task.{Task}
use Rattle.amq_cli.specs.Offline.{HasText, IsTextOf, IsOutput, IsEnding, IsGiven, IsRefused, IsWritten, is_past_script}
use Rattle.amq_cli.specs.Counts.{HasDiskCount}
use Rattle.amq_cli.proofs.Causes.{count_none}
use Rattle.amq_cli.proofs.Running.{unopened_text}
use Rattle.amq_cli.proofs.Reporting.{nothing_part}

nothing_written : (text : List ℕ) (taken : Option (List ℕ)) → text ≡ [] → IsWritten text taken taken
nothing_written text None none = refl
nothing_written text (Some t) none = ap Some (sym (append-nil t)) ∙ ap (λ (x : List ℕ). Some (t ++ x)) (sym none)

-- before there is a line
pub no_output : (task : Option Task) (timeout : ℕ) (status : Status) (Loaded : LoadState → Type 0) (Refused : OpenFault → Type 0) (Opened : Type 0) (left_old left_new : Option (List ℕ)) (was now : Faults) (sink : ℕ) (taken : Option (List ℕ)) (steps : List Step) (receipts : List Receipted) → steps ≡ [] → NoneFailed was now → is_past_script status ≡ false
    → IsEnding status Loaded Refused Opened was now [] [] [] → IsOutput task timeout status Loaded Refused Opened left_old left_new was now sink sink taken taken steps receipts
no_output task timeout status Loaded Refused Opened left_old left_new was now sink taken steps receipts none sound before ends = record {
  lines = [];
  written = record { outcome = status; count = count_none status was now sound; text = []; has = unopened_text timeout status Loaded Refused Opened [] was now steps receipts [] (ap own none) refl ends; part = nothing_part [] taken; given = inl (refl, inl (nothing_written [] taken refl)) };
  said = inl (before, refl, refl);
}

-- a script that wasn't read
pub reading_ends : (status : Status) (Loaded : LoadState → Type 0) (Refused : OpenFault → Type 0) (Opened : Type 0) (left : Option (List ℕ)) (old new : ℕ) (was now : Faults) → NoneFailed was now → HasReadCause status left old new → (is_past_script status ≡ false) × IsEnding status Loaded Refused Opened was now [] [] []
reading_ends s.SourceFault Loaded Refused Opened left old new was now none cause = (refl, (refl, refl))
reading_ends s.NoMemory Loaded Refused Opened left old new was now none cause = (refl, (refl, inl none))
reading_ends (s.InputTooLong limit) Loaded Refused Opened left old new was now none cause = (refl, (refl, refl))
reading_ends (s.NotBuilt u.Script) Loaded Refused Opened left old new was now none cause = (refl, (refl, refl))
reading_ends (s.NotBuilt u.Words) Loaded Refused Opened left old new was now none cause = absurd cause
reading_ends (s.NotBuilt u.Directory) Loaded Refused Opened left old new was now none cause = absurd cause
reading_ends (s.Directory fault) Loaded Refused Opened left old new was now none cause = absurd cause
reading_ends (s.FileIdsSpent highest) Loaded Refused Opened left old new was now none cause = absurd cause
reading_ends s.Ok Loaded Refused Opened left old new was now none cause = absurd cause
reading_ends s.SinkFault Loaded Refused Opened left old new was now none cause = absurd cause
reading_ends s.DiskFault Loaded Refused Opened left old new was now none cause = absurd cause

-- words that have no meaning
pub asking_ends : (status : Status) (Loaded : LoadState → Type 0) (Refused : OpenFault → Type 0) (Opened : Type 0) (was now : Faults) → status ≡ s.NotBuilt u.Words → (is_past_script status ≡ false) × IsEnding status Loaded Refused Opened was now [] [] []
asking_ends status Loaded Refused Opened was now is = subst (λ (x : Status). (is_past_script x ≡ false) × IsEnding x Loaded Refused Opened was now [] [] []) (sym is) (refl, (refl, refl))

-- there was no memory for the line
pub short_ends : (status : Status) (Loaded : LoadState → Type 0) (Refused : OpenFault → Type 0) (Opened : Type 0) (was now : Faults) → NoneFailed was now → status ≡ s.NoMemory → (is_past_script status ≡ false) × IsEnding status Loaded Refused Opened was now [] [] []
short_ends status Loaded Refused Opened was now none is = subst (λ (x : Status). (is_past_script x ≡ false) × IsEnding x Loaded Refused Opened was now [] [] []) (sym is) (refl, (refl, inl none))

-- a run of which nothing is written
pub unwritten_text : (timeout : ℕ) (status : Status) (Loaded : LoadState → Type 0) (Refused : OpenFault → Type 0) (Opened : Type 0) (lines : List Line) (was now : Faults) (sink : ℕ) (taken : Option (List ℕ)) (steps : List Step) (receipts : List Receipted) (text : List ℕ) → text ≡ [] → HasDiskCount status was now
    → HasText timeout status Loaded Refused Opened lines was now steps receipts text → IsTextOf timeout status Loaded Refused Opened lines was now sink sink taken taken steps receipts
unwritten_text timeout status Loaded Refused Opened lines was now sink taken steps receipts text none count has = record { outcome = status; count = count; text = text; has = has; part = nothing_part text taken; given = inl (refl, inl (nothing_written text taken none)) }

-- an opening that was refused isn't answered Ok
opening_not_ok : (fault : OpenFault) → status_of_opening fault ≡ s.Ok → ⊥
opening_not_ok (o.Disk call) is = let e : s.DiskFault ≡ s.Ok = is in cc
opening_not_ok o.NoMemory is = let e : s.NoMemory ≡ s.Ok = is in cc
opening_not_ok (o.Directory fault) is = let e : s.Directory fault ≡ s.Ok = is in cc
opening_not_ok (o.FileIdsSpent highest) is = let e : s.FileIdsSpent highest ≡ s.Ok = is in cc
opening_not_ok o.NotBuilt is = let e : s.NotBuilt u.Directory ≡ s.Ok = is in cc

take-nil : (n : ℕ) → ◌≡◌ {A = List ℕ} (take n []) []
take-nil zero = refl
take-nil (suc n) = refl

-- what a sink took of no text
silent_part : (text : List ℕ) (taken taken' : Option (List ℕ)) → text ≡ [] → IsPartWritten text taken taken' → taken' ≡ taken
silent_part text None taken' empty part = part.is
silent_part text (Some t) taken' empty part = part.is ∙ ap Some (ap (λ (x : List ℕ). t ++ take part.count x) empty ∙ ap (λ (x : List ℕ). t ++ x) (take-nil part.count) ∙ append-nil t)

module _ (config : Config) (l : Lists) (old new : Option Past) (was now : Faults) (status outcome : Status) (text : List ℕ) (sink sink' : ℕ) (taken taken' : Option (List ℕ)) where
  -- the text of an opening that was refused is none, and its status stays
  refused_given : IsGiven status outcome text sink sink' taken taken' → text ≡ [] → IsRefused outcome config l old new was now → IsRefused status config l old new was now
  refused_given (inl same) empty refused = (refused.0, same.0 ∙ refused.1, refused.2)
  refused_given (inr (inl failed)) empty refused = absurd (opening_not_ok refused.0 (sym refused.1 ∙ failed.1))
  refused_given (inr (inr broken)) empty refused = absurd (omega (arith, broken.2.within, ap length empty))

  -- what is so unless the opening was refused, behind the sink
  pub given_or_refused : {P : Type 0} → IsGiven status outcome text sink sink' taken taken' → IsPartWritten text taken taken' → P ⊎ (IsRefused outcome config l old new was now × (text ≡ [])) → P ⊎ (IsRefused status config l old new was now × (taken' ≡ taken))
  given_or_refused given part (inl so) = inl so
  given_or_refused given part (inr refused) = inr (refused_given given refused.1 refused.0, silent_part text taken taken' refused.1 part)
