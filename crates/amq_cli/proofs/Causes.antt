-- Why a replay ended, behind lines that were answered.
use Rattle.std.proofs.Common.{◌≡◌, ◌⊎◌, inl, inr, Some, Result, Ok, Err, sym, subst, ◌∙◌, arith}
use Rattle.amq_model.specs.declared.refusal.Refusal.{Refusal}
use Rattle.amq_model.specs.declared.refusal.Refusal.TheVariants as r
use Rattle.amq_model.specs.declared.refusal.DiskCall.{DiskCall}
use Rattle.amq_io.specs.Cause.{Rose, Faults, NoneFailed}
use Rattle.amq_engine.specs.Engine.{HasCause}
use Rattle.amq_cli.specs.Counts.{HasDiskCount, HasLoadCount}
use Rattle.amq_cli.specs.Statuses.{status_of}
use Rattle.amq_cli.specs.declared.status.Status.{Status}
use Rattle.amq_cli.specs.declared.status.Status.TheVariants as s

pub none_further : (a b c : Faults) → NoneFailed a b → NoneFailed b c → NoneFailed a c
none_further a b c one two = (omega (arith, one.0, two.0), two.1 ∙ one.1)

-- the cause of a line, behind lines in which no call failed
pub cause_behind : (S : Type 0) {T : Type 0} (refusal : Refusal) (result : Result T Refusal) (a b c : Faults) → NoneFailed a b → result ≡ Err refusal → HasCause {T = S} (Err refusal) b c → HasCause result a c
cause_behind S {T = T} refusal result a b c before is cause = subst (λ (x : Result T Refusal). HasCause x a c) (sym is) (by refusal cause) where
  by : (refusal : Refusal) → HasCause {T = S} (Err refusal) b c → HasCause {T = T} (Err refusal) a c
  by (r.Disk call) cause = (omega (arith, before.0, cause.0), cause.1)
  by r.NoMemory cause = none_further a b c before cause
  by (r.Closed fault) cause = none_further a b c before cause
  by (r.TooLarge len limit) cause = none_further a b c before cause
  by (r.NoTx tx) cause = none_further a b c before cause
  by (r.TxPrepared tx) cause = none_further a b c before cause
  by (r.Held id tx) cause = none_further a b c before cause
  by (r.AlreadyLive id) cause = none_further a b c before cause
  by (r.NoRecord id) cause = none_further a b c before cause
  by (r.TxNumbersSpent highest) cause = none_further a b c before cause
  by (r.Compacting phase) cause = none_further a b c before cause
  by (r.FileIdsSpent highest) cause = none_further a b c before cause

-- a refusal that isn't for a disk call comes where none has failed
pub none_refused : (S : Type 0) (refusal : Refusal) (a b : Faults) → status_of refusal ≡ s.NoMemory → HasCause {T = S} (Err refusal) a b → NoneFailed a b
none_refused S (r.Disk call) a b is cause = absurd (let e : s.DiskFault ≡ s.NoMemory = is in cc)
none_refused S r.NoMemory a b is cause = cause
none_refused S (r.Closed fault) a b is cause = cause
none_refused S (r.TooLarge len limit) a b is cause = cause
none_refused S (r.NoTx tx) a b is cause = cause
none_refused S (r.TxPrepared tx) a b is cause = cause
none_refused S (r.Held id tx) a b is cause = cause
none_refused S (r.AlreadyLive id) a b is cause = cause
none_refused S (r.NoRecord id) a b is cause = cause
none_refused S (r.TxNumbersSpent highest) a b is cause = cause
none_refused S (r.Compacting phase) a b is cause = cause
none_refused S (r.FileIdsSpent highest) a b is cause = cause

-- no call failed in a closing, or one did
pub closing_cause : {S : Type 0} (closed : Result S Refusal) (a b : Faults) → HasCause closed a b → NoneFailed a b ⊎ (Rose a.0 b.0 × ((call : DiskCall) × (b.1 ≡ Some call)))
closing_cause (Ok x) a b none = inl none
closing_cause (Err (r.Disk call)) a b cause = inr (cause.0, (call, cause.1))
closing_cause (Err r.NoMemory) a b none = inl none
closing_cause (Err (r.Closed fault)) a b none = inl none
closing_cause (Err (r.TooLarge len limit)) a b none = inl none
closing_cause (Err (r.NoTx tx)) a b none = inl none
closing_cause (Err (r.TxPrepared tx)) a b none = inl none
closing_cause (Err (r.Held id tx)) a b none = inl none
closing_cause (Err (r.AlreadyLive id)) a b none = inl none
closing_cause (Err (r.NoRecord id)) a b none = inl none
closing_cause (Err (r.TxNumbersSpent highest)) a b none = inl none
closing_cause (Err (r.Compacting phase)) a b none = inl none
closing_cause (Err (r.FileIdsSpent highest)) a b none = inl none

-- ---- which counts are as they were

-- behind a script and a closing in which no call failed
pub count_behind : (status : Status) (a b c d : Faults) → NoneFailed a b → NoneFailed b c → HasLoadCount status c d → HasDiskCount status a d
count_behind s.DiskFault a b c d one two three = tt
count_behind s.NoMemory a b c d one two three = tt
count_behind s.Ok a b c d one two three = none_further a b d one (none_further b c d two three)
count_behind s.SourceFault a b c d one two three = none_further a b d one (none_further b c d two three)
count_behind s.SinkFault a b c d one two three = none_further a b d one (none_further b c d two three)
count_behind (s.Directory fault) a b c d one two three = none_further a b d one (none_further b c d two three)
count_behind (s.FileIdsSpent highest) a b c d one two three = none_further a b d one (none_further b c d two three)
count_behind (s.InputTooLong limit) a b c d one two three = none_further a b d one (none_further b c d two three)
count_behind (s.NotBuilt part) a b c d one two three = none_further a b d one (none_further b c d two three)

-- behind a refusal
pub count_refused : (status : Status) (a b : Faults) → (status ≡ s.DiskFault) ⊎ (status ≡ s.NoMemory) → HasDiskCount status a b
count_refused status a b (inl is) = subst (λ (x : Status). HasDiskCount x a b) (sym is) tt
count_refused status a b (inr is) = subst (λ (x : Status). HasDiskCount x a b) (sym is) tt

-- where none failed
pub count_none : (status : Status) (a b : Faults) → NoneFailed a b → HasDiskCount status a b
count_none s.DiskFault a b none = tt
count_none s.NoMemory a b none = tt
count_none s.Ok a b none = none
count_none s.SourceFault a b none = none
count_none s.SinkFault a b none = none
count_none (s.Directory fault) a b none = none
count_none (s.FileIdsSpent highest) a b none = none
count_none (s.InputTooLong limit) a b none = none
count_none (s.NotBuilt part) a b none = none
