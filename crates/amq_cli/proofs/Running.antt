-- The text of a run, however it ended.
use Rattle.std.proofs.Common.{◌≡◌, ◌⊎◌, inl, inr, ℕ, ◌+◌, ◌<◌, ◌≤◌, Bool, true, List, [], ◌∷◌, ◌++◌, length, Option, None, Some, refl, sym, ap, subst, ◌∙◌, arith}
use Rattle.std.specs.Prelude.{Err, IsSome, map, not, ◌==◌, if◌then◌else◌}
use Rattle.std.proofs.lemmas.List.{append-nil}
use Rattle.amq_model.specs.declared.script.Line.{Line}
use Rattle.amq_model.specs.declared.history.Step.{Step}
use Rattle.amq_model.specs.declared.refusal.DiskCall.{DiskCall}
use Rattle.amq_model.specs.declared.refusal.Refusal.{Refusal}
use Rattle.amq_model.specs.declared.refusal.Refusal.TheVariants as r
use Rattle.amq_model.specs.declared.config.Config.{Config}
use Rattle.amq_model.specs.declared.record.Placed.{Placed}
use Rattle.amq_model.specs.declared.state.LoadState.{LoadState}
use Rattle.amq_model.specs.Answers.{history_of}
use Rattle.amq_model.specs.Calls.{Past}
use Rattle.amq_model.specs.Legal.{OpensPartly, rolled_back, end_of}
use Rattle.amq_model.specs.Texts.{refusal_line, report_of}
use Rattle.amq_io.specs.Cause.{Rose, Faults, NoneFailed}
use Rattle.amq_engine.specs.declared.chronicle.Receipted.{Receipted}
use Rattle.amq_engine.specs.Lists.{Lists}
use Rattle.amq_model.specs.declared.directory.OpenFault.{OpenFault}
use Rattle.amq_model.specs.declared.directory.OpenFault.TheVariants as o
use Rattle.amq_engine.specs.declared.chronicle.Kept.{Kept}
use Rattle.amq_engine.specs.Engine.{EngineOf, HasCause, receipted}
use Rattle.amq_engine.specs.Opening.{AreRolledBack, HasOpenCause}
use Rattle.amq_engine.specs.Receipts.{IsLastCount}
use Rattle.amq_cli.specs.declared.status.Status.{Status}
use Rattle.amq_cli.specs.declared.status.Status.TheVariants as s
use Rattle.amq_cli.specs.declared.status.Unbuilt.TheVariants as u
use Rattle.amq_cli.specs.Statuses.{status_of, status_of_opening}
use Rattle.amq_cli.specs.Counts.{HasLoadCount}
use Rattle.amq_cli.proofs.Causes.{none_further}
use Rattle.amq_cli.specs.Playing.{HasPlayed, IsOwing}
use Rattle.amq_cli.specs.Offline.{lists_of, HasText, HasRunOn, IsEnding, IsDiskLine, IsLoadedState, AreAll, HasDiskCause, HasRunCause, IsOfRefusedOpening}
use Rattle.amq_cli.specs.Replay.{Answered, reply_lines, AreAnswered, AreNumbered, HasEnded, HasReplayed, IsLast, IsClosedBy, own, rolled}
use Rattle.amq_cli.proofs.Answering.{no_step, last_receipted}
use Rattle.std.specs.List.{list_any}
use Rattle.amq_engine.specs.Owed.{waiting_behind, IsOwedAtOpening, AreOwedAtOpening}
use Rattle.amq_engine.proofs.Owing.{begin_weaker}
use Rattle.amq_cli.specs.Owed.{IsOwedSoFar, IsOwed, HasOwed}
use Rattle.amq_cli.proofs.Owing.{waiting_none, counts_opening, begun_counts}
use Rattle.amq_cli.proofs.Ending.{answered_more}

module _ (timeout : ℕ) (lines : List Line) (old new : Lists) (b : Bool) (durable appended moment : ℕ) (more : b ≡ true → durable < appended) (closed : Some new ≡ receipted b appended moment (Some old)) where
  -- the same behind the flush at closing
  pub replayed_closed : (text : List ℕ) → HasReplayed timeout lines old.steps old.receipts text → HasReplayed timeout lines new.steps new.receipts text
  replayed_closed text replayed = let n = no_step b durable appended moment old new more closed in record { answered = replayed.answered; are = answered_more timeout lines durable appended old new replayed.answered n replayed.are; all = replayed.all; is = replayed.is }

  pub ended_closed : (text ending : List ℕ) → HasEnded timeout lines old.steps old.receipts text ending → HasEnded timeout lines new.steps new.receipts text ending
  ended_closed text ending ended = let n = no_step b durable appended moment old new more closed in record { answered = ended.answered; are = answered_more timeout lines durable appended old new ended.answered n ended.are; is = ended.is; early = ended.early }

-- what an opening that wasn't refused says of one that was
abbrev pub NotRefused : OpenFault → Type 0
NotRefused fault = ⊥

-- Nothing stands behind the lines of all.
silent_ends : (status : Status) (Loaded : LoadState → Type 0) (was now : Faults) (lines : List Line) (answered : List Answered) → AreAll lines answered → (status ≡ s.DiskFault) ⊎ ((status ≡ s.NoMemory) × NoneFailed was now) → IsEnding status Loaded NotRefused (Unit {0}) was now lines answered []
silent_ends status Loaded was now lines answered all (inl is) = subst (λ (x : Status). IsEnding x Loaded NotRefused (Unit {0}) was now lines answered []) (sym is) (inr (tt, inl (refl, all)))
silent_ends status Loaded was now lines answered all (inr is) = subst (λ (x : Status). IsEnding x Loaded NotRefused (Unit {0}) was now lines answered []) (sym is.0) (refl, inl is.1)

pub refusal_status : (refusal : Refusal) → (status_of refusal ≡ s.DiskFault) ⊎ (status_of refusal ≡ s.NoMemory)
refusal_status (r.Closed fault) = inr refl
refusal_status (r.TooLarge len limit) = inr refl
refusal_status (r.NoTx tx) = inr refl
refusal_status (r.TxPrepared tx) = inr refl
refusal_status (r.Held id tx) = inr refl
refusal_status (r.AlreadyLive id) = inr refl
refusal_status (r.NoRecord id) = inr refl
refusal_status (r.TxNumbersSpent highest) = inr refl
refusal_status (r.Compacting phase) = inr refl
refusal_status (r.FileIdsSpent highest) = inr refl
refusal_status (r.Disk call) = inl refl
refusal_status r.NoMemory = inr refl

-- a disk call that a refusal names has failed, and is the one that failed last; behind want of memory one may have failed besides
abbrev pub IsNamed : Refusal → Faults → Faults → Type 0
IsNamed (r.Disk call) was now = Rose was.0 now.0 × (now.1 ≡ Some call)
IsNamed r.NoMemory was now = NoneFailed was now ⊎ (Rose was.0 now.0 × ((call : DiskCall) × (now.1 ≡ Some call)))
IsNamed _ was now = Unit {0}

-- a replay that was refused
pub refused_text : (timeout : ℕ) (status : Status) (Loaded : LoadState → Type 0) (lines : List Line) (was now : Faults) (steps : List Step) (receipts : List Receipted) (text : List ℕ) (refusal : Refusal) → IsLast refusal → status ≡ status_of refusal → IsNamed refusal was now
    → HasEnded timeout lines steps receipts text (refusal_line refusal) → HasText timeout status Loaded NotRefused (Unit {0}) lines was now steps receipts text
refused_text timeout status Loaded lines was now steps receipts text (r.Disk call) last is named ended = subst (λ (x : Status). HasText timeout x Loaded NotRefused (Unit {0}) lines was now steps receipts text) (sym is) (record {
  answered = ended.answered;
  are = ended.are;
  ending = refusal_line (r.Disk call);
  ends = inr (tt, inr (ended.early, named.0, (call, named.1, refl)));
  is = ended.is;
})
refused_text timeout status Loaded lines was now steps receipts text r.NoMemory last is named ended = subst (λ (x : Status). HasText timeout x Loaded NotRefused (Unit {0}) lines was now steps receipts text) (sym is) (record {
  answered = ended.answered;
  are = ended.are;
  ending = [];
  ends = (refl, by named);
  is = ended.is;
}) where
  by : NoneFailed was now ⊎ (Rose was.0 now.0 × ((call : DiskCall) × (now.1 ≡ Some call))) → NoneFailed was now ⊎ (Unit {0} × ((line : List ℕ) × IsDiskLine was now lines ended.answered line))
  by (inl none) = inl none
  by (inr failed) = inr (tt, (refusal_line (r.Disk failed.1.0), (ended.early, failed.0, (failed.1.0, failed.1.1, refl))))
refused_text timeout status Loaded lines was now steps receipts text (r.Closed fault) last is named ended = absurd last
refused_text timeout status Loaded lines was now steps receipts text (r.TooLarge len limit) last is named ended = absurd last
refused_text timeout status Loaded lines was now steps receipts text (r.NoTx tx) last is named ended = absurd last
refused_text timeout status Loaded lines was now steps receipts text (r.TxPrepared tx) last is named ended = absurd last
refused_text timeout status Loaded lines was now steps receipts text (r.Held id tx) last is named ended = absurd last
refused_text timeout status Loaded lines was now steps receipts text (r.AlreadyLive id) last is named ended = absurd last
refused_text timeout status Loaded lines was now steps receipts text (r.NoRecord id) last is named ended = absurd last
refused_text timeout status Loaded lines was now steps receipts text (r.TxNumbersSpent highest) last is named ended = absurd last
refused_text timeout status Loaded lines was now steps receipts text (r.Compacting phase) last is named ended = absurd last
refused_text timeout status Loaded lines was now steps receipts text (r.FileIdsSpent highest) last is named ended = absurd last

-- all lines were answered, and nothing stands behind theirs
pub unreported_text : (timeout : ℕ) (status : Status) (Loaded : LoadState → Type 0) (lines : List Line) (was now : Faults) (steps : List Step) (receipts : List Receipted) (before after : List ℕ) → HasReplayed timeout lines steps receipts before → after ≡ before → (status ≡ s.DiskFault) ⊎ ((status ≡ s.NoMemory) × NoneFailed was now)
    → HasText timeout status Loaded NotRefused (Unit {0}) lines was now steps receipts after
unreported_text timeout status Loaded lines was now steps receipts before after replayed same which = record {
  answered = replayed.answered;
  are = replayed.are;
  ending = [];
  ends = silent_ends status Loaded was now lines replayed.answered replayed.all which;
  is = same ∙ replayed.is ∙ sym (append-nil (reply_lines replayed.answered));
}

-- the text of a run whose journal was closed
pub reported_text : (config : Config) (status : Status) (lines : List Line) (first last was now : Faults) (base : List Placed) (steps : List Step) (receipts : List Receipted) (before after : List ℕ) (past : Option Past) → HasReplayed config.buffer_timeout lines steps receipts before → (status ≡ s.Ok → HasRunOn config lines after past base steps receipts)
    → (status ≡ s.Ok) ⊎ (after ≡ before) → HasDiskCause status was now → NoneFailed first was → HasLoadCount status was last → HasText config.buffer_timeout status (IsLoadedState past config.user_version base steps) NotRefused (Unit {0}) lines first last steps receipts after
reported_text config s.Ok lines first last was now base steps receipts before after past replayed ran unreported cause none count =
    let r = ran refl in
    record {
      answered = r.replayed.answered;
      are = r.replayed.are;
      ending = report_of r.state;
      ends = (tt, (r.replayed.all, (r.state, r.loaded, refl)));
      is = r.reported ∙ ap (λ t. t ++ report_of r.state) r.replayed.is;
    }
reported_text config s.DiskFault lines first last was now base steps receipts before after past replayed ran (inl ok) cause none count = absurd (let e : s.DiskFault ≡ s.Ok = ok in cc)
reported_text config s.DiskFault lines first last was now base steps receipts before after past replayed ran (inr same) cause none count = unreported_text config.buffer_timeout s.DiskFault (IsLoadedState past config.user_version base steps) lines first last steps receipts before after replayed same (inl refl)
reported_text config s.NoMemory lines first last was now base steps receipts before after past replayed ran (inl ok) cause none count = absurd (let e : s.NoMemory ≡ s.Ok = ok in cc)
reported_text config s.NoMemory lines first last was now base steps receipts before after past replayed ran (inr same) cause none count = unreported_text config.buffer_timeout s.NoMemory (IsLoadedState past config.user_version base steps) lines first last steps receipts before after replayed same (inr (refl, none_further first was last none count))
reported_text config s.SourceFault lines first last was now base steps receipts before after past replayed ran unreported cause none count = absurd cause
reported_text config s.SinkFault lines first last was now base steps receipts before after past replayed ran unreported cause none count = absurd cause
reported_text config (s.InputTooLong limit) lines first last was now base steps receipts before after past replayed ran unreported cause none count = absurd cause
reported_text config (s.Directory fault) lines first last was now base steps receipts before after past replayed ran unreported cause none count = absurd cause
reported_text config (s.FileIdsSpent highest) lines first last was now base steps receipts before after past replayed ran unreported cause none count = absurd cause
reported_text config (s.NotBuilt part) lines first last was now base steps receipts before after past replayed ran unreported cause none count = absurd cause

-- a refusal for a disk call names the one that failed last, also behind a closing that makes no call
pub named_refusal : (T : Type 0) (refusal : Refusal) (was now later : Faults) (closed : Option DiskCall) → HasCause {T = T} (Err refusal) was now → IsClosedBy refusal closed → (IsSome closed → later ≡ now) → NoneFailed now later ⊎ (Rose now.0 later.0 × ((call : DiskCall) × (later.1 ≡ Some call))) → IsNamed refusal was later
named_refusal T (r.Disk call) was now later closed cause by idle further = subst (IsNamed (r.Disk call) was) (sym (idle (subst IsSome (sym by) refl))) cause
named_refusal T (r.Closed fault) was now later closed cause by idle further = tt
named_refusal T (r.TooLarge len limit) was now later closed cause by idle further = tt
named_refusal T (r.NoTx tx) was now later closed cause by idle further = tt
named_refusal T (r.TxPrepared tx) was now later closed cause by idle further = tt
named_refusal T (r.Held id tx) was now later closed cause by idle further = tt
named_refusal T (r.AlreadyLive id) was now later closed cause by idle further = tt
named_refusal T (r.NoRecord id) was now later closed cause by idle further = tt
named_refusal T (r.TxNumbersSpent highest) was now later closed cause by idle further = tt
named_refusal T (r.Compacting phase) was now later closed cause by idle further = tt
named_refusal T (r.FileIdsSpent highest) was now later closed cause by idle further = tt
named_refusal T r.NoMemory was now later closed cause by idle further = either further where
  either : NoneFailed now later ⊎ (Rose now.0 later.0 × ((call : DiskCall) × (later.1 ≡ Some call))) → NoneFailed was later ⊎ (Rose was.0 later.0 × ((call : DiskCall) × (later.1 ≡ Some call)))
  either (inl none) = inl (none_further was now later cause none)
  either (inr failed) = inr (omega (arith, cause.0, failed.0), failed.1)

-- ---- since an earlier moment

earlier_rose : (was first now : ℕ) → was ≤ first → Rose first now → Rose was now
earlier_rose was first now le rose = omega (arith, le, rose)

earlier_line : (was first now : Faults) (lines : List Line) (answered : List Answered) (ending : List ℕ) → NoneFailed was first → IsDiskLine first now lines answered ending → IsDiskLine was now lines answered ending
earlier_line was first now lines answered ending none line = (line.0, omega (arith, none.0, line.1), line.2)

-- the same since the moment before the opening
module _ (Loaded : LoadState → Type 0) (Refused : OpenFault → Type 0) (Opened : Type 0) (was first now : Faults) (lines : List Line) (none : NoneFailed was first) (opened : Opened) where
  earlier_ending : (status : Status) (answered : List Answered) (ending : List ℕ) → IsEnding status Loaded NotRefused (Unit {0}) first now lines answered ending → IsEnding status Loaded Refused Opened was now lines answered ending
  earlier_ending s.Ok answered ending ends = (opened, ends.1)
  earlier_ending s.SinkFault answered ending ends = (opened, ends.1)
  earlier_ending s.DiskFault answered ending (inl refused) = absurd refused.0.1
  earlier_ending s.DiskFault answered ending (inr ends) = inr (opened, by ends.1) where
    by : ((ending ≡ []) × AreAll lines answered) ⊎ IsDiskLine first now lines answered ending → ((ending ≡ []) × AreAll lines answered) ⊎ IsDiskLine was now lines answered ending
    by (inl all) = inl all
    by (inr line) = inr (earlier_line was first now lines answered ending none line)
  earlier_ending s.NoMemory answered ending ends = (ends.0, by ends.1) where
    by : NoneFailed first now ⊎ (Unit {0} × ((line : List ℕ) × IsDiskLine first now lines answered line)) → NoneFailed was now ⊎ (Opened × ((line : List ℕ) × IsDiskLine was now lines answered line))
    by (inl further) = inl (none_further was first now none further)
    by (inr failed) = inr (opened, (failed.1.0, earlier_line was first now lines answered failed.1.0 none failed.1.1))
  earlier_ending s.SourceFault answered ending ends = ends
  earlier_ending (s.InputTooLong limit) answered ending ends = ends
  earlier_ending (s.Directory fault) answered ending ends = absurd ends.0
  earlier_ending (s.FileIdsSpent highest) answered ending ends = absurd ends.0
  earlier_ending (s.NotBuilt u.Directory) answered ending ends = absurd ends.0
  earlier_ending (s.NotBuilt u.Words) answered ending ends = ends
  earlier_ending (s.NotBuilt u.Script) answered ending ends = ends

  pub earlier_text : (timeout : ℕ) (status : Status) (steps : List Step) (receipts : List Receipted) (text : List ℕ) → HasText timeout status Loaded NotRefused (Unit {0}) lines first now steps receipts text → HasText timeout status Loaded Refused Opened lines was now steps receipts text
  earlier_text timeout status steps receipts text has = record {
    answered = has.answered;
    are = has.are;
    ending = has.ending;
    ends = earlier_ending status has.answered has.ending has.ends;
    is = has.is;
  }

-- ---- at first

-- the steps of an opening alone
pub opens_partly : (n : ℕ) (txs : List ℕ) (steps : List Step) → OpensPartly n txs steps → (own steps ≡ []) × (rolled steps ≡ steps)
opens_partly n txs [] opens = (refl, refl)
opens_partly n [] (x ∷ xs) opens = absurd opens
opens_partly n (tx ∷ txs) (x ∷ xs) opens =
    let rest = opens_partly (n + 1) txs xs opens.1 in
    let seat : x.seat ≡ 0 = opens.0.seat in (
      ap (λ (k : ℕ). if not (k == 0) then x ∷ own xs else own xs) seat ∙ rest.0,
      ap (λ (k : ℕ). if k == 0 then x ∷ rolled xs else rolled xs) seat ∙ ap (λ (ss : List Step). x ∷ ss) rest.1,
    )

pub none_answered : (timeout : ℕ) (lines : List Line) (steps : List Step) (receipts : List Receipted) → own steps ≡ [] → AreAnswered timeout lines steps receipts []
none_answered timeout lines steps receipts none = record { front = refl; commands = ap (map (λ (s : Step). (s.command, s.answer))) none; numbered = subst (AreNumbered 1) (sym none) tt; receipted = λ k d lt. absurd (omega (arith, lt)); answers = tt; counts = tt }

-- what an opening that was refused noted is owed
pub unopened_owed : (config : Config) (lines : List Line) (l : Lists) → own l.steps ≡ [] → AreOwedAtOpening config l → HasOwed config lines l.steps l.receipts
unopened_owed config lines l none owed = record {
  answered = [];
  are = none_answered config.buffer_timeout lines l.steps l.receipts none;
  owed = begin_weaker (IsOwedAtOpening config l.steps) (IsOwed config [] l.steps) l.steps l.steps l.receipts (λ r c. c) (λ n r c o. by r o) owed;
  opened = inl refl;
} where
  by : {n : ℕ} (r : Receipted) → IsOwedAtOpening config l.steps n r → IsOwed config [] l.steps n r
  by r (inl behind) = inr behind
  by r (inr o) = inl (inr (inl o))

-- where nothing was opened nothing is owed
pub nothing_owed : (config : Config) (lines : List Line) (steps : List Step) (receipts : List Receipted) → steps ≡ [] → receipts ≡ [] → HasOwed config lines steps receipts
nothing_owed config lines steps receipts bare blank = subst (λ (ss : List Step). HasOwed config lines ss receipts) (sym bare) (subst (HasOwed config lines []) (sym blank) (record { answered = []; are = none_answered config.buffer_timeout lines [] [] refl; owed = tt; opened = inl refl }))

-- where the journal wasn't opened
pub unopened_text : (timeout : ℕ) (status : Status) (Loaded : LoadState → Type 0) (Refused : OpenFault → Type 0) (Opened : Type 0) (lines : List Line) (was now : Faults) (steps : List Step) (receipts : List Receipted) (text : List ℕ) → own steps ≡ [] → text ≡ [] → IsEnding status Loaded Refused Opened was now lines [] []
    → HasText timeout status Loaded Refused Opened lines was now steps receipts text
unopened_text timeout status Loaded Refused Opened lines was now steps receipts text none empty ends = record { answered = []; are = none_answered timeout lines steps receipts none; ending = []; ends = ends; is = empty }

pub opening_ends : (fault : OpenFault) (config : Config) (lists : Lists) (old new : Option Past) (Loaded : LoadState → Type 0) (Opened : Type 0) (was now : Faults) (lines : List Line) → IsOfRefusedOpening config lists old new was now fault → IsEnding (status_of_opening fault) Loaded (IsOfRefusedOpening config lists old new was now) Opened was now lines [] []
opening_ends (o.Disk call) config lists old new Loaded Opened was now lines refused = inl ((call, refused), refl, refl)
opening_ends o.NoMemory config lists old new Loaded Opened was now lines refused = (refl, inl refused.cause)
opening_ends (o.Directory fault) config lists old new Loaded Opened was now lines refused = (refused, refl, refl)
opening_ends (o.FileIdsSpent highest) config lists old new Loaded Opened was now lines refused = (refused, refl, refl)
opening_ends o.NotBuilt config lists old new Loaded Opened was now lines refused = (refused, refl, refl)

-- why a run ended whose opening was refused
pub opening_cause : (config : Config) (lists : Lists) (fault : OpenFault) (old new : Option Past) (was now : Faults) → HasOpenCause config fault (Some lists) old new was now → HasRunCause config lists (status_of_opening fault) old new was now
opening_cause config lists (o.Disk call) old new was now cause = cause.0
opening_cause config lists o.NoMemory old new was now cause = tt
opening_cause config lists (o.Directory fault) old new was now cause = (cause.0, cause.1)
opening_cause config lists (o.FileIdsSpent highest) old new was now cause = cause
opening_cause config lists o.NotBuilt old new was now cause = (cause.0, cause.1)

-- what the opening noted is owed, and its last receipt counts all its appends
begun_owing : (config : Config) (l : Lists) (appended durable waiting end : ℕ) → rolled l.steps ≡ l.steps → durable ≡ appended → waiting ≡ 0 → appended ≡ length (history_of l.steps) → IsLastCount durable l.receipts → end ≡ end_of (history_of l.steps) → AreOwedAtOpening config l → IsOwing appended [] config l appended durable waiting end
begun_owing config l appended durable waiting end all same none history last ends owed = record {
  history = history;
  waits = none ∙ sym (waiting_none (history_of l.steps)) ∙ ap (λ (n : ℕ). waiting_behind n (history_of l.steps)) (sym (same ∙ history));
  ends = ends;
  last = last;
  each = λ place least most. absurd (omega (arith, least, most));
  owed = begin_weaker (IsOwedAtOpening config l.steps) (IsOwedSoFar config [] l.steps) l.steps l.steps l.receipts (λ r c. c) (λ n r c o. so_far r o) owed;
  begun = subst (λ (ss : List Step). list_any (counts_opening ss) l.receipts ≡ true) (sym all) (begun_counts (IsOwedAtOpening config l.steps) l.steps durable l.receipts (same ∙ history) owed last);
} where
  so_far : {n : ℕ} (r : Receipted) → IsOwedAtOpening config l.steps n r → IsOwedSoFar config [] l.steps n r
  so_far r (inl behind) = inl (behind ∙ ap (λ (ss : List Step). length ss) (sym all))
  so_far r (inr o) = inr (inl o)

-- of an engine that was just opened
pub begun_played : {D : Type 0} (timeout : ℕ) (e : EngineOf D Kept) (base : List Placed) (text : List ℕ) → timeout ≡ e.config.buffer_timeout → e.durable ≡ e.appended → e.waiting ≡ 0 → e.since ≡ None → e.clock ≡ 0 → e.appended ≡ length (history_of e.chronicle.steps.items) → AreRolledBack base e.chronicle.steps.items → IsLastCount e.durable e.chronicle.receipts.items
    → e.end ≡ end_of (history_of e.chronicle.steps.items) → AreOwedAtOpening e.config (lists_of e.chronicle) → text ≡ [] → HasPlayed timeout [] (λ label. 0) 1 e text
begun_played timeout e base text time durable waiting since clock history rolls last ends owed empty =
    let steps : List Step = e.chronicle.steps.items in
    let opens = opens_partly 1 (rolled_back base) steps rolls.2 in
    record {
      answered = [];
      lines = refl;
      playing = record {
        opened = e.appended;
        numbers = record {
          time = clock;
          count = omega arith;
          below = λ k d lt. absurd (omega (arith, lt));
          least = omega (arith, durable);
          most = omega (arith, durable);
          waits = (λ none. durable, λ all. since);
          first = λ at is front x back split place. absurd (let none : None ≡ Some at = sym since ∙ is in cc);
          counts = λ k d lt. absurd (omega (arith, lt));
          receipted = λ k d lt. absurd (omega (arith, lt));
          last = last_receipted e.durable e.chronicle.receipts.items last;
        };
        steps = record {
          rolls = ap (λ (ss : List Step). length (history_of ss)) opens.1 ∙ sym history;
          commands = ap (map (λ (s : Step). (s.command, s.answer))) opens.0;
          numbered = subst (AreNumbered 1) (sym opens.0) tt;
          next = sym (ap (λ (ss : List Step). length ss + 1) opens.0);
        };
        answers = tt;
        time = time;
        counts = tt;
        owing = begun_owing e.config (lists_of e.chronicle) e.appended e.durable e.waiting e.end opens.1 durable waiting history last ends owed;
      };
      labelled = λ label. refl;
      is = empty;
    }

-- a call of the disk failed in between
pub between_cause : (status : Status) (was first now : Faults) → was.0 ≤ first.0 → HasDiskCause status first now → HasDiskCause status was now
between_cause s.Ok was first now le cause = tt
between_cause s.DiskFault was first now le cause = earlier_rose was.0 first.0 now.0 le cause
between_cause s.NoMemory was first now le cause = tt
between_cause s.SourceFault was first now le cause = absurd cause
between_cause s.SinkFault was first now le cause = absurd cause
between_cause (s.InputTooLong limit) was first now le cause = absurd cause
between_cause (s.Directory fault) was first now le cause = absurd cause
between_cause (s.FileIdsSpent highest) was first now le cause = absurd cause
between_cause (s.NotBuilt part) was first now le cause = absurd cause

pub refusal_cause : (T : Type 0) (refusal : Refusal) (was first now last : Faults) → was.0 ≤ first.0 → now.0 ≤ last.0 → HasCause {T = T} (Err refusal) first now → HasDiskCause (status_of refusal) was last
refusal_cause T (r.Disk call) was first now last before behind cause = later (cause.0) where
  later : Rose first.0 now.0 → Rose was.0 last.0
  later rose = omega (arith, before, behind, rose)
refusal_cause T (r.Closed fault) was first now last before behind cause = tt
refusal_cause T (r.TooLarge len limit) was first now last before behind cause = tt
refusal_cause T (r.NoTx tx) was first now last before behind cause = tt
refusal_cause T (r.TxPrepared tx) was first now last before behind cause = tt
refusal_cause T (r.Held id tx) was first now last before behind cause = tt
refusal_cause T (r.AlreadyLive id) was first now last before behind cause = tt
refusal_cause T (r.NoRecord id) was first now last before behind cause = tt
refusal_cause T (r.TxNumbersSpent highest) was first now last before behind cause = tt
refusal_cause T (r.Compacting phase) was first now last before behind cause = tt
refusal_cause T (r.FileIdsSpent highest) was first now last before behind cause = tt
refusal_cause T r.NoMemory was first now last before behind cause = tt
