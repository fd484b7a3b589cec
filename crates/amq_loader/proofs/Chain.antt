-- What calls that only ask leave, and why they fail, one behind the other.
use Rattle.std.proofs.Common.{◌≡◌, inl, inr, List, [], ◌∷◌, ◌++◌, Option, None, Some, refl, sym, ap, subst, ◌∙◌, append_assoc, arith}
use Rattle.std.specs.Prelude.{Result, Ok, Err, option_map, All}
use Rattle.std.proofs.lemmas.List.Elements.{All-nil, All-append, All-cons, All-head, All-tail}
use Rattle.amq_model.specs.declared.directory.DirFault.{DirFault}
use Rattle.amq_model.specs.Files.{Files}
use Rattle.amq_model.specs.Calls.{Call, Past, Event, listing, reading, fine, no_room, broken, noted, passed, content}
use Rattle.amq_model.specs.Leaves.{Leaves, Unchanged, IsAsking, HasAsked, OnlyAsks, IsAskingOrSyncing, AreNamesSettled, HasSettledNames, AllAgree, IsListedSame, Told}
use Rattle.amq_model.proofs.Moments.{go_on}
use Rattle.amq_model.proofs.Settling.{agree_on}
use Rattle.amq_io.specs.Cause.{Faults, NoneFailed}
use Rattle.amq_io.specs.Notes.{Notes}
use Rattle.amq_io.specs.declared.disk.DiskError.{DiskError}
use Rattle.amq_io.specs.declared.disk.DiskError.TheVariants.{Failed, NoMemory}
use Rattle.amq_loader.specs.declared.faults.LoadFault.{LoadFault}
use Rattle.amq_loader.specs.declared.faults.LoadFault.TheVariants as f
use Rattle.amq_loader.specs.Causes.{HasCauseBy, IsChecked}

-- ---- which calls were made

none_asked : (p : Past) → HasAsked p p
none_asked p = record { events = []; start = refl; calls = refl; each = All-nil (λ e. IsAsking e.call) }

pub still_asks : (past : Option Past) → OnlyAsks past past
still_asks None = refl
still_asks (Some p) = (p, refl, none_asked p)

asked_again : (a b c : Past) → HasAsked a b → HasAsked b c → HasAsked a c
asked_again a b c one two = record {
  events = two.events ++ one.events;
  start = two.start ∙ one.start;
  calls = two.calls ∙ ap (λ (es : List Event). two.events ++ es) one.calls ∙ sym (append_assoc two.events one.events a.calls);
  each = All-append (λ e. IsAsking e.call) two.events one.events two.each one.each;
}

pub asks_on : (a b c : Option Past) → OnlyAsks a b → OnlyAsks b c → OnlyAsks a c
asks_on None b c one two = let P : Option Past → Type 0 = λ h. OnlyAsks h c in subst P one two
asks_on (Some p) b c one two =
    let P : Option Past → Type 0 = λ h. OnlyAsks h c in
    let two : OnlyAsks (Some one.0) c = subst P one.1 two in
    (two.0, two.1, asked_again p one.0 two.0 one.2 two.2)

one_asked : (call : Call) (outcome : _) (p : Past) → IsAsking call → HasAsked p (noted call outcome p)
one_asked call outcome p asks = record {
  events = record { call = call; outcome = outcome; before = p.moment } ∷ [];
  start = refl;
  calls = refl;
  each = All-cons (λ e. IsAsking e.call) _ [] asks (All-nil (λ e. IsAsking e.call));
}

passed_asked : (p : Past) → HasAsked p (passed p)
passed_asked p = record { events = []; start = refl; calls = refl; each = All-nil (λ e. IsAsking e.call) }

-- a call that only asks, whatever it answers
pub call_asks : {T : Type 0} (call : Call) (result : Result T DiskError) (old new : Option Past) → IsAsking call → Notes call result old new → OnlyAsks old new
call_asks call (Ok x) None new asks notes = notes
call_asks call (Err NoMemory) None new asks (inl notes) = notes
call_asks call (Err NoMemory) None new asks (inr notes) = notes
call_asks call (Err Failed) None new asks notes = notes.1
call_asks call (Ok x) (Some p) new asks notes = (noted call fine p, notes, one_asked call fine p asks)
call_asks call (Err NoMemory) (Some p) new asks (inl notes) = (passed p, notes, passed_asked p)
call_asks call (Err NoMemory) (Some p) new asks (inr notes) = (noted call no_room p, notes, one_asked call no_room p asks)
call_asks call (Err Failed) (Some p) new asks notes = (noted call (broken notes.0) p, notes.1, one_asked call (broken notes.0) p asks)

asking_too : (call : Call) → IsAsking call → IsAskingOrSyncing call
asking_too listing asks = tt
asking_too (reading n) asks = tt
asking_too (Call.creating n len fill) asks = absurd asks
asking_too (Call.writing n place bytes) asks = absurd asks
asking_too (Call.syncing n) asks = absurd asks
asking_too (Call.renaming from to) asks = absurd asks
asking_too (Call.removing n) asks = absurd asks

-- ---- what stays settled

settled_more : (events es : List Event) → All (λ e. IsAsking e.call) events → AreNamesSettled es → AreNamesSettled (events ++ es)
settled_more [] es each settled = settled
settled_more (e ∷ events) es each settled = inr (asking_too e.call (All-head (λ e. IsAsking e.call) e events each), settled_more events es (All-tail (λ e. IsAsking e.call) e events each) settled)

-- the names stay settled while calls only ask
pub settled_on : (a b : Option Past) → OnlyAsks a b → HasSettledNames a → HasSettledNames b
settled_on None b asks settled = subst HasSettledNames (sym asks) tt
settled_on (Some p) b asks settled = subst HasSettledNames (sym asks.1) (subst AreNamesSettled (sym asks.2.calls) (settled_more asks.2.events p.calls asks.2.each settled))

-- after a list that answered Ok
pub list_settled : (old new : Option Past) → new ≡ option_map (noted listing fine) old → HasSettledNames new
list_settled None new notes = subst HasSettledNames (sym notes) tt
list_settled (Some p) new notes = subst HasSettledNames (sym notes) (inl tt)

-- which files are there stays settled while nothing changes
pub listed_on : (a b : Option Past) → AllAgree a IsListedSame → Leaves Unchanged Unchanged a b → AllAgree b IsListedSame
listed_on a b same leaves = agree_on Unchanged (λ o. o) IsListedSame IsListedSame a b same (λ told o h. h) leaves

-- ---- what calls leave that change nothing

pub asked_on : (a b c : Option Past) → Leaves Unchanged Unchanged a b → Leaves Unchanged Unchanged b c → Leaves Unchanged Unchanged a c
asked_on a b c so_far more = go_on {I = Unchanged} {J = Unchanged} {K = Unchanged} {E = Unchanged} {F = Unchanged} {G = Unchanged} a b c (λ o s e. e) (λ o m s e f. f ∙ e) (λ o m s e f. f ∙ e) so_far more

-- what a disk tells stays
pub told_on : (P : Files → Type 0) (a b : Option Past) → Leaves Unchanged Unchanged a b → Told a P → Told b P
told_on P None b leaves told = let F : Option Past → Type 0 = λ h. Told h P in subst F (sym leaves) tt
told_on P (Some p) b leaves told =
    let F : Option Past → Type 0 = λ h. Told h P in
    subst F (sym leaves.1) (subst P (sym leaves.2.told) told)

pub told_back : (P : Files → Type 0) (a b : Option Past) → Leaves Unchanged Unchanged a b → Told b P → Told a P
told_back P None b leaves told = tt
told_back P (Some p) b leaves told =
    let F : Option Past → Type 0 = λ h. Told h P in
    let there : P (content leaves.0.start leaves.0.calls) = subst F leaves.1 told in
    subst P leaves.2.told there

pub told_weaker : (P Q : Files → Type 0) (past : Option Past) → ((s : Files) → P s → Q s) → Told past P → Told past Q
told_weaker P Q None weaker told = tt
told_weaker P Q (Some p) weaker told = weaker (content p.start p.calls) told

pub told_both : (P Q R : Files → Type 0) (past : Option Past) → ((s : Files) → P s → Q s → R s) → Told past P → Told past Q → Told past R
told_both P Q R None both one two = tt
told_both P Q R (Some p) both one two = both (content p.start p.calls) one two

-- ---- why they fail

-- calls that answered Ok, and then others
pub cause_on : {T : Type 0} (P : DirFault → Type 0) (Q : Type 0) (P' : DirFault → Type 0) (Q' : Type 0) (result : Result T LoadFault) (a b c : Faults)
    → ((found : DirFault) → P found → P' found) → (Q → Q') → NoneFailed a b → HasCauseBy P Q result b c → HasCauseBy P' Q' result a c
cause_on P Q P' Q' (Ok x) a b c weaker other went cause = (omega (arith, went.0, cause.0), cause.1 ∙ went.1)
cause_on P Q P' Q' (Err (f.Directory found)) a b c weaker other went cause = (weaker found cause.0, omega (arith, went.0, cause.1), cause.2 ∙ went.1)
cause_on P Q P' Q' (Err f.NotBuilt) a b c weaker other went cause = (other cause.0, omega (arith, went.0, cause.1), cause.2 ∙ went.1)
cause_on P Q P' Q' (Err (f.Disk call)) a b c weaker other went cause = (omega (arith, went.0, cause.0), omega (arith, went.0, cause.1), cause.2)
cause_on P Q P' Q' (Err f.NoMemory) a b c weaker other went cause = (omega (arith, went.0, cause.0), cause.1 ∙ went.1)

-- the same of a fault that is handed on
pub cause_err : (S T : Type 0) (P : DirFault → Type 0) (Q : Type 0) (P' : DirFault → Type 0) (Q' : Type 0) (e : LoadFault) (result : Result T LoadFault) (a b c : Faults)
    → ((found : DirFault) → P found → P' found) → (Q → Q') → NoneFailed a b → result ≡ Err e → HasCauseBy {T = S} P Q (Err e) b c → HasCauseBy P' Q' result a c
cause_err S T P Q P' Q' e result a b c weaker other went is cause = subst (λ (r : Result T LoadFault). HasCauseBy P' Q' r a c) (sym is) (by e cause) where
  by : (e : LoadFault) → HasCauseBy {T = S} P Q (Err e) b c → HasCauseBy {T = T} P' Q' (Err e) a c
  by (f.Directory found) cause = (weaker found cause.0, omega (arith, went.0, cause.1), cause.2 ∙ went.1)
  by f.NotBuilt cause = (other cause.0, omega (arith, went.0, cause.1), cause.2 ∙ went.1)
  by (f.Disk call) cause = (omega (arith, went.0, cause.0), omega (arith, went.0, cause.1), cause.2)
  by f.NoMemory cause = (omega (arith, went.0, cause.0), cause.1 ∙ went.1)

-- a check's fault
pub checked_cause : (S T : Type 0) (o : Option DirFault) (P : DirFault → Type 0) (e : LoadFault) (result : Result T LoadFault) (a b : Faults)
    → ((found : DirFault) → o ≡ Some found → P found) → NoneFailed a b → result ≡ Err e → IsChecked {T = S} o (Err e) → HasCauseBy P ⊥ result a b
checked_cause S T o P e result a b says went is checked = subst (λ (r : Result T LoadFault). HasCauseBy P ⊥ r a b) (sym is) (by e checked) where
  by : (e : LoadFault) → IsChecked {T = S} o (Err e) → HasCauseBy {T = T} P ⊥ (Err e) a b
  by (f.Directory found) checked = (says found checked, went.0, went.1)
  by f.NotBuilt checked = absurd checked
  by (f.Disk call) checked = absurd checked
  by f.NoMemory checked = went
