-- How the readings of a disk go on from call to call.
use Rattle.std.proofs.Common.{◌≡◌, ◌⊎◌, inl, inr, ⊎_elim, ℕ, ◌-◌, ◌^◌, ◌<◌, ◌≤◌, List, [], ◌∷◌, ◌++◌, Option, None, Some, refl, sym, ◌∙◌, ap, subst, arith, append_assoc}
use Rattle.std.specs.Prelude.{option_map, IfSome}
use Rattle.std.proofs.lemmas.List.Elements.{All-nil, All-cons, All-append, All-weaker}
use Rattle.amq_model.specs.Files.{Files}
use Rattle.amq_model.specs.Calls.{Call, Part, Outcome, fine, no_room, broken, Past, Event, done, partly, after, content, counted, IsTimed, noted, passed}
use Rattle.amq_model.specs.Crash.{settled_since, Next, nothing_since, Reads, ReadsSince}
use Rattle.amq_model.specs.Leaves.{Goes, Leaves, HasFurtherCalls, Within, Exactly, Syncs, SyncsUntil, OnlySyncsUntil, IsAt}
use Rattle.amq_model.proofs.Fewer.{reads_before}

-- each reading after a call is one that the call may leave
next_within : (call : Call) (outcome : Outcome) (told o s : Files) → Next nothing_since call outcome told o s → Within call o s
next_within call fine told o s next = inr (inl next.0)
next_within call no_room told o s next = inl next
next_within call (broken part) told o s next = inr (inr (next.0, next.2))

-- this moment is one of those since an earlier one
pub reads_now : (start : Files) (es : List Event) (now t : ℕ) (s : Files) → t ≤ now → Reads start es s → ReadsSince start es now t s
reads_now start [] now t s le reads = (le, reads)
reads_now start (e ∷ es) now t s le reads = inr (inr (le, reads))

-- none is left since a later moment than this
none_later : (start : Files) (es : List Event) (now t : ℕ) (s : Files) → IsTimed es now → now < 2 ^ 64 - 1 → now < t → ReadsSince start es now t s → ⊥
none_later start [] now t s timed low lt left = omega (arith, left.0, lt)
none_later start (e ∷ es) now t s timed low lt (inl left) = none_later start es e.before t s timed.1 (omega (arith, timed.0, low)) (omega (arith, timed.0, low, lt)) left
none_later start (e ∷ es) now t s timed low lt (inr (inl left)) = omega (arith, left.0, timed.0, low, lt)
none_later start (e ∷ es) now t s timed low lt (inr (inr left)) = omega (arith, left.0, lt)

-- since this moment there is no other
pub only_now : (start : Files) (es : List Event) (now : ℕ) (s : Files) → IsTimed es now → now < 2 ^ 64 - 1 → ReadsSince start es now now s → Reads start es s
only_now start [] now s timed low left = left.1
only_now start (e ∷ es) now s timed low (inl left) = absurd (none_later start es e.before now s timed.1 (omega (arith, timed.0, low)) (omega (arith, timed.0, low)) left)
only_now start (e ∷ es) now s timed low (inr (inl left)) = absurd (omega (arith, left.0, timed.0, low))
only_now start (e ∷ es) now s timed low (inr (inr left)) = left.1

-- a reading behind a call comes from one before it
from_before : (start : Files) (es : List Event) (e : Event) (s : Files) → Reads start (e ∷ es) s → (o : Files) × Reads start es o × Next nothing_since e.call e.outcome (content start es) o s
from_before start es e s reads = (reads.0, reads_before (settled_since e.call e.outcome (content start es) nothing_since) start es reads.0 reads.1, reads.2)

-- what one call adds
one_left : (start : Files) (es : List Event) (call : Call) (outcome : Outcome) (before now t : ℕ) (s : Files) → ReadsSince start (record { call = call; outcome = outcome; before = before } ∷ es) now t s
    → ReadsSince start es before t s ⊎ ((o : Files) × Reads start es o × Within call o s)
one_left start es call outcome before now t s (inl left) = inl left
one_left start es call outcome before now t s (inr (inl left)) = inr (left.1.0, left.1.1, inr (inr (left.1.2, left.1.3)))
one_left start es call outcome before now t s (inr (inr left)) =
    let from = from_before start es (record { call = call; outcome = outcome; before = before }) s left.1 in
    inr (from.0, from.1, next_within call outcome (content start es) from.0 s from.2)

-- a later now adds nothing to what is left since a moment that has been
longer : (start : Files) (es : List Event) (now later t : ℕ) (s : Files) → t ≤ now → ReadsSince start es later t s → ReadsSince start es now t s
longer start [] now later t s le left = (le, left.1)
longer start (e ∷ es) now later t s le (inl left) = inl left
longer start (e ∷ es) now later t s le (inr (inl left)) = inr (inl left)
longer start (e ∷ es) now later t s le (inr (inr left)) = inr (inr (le, left.1))

goes_later : (start : Files) (es : List Event) (now later t : ℕ) (s : Files) → now ≤ later → ReadsSince start es now t s → ReadsSince start es later t s
goes_later start [] now later t s le left = (omega (arith, le, left.0), left.1)
goes_later start (e ∷ es) now later t s le (inl left) = inl left
goes_later start (e ∷ es) now later t s le (inr (inl left)) = inr (inl left)
goes_later start (e ∷ es) now later t s le (inr (inr left)) = inr (inr (omega (arith, le, left.0), left.1))

-- what is left since a moment is left since an earlier one
pub left_earlier : (start : Files) (es : List Event) (now m t : ℕ) (s : Files) → m ≤ t → ReadsSince start es now t s → ReadsSince start es now m s
left_earlier start [] now m t s le left = (omega (arith, le, left.0), left.1)
left_earlier start (e ∷ es) now m t s le (inl left) = inl (left_earlier start es e.before m t s le left)
left_earlier start (e ∷ es) now m t s le (inr (inl left)) = inr (inl (omega (arith, le, left.0), left.1))
left_earlier start (e ∷ es) now m t s le (inr (inr left)) = inr (inr (omega (arith, le, left.0), left.1))

-- what one call adds is left since the moment before it
one_since : (start : Files) (es : List Event) (e : Event) (now t : ℕ) (s : Files) → e.before ≤ now → ReadsSince start (e ∷ es) now t s → ReadsSince start es e.before t s ⊎ ReadsSince start (e ∷ es) now e.before s
one_since start es e now t s le (inl left) = inl left
one_since start es e now t s le (inr (inl left)) = inr (inr (inl (omega arith, left.1)))
one_since start es e now t s le (inr (inr left)) = inr (inr (inr (le, left.1)))

-- what a reading goes on to after this outcome
abbrev pub Ends : Call → Outcome → Files → Files → Type 0
Ends call fine o s = s ≡ done call o
Ends call no_room o s = s ≡ o
Ends call (broken part) o s = (other : Part) × (s ≡ partly call other o)

ends_told : (call : Call) (outcome : Outcome) (told : Files) → Ends call outcome told (after call outcome told)
ends_told call fine told = refl
ends_told call no_room told = refl
ends_told call (broken part) told = (part, refl)

ends_next : (call : Call) (outcome : Outcome) (told o s : Files) → Next nothing_since call outcome told o s → Ends call outcome o s
ends_next call fine told o s next = next.0
ends_next call no_room told o s next = next
ends_next call (broken part) told o s next = (next.0, next.2)

-- a call that was noted
pub one : (call : Call) (outcome : Outcome) (p : Past) → Goes (Within call) (Ends call outcome) p (noted call outcome p)
one call outcome p = record {
  later = omega arith;
  calls = record { events = record { call = call; outcome = outcome; before = p.moment } ∷ []; start = refl; calls = refl; behind = All-cons (λ e. p.moment ≤ e.before) _ [] (omega arith) (All-nil (λ e. p.moment ≤ e.before)) };
  told = ends_told call outcome (content p.start p.calls);
  reads = λ s reads. let from = from_before p.start p.calls (record { call = call; outcome = outcome; before = p.moment }) s reads in (from.0, from.1, ends_next call outcome (content p.start p.calls) from.0 s from.2);
  left = λ t s le left. one_left p.start p.calls call outcome p.moment (counted p.moment) t s left;
  keeps = λ t s left. inl left;
  since = λ t s le left. one_since p.start p.calls (record { call = call; outcome = outcome; before = p.moment }) (counted p.moment) t s (omega arith) left;
}

-- a call that didn't begin
pub none : (I E : Files → Files → Type 0) (p : Past) → ((s : Files) → E s s) → Goes I E p (passed p)
none I E p same = record {
  later = omega arith;
  calls = record { events = []; start = refl; calls = refl; behind = All-nil (λ e. p.moment ≤ e.before) };
  told = same _;
  reads = λ s reads. (s, reads, same s);
  left = λ t s le left. inl (longer p.start p.calls p.moment (counted p.moment) t s le left);
  keeps = λ t s left. goes_later p.start p.calls p.moment (counted p.moment) t s (omega arith) left;
  since = λ t s le left. inl (longer p.start p.calls p.moment (counted p.moment) t s le left);
}

-- The same relation may be said more loosely.
pub looser : {I J E F : Files → Files → Type 0} (old new : Past) → ((o s : Files) → I o s → J o s) → ((o s : Files) → E o s → F o s) → Goes I E old new → Goes J F old new
looser old new inside at_end goes = record {
  later = goes.later;
  calls = goes.calls;
  told = at_end _ _ goes.told;
  reads = λ s reads. let from = goes.reads s reads in (from.0, from.1, at_end _ _ from.2);
  left = λ t s le left. ⊎_elim (λ before. inl before) (λ from. inr (from.0, from.1, inside _ _ from.2)) (goes.left t s le left);
  keeps = goes.keeps;
  since = goes.since;
}

-- further calls behind others
calls_on : (a b c : Past) → a.moment ≤ b.moment → HasFurtherCalls a b → HasFurtherCalls b c → HasFurtherCalls a c
calls_on a b c later one two = record {
  events = two.events ++ one.events;
  start = two.start ∙ one.start;
  calls = two.calls ∙ ap (λ (es : List Event). two.events ++ es) one.calls ∙ sym (append_assoc two.events one.events a.calls);
  behind = All-append (λ e. a.moment ≤ e.before) two.events one.events (All-weaker (λ e. b.moment ≤ e.before) (λ e. a.moment ≤ e.before) (λ e le. omega (arith, later, le)) two.events two.behind) one.behind;
}

-- one run of calls after another
pub joined : {I J K E F G : Files → Files → Type 0} (a b c : Past) → ((o s : Files) → I o s → K o s) → ((o m s : Files) → E o m → J m s → K o s) → ((o m s : Files) → E o m → F m s → G o s)
    → Goes I E a b → Goes J F b c → Goes K G a c
joined {K = K} a b c first second ends one two = record {
  later = omega (arith, one.later, two.later);
  calls = calls_on a b c one.later one.calls two.calls;
  told = ends _ _ _ one.told two.told;
  reads = λ s reads. let m = two.reads s reads in let o = one.reads m.0 m.1 in (o.0, o.1, ends _ _ _ o.2 m.2);
  left = λ t s le left. ⊎_elim
      (λ before. ⊎_elim (λ earlier. inl earlier) (λ from. inr (from.0, from.1, first _ _ from.2)) (one.left t s le before))
      (λ from. let o = one.reads from.0 from.1 in inr (o.0, o.1, second _ _ _ o.2 from.2))
      (two.left t s (omega (arith, le, one.later)) left);
  keeps = λ t s left. two.keeps t s (one.keeps t s left);
  since = λ t s le left. ⊎_elim
      (λ before. ⊎_elim (λ earlier. inl earlier) (λ from. inr (two.keeps a.moment s from)) (one.since t s le before))
      (λ from. inr (left_earlier c.start c.calls c.moment a.moment b.moment s one.later from))
      (two.since t s (omega (arith, le, one.later)) left);
}

-- what one call that answered Ok leaves
pub one_done : (call : Call) (old new : Option Past) → new ≡ option_map (noted call fine) old → Leaves (Within call) (Exactly (done call)) old new
one_done call None new notes = notes
one_done call (Some p) new notes = (noted call fine p, notes, one call fine p)

-- nothing was called
pub still : (I E : Files → Files → Type 0) (old : Option Past) → ((s : Files) → E s s) → Leaves I E old old
still I E None same = refl
still I E (Some p) same = (
  p,
  refl,
  record {
    later = omega arith;
    calls = record { events = []; start = refl; calls = refl; behind = All-nil (λ e. p.moment ≤ e.before) };
    told = same _;
    reads = λ s reads. (s, reads, same s);
    left = λ t s le left. inl left;
    keeps = λ t s left. left;
    since = λ t s le left. inl left;
  },
)

-- the composition: one run of calls after another, each of a disk that may tell no content
pub go_on : {I J K E F G : Files → Files → Type 0} (a b c : Option Past) → ((o s : Files) → I o s → K o s) → ((o m s : Files) → E o m → J m s → K o s) → ((o m s : Files) → E o m → F m s → G o s)
    → Leaves I E a b → Leaves J F b c → Leaves K G a c
go_on {J = J} {F = F} None b c first second ends one two = let P : Option Past → Type 0 = λ h. Leaves J F h c in subst P one two
go_on {J = J} {F = F} (Some p) b c first second ends one two =
    let P : Option Past → Type 0 = λ h. Leaves J F h c in
    let two : Leaves J F (Some one.0) c = subst P one.1 two in
    (two.0, two.1, joined p one.0 two.0 first second ends one.2 two.2)

-- syncs alone, and then other calls: up to the moment between them only syncs added to what may be left
until_now : {I E : Files → Files → Type 0} (a b c : Past) → Goes Syncs Syncs a b → Goes I E b c → SyncsUntil b.moment a c
until_now a b c one two t s le left = ⊎_elim
    (λ before. ⊎_elim (λ earlier. inl earlier) (λ from. inr (inl from)) (one.left t s le before))
    (λ from. inr (inr from))
    (two.since t s (omega (arith, le, one.later)) left)

-- and then others
until_later : {I E : Files → Files → Type 0} (m : ℕ) (a b c : Past) → m ≤ b.moment → SyncsUntil m a b → a.moment ≤ b.moment → Goes I E b c → SyncsUntil m a c
until_later m a b c le one later two t s early left = ⊎_elim
    (λ before. ⊎_elim (λ earlier. inl earlier) (λ rest. inr (⊎_elim (λ from. inl from) (λ from. inr (two.keeps m s from)) rest)) (one t s early before))
    (λ from. inr (inr (left_earlier c.start c.calls c.moment m b.moment s le from)))
    (two.since t s (omega (arith, early, later)) left)

-- the same of a disk that may tell no content
pub syncs_until : (I E : Files → Files → Type 0) (m : ℕ) (a b c : Option Past) → IfSome b (IsAt m) → Leaves Syncs Syncs a b → Leaves I E b c → OnlySyncsUntil m a c
syncs_until I E m None b c at syncs two = let P : Option Past → Type 0 = λ h. Leaves I E h c in subst P syncs two
syncs_until I E m (Some p) b c at syncs two =
    let P : Option Past → Type 0 = λ h. Leaves I E h c in
    let Q : Option Past → Type 0 = λ h. IfSome h (IsAt m) in
    let two : Leaves I E (Some syncs.0) c = subst P syncs.1 two in
    let at : IsAt m syncs.0 = subst Q syncs.1 at in
    (two.0, two.1, omega (arith, at.now, syncs.2.later), omega (arith, at.now, two.2.later), subst (λ (n : ℕ). SyncsUntil n p two.0) (sym at.now) (until_now p syncs.0 two.0 syncs.2 two.2))

pub syncs_until_on : (I E : Files → Files → Type 0) (m : ℕ) (a b c : Option Past) → OnlySyncsUntil m a b → Leaves I E b c → OnlySyncsUntil m a c
syncs_until_on I E m None b c before two = let P : Option Past → Type 0 = λ h. Leaves I E h c in subst P before two
syncs_until_on I E m (Some p) b c before two =
    let P : Option Past → Type 0 = λ h. Leaves I E h c in
    let two : Leaves I E (Some before.0) c = subst P before.1 two in
    (two.0, two.1, before.2, omega (arith, before.3, two.2.later), until_later m p before.0 two.0 before.3 before.4 (omega (arith, before.2, before.3)) two.2)
