-- Calls that were made, one behind the other.
use Rattle.std.proofs.Common.{◌≡◌, ℕ, ◌≤◌, List, [], ◌∷◌, ◌++◌, map, append_assoc, Option, None, Some, refl, sym, ap, subst, ◌∙◌, arith}
use Rattle.std.specs.Prelude.{reverse, option_map, IfSome}
use Rattle.std.proofs.lemmas.List.Elements.{All-append, All-weaker}
use Rattle.std.proofs.lemmas.List.{append-nil, map-append, reverse-append}
use Rattle.amq_model.specs.Files.{Files}
use Rattle.amq_model.specs.Calls.{Call, Outcome, Event, Past, noted, passed, content}
use Rattle.amq_model.specs.Leaves.{Told, Leaves, IsAt}
use Rattle.amq_model.specs.LoadCalls.{calls_of, AreCalls, AreFirstCalls, Makes, MakesUntil}

-- ---- lists of calls

-- earlier events, and then later ones
pub calls_then : (later earlier : List Event) → calls_of (later ++ earlier) ≡ calls_of earlier ++ calls_of later
calls_then later earlier = ap reverse (map-append (λ (e : Event). e.call) later earlier) ∙ reverse-append (map (λ (e : Event). e.call) later) (map (λ (e : Event). e.call) earlier)

pub all_then : (before behind : List Call) (earlier later : List Event) → AreCalls before earlier → AreCalls behind later → AreCalls (before ++ behind) (later ++ earlier)
all_then before behind earlier later one two = calls_then later earlier ∙ ap (λ (c : List Call). c ++ calls_of later) one ∙ ap (λ (c : List Call). before ++ c) two

pub first_then : (before behind : List Call) (earlier later : List Event) → AreCalls before earlier → AreFirstCalls behind later → AreFirstCalls (before ++ behind) (later ++ earlier)
first_then before behind earlier later one two = (
  two.0,
  ap (λ (c : List Call). c ++ two.0) (calls_then later earlier ∙ ap (λ (c : List Call). c ++ calls_of later) one) ∙ append_assoc before (calls_of later) two.0 ∙ ap (λ (c : List Call). before ++ c) two.1,
)

pub first_more : (before behind : List Call) (events : List Event) → AreFirstCalls before events → AreFirstCalls (before ++ behind) events
first_more before behind events one = (one.0 ++ behind, sym (append_assoc (calls_of events) one.0 behind) ∙ ap (λ (c : List Call). c ++ behind) one.1)

pub all_are_first : (calls : List Call) (events : List Event) → AreCalls calls events → AreFirstCalls calls events
all_are_first calls events all = ([], append-nil (calls_of events) ∙ all)

pub none_are_first : (calls : List Call) → AreFirstCalls calls []
none_are_first calls = (calls, refl)

-- ---- what was made

module _ (P : Files → List Event → Type 0) where
  pub made_none : (past : Option Past) → ((s : Files) → P s []) → Makes P past past
  made_none None none = refl
  made_none (Some p) none = (p, refl, record { events = []; start = refl; calls = refl; are = none (content p.start p.calls) })

  -- one more call that was noted
  pub made_one : (call : Call) (outcome : Outcome) (old new : Option Past) → ((s : Files) (e : Event) → e.call ≡ call → P s (e ∷ [])) → new ≡ option_map (noted call outcome) old → Makes P old new
  made_one call outcome None new one notes = notes
  made_one call outcome (Some p) new one notes =
      let e : Event = record { call = call; outcome = outcome; before = p.moment } in
      (noted call outcome p, notes, record { events = e ∷ []; start = refl; calls = refl; are = one (content p.start p.calls) e refl })

  -- a call that didn't begin
  pub made_passed : (old new : Option Past) → ((s : Files) → P s []) → new ≡ option_map passed old → Makes P old new
  made_passed None new none notes = notes
  made_passed (Some p) new none notes = (passed p, notes, record { events = []; start = refl; calls = refl; are = none (content p.start p.calls) })

  -- the same, said otherwise, of what the disk tells
  pub made_so : (Q : Files → List Event → Type 0) (F : Files → Type 0) (old new : Option Past) → ((s : Files) (events : List Event) → F s → P s events → Q s events) → Told old F → Makes P old new → Makes Q old new
  made_so Q F None new weaker told made = made
  made_so Q F (Some p) new weaker told made = (
    made.0,
    made.1,
    record {
      events = made.2.events;
      start = made.2.start;
      calls = made.2.calls;
      are = weaker (content p.start p.calls) made.2.events told made.2.are;
    },
  )

  pub made_weaker : (Q : Files → List Event → Type 0) (old new : Option Past) → ((s : Files) (events : List Event) → P s events → Q s events) → Makes P old new → Makes Q old new
  made_weaker Q None new weaker made = made
  made_weaker Q (Some p) new weaker made = (
    made.0,
    made.1,
    record {
      events = made.2.events;
      start = made.2.start;
      calls = made.2.calls;
      are = weaker (content p.start p.calls) made.2.events made.2.are;
    },
  )

  -- calls, and then others
  pub made_then : (Q R : Files → List Event → Type 0) (a b c : Option Past) → ((s now : Files) (earlier later : List Event) → P s earlier → Q now later → R s (later ++ earlier)) → Makes P a b → Makes Q b c → Makes R a c
  made_then Q R None b c both one two = let F : Option Past → Type 0 = λ h. Makes Q h c in subst F one two
  made_then Q R (Some p) b c both one two =
      let F : Option Past → Type 0 = λ h. Makes Q h c in
      let next : Makes Q (Some one.0) c = subst F one.1 two in (
        next.0,
        next.1,
        record {
          events = next.2.events ++ one.2.events;
          start = next.2.start ∙ one.2.start;
          calls = next.2.calls ∙ ap (λ (es : List Event). next.2.events ++ es) one.2.calls ∙ sym (append_assoc next.2.events one.2.events p.calls);
          are = both (content p.start p.calls) (content one.0.start one.0.calls) one.2.events next.2.events one.2.are next.2.are;
        },
      )

  -- calls up to a moment, and then whatever others
  pub made_until : (I E : Files → Files → Type 0) (m : ℕ) (a b c : Option Past) → IfSome b (IsAt m) → Makes P a b → Leaves I E b c → MakesUntil P m a c
  made_until I E m None b c at one two = let F : Option Past → Type 0 = λ h. Leaves I E h c in subst F one two
  made_until I E m (Some p) b c at one two =
      let F : Option Past → Type 0 = λ h. Leaves I E h c in
      let At : Option Past → Type 0 = λ h. IfSome h (IsAt m) in
      let two : Leaves I E (Some one.0) c = subst F one.1 two in
      let at : IsAt m one.0 = subst At one.1 at in
      let k = two.2.calls in (
        two.0,
        two.1,
        omega (arith, at.now, two.2.later),
        record {
          events = one.2.events;
          rest = k.events;
          start = k.start ∙ one.2.start;
          calls = k.calls ∙ ap (λ (es : List Event). k.events ++ es) one.2.calls;
          are = one.2.are;
          behind = All-weaker (λ e. one.0.moment ≤ e.before) (λ e. m ≤ e.before) (λ e le. omega (arith, at.now, le)) k.events k.behind;
        },
      )

  pub made_until_on : (I E : Files → Files → Type 0) (m : ℕ) (a b c : Option Past) → MakesUntil P m a b → Leaves I E b c → MakesUntil P m a c
  made_until_on I E m None b c one two = let F : Option Past → Type 0 = λ h. Leaves I E h c in subst F one two
  made_until_on I E m (Some p) b c one two =
      let F : Option Past → Type 0 = λ h. Leaves I E h c in
      let two : Leaves I E (Some one.0) c = subst F one.1 two in
      let h = one.3 in
      let k = two.2.calls in (
        two.0,
        two.1,
        omega (arith, one.2, two.2.later),
        record {
          events = h.events;
          rest = k.events ++ h.rest;
          start = k.start ∙ h.start;
          calls = k.calls ∙ ap (λ (es : List Event). k.events ++ es) h.calls ∙ sym (append_assoc k.events h.rest (h.events ++ p.calls));
          are = h.are;
          behind = All-append (λ e. m ≤ e.before) k.events h.rest (All-weaker (λ e. one.0.moment ≤ e.before) (λ e. m ≤ e.before) (λ e le. omega (arith, one.2, le)) k.events k.behind) h.behind;
        },
      )
