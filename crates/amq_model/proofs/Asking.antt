-- Calls that only ask: lists and reads.
use Rattle.std.proofs.Common.{◌≡◌, inl, inr, suc, List, [], ◌∷◌, ◌++◌, append_assoc, Option, None, Some, All, refl, sym, ◌∙◌, ap, subst, arith}
use Rattle.std.specs.Prelude.{option_map}
use Rattle.std.proofs.lemmas.List.Elements.{All-nil, All-append, All-cons}
use Rattle.amq_model.specs.Files.{Files}
use Rattle.amq_model.specs.Calls.{Call, Outcome, Event, Past, listing, reading, creating, writing, syncing, renaming, removing, fine, no_room, broken, after, noted, passed, content}
use Rattle.amq_model.specs.Crash.{Settling, settled_since, Next, ReadsBefore, nothing_since, Reads}
use Rattle.amq_model.specs.Leaves.{IsAsking, IsAskingOrSyncing, HasAsked, OnlyAsks, AreNamesSettled, HasSettledNames, AllReads, AllAgree, Told}
use Rattle.amq_model.proofs.Fewer.{reads_before}

-- ---- which calls were made

pub asks_itself : (past : Option Past) → OnlyAsks past past
asks_itself None = refl
asks_itself (Some p) = (p, refl, record { events = []; start = refl; calls = refl; each = All-nil (λ e. IsAsking e.call) })

has_asked_then : (a b c : Past) → HasAsked a b → HasAsked b c → HasAsked a c
has_asked_then a b c one two = record {
  events = two.events ++ one.events;
  start = two.start ∙ one.start;
  calls = two.calls ∙ ap (λ (es : List Event). two.events ++ es) one.calls ∙ sym (append_assoc two.events one.events a.calls);
  each = All-append (λ e. IsAsking e.call) two.events one.events two.each one.each;
}

pub asks_then : (a b c : Option Past) → OnlyAsks a b → OnlyAsks b c → OnlyAsks a c
asks_then None b c one two = let F : Option Past → Type 0 = λ h. OnlyAsks h c in subst F one two
asks_then (Some p) b c one two =
    let F : Option Past → Type 0 = λ h. OnlyAsks h c in
    let two : OnlyAsks (Some one.0) c = subst F one.1 two in
    (two.0, two.1, has_asked_then p one.0 two.0 one.2 two.2)

-- one more call that was noted
pub asked : (call : Call) (outcome : Outcome) (old new : Option Past) → IsAsking call → new ≡ option_map (noted call outcome) old → OnlyAsks old new
asked call outcome None new asks notes = notes
asked call outcome (Some p) new asks notes = (noted call outcome p, notes, record { events = record { call = call; outcome = outcome; before = p.moment } ∷ []; start = refl; calls = refl; each = All-cons (λ e. IsAsking e.call) (record { call = call; outcome = outcome; before = p.moment }) [] asks (All-nil (λ e. IsAsking e.call)) })

-- a call that didn't begin
pub asked_none : (old new : Option Past) → new ≡ option_map passed old → OnlyAsks old new
asked_none None new notes = notes
asked_none (Some p) new notes = (passed p, notes, record { events = []; start = refl; calls = refl; each = All-nil (λ e. IsAsking e.call) })

-- ---- what stays

after_asking : (call : Call) (outcome : Outcome) (s : Files) → IsAsking call → after call outcome s ≡ s
after_asking listing fine s asks = refl
after_asking listing no_room s asks = refl
after_asking listing (broken part) s asks = refl
after_asking (reading n) fine s asks = refl
after_asking (reading n) no_room s asks = refl
after_asking (reading n) (broken part) s asks = refl
after_asking (creating n len fill) outcome s asks = absurd asks
after_asking (writing n place bytes) outcome s asks = absurd asks
after_asking (syncing n) outcome s asks = absurd asks
after_asking (renaming from to) outcome s asks = absurd asks
after_asking (removing n) outcome s asks = absurd asks

next_asking : (later : Settling) (call : Call) (outcome : Outcome) (told o s : Files) → IsAsking call → Next later call outcome told o s → s ≡ o
next_asking later listing fine told o s asks next = next.0
next_asking later listing no_room told o s asks next = next
next_asking later listing (broken part) told o s asks next = next.2
next_asking later (reading n) fine told o s asks next = next.0
next_asking later (reading n) no_room told o s asks next = next
next_asking later (reading n) (broken part) told o s asks next = next.2
next_asking later (creating n len fill) outcome told o s asks next = absurd asks
next_asking later (writing n place bytes) outcome told o s asks next = absurd asks
next_asking later (syncing n) outcome told o s asks next = absurd asks
next_asking later (renaming from to) outcome told o s asks next = absurd asks
next_asking later (removing n) outcome told o s asks next = absurd asks

content_asked : (start : Files) (events es : List Event) → All (λ e. IsAsking e.call) events → content start (events ++ es) ≡ content start es
content_asked start [] es each = refl
content_asked start (e ∷ events) es each = after_asking e.call e.outcome (content start (events ++ es)) (each 0 e (omega arith)) ∙ content_asked start events es (λ i d low. each (suc i) d (omega (arith, low)))

reads_asked : (later : Settling) (start : Files) (events es : List Event) (s : Files) → All (λ e. IsAsking e.call) events → ReadsBefore later start (events ++ es) s → Reads start es s
reads_asked later start [] es s each reads = reads_before later start es s reads
reads_asked later start (e ∷ events) es s each (o, reads, next) =
    subst (Reads start es) (sym (next_asking later e.call e.outcome (content start (events ++ es)) o s (each 0 e (omega arith)) next))
    (reads_asked (settled_since e.call e.outcome (content start (events ++ es)) later) start events es o (λ i d low. each (suc i) d (omega (arith, low))) reads)

content_of : (a b : Past) → HasAsked a b → content b.start b.calls ≡ content a.start a.calls
content_of a b has = ap (λ (s : Files). content s b.calls) has.start ∙ ap (content a.start) has.calls ∙ content_asked a.start has.events a.calls has.each

-- what the disk reads is the same
pub asked_content : (a b : Option Past) → OnlyAsks a b → option_map (λ p. content p.start p.calls) b ≡ option_map (λ p. content p.start p.calls) a
asked_content None b asks = ap (option_map (λ (p : Past). content p.start p.calls)) asks
asked_content (Some p) b asks = ap (option_map (λ (p : Past). content p.start p.calls)) asks.1 ∙ ap (λ (s : Files). Some s) (content_of p asks.0 asks.2)

pub told_asked : (P : Files → Type 0) (a b : Option Past) → OnlyAsks a b → Told a P → Told b P
told_asked P None b asks told = let F : Option Past → Type 0 = λ h. Told h P in subst F (sym asks) tt
told_asked P (Some p) b asks told = let F : Option Past → Type 0 = λ h. Told h P in subst F (sym asks.1) (subst P (sym (content_of p asks.0 asks.2)) told)

-- each reading was one before
reads_of : (a b : Past) (s : Files) → HasAsked a b → Reads b.start b.calls s → Reads a.start a.calls s
reads_of a b s has reads =
    let calls : Reads b.start (has.events ++ a.calls) s = subst (λ (es : List Event). Reads b.start es s) has.calls reads in
    let start : Reads a.start (has.events ++ a.calls) s = subst (λ (start : Files). Reads start (has.events ++ a.calls) s) has.start calls in
    reads_asked nothing_since a.start has.events a.calls s has.each start

pub reads_asked_on : (P : Files → Type 0) (a b : Option Past) → OnlyAsks a b → AllReads a P → AllReads b P
reads_asked_on P None b asks all = let F : Option Past → Type 0 = λ h. AllReads h P in subst F (sym asks) tt
reads_asked_on P (Some p) b asks all = let F : Option Past → Type 0 = λ h. AllReads h P in subst F (sym asks.1) (λ s reads. all s (reads_of p asks.0 s asks.2 reads))

-- what was settled stays so
pub agree_asked : (R : Files → Files → Type 0) (a b : Option Past) → OnlyAsks a b → AllAgree a R → AllAgree b R
agree_asked R None b asks all = let F : Option Past → Type 0 = λ h. AllAgree h R in subst F (sym asks) tt
agree_asked R (Some p) b asks all =
    let F : Option Past → Type 0 = λ h. AllAgree h R in
    subst F (sym asks.1) (λ s reads. subst (λ (told : Files). R told s) (sym (content_of p asks.0 asks.2)) (all s (reads_of p asks.0 s asks.2 reads)))

-- ---- settled names

-- a list that answered Ok settles the names
pub names_listed : (old new : Option Past) → new ≡ option_map (noted listing fine) old → HasSettledNames new
names_listed None new notes = subst HasSettledNames (sym notes) tt
names_listed (Some p) new notes = subst HasSettledNames (sym notes) (inl tt)

-- they stay so through lists, reads and syncs
pub names_noted : (call : Call) (outcome : Outcome) (old new : Option Past) → IsAskingOrSyncing call → HasSettledNames old → new ≡ option_map (noted call outcome) old → HasSettledNames new
names_noted call outcome None new asks names notes = subst HasSettledNames (sym notes) tt
names_noted call outcome (Some p) new asks names notes = subst HasSettledNames (sym notes) (inr (asks, names))

pub names_passed : (old new : Option Past) → HasSettledNames old → new ≡ option_map passed old → HasSettledNames new
names_passed None new names notes = subst HasSettledNames (sym notes) tt
names_passed (Some p) new names notes = subst HasSettledNames (sym notes) names

or_syncing : (call : Call) → IsAsking call → IsAskingOrSyncing call
or_syncing listing asks = tt
or_syncing (reading n) asks = tt
or_syncing (creating n len fill) asks = absurd asks
or_syncing (writing n place bytes) asks = absurd asks
or_syncing (syncing n) asks = absurd asks
or_syncing (renaming from to) asks = absurd asks
or_syncing (removing n) asks = absurd asks

settled_behind : (events es : List Event) → All (λ e. IsAsking e.call) events → AreNamesSettled es → AreNamesSettled (events ++ es)
settled_behind [] es each names = names
settled_behind (e ∷ events) es each names = inr (or_syncing e.call (each 0 e (omega arith)), settled_behind events es (λ i d low. each (suc i) d (omega (arith, low))) names)

pub names_asked : (a b : Option Past) → OnlyAsks a b → HasSettledNames a → HasSettledNames b
names_asked None b asks names = subst HasSettledNames (sym asks) tt
names_asked (Some p) b asks names = subst HasSettledNames (sym asks.1) (subst AreNamesSettled (sym asks.2.calls) (settled_behind asks.2.events p.calls asks.2.each names))
