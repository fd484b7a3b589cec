-- What one call of a disk leaves, by what it answered.
use Rattle.std.proofs.Common.{◌≡◌, inl, inr, Option, None, Some, Result, Ok, Err, refl, sym, subst, ◌∙◌}
use Rattle.amq_model.specs.Files.{FileName, Files}
use Rattle.amq_model.specs.Calls.{Call, Part, Past, listing, reading, syncing, fine, no_room, broken, done, partly, noted, passed}
use Rattle.amq_model.specs.Leaves.{Leaves, Within, Exactly, Unchanged, Syncs, IsAsking, OnlyAsks, IsAskingOrSyncing, HasSettledNames}
use Rattle.amq_model.proofs.Moments.{one, none, go_on}
use Rattle.amq_model.proofs.Chain.{loosely}
use Rattle.amq_model.proofs.Settling.{unchanged_syncs, synced_syncs}
use Rattle.amq_model.proofs.Asking.{asked, asked_none, names_noted, names_passed}
use Rattle.amq_io.specs.Notes.{Notes}
use Rattle.amq_io.specs.declared.disk.DiskError.{DiskError}
use Rattle.amq_io.specs.declared.disk.DiskError.TheVariants.{Failed, NoMemory}

-- how a call ended, as its answer tells
abbrev pub Ended : {T : Type 0} → Call → Result T DiskError → Files → Files → Type 0
Ended call (Ok x) o s = s ≡ done call o
Ended call (Err NoMemory) o s = s ≡ o
Ended call (Err Failed) o s = (other : Part) × (s ≡ partly call other o)

-- what one call of a disk leaves, whatever it answers
pub called : {T : Type 0} (call : Call) (result : Result T DiskError) (old new : Option Past) → Notes call result old new → Leaves (Within call) (Ended call result) old new
called call (Ok x) None new notes = notes
called call (Err NoMemory) None new (inl notes) = notes
called call (Err NoMemory) None new (inr notes) = notes
called call (Err Failed) None new notes = notes.1
called call (Ok x) (Some p) new notes = (noted call fine p, notes, one call fine p)
called {T = T} call (Err NoMemory) (Some p) new (inl notes) = (passed p, notes, none (Within call) (Ended {T = T} call (Err NoMemory)) p (λ s. refl))
called call (Err NoMemory) (Some p) new (inr notes) = (noted call no_room p, notes, one call no_room p)
called call (Err Failed) (Some p) new notes = (noted call (broken notes.0) p, notes.1, one call (broken notes.0) p)

-- how it ended is one of the moments of it
pub ended_within : {T : Type 0} (call : Call) (result : Result T DiskError) (o s : Files) → Ended call result o s → Within call o s
ended_within call (Ok x) o s e = inr (inl e)
ended_within call (Err NoMemory) o s e = inl e
ended_within call (Err Failed) o s e = inr (inr e)

-- one more call behind a chain of them, whatever it answers
pub at_last : {T : Type 0} (I : Files → Files → Type 0) (f : Files → Files) (call : Call) (result : Result T DiskError) (a b c : Option Past) → Leaves I (Exactly f) a b → Notes call result b c
    → ((o s : Files) → Within call (f o) s → I o s) → Leaves I I a c
at_last I f call result a b c so_far notes here =
    go_on {I = I} {J = Within call} {K = I} {E = Exactly f} {F = Ended call result} {G = I} a b c
    (λ o s i. i)
    (λ o m s e w. here o s (subst (λ m. Within call m s) e w))
    (λ o m s e w. here o s (subst (λ m. Within call m s) e (ended_within call result m s w)))
    so_far (called call result b c notes)

-- a call that only asks changes no reading
only_asks : {T : Type 0} (call : Call) (result : Result T DiskError) (old new : Option Past) → ((s : Files) → done call s ≡ s) → ((part : Part) (s : Files) → partly call part s ≡ s) → Notes call result old new → Leaves Unchanged Unchanged old new
only_asks call result old new all some notes = loosely (Within call) Unchanged (Ended call result) Unchanged old new
    within
    (λ o s e. within o s (ended_within call result o s e))
    (called call result old new notes)
  where
    within : (o s : Files) → Within call o s → s ≡ o
    within o s (inl e) = e
    within o s (inr (inl e)) = e ∙ all o
    within o s (inr (inr e)) = e.1 ∙ some e.0 o

-- a list of the directory, whatever it answers
pub listing_only_asks : {T : Type 0} (result : Result T DiskError) (old new : Option Past) → Notes listing result old new → Leaves Unchanged Unchanged old new
listing_only_asks result old new notes = only_asks listing result old new (λ s. refl) (λ part s. refl) notes

-- a reading of a file, whatever it answers
pub reading_only_asks : {T : Type 0} (n : FileName) (result : Result T DiskError) (old new : Option Past) → Notes (reading n) result old new → Leaves Unchanged Unchanged old new
reading_only_asks n result old new notes = only_asks (reading n) result old new (λ s. refl) (λ part s. refl) notes

-- which calls were made: one more that only asks, whatever it answers
pub asks_noted : {T : Type 0} (call : Call) (result : Result T DiskError) (old new : Option Past) → IsAsking call → Notes call result old new → OnlyAsks old new
asks_noted call (Ok x) old new asks notes = asked call fine old new asks notes
asks_noted call (Err NoMemory) old new asks (inl notes) = asked_none old new notes
asks_noted call (Err NoMemory) old new asks (inr notes) = asked call no_room old new asks notes
asks_noted call (Err Failed) old new asks notes = asked call (broken notes.0) old new asks notes.1

pub listing_asks : {T : Type 0} (result : Result T DiskError) (old new : Option Past) → Notes listing result old new → OnlyAsks old new
listing_asks result old new notes = asks_noted listing result old new tt notes

pub reading_asks : {T : Type 0} (n : FileName) (result : Result T DiskError) (old new : Option Past) → Notes (reading n) result old new → OnlyAsks old new
reading_asks n result old new notes = asks_noted (reading n) result old new tt notes

-- settled names stay so through a list, a read or a sync, whatever it answers
pub names_on : {T : Type 0} (call : Call) (result : Result T DiskError) (old new : Option Past) → IsAskingOrSyncing call → HasSettledNames old → Notes call result old new → HasSettledNames new
names_on call (Ok x) old new asks names notes = names_noted call fine old new asks names notes
names_on call (Err NoMemory) old new asks names (inl notes) = names_passed old new names notes
names_on call (Err NoMemory) old new asks names (inr notes) = names_noted call no_room old new asks names notes
names_on call (Err Failed) old new asks names notes = names_noted call (broken notes.0) old new asks names notes.1

-- what a sync leaves, whatever it answers
pub syncing_syncs : {T : Type 0} (n : FileName) (result : Result T DiskError) (old new : Option Past) → Notes (syncing n) result old new → Leaves Syncs Syncs old new
syncing_syncs n result old new notes = loosely (Within (syncing n)) Syncs (Ended (syncing n) result) Syncs old new
    within
    (λ o s e. within o s (ended_within (syncing n) result o s e))
    (called (syncing n) result old new notes)
  where
    within : (o s : Files) → Within (syncing n) o s → Syncs o s
    within o s (inl e) = unchanged_syncs o s e
    within o s (inr (inl e)) = subst (Syncs o) (sym e) (synced_syncs n o)
    within o s (inr (inr e)) = unchanged_syncs o s e.1
