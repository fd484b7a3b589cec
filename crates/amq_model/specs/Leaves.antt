-- What some calls of a disk leave, said of each reading that there was before them, and what holds of all that is left.
use Rattle.std.specs.Prelude.{◌≡◌, ◌⊎◌, ℕ, ◌≤◌, List, [], ◌∷◌, ◌++◌, length, Option, None, Some, option_map, IfSome, IsSome, All}
use Rattle.std.specs.FinMap as finite
use Rattle.amq_model.specs.Files.{FileName, File, Files, Image, IsImage, IsPending}
use Rattle.amq_model.specs.Calls.{Call, Part, Outcome, Event, Past, listing, reading, syncing, fine, done, partly, content, IsTimed}
use Rattle.amq_model.specs.Crash.{Reads, ReadsSince, MayLeave}

-- ---- what calls leave

-- further calls, none of which was asked for before the moment of old
pub record HasFurtherCalls (old new : Past) : Type 0 where
  pub events : List Event
  pub start : new.start ≡ old.start
  pub calls : new.calls ≡ events ++ old.calls
  pub behind : All (λ e. old.moment ≤ e.before) events

-- From old to new: what was left before stays, and whatever else may be left comes from a reading of old by `inside`, in the end by `at_end`, and since the moment of old alone.
pub record Goes (inside at_end : Files → Files → Type 0) (old new : Past) : Type 0 where
  pub later : old.moment ≤ new.moment
  pub calls : HasFurtherCalls old new
  pub told : at_end (content old.start old.calls) (content new.start new.calls)
  pub reads : (s : Files) → Reads new.start new.calls s → (o : Files) × Reads old.start old.calls o × at_end o s
  pub left : (t : ℕ) (s : Files) → t ≤ old.moment → ReadsSince new.start new.calls new.moment t s
      → ReadsSince old.start old.calls old.moment t s ⊎ ((o : Files) × Reads old.start old.calls o × inside o s)
  pub keeps : (t : ℕ) (s : Files) → ReadsSince old.start old.calls old.moment t s → ReadsSince new.start new.calls new.moment t s
  pub since : (t : ℕ) (s : Files) → t ≤ old.moment → ReadsSince new.start new.calls new.moment t s
      → ReadsSince old.start old.calls old.moment t s ⊎ ReadsSince new.start new.calls new.moment old.moment s

-- the same of a disk that may tell no content
abbrev pub Leaves : (Files → Files → Type 0) → (Files → Files → Type 0) → Option Past → Option Past → Type 0
Leaves inside at_end None new = new ≡ None
Leaves inside at_end (Some old) new = (p : Past) × (new ≡ Some p) × Goes inside at_end old p

-- what one call may leave, at each moment of it
abbrev pub Within : Call → Files → Files → Type 0
Within call o s = (s ≡ o) ⊎ (s ≡ done call o) ⊎ ((part : Part) × (s ≡ partly call part o))

-- each reading goes on to exactly this one
abbrev pub Exactly : (Files → Files) → Files → Files → Type 0
Exactly f o s = s ≡ f o

-- nothing changes
abbrev pub Unchanged : Files → Files → Type 0
Unchanged o s = s ≡ o

-- the same bytes, and no place is pending that wasn't
abbrev pub IsSyncedFile : Option File → Option File → Type 0
IsSyncedFile None None = Unit {0}
IsSyncedFile (Some old) (Some new) = (new.bytes ≡ old.bytes) × ((i : ℕ) → IsPending new.pending i → IsPending old.pending i)
IsSyncedFile None (Some new) = ⊥
IsSyncedFile (Some old) None = ⊥

-- what syncs leave: the same files with the same bytes, and no place pending that wasn't
abbrev pub Syncs : Files → Files → Type 0
Syncs o s = (n : FileName) → IsSyncedFile (finite.get o n) (finite.get s n)

-- all files but those of these names are as they were
abbrev pub SparesAllBut : (FileName → Type 0) → Files → Files → Type 0
SparesAllBut Among o s = (n : FileName) → (Among n → ⊥) → finite.get s n ≡ finite.get o n

-- Up to the moment m only syncs added to what may be left: what may be left since an earlier moment could be left of old, or comes from a reading of old by syncs, or may be left since m.
abbrev pub SyncsUntil : ℕ → Past → Past → Type 0
SyncsUntil m old new = (t : ℕ) (s : Files) → t ≤ old.moment → ReadsSince new.start new.calls new.moment t s
    → ReadsSince old.start old.calls old.moment t s ⊎ ((o : Files) × Reads old.start old.calls o × Syncs o s) ⊎ ReadsSince new.start new.calls new.moment m s

-- the same of a disk that may tell no content
abbrev pub OnlySyncsUntil : ℕ → Option Past → Option Past → Type 0
OnlySyncsUntil m None new = new ≡ None
OnlySyncsUntil m (Some old) new = (p : Past) × (new ≡ Some p) × (old.moment ≤ m) × (m ≤ p.moment) × SyncsUntil m old p

-- ---- which calls were made

-- the call only asks
abbrev pub IsAsking : Call → Type 0
IsAsking listing = Unit {0}
IsAsking (reading n) = Unit {0}
IsAsking _ = ⊥

-- further calls, each a list or a read
pub record HasAsked (old new : Past) : Type 0 where
  pub events : List Event
  pub start : new.start ≡ old.start
  pub calls : new.calls ≡ events ++ old.calls
  pub each : All (λ e. IsAsking e.call) events

-- the same of a disk that may tell no content
abbrev pub OnlyAsks : Option Past → Option Past → Type 0
OnlyAsks None new = new ≡ None
OnlyAsks (Some old) new = (p : Past) × (new ≡ Some p) × HasAsked old p

-- a list that answered Ok
abbrev pub IsDoneList : Call → Outcome → Type 0
IsDoneList listing fine = Unit {0}
IsDoneList _ _ = ⊥

-- the call only asks, or makes a file durable
abbrev pub IsAskingOrSyncing : Call → Type 0
IsAskingOrSyncing listing = Unit {0}
IsAskingOrSyncing (reading n) = Unit {0}
IsAskingOrSyncing (syncing n) = Unit {0}
IsAskingOrSyncing _ = ⊥

-- a list answered Ok, and behind it nothing but such calls was asked for
abbrev pub AreNamesSettled : List Event → Type 0
AreNamesSettled [] = ⊥
AreNamesSettled (e ∷ es) = IsDoneList e.call e.outcome ⊎ (IsAskingOrSyncing e.call × AreNamesSettled es)

-- the same of a disk that may tell no content
abbrev pub HasSettledNames : Option Past → Type 0
HasSettledNames None = Unit {0}
HasSettledNames (Some p) = AreNamesSettled p.calls

-- ---- what holds of all that is left

-- each reading of this moment has P
abbrev pub AllReads : Option Past → (Files → Type 0) → Type 0
AllReads None P = Unit {0}
AllReads (Some p) P = (s : Files) → Reads p.start p.calls s → P s

-- each reading of every moment since t has P
pub record AllSince (p : Past) (t : ℕ) (P : Files → Type 0) : Type 0 where
  pub earlier : t ≤ p.moment
  pub each : (s : Files) → ReadsSince p.start p.calls p.moment t s → P s

-- the same of a disk that may tell no content
abbrev pub HoldsSince : Option Past → ℕ → (Files → Type 0) → Type 0
HoldsSince None t P = Unit {0}
HoldsSince (Some p) t P = AllSince p t P

-- Whatever a crash since the moment t may leave has Q, with the reading that it is left of.
pub record AllLeft (p : Past) (t : ℕ) (Q : Image → Image → Type 0) : Type 0 where
  pub earlier : t ≤ p.moment
  pub each : (reading image : Image) → MayLeave (Some p) t reading image → Q reading image

-- the same of a disk that may tell no content
abbrev pub LeftSince : Option Past → ℕ → (Image → Image → Type 0) → Type 0
LeftSince None t Q = Unit {0}
LeftSince (Some p) t Q = AllLeft p t Q

-- what a crash at this moment may leave
abbrev pub IsLeftNow : Past → Image → Type 0
IsLeftNow p image = (s : Files) × Reads p.start p.calls s × IsImage s image

-- A crash now leaves nothing that a crash then couldn't have left.
abbrev pub LeavesNothingNew : Option Past → Option Past → Type 0
LeavesNothingNew None new = Unit {0}
LeavesNothingNew (Some old) None = ⊥
LeavesNothingNew (Some old) (Some new) = (image : Image) → IsLeftNow new image → IsLeftNow old image

-- t is this moment, and the moments of the calls rise
pub record IsAt (t : ℕ) (p : Past) : Type 0 where
  pub now : t ≡ p.moment
  pub timed : IsTimed p.calls p.moment

-- each reading of this moment stands so to what the disk reads
abbrev pub AllAgree : Option Past → (Files → Files → Type 0) → Type 0
AllAgree None R = Unit {0}
AllAgree (Some p) R = (s : Files) → Reads p.start p.calls s → R (content p.start p.calls) s

-- the file is the same there, or in neither
abbrev pub IsSameFile : FileName → Files → Files → Type 0
IsSameFile n told s = option_map (λ f. f.bytes) (finite.get s n) ≡ option_map (λ f. f.bytes) (finite.get told n)

-- nothing of the file is pending
abbrev pub NothingPending : Option File → Type 0
NothingPending None = Unit {0}
NothingPending (Some file) = file.pending ≡ []

-- the file has one content, all of it durable
pub record IsSettled (n : FileName) (told s : Files) : Type 0 where
  pub bytes : IsSameFile n told s
  pub durable : NothingPending (finite.get s n)

-- the same files, of the same lengths
abbrev pub IsListedSame : Files → Files → Type 0
IsListedSame told s = (n : FileName) → option_map (λ f. length f.bytes) (finite.get s n) ≡ option_map (λ f. length f.bytes) (finite.get told n)

-- ---- what the disk reads

-- what a disk that tells its content reads now has P
abbrev pub Told : Option Past → (Files → Type 0) → Type 0
Told None P = Unit {0}
Told (Some past) P = P (content past.start past.calls)

-- a file of that name is there
abbrev pub IsThere : FileName → Files → Type 0
IsThere n s = IsSome (finite.get s n)

-- the file is at least so long
abbrev pub IsWithin : FileName → ℕ → Files → Type 0
IsWithin n end s = IfSome (finite.get s n) (λ f. end ≤ length f.bytes)

-- the file has these bytes
abbrev pub HasBytes : FileName → List ℕ → Files → Type 0
HasBytes n bytes s = IfSome (finite.get s n) (λ f. bytes ≡ f.bytes)
