-- Which calls of a disk were made, in their order, and which ones a load of a directory makes.
use Rattle.std.specs.Prelude.{◌≡◌, ℕ, ◌≤◌, Bool, ◌&&◌, nat_le, List, [], ◌∷◌, ◌++◌, length, map, filter, reverse, Option, None, Some, Result, Ok, Err, All}
use Rattle.std.specs.FinMap as finite
use Rattle.amq_model.specs.declared.directory.DirFault.{DirFault}
use Rattle.amq_model.specs.declared.directory.DirFault.TheVariants.{TooLong, Version, UserVersion, TwoFiles}
use Rattle.amq_model.specs.Names.{is_data}
use Rattle.amq_model.specs.Files.{FileName, Files}
use Rattle.amq_model.specs.Calls.{Call, Event, Past, listing, reading, content}

-- ---- calls in their order

-- the calls of these events, the oldest first
abbrev pub calls_of : List Event → List Call
calls_of events = reverse (map (λ e. e.call) events)

-- the calls made are those of this list, each once, in its order
abbrev pub AreCalls : List Call → List Event → Type 0
AreCalls calls events = calls_of events ≡ calls

-- the calls made are the first ones of this list, each once, in its order
abbrev pub AreFirstCalls : List Call → List Event → Type 0
AreFirstCalls calls events = (rest : List Call) × (calls_of events ++ rest ≡ calls)

-- all calls of this list where the answer is Ok, and else the first ones of it
abbrev pub AreCallsBy : {T E : Type 0} → Result T E → List Call → List Event → Type 0
AreCallsBy (Ok x) calls events = AreCalls calls events
AreCallsBy (Err e) calls events = AreFirstCalls calls events

-- Further calls, the newest first, which stand so to what the disk read before them.
pub record HasMade (P : Files → List Event → Type 0) (old new : Past) : Type 0 where
  pub events : List Event
  pub start : new.start ≡ old.start
  pub calls : new.calls ≡ events ++ old.calls
  pub are : P (content old.start old.calls) events

-- the same of a disk that may tell no content
abbrev pub Makes : (Files → List Event → Type 0) → Option Past → Option Past → Type 0
Makes P None new = new ≡ None
Makes P (Some old) new = (p : Past) × (new ≡ Some p) × HasMade P old p

-- Further calls that stand so to what the disk read before them, and then others, none of which was asked for before the moment m.
pub record HasMadeUntil (P : Files → List Event → Type 0) (m : ℕ) (old new : Past) : Type 0 where
  pub events : List Event
  pub rest : List Event
  pub start : new.start ≡ old.start
  pub calls : new.calls ≡ rest ++ (events ++ old.calls)
  pub are : P (content old.start old.calls) events
  pub behind : All (λ e. m ≤ e.before) rest

-- the same of a disk that may tell no content
abbrev pub MakesUntil : (Files → List Event → Type 0) → ℕ → Option Past → Option Past → Type 0
MakesUntil P m None new = new ≡ None
MakesUntil P m (Some old) new = (p : Past) × (new ≡ Some p) × (m ≤ p.moment) × HasMadeUntil P m old p

-- ---- a load

-- a load reads a file of this name and length: that of a data file, with room for a header and not above the greatest length
abbrev pub is_read : FileName → ℕ → Bool
is_read name len = is_data name && (nat_le 16 len && nat_le len 268435456)

-- the names and lengths that a list tells
abbrev pub listed : Files → List (FileName × ℕ)
listed s = map (λ e. (e.0, length e.1.bytes)) (finite.entries s)

-- the names of those that a load reads, in their order
abbrev pub names_among : List (FileName × ℕ) → List FileName
names_among files = map (λ f. f.0) (filter (λ f. is_read f.0 f.1) files)

-- the calls that a whole load of this directory makes: a list, and then one read for each of these files, ascending by name
abbrev pub load_calls : Files → List Call
load_calls s = listing ∷ map reading (names_among (listed s))

-- the names of those that a load reads of these files up to the one of this name, itself included
pub record AreUpTo (last : FileName) (files : List (FileName × ℕ)) (names : List FileName) : Type 0 where
  pub before : List (FileName × ℕ)
  pub len : ℕ
  pub behind : List (FileName × ℕ)
  pub split : files ≡ before ++ (last, len) ∷ behind
  pub are : names ≡ names_among (before ++ (last, len) ∷ [])

-- what is read of these files until this fault is known: up to the file that has it, and of two files that share an id all
abbrev pub AreReadUntil : DirFault → List (FileName × ℕ) → List FileName → Type 0
AreReadUntil (TooLong name len) files names = AreUpTo name files names
AreReadUntil (Version name found) files names = AreUpTo name files names
AreReadUntil (UserVersion name found wanted) files names = AreUpTo name files names
AreReadUntil (TwoFiles id first second) files names = names ≡ names_among files

-- the calls of a load that ends with this fault of the directory: a list, and then one read for each file that is read until then
abbrev pub AreCallsUntil : DirFault → Files → List Event → Type 0
AreCallsUntil fault s events = (names : List FileName) × AreReadUntil fault (listed s) names × AreCalls (listing ∷ map reading names) events
