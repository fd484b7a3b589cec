-- The receipts of a chronicle: how they follow each other, and what a crash leaves since each.
use Rattle.std.specs.Prelude.{◌≡◌, ◌⊎◌, ℕ, ◌+◌, ◌-◌, ◌^◌, ◌<◌, ◌≤◌, List, [], ◌∷◌, ◌++◌, length, map, Option, None, All}
use Rattle.std.specs.FinMap as finite
use Rattle.amq_model.specs.Answers.{history_of}
use Rattle.amq_model.specs.Calls.{Call, Event, Past, syncing}
use Rattle.amq_model.specs.Directory.{data_files}
use Rattle.amq_model.specs.Files.{Files, Image, IsReading}
use Rattle.amq_model.specs.Headline.{RecoversSince}
use Rattle.amq_model.specs.Leaves.{Leaves, Syncs, OnlySyncsUntil}
use Rattle.amq_model.specs.LoadCalls.{AreCalls, AreFirstCalls, Makes, MakesUntil, load_calls}
use Rattle.amq_engine.specs.declared.chronicle.Receipted.{Receipted}
use Rattle.amq_engine.specs.Lists.{Lists}

-- A receipt behind another: neither count nor moment falls, and a greater count comes two calls later at least, a write and a sync.
pub record Follows (r s : Receipted) : Type 0 where
  pub counts : r.durable ≤ s.durable
  pub moments : r.moment ≤ s.moment
  pub apart : r.durable < s.durable → s.moment < 2 ^ 64 - 1 → r.moment + 2 ≤ s.moment

-- the receipts behind one, the last of which isn't later than this moment
abbrev pub FollowUpTo : ℕ → Receipted → List Receipted → Type 0
FollowUpTo moment r [] = r.moment ≤ moment
FollowUpTo moment r (s ∷ ss) = Follows r s × FollowUpTo moment s ss

-- The first receipt, where there is one, has count 0, each follows the one before, and none is later than this moment.
abbrev pub AreInOrder : ℕ → List Receipted → Type 0
AreInOrder moment [] = Unit {0}
AreInOrder moment (r ∷ rs) = (r.durable ≡ 0) × FollowUpTo moment r rs

-- of a receipt and those behind it, the last has this count
abbrev pub EndsWith : ℕ → Receipted → List Receipted → Type 0
EndsWith count r [] = r.durable ≡ count
EndsWith count r (s ∷ ss) = EndsWith count s ss

-- there is a receipt, and the last one has this count
abbrev pub IsLastCount : ℕ → List Receipted → Type 0
IsLastCount count [] = ⊥
IsLastCount count (r ∷ rs) = EndsWith count r rs

-- The headline, for every receipt: whatever a crash since it may leave, and in which no false record is found, loads to the result of the base and a kept part of the history, with all that the receipt counts. Nothing is claimed of a receipt at the greatest moment.
abbrev pub IsRecovered : Option Past → ℕ → Lists → Type 0
IsRecovered past wanted l = All (λ r. r.moment < 2 ^ 64 - 1 → RecoversSince past r.moment wanted l.base (history_of l.steps) r.durable) l.receipts

-- what is always so of a chronicle and the disk that it is about, at this moment
pub record IsCrashSafe (past : Option Past) (moment wanted : ℕ) (l : Lists) : Type 0 where
  pub recovers : IsRecovered past wanted l
  pub counted : All (λ r. r.durable ≤ length (history_of l.steps)) l.receipts
  pub receipts : AreInOrder moment l.receipts

-- whatever calls do
abbrev pub Anything : Files → Files → Type 0
Anything o s = Unit {0}

-- the calls of the disk go on
abbrev pub GoesOn : Option Past → Option Past → Type 0
GoesOn old new = Leaves Anything Anything old new

-- the chronicle's first receipt is this one
abbrev pub StartsWith : Receipted → Lists → Type 0
StartsWith r l = (rs : List Receipted) × (l.receipts ≡ r ∷ rs)

-- the calls of an opening up to its first receipt: those of a load, and then one sync for each data file, in the order of their ids
abbrev pub opening_calls : Files → Image → List Call
opening_calls s image = load_calls s ++ map (λ f. syncing f.name) (data_files (finite.entries image) None)

-- all of them were made
abbrev pub AreOpeningCalls : Files → List Event → Type 0
AreOpeningCalls s events = (image : Image) × IsReading s image × AreCalls (opening_calls s image) events

-- the first of them were made
abbrev pub AreFirstOpeningCalls : Files → List Event → Type 0
AreFirstOpeningCalls s events = AreFirstCalls (load_calls s) events ⊎ ((image : Image) × IsReading s image × AreFirstCalls (opening_calls s image) events)

-- Up to the first receipt these calls were made and no other, or the first of them to the end where there is no receipt; what they leave comes from syncs alone.
abbrev pub BeginsBySyncs : List Receipted → Option Past → Option Past → Type 0
BeginsBySyncs [] old new = Leaves Syncs Syncs old new × Makes AreFirstOpeningCalls old new
BeginsBySyncs (r ∷ rs) old new = OnlySyncsUntil r.moment old new × MakesUntil AreOpeningCalls r.moment old new
