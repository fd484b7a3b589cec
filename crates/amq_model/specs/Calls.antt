-- The calls that a disk was asked for: what each does, what a part of it does, and the record of them.
use Rattle.std.specs.Prelude.{ℕ, ◌+◌, ◌-◌, ◌^◌, ◌≤◌, min, max, List, [], ◌∷◌, length}
use Rattle.amq_model.specs.Files.{FileName, Files, created, written, pended, synced, renamed, removed}

pub data Call : Type 0 where
  listing : Call
  reading : FileName → Call
  creating : FileName → ℕ → ℕ → Call
  writing : FileName → ℕ → List ℕ → Call
  syncing : FileName → Call
  renaming : FileName → FileName → Call
  removing : FileName → Call

-- How far a call came that failed, or that a crash cut off. Only a create can be short or leave nothing at all.
pub data Part : Type 0 where
  undone : Part
  whole : Part
  short : ℕ → Part
  absent : Part

-- how a call ended
pub data Outcome : Type 0 where
  fine : Outcome
  no_room : Outcome
  broken : Part → Outcome

-- what the directory is after a call
abbrev pub done : Call → Files → Files
done listing s = s
done (reading n) s = s
done (creating n len fill) s = created n len fill s
done (writing n place bytes) s = written n place bytes s
done (syncing n) s = synced n s
done (renaming from to) s = renamed from to s
done (removing n) s = removed n s

-- what it is after a part of a call
abbrev pub partly : Call → Part → Files → Files
partly listing part s = s
partly (reading n) part s = s
partly (creating n len fill) undone s = s
partly (creating n len fill) whole s = created n len fill s
partly (creating n len fill) (short k) s = created n (min k len) fill s
partly (creating n len fill) absent s = removed n s
partly (writing n place bytes) undone s = pended n place (length bytes) s
partly (writing n place bytes) whole s = written n place bytes s
partly (writing n place bytes) (short k) s = pended n place (length bytes) s
partly (writing n place bytes) absent s = pended n place (length bytes) s
partly (syncing n) part s = s
partly (renaming from to) undone s = s
partly (renaming from to) whole s = renamed from to s
partly (renaming from to) (short k) s = s
partly (renaming from to) absent s = s
partly (removing n) undone s = s
partly (removing n) whole s = removed n s
partly (removing n) (short k) s = s
partly (removing n) absent s = s

-- what the disk reads after a call that ended so
abbrev pub after : Call → Outcome → Files → Files
after call fine s = done call s
after call no_room s = s
after call (broken part) s = partly call part s

-- a call, how it ended, and the moment before it
pub record Event : Type 0 where
  pub call : Call
  pub outcome : Outcome
  pub before : ℕ

-- What a disk read at first, its calls, the newest first, and its moment. A call that was refused for memory
-- before it began is counted alone.
pub record Past : Type 0 where
  pub start : Files
  pub calls : List Event
  pub moment : ℕ

-- what it reads now
abbrev pub content : Files → List Event → Files
content start [] = start
content start (e ∷ es) = after e.call e.outcome (content start es)

-- one more, up to the greatest u64
abbrev pub counted : ℕ → ℕ
counted n = max n (min (n + 1) (2 ^ 64 - 1))

-- the moments of the calls rise
abbrev pub IsTimed : List Event → ℕ → Type 0
IsTimed [] now = Unit {0}
IsTimed (e ∷ es) now = (counted e.before ≤ now) × IsTimed es e.before

-- the calls, with one more
abbrev pub noted : Call → Outcome → Past → Past
noted call outcome past = record {
  start = past.start;
  calls = record { call = call; outcome = outcome; before = past.moment } ∷ past.calls;
  moment = counted past.moment;
}

-- a call that didn't begin
abbrev pub passed : Past → Past
passed past = record { start = past.start; calls = past.calls; moment = counted past.moment }
