-- What the files of a disk were when they were last synced.
use Rattle.std.specs.Prelude.{ℕ, List, [], ◌∷◌, replicate, Option, None, Some}
use Rattle.std.specs.FinMap as map
use Rattle.amq_model.specs.Files.{FileName, File, Files, renamed, removed}
use Rattle.amq_model.specs.Calls.{Call, Outcome, Event, creating, syncing, renaming, removing, fine, content}

-- a file of these bytes, nothing of which is pending
abbrev pub durable : List ℕ → File
durable bytes = record { bytes = bytes; pending = [] }

-- the file of that name has the bytes that are read of it
abbrev pub settled : Option File → FileName → Files → Files
settled None n s = s
settled (Some file) n s = map.insert s n (durable file.bytes)

-- what a call that ended so makes of the files as they were last synced, where the disk reads `now` before it
abbrev pub synced_by : Call → Outcome → Files → Files → Files
synced_by (creating n len fill) fine now s = map.insert s n (durable (replicate len 0))
synced_by (syncing n) fine now s = settled (map.get now n) n s
synced_by (renaming from to) fine now s = renamed from to s
synced_by (removing n) fine now s = removed n s
synced_by call outcome now s = s

-- The directory with each file as it was last synced. What it was at first counts as synced, and a byte that never was is 00.
abbrev pub last_synced : Files → List Event → Files
last_synced start [] = start
last_synced start (e ∷ es) = synced_by e.call e.outcome (content start es) (last_synced start es)
