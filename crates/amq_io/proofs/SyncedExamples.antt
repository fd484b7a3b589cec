-- What was last synced, computed at literal calls: a file that was there from the start, one that was made, and a rename.
use Rattle.std.proofs.Common.{◌≡◌, ℕ, [], ◌∷◌, Some, ◌∙◌, ap}
use Rattle.std.specs.FinMap as map
use Rattle.amq_model.specs.Files.{FileName, File, Files, overlaid}
use Rattle.amq_model.specs.Calls.{Call, Outcome, Event, creating, writing, syncing, renaming, fine, broken, undone}
use Rattle.amq_model.proofs.Lookups.{get-insert_same, get-changed_same, get-renamed_to}
use Rattle.amq_io.specs.Synced.{durable, settled, last_synced}

abbrev a : FileName
a = 97 ∷ []

abbrev b : FileName
b = 98 ∷ []

abbrev start : Files
start = map.insert map.empty a (durable (1 ∷ 2 ∷ []))

abbrev call : Call → Outcome → Event
call c outcome = record { call = c; outcome = outcome; before = 0 }

abbrev put : ℕ → ℕ → Event
put place byte = call (writing a place (byte ∷ [])) fine

-- what was there from the start counts as synced, and a write changes nothing of it
written_only : map.get (last_synced start (put 0 9 ∷ [])) a ≡ Some (durable (1 ∷ 2 ∷ []))
written_only = get-insert_same map.empty a (durable (1 ∷ 2 ∷ []))

-- a sync that failed changes nothing of it either
sync_failed : map.get (last_synced start (call (syncing a) (broken undone) ∷ put 0 9 ∷ [])) a ≡ Some (durable (1 ∷ 2 ∷ []))
sync_failed = written_only

-- a file that was made is 00
made : map.get (last_synced start (call (creating b 2 7) fine ∷ [])) b ≡ Some (durable (0 ∷ 0 ∷ []))
made = get-insert_same start b (durable (0 ∷ 0 ∷ []))

-- also where it took the place of one that was synced
made_again : map.get (last_synced start (call (creating a 2 7) fine ∷ [])) a ≡ Some (durable (0 ∷ 0 ∷ []))
made_again = get-insert_same start a (durable (0 ∷ 0 ∷ []))

-- a sync takes what was written before it, and nothing that was written later
synced_between : map.get (last_synced start (put 1 8 ∷ call (syncing a) fine ∷ put 0 9 ∷ [])) a ≡ Some (durable (9 ∷ 2 ∷ []))
synced_between =
    let f : File → File = λ f. record { bytes = overlaid f.bytes 0 (9 ∷ []); pending = (0, 1) ∷ f.pending } in
    ap (λ found. map.get (settled found a start) a) (get-changed_same a f start (durable (1 ∷ 2 ∷ [])) written_only) ∙ get-insert_same start a (durable (9 ∷ 2 ∷ []))

-- another name
renamed_since : map.get (last_synced start (call (renaming a b) fine ∷ put 0 9 ∷ [])) b ≡ Some (durable (1 ∷ 2 ∷ []))
renamed_since = get-renamed_to a b start (durable (1 ∷ 2 ∷ [])) written_only
