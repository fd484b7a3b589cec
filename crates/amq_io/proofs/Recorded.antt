-- How the record of calls goes on.
use Rattle.std.proofs.Common.{◌≡◌, ℕ, ◌≤◌, List, [], ◌∷◌, map, refl, sym, ◌∙◌, subst, arith, Vec, Global}
use Rattle.std.specs.Prelude.{reverse, Result, Ok, Err, OnErr, is_err, true}
use Rattle.amq_model.specs.Calls.{Event, content, IsTimed}
use Rattle.amq_io.specs.declared.entries.Entry.{Entry}
use Rattle.amq_io.specs.declared.asked.PastCall.{PastCall}
use Rattle.amq_model.specs.Files.{FileName, Files}
use Rattle.amq_io.specs.Entries.{files_of, synced_of, durable_pair, IsUnchanged}
use Rattle.amq_io.specs.Synced.{last_synced}
use Rattle.amq_io.specs.MemoryDisk.{event_of, from_pairs}

pub timed_later : (es : List Event) (now later : ℕ) → now ≤ later → IsTimed es now → IsTimed es later
timed_later [] now later le timed = tt
timed_later (e ∷ es) now later le timed = (omega (arith, le, timed.0), timed.1)

abbrev pub Given : Type 0
Given = FileName × Vec ℕ Global

abbrev pub start_of : List Given → Files
start_of start = from_pairs (map (λ f. durable_pair f.0 f.1.items) start)

abbrev pub Kept : List Given → List Entry → List PastCall → ℕ → Type 0
Kept start files calls moment = (files_of files ≡ content (start_of start) (reverse (map event_of calls))) × (synced_of files ≡ last_synced (start_of start) (reverse (map event_of calls))) × IsTimed (reverse (map event_of calls)) moment

-- nothing is noted
pub kept_same : (start : List Given) (files files' : List Entry) (calls calls' : List PastCall) (now later : ℕ) → Kept start files calls now → IsUnchanged files files' → calls' ≡ calls → now ≤ later → Kept start files' calls' later
kept_same start files files' calls calls' now later kept same calls_same le =
    let P : List PastCall → Type 0 = λ l. Kept start files' l later in
    subst P (sym calls_same) (same.read ∙ kept.0, same.synced ∙ kept.1, timed_later (reverse (map event_of calls)) now later le kept.2)

pub nothing : (files : List Entry) → IsUnchanged files files
nothing files = record { read = refl; synced = refl }

pub when_err : {T E : Type 0} (r : Result T E) (X : Type 0) → true ≡ is_err r → OnErr r X → X
when_err (Ok v) X is x = cc
when_err (Err e) X is x = x
