-- What a directory loads, and that it loads nothing else.
use Rattle.std.proofs.Common.{◌≡◌, inl, inr, ℕ, ◌-◌, ◌%◌, ◌^◌, ◌<◌, List, [], ◌∷◌, ◌++◌, length, map, Option, None, Some, Ok, Err, sym, ap, subst, ◌∙◌, arith}
use Rattle.std.specs.Prelude.{Result, OnOk}
use Rattle.std.specs.FinMap as finite
use Rattle.std.proofs.Math.Nat.{mod-lt}
use Rattle.amq_model.specs.declared.record.Placed.{Placed}
use Rattle.amq_model.specs.declared.directory.Control.{Control}
use Rattle.amq_model.specs.declared.state.LoadState.{LoadState}
use Rattle.amq_model.specs.declared.script.Line.{Line}
use Rattle.amq_model.specs.declared.config.Config.{Config}
use Rattle.amq_model.specs.declared.history.Step.{Step}
use Rattle.amq_model.specs.declared.refusal.Refusal.{Refusal}
use Rattle.amq_model.specs.declared.refusal.Refusal.TheVariants as r
use Rattle.amq_model.specs.RecordAt.{Spot}
use Rattle.amq_model.specs.Calls.{Past, content}
use Rattle.amq_model.specs.Directory.{FileOf, placed, IsRead, IsJoined, SaysControl, data_files}
use Rattle.amq_model.specs.Effect.{result_of}
use Rattle.amq_model.specs.Files.{Files}
use Rattle.amq_model.specs.Leaves.{Leaves, Unchanged, Told}
use Rattle.amq_model.specs.Answers.{history_of}
use Rattle.amq_scan.specs.Segments.{Segment, records_of, AreClosed, AreThere, IsDirectory}
use Rattle.amq_scan.proofs.Directories.{directory_read}
use Rattle.amq_scan.proofs.Scans.{same_scan}
use Rattle.amq_model.specs.LoadCalls.{AreCalls, AreFirstCalls, Makes, load_calls}
use Rattle.amq_model.proofs.Making.{all_are_first, made_weaker}
use Rattle.amq_loader.specs.declared.faults.LoadFault.{LoadFault}
use Rattle.amq_loader.specs.declared.faults.LoadFault.TheVariants as f
use Rattle.amq_loader.specs.Asked.{HasLoadCalls}
use Rattle.amq_loader.specs.Loads.{IsStateOf}
use Rattle.amq_engine.specs.Directory.{IsJournal}
use Rattle.amq_engine.specs.declared.chronicle.Receipted.{Receipted}
use Rattle.amq_cli.specs.Offline.{HasPrintCalls, IsEnd, LoadsTo, HasRunOn, IsReported, content_of}
use Rattle.amq_cli.specs.Replay.{HasReplayed}
use Rattle.amq_cli.specs.Statuses.{status_of, status_of_load}
use Rattle.amq_cli.specs.declared.status.Status.{Status}
use Rattle.amq_cli.specs.declared.status.Status.TheVariants as s

-- ---- one directory

-- the same files have the same records
same_joined : (files : List FileOf) (a b : List Placed) → IsJoined files a → IsJoined files b → a ≡ b
same_joined [] a b p q = p ∙ sym q
same_joined (f ∷ fs) a b p q =
    let low : f.id % 2 ^ 31 < 2 ^ 32 = omega (arith, mod-lt f.id {m = 2 ^ 31} (omega arith)) in
    let spots : p.0 ≡ q.0 = same_scan f.bytes (f.id % 2 ^ 31) f.version 16 p.0 q.0 low p.1 q.1 in
    let rest : p.2 ≡ q.2 = same_joined fs p.2 q.2 p.3 q.3 in
    p.4 ∙ ap (λ (ss : List Spot). map (placed f.id) ss ++ p.2) spots ∙ ap (λ (l : List Placed). map (placed f.id) q.0 ++ l) rest ∙ sym q.4

-- what is read without a control file
read_uncontrolled : (listing : List (List ℕ × List ℕ)) (control : Option Control) (records : List Placed) → SaysControl listing None → IsRead listing control records → IsRead listing None records
read_uncontrolled listing None records none read = read
read_uncontrolled listing (Some c) records none read = let says : SaysControl listing (Some c) = read.says in absurd (none says.0 c says.1 says.2)

-- the state that a directory loads to is that of its records
state_of : (wanted : ℕ) (state : LoadState) (records : List Placed) (s : Files) (is : IsStateOf wanted state s) → SaysControl (finite.entries is.image) None → IsJoined (data_files (finite.entries is.image) None) records → state ≡ result_of records
state_of wanted state records s is none joined =
    let read = read_uncontrolled (finite.entries is.image) is.loads.control is.loads.records none is.loads.read in
    is.loads.is ∙ ap result_of (same_joined (data_files (finite.entries is.image) None) is.loads.records records read.joined joined)

-- files of which nothing is pending are there
are_there : (wanted sure : ℕ) (s : Files) (gs : List Segment) → AreClosed wanted s gs → AreThere wanted sure s gs
are_there wanted sure s [] closed = tt
are_there wanted sure s (g ∷ gs) closed = (record { file = closed.0.file; there = closed.0.there; is = closed.0.is; behind = λ i pending. absurd (closed.0.still i pending) }, are_there wanted (sure - length g.spots) s gs closed.1)

-- a closed journal loads to the result of its base and then its history
loads_to : (wanted : ℕ) (base : List Placed) (steps : List Step) (state : LoadState) (s : Files) → IsJournal wanted base (history_of steps) s → IsStateOf wanted state s → LoadsTo wanted base steps state s
loads_to wanted base steps state s j is =
    let d : IsDirectory wanted 0 j.files s = record { ascending = j.is.ascending; there = are_there wanted 0 s j.files j.is.there; only = j.is.only; uncontrolled = j.is.uncontrolled } in
    let read = directory_read wanted 0 j.files s is.image is.reading d in
    let found = read_uncontrolled (finite.entries is.image) is.loads.control is.loads.records read.1 is.loads.read in
    let same : is.loads.records ≡ base ++ history_of steps = same_joined (data_files (finite.entries is.image) None) is.loads.records (records_of j.files) found.joined read.2 ∙ j.records in
    record {
      image = is.image;
      reading = is.reading;
      loads = is.loads;
      records = subst (λ (l : List Placed). IsRead (finite.entries is.image) None l) same found;
      is = state_of wanted state (records_of j.files) s is read.1 read.2 ∙ ap result_of j.records;
    }

-- ---- what a disk tells

-- what a disk tells goes on where the content is the same
pub told_still : (P : Files → Type 0) (a b : Option Past) → content_of b ≡ content_of a → Told a P → Told b P
told_still P None None same told = tt
told_still P None (Some q) same told = absurd (let e : Some (content q.start q.calls) ≡ None = same in cc)
told_still P (Some p) None same told = tt
told_still P (Some p) (Some q) same told = let here : content q.start q.calls ≡ content p.start p.calls = (let e : Some (content q.start q.calls) ≡ Some (content p.start p.calls) = same in cc) in subst P (sym here) told

-- calls that only ask leave the content
pub same_content : (a b : Option Past) → Leaves Unchanged Unchanged a b → content_of b ≡ content_of a
same_content None b leaves = ap content_of leaves
same_content (Some p) b leaves = ap content_of leaves.1 ∙ ap Some leaves.2.told

-- what is so of a directory where two other things are
pub told_both : (P Q R : Files → Type 0) (past : Option Past) → ((s : Files) → P s → Q s → R s) → Told past P → Told past Q → Told past R
told_both P Q R None by p q = tt
told_both P Q R (Some past) by p q = by (content past.start past.calls) p q

-- ---- the run

pub has_run_on : (config : Config) (lines : List Line) (before after : List ℕ) (base : List Placed) (steps : List Step) (receipts : List Receipted) (old new : Option Past) → HasReplayed config.buffer_timeout lines steps receipts before → Told old (IsJournal config.user_version base (history_of steps))
    → IsReported config.user_version before after old new → HasRunOn config lines after new base steps receipts
has_run_on config lines before after base steps receipts old new replayed journal reported =
    let wanted : ℕ = config.user_version in
    let loads : (s : Files) → IsJournal wanted base (history_of steps) s → IsStateOf wanted reported.state s → LoadsTo wanted base steps reported.state s = λ s j is. loads_to wanted base steps reported.state s j is in
    record {
      replies = before;
      replayed = replayed;
      state = reported.state;
      reported = reported.lines;
      loaded = told_still (LoadsTo wanted base steps reported.state) old new reported.same (told_both (IsJournal wanted base (history_of steps)) (IsStateOf wanted reported.state) (LoadsTo wanted base steps reported.state) old loads journal reported.loaded);
    }

-- a refusal never ends a run with status 0
pub never_done : (refusal : Refusal) → status_of refusal ≡ s.Ok → ⊥
never_done (r.Closed fault) done = let e : s.NoMemory ≡ s.Ok = done in cc
never_done (r.TooLarge len limit) done = let e : s.NoMemory ≡ s.Ok = done in cc
never_done (r.NoTx tx) done = let e : s.NoMemory ≡ s.Ok = done in cc
never_done (r.TxPrepared tx) done = let e : s.NoMemory ≡ s.Ok = done in cc
never_done (r.Held id tx) done = let e : s.NoMemory ≡ s.Ok = done in cc
never_done (r.AlreadyLive id) done = let e : s.NoMemory ≡ s.Ok = done in cc
never_done (r.NoRecord id) done = let e : s.NoMemory ≡ s.Ok = done in cc
never_done (r.TxNumbersSpent highest) done = let e : s.NoMemory ≡ s.Ok = done in cc
never_done (r.Compacting phase) done = let e : s.NoMemory ≡ s.Ok = done in cc
never_done (r.FileIdsSpent highest) done = let e : s.NoMemory ≡ s.Ok = done in cc
never_done (r.Disk call) done = let e : s.DiskFault ≡ s.Ok = done in cc
never_done r.NoMemory done = let e : s.NoMemory ≡ s.Ok = done in cc

-- what an answer of Ok says
pub closed_so : (result : Result ℕ Refusal) (count : ℕ) (P : Type 0) → result ≡ Ok count → OnOk result P → P
closed_so result count P is p = subst (λ (r : Result ℕ Refusal). OnOk r P) is p

-- ---- the calls of a load that is reported

-- a report was written, or its writing was cut off
pub written_calls : (status : Status) (sink sink' : ℕ) (old new : Option Past) → IsEnd status s.Ok sink sink' → Makes (λ before. AreCalls (load_calls before)) old new → Makes (HasPrintCalls status) old new
written_calls status sink sink' old new (inl is) made = subst (λ (x : Status). Makes (HasPrintCalls x) old new) (sym is) made
written_calls status sink sink' old new (inr (inl is)) made = subst (λ (x : Status). Makes (HasPrintCalls x) old new) (sym is) (made_weaker (λ before. AreCalls (load_calls before)) (λ before. AreFirstCalls (load_calls before)) old new (λ before. all_are_first (load_calls before)) made)
written_calls status sink sink' old new (inr (inr failed)) made = subst (λ (x : Status). Makes (HasPrintCalls x) old new) (sym failed.0) made

-- there was nothing to report
pub refused_calls : (T : Type 0) (fault : LoadFault) (old new : Option Past) → Makes (HasLoadCalls {T = T} (Err fault)) old new → Makes (HasPrintCalls (status_of_load fault)) old new
refused_calls T (f.Directory fault) old new made = made
refused_calls T (f.Disk call) old new made = made
refused_calls T f.NoMemory old new made = made
refused_calls T f.NotBuilt old new made = made
