-- Which calls a load has made, by its answer.
use Rattle.std.specs.Prelude.{◌≡◌, ℕ, List, [], ◌∷◌, map, Result, Ok, Err}
use Rattle.amq_model.specs.declared.directory.DirFault.{DirFault}
use Rattle.amq_model.specs.declared.directory.DirFault.TheVariants.{TooLong, Version, UserVersion, TwoFiles}
use Rattle.amq_model.specs.Files.{FileName, Files}
use Rattle.amq_model.specs.Calls.{Event, listing, reading}
use Rattle.amq_model.specs.LoadCalls.{AreCalls, AreFirstCalls, names_among, load_calls, AreReadUntil, AreCallsUntil}
use Rattle.amq_io.specs.declared.disk.FileInfo.{FileInfo}
use Rattle.amq_loader.specs.declared.faults.LoadFault.{LoadFault}
use Rattle.amq_loader.specs.declared.faults.LoadFault.TheVariants as f

-- All calls of a load where it answers Ok, those until its fault is known where the directory has one, the list alone where a file has the control file's name, and else the first ones.
abbrev pub HasLoadCalls : {T : Type 0} → Result T LoadFault → Files → List Event → Type 0
HasLoadCalls (Ok x) s events = AreCalls (load_calls s) events
HasLoadCalls (Err (f.Directory fault)) s events = AreCallsUntil fault s events
HasLoadCalls (Err f.NotBuilt) s events = AreCalls (listing ∷ []) events
HasLoadCalls (Err (f.Disk call)) s events = AreFirstCalls (load_calls s) events
HasLoadCalls (Err f.NoMemory) s events = AreFirstCalls (load_calls s) events

-- ---- the parts of a load

-- the list, unless it had no answer
abbrev pub HasListCall : {T : Type 0} → Result T LoadFault → Files → List Event → Type 0
HasListCall (Ok x) s events = AreCalls (listing ∷ []) events
HasListCall (Err (f.Directory fault)) s events = ⊥
HasListCall (Err f.NotBuilt) s events = AreCalls (listing ∷ []) events
HasListCall (Err (f.Disk call)) s events = AreFirstCalls (listing ∷ []) events
HasListCall (Err f.NoMemory) s events = AreFirstCalls (listing ∷ []) events

-- the names and lengths of listed files
abbrev pub sizes : List FileInfo → List (FileName × ℕ)
sizes infos = map {B = FileName × ℕ} (λ i. (i.name, i.len)) infos

-- one read for each of these files that is read, up to a fault
abbrev pub HasReads : {T : Type 0} → Result T LoadFault → List (FileName × ℕ) → Files → List Event → Type 0
HasReads (Ok x) files s events = AreCalls (map reading (names_among files)) events
HasReads (Err (f.Directory fault)) files s events = (names : List FileName) × AreReadUntil fault files names × AreCalls (map reading names) events
HasReads (Err f.NotBuilt) files s events = ⊥
HasReads (Err (f.Disk call)) files s events = AreFirstCalls (map reading (names_among files)) events
HasReads (Err f.NoMemory) files s events = AreFirstCalls (map reading (names_among files)) events

-- the fault of one file, which has this name
abbrev pub IsOwnFault : DirFault → FileName → Type 0
IsOwnFault (TooLong name len) own = name ≡ own
IsOwnFault (Version name found) own = name ≡ own
IsOwnFault (UserVersion name found wanted) own = name ≡ own
IsOwnFault (TwoFiles id first second) own = ⊥

-- the read of one file, if it is read, whatever fault the file has
abbrev pub HasRead : {T : Type 0} → Result T LoadFault → FileName → ℕ → Files → List Event → Type 0
HasRead (Ok x) name len s events = AreCalls (map reading (names_among ((name, len) ∷ []))) events
HasRead (Err (f.Directory fault)) name len s events = IsOwnFault fault name × AreCalls (map reading (names_among ((name, len) ∷ []))) events
HasRead (Err f.NotBuilt) name len s events = ⊥
HasRead (Err (f.Disk call)) name len s events = AreFirstCalls (map reading (names_among ((name, len) ∷ []))) events
HasRead (Err f.NoMemory) name len s events = AreFirstCalls (map reading (names_among ((name, len) ∷ []))) events
