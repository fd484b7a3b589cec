-- Why a directory isn't loaded.
use Rattle.std.specs.Prelude.{◌≡◌, ℕ, ◌≤◌, Option, Some, Result, Ok, Err}
use Rattle.amq_model.specs.Names.{control_name}
use Rattle.amq_model.specs.Calls.{Past}
use Rattle.amq_model.specs.Leaves.{Told, IsThere}
use Rattle.amq_io.specs.Cause.{Rose, Faults, NoneFailed}
use Rattle.amq_loader.specs.declared.faults.LoadFault.{LoadFault}
use Rattle.amq_loader.specs.declared.faults.LoadFault.TheVariants as f
use Rattle.amq_loader.specs.Loads.{IsFaulty}

-- Exactly the first fault of the directory; exactly where a file has the control file's name; a call that failed only where the count rose in this call, and then the one that failed last. No other answer changes the count, or which one that is.
abbrev pub HasLoadFault : {T : Type 0} → ℕ → Result T LoadFault → Option Past → Faults → Faults → Type 0
HasLoadFault wanted (Ok x) past old new = NoneFailed old new
HasLoadFault wanted (Err (f.Directory fault)) past old new = Told past (IsFaulty wanted fault) × (new.0 ≡ old.0) × (new.1 ≡ old.1)
HasLoadFault wanted (Err f.NotBuilt) past old new = Told past (IsThere control_name) × (new.0 ≡ old.0) × (new.1 ≡ old.1)
HasLoadFault wanted (Err (f.Disk call)) past old new = Rose old.0 new.0 × (old.0 ≤ new.0) × (new.1 ≡ Some call)
HasLoadFault wanted (Err f.NoMemory) past old new = NoneFailed old new
