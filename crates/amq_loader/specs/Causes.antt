-- Why a call of the loader gave no answer, from the calls that it made.
use Rattle.std.specs.Prelude.{◌≡◌, ◌≤◌, Option, Some, None, Result, Ok, Err}
use Rattle.amq_model.specs.declared.directory.DirFault.{DirFault}
use Rattle.amq_io.specs.Cause.{Rose, Faults, NoneFailed}
use Rattle.amq_io.specs.declared.faults.DiskFault.{DiskFault}
use Rattle.amq_io.specs.declared.faults.DiskFault.TheVariants as disk
use Rattle.amq_loader.specs.declared.faults.LoadFault.{LoadFault}
use Rattle.amq_loader.specs.declared.faults.LoadFault.TheVariants as f

-- a disk's fault, as that of a load
abbrev pub load_fault : DiskFault → LoadFault
load_fault (disk.Disk call) = f.Disk call
load_fault disk.NoMemory = f.NoMemory

-- A fault of the directory that has P; or Q, where the directory can't be loaded yet; or a call that failed in this one, and last. Behind any other answer none has failed.
abbrev pub HasCauseBy : {T : Type 0} → (DirFault → Type 0) → Type 0 → Result T LoadFault → Faults → Faults → Type 0
HasCauseBy P Q (Ok x) old new = NoneFailed old new
HasCauseBy P Q (Err (f.Directory fault)) old new = P fault × (new.0 ≡ old.0) × (new.1 ≡ old.1)
HasCauseBy P Q (Err f.NotBuilt) old new = Q × (new.0 ≡ old.0) × (new.1 ≡ old.1)
HasCauseBy P Q (Err (f.Disk call)) old new = Rose old.0 new.0 × (old.0 ≤ new.0) × (new.1 ≡ Some call)
HasCauseBy P Q (Err f.NoMemory) old new = NoneFailed old new

-- the fault itself, or no memory to say it in
abbrev pub IsFaultOr : DirFault → LoadFault → Type 0
IsFaultOr wanted (f.Directory fault) = fault ≡ wanted
IsFaultOr wanted f.NoMemory = Unit {0}
IsFaultOr wanted f.NotBuilt = ⊥
IsFaultOr wanted (f.Disk call) = ⊥

-- exactly this fault, where there is one, or no memory to say it in
abbrev pub IsChecked : {T : Type 0} → Option DirFault → Result T LoadFault → Type 0
IsChecked found (Ok x) = found ≡ None
IsChecked found (Err (f.Directory fault)) = found ≡ Some fault
IsChecked found (Err f.NoMemory) = Unit {0}
IsChecked found (Err f.NotBuilt) = ⊥
IsChecked found (Err (f.Disk call)) = ⊥
