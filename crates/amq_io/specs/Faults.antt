-- A disk's error, as the fault of a layer above.
use Rattle.std.specs.Prelude.{◌≡◌, ◌≤◌, Some, Result, Ok, Err}
use Rattle.amq_model.specs.declared.refusal.DiskCall.{DiskCall}
use Rattle.amq_io.specs.Cause.{Rose, Faults, NoneFailed}
use Rattle.amq_io.specs.declared.disk.DiskError.{DiskError}
use Rattle.amq_io.specs.declared.disk.DiskError.TheVariants as error
use Rattle.amq_io.specs.declared.faults.DiskFault.{DiskFault}
use Rattle.amq_io.specs.declared.faults.DiskFault.TheVariants.{Disk, NoMemory}

-- the fault of this call
abbrev pub fault_at : DiskError → DiskCall → DiskFault
fault_at error.Failed call = Disk call
fault_at error.NoMemory call = NoMemory

-- a fault, as the error that it was
abbrev pub as_error : {T : Type 0} → Result T DiskFault → Result T DiskError
as_error (Ok x) = Ok x
as_error (Err NoMemory) = Err error.NoMemory
as_error (Err (Disk call)) = Err error.Failed

-- What a run of calls may answer: a fault only where the count rose in it, and then the call that failed last. Behind any other answer none has failed.
abbrev pub HasFault : {T : Type 0} → Result T DiskFault → Faults → Faults → Type 0
HasFault (Ok x) old new = NoneFailed old new
HasFault (Err NoMemory) old new = NoneFailed old new
HasFault (Err (Disk call)) old new = Rose old.0 new.0 × (old.0 ≤ new.0) × (new.1 ≡ Some call)
