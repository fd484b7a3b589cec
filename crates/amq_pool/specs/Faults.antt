-- Why a pool gives no file.
use Rattle.std.specs.Prelude.{◌≡◌, ℕ, ◌-◌, ◌^◌, ◌≤◌, Some, Result, Ok, Err}
use Rattle.amq_io.specs.Cause.{Rose, Faults, NoneFailed}
use Rattle.amq_io.specs.declared.faults.DiskFault.{DiskFault}
use Rattle.amq_io.specs.declared.faults.DiskFault.TheVariants as f
use Rattle.amq_pool.specs.declared.faults.PoolFault.{PoolFault}
use Rattle.amq_pool.specs.declared.faults.PoolFault.TheVariants.{FileIdsSpent, Disk, NoMemory}

-- a disk's fault, as the pool says it
abbrev pub pool_fault : DiskFault → PoolFault
pool_fault (f.Disk call) = Disk call
pool_fault f.NoMemory = NoMemory

-- where calls of a disk wanted memory in vain
abbrev pub OnNoMemory : {T : Type 0} → Result T DiskFault → Type 0 → Type 0
OnNoMemory (Ok x) P = Unit {0}
OnNoMemory (Err f.NoMemory) P = P
OnNoMemory (Err (f.Disk call)) P = Unit {0}

-- where a pool wanted memory in vain
abbrev pub OnPoolMemory : {T : Type 0} → Result T PoolFault → Type 0 → Type 0
OnPoolMemory (Ok x) P = Unit {0}
OnPoolMemory (Err (FileIdsSpent highest)) P = Unit {0}
OnPoolMemory (Err (Disk call)) P = Unit {0}
OnPoolMemory (Err NoMemory) P = P

-- What a pool may answer whose greatest number is this: that the numbers are spent only where they are, and a failed
-- call only where the count rose in it, and then the call that failed last. Behind any other answer none has failed.
abbrev pub HasPoolFault : {T : Type 0} → ℕ → Result T PoolFault → Faults → Faults → Type 0
HasPoolFault greatest (Ok x) old new = NoneFailed old new
HasPoolFault greatest (Err (FileIdsSpent highest)) old new = (highest ≡ greatest) × (2 ^ 31 - 1 ≤ greatest) × (new ≡ old)
HasPoolFault greatest (Err (Disk call)) old new = Rose old.0 new.0 × (old.0 ≤ new.0) × (new.1 ≡ Some call)
HasPoolFault greatest (Err NoMemory) old new = NoneFailed old new
