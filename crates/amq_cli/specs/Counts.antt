-- Which counts of faults a command leaves as they were at entry.
use Rattle.std.specs.Prelude.{◌≡◌, ℕ}
use Rattle.amq_io.specs.Cause.{Faults, NoneFailed}
use Rattle.amq_cli.specs.declared.status.Status.{Status}
use Rattle.amq_cli.specs.declared.status.Status.TheVariants as s

-- the source's: a read has failed only with status 4
abbrev pub HasSourceCount : Status → ℕ → ℕ → Type 0
HasSourceCount s.SourceFault old new = Unit {0}
HasSourceCount _ old new = new ≡ old

-- the sink's: a write has failed only with status 5, or behind a run that ended for a disk call or for want of memory
abbrev pub HasSinkCount : Status → ℕ → ℕ → Type 0
HasSinkCount s.SinkFault old new = Unit {0}
HasSinkCount s.DiskFault old new = Unit {0}
HasSinkCount s.NoMemory old new = Unit {0}
HasSinkCount _ old new = new ≡ old

-- the disk's: a call has failed only with status 6, or where memory was short besides
abbrev pub HasDiskCount : Status → Faults → Faults → Type 0
HasDiskCount s.DiskFault was now = Unit {0}
HasDiskCount s.NoMemory was now = Unit {0}
HasDiskCount _ was now = NoneFailed was now

-- the disk's behind a load: a call has failed only with status 6
abbrev pub HasLoadCount : Status → Faults → Faults → Type 0
HasLoadCount s.DiskFault was now = Unit {0}
HasLoadCount _ was now = NoneFailed was now

-- the sink's and the disk's behind a print: a call has failed only with the status that says so
abbrev pub HasPrintCounts : Status → ℕ → ℕ → Faults → Faults → Type 0
HasPrintCounts s.SinkFault old new was now = NoneFailed was now
HasPrintCounts s.DiskFault old new was now = new ≡ old
HasPrintCounts _ old new was now = (new ≡ old) × NoneFailed was now
