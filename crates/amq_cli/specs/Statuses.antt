-- The numbers of statuses, and how a run ends behind a refusal or a fault.
use Rattle.std.specs.Prelude.{ℕ}
use Rattle.amq_cli.specs.declared.status.Status.{Status}
use Rattle.amq_model.specs.declared.refusal.Refusal.{Refusal}
use Rattle.amq_model.specs.declared.refusal.Refusal.TheVariants as r
use Rattle.amq_model.specs.declared.directory.OpenFault.{OpenFault}
use Rattle.amq_model.specs.declared.directory.OpenFault.TheVariants as o
use Rattle.amq_loader.specs.declared.faults.LoadFault.{LoadFault}
use Rattle.amq_loader.specs.declared.faults.LoadFault.TheVariants as f
use Rattle.amq_cli.specs.declared.status.Status.TheVariants as s
use Rattle.amq_cli.specs.declared.status.Unbuilt.TheVariants as u

-- the number with which the program ends
abbrev pub code_of : Status → ℕ
code_of s.Ok = 0
code_of s.SourceFault = 4
code_of s.SinkFault = 5
code_of s.DiskFault = 6
code_of (s.Directory fault) = 7
code_of s.NoMemory = 8
code_of (s.FileIdsSpent highest) = 10
code_of (s.InputTooLong limit) = 11
code_of (s.NotBuilt part) = 12

-- behind a refusal that ends a run
abbrev pub status_of : Refusal → Status
status_of (r.Disk call) = s.DiskFault
status_of _ = s.NoMemory

-- where the journal wasn't opened
abbrev pub status_of_opening : OpenFault → Status
status_of_opening (o.Directory fault) = s.Directory fault
status_of_opening (o.FileIdsSpent highest) = s.FileIdsSpent highest
status_of_opening (o.Disk call) = s.DiskFault
status_of_opening o.NoMemory = s.NoMemory
status_of_opening o.NotBuilt = s.NotBuilt u.Directory

-- where the directory wasn't loaded
abbrev pub status_of_load : LoadFault → Status
status_of_load (f.Directory fault) = s.Directory fault
status_of_load (f.Disk call) = s.DiskFault
status_of_load f.NoMemory = s.NoMemory
status_of_load f.NotBuilt = s.NotBuilt u.Directory
