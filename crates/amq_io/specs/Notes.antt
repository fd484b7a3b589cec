-- How the record of a disk's calls goes on by one.
use Rattle.std.specs.Prelude.{◌≡◌, ◌⊎◌, Option, option_map, Result, Ok, Err}
use Rattle.amq_model.specs.Calls.{Call, Part, Past, fine, no_room, broken, noted, passed}
use Rattle.amq_io.specs.declared.disk.DiskError.{DiskError}
use Rattle.amq_io.specs.declared.disk.DiskError.TheVariants.{Failed, NoMemory}

-- The calls of a disk that tells its content go on by this one, which ended so.
abbrev pub Notes : {T : Type 0} → Call → Result T DiskError → Option Past → Option Past → Type 0
Notes call (Ok x) old new = new ≡ option_map (noted call fine) old
Notes call (Err NoMemory) old new = (new ≡ option_map passed old) ⊎ (new ≡ option_map (noted call no_room) old)
Notes call (Err Failed) old new = (part : Part) × (new ≡ option_map (noted call (broken part)) old)
