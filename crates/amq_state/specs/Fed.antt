-- The records of a file as the list of a load has them.
use Rattle.std.specs.Prelude.{ℕ, ◌<◌, List, All}
use Rattle.amq_model.specs.declared.record.Placed.{Placed}
use Rattle.amq_record.specs.declared.spot.Spot.{Spot}
use Rattle.amq_record.specs.Refs.{record_of}

-- the record at the spot in its file
abbrev pub placed_of : ℕ → Spot → Placed
placed_of file s = record { file = file; place = s.place; compact = s.compact; rec = record_of s.rec }

-- each record stands in a lesser file
abbrev pub AreBelow : ℕ → List Placed → Type 0
AreBelow file l = All (λ p. p.file < file) l
