-- What is found where reading gives a record, and where it gives none.
use Rattle.std.proofs.Common.{◌≡◌, ℕ, ◌<◌, ◌^◌, List, Option, Some, None, IfSome, IfNone}
use Rattle.amq_model.specs.RecordAt.{IsBytes, RecordAt, NoneAt}
use Rattle.amq_record.specs.declared.spot.Spot.{Spot}
use Rattle.amq_record.specs.Refs.{spot_of}
use Rattle.amq_record.specs.Reading.{Gives, read_at}
use Rattle.amq_record.proofs.Records.{read_stands, read_none}

pub is_found : (bytes : List ℕ) (fid version place : ℕ) (r : Option Spot) → IsBytes bytes → Gives spot_of r (read_at bytes fid version place) → IfSome r (λ s. (s.place ≡ place) × RecordAt bytes fid version (spot_of s))
is_found bytes fid version place (Some s) fits given = read_stands bytes fid version place (spot_of s) fits given
is_found bytes fid version place None fits given = tt

pub is_none : (bytes : List ℕ) (fid version place : ℕ) (r : Option Spot) → fid < 2 ^ 32 → Gives spot_of r (read_at bytes fid version place) → IfNone r (NoneAt bytes fid version place)
is_none bytes fid version place (Some s) fits given = tt
is_none bytes fid version place None fits given = read_none bytes fid version place fits given
