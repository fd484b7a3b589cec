-- What borrowed records say.
use Rattle.amq_model.specs.declared.record.Record.{Record}
use Rattle.amq_model.specs.declared.record.Record.TheVariants as r
use Rattle.amq_record.specs.declared.spot.RecordRef.{RecordRef}
use Rattle.amq_record.specs.declared.spot.RecordRef.TheVariants as f
use Rattle.amq_record.specs.declared.spot.Spot as code
use Rattle.amq_model.specs.RecordAt.{Spot}

-- the record, without where its bytes lie in memory
abbrev pub record_of : RecordRef → Record
record_of (f.Add id user_type body) = r.Add id user_type body.now
record_of (f.Update id user_type body) = r.Update id user_type body.now
record_of (f.AddTx tx id user_type body) = r.AddTx tx id user_type body.now
record_of (f.UpdateTx tx id user_type body) = r.UpdateTx tx id user_type body.now
record_of (f.DeleteTx tx id body) = r.DeleteTx tx id body.now
record_of (f.Delete id) = r.Delete id
record_of (f.Prepare tx count extra) = r.Prepare tx count extra.now
record_of (f.Commit tx count) = r.Commit tx count
record_of (f.Rollback tx) = r.Rollback tx

-- the spot without where its bytes lie in memory
abbrev pub spot_of : code.Spot → Spot
spot_of s = record { place = s.place; len = s.len; compact = s.compact; rec = record_of s.rec }
