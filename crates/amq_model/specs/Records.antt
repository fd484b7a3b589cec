-- Records and lists of placed records.
use Rattle.std.specs.Prelude.{◌≡◌, ◌⊎◌, ◌<◌, Bool, true, false, List, [], ◌∷◌, All}
use Rattle.amq_model.specs.declared.record.Record.{Record}
use Rattle.amq_model.specs.declared.record.Record.TheVariants as r
use Rattle.amq_model.specs.declared.record.Placed.{Placed}
use Rattle.amq_model.specs.declared.record.Brief.{Brief}
use Rattle.amq_model.specs.declared.record.Brief.TheVariants as b

-- what the tables know of a record
abbrev pub brief_of : Record → Brief
brief_of (r.Add id user_type body) = b.Put id
brief_of (r.Update id user_type body) = b.Put id
brief_of (r.AddTx tx id user_type body) = b.PutTx tx id
brief_of (r.UpdateTx tx id user_type body) = b.PutTx tx id
brief_of (r.DeleteTx tx id body) = b.KillTx tx id
brief_of (r.Delete id) = b.Kill id
brief_of (r.Prepare tx count extra) = b.Prepare tx count
brief_of (r.Commit tx count) = b.Commit tx count
brief_of (r.Rollback tx) = b.Rollback tx

-- an end is a COMMIT or a ROLLBACK
abbrev pub is_end : Record → Bool
is_end (r.Commit tx count) = true
is_end (r.Rollback tx) = true
is_end _ = false

-- it stands in a lesser file, or at a lesser place of the same
abbrev pub IsBefore : Placed → Placed → Type 0
IsBefore p q = (p.file < q.file) ⊎ ((p.file ≡ q.file) × (p.place < q.place))

-- the list ascends by file, then place
abbrev pub IsInOrder : List Placed → Type 0
IsInOrder [] = Unit {0}
IsInOrder (p ∷ ps) = All (IsBefore p) ps × IsInOrder ps
