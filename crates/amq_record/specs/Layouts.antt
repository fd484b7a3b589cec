-- The fields of each kind.
use Rattle.std.specs.Prelude.{ℕ, Bool, true, false, ◌+◌, List, [], ◌∷◌, ◌++◌, length, Option, Some, None, ◌==◌, if◌then◌else◌}
use Rattle.amq_model.specs.declared.record.Record.{Record}
use Rattle.amq_model.specs.declared.record.Record.TheVariants as r
use Rattle.amq_model.specs.RecordAt.{long, word}
use Rattle.amq_record.specs.declared.layout.Kind.{Kind}
use Rattle.amq_record.specs.declared.layout.Kind.TheVariants as k
use Rattle.amq_record.specs.declared.layout.BodyForm.{BodyForm}
use Rattle.amq_record.specs.declared.layout.BodyForm.TheVariants.{Absent, Sized, Typed}
use Rattle.amq_record.specs.declared.layout.Layout.{Layout}
use Rattle.amq_record.specs.declared.layout.Fields.{Fields}

-- ---- kinds

-- the first byte of a record
abbrev pub number_of : Kind → ℕ
number_of k.Add = 11
number_of k.Update = 12
number_of k.AddTx = 13
number_of k.UpdateTx = 14
number_of k.DeleteTx = 15
number_of k.Delete = 16
number_of k.Prepare = 17
number_of k.Commit = 18
number_of k.Rollback = 19

-- the kind whose number this is
abbrev pub kind_numbered : ℕ → Option Kind
kind_numbered n =
    if n == 11 then Some k.Add else (
    if n == 12 then Some k.Update else (
    if n == 13 then Some k.AddTx else (
    if n == 14 then Some k.UpdateTx else (
    if n == 15 then Some k.DeleteTx else (
    if n == 16 then Some k.Delete else (
    if n == 17 then Some k.Prepare else (
    if n == 18 then Some k.Commit else (
    if n == 19 then Some k.Rollback else None))))))))

abbrev pub kind_in : Record → Kind
kind_in (r.Add id user_type body) = k.Add
kind_in (r.Update id user_type body) = k.Update
kind_in (r.AddTx tx id user_type body) = k.AddTx
kind_in (r.UpdateTx tx id user_type body) = k.UpdateTx
kind_in (r.DeleteTx tx id body) = k.DeleteTx
kind_in (r.Delete id) = k.Delete
kind_in (r.Prepare tx count extra) = k.Prepare
kind_in (r.Commit tx count) = k.Commit
kind_in (r.Rollback tx) = k.Rollback

-- ---- layouts

-- which fields a kind has
abbrev pub layout_of : Kind → Layout
layout_of k.Add = record { tx = false; id = true; count = false; body = Typed }
layout_of k.Update = record { tx = false; id = true; count = false; body = Typed }
layout_of k.AddTx = record { tx = true; id = true; count = false; body = Typed }
layout_of k.UpdateTx = record { tx = true; id = true; count = false; body = Typed }
layout_of k.DeleteTx = record { tx = true; id = true; count = false; body = Sized }
layout_of k.Delete = record { tx = false; id = true; count = false; body = Absent }
layout_of k.Prepare = record { tx = true; id = false; count = true; body = Sized }
layout_of k.Commit = record { tx = true; id = false; count = true; body = Absent }
layout_of k.Rollback = record { tx = true; id = false; count = false; body = Absent }

-- what stands in front of a body
abbrev pub front_len : BodyForm → ℕ
front_len Absent = 0
front_len Sized = 4
front_len Typed = 5

-- the length of a record with an empty body
abbrev pub fixed_len : Layout → ℕ
fixed_len l = 10 + (if l.tx then 8 else 0) + (if l.id then 8 else 0) + (if l.count then 4 else 0) + front_len l.body

-- ---- values

-- a transaction's number, an id, a number of records, a user type and a body; 0 or none where a field isn't there
abbrev pub Values : Type 0
Values = ℕ × (ℕ × (ℕ × (ℕ × List ℕ)))

abbrev pub values_of : Fields → Values
values_of f = (f.tx, (f.id, (f.count, (f.user_type, f.body.now))))

-- the values in a record
abbrev pub values_in : Record → Values
values_in (r.Add id user_type body) = (0, (id, (0, (user_type, body))))
values_in (r.Update id user_type body) = (0, (id, (0, (user_type, body))))
values_in (r.AddTx tx id user_type body) = (tx, (id, (0, (user_type, body))))
values_in (r.UpdateTx tx id user_type body) = (tx, (id, (0, (user_type, body))))
values_in (r.DeleteTx tx id body) = (tx, (id, (0, (0, body))))
values_in (r.Delete id) = (0, (id, (0, (0, []))))
values_in (r.Prepare tx count extra) = (tx, (0, (count, (0, extra))))
values_in (r.Commit tx count) = (tx, (0, (count, (0, []))))
values_in (r.Rollback tx) = (tx, (0, (0, (0, []))))

-- the record of a kind with these values
abbrev pub record_from : Kind → Values → Record
record_from k.Add x = r.Add x.1.0 x.1.1.1.0 x.1.1.1.1
record_from k.Update x = r.Update x.1.0 x.1.1.1.0 x.1.1.1.1
record_from k.AddTx x = r.AddTx x.0 x.1.0 x.1.1.1.0 x.1.1.1.1
record_from k.UpdateTx x = r.UpdateTx x.0 x.1.0 x.1.1.1.0 x.1.1.1.1
record_from k.DeleteTx x = r.DeleteTx x.0 x.1.0 x.1.1.1.1
record_from k.Delete x = r.Delete x.1.0
record_from k.Prepare x = r.Prepare x.0 x.1.1.0 x.1.1.1.1
record_from k.Commit x = r.Commit x.0 x.1.1.0
record_from k.Rollback x = r.Rollback x.0

-- ---- bytes

-- a field that may be there
abbrev pub spelled_if : Bool → (ℕ → List ℕ) → ℕ → List ℕ
spelled_if there spell n = if there then spell n else []

-- a body of this form
abbrev pub spelled_body : BodyForm → ℕ × List ℕ → List ℕ
spelled_body Absent x = []
spelled_body Sized x = word (length x.1) ++ x.1
spelled_body Typed x = word (length x.1) ++ x.0 ∷ x.1

-- the fields, one behind the other
abbrev pub spelled_by : Layout → Values → List ℕ
spelled_by l x = spelled_if l.tx long x.0 ++ (spelled_if l.id long x.1.0 ++ (spelled_if l.count word x.1.1.0 ++ spelled_body l.body x.1.1.1))
