-- The layouts are the kinds' fields.
use Rattle.std.proofs.Common.{◌≡◌, ℕ, ◌+◌, ◌^◌, ◌<◌, List, ◌++◌, length, refl, ap, arith}
use Rattle.std.proofs.lemmas.List.{append-nil}
use Rattle.amq_model.specs.declared.record.Record.{Record}
use Rattle.amq_model.specs.declared.record.Record.TheVariants.{Add, Update, AddTx, UpdateTx, DeleteTx, Delete, Prepare, Commit, Rollback}
use Rattle.amq_model.specs.RecordAt.{long, word, kind_of, fields_of, len_of}
use Rattle.amq_record.specs.declared.layout.Kind.{Kind}
use Rattle.amq_record.specs.declared.layout.Kind.TheVariants as k
use Rattle.amq_record.specs.declared.layout.Layout.{Layout}
use Rattle.amq_record.proofs.Lengths.{length_fields}
use Rattle.amq_record.specs.Layouts.{Values, number_of, kind_in, layout_of, fixed_len, values_in, record_from, spelled_by}

pub kind_is : (rec : Record) → number_of (kind_in rec) ≡ kind_of rec
kind_is (Add id user_type body) = refl
kind_is (Update id user_type body) = refl
kind_is (AddTx tx id user_type body) = refl
kind_is (UpdateTx tx id user_type body) = refl
kind_is (DeleteTx tx id body) = refl
kind_is (Delete id) = refl
kind_is (Prepare tx count extra) = refl
kind_is (Commit tx count) = refl
kind_is (Rollback tx) = refl

pub len_is : (rec : Record) → fixed_len (layout_of (kind_in rec)) + length ((values_in rec).1.1.1.1) ≡ len_of rec
len_is (Add id user_type body) = refl
len_is (Update id user_type body) = refl
len_is (AddTx tx id user_type body) = refl
len_is (UpdateTx tx id user_type body) = refl
len_is (DeleteTx tx id body) = refl
len_is (Delete id) = refl
len_is (Prepare tx count extra) = refl
len_is (Commit tx count) = refl
len_is (Rollback tx) = refl

pub body_short : (rec : Record) → len_of rec < 2 ^ 31 → length ((values_in rec).1.1.1.1) < 2 ^ 31
body_short rec h = omega (arith, len_is rec)

-- what a kind's layout spells are its record's fields
pub spelled_from : (kind : Kind) (x : Values) → spelled_by (layout_of kind) x ≡ fields_of (record_from kind x)
spelled_from k.Add x = refl
spelled_from k.Update x = refl
spelled_from k.AddTx x = refl
spelled_from k.UpdateTx x = refl
spelled_from k.DeleteTx x = refl
spelled_from k.Delete x = append-nil (long x.1.0)
spelled_from k.Prepare x = refl
spelled_from k.Commit x = ap (λ (l : List ℕ). long x.0 ++ l) (append-nil (word x.1.1.0))
spelled_from k.Rollback x = append-nil (long x.0)

-- a record is the one of its kind with its values
pub record_is : (rec : Record) → record_from (kind_in rec) (values_in rec) ≡ rec
record_is (Add id user_type body) = refl
record_is (Update id user_type body) = refl
record_is (AddTx tx id user_type body) = refl
record_is (UpdateTx tx id user_type body) = refl
record_is (DeleteTx tx id body) = refl
record_is (Delete id) = refl
record_is (Prepare tx count extra) = refl
record_is (Commit tx count) = refl
record_is (Rollback tx) = refl

pub spelled_is : (rec : Record) → spelled_by (layout_of (kind_in rec)) (values_in rec) ≡ fields_of rec
spelled_is rec = rw (spelled_from (kind_in rec) (values_in rec)) (ap fields_of (record_is rec))

-- how long the fields are
pub length_spelled : (rec : Record) (kind : Kind) (l : Layout) (x : Values) → kind ≡ kind_in rec → l ≡ layout_of kind → x ≡ values_in rec → length (spelled_by l x) + 10 ≡ len_of rec
length_spelled rec kind l x kind-is l-is x-is = rw (l-is, kind-is, x-is, spelled_is rec) (length_fields rec)
