-- How long the parts of a spelling are.
use Rattle.std.proofs.Common.{◌≡◌, ℕ, ◌+◌, List, ◌∷◌, ◌++◌, length, refl, arith}
use Rattle.std.proofs.lemmas.List.{length-append}
use Rattle.amq_model.specs.declared.record.Record.{Record}
use Rattle.amq_model.specs.declared.record.Record.TheVariants.{Add, Update, AddTx, UpdateTx, DeleteTx, Delete, Prepare, Commit, Rollback}
use Rattle.amq_model.specs.RecordAt.{long, word, fields_of, len_of}

pub length_long : (n : ℕ) → length (long n) ≡ 8
unfolding long
length_long n = refl

pub length_word : (n : ℕ) → length (word n) ≡ 4
unfolding word
length_word n = refl

pub length_sized : (n : ℕ) (body : List ℕ) → length (word n ++ body) ≡ length body + 4
length_sized n body = omega (arith, length-append (word n) body, length_word n)

pub length_typed : (n user_type : ℕ) (body : List ℕ) → length (word n ++ user_type ∷ body) ≡ length body + 5
length_typed n user_type body = omega (arith, length-append (word n) (user_type ∷ body), length_word n)

pub length_fields : (rec : Record) → length (fields_of rec) + 10 ≡ len_of rec
unfolding long word
length_fields (Add id user_type body) = omega arith
length_fields (Update id user_type body) = omega arith
length_fields (AddTx tx id user_type body) = omega arith
length_fields (UpdateTx tx id user_type body) = omega arith
length_fields (DeleteTx tx id body) = omega arith
length_fields (Delete id) = refl
length_fields (Prepare tx count extra) = omega arith
length_fields (Commit tx count) = refl
length_fields (Rollback tx) = refl
