-- The nine kinds of record as bytes: each stands behind a header, and not with one field broken.
use Rattle.std.proofs.Common.{◌≡◌, ℕ, ◌+◌, ◌^◌, ◌<◌, ◌≤◌, T, ltb, List, [], ◌∷◌, ◌++◌, length, take, drop, set, refl, arith}
use Rattle.std.specs.List.{list_all}
use Rattle.amq_model.specs.declared.record.Record.{Record}
use Rattle.amq_model.specs.declared.record.Record.TheVariants.{Add, Update, AddTx, UpdateTx, DeleteTx, Delete, Prepare, Commit, Rollback}
use Rattle.amq_model.specs.RecordAt.{Spot, RecordAt, IsRecord, IsBody, long, word, spelling, whole_len}
use Rattle.amq_model.proofs.Literals.{are_bytes, differs}

-- a file of id 1 with the bytes behind its header, and two bytes of filling
abbrev in_file : List ℕ → List ℕ
in_file bytes = 0 ∷ 0 ∷ 0 ∷ 2 ∷ 0 ∷ 0 ∷ 0 ∷ 0 ∷ 0 ∷ 0 ∷ 0 ∷ 0 ∷ 0 ∷ 0 ∷ 0 ∷ 1 ∷ bytes ++ 0x4a ∷ 0x4a ∷ []

-- a record right behind the header, with compact count 0
abbrev first : ℕ → Record → Spot
first len rec = record { place = 16; len = len; compact = 0; rec = rec }

-- the bytes hold that record of file id 1 in version 2
abbrev Stands : List ℕ → ℕ → Record → Type 0
Stands bytes len rec = RecordAt (in_file bytes) 1 2 (first len rec)

stands : (bytes : List ℕ) (len : ℕ) (rec : Record) → IsRecord rec → len ≡ whole_len 2 rec → 16 + len ≤ length (in_file bytes) → take len (drop 16 (in_file bytes)) ≡ spelling 2 1 0 rec → Stands bytes len rec
stands bytes len rec values whole within spelled = record { values = values; compact = (omega arith, λ e. refl); len = whole; within = within; spelled = spelled }

literal : (body : List ℕ) → length body < 2 ^ 31 → T (list_all (λ b. ltb b 256) body) → IsBody body
literal body short bytes = record { short = short; bytes = are_bytes body bytes }

abbrev hi : List ℕ
hi = 0x68 ∷ 0x69 ∷ []

abbrev yo : List ℕ
yo = 0x79 ∷ 0x6f ∷ []

abbrev extra : List ℕ
extra = 1 ∷ 2 ∷ []

-- ---- ADD

abbrev add : List ℕ
add = 0xb ∷ 0 ∷ 0 ∷ 0 ∷ 1 ∷ 0 ∷ 0 ∷ 0 ∷ 0 ∷ 0 ∷ 0 ∷ 0 ∷ 0 ∷ 1 ∷ 0 ∷ 0 ∷ 0 ∷ 2 ∷ 7 ∷ 0x68 ∷ 0x69 ∷ 0 ∷ 0 ∷ 0 ∷ 0x19 ∷ []

pub add_stands : Stands add 25 (Add 1 7 hi)
unfolding long word
add_stands = stands add 25 (Add 1 7 hi) (omega arith, omega arith, literal hi (omega arith) tt) refl (omega arith) refl

pub add_of_another_kind : Stands (set add 0 0x14) 25 (Add 1 7 hi) → ⊥
unfolding long word
add_of_another_kind = differs _ 1 _ 0 tt

pub add_of_another_file : Stands (set add 4 2) 25 (Add 1 7 hi) → ⊥
unfolding long word
add_of_another_file = differs _ 1 _ 4 tt

pub add_with_a_high_bit : Stands (set add 14 0x80) 25 (Add 1 7 hi) → ⊥
unfolding long word
add_with_a_high_bit = differs _ 1 _ 14 tt

pub add_of_another_size : Stands (set add 24 24) 25 (Add 1 7 hi) → ⊥
unfolding long word
add_of_another_size = differs _ 1 _ 24 tt

pub add_cut : RecordAt (take 40 (in_file add)) 1 2 (first 25 (Add 1 7 hi)) → ⊥
add_cut h = let short : 41 ≤ 40 = h.within in omega arith

-- ---- UPDATE

abbrev update : List ℕ
update = 0xc ∷ 0 ∷ 0 ∷ 0 ∷ 1 ∷ 0 ∷ 0 ∷ 0 ∷ 0 ∷ 0 ∷ 0 ∷ 0 ∷ 0 ∷ 1 ∷ 0 ∷ 0 ∷ 0 ∷ 2 ∷ 7 ∷ 0x79 ∷ 0x6f ∷ 0 ∷ 0 ∷ 0 ∷ 0x19 ∷ []

pub update_stands : Stands update 25 (Update 1 7 yo)
unfolding long word
update_stands = stands update 25 (Update 1 7 yo) (omega arith, omega arith, literal yo (omega arith) tt) refl (omega arith) refl

pub update_of_another_kind : Stands (set update 0 0x14) 25 (Update 1 7 yo) → ⊥
unfolding long word
update_of_another_kind = differs _ 1 _ 0 tt

pub update_of_another_file : Stands (set update 4 2) 25 (Update 1 7 yo) → ⊥
unfolding long word
update_of_another_file = differs _ 1 _ 4 tt

pub update_with_a_high_bit : Stands (set update 14 0x80) 25 (Update 1 7 yo) → ⊥
unfolding long word
update_with_a_high_bit = differs _ 1 _ 14 tt

pub update_of_another_size : Stands (set update 24 24) 25 (Update 1 7 yo) → ⊥
unfolding long word
update_of_another_size = differs _ 1 _ 24 tt

pub update_cut : RecordAt (take 40 (in_file update)) 1 2 (first 25 (Update 1 7 yo)) → ⊥
update_cut h = let short : 41 ≤ 40 = h.within in omega arith

-- ---- ADD_TX

abbrev add_tx : List ℕ
add_tx = 0xd ∷ 0 ∷ 0 ∷ 0 ∷ 1 ∷ 0 ∷ 0 ∷ 0 ∷ 0 ∷ 0 ∷ 0 ∷ 0 ∷ 0 ∷ 5 ∷ 0 ∷ 0 ∷ 0 ∷ 0 ∷ 0 ∷ 0 ∷ 0 ∷ 3 ∷ 0 ∷ 0 ∷ 0 ∷ 2 ∷ 7 ∷ 0x68 ∷ 0x69 ∷ 0 ∷ 0 ∷ 0 ∷ 0x21 ∷ []

pub add_tx_stands : Stands add_tx 33 (AddTx 5 3 7 hi)
unfolding long word
add_tx_stands = stands add_tx 33 (AddTx 5 3 7 hi) (omega arith, omega arith, omega arith, literal hi (omega arith) tt) refl (omega arith) refl

pub add_tx_of_another_kind : Stands (set add_tx 0 0x14) 33 (AddTx 5 3 7 hi) → ⊥
unfolding long word
add_tx_of_another_kind = differs _ 1 _ 0 tt

pub add_tx_of_another_file : Stands (set add_tx 4 2) 33 (AddTx 5 3 7 hi) → ⊥
unfolding long word
add_tx_of_another_file = differs _ 1 _ 4 tt

pub add_tx_with_a_high_bit : Stands (set add_tx 22 0x80) 33 (AddTx 5 3 7 hi) → ⊥
unfolding long word
add_tx_with_a_high_bit = differs _ 1 _ 22 tt

pub add_tx_of_another_size : Stands (set add_tx 32 32) 33 (AddTx 5 3 7 hi) → ⊥
unfolding long word
add_tx_of_another_size = differs _ 1 _ 32 tt

pub add_tx_cut : RecordAt (take 48 (in_file add_tx)) 1 2 (first 33 (AddTx 5 3 7 hi)) → ⊥
add_tx_cut h = let short : 49 ≤ 48 = h.within in omega arith

-- ---- UPDATE_TX

abbrev update_tx : List ℕ
update_tx = 0xe ∷ 0 ∷ 0 ∷ 0 ∷ 1 ∷ 0 ∷ 0 ∷ 0 ∷ 0 ∷ 0 ∷ 0 ∷ 0 ∷ 0 ∷ 5 ∷ 0 ∷ 0 ∷ 0 ∷ 0 ∷ 0 ∷ 0 ∷ 0 ∷ 3 ∷ 0 ∷ 0 ∷ 0 ∷ 0 ∷ 8 ∷ 0 ∷ 0 ∷ 0 ∷ 0x1f ∷ []

pub update_tx_stands : Stands update_tx 31 (UpdateTx 5 3 8 [])
unfolding long word
update_tx_stands = stands update_tx 31 (UpdateTx 5 3 8 []) (omega arith, omega arith, omega arith, literal [] (omega arith) tt) refl (omega arith) refl

pub update_tx_of_another_kind : Stands (set update_tx 0 0x14) 31 (UpdateTx 5 3 8 []) → ⊥
unfolding long word
update_tx_of_another_kind = differs _ 1 _ 0 tt

pub update_tx_of_another_file : Stands (set update_tx 4 2) 31 (UpdateTx 5 3 8 []) → ⊥
unfolding long word
update_tx_of_another_file = differs _ 1 _ 4 tt

pub update_tx_with_a_high_bit : Stands (set update_tx 22 0x80) 31 (UpdateTx 5 3 8 []) → ⊥
unfolding long word
update_tx_with_a_high_bit = differs _ 1 _ 22 tt

pub update_tx_of_another_size : Stands (set update_tx 30 30) 31 (UpdateTx 5 3 8 []) → ⊥
unfolding long word
update_tx_of_another_size = differs _ 1 _ 30 tt

pub update_tx_cut : RecordAt (take 46 (in_file update_tx)) 1 2 (first 31 (UpdateTx 5 3 8 [])) → ⊥
update_tx_cut h = let short : 47 ≤ 46 = h.within in omega arith

-- ---- DELETE_TX

abbrev delete_tx : List ℕ
delete_tx = 0xf ∷ 0 ∷ 0 ∷ 0 ∷ 1 ∷ 0 ∷ 0 ∷ 0 ∷ 0 ∷ 0 ∷ 0 ∷ 0 ∷ 0 ∷ 5 ∷ 0 ∷ 0 ∷ 0 ∷ 0 ∷ 0 ∷ 0 ∷ 0 ∷ 1 ∷ 0 ∷ 0 ∷ 0 ∷ 0 ∷ 0 ∷ 0 ∷ 0 ∷ 0x1e ∷ []

pub delete_tx_stands : Stands delete_tx 30 (DeleteTx 5 1 [])
unfolding long word
delete_tx_stands = stands delete_tx 30 (DeleteTx 5 1 []) (omega arith, omega arith, literal [] (omega arith) tt) refl (omega arith) refl

pub delete_tx_of_another_kind : Stands (set delete_tx 0 0x14) 30 (DeleteTx 5 1 []) → ⊥
unfolding long word
delete_tx_of_another_kind = differs _ 1 _ 0 tt

pub delete_tx_of_another_file : Stands (set delete_tx 4 2) 30 (DeleteTx 5 1 []) → ⊥
unfolding long word
delete_tx_of_another_file = differs _ 1 _ 4 tt

pub delete_tx_with_a_high_bit : Stands (set delete_tx 22 0x80) 30 (DeleteTx 5 1 []) → ⊥
unfolding long word
delete_tx_with_a_high_bit = differs _ 1 _ 22 tt

pub delete_tx_of_another_size : Stands (set delete_tx 29 29) 30 (DeleteTx 5 1 []) → ⊥
unfolding long word
delete_tx_of_another_size = differs _ 1 _ 29 tt

pub delete_tx_cut : RecordAt (take 45 (in_file delete_tx)) 1 2 (first 30 (DeleteTx 5 1 [])) → ⊥
delete_tx_cut h = let short : 46 ≤ 45 = h.within in omega arith

-- ---- DELETE

abbrev delete : List ℕ
delete = 0x10 ∷ 0 ∷ 0 ∷ 0 ∷ 1 ∷ 0 ∷ 0 ∷ 0 ∷ 0 ∷ 0 ∷ 0 ∷ 0 ∷ 0 ∷ 1 ∷ 0 ∷ 0 ∷ 0 ∷ 0x12 ∷ []

pub delete_stands : Stands delete 18 (Delete 1)
unfolding long word
delete_stands = stands delete 18 (Delete 1) omega arith refl (omega arith) refl

pub delete_of_another_kind : Stands (set delete 0 0x14) 18 (Delete 1) → ⊥
unfolding long word
delete_of_another_kind = differs _ 1 _ 0 tt

pub delete_of_another_file : Stands (set delete 4 2) 18 (Delete 1) → ⊥
unfolding long word
delete_of_another_file = differs _ 1 _ 4 tt

pub delete_of_another_size : Stands (set delete 17 17) 18 (Delete 1) → ⊥
unfolding long word
delete_of_another_size = differs _ 1 _ 17 tt

pub delete_cut : RecordAt (take 33 (in_file delete)) 1 2 (first 18 (Delete 1)) → ⊥
delete_cut h = let short : 34 ≤ 33 = h.within in omega arith

-- ---- PREPARE

abbrev prepare : List ℕ
prepare = 0x11 ∷ 0 ∷ 0 ∷ 0 ∷ 1 ∷ 0 ∷ 0 ∷ 0 ∷ 0 ∷ 0 ∷ 0 ∷ 0 ∷ 0 ∷ 5 ∷ 0 ∷ 0 ∷ 0 ∷ 2 ∷ 0 ∷ 0 ∷ 0 ∷ 2 ∷ 1 ∷ 2 ∷ 0 ∷ 0 ∷ 0 ∷ 0x1c ∷ []

pub prepare_stands : Stands prepare 28 (Prepare 5 2 extra)
unfolding long word
prepare_stands = stands prepare 28 (Prepare 5 2 extra) (omega arith, omega arith, literal extra (omega arith) tt) refl (omega arith) refl

pub prepare_of_another_kind : Stands (set prepare 0 0x14) 28 (Prepare 5 2 extra) → ⊥
unfolding long word
prepare_of_another_kind = differs _ 1 _ 0 tt

pub prepare_of_another_file : Stands (set prepare 4 2) 28 (Prepare 5 2 extra) → ⊥
unfolding long word
prepare_of_another_file = differs _ 1 _ 4 tt

pub prepare_with_a_high_bit : Stands (set prepare 18 0x80) 28 (Prepare 5 2 extra) → ⊥
unfolding long word
prepare_with_a_high_bit = differs _ 1 _ 18 tt

pub prepare_of_another_size : Stands (set prepare 27 27) 28 (Prepare 5 2 extra) → ⊥
unfolding long word
prepare_of_another_size = differs _ 1 _ 27 tt

pub prepare_cut : RecordAt (take 43 (in_file prepare)) 1 2 (first 28 (Prepare 5 2 extra)) → ⊥
prepare_cut h = let short : 44 ≤ 43 = h.within in omega arith

-- ---- COMMIT

abbrev commit : List ℕ
commit = 0x12 ∷ 0 ∷ 0 ∷ 0 ∷ 1 ∷ 0 ∷ 0 ∷ 0 ∷ 0 ∷ 0 ∷ 0 ∷ 0 ∷ 0 ∷ 5 ∷ 0 ∷ 0 ∷ 0 ∷ 2 ∷ 0 ∷ 0 ∷ 0 ∷ 0x16 ∷ []

pub commit_stands : Stands commit 22 (Commit 5 2)
unfolding long word
commit_stands = stands commit 22 (Commit 5 2) (omega arith, omega arith) refl (omega arith) refl

pub commit_of_another_kind : Stands (set commit 0 0x14) 22 (Commit 5 2) → ⊥
unfolding long word
commit_of_another_kind = differs _ 1 _ 0 tt

pub commit_of_another_file : Stands (set commit 4 2) 22 (Commit 5 2) → ⊥
unfolding long word
commit_of_another_file = differs _ 1 _ 4 tt

pub commit_of_another_size : Stands (set commit 21 21) 22 (Commit 5 2) → ⊥
unfolding long word
commit_of_another_size = differs _ 1 _ 21 tt

pub commit_cut : RecordAt (take 37 (in_file commit)) 1 2 (first 22 (Commit 5 2)) → ⊥
commit_cut h = let short : 38 ≤ 37 = h.within in omega arith

-- ---- ROLLBACK

abbrev rollback : List ℕ
rollback = 0x13 ∷ 0 ∷ 0 ∷ 0 ∷ 1 ∷ 0 ∷ 0 ∷ 0 ∷ 0 ∷ 0 ∷ 0 ∷ 0 ∷ 0 ∷ 5 ∷ 0 ∷ 0 ∷ 0 ∷ 0x12 ∷ []

pub rollback_stands : Stands rollback 18 (Rollback 5)
unfolding long word
rollback_stands = stands rollback 18 (Rollback 5) omega arith refl (omega arith) refl

pub rollback_of_another_kind : Stands (set rollback 0 0x14) 18 (Rollback 5) → ⊥
unfolding long word
rollback_of_another_kind = differs _ 1 _ 0 tt

pub rollback_of_another_file : Stands (set rollback 4 2) 18 (Rollback 5) → ⊥
unfolding long word
rollback_of_another_file = differs _ 1 _ 4 tt

pub rollback_of_another_size : Stands (set rollback 17 17) 18 (Rollback 5) → ⊥
unfolding long word
rollback_of_another_size = differs _ 1 _ 17 tt

pub rollback_cut : RecordAt (take 33 (in_file rollback)) 1 2 (first 18 (Rollback 5)) → ⊥
rollback_cut h = let short : 34 ≤ 33 = h.within in omega arith
