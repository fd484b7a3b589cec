-- Scans of literal files.
use Rattle.std.proofs.Common.{◌≡◌, ℕ, zero, suc, ◌^◌, Bool, true, false, ltb, ◌&&◌, List, [], ◌∷◌, ◌++◌, length, take, refl, subst, arith}
use Rattle.std.specs.Prelude.{replicate}
use Rattle.std.proofs.lemmas.Bool.{ltb-true}
use Rattle.amq_model.specs.declared.record.Record.TheVariants.{Add, AddTx, Commit}
use Rattle.amq_model.specs.RecordAt.{Spot, IsBytes}
use Rattle.amq_model.specs.Scan.{IsScan}
use Rattle.amq_record.specs.Reading.{compact_at, read_at, front_of, fields_at, layout_at, typed_at, sized_at, len_at}
use Rattle.amq_scan.proofs.Scans.{scan_from, scan_of-is}

-- ---- what is computed

-- a test that literal bytes are bytes
abbrev are_bytes : List ℕ → Bool
are_bytes [] = true
are_bytes (b ∷ bs) = ltb b 256 && are_bytes bs

first_true : (a b : Bool) → (a && b) ≡ true → a ≡ true
first_true true b e = refl
first_true false b e = absurd cc

second_true : (a b : Bool) → (a && b) ≡ true → b ≡ true
second_true true b e = e
second_true false b e = absurd cc

bytes_by_test : (bs : List ℕ) → are_bytes bs ≡ true → IsBytes bs
bytes_by_test [] e i = omega arith
bytes_by_test (b ∷ bs) e zero = ltb-true b 256 (first_true (ltb b 256) (are_bytes bs) e)
bytes_by_test (b ∷ bs) e (suc i) = bytes_by_test bs (second_true (ltb b 256) (are_bytes bs) e) i

-- what reading from place to place finds is the scan
pub scan_by_reading : (bytes : List ℕ) (fid : ℕ) (spots : List Spot) → are_bytes bytes ≡ true → ltb fid (2 ^ 32) ≡ true → scan_from (length bytes) bytes fid 2 16 ≡ spots → IsScan bytes fid 2 spots
scan_by_reading bytes fid spots are small read = subst (IsScan bytes fid 2) read (scan_of-is bytes fid 2 (bytes_by_test bytes are) (ltb-true fid (2 ^ 32) small))

-- ---- bytes and spots

-- version 2, user version 0 and this id
abbrev pub header : ℕ → List ℕ
header id = 0 ∷ 0 ∷ 0 ∷ 2 ∷ 0 ∷ 0 ∷ 0 ∷ 0 ∷ 0 ∷ 0 ∷ 0 ∷ 0 ∷ 0 ∷ 0 ∷ 0 ∷ id ∷ []

-- an ADD of id 1, type 7 and body hi in a file of id 1, with these bytes for the body's length and this check size
abbrev add_with : List ℕ → ℕ → List ℕ
add_with len size = 0x0b ∷ 0 ∷ 0 ∷ 0 ∷ 1 ∷ 0 ∷ 0 ∷ 0 ∷ 0 ∷ 0 ∷ 0 ∷ 0 ∷ 0 ∷ 1 ∷ len ++ (7 ∷ 0x68 ∷ 0x69 ∷ 0 ∷ 0 ∷ 0 ∷ size ∷ [])

-- the record
abbrev pub add_hi : List ℕ
add_hi = add_with (0 ∷ 0 ∷ 0 ∷ 2 ∷ []) 0x19

-- an ADD of id 2, type 7 and body yo
abbrev pub add_yo : List ℕ
add_yo = 0x0b ∷ 0 ∷ 0 ∷ 0 ∷ 1 ∷ 0 ∷ 0 ∷ 0 ∷ 0 ∷ 0 ∷ 0 ∷ 0 ∷ 0 ∷ 2 ∷ 0 ∷ 0 ∷ 0 ∷ 2 ∷ 7 ∷ 0x79 ∷ 0x6f ∷ 0 ∷ 0 ∷ 0 ∷ 0x19 ∷ []

-- an ADD_TX of transaction 5, id 3, type 7 and body hi
abbrev add_tx_hi : List ℕ
add_tx_hi = 0x0d ∷ 0 ∷ 0 ∷ 0 ∷ 1 ∷ 0 ∷ 0 ∷ 0 ∷ 0 ∷ 0 ∷ 0 ∷ 0 ∷ 0 ∷ 5 ∷ 0 ∷ 0 ∷ 0 ∷ 0 ∷ 0 ∷ 0 ∷ 0 ∷ 3 ∷ 0 ∷ 0 ∷ 0 ∷ 2 ∷ 7 ∷ 0x68 ∷ 0x69 ∷ 0 ∷ 0 ∷ 0 ∷ 0x21 ∷ []

-- a COMMIT of transaction 5 with this number of records
abbrev commit_of : ℕ → List ℕ
commit_of count = 0x12 ∷ 0 ∷ 0 ∷ 0 ∷ 1 ∷ 0 ∷ 0 ∷ 0 ∷ 0 ∷ 0 ∷ 0 ∷ 0 ∷ 0 ∷ 5 ∷ 0 ∷ 0 ∷ 0 ∷ count ∷ 0 ∷ 0 ∷ 0 ∷ 0x16 ∷ []

abbrev pub hi_at : ℕ → Spot
hi_at place = record { place = place; len = 25; compact = 0; rec = Add 1 7 (0x68 ∷ 0x69 ∷ []) }

abbrev pub yo_at : ℕ → Spot
yo_at place = record { place = place; len = 25; compact = 0; rec = Add 2 7 (0x79 ∷ 0x6f ∷ []) }

abbrev tx_hi_at : ℕ → Spot
tx_hi_at place = record { place = place; len = 33; compact = 0; rec = AddTx 5 3 7 (0x68 ∷ 0x69 ∷ []) }

abbrev commit_at : ℕ → ℕ → Spot
commit_at place count = record { place = place; len = 22; compact = 0; rec = Commit 5 count }

-- ---- scans

-- a wrong check size: the first record is passed over, and the one behind it is found
pub check_size_is_wrong : IsScan (header 1 ++ (add_with (0 ∷ 0 ∷ 0 ∷ 2 ∷ []) 0x18 ++ add_yo)) 1 2 (yo_at 41 ∷ [])
unfolding compact_at read_at front_of fields_at layout_at typed_at sized_at len_at
check_size_is_wrong = scan_by_reading _ 1 (yo_at 41 ∷ []) refl refl refl

-- a body length whose highest bit is set
pub body_length_has_high_bit : IsScan (header 1 ++ (add_with (0xff ∷ 0xff ∷ 0xff ∷ 0xff ∷ []) 0x19 ++ add_yo)) 1 2 (yo_at 41 ∷ [])
unfolding compact_at read_at front_of fields_at layout_at typed_at sized_at len_at
body_length_has_high_bit = scan_by_reading _ 1 (yo_at 41 ∷ []) refl refl refl

-- a body that would end behind the file
pub body_is_too_long : IsScan (header 1 ++ (add_with (0x7f ∷ 0xff ∷ 0xff ∷ 0xff ∷ []) 0x19 ++ add_yo)) 1 2 (yo_at 41 ∷ [])
unfolding compact_at read_at front_of fields_at layout_at typed_at sized_at len_at
body_is_too_long = scan_by_reading _ 1 (yo_at 41 ∷ []) refl refl refl

-- a record of another file's id
pub other_file_id : IsScan (header 2 ++ add_hi) 2 2 []
unfolding compact_at read_at front_of fields_at layout_at typed_at sized_at len_at
other_file_id = scan_by_reading _ 2 [] refl refl refl

-- two records with filling between them
pub filling_between : IsScan (header 1 ++ (add_tx_hi ++ (replicate 33 0x4a ++ commit_of 2))) 1 2 (tx_hi_at 16 ∷ commit_at 82 2 ∷ [])
unfolding compact_at read_at front_of fields_at layout_at typed_at sized_at len_at
filling_between = scan_by_reading (header 1 ++ (add_tx_hi ++ (replicate 33 0x4a ++ commit_of 2))) 1 (tx_hi_at 16 ∷ commit_at 82 2 ∷ []) refl refl refl

-- one COMMIT alone
pub commit_alone : IsScan (header 1 ++ commit_of 0) 1 2 (commit_at 16 0 ∷ [])
unfolding compact_at read_at front_of fields_at layout_at typed_at sized_at len_at
commit_alone = scan_by_reading _ 1 (commit_at 16 0 ∷ []) refl refl refl

-- the same with a COMMIT of number 1
pub filling_between_and_one : IsScan (header 1 ++ (add_tx_hi ++ (replicate 33 0x4a ++ commit_of 1))) 1 2 (tx_hi_at 16 ∷ commit_at 82 1 ∷ [])
unfolding compact_at read_at front_of fields_at layout_at typed_at sized_at len_at
filling_between_and_one = scan_by_reading (header 1 ++ (add_tx_hi ++ (replicate 33 0x4a ++ commit_of 1))) 1 (tx_hi_at 16 ∷ commit_at 82 1 ∷ []) refl refl refl

-- a file with alignment 512: its header is padded with zeros
pub padded_header : IsScan (header 1 ++ (replicate 496 0 ++ add_hi)) 1 2 (hi_at 512 ∷ [])
unfolding compact_at read_at front_of fields_at layout_at typed_at sized_at len_at
padded_header = scan_by_reading _ 1 (hi_at 512 ∷ []) refl refl refl

-- a file of fewer bytes than a header
pub no_header : IsScan (0 ∷ 0 ∷ 0 ∷ 2 ∷ []) 1 2 []
unfolding compact_at read_at front_of fields_at layout_at typed_at sized_at len_at
no_header = scan_by_reading _ 1 [] refl refl refl

-- a record that ends with the file
pub ends_with_the_file : IsScan (header 1 ++ add_hi) 1 2 (hi_at 16 ∷ [])
unfolding compact_at read_at front_of fields_at layout_at typed_at sized_at len_at
ends_with_the_file = scan_by_reading _ 1 (hi_at 16 ∷ []) refl refl refl

-- a record that would end one byte behind the file
pub ends_behind_the_file : IsScan (take 40 (header 1 ++ add_hi)) 1 2 []
unfolding compact_at read_at front_of fields_at layout_at typed_at sized_at len_at
ends_behind_the_file = scan_by_reading (take 40 (header 1 ++ add_hi)) 1 [] refl refl refl

-- an ADD of id 3 and type 7 whose body holds two records, with this check size
abbrev add_of_both : ℕ → List ℕ
add_of_both size = 0x0b ∷ 0 ∷ 0 ∷ 0 ∷ 1 ∷ 0 ∷ 0 ∷ 0 ∷ 0 ∷ 0 ∷ 0 ∷ 0 ∷ 0 ∷ 3 ∷ 0 ∷ 0 ∷ 0 ∷ 50 ∷ 7 ∷ add_hi ++ (add_yo ++ (0 ∷ 0 ∷ 0 ∷ size ∷ []))

-- its check size lies: the two records within it are found
pub overlapping_size_lies : IsScan (header 1 ++ add_of_both 0x48) 1 2 (hi_at 35 ∷ yo_at 60 ∷ [])
unfolding compact_at read_at front_of fields_at layout_at typed_at sized_at len_at
overlapping_size_lies = scan_by_reading _ 1 (hi_at 35 ∷ yo_at 60 ∷ []) refl refl refl

-- its check size is its length: it is found, and nothing within it
pub overlapping_size_holds : IsScan (header 1 ++ add_of_both 0x49) 1 2 (record { place = 16; len = 73; compact = 0; rec = Add 3 7 (add_hi ++ add_yo) } ∷ [])
unfolding compact_at read_at front_of fields_at layout_at typed_at sized_at len_at
overlapping_size_holds = scan_by_reading _ 1 (record { place = 16; len = 73; compact = 0; rec = Add 3 7 (add_hi ++ add_yo) } ∷ []) refl refl refl

-- a check size that says the record reaches over the one behind it: that one is found
pub size_reaches_over : IsScan (header 1 ++ (add_hi ++ (add_with (0 ∷ 0 ∷ 0 ∷ 2 ∷ []) 0x32 ++ add_yo))) 1 2 (hi_at 16 ∷ yo_at 66 ∷ [])
unfolding compact_at read_at front_of fields_at layout_at typed_at sized_at len_at
size_reaches_over = scan_by_reading _ 1 (hi_at 16 ∷ yo_at 66 ∷ []) refl refl refl
