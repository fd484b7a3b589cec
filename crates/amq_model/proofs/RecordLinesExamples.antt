-- Record lines that are computed.
use Rattle.std.proofs.Common.{◌≡◌, ℕ, List, [], ◌∷◌, codes, refl}
use Rattle.std.specs.Fmt.{digits}
use Rattle.amq_model.specs.declared.directory.DataFile.{DataFile}
use Rattle.amq_model.specs.declared.record.Placed.{Placed}
use Rattle.amq_model.specs.declared.record.Record.{Record}
use Rattle.amq_model.specs.declared.record.Record.TheVariants as r
use Rattle.amq_model.specs.RecordLines.{record_line, record_lines_of}

abbrev hi : List ℕ
hi = 104 ∷ 105 ∷ []

-- a record at place 16 of file 1
abbrev first : Record → Placed
first rec = record { file = 1; place = 16; compact = 0; rec = rec }

add : record_line (first (r.Add 1 7 hi)) ≡ codes "16 ADD compact 0 id 1 type 7 body 6869\n"
unfolding digits
add = refl

update : record_line record { file = 1; place = 41; compact = 255; rec = r.Update 1 255 [] } ≡ codes "41 UPDATE compact 255 id 1 type 255 body -\n"
unfolding digits
update = refl

add_tx : record_line (first (r.AddTx 5 3 7 hi)) ≡ codes "16 ADD_TX compact 0 tx 5 id 3 type 7 body 6869\n"
unfolding digits
add_tx = refl

update_tx : record_line (first (r.UpdateTx 5 3 8 [])) ≡ codes "16 UPDATE_TX compact 0 tx 5 id 3 type 8 body -\n"
unfolding digits
update_tx = refl

delete_tx : record_line (first (r.DeleteTx 5 1 [])) ≡ codes "16 DELETE_TX compact 0 tx 5 id 1 body -\n"
unfolding digits
delete_tx = refl

delete : record_line (first (r.Delete 1)) ≡ codes "16 DELETE compact 0 id 1\n"
unfolding digits
delete = refl

prepare : record_line (first (r.Prepare 5 2 (1 ∷ 175 ∷ []))) ≡ codes "16 PREPARE compact 0 tx 5 number 2 extra 01af\n"
unfolding digits
prepare = refl

commit : record_line (first (r.Commit 5 2)) ≡ codes "16 COMMIT compact 0 tx 5 number 2\n"
unfolding digits
commit = refl

rollback : record_line (first (r.Rollback 5)) ≡ codes "16 ROLLBACK compact 0 tx 5\n"
unfolding digits
rollback = refl

abbrev file_1 : DataFile
file_1 = record { name = codes "activemq-data-1.amq"; id = 1; len = 1024; version = 2 }

abbrev file_3 : DataFile
file_3 = record { name = codes "activemq-data-2.amq.cmp"; id = 3; len = 1024; version = 1 }

nothing : record_lines_of [] (first (r.Delete 1) ∷ []) 0 ≡ []
nothing = refl

-- a file with two records
one_file : record_lines_of (file_1 ∷ []) (first (r.AddTx 5 3 7 hi) ∷ record { file = 1; place = 82; compact = 0; rec = r.Commit 5 2 } ∷ []) 0
    ≡ codes "file 1 activemq-data-1.amq version 2 user 0\n16 ADD_TX compact 0 tx 5 id 3 type 7 body 6869\n82 COMMIT compact 0 tx 5 number 2\n"
unfolding digits
one_file = refl

-- a file without records, and a record of no file
two_files : record_lines_of (file_1 ∷ file_3 ∷ []) (record { file = 2; place = 16; compact = 0; rec = r.Delete 1 } ∷ record { file = 3; place = 16; compact = 1; rec = r.Delete 2 } ∷ []) 6
    ≡ codes "file 1 activemq-data-1.amq version 2 user 6\nfile 3 activemq-data-2.amq.cmp version 1 user 6\n16 DELETE compact 1 id 2\n"
unfolding digits
two_files = refl
