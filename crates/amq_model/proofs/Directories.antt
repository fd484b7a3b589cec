-- Names, and what the files of a directory are and lack.
use Rattle.std.proofs.Common.{◌≡◌, ℕ, ◌%◌, ◌^◌, true, false, List, [], ◌∷◌, ◌++◌, map, Option, Some, None, codes, refl}
use Rattle.amq_model.specs.declared.directory.Control.{Control}
use Rattle.amq_model.specs.declared.directory.DirFault.TheVariants.{Version, UserVersion, TwoFiles}
use Rattle.amq_model.specs.Names.{data_number, compacted_number, is_data, is_compacted, is_temporary, control_name}
use Rattle.amq_model.specs.Directory.{Listing, data_files, fault}

-- ---- names

pub a_data_name : data_number (codes "activemq-data-1.amq") ≡ Some 1
a_data_name = refl

pub leading_zeros : data_number (codes "activemq-data-0012.amq") ≡ Some 12
leading_zeros = refl

pub the_highest_number : data_number (codes "activemq-data-9223372036854775807.amq") ≡ Some 9223372036854775807
the_highest_number = refl

pub one_above_the_highest : data_number (codes "activemq-data-9223372036854775808.amq") ≡ None
one_above_the_highest = refl

pub nineteen_digits : data_number (codes "activemq-data-0000000000000000007.amq") ≡ Some 7
nineteen_digits = refl

pub twenty_digits : data_number (codes "activemq-data-00000000000000000007.amq") ≡ None
twenty_digits = refl

pub no_digit : data_number (codes "activemq-data-.amq") ≡ None
no_digit = refl

pub a_letter : data_number (codes "activemq-data-1a.amq") ≡ None
a_letter = refl

pub a_sign : data_number (codes "activemq-data-+1.amq") ≡ None
a_sign = refl

pub another_front : data_number (codes "Activemq-data-1.amq") ≡ None
another_front = refl

pub another_back : data_number (codes "activemq-data-1.amqx") ≡ None
another_back = refl

pub cut_short : data_number (codes "activemq-data-1") ≡ None
cut_short = refl

pub a_compacted_name : compacted_number (codes "activemq-data-9223372036854775807.amq.cmp") ≡ Some 9223372036854775807
a_compacted_name = refl

pub a_compacted_name_is_no_data_name : is_data (codes "activemq-data-3.amq.cmp") ≡ false
a_compacted_name_is_no_data_name = refl

pub a_data_name_is_no_compacted_name : is_compacted (codes "activemq-data-3.amq") ≡ false
a_data_name_is_no_compacted_name = refl

pub a_compacted_twice : is_compacted (codes "activemq-data-3.amq.cmp.cmp") ≡ false
a_compacted_twice = refl

pub a_temporary_data_file : is_temporary (codes "activemq-data-1.amq.tmp") ≡ true
a_temporary_data_file = refl

pub a_temporary_compacted_file : is_temporary (codes "activemq-data-1.amq.cmp.tmp") ≡ true
a_temporary_compacted_file = refl

pub a_temporary_control_file : is_temporary (codes "journal-rename-control.ctr.tmp") ≡ true
a_temporary_control_file = refl

pub temporary_twice : is_temporary (codes "activemq-data-1.amq.tmp.tmp") ≡ false
temporary_twice = refl

pub temporary_notes : is_temporary (codes "notes.txt.tmp") ≡ false
temporary_notes = refl

-- ---- data files

-- a header of this version, user version and id
abbrev header : ℕ → ℕ → ℕ → List ℕ
header version user id = 0 ∷ 0 ∷ 0 ∷ version ∷ 0 ∷ 0 ∷ 0 ∷ user ∷ 0 ∷ 0 ∷ 0 ∷ 0 ∷ 0 ∷ 0 ∷ 0 ∷ id ∷ []

abbrev names_of : Listing → Option Control → List (List ℕ)
names_of listing control = map (λ f. f.name) (data_files listing control)

-- by their headers' ids, whatever their names say
pub ascending_by_id : names_of ((codes "activemq-data-1.amq", header 2 0 7) ∷ (codes "activemq-data-2.amq", header 2 0 3) ∷ (codes "activemq-data-9.amq", header 2 0 5) ∷ []) None
    ≡ codes "activemq-data-2.amq" ∷ codes "activemq-data-9.amq" ∷ codes "activemq-data-1.amq" ∷ []
ascending_by_id = refl

pub one_file_says : data_files ((codes "activemq-data-1.amq", header 2 9 7 ++ 0x4a ∷ []) ∷ []) None
    ≡ record { name = codes "activemq-data-1.amq"; version = 2; user_version = 9; id = 7; bytes = header 2 9 7 ++ 0x4a ∷ [] } ∷ []
one_file_says = refl

-- the id that a file's records carry
pub the_lowest_31_bits : 2147483653 % 2 ^ 31 ≡ 5
the_lowest_31_bits = refl

pub fifteen_bytes : names_of ((codes "activemq-data-1.amq", 0 ∷ 0 ∷ 0 ∷ 2 ∷ 0 ∷ 0 ∷ 0 ∷ 0 ∷ 0 ∷ 0 ∷ 0 ∷ 0 ∷ 0 ∷ 0 ∷ 0 ∷ []) ∷ (codes "notes.txt", header 2 0 4) ∷ []) None ≡ []
fifteen_bytes = refl

-- two old files, of which one is there, and one packed file
abbrev compacting : Listing
compacting = (codes "activemq-data-2.amq", header 2 0 2) ∷ (codes "activemq-data-3.amq.cmp", header 2 0 1) ∷ (control_name, header 2 0 0) ∷ []

abbrev control : Control
control = record { olds = codes "activemq-data-1.amq" ∷ codes "activemq-data-2.amq" ∷ []; news = codes "activemq-data-3.amq.cmp" ∷ [] }

pub with_its_control_file : names_of compacting (Some control) ≡ codes "activemq-data-3.amq.cmp" ∷ []
with_its_control_file = refl

pub without_a_control_file : names_of compacting None ≡ codes "activemq-data-2.amq" ∷ []
without_a_control_file = refl

-- the packed file stands under its later name already
pub renamed_already : names_of ((codes "activemq-data-2.amq", header 2 0 2) ∷ (codes "activemq-data-3.amq", header 2 0 1) ∷ (control_name, header 2 0 0) ∷ []) (Some control) ≡ codes "activemq-data-3.amq" ∷ []
renamed_already = refl

-- where both names are there the packed file counts, also where it is too short to
pub in_the_place_of : names_of ((codes "activemq-data-3.amq", header 2 0 4) ∷ (codes "activemq-data-3.amq.cmp", header 2 0 1) ∷ (control_name, header 2 0 0) ∷ []) (Some control) ≡ codes "activemq-data-3.amq.cmp" ∷ []
in_the_place_of = refl

pub too_short_in_the_place_of : names_of ((codes "activemq-data-3.amq", header 2 0 4) ∷ (codes "activemq-data-3.amq.cmp", 0 ∷ []) ∷ (control_name, header 2 0 0) ∷ []) (Some control) ≡ []
too_short_in_the_place_of = refl

-- a packed file that the control file doesn't list
pub unlisted : names_of ((codes "activemq-data-4.amq.cmp", header 2 0 1) ∷ (control_name, header 2 0 0) ∷ []) (Some control) ≡ []
unlisted = refl

-- ---- faults

pub no_fault : fault ((codes "activemq-data-1.amq", header 2 0 1) ∷ (codes "activemq-data-9.amq", header 2 0 2) ∷ []) None 0 ≡ None
no_fault = refl

pub two_files_of_one_id : fault ((codes "activemq-data-1.amq", header 2 0 1) ∷ (codes "activemq-data-9.amq", header 2 0 1) ∷ []) None 0 ≡ Some (TwoFiles 1 (codes "activemq-data-1.amq") (codes "activemq-data-9.amq"))
two_files_of_one_id = refl

-- the least id that two share, with the first two names
pub three_files_of_one_id : fault ((codes "activemq-data-1.amq", header 2 0 8) ∷ (codes "activemq-data-2.amq", header 2 0 5) ∷ (codes "activemq-data-3.amq", header 2 0 8) ∷ (codes "activemq-data-4.amq", header 2 0 5) ∷ (codes "activemq-data-5.amq", header 2 0 5) ∷ []) None 0
    ≡ Some (TwoFiles 5 (codes "activemq-data-2.amq") (codes "activemq-data-4.amq"))
three_files_of_one_id = refl

pub another_version : fault ((codes "activemq-data-1.amq", header 3 0 1) ∷ []) None 0 ≡ Some (Version (codes "activemq-data-1.amq") 3)
another_version = refl

pub another_user_version : fault ((codes "activemq-data-1.amq", header 2 4 1) ∷ []) None 7 ≡ Some (UserVersion (codes "activemq-data-1.amq") 4 7)
another_user_version = refl

pub the_wanted_user_version : fault ((codes "activemq-data-1.amq", header 2 7 1) ∷ []) None 7 ≡ None
the_wanted_user_version = refl

-- of one file the version goes first
pub both_versions : fault ((codes "activemq-data-1.amq", header 3 4 1) ∷ []) None 0 ≡ Some (Version (codes "activemq-data-1.amq") 3)
both_versions = refl

-- of two files the first name, whatever the faults are
pub by_name : fault ((codes "activemq-data-1.amq", header 2 4 2) ∷ (codes "activemq-data-2.amq", header 3 0 1) ∷ []) None 0 ≡ Some (UserVersion (codes "activemq-data-1.amq") 4 0)
by_name = refl

-- a fault of one file goes before two files of one id
pub one_file_first : fault ((codes "activemq-data-1.amq", header 2 0 1) ∷ (codes "activemq-data-2.amq", header 2 0 1) ∷ (codes "activemq-data-3.amq", header 1 0 3) ∷ []) None 0 ≡ Some (Version (codes "activemq-data-3.amq") 1)
one_file_first = refl

pub too_short_has_no_fault : fault ((codes "activemq-data-1.amq", 0 ∷ 0 ∷ 0 ∷ 3 ∷ 0 ∷ 0 ∷ 0 ∷ 0 ∷ 0 ∷ 0 ∷ []) ∷ []) None 0 ≡ None
too_short_has_no_fault = refl

-- what the control file leaves out has none either
pub left_out_has_no_fault : fault ((codes "activemq-data-2.amq", header 3 0 1) ∷ (codes "activemq-data-3.amq.cmp", header 2 0 1) ∷ (control_name, header 2 0 0) ∷ []) (Some control) 0 ≡ None
left_out_has_no_fault = refl
