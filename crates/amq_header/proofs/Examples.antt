-- Headers and names, computed.
use Rattle.std.proofs.Common.{◌≡◌, ℕ, List, [], ◌∷◌, ◌++◌, codes, Some, None, slice_index, refl, ap}
use Rattle.amq_model.specs.RecordAt.{long, word}
use Rattle.amq_model.proofs.Literals.{unequal}
use Rattle.amq_header.specs.declared.classes.FileClass.TheVariants.{DataFile, Compacted, Temporary, Other}
use Rattle.amq_header.specs.Headers.{header_bytes, header_in}
use Rattle.amq_header.specs.Classes.{IsOfClass}

-- ---- headers

abbrev first : List ℕ
first = 0 ∷ 0 ∷ 0 ∷ 2 ∷ 0 ∷ 0 ∷ 0 ∷ 0 ∷ 0 ∷ 0 ∷ 0 ∷ 0 ∷ 0 ∷ 0 ∷ 0 ∷ 1 ∷ []

pub first_is_written : header_bytes (record { version = 2; user_version = 0; id = 1 }) ≡ first
unfolding long word
first_is_written = refl

pub first_is_read : header_in (first ++ 0x0b ∷ 0 ∷ []) ≡ Some (record { version = 2; user_version = 0; id = 1 })
first_is_read = refl

pub fields_in_their_places : header_in (0 ∷ 0 ∷ 0 ∷ 3 ∷ 1 ∷ 2 ∷ 3 ∷ 4 ∷ 0 ∷ 0 ∷ 0 ∷ 1 ∷ 2 ∷ 3 ∷ 4 ∷ 5 ∷ []) ≡ Some (record { version = 3; user_version = 0x01020304; id = 0x102030405 })
fields_in_their_places = refl

pub fifteen_bytes : header_in (0 ∷ 0 ∷ 0 ∷ 2 ∷ 0 ∷ 0 ∷ 0 ∷ 0 ∷ 0 ∷ 0 ∷ 0 ∷ 0 ∷ 0 ∷ 0 ∷ 0 ∷ []) ≡ None
fifteen_bytes = refl

-- ---- names

pub data_file : IsOfClass (codes "activemq-data-1.amq") (DataFile 1)
data_file = refl

pub leading_zeros : IsOfClass (codes "activemq-data-0001.amq") (DataFile 1)
leading_zeros = refl

pub greatest : IsOfClass (codes "activemq-data-9223372036854775807.amq") (DataFile 9223372036854775807)
greatest = refl

pub compacted_file : IsOfClass (codes "activemq-data-1.amq.cmp") (Compacted 1)
compacted_file = refl

pub temporary_file : IsOfClass (codes "activemq-data-1.amq.tmp") (Temporary (Some 1))
temporary_file = refl

pub temporary_compacted_file : IsOfClass (codes "activemq-data-12.amq.cmp.tmp") (Temporary (Some 12))
temporary_compacted_file = refl

pub temporary_control_file : IsOfClass (codes "journal-rename-control.ctr.tmp") (Temporary None)
temporary_control_file = refl

pub above_the_greatest : IsOfClass (codes "activemq-data-9223372036854775808.amq") Other
above_the_greatest = (refl, refl, refl, λ e. unequal 97 106 tt (ap (λ l. slice_index l 0) e))

pub no_number : IsOfClass (codes "activemq-data-.amq") Other
no_number = (refl, refl, refl, λ e. unequal 97 106 tt (ap (λ l. slice_index l 0) e))

pub twenty_digits : IsOfClass (codes "activemq-data-00000000000000000001.amq") Other
twenty_digits = (refl, refl, refl, λ e. unequal 97 106 tt (ap (λ l. slice_index l 0) e))

pub temporary_twice : IsOfClass (codes "activemq-data-1.amq.tmp.tmp") Other
temporary_twice = (refl, refl, refl, λ e. unequal 97 106 tt (ap (λ l. slice_index l 0) e))

pub notes : IsOfClass (codes "notes.txt") Other
notes = (refl, refl, refl, λ e. unequal 110 106 tt (ap (λ l. slice_index l 0) e))
