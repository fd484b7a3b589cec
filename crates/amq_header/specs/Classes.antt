-- The class of a file's name, and the names that a journal makes.
use Rattle.std.specs.Prelude.{◌≡◌, ℕ, Bool, true, false, List, ◌++◌, Option, Some, None, codes}
use Rattle.std.specs.Option.{option_and_then}
use Rattle.std.specs.Fmt.{decimal}
use Rattle.amq_model.specs.Names.{same, before, data_number, compacted_number, compacted, control_name}
use Rattle.amq_header.specs.declared.classes.FileClass.{FileClass}
use Rattle.amq_header.specs.declared.classes.FileClass.TheVariants.{DataFile, Compacted, Temporary, Control, Other}

-- the one number, or the other, or none for a name that has none
abbrev pub first_number : Option ℕ → Option ℕ → Bool → Option (Option ℕ)
first_number (Some n) other plain = Some (Some n)
first_number None (Some n) plain = Some (Some n)
first_number None None true = Some None
first_number None None false = None

-- the N of a data file's or a compacted file's name, or no number for the control file's
abbrev pub number_in : List ℕ → Option (Option ℕ)
number_in name = first_number (data_number name) (compacted_number name) (same name control_name)

-- what a temporary name carries: the N of the name before .tmp, or no number
abbrev pub temporary_number : List ℕ → Option (Option ℕ)
temporary_number name = option_and_then number_in (before (codes ".tmp") name)

-- the name is of this class
abbrev pub IsOfClass : List ℕ → FileClass → Type 0
IsOfClass name (DataFile n) = data_number name ≡ Some n
IsOfClass name (Compacted n) = compacted_number name ≡ Some n
IsOfClass name (Temporary n) = temporary_number name ≡ Some n
IsOfClass name Control = name ≡ control_name
IsOfClass name Other = (data_number name ≡ None) × (compacted_number name ≡ None) × (temporary_number name ≡ None) × (name ≡ control_name → ⊥)

-- the name of a data file, without leading zeros
abbrev pub data_name : ℕ → List ℕ
data_name n = codes "activemq-data-" ++ (decimal n ++ codes ".amq")

-- the name of a compacted file
abbrev pub compacted_name : ℕ → List ℕ
compacted_name n = compacted (data_name n)

-- the name under which a data file is prepared
abbrev pub temporary_name : ℕ → List ℕ
temporary_name n = data_name n ++ codes ".tmp"
