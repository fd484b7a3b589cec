-- What a file's name says.
use Rattle.std.specs.Prelude.{ℕ, ◌+◌, ◌-◌, ◌*◌, ◌^◌, Bool, false, ◌&&◌, ◌||◌, nat_lt, nat_le, ◌==◌, if◌then◌else◌, List, ◌++◌, length, take, drop, Option, Some, None, is_some, codes, fold}
use Rattle.std.specs.List.{list_all}
use Rattle.std.specs.Option.{option_and_then}
use Rattle.std.specs.Cmp.Lexicographic.{pointwise}

-- two names are one
abbrev pub same : List ℕ → List ℕ → Bool
same a b = pointwise ◌==◌ a b

-- what stands behind the front, if the name begins so
abbrev pub behind : List ℕ → List ℕ → Option (List ℕ)
behind front name = if same (take (length front) name) front then Some (drop (length front) name) else None

-- what stands before the back, if the name ends so
abbrev pub before : List ℕ → List ℕ → Option (List ℕ)
before back name = let n = length name - length back in if same (drop n name) back then Some (take n name) else None

-- 0 to 9
abbrev pub is_digit : ℕ → Bool
is_digit b = nat_le 48 b && nat_le b 57

-- the number that digits spell
abbrev pub value_of : List ℕ → ℕ
value_of digits = fold (λ n d. n * 10 + (d - 48)) 0 digits

-- 1 to 19 digits, at most 2 ^ 63 - 1
abbrev pub number_spelled : List ℕ → Option ℕ
number_spelled digits = if nat_le 1 (length digits) && nat_le (length digits) 19 && list_all is_digit digits && nat_lt (value_of digits) (2 ^ 63) then Some (value_of digits) else None

-- the N of a data file's name
abbrev pub data_number : List ℕ → Option ℕ
data_number name = option_and_then (λ rest. option_and_then number_spelled (before (codes ".amq") rest)) (behind (codes "activemq-data-") name)

-- the name of a data file
abbrev pub is_data : List ℕ → Bool
is_data name = is_some (data_number name)

-- the compacted file's name beside a data file's
abbrev pub compacted : List ℕ → List ℕ
compacted name = name ++ codes ".cmp"

-- the N of a compacted file's name
abbrev pub compacted_number : List ℕ → Option ℕ
compacted_number name = option_and_then data_number (before (codes ".cmp") name)

-- the name of a compacted file
abbrev pub is_compacted : List ℕ → Bool
is_compacted name = is_some (compacted_number name)

-- the control file's one name
abbrev pub control_name : List ℕ
control_name = codes "journal-rename-control.ctr"

-- a data file's, a compacted file's or the control file's name with .tmp behind it once
abbrev pub is_temporary : List ℕ → Bool
is_temporary name = elim (before (codes ".tmp") name) [ None ↦ false | Some front ↦ is_data front || is_compacted front || same front control_name ]
