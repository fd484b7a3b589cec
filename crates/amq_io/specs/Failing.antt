-- Which calls fail that a disk, a source or a sink in memory is told to fail.
use Rattle.std.specs.Prelude.{◌==◌, ℕ, Bool, List}
use Rattle.std.specs.List.{list_any}

-- the call with this number is to fail
abbrev pub is_to_fail : List ℕ → ℕ → Bool
is_to_fail fails number = list_any (λ n. n == number) fails
