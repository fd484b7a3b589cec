-- The script that is made from a number.
use Rattle.std.specs.Prelude.{ℕ, zero, suc, ◌+◌, ◌-◌, ◌*◌, ◌/◌, ◌%◌, ◌^◌, nat_lt, ◌==◌, if◌then◌else◌, List, [], ◌∷◌, ◌++◌, map, codes}
use Rattle.std.specs.List.{flat_map, range_with_len}
use Rattle.amq_model.specs.declared.command.Command.{Command}
use Rattle.amq_model.specs.declared.command.Command.TheVariants as c
use Rattle.amq_model.specs.declared.script.Line.{Line}
use Rattle.amq_model.specs.declared.script.Line.TheVariants as l

-- the sequence of x: the number in 64 bits, and then each from the one before
abbrev pub x_at : ℕ → ℕ → ℕ
x_at number zero = number % 2 ^ 64
x_at number (suc k) = (x_at number k * 6364136223846793005 + 1442695040888963407) % 2 ^ 64

-- the r of the k-th record
abbrev pub r_at : ℕ → ℕ → ℕ
r_at number k = x_at number k / 2 ^ 33

-- the body of an r: r mod 200 bytes, of which byte j is r + j mod 256
abbrev pub body_made : ℕ → List ℕ
body_made r = map (λ j. (r + j) % 256) (range_with_len 0 (r % 200))

-- a transaction of one command
abbrev pub transaction : Command → List Line
transaction command = l.Labelled (codes "t") c.Begin ∷ l.Labelled (codes "t") command ∷ l.Labelled (codes "t") (c.Commit 0) ∷ []

-- the delete of the record 16 before the k-th, if there is one
abbrev pub delete_behind : ℕ → List Line
delete_behind k = if nat_lt 16 k then transaction (c.DeleteTx 0 (k - 16) []) else []

-- a flush at each 64th record, and a reclaim at each 256th
abbrev pub upkeep_behind : ℕ → List Line
upkeep_behind k = (if k % 64 == 0 then l.Plain c.Flush ∷ [] else []) ++ (if k % 256 == 0 then l.Reclaim ∷ [] else [])

-- the lines of the k-th record, whose body is made from this r
abbrev pub lines_made : ℕ → ℕ → List Line
lines_made k r = transaction (c.AddTx 0 k 31 (body_made r)) ++ delete_behind k ++ upkeep_behind k

-- the script of a number, of one producer: the lines of its records from the first on
abbrev pub made_from : ℕ → List (List Line)
made_from number = flat_map (λ k. lines_made k (r_at number k)) (range_with_len 1 number) ∷ []
