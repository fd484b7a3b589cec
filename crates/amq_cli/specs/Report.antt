-- Writing a report in pieces.
use Rattle.std.specs.Prelude.{◌≡◌, ℕ, List, ◌++◌, Option}
use Rattle.amq_cli.specs.Offline.{IsWritten}

-- the sink has taken a front of the text, and the rest of it waits
pub record IsSent (text waiting : List ℕ) (old new : Option (List ℕ)) : Type 0 where
  pub sent : List ℕ
  pub is : text ≡ sent ++ waiting
  pub taken : IsWritten sent old new
