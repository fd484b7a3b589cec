-- What the tables of a pass tell of the list behind them.
use Rattle.std.specs.Prelude.{◌≡◌, ℕ, List}
use Rattle.std.specs.Ordering.{nat_cmp}
use Rattle.std.specs.BTreeMap.{get}
use Rattle.amq_model.specs.declared.record.Placed.{Placed}
use Rattle.amq_model.specs.Effect.{in_effect}
use Rattle.amq_model.specs.Open.{highest_of}
use Rattle.amq_state.specs.declared.tables.Tables.{Tables}
use Rattle.amq_state.specs.Held.{held}
use Rattle.amq_state.specs.Turns.{told, turn_in}

-- the records in order of effect, what is open of each transaction, and the highest transaction number
pub record Follows (l : List Placed) (t : Tables) : Type 0 where
  pub effect : held t.effect.items ≡ in_effect l
  pub turns : (tx : ℕ) → told (get nat_cmp t.turns tx) ≡ turn_in l tx
  pub highest_tx : t.highest_tx ≡ highest_of l
