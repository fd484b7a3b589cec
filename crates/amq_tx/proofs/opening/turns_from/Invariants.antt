use Rattle.std.proofs.Common.{◌≡◌, ℕ, nat_eq, fold, take, [], None}
use Rattle.std.specs.Option.{option_map}
use Rattle.std.specs.HashMap.{get}
use Rattle.amq_tx.specs.Parts.{turn_of, ids_of}
use Rattle.amq_tx.specs.Starting.{turn_or, ids_or}
use Rattle.amq_tx.proofs.opening.turns_from.Given as goal

abbrev pub invariant-loop-open : goal.invariant-loop-open
invariant-loop-open l = record {
  turns : (q : ℕ) → option_map turn_of (get nat_eq l.turns q) ≡ fold (turn_or q) None (take l.open-index l.opened);
  ids : (q : ℕ) → ids_of (get nat_eq l.turns q) ≡ fold (ids_or q) [] (take l.open-index l.opened);
}
