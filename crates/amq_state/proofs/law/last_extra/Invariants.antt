use Rattle.std.proofs.Common.{◌≡◌, drop, []}
use Rattle.amq_model.specs.Effect.{last_of}
use Rattle.amq_state.specs.Plain.{numbered, bytes_or_none}
use Rattle.amq_state.proofs.law.last_extra.Given as goal

-- what is left decides as all does
abbrev pub invariant-loop-number : goal.invariant-loop-number
invariant-loop-number l = last_of l.tx (drop l.number-index (numbered l.prepared)) (bytes_or_none l.last) ≡ last_of l.tx (numbered l.prepared) []
