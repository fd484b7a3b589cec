use Rattle.std.proofs.Common.{◌≡◌, ◌∙◌, ap, sym, arith, [], eqb, cond, Bool}
use Rattle.std.proofs.lemmas.Bool.{eq-eqb, ne_eqb}
use Rattle.amq_model.specs.Effect.{last_of}
use Rattle.amq_state.specs.Plain.{numbered, bytes_or_none}
use Rattle.amq_state.proofs.Lists.{last_more}
use Rattle.amq_state.proofs.law.last_extra.Goals.{then-number-tx, else-number-tx}
use Rattle.amq_state.proofs.law.last_extra.Goals as goal

pub loop-number-preserved : goal.loop-number-preserved
loop-number-preserved c =
    let one : bytes_or_none c.if-number-tx.last ≡ cond (eqb c.loop-number-item.result.0 c.args.tx) c.loop-number-item.result.1.now (bytes_or_none c.loop-number.last) =
    elim c.if-number-tx.branch [
      | then-number-tx w ↦ ap bytes_or_none w.last-is ∙ sym (ap (λ (b : Bool). cond b c.loop-number-item.result.1.now (bytes_or_none c.loop-number.last)) (eq-eqb c.loop-number-item.result.0 c.args.tx w.if-number-tx.true))
      | else-number-tx w ↦ ap bytes_or_none w.last-is ∙ sym (ap (λ (b : Bool). cond b c.loop-number-item.result.1.now (bytes_or_none c.loop-number.last)) (ne_eqb c.loop-number-item.result.0 c.args.tx w.if-number-tx.false))
    ] in
    last_more c.args.tx c.args.prepared.now c.loop-number.number-index c.loop-number-item.result c.loop-number.last c.if-number-tx.last (last_of c.args.tx (numbered c.args.prepared.now) []) (omega arith) c.loop-number-item.is c.loop-number.invariant one
