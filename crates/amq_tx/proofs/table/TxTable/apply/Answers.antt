use Rattle.std.proofs.Common.{ℕ, ◌+◌, sym, subst, ap, ◌∙◌, ◌++◌, ◌∷◌, [], Some, None}
use Rattle.amq_model.specs.declared.command.Command.TheVariants as v
use Rattle.amq_tx.specs.State.{TxState}
use Rattle.amq_tx.specs.Follows.{Follows}
use Rattle.amq_tx.proofs.Steps.{accepted_follows}
use Rattle.amq_tx.proofs.table.TxTable.apply.Goals as goal

pub returns-clause-follows : goal.returns-clause-follows
returns-clause-follows c = λ base steps s k accepted. subst (λ (t : TxState). Follows t base (steps ++ s ∷ [])) (sym c.take_in.ensures.state) (accepted_follows _ base steps k c.args.command.now c.args.file s c.requires.checked accepted)

pub returns-clause-journal : goal.returns-clause-journal
returns-clause-journal c = λ base steps k. c.take_in.ensures.number ∙ ap (λ (n : ℕ). elim c.args.command.now [ v.Begin ↦ Some (n + 1) | _ ↦ None ]) k.highest
