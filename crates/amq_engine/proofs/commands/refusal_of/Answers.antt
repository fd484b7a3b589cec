use Rattle.std.proofs.Common.{sym, subst}
use Rattle.std.specs.Prelude.{IfSome}
use Rattle.amq_engine.specs.Engine.{IsCommandRefusal}
use Rattle.amq_tx.specs.Tables.{state_of}
use Rattle.amq_engine.proofs.Commanding.{table_kind}
use Rattle.amq_engine.proofs.commands.refusal_of.Goals as goal

pub returns-in-Err-clause-kind : goal.returns-in-Err-clause-kind
returns-in-Err-clause-kind c = subst (λ o. IfSome o IsCommandRefusal) (sym c.in-Err.ensures.state) (table_kind (state_of c.args.table.now) c.args.command.now)
