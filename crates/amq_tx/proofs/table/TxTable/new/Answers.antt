use Rattle.std.proofs.Common.{ℕ, eqb, [], List, None, refl, sym, ap, subst, ◌∙◌}
use Rattle.std.specs.Prelude.{fold}
use Rattle.std.specs.List.{list_any, flat_map}
use Rattle.std.specs.Option.{is_some}
use Rattle.std.specs.Map.{lookup}
use Rattle.amq_model.specs.declared.state.EntryEnd.{EntryEnd}
use Rattle.amq_model.specs.declared.state.OpenTx.{OpenTx}
use Rattle.amq_model.specs.Ids.{live_numbers}
use Rattle.amq_model.specs.Open.{open_txs}
use Rattle.amq_tx.specs.State.{TxState}
use Rattle.amq_tx.specs.Follows.{Follows}
use Rattle.amq_tx.proofs.States.{same_state}
use Rattle.amq_tx.proofs.Begins.{begins}
use Rattle.amq_tx.specs.Starting.{touches_of, ids_or, turn_or, started}
use Rattle.amq_tx.proofs.Starts.{all_listed, listed_below, mapped}
use Rattle.amq_tx.proofs.table.TxTable.new.Goals as goal

pub invariant_of-result : goal.invariant_of-result
invariant_of-result c =
    let opened : List OpenTx = c.args.opened.items in
    record {
      ids = λ q id is.
          let found = c.in_ok-touched_from.ensures id ∙ ap (flat_map (touches_of id)) c.deref-2.ensures.value in
          ap (list_any (eqb id)) (c.in_ok-turns_from.ensures.ids q ∙ ap (fold (ids_or q) []) c.deref-3.ensures.value)
          ∙ all_listed opened c.requires.opened.numbers [] q id (ap (λ (xs : List (ℕ × EntryEnd)). is_some (lookup (eqb q) xs)) (sym found) ∙ is);
      numbers = λ q is.
          let found = c.in_ok-turns_from.ensures.turns q ∙ ap (fold (turn_or q) None) c.deref-3.ensures.value in
          listed_below opened c.args.highest q None c.requires.opened.bounded (λ e. absurd cc) (ap is_some (sym found) ∙ mapped _ ∙ is);
    }

pub returns-clause-follows : goal.returns-clause-follows
returns-clause-follows c = λ base live opened highest.
    let told = same_state _ (started c.args.live.items c.args.opened.items c.args.highest)
    (λ id. c.in_ok-live_from.ensures id ∙ ap (list_any (eqb id)) c.deref.ensures.value)
    (λ id. c.in_ok-touched_from.ensures id ∙ ap (flat_map (touches_of id)) c.deref-2.ensures.value)
    (λ tx. c.in_ok-turns_from.ensures.turns tx ∙ ap (fold (turn_or tx) None) c.deref-3.ensures.value)
    refl in
    subst (λ (s : TxState). Follows s base [])
    (sym (told ∙ ap (λ (l : List ℕ). started l c.args.opened.items c.args.highest) live ∙ ap (λ (o : List OpenTx). started (live_numbers base) o c.args.highest) opened ∙ ap (started (live_numbers base) (open_txs base)) highest))
    (begins base)
