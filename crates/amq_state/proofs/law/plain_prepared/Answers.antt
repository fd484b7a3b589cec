use Rattle.std.proofs.Common.{◌≡◌, ◌∙◌, ◌+◌, ◌-◌, List, [], ◌++◌, length, take, drop, ap, sym, arith}
use Rattle.std.specs.Option.{option_to_list}
use Rattle.std.proofs.Math.ListN.{drop_of_length-le}
use Rattle.std.proofs.lemmas.List.{append-nil, length-drop, take_all}
use Rattle.amq_model.specs.declared.record.Placed.{Placed}
use Rattle.amq_model.specs.Effect.{prepared, prepared_here, prepared_from}
use Rattle.amq_state.specs.Plain.{numbered}
use Rattle.amq_state.proofs.Lists.{prepared_more}
use Rattle.amq_state.proofs.law.plain_prepared.Goals as goal

pub loop-i-preserved : goal.loop-i-preserved
loop-i-preserved c = prepared_more c.args.list.now c.loop-i.i c.index-list-i.result (prepared c.args.list.now) (numbered c.loop-i.prepared.items) (numbered c.prepare.new.prepared.items) (omega arith) c.index-list-i.is c.loop-i.invariant
    (c.in_ok-prepare.ensures
    ∙ ap (λ (ps : List Placed). numbered c.loop-i.prepared.items ++ option_to_list (prepared_here (take c.loop-i.i c.args.list.now) c.index-list-i.result ps))
    (take_all (length c.args.list.now - (c.loop-i.i + 1)) (drop (c.loop-i.i + 1) c.args.list.now) (simp length-drop (omega arith))))

pub returns : goal.returns
returns c =
    let done : drop c.loop-i.i c.args.list.now ≡ [] = drop_of_length-le c.args.list.now (omega arith) in
    sym (c.loop-i.invariant ∙ ap (λ (ps : List Placed). numbered c.loop-i.prepared.items ++ prepared_from (take c.loop-i.i c.args.list.now) ps) done ∙ append-nil (numbered c.loop-i.prepared.items))
