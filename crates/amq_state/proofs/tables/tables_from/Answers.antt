use Rattle.std.proofs.Common.{◌≡◌, ◌∙◌, sym, subst, List, rules}
use Rattle.std.proofs.lemmas.List.{map-id}
use Rattle.std.proofs.lemmas.Iterator.Adapters.{YieldsList-from_vec}
use Rattle.std.proofs.lemmas.Iterator.Consumers.{YieldsList-end}
use Rattle.amq_model.specs.declared.record.Placed.{Placed}
use Rattle.amq_state.specs.Follows.{Follows}
use Rattle.amq_state.proofs.TableLaws.{follows_more}
use Rattle.amq_state.proofs.tables.tables_from.Goals as goal

pub loop-placed-preserved : goal.loop-placed-preserved
loop-placed-preserved c = follows_more c.loop-placed.yielded c.in-Some.placed c.loop-placed.tables _ c.loop-placed.invariant c.in_ok-take_in.ensures.effect c.in_ok-take_in.ensures.turns c.in_ok-take_in.ensures.highest_tx

pub returns : goal.returns
returns c =
    let P : List Placed → Type 0 = λ ps. Follows ps c.loop-placed.tables in
    let start = c.into_iter-placed-iterator.ensures.into_iter_gives in
    let all : c.loop-placed.yielded ≡ c.args.list.items =
    sym (map-id c.loop-placed.yielded) ∙ (YieldsList-end (YieldsList-from_vec c.args.list.items start.0 (start.1 ∙ search rules)) c.loop-placed.yielded c.loop-placed.placed-iterator c.loop-placed.yielded_by c.next.result c.next.new.self c.in-None.is c.next.ensures.steps).0 in
    subst P all c.loop-placed.invariant
