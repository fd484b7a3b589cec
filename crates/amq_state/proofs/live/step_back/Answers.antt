use Rattle.std.proofs.Common.{◌≡◌, ◌∙◌, false, Some, sym, ap, ⊎_elim}
use Rattle.std.specs.Ordering.{nat_cmp}
use Rattle.std.specs.BTreeSet.{contains}
use Rattle.std.specs.Cow.{cow_value}
use Rattle.std.proofs.lemmas.Result.{on_ok_weaker}
use Rattle.amq_model.specs.declared.record.Placed.{Placed}
use Rattle.amq_model.specs.Records.{brief_of}
use Rattle.amq_state.specs.Held.{held}
use Rattle.amq_state.proofs.HeldLaws.{put_id, stands_more}
use Rattle.amq_state.proofs.live.step_back.Goals as goal

pub returns-in-Put-clause-live : goal.returns-in-Put-clause-live
returns-in-Put-clause-live c =
    let id = c.in-Put.id in
    let kind : put_id c.brief.result ≡ Some id = ⊎_elim (λ e. ap put_id e) (λ e. ap put_id e.1) c.in-Put.is in
    let is : put_id (brief_of (cow_value c.args.placed).rec) ≡ Some id = ap (λ (p : Placed). put_id (brief_of p.rec)) (sym c.deref.ensures) ∙ ap put_id (sym c.brief.ensures) ∙ kind in
    let free : contains nat_cmp c.args.deleted.now id ≡ false = sym c.contains.ensures ∙ c.if-contains.false in
    on_ok_weaker c.push.result (λ more. stands_more (contains nat_cmp c.args.deleted.now) (cow_value c.args.placed) id (held c.args.live.now.items) (held c.push.new.records.items) is free more) c.push.ensures
