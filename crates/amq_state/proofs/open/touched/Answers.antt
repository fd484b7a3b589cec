use Rattle.std.proofs.Common.{◌≡◌, ◌∙◌, ◌-◌, ℕ, [], ◌∷◌, length, drop, ap, sym, arith}
use Rattle.std.specs.Ordering.{nat_cmp}
use Rattle.std.specs.BTreeMap.{get}
use Rattle.std.specs.Cow.{cow_value}
use Rattle.std.proofs.Math.ListN.{drop_of_length-le}
use Rattle.std.proofs.lemmas.List.{length-map}
use Rattle.std.proofs.lemmas.Grind.{common_steps}
use Rattle.std.proofs.lemmas.Result.{IfOk-weaker}
use Rattle.amq_model.specs.declared.record.Placed.{Placed}
use Rattle.amq_model.specs.Open.{touched_by}
use Rattle.amq_state.specs.Held.{held}
use Rattle.amq_state.specs.Parts.{noted}
use Rattle.amq_state.proofs.HeldLaws.{held_place}
use Rattle.amq_state.proofs.TouchedLaws.{end_if_touched, noted_more, touched_are}
use Rattle.amq_state.proofs.open.touched.Goals as goal

pub loop-i-init : goal.loop-i-init
loop-i-init c =
    let none : drop (length c.args.changes.now) (held c.args.changes.now) ≡ [] = drop_of_length-le (held c.args.changes.now) (simp length-map (omega arith)) in
    λ id. rw none (grind (arith, common_steps))

pub loop-i-preserved : goal.loop-i-preserved
loop-i-preserved c = λ id.
    let here : drop (c.loop-i.i - 1) (held c.args.changes.now) ≡ cow_value c.index-changes-i.result ∷ drop c.loop-i.i (held c.args.changes.now) =
    held_place c.args.changes.now (c.loop-i.i - 1) c.index-changes-i.result (omega arith) c.index-changes-i.is ∙ ap (λ (n : ℕ). cow_value c.index-changes-i.result ∷ drop n (held c.args.changes.now)) (omega arith) in
    c.in_ok-touch.ensures id ∙ ap (λ (p : Placed). noted p id (get nat_cmp c.loop-i.last id)) c.deref.ensures ∙ ap (noted (cow_value c.index-changes-i.result) id) (c.loop-i.invariant id)
    ∙ noted_more id (cow_value c.index-changes-i.result) (drop c.loop-i.i (held c.args.changes.now)) ∙ ap (end_if_touched id) (sym here)

pub returns : goal.returns
returns c =
    let at : (id : ℕ) → get nat_cmp c.loop-i.last id ≡ end_if_touched id (held c.args.changes.now) =
    λ id. c.loop-i.invariant id ∙ ap (λ (n : ℕ). end_if_touched id (drop n (held c.args.changes.now))) (let front : c.loop-i.i ≡ 0 = omega arith in front) in
    IfOk-weaker c.listed.result (λ v. v.items ≡ c.loop-i.last.entries) (λ v. v.items ≡ touched_by (held c.args.changes.now)) (λ v e. e ∙ touched_are c.loop-i.last.entries (held c.args.changes.now) c.listed.ensures.ordered at) c.listed.ensures.entries
