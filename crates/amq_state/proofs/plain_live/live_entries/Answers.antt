use Rattle.std.proofs.Common.{◌≡◌, ◌∙◌, ◌-◌, ◌||◌, ℕ, Bool, ◌∷◌, [], length, drop, refl, sym, ap, arith}
use Rattle.std.proofs.lemmas.List.{length-map}
use Rattle.std.proofs.lemmas.Grind.{common_steps}
use Rattle.std.specs.Prelude.{reverse}
use Rattle.std.specs.List.{list_any}
use Rattle.std.specs.Ordering.{nat_cmp}
use Rattle.std.specs.BTreeSet.{contains}
use Rattle.std.proofs.Math.ListN.{drop_of_length-le}
use Rattle.amq_model.specs.Effect.{deletes, remaining}
use Rattle.amq_state.proofs.Backward.{from_place, one_more}
use Rattle.amq_state.specs.Backward.{values}
use Rattle.amq_state.proofs.plain_live.live_entries.Goals as goal

pub loop-i-init : goal.loop-i-init
loop-i-init c =
    let none : drop (length c.args.effect.now) (values c.args.effect.now) ≡ [] = drop_of_length-le (values c.args.effect.now) (simp length-map (omega arith)) in
    record {
      deleted = λ id. rw none (grind (arith, common_steps));
      entries = rw (none, c.new-entries.ensures.items) refl;
    }

pub loop-i-preserved : goal.loop-i-preserved
loop-i-preserved c =
    let here : drop (c.loop-i.i - 1) (values c.args.effect.now) ≡ c.index-effect-i.result.now ∷ drop c.loop-i.i (values c.args.effect.now) =
    from_place c.args.effect.now (c.loop-i.i - 1) c.index-effect-i.result (omega arith) c.index-effect-i.is ∙ ap (λ (n : ℕ). c.index-effect-i.result.now ∷ drop n (values c.args.effect.now)) (omega arith) in
    record {
      deleted = λ id. c.in_ok-step_back.ensures.deleted id ∙ ap (λ (b : Bool). deletes id c.index-effect-i.result.now || b) (c.loop-i.invariant.deleted id) ∙ ap (list_any (deletes id)) (sym here);
      entries = ap reverse c.in_ok-step_back.ensures.entries
          ∙ one_more (contains nat_cmp c.loop-i.deleted) c.index-effect-i.result.now (drop c.loop-i.i (values c.args.effect.now)) c.loop-i.entries.items c.loop-i.invariant.deleted c.loop-i.invariant.entries
          ∙ ap remaining (sym here);
    }

pub returns : goal.returns
returns c =
    let front : c.loop-i.i ≡ 0 = omega arith in
    c.reverse.ensures.items ∙ c.loop-i.invariant.entries ∙ ap (λ (n : ℕ). remaining (drop n (values c.args.effect.now))) front
