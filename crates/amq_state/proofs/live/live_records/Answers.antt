use Rattle.std.proofs.Common.{◌≡◌, ◌∙◌, Bool, List, [], ◌∷◌, ◌++◌, ◌||◌, refl, sym, ap, arith}
use Rattle.std.specs.Prelude.{reverse}
use Rattle.std.specs.List.{filter_map}
use Rattle.std.specs.Ordering.{nat_cmp}
use Rattle.std.specs.BTreeSet.{contains}
use Rattle.std.specs.Cow.{cow_value}
use Rattle.std.specs.declared.borrow.Cow.{Cow}
use Rattle.std.proofs.lemmas.List.{append-nil, nil_from_length}
use Rattle.std.proofs.lemmas.Grind.{common_steps}
use Rattle.amq_model.specs.declared.record.Placed.{Placed}
use Rattle.amq_model.specs.Effect.{deletes, entry_of, remaining}
use Rattle.amq_state.specs.Held.{held}
use Rattle.amq_state.proofs.Backward.{one_more}
use Rattle.amq_state.proofs.HeldLaws.{popped, found_reversed_held}
use Rattle.amq_state.proofs.live.live_records.Goals as goal

pub loop-placed-init : goal.loop-placed-init
loop-placed-init c = record {
  done = [];
  all = append-nil (held c.args.effect.items);
  deleted = λ id. grind (arith, common_steps);
  live = rw c.new-live.ensures.items refl;
}

pub loop-placed-preserved : goal.loop-placed-preserved
loop-placed-preserved c =
    record {
      done = cow_value c.in-Some.placed ∷ c.loop-placed.invariant.done;
      all = popped c.loop-placed.effect.items c.pop.new.self.items c.in-Some.placed c.loop-placed.invariant.done (held c.args.effect.items) c.in-Some.ensures.items c.loop-placed.invariant.all;
      deleted = λ id. c.in_ok-step_back.ensures.deleted id ∙ ap (λ (b : Bool). deletes id (cow_value c.in-Some.placed) || b) (c.loop-placed.invariant.deleted id);
      live = ap reverse c.in_ok-step_back.ensures.live
          ∙ one_more (contains nat_cmp c.loop-placed.deleted) (cow_value c.in-Some.placed) c.loop-placed.invariant.done (filter_map entry_of (held c.loop-placed.live.items)) c.loop-placed.invariant.deleted c.loop-placed.invariant.live;
    }

pub returns : goal.returns
returns c =
    let none : c.loop-placed.effect.items ≡ [] = nil_from_length c.loop-placed.effect.items (omega (arith, c.in_default.ensures.cases.0)) in
    let whole : c.loop-placed.invariant.done ≡ held c.args.effect.items = ap (λ (cs : List (Cow Placed)). held cs ++ c.loop-placed.invariant.done) (sym none) ∙ c.loop-placed.invariant.all in
    ap (λ (cs : List (Cow Placed)). filter_map entry_of (held cs)) c.reverse.ensures.items ∙ found_reversed_held entry_of c.loop-placed.live.items ∙ c.loop-placed.invariant.live ∙ ap remaining whole
