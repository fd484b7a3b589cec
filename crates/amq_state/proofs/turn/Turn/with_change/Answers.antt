use Rattle.std.proofs.Common.{◌≡◌, ◌∙◌, ◌++◌, ◌∷◌, [], ap, rules}
use Rattle.std.specs.Option.{unwrap_or}
use Rattle.std.specs.Ordering.{nat_cmp}
use Rattle.std.specs.BTreeMap.{get}
use Rattle.amq_model.specs.declared.record.Placed.{Placed}
use Rattle.amq_state.proofs.TableLaws.{counts_grow}
use Rattle.amq_state.proofs.turn.Turn.with_change.Goals as goal

pub invariant_of-result : goal.invariant_of-result
invariant_of-result c = record {
  counted = λ q.
      let file = c.deref.result.now.file in
      let count : c.unwrap_or-count.result ≡ unwrap_or (get nat_cmp c.args.self.counts file) 0 = search rules in
      let pushed : c.push.new.self.items ≡ c.args.self.changes.items ++ c.args.placed ∷ [] = search rules in
      rw pushed (counts_grow (get nat_cmp c.args.self.counts q) (get nat_cmp c.insert.new.self q) c.args.self.changes.items c.args.placed file c.unwrap_or-count.result q (ap (λ (p : Placed). p.file) c.deref.ensures) (c.in-Ok.ensures.updates.0 q) (count ∙ c.args.self.counted file) (c.args.self.counted q));
}
