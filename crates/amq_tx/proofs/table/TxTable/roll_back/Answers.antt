use Rattle.std.proofs.Common.{◌≡◌, ℕ, eqb, [], List, None, refl, sym, ap, ◌∙◌}
use Rattle.std.specs.Option.{option_map, is_some}
use Rattle.std.specs.Map.{lookup}
use Rattle.std.specs.List.{list_any}
use Rattle.std.specs.HashMap.{get}
use Rattle.amq_model.specs.declared.state.EntryEnd.{EntryEnd}
use Rattle.amq_tx.specs.Parts.{listed, ids_of, turn_of}
use Rattle.amq_tx.proofs.Ends.{let_go_by, rest_listed, part_gone, was_some}
use Rattle.amq_tx.proofs.States.{same_state}
use Rattle.amq_tx.proofs.table.TxTable.roll_back.Goals as goal

pub invariant_of-self : goal.invariant_of-self
invariant_of-self c =
    let old = c.args.self.now in
    let touched : ℕ → List (ℕ × EntryEnd) = λ id. listed (get eqb old.touched id) in
    let ids : ℕ → List ℕ = λ q. ids_of (get eqb old.turns q) in
    let same : c.deref.result.now ≡ ids c.args.tx = c.deref.ensures.value ∙ ap ids_of (sym c.in-Some.is ∙ c.remove.ensures.value) in
    record {
      ids = λ q id is. ap (list_any (eqb id)) (part_gone ids_of [] refl c.args.tx q _ _ (c.remove.ensures.updates.0 q))
          ∙ rest_listed touched ids old.ids c.args.tx q id (ap (λ (xs : List (ℕ × EntryEnd)). is_some (lookup (eqb q) xs)) (sym (let_go_by touched ids old.ids c.args.tx c.deref.result.now _ id same (c.let_go.ensures id))) ∙ is);
      numbers = λ q is. old.numbers q (was_some c.args.tx q _ _ (c.remove.ensures.updates.0 q) is);
    }

pub returns-in-Some : goal.returns-in-Some
returns-in-Some c =
    let old = c.args.self.now in
    let touched : ℕ → List (ℕ × EntryEnd) = λ id. listed (get eqb old.touched id) in
    let ids : ℕ → List ℕ = λ q. ids_of (get eqb old.turns q) in
    let same : c.deref.result.now ≡ ids c.args.tx = c.deref.ensures.value ∙ ap ids_of (sym c.in-Some.is ∙ c.remove.ensures.value) in
    same_state _ _
    (λ id. refl)
    (λ id. let_go_by touched ids old.ids c.args.tx c.deref.result.now _ id same (c.let_go.ensures id))
    (λ q. part_gone (option_map turn_of) None refl c.args.tx q _ _ (c.remove.ensures.updates.0 q))
    refl

pub returns-in_default : goal.returns-in_default
returns-in_default c =
    let old = c.args.self.now in
    let touched : ℕ → List (ℕ × EntryEnd) = λ id. listed (get eqb old.touched id) in
    let ids : ℕ → List ℕ = λ q. ids_of (get eqb old.turns q) in
    let none : [] ≡ ids c.args.tx = ap ids_of (sym c.in_default.is ∙ c.remove.ensures.value) in
    same_state _ _
    (λ id. refl)
    (λ id. let_go_by touched ids old.ids c.args.tx [] _ id none refl)
    (λ q. part_gone (option_map turn_of) None refl c.args.tx q _ _ (c.remove.ensures.updates.0 q))
    refl
