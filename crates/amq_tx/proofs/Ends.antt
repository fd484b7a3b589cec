-- A transaction ends: the ids that its part lists are all that it touches.
use Rattle.std.proofs.Common.{◌≡◌, ℕ, Bool, true, false, cond, eqb, List, [], Option, Some, None, refl, sym, ap, ◌∙◌}
use Rattle.std.specs.List.{list_any}
use Rattle.std.specs.Option.{is_some}
use Rattle.std.specs.Map.{lookup}
use Rattle.amq_model.specs.declared.state.EntryEnd.{EntryEnd}
use Rattle.amq_tx.specs.State.{without}
use Rattle.amq_tx.specs.Refusing.{live_after}
use Rattle.amq_tx.proofs.Lists.{lookup-without, without_none}

-- the ids of the transactions, among them each id that they touch
abbrev pub AllListed : (ℕ → List (ℕ × EntryEnd)) → (ℕ → List ℕ) → Type 0
AllListed touched ids = (tx id : ℕ) → is_some (lookup (eqb tx) (touched id)) ≡ true → list_any (eqb id) (ids tx) ≡ true

module _ (touched : ℕ → List (ℕ × EntryEnd)) (ids : ℕ → List ℕ) (h : AllListed touched ids) (tx : ℕ) where
  -- an id that isn't listed isn't touched
  unlisted : (id : ℕ) → list_any (eqb id) (ids tx) ≡ false → lookup (eqb tx) (touched id) ≡ None
  unlisted id e = by (lookup (eqb tx) (touched id)) (h tx id) where
    by : (o : Option EntryEnd) → (is_some o ≡ true → list_any (eqb id) (ids tx) ≡ true) → o ≡ None
    by None h = refl
    by (Some end) h = absurd (let t : list_any (eqb id) (ids tx) ≡ true = h refl in cc)

  pub all_let_go : (id : ℕ) → cond (list_any (eqb id) (ids tx)) (without tx (touched id)) (touched id) ≡ without tx (touched id)
  all_let_go id = by (list_any (eqb id) (ids tx)) refl where
    by : (b : Bool) → list_any (eqb id) (ids tx) ≡ b → cond b (without tx (touched id)) (touched id) ≡ without tx (touched id)
    by true e = refl
    by false e = sym (without_none tx (touched id) (unlisted id e))

  pub all_take_effect : (id : ℕ) (before : Bool) → cond (list_any (eqb id) (ids tx)) (live_after (lookup (eqb tx) (touched id)) before) before ≡ live_after (lookup (eqb tx) (touched id)) before
  all_take_effect id before = by (list_any (eqb id) (ids tx)) refl where
    by : (b : Bool) → list_any (eqb id) (ids tx) ≡ b → cond b (live_after (lookup (eqb tx) (touched id)) before) before ≡ live_after (lookup (eqb tx) (touched id)) before
    by true e = refl
    by false e = ap (λ (o : Option EntryEnd). live_after o before) (sym (unlisted id e))

  -- those that are left list what they touch
  pub rest_listed : (q id : ℕ) → is_some (lookup (eqb q) (without tx (touched id))) ≡ true → list_any (eqb id) (cond (eqb tx q) [] (ids q)) ≡ true
  rest_listed q id is = by (eqb tx q) refl where
    by : (b : Bool) → eqb tx q ≡ b → list_any (eqb id) (cond b [] (ids q)) ≡ true
    by true e = absurd (let gone : is_some (lookup (eqb q) (without tx (touched id))) ≡ false = ap is_some (lookup-without tx q (touched id) ∙ ap (λ (b : Bool). cond b None (lookup (eqb q) (touched id))) e) in cc)
    by false e = h q id (ap is_some (sym (lookup-without tx q (touched id) ∙ ap (λ (b : Bool). cond b None (lookup (eqb q) (touched id))) e)) ∙ is)

  -- a table that let go of the listed ids let go of all
  pub let_go_by : (listed : List ℕ) (new : List (ℕ × EntryEnd)) (id : ℕ) → listed ≡ ids tx → new ≡ cond (list_any (eqb id) listed) (without tx (touched id)) (touched id) → new ≡ without tx (touched id)
  let_go_by listed new id same is = is ∙ ap (λ (l : List ℕ). cond (list_any (eqb id) l) (without tx (touched id)) (touched id)) same ∙ all_let_go id

  pub take_effect_by : (listed : List ℕ) (before now : Bool) (id : ℕ) → listed ≡ ids tx → now ≡ cond (list_any (eqb id) listed) (live_after (lookup (eqb tx) (touched id)) before) before → now ≡ live_after (lookup (eqb tx) (touched id)) before
  take_effect_by listed before now id same is = is ∙ ap (λ (l : List ℕ). cond (list_any (eqb id) l) (live_after (lookup (eqb tx) (touched id)) before) before) same ∙ all_take_effect id before

-- one part less
pub part_gone : {X Y : Type 0} (f : Option X → Y) (y : Y) → f None ≡ y → (tx q : ℕ) (old new : Option X) → new ≡ cond (eqb tx q) None old → f new ≡ cond (eqb tx q) y (f old)
part_gone f y none tx q old new is = ap f is ∙ by (eqb tx q) where
  by : (b : Bool) → f (cond b None old) ≡ cond b y (f old)
  by true = none
  by false = refl

-- what is left was there before
pub was_some : {X : Type 0} (tx q : ℕ) (old new : Option X) → new ≡ cond (eqb tx q) None old → is_some new ≡ true → is_some old ≡ true
was_some tx q old new is some = by (eqb tx q) (sym (ap is_some is) ∙ some) where
  by : (b : Bool) → is_some (cond b None old) ≡ true → is_some old ≡ true
  by true e = absurd cc
  by false e = e
