-- Which ids a list of records touches.
use Rattle.std.proofs.Common.{◌≡◌, ℕ, Bool, true, false, ◌||◌, eqb, List, [], ◌∷◌, Option, Some, None, refl, ap, ◌∙◌}
use Rattle.std.specs.List.{cons_option, filter_map, list_any}
use Rattle.amq_model.specs.declared.record.Placed.{Placed}
use Rattle.amq_model.specs.declared.record.Record.{Record}
use Rattle.amq_model.specs.declared.record.Record.TheVariants.{Add, Update, AddTx, UpdateTx, DeleteTx, Delete, Prepare, Commit, Rollback}
use Rattle.amq_model.specs.Answers.{touches}
use Rattle.amq_model.specs.Open.{touched_id}
use Rattle.amq_model.proofs.AscendingLaws.{sides}

-- the record touches the id that it names, if it names one
id_touches : (id : ℕ) (p : Placed) → touches id p ≡ elim (touched_id p) [ None ↦ false | Some i ↦ eqb i id ]
id_touches id p = by p.rec where
  or_false : (b : Bool) → (b || false) ≡ b
  or_false true = refl
  or_false false = refl

  by : (rec : Record) → touches id (record { file = p.file; place = p.place; compact = p.compact; rec = rec }) ≡ elim (touched_id (record { file = p.file; place = p.place; compact = p.compact; rec = rec })) [ None ↦ false | Some i ↦ eqb i id ]
  by (Add i user_type body) = refl
  by (Update i user_type body) = refl
  by (AddTx tx i user_type body) = refl
  by (UpdateTx tx i user_type body) = refl
  by (DeleteTx tx i body) = or_false (eqb i id)
  by (Delete i) = or_false (eqb i id)
  by (Prepare tx count extra) = refl
  by (Commit tx count) = refl
  by (Rollback tx) = refl

-- an id is touched exactly where it is among the ids
pub touched_listed : (id : ℕ) (ps : List Placed) → list_any (touches id) ps ≡ list_any (eqb id) (filter_map touched_id ps)
touched_listed id [] = refl
touched_listed id (p ∷ ps) = ap (λ (b : Bool). b || list_any (touches id) ps) (id_touches id p) ∙ ap (λ (b : Bool). elim (touched_id p) [ None ↦ false | Some i ↦ eqb i id ] || b) (touched_listed id ps) ∙ by (touched_id p) where
  by : (o : Option ℕ) → (elim o [ None ↦ false | Some i ↦ eqb i id ] || list_any (eqb id) (filter_map touched_id ps)) ≡ list_any (eqb id) (cons_option o (filter_map touched_id ps))
  by None = refl
  by (Some i) = ap (λ (b : Bool). b || list_any (eqb id) (filter_map touched_id ps)) (sides i id)
