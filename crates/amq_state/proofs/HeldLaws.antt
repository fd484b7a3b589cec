-- Lists of records that are borrowed or owned: one more, the last taken away, from the back.
use Rattle.std.proofs.Common.{◌≡◌, ℕ, ◌+◌, ◌<◌, Bool, false, cond, List, [], ◌∷◌, ◌++◌, length, drop, get_or, Option, Some, None, refl, sym, ap, ◌∙◌, append_assoc}
use Rattle.std.specs.Prelude.{reverse}
use Rattle.std.specs.List.{cons_option, filter_map}
use Rattle.std.specs.Option.{option_to_list}
use Rattle.std.specs.Cow.{cow_value}
use Rattle.std.specs.declared.borrow.Cow.{Cow}
use Rattle.std.proofs.lemmas.List.{map-append, drop-map, reverse-append}
use Rattle.std.proofs.lemmas.List.Elements.{filter_map-append}
use Rattle.amq_model.specs.declared.record.Placed.{Placed}
use Rattle.amq_model.specs.declared.record.Record.{Record}
use Rattle.amq_model.specs.declared.record.Record.TheVariants.{Add, Update, AddTx, UpdateTx, DeleteTx, Delete, Prepare, Commit, Rollback}
use Rattle.amq_model.specs.declared.record.Brief.{Brief}
use Rattle.amq_model.specs.declared.record.Brief.TheVariants as b
use Rattle.amq_model.specs.declared.state.Entry.{Entry}
use Rattle.amq_model.specs.Records.{brief_of}
use Rattle.amq_model.specs.Effect.{entry_of}
use Rattle.amq_state.specs.Backward.{standing}
use Rattle.amq_state.specs.Held.{held}
use Rattle.amq_state.proofs.Lists.{one_found, one_dropped}

-- what is found among them and one more
pub found_one_more : {Y : Type 0} (h : Placed → Option Y) (cs : List (Cow Placed)) (c : Cow Placed) (old new : List Y) → old ≡ filter_map h (held cs) → new ≡ old ++ option_to_list (h (cow_value c)) → new ≡ filter_map h (held (cs ++ c ∷ []))
found_one_more {Y = Y} h cs c old new before now =
    now ∙ ap (λ (ys : List Y). ys ++ option_to_list (h (cow_value c))) before ∙ ap (λ (ys : List Y). filter_map h (held cs) ++ ys) (sym (one_found h (cow_value c)))
    ∙ sym (filter_map-append h (held cs) (cow_value c ∷ [])) ∙ ap (filter_map h) (sym (map-append cow_value cs (c ∷ [])))

-- the last taken away
pub popped : (old new : List (Cow Placed)) (c : Cow Placed) (behind all : List Placed) → old ≡ new ++ c ∷ [] → held old ++ behind ≡ all → held new ++ cow_value c ∷ behind ≡ all
popped old new c behind all is before =
    sym (ap (λ (cs : List (Cow Placed)). held cs ++ behind) is ∙ ap (λ (ps : List Placed). ps ++ behind) (map-append cow_value new (c ∷ [])) ∙ append_assoc (held new) (cow_value c ∷ []) behind) ∙ before

pub held_place : (cs : List (Cow Placed)) (i : ℕ) (c : Cow Placed) → i < length cs → c ≡ get_or cs i c → drop i (held cs) ≡ cow_value c ∷ drop (i + 1) (held cs)
held_place cs i c lt is = drop-map cow_value i cs ∙ ap held (one_dropped cs i c lt is) ∙ ap (λ (ps : List Placed). cow_value c ∷ ps) (sym (drop-map cow_value (i + 1) cs))

-- ---- the other way round

found_reversed : {Y : Type 0} (h : Placed → Option Y) (ps : List Placed) → filter_map h (reverse ps) ≡ reverse (filter_map h ps)
found_reversed h [] = refl
found_reversed {Y = Y} h (p ∷ ps) =
    ap (filter_map h) (reverse-append (p ∷ []) ps) ∙ filter_map-append h (reverse ps) (p ∷ []) ∙ ap (λ (ys : List Y). ys ++ filter_map h (p ∷ [])) (found_reversed h ps)
    ∙ ap (λ (ys : List Y). reverse (filter_map h ps) ++ ys) (one_found h p ∙ alone (h p)) ∙ sym (reverse-append (filter_map h (p ∷ [])) (filter_map h ps)) ∙ ap reverse (sym (filter_map-append h (p ∷ []) ps)) where
      alone : (o : Option Y) → option_to_list o ≡ reverse (cons_option o [])
      alone None = refl
      alone (Some y) = refl

held_reversed : (cs : List (Cow Placed)) → held (reverse cs) ≡ reverse (held cs)
held_reversed [] = refl
held_reversed (c ∷ cs) = ap held (reverse-append (c ∷ []) cs) ∙ map-append cow_value (reverse cs) (c ∷ []) ∙ ap (λ (ps : List Placed). ps ++ cow_value c ∷ []) (held_reversed cs) ∙ sym (reverse-append (cow_value c ∷ []) (held cs))

pub found_reversed_held : {Y : Type 0} (h : Placed → Option Y) (cs : List (Cow Placed)) → filter_map h (held (reverse cs)) ≡ reverse (filter_map h (held cs))
found_reversed_held h cs = ap (filter_map h) (held_reversed cs) ∙ found_reversed h (held cs)

-- ---- what stands

-- the id that it puts
abbrev pub put_id : Brief → Option ℕ
put_id (b.Put id) = Some id
put_id (b.PutTx tx id) = Some id
put_id _ = None

-- an add or update of an id that isn't deleted behind it
pub standing_free : (f : ℕ → Bool) (p : Placed) (id : ℕ) → put_id (brief_of p.rec) ≡ Some id → f id ≡ false → standing f p ≡ option_to_list (entry_of p)
standing_free f p id is free = by p.rec is where
  stands : (e : Entry) → Some e.id ≡ Some id → cond (f e.id) [] (e ∷ []) ≡ e ∷ []
  stands e same = ap (λ (b : Bool). cond b [] (e ∷ [])) (let at : e.id ≡ id = cc in ap f at ∙ free)

  by : (rec : Record) → put_id (brief_of rec) ≡ Some id → standing f (record { file = p.file; place = p.place; compact = p.compact; rec = rec }) ≡ option_to_list (entry_of (record { file = p.file; place = p.place; compact = p.compact; rec = rec }))
  by (Add i user_type body) e = stands _ e
  by (Update i user_type body) e = stands _ e
  by (AddTx tx i user_type body) e = stands _ e
  by (UpdateTx tx i user_type body) e = stands _ e
  by (DeleteTx tx i body) e = refl
  by (Delete i) e = refl
  by (Prepare tx count extra) e = refl
  by (Commit tx count) e = refl
  by (Rollback tx) e = refl

-- one more that stands
pub stands_more : (f : ℕ → Bool) (p : Placed) (id : ℕ) (old new : List Placed) → put_id (brief_of p.rec) ≡ Some id → f id ≡ false → new ≡ old ++ p ∷ [] → filter_map entry_of new ≡ filter_map entry_of old ++ standing f p
stands_more f p id old new is free more =
    ap (filter_map entry_of) more ∙ filter_map-append entry_of old (p ∷ []) ∙ ap (λ (es : List Entry). filter_map entry_of old ++ es) (one_found entry_of p ∙ sym (standing_free f p id is free))
