-- What the last record of each id does to it.
use Rattle.std.proofs.Common.{◌≡◌, ℕ, Bool, true, false, cond, ◌||◌, eqb, List, ◌∷◌, map, Option, Some, None, refl, sym, ap, ◌∙◌}
use Rattle.std.specs.List.{filter_map, list_any}
use Rattle.std.specs.BTreeMap.{is_at}
use Rattle.std.specs.Map.{lookup, keys_of}
use Rattle.std.specs.Ordering.{nat_cmp}
use Rattle.std.specs.Option.{is_some}
use Rattle.std.specs.List.Sorted.{IsStrictlySortedBy}
use Rattle.std.proofs.lemmas.List.{map-id}
use Rattle.std.proofs.lemmas.Simd.{map-map}
use Rattle.amq_model.specs.declared.record.Placed.{Placed}
use Rattle.amq_model.specs.declared.state.EntryEnd.{EntryEnd}
use Rattle.amq_model.specs.declared.state.EntryEnd.TheVariants.{Put, Gone}
use Rattle.amq_model.specs.Effect.{ascending, deletes, entry_of}
use Rattle.amq_model.specs.Answers.{touches}
use Rattle.amq_model.specs.Open.{touched_id, is_gone, end_of, touched_by}
use Rattle.amq_model.proofs.AscendingLaws.{any-ascending, ascending-sorted, same_numbers}
use Rattle.amq_model.proofs.TouchedIds.{touched_listed}
use Rattle.amq_state.specs.Parts.{noted, noted_as}
use Rattle.amq_state.proofs.EntryLaws.{entries_same, found_listed}

-- what the last of these does to the id, if one touches it
abbrev pub end_if_touched : ℕ → List Placed → Option EntryEnd
end_if_touched id ps = cond (list_any (touches id) ps) (Some (end_of id ps)) None

-- one that doesn't touch the id doesn't delete it
untouched : (id : ℕ) (p : Placed) → touches id p ≡ false → deletes id p ≡ false
untouched id p e = by (deletes id p) e where
  by : (d : Bool) → (d || elim (entry_of p) [ None ↦ false | Some e ↦ eqb e.id id ]) ≡ false → d ≡ false
  by true h = h
  by false h = refl

-- one more record in front
pub noted_more : (id : ℕ) (p : Placed) (ps : List Placed) → noted p id (end_if_touched id ps) ≡ end_if_touched id (p ∷ ps)
noted_more id p ps = by (touches id p) (list_any (touches id) ps) where
  by : (here behind : Bool) → noted_as here (deletes id p) (cond behind (Some (end_of id ps)) None) ≡ cond (here || behind) (Some (cond (cond behind (is_gone id ps) (deletes id p)) Gone Put)) None
  by true true = refl
  by false true = refl
  by true false = refl
  by false false = refl

-- ---- as a list

abbrev paired : ℕ → EntryEnd → ℕ × EntryEnd
paired id end = (id, end)

-- what the table of a list of records has at each id decides the list
pub touched_are : (es : List (ℕ × EntryEnd)) (ps : List Placed) → IsStrictlySortedBy nat_cmp (keys_of es) → ((id : ℕ) → lookup (is_at (nat_cmp id)) es ≡ end_if_touched id ps) → es ≡ touched_by ps
touched_are es ps sorted h =
    sym (map-id es) ∙ entries_same (λ e. e) (λ e. (e.0, end_of e.0 ps)) es sorted (λ id end found. ap (paired id) (at_each id end found))
    ∙ sym (map-map (λ (id : ℕ). paired id (end_of id ps)) (λ (e : ℕ × EntryEnd). e.0) es) ∙ ap (map (λ (id : ℕ). paired id (end_of id ps))) keys where
      at_each : (id : ℕ) (end : EntryEnd) → lookup (is_at (nat_cmp id)) es ≡ Some end → end ≡ end_of id ps
      at_each id end found = by (list_any (touches id) ps) (sym found ∙ h id) where
        by : (b : Bool) → Some end ≡ cond b (Some (end_of id ps)) None → end ≡ end_of id ps
        by true e = cc
        by false e = cc

      there : (id : ℕ) → list_any (eqb id) (keys_of es) ≡ list_any (eqb id) (ascending (filter_map touched_id ps))
      there id = sym (found_listed id es) ∙ ap is_some (h id) ∙ by (list_any (touches id) ps) ∙ touched_listed id ps ∙ sym (any-ascending id (filter_map touched_id ps)) where
        by : (b : Bool) → is_some (cond b (Some (end_of id ps)) None) ≡ b
        by true = refl
        by false = refl

      keys : keys_of es ≡ ascending (filter_map touched_id ps)
      keys = same_numbers (keys_of es) (ascending (filter_map touched_id ps)) sorted (ascending-sorted (filter_map touched_id ps)) there
