-- The transactions in doubt and the open ones, from the entries of a table that follows a list.
use Rattle.std.proofs.Common.{◌≡◌, ℕ, Bool, true, false, cond, ◌||◌, ◌&&◌, not, eqb, List, [], ◌∷◌, map, Option, Some, None, refl, sym, ap, ◌∙◌}
use Rattle.std.specs.Prelude.{filter}
use Rattle.std.specs.List.{cons_option, filter_map, list_any}
use Rattle.std.specs.List.Sorted.{IsStrictlySortedBy}
use Rattle.std.specs.Option.{is_some, unwrap_or}
use Rattle.std.specs.Ordering.{nat_cmp}
use Rattle.std.specs.Cmp.{nat_eq_equiv}
use Rattle.std.specs.BTreeMap.{BTreeMap, get, is_at}
use Rattle.std.specs.Map.{lookup, keys_of}
use Rattle.std.proofs.lemmas.Bool.{eqb-true}
use Rattle.std.proofs.lemmas.Simd.{map-map}
use Rattle.std.proofs.lemmas.List.Kept.{IsStrictlySortedBy-filter}
use Rattle.std.proofs.lemmas.Map.Made.{is_member-filter}
use Rattle.amq_model.specs.declared.record.Placed.{Placed}
use Rattle.amq_model.specs.declared.state.OpenTx.{OpenTx}
use Rattle.amq_model.specs.Effect.{open_changes, prepared, ascending, last_of, doubt_of, in_doubt, ends, entry_of, removal_of}
use Rattle.amq_model.specs.Answers.{number_of, is_some_of, is_left_open}
use Rattle.amq_model.specs.Open.{touched_by, open_tx, open_txs}
use Rattle.amq_model.proofs.AscendingLaws.{any-ascending, ascending-sorted, same_numbers, sides}
use Rattle.amq_state.specs.declared.turn.Turn.{Turn}
use Rattle.amq_state.specs.Turns.{TurnState, told, turn_in, last_extra}
use Rattle.amq_state.specs.Parts.{doubt_in, open_in, doubt_at, open_at}
use Rattle.amq_state.proofs.TurnLaws.{last_of-is, has_extra}
use Rattle.amq_state.proofs.EntryLaws.{entries_same, finds_same, found_listed}

-- a table, as what it tells of each transaction of the list
module _ (l : List Placed) (turns : BTreeMap ℕ Turn) (sorted : IsStrictlySortedBy nat_cmp (keys_of turns.entries)) (follows : (tx : ℕ) → told (get nat_cmp turns tx) ≡ turn_in l tx) where
  keys : List ℕ
  keys = keys_of turns.entries

  told_at : (tx : ℕ) (t : Turn) → lookup (is_at (nat_cmp tx)) turns.entries ≡ Some t → told (Some t) ≡ turn_in l tx
  told_at tx t found = ap told (sym found) ∙ follows tx

  -- ---- in doubt

  has_doubt : ℕ → Bool
  has_doubt tx = is_some (last_extra tx (prepared l))

  doubts_of : (txs : List ℕ) → filter_map (λ tx. doubt_in tx (turn_in l tx)) txs ≡ map (doubt_of l) (filter has_doubt txs)
  unfolding has_doubt
  doubts_of [] = refl
  doubts_of (tx ∷ txs) = ap (cons_option (doubt_in tx (turn_in l tx))) (doubts_of txs) ∙ by (last_extra tx (prepared l)) (last_of-is tx (prepared l) []) where
    by : (o : Option (List ℕ)) → last_of tx (prepared l) [] ≡ unwrap_or o []
        → cons_option (doubt_in tx (record { is_open = is_left_open tx l; changes = open_changes tx l; extra = o })) (map (doubt_of l) (filter (λ tx. is_some (last_extra tx (prepared l))) txs))
        ≡ map (doubt_of l) (cond (is_some o) (tx ∷ filter (λ tx. is_some (last_extra tx (prepared l))) txs) (filter (λ tx. is_some (last_extra tx (prepared l))) txs))
    by None e = refl
    by (Some extra) e = ap (λ (bytes : List ℕ). record { tx = tx; extra = bytes; records = filter_map entry_of (open_changes tx l); deletes = filter_map removal_of (open_changes tx l) } ∷ map (doubt_of l) (filter (λ tx. is_some (last_extra tx (prepared l))) txs)) (sym e)

  numbers : (q : ℕ) (xs : List (ℕ × List ℕ)) → list_any (λ x. eqb x.0 q) xs ≡ list_any (eqb q) (map (λ x. x.0) xs)
  numbers q [] = refl
  numbers q (x ∷ xs) = ap (λ (b : Bool). b || list_any (λ x. eqb x.0 q) xs) (sides x.0 q) ∙ ap (λ (b : Bool). eqb q x.0 || b) (numbers q xs)

  -- a transaction with a sound PREPARE has its part in the table
  doubted : (q : ℕ) → (is_some (get nat_cmp turns q) && has_doubt q) ≡ has_doubt q
  unfolding has_doubt
  doubted q = by (get nat_cmp turns q) (ap (λ (t : TurnState). t.extra) (follows q)) where
    by : (o : Option Turn) → (told o).extra ≡ last_extra q (prepared l) → (is_some o && is_some (last_extra q (prepared l))) ≡ is_some (last_extra q (prepared l))
    by None e = ap is_some e
    by (Some t) e = refl

  doubt_keys : filter has_doubt keys ≡ ascending (map (λ x. x.0) (prepared l))
  unfolding keys has_doubt
  doubt_keys = same_numbers (filter has_doubt keys) (ascending (map (λ x. x.0) (prepared l))) (IsStrictlySortedBy-filter nat_cmp has_doubt keys sorted) (ascending-sorted (map (λ x. x.0) (prepared l)))
      (λ q. is_member-filter nat_eq_equiv has_doubt q (λ x e. ap has_doubt (eqb-true q x e)) keys ∙ ap (λ (b : Bool). b && has_doubt q) (sym (found_listed q turns.entries)) ∙ doubted q
      ∙ sym (has_extra q (prepared l)) ∙ numbers q (prepared l) ∙ sym (any-ascending q (map (λ x. x.0) (prepared l))))

  pub doubts_are : filter_map doubt_at turns.entries ≡ in_doubt l
  unfolding keys has_doubt
  doubts_are =
      finds_same doubt_at (λ e. doubt_in e.0 (turn_in l e.0)) turns.entries sorted (λ tx t found. ap (doubt_in tx) (told_at tx t found))
      ∙ by_keys turns.entries ∙ doubts_of keys ∙ ap (map (doubt_of l)) doubt_keys where
        by_keys : (es : List (ℕ × Turn)) → filter_map (λ e. doubt_in e.0 (turn_in l e.0)) es ≡ filter_map (λ tx. doubt_in tx (turn_in l tx)) (keys_of es)
        by_keys [] = refl
        by_keys (e ∷ es) = ap (cons_option (doubt_in e.0 (turn_in l e.0))) (by_keys es)

  -- ---- open

  is_open : ℕ → Bool
  is_open tx = is_left_open tx l

  listed : (q : ℕ) (ps : List Placed) → (list_any (eqb q) (filter_map (λ p. number_of p.rec) ps) && is_left_open q ps) ≡ is_left_open q ps
  listed q [] = refl
  listed q (p ∷ ps) = by (number_of p.rec) (listed q ps) where
    at : (own named a b rest any : Bool) → named ≡ own → (any && rest) ≡ rest → ((named || any) && (own && a && b || rest)) ≡ (own && a && b || rest)
    at true named a b rest any same h = ap (λ (n : Bool). (n || any) && (a && b || rest)) same
    at false named a b rest any same h = ap (λ (n : Bool). (n || any) && rest) same ∙ h

    by : (o : Option ℕ) → (list_any (eqb q) (filter_map (λ p. number_of p.rec) ps) && is_left_open q ps) ≡ is_left_open q ps
        → (list_any (eqb q) (cons_option o (filter_map (λ p. number_of p.rec) ps)) && (is_some_of o q && not (ends q p) && not (list_any (ends q) ps) || is_left_open q ps)) ≡ (is_some_of o q && not (ends q p) && not (list_any (ends q) ps) || is_left_open q ps)
    by None h = h
    by (Some n) h = at (eqb n q) (eqb q n) (not (ends q p)) (not (list_any (ends q) ps)) (is_left_open q ps) (list_any (eqb q) (filter_map (λ p. number_of p.rec) ps)) (sides q n) h

  open_keys : keys ≡ filter is_open (ascending (filter_map (λ p. number_of p.rec) l))
  unfolding keys is_open
  open_keys = same_numbers keys (filter is_open (ascending (filter_map (λ p. number_of p.rec) l))) sorted (IsStrictlySortedBy-filter nat_cmp is_open (ascending (filter_map (λ p. number_of p.rec) l)) (ascending-sorted (filter_map (λ p. number_of p.rec) l)))
      (λ q. sym (found_listed q turns.entries) ∙ found q ∙ sym (is_member-filter nat_eq_equiv is_open q (λ x e. ap is_open (eqb-true q x e)) (ascending (filter_map (λ p. number_of p.rec) l))
      ∙ ap (λ (b : Bool). b && is_open q) (any-ascending q (filter_map (λ p. number_of p.rec) l)) ∙ listed q l)) where
        found : (q : ℕ) → is_some (get nat_cmp turns q) ≡ is_left_open q l
        found q = by (get nat_cmp turns q) (ap (λ (t : TurnState). t.is_open) (follows q)) where
          by : (o : Option Turn) → (told o).is_open ≡ is_left_open q l → is_some o ≡ is_left_open q l
          by None e = e
          by (Some t) e = e

  opened : (txs : List ℕ) → map (λ tx. open_in tx (turn_in l tx)) txs ≡ map (open_tx l) txs
  opened [] = refl
  opened (tx ∷ txs) =
      ap (λ (b : Bool). record { tx = tx; prepared = b; touched = touched_by (open_changes tx l) } ∷ map (λ tx. open_in tx (turn_in l tx)) txs) (sym (has_extra tx (prepared l)))
      ∙ ap (λ (txs : List OpenTx). open_tx l tx ∷ txs) (opened txs)

  pub opens_are : map open_at turns.entries ≡ open_txs l
  unfolding keys is_open
  opens_are =
      entries_same open_at (λ e. open_in e.0 (turn_in l e.0)) turns.entries sorted (λ tx t found. ap (open_in tx) (told_at tx t found))
      ∙ sym (map-map (λ (tx : ℕ). open_in tx (turn_in l tx)) (λ (e : ℕ × Turn). e.0) turns.entries) ∙ opened keys ∙ ap (map (open_tx l)) open_keys
