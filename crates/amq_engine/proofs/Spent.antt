-- Where the numbers of files are spent, the last append stands in the file of the greatest number.
use Rattle.std.proofs.Common.{◌≡◌, ℕ, zero, suc, ◌+◌, ◌-◌, ◌^◌, Bool, true, false, ltb, List, [], ◌∷◌, ◌++◌, Option, None, Some, refl, sym, ap, ◌∙◌, arith}
use Rattle.std.specs.Prelude.{fold, map, option_map}
use Rattle.std.proofs.lemmas.Bool.{ltb-true}
use Rattle.std.proofs.lemmas.List.Sums.{fold-append}
use Rattle.amq_model.specs.declared.record.Record.{Record}
use Rattle.amq_model.specs.declared.command.Command.{Command}
use Rattle.amq_model.specs.declared.config.Config.{Config}
use Rattle.amq_model.specs.declared.history.Answer.TheVariants.{Refused}
use Rattle.amq_model.specs.declared.refusal.Refusal.{Refusal}
use Rattle.amq_model.specs.declared.refusal.Refusal.TheVariants as r
use Rattle.amq_model.specs.Configs.{IsConfig}
use Rattle.amq_model.specs.RecordAt.{len_of, whole_len}
use Rattle.amq_model.specs.Answers.{history_of, record_of, limit, too_large}
use Rattle.amq_model.specs.Directory.{placed}
use Rattle.amq_scan.specs.Written.{Item, spots_from, end_from}
use Rattle.amq_scan.specs.Segments.{Segment, records_of}
use Rattle.amq_tx.specs.State.{TxState}
use Rattle.amq_tx.specs.Refusing.{refusal_in}
use Rattle.amq_pool.specs.declared.pool.PoolFile.{PoolFile}
use Rattle.amq_pool.specs.Pools.{PoolOf, ids_of}
use Rattle.amq_engine.specs.declared.tail.Tail.{Tail}
use Rattle.amq_engine.specs.Directory.{placed_in, files_from}
use Rattle.amq_engine.specs.Engine.{Parts, IsSpentAtLast, end_of_tail, last_file, passes, record_len, records, refused, spent, is_nil}
use Rattle.amq_engine.proofs.Listing.{used_id}
use Rattle.amq_engine.proofs.Commanding.{tail_end, within_limit}
use Rattle.amq_engine.proofs.Noting.{spent_so, not_too_large, both_true, nil_is}

-- records of one file end in that file
last_placed : (id place first : ℕ) (x : Item) (items : List Item) → fold (λ _ p. p.file) first (map (placed id) (spots_from 2 place (x ∷ items))) ≡ id
last_placed id place first x [] = refl
last_placed id place first x (y ∷ ys) = last_placed id (place + whole_len 2 x.rec) id y ys

last_of_records : (closed : List Segment) (used : PoolFile) (items : List Item) → (items ≡ [] → ⊥) → last_file (records closed used items) ≡ used.id
last_of_records closed used [] some = absurd (some refl)
last_of_records closed used (x ∷ xs) some = fold-append (λ _ p. p.file) 0 (records_of closed) (placed_in used.id (x ∷ xs)) ∙ last_placed used.id 16 (fold (λ _ p. p.file) 0 (records_of closed)) x xs

module _ (config : Config) (table : TxState) (pool : PoolOf) (t : Tail) (p : Parts config table pool t) (command : Command) (ranges : IsConfig config) where
  -- a record that isn't too large and doesn't fit stands behind another in its file
  some_before : too_large config command ≡ None → passes config.file_size (end_of_tail t) (record_len command) ≡ true → p.items ≡ [] → ⊥
  some_before small moves none = by (record_of command 0) refl where
    by : (o : Option Record) → record_of command 0 ≡ o → ⊥
    by None here = let e : false ≡ true = sym (ap (λ (o : Option Record). passes config.file_size (end_of_tail t) (option_map len_of o)) here) ∙ moves in cc
    by (Some rec) here =
        let passed : ltb config.file_size (end_of_tail t + len_of rec) ≡ true = sym (ap (λ (o : Option Record). passes config.file_size (end_of_tail t) (option_map len_of o)) here) ∙ moves in
        omega (arith, ltb-true _ _ passed, within_limit config command (len_of rec) small (ap (option_map len_of) here), tail_end config table pool t p, ap (end_from 2 16) none, ranges.file_size_least)

  -- without a prepared file the one in use has the greatest number
  no_file_behind : ids_of pool.prepared ≡ [] → t.file.id ≡ pool.highest
  no_file_behind none = by (pool.highest - t.file.id) refl (sym p.behind ∙ none) where
    by : (n : ℕ) → pool.highest - t.file.id ≡ n → ids_of (files_from (t.file.id + 1) n) ≡ [] → t.file.id ≡ pool.highest
    by zero left is = omega (arith, left, used_id pool.highest (p.old ++ p.closed) t.file pool.prepared p.listed)
    by (suc n) left is = absurd (let e : (t.file.id + 1) ∷ ids_of (files_from (t.file.id + 1 + 1) n) ≡ [] = is in cc)

  top_is_last : (m : Bool) (highest : ℕ) → m ≡ passes config.file_size (end_of_tail t) (record_len command) → refused config (refusal_in table command) (spent m pool.highest (ids_of pool.prepared)) command ≡ Some (r.FileIdsSpent highest) → last_file (history_of p.steps) ≡ 2 ^ 31 - 1
  top_is_last m highest moves is =
      let so = spent_so config table command m pool.highest highest (ids_of pool.prepared) (r.FileIdsSpent highest) p.numbers is refl in
      let both = both_true m (is_nil (ids_of pool.prepared)) so.2 in
      let some = some_before (not_too_large config command (refusal_in table command) (spent m pool.highest (ids_of pool.prepared)) highest is) (sym moves ∙ both.0) in
      ap last_file p.placed ∙ last_of_records p.closed t.file p.items some ∙ no_file_behind (nil_is (ids_of pool.prepared) both.1) ∙ sym so.0 ∙ so.1

  pub spent_at_last : (m : Bool) (seat number : ℕ) (refusal : Refusal) → m ≡ passes config.file_size (end_of_tail t) (record_len command) → refused config (refusal_in table command) (spent m pool.highest (ids_of pool.prepared)) command ≡ Some refusal
      → IsSpentAtLast p.steps (record { seat = seat; number = number; command = command; answer = Refused refusal; placed = None })
  spent_at_last m seat number (r.FileIdsSpent highest) moves is = top_is_last m highest moves is
  spent_at_last m seat number (r.Closed fault) moves is = tt
  spent_at_last m seat number (r.TooLarge len limit) moves is = tt
  spent_at_last m seat number (r.NoTx tx) moves is = tt
  spent_at_last m seat number (r.TxPrepared tx) moves is = tt
  spent_at_last m seat number (r.Held id tx) moves is = tt
  spent_at_last m seat number (r.AlreadyLive id) moves is = tt
  spent_at_last m seat number (r.NoRecord id) moves is = tt
  spent_at_last m seat number (r.TxNumbersSpent highest) moves is = tt
  spent_at_last m seat number (r.Compacting phase) moves is = tt
  spent_at_last m seat number (r.Disk call) moves is = tt
  spent_at_last m seat number r.NoMemory moves is = tt
