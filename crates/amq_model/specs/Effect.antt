-- What a list of placed records means: when each takes effect, what is live, what is in doubt.
use Rattle.std.specs.Prelude.{ℕ, ◌+◌, Bool, false, not, ◌&&◌, nat_lt, if◌then◌else◌, List, [], ◌∷◌, ◌++◌, take, drop, map, count_by, Option, Some, None, slice_get, ◌==◌}
use Rattle.std.specs.List.{filter_map, flat_map, list_any, position_from}
use Rattle.amq_model.specs.declared.record.Record.{Record}
use Rattle.amq_model.specs.declared.record.Record.TheVariants as r
use Rattle.amq_model.specs.declared.record.Placed.{Placed}
use Rattle.amq_model.specs.declared.state.EntryKind.TheVariants as kinds
use Rattle.amq_model.specs.declared.state.Entry.{Entry}
use Rattle.amq_model.specs.declared.state.Removal.{Removal}
use Rattle.amq_model.specs.declared.state.InDoubt.{InDoubt}
use Rattle.amq_model.specs.declared.state.LoadState.{LoadState}

-- ---- single records

-- the record ends transaction tx
abbrev pub ends : ℕ → Placed → Bool
ends tx p = elim p.rec [ r.Commit t count ↦ t == tx | r.Rollback t ↦ t == tx | _ ↦ false ]

-- the record is an add, update or delete of transaction tx
abbrev pub changes : ℕ → Placed → Bool
changes tx p = elim p.rec [ r.AddTx t id user_type body ↦ t == tx | r.UpdateTx t id user_type body ↦ t == tx | r.DeleteTx t id body ↦ t == tx | _ ↦ false ]

-- the record deletes this id
abbrev pub deletes : ℕ → Placed → Bool
deletes id p = elim p.rec [ r.Delete i ↦ i == id | r.DeleteTx tx i body ↦ i == id | _ ↦ false ]

-- the add or update that the record is
abbrev pub entry_of : Placed → Option Entry
entry_of p = elim p.rec [
  | r.Add id user_type body ↦ Some (record { kind = kinds.Add; id = id; user_type = user_type; body = body })
  | r.Update id user_type body ↦ Some (record { kind = kinds.Update; id = id; user_type = user_type; body = body })
  | r.AddTx tx id user_type body ↦ Some (record { kind = kinds.Add; id = id; user_type = user_type; body = body })
  | r.UpdateTx tx id user_type body ↦ Some (record { kind = kinds.Update; id = id; user_type = user_type; body = body })
  | _ ↦ None
]

abbrev pub removal_of : Placed → Option Removal
removal_of p = elim p.rec [ r.DeleteTx tx id body ↦ Some (record { id = id; body = body }) | _ ↦ None ]

-- ---- soundness

-- the adds, updates and deletes of the transaction that have no end behind them
abbrev pub open_changes : ℕ → List Placed → List Placed
open_changes tx [] = []
open_changes tx (p ∷ ps) = if changes tx p && not (list_any (ends tx) ps) then p ∷ open_changes tx ps else open_changes tx ps

-- the number that makes a PREPARE or COMMIT in this file, right behind these records, sound
abbrev pub counted : List Placed → ℕ → ℕ → ℕ
counted before tx file = count_by (λ p. p.file == file) (open_changes tx before)

-- the record behind these is a PREPARE or COMMIT with that number
abbrev pub is_sound : List Placed → Placed → Bool
is_sound before p = elim p.rec [
  | r.Prepare tx count extra ↦ count == counted before tx p.file
  | r.Commit tx count ↦ count == counted before tx p.file
  | _ ↦ false
]

-- ---- order of effect

-- a sound COMMIT behind these
abbrev pub commits : List Placed → Placed → Bool
commits before p = elim p.rec [ r.Commit tx count ↦ is_sound before p | _ ↦ false ]

-- what the end at e, behind these, makes of the records of its transaction
abbrev pub ended_by : Option Placed → List Placed → ℕ → Option ℕ
ended_by None before e = None
ended_by (Some p) before e = if commits before p then Some e else None

abbrev pub when_ended : List Placed → Option ℕ → Option ℕ
when_ended l None = None
when_ended l (Some e) = ended_by (slice_get l e) (take e l) e

-- the place at which a record of transaction tx at i takes effect: its first end behind it decides
abbrev pub when_in : List Placed → ℕ → ℕ → Option ℕ
when_in l i tx = when_ended l (position_from (ends tx) (i + 1) (drop (i + 1) l))

abbrev pub when_of : List Placed → ℕ → Record → Option ℕ
when_of l i (r.Add id user_type body) = Some i
when_of l i (r.Update id user_type body) = Some i
when_of l i (r.Delete id) = Some i
when_of l i (r.AddTx tx id user_type body) = when_in l i tx
when_of l i (r.UpdateTx tx id user_type body) = when_in l i tx
when_of l i (r.DeleteTx tx id body) = when_in l i tx
when_of l i (r.Prepare tx count extra) = None
when_of l i (r.Commit tx count) = None
when_of l i (r.Rollback tx) = None

-- the place at which the add, update or delete at i takes effect
abbrev pub when : List Placed → ℕ → Option ℕ
when l i = elim (slice_get l i) [ None ↦ None | Some p ↦ when_of l i p.rec ]

-- the places of a list, counted from `from`
abbrev pub places : {X : Type 0} → ℕ → List X → List ℕ
places from [] = []
places from (x ∷ xs) = from ∷ places (from + 1) xs

abbrev pub is_at : Option ℕ → ℕ → Bool
is_at None w = false
is_at (Some n) w = n == w

-- the record at i, if it takes effect at w
abbrev pub taking : List Placed → ℕ → ℕ → Option Placed → Option Placed
taking l w i None = None
taking l w i (Some p) = if is_at (when_of l i p.rec) w then Some p else None

-- the records that take effect at w, by place
abbrev pub effect_at : List Placed → ℕ → List Placed
effect_at l w = filter_map (λ i. taking l w i (slice_get l i)) (places 0 l)

-- the records in order of effect: by when, and then by place
abbrev pub in_effect : List Placed → List Placed
in_effect l = flat_map (effect_at l) (places 0 l)

-- ---- what is live

-- the adds and updates behind which no delete of their id stands
abbrev pub remaining : List Placed → List Entry
remaining [] = []
remaining (p ∷ ps) = elim (entry_of p) [ None ↦ remaining ps | Some e ↦ (if list_any (deletes e.id) ps then remaining ps else e ∷ remaining ps) ]

abbrev pub live : List Placed → List Entry
live l = remaining (in_effect l)

-- ---- what is in doubt

-- the transaction and the extra bytes of a sound PREPARE behind `before` with no end in `behind`
abbrev pub prepared_here : List Placed → Placed → List Placed → Option (ℕ × List ℕ)
prepared_here before p behind = elim p.rec [
  | r.Prepare tx count extra ↦ (if is_sound before p && not (list_any (ends tx) behind) then Some (tx, extra) else None)
  | _ ↦ None
]

abbrev pub prepared_from : List Placed → List Placed → List (ℕ × List ℕ)
prepared_from before [] = []
prepared_from before (p ∷ ps) = elim (prepared_here before p ps) [ None ↦ prepared_from (before ++ p ∷ []) ps | Some x ↦ x ∷ prepared_from (before ++ p ∷ []) ps ]

-- the sound PREPAREs with no end behind them, in order
abbrev pub prepared : List Placed → List (ℕ × List ℕ)
prepared l = prepared_from [] l

-- n among ascending numbers, once
abbrev pub among : ℕ → List ℕ → List ℕ
among n [] = n ∷ []
among n (m ∷ ms) = if nat_lt n m then n ∷ m ∷ ms else (if n == m then m ∷ ms else m ∷ among n ms)

abbrev pub ascending : List ℕ → List ℕ
ascending [] = []
ascending (n ∷ ns) = among n (ascending ns)

-- the bytes of the last of this number
abbrev pub last_of : ℕ → List (ℕ × List ℕ) → List ℕ → List ℕ
last_of tx [] extra = extra
last_of tx (x ∷ xs) extra = last_of tx xs (if x.0 == tx then x.1 else extra)

abbrev pub doubt_of : List Placed → ℕ → InDoubt
doubt_of l tx = record {
  tx = tx;
  extra = last_of tx (prepared l) [];
  records = filter_map entry_of (open_changes tx l);
  deletes = filter_map removal_of (open_changes tx l);
}

abbrev pub in_doubt : List Placed → List InDoubt
in_doubt l = map (doubt_of l) (ascending (map (λ x. x.0) (prepared l)))

-- ---- what loading gives

abbrev pub result_of : List Placed → LoadState
result_of l = record { live = live l; in_doubt = in_doubt l }

-- what the record adds to the order of effect, behind these
abbrev pub effect_of : List Placed → Placed → List Placed
effect_of before p = elim p.rec [
  | r.Add id user_type body ↦ p ∷ []
  | r.Update id user_type body ↦ p ∷ []
  | r.Delete id ↦ p ∷ []
  | r.Commit tx count ↦ (if is_sound before p then open_changes tx before else [])
  | _ ↦ []
]
