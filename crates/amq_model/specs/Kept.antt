-- What a crash may keep of a history: the durable ones, some later ones in order, and no transaction in part.
use Rattle.std.specs.Prelude.{◌≡◌, ℕ, ◌≤◌, ◌⊎◌, IsTrue, List, [], ◌∷◌, ◌++◌, length, take, drop, Option, Some, None, IfSome, slice_get, Contains, All}
use Rattle.amq_model.specs.declared.record.Record.{Record}
use Rattle.amq_model.specs.declared.record.Record.TheVariants as r
use Rattle.amq_model.specs.declared.record.Placed.{Placed}
use Rattle.amq_model.specs.Effect.{open_changes, is_sound}

-- the transaction that a COMMIT or PREPARE closes
abbrev pub closing_tx : Record → Option ℕ
closing_tx (r.Prepare tx count extra) = Some tx
closing_tx (r.Commit tx count) = Some tx
closing_tx _ = None

-- For each COMMIT or PREPARE of kept that is sound, the open adds, updates and deletes of its transaction that stand before it in history are kept.
abbrev pub IsWhole : List Placed → List Placed → List Placed → Type 0
IsWhole base history kept = (k h : ℕ) (p : Placed) →
    slice_get kept k ≡ Some p → slice_get history h ≡ Some p → IsTrue (is_sound (base ++ take k kept) p) →
    IfSome (closing_tx p.rec) (λ tx. All (Contains kept) (open_changes tx (take h history)))

-- part is what is left of whole when some are dropped
abbrev pub IsPart : {X : Type 0} → List X → List X → Type 0
IsPart [] whole = Unit {0}
IsPart (x ∷ xs) [] = ⊥
IsPart (x ∷ xs) (y ∷ ys) = ((x ≡ y) × IsPart xs ys) ⊎ IsPart (x ∷ xs) ys

-- the first `durable` of the history, of which there are as many, some of the rest in order, and whole transactions
pub record IsKept (base history : List Placed) (durable : ℕ) (kept : List Placed) : Type 0 where
  pub rest : List Placed
  pub counted : durable ≤ length history
  pub front : kept ≡ take durable history ++ rest
  pub some : IsPart rest (drop durable history)
  pub whole : IsWhole base history kept
