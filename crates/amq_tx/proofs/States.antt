-- Two states that tell the same everywhere are one.
use Rattle.std.proofs.Common.{◌≡◌, ℕ, Bool, List, Option, ap, ◌∙◌}
use Rattle.std.proofs.Math.Path.{fun_ext}
use Rattle.amq_model.specs.declared.state.EntryEnd.{EntryEnd}
use Rattle.amq_tx.specs.State.{TurnState, TxState}

abbrev state : (ℕ → Bool) → (ℕ → List (ℕ × EntryEnd)) → (ℕ → Option TurnState) → ℕ → TxState
state live touched turns highest = record { live = live; touched = touched; turns = turns; highest = highest }

pub same_state : (s t : TxState) → ((id : ℕ) → s.live id ≡ t.live id) → ((id : ℕ) → s.touched id ≡ t.touched id) → ((tx : ℕ) → s.turns tx ≡ t.turns tx) → s.highest ≡ t.highest → s ≡ t
same_state s t live touched turns highest =
    ap (λ (f : ℕ → Bool). state f s.touched s.turns s.highest) (fun_ext live)
    ∙ ap (λ (f : ℕ → List (ℕ × EntryEnd)). state t.live f s.turns s.highest) (fun_ext touched)
    ∙ ap (λ (f : ℕ → Option TurnState). state t.live t.touched f s.highest) (fun_ext turns)
    ∙ ap (λ (n : ℕ). state t.live t.touched t.turns n) highest
