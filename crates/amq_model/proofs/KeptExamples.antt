-- What a crash may keep of a history, and what it may not.
use Rattle.std.proofs.Common.{◌≡◌, ℕ, zero, suc, inl, inr, true, IsTrue, List, [], ◌∷◌, take, drop, Option, Some, None, slice_get, IfSome, All, Contains, unwrap_or, refl, sym, ap, subst, ◌∙◌, true≢false, arith}
use Rattle.amq_model.specs.declared.record.Record.{Record}
use Rattle.amq_model.specs.declared.record.Record.TheVariants.{Add, AddTx, DeleteTx, Commit}
use Rattle.amq_model.specs.declared.record.Placed.{Placed}
use Rattle.amq_model.specs.Effect.{is_sound, open_changes}
use Rattle.amq_model.specs.Kept.{IsPart, IsWhole, IsKept, closing_tx}

abbrev at : ℕ → Record → Placed
at place rec = record { file = 1; place = place; compact = 0; rec = rec }

-- a plain add, and a transaction of two adds
abbrev history : List Placed
history = at 16 (Add 1 7 []) ∷ at 39 (AddTx 5 3 7 []) ∷ at 70 (AddTx 5 4 7 []) ∷ at 101 (Commit 5 2) ∷ []

-- the place of an entry
abbrev place_of : Option Placed → ℕ
place_of None = 0
place_of (Some p) = p.place

-- what is asked of an entry that is kept, once it is known which one it is
abbrev HasAll : List Placed → List Placed → ℕ → Placed → Type 0
HasAll all kept h p = IfSome (closing_tx p.rec) (λ tx. All (Contains kept) (open_changes tx (take h all)))

known : (all kept before : List Placed) (q : Placed) (found : Option Placed) → found ≡ Some q
    → ((h : ℕ) → slice_get all h ≡ Some q → IsTrue (is_sound before q) → HasAll all kept h q)
    → (h : ℕ) (p : Placed) → found ≡ Some p → slice_get all h ≡ Some p → IsTrue (is_sound before p) → HasAll all kept h p
known all kept before q found e has h p f = subst (λ x. slice_get all h ≡ Some x → IsTrue (is_sound before x) → HasAll all kept h x) (ap (λ o. unwrap_or o q) (sym e ∙ f)) (has h)

-- ---- what is durable is kept

pub a_lost_durable_record : (kept : List Placed) → IsKept [] history 1 (at 39 (AddTx 5 3 7 []) ∷ kept) → ⊥
a_lost_durable_record kept h = let e : ◌≡◌ {A = ℕ} 39 16 = ap (λ l. place_of (slice_get l 0)) h.front in omega arith

pub nothing_kept : IsKept [] history 1 [] → ⊥
nothing_kept h = let e : ◌≡◌ {A = ℕ} 0 16 = ap (λ l. place_of (slice_get l 0)) h.front in omega arith

-- ---- the rest is a part, in order

pub a_part : IsPart (at 39 (AddTx 5 3 7 []) ∷ at 101 (Commit 5 2) ∷ []) (drop 1 history)
a_part = inl (refl, inr (inl (refl, tt)))

another : (p q : Placed) → (p.place ≡ q.place → ⊥) → p ≡ q → ⊥
another p q other e = other (ap (λ x. x.place) e)

pub out_of_order : IsPart (at 70 (AddTx 5 4 7 []) ∷ at 39 (AddTx 5 3 7 []) ∷ []) (drop 1 history) → ⊥
out_of_order (inl (e, more)) = another _ _ (λ e. omega arith) e
out_of_order (inr (inl (e, inl (g, more)))) = another _ _ (λ e. omega arith) g
out_of_order (inr (inl (e, inr h))) = h
out_of_order (inr (inr (inl (e, more)))) = another _ _ (λ e. omega arith) e
out_of_order (inr (inr (inr h))) = h

-- ---- a COMMIT that lost an add of its transaction has another number than it counts, and is kept without effect

abbrev unsound : List Placed
unsound = at 16 (Add 1 7 []) ∷ at 39 (AddTx 5 3 7 []) ∷ at 101 (Commit 5 2) ∷ []

pub unsound_is_kept : IsKept [] history 1 unsound
unsound_is_kept = record { rest = drop 1 unsound; counted = omega arith; front = refl; some = a_part; whole = whole } where
  whole : IsWhole [] history unsound
  whole zero h p = λ e f s. known history unsound [] (at 16 (Add 1 7 [])) (slice_get unsound 0) refl (λ h f s. tt) h p e f s
  whole (suc zero) h p = λ e f s. known history unsound (take 1 unsound) (at 39 (AddTx 5 3 7 [])) (slice_get unsound 1) refl (λ h f s. tt) h p e f s
  whole (suc (suc zero)) h p = λ e f s. known history unsound (take 2 unsound) (at 101 (Commit 5 2)) (slice_get unsound 2) refl (λ h f s. absurd (true≢false (sym s))) h p e f s
  whole (suc (suc (suc k))) h p = λ e f s. absurd cc

-- the same with a COMMIT of the lesser number, which isn't in the history
pub a_changed_commit : (base : List Placed) → IsKept base history 1 (at 16 (Add 1 7 []) ∷ at 39 (AddTx 5 3 7 []) ∷ at 101 (Commit 5 1) ∷ []) → ⊥
a_changed_commit base h = no_part (subst (λ l. IsPart l (drop 1 history)) (sym (ap (λ l. drop 1 l) h.front)) h.some) where
  other : at 101 (Commit 5 1) ≡ at 101 (Commit 5 2) → ⊥
  other e = let g : Commit 5 1 ≡ Commit 5 2 = ap (λ x. x.rec) e in cc

  no_part : IsPart (at 39 (AddTx 5 3 7 []) ∷ at 101 (Commit 5 1) ∷ []) (drop 1 history) → ⊥
  no_part (inl (e, inl (g, more))) = another _ _ (λ e. omega arith) g
  no_part (inl (e, inr (inl (g, more)))) = other g
  no_part (inl (e, inr (inr h))) = h
  no_part (inr (inl (e, more))) = another _ _ (λ e. omega arith) e
  no_part (inr (inr (inl (e, more)))) = another _ _ (λ e. omega arith) e
  no_part (inr (inr (inr h))) = h

-- ---- a sound COMMIT has its transaction there

pub all_is_kept : IsKept [] history 1 history
all_is_kept = record { rest = drop 1 history; counted = omega arith; front = refl; some = inl (refl, inl (refl, inl (refl, tt))); whole = whole } where
  adds : All (Contains history) (at 39 (AddTx 5 3 7 []) ∷ at 70 (AddTx 5 4 7 []) ∷ [])
  adds zero d h = (1, omega arith, refl)
  adds (suc zero) d h = (2, omega arith, refl)
  adds (suc (suc k)) d h = absurd (omega arith)

  commit : (h : ℕ) → slice_get history h ≡ Some (at 101 (Commit 5 2)) → HasAll history history h (at 101 (Commit 5 2))
  commit zero e = let g : ◌≡◌ {A = ℕ} 16 101 = ap place_of e in absurd (omega arith)
  commit (suc zero) e = let g : ◌≡◌ {A = ℕ} 39 101 = ap place_of e in absurd (omega arith)
  commit (suc (suc zero)) e = let g : ◌≡◌ {A = ℕ} 70 101 = ap place_of e in absurd (omega arith)
  commit (suc (suc (suc zero))) e = adds
  commit (suc (suc (suc (suc k)))) e = let g : ◌≡◌ {A = ℕ} 0 101 = ap place_of e in absurd (omega arith)

  whole : IsWhole [] history history
  whole zero h p = λ e f s. known history history [] (at 16 (Add 1 7 [])) (slice_get history 0) refl (λ h f s. tt) h p e f s
  whole (suc zero) h p = λ e f s. known history history (take 1 history) (at 39 (AddTx 5 3 7 [])) (slice_get history 1) refl (λ h f s. tt) h p e f s
  whole (suc (suc zero)) h p = λ e f s. known history history (take 2 history) (at 70 (AddTx 5 4 7 [])) (slice_get history 2) refl (λ h f s. tt) h p e f s
  whole (suc (suc (suc zero))) h p = λ e f s. known history history (take 3 history) (at 101 (Commit 5 2)) (slice_get history 3) refl (λ h f s. commit h f) h p e f s
  whole (suc (suc (suc (suc k)))) h p = λ e f s. absurd cc

-- a transaction that went on after its end: what is left has a COMMIT that is sound by its number, and lacks a delete

abbrev reused : List Placed
reused = at 16 (DeleteTx 5 1 []) ∷ at 46 (DeleteTx 5 2 []) ∷ at 76 (Commit 5 2) ∷ at 98 (DeleteTx 5 3 []) ∷ at 128 (DeleteTx 5 4 []) ∷ at 158 (Commit 5 2) ∷ []

abbrev mixed : List Placed
mixed = at 16 (DeleteTx 5 1 []) ∷ at 98 (DeleteTx 5 3 []) ∷ at 158 (Commit 5 2) ∷ []

pub mixed_is_a_part : IsPart mixed reused
mixed_is_a_part = inl (refl, inr (inr (inl (refl, inr (inl (refl, tt))))))

pub mixed_is_sound : is_sound (take 2 mixed) (at 158 (Commit 5 2)) ≡ true
mixed_is_sound = refl

pub mixed_isnt_whole : IsWhole [] reused mixed → ⊥
mixed_isnt_whole h = let all : All (Contains mixed) (at 98 (DeleteTx 5 3 []) ∷ at 128 (DeleteTx 5 4 []) ∷ []) = h 2 5 (at 158 (Commit 5 2)) refl refl refl in found (all 1 (at 0 (Commit 0 0)) (omega arith)) where
  found : Contains mixed (at 128 (DeleteTx 5 4 [])) → ⊥
  found (zero, below, e) = another _ _ (λ e. omega arith) e
  found (suc zero, below, e) = another _ _ (λ e. omega arith) e
  found (suc (suc zero), below, e) = another _ _ (λ e. omega arith) e
  found (suc (suc (suc k)), below, e) = omega arith
