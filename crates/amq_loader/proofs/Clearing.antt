-- Files that are removed one after the other.
use Rattle.std.proofs.Common.{◌≡◌, ◌⊎◌, inl, inr, ℕ, zero, suc, ◌+◌, ◌<◌, ◌≤◌, Bool, true, false, List, [], ◌∷◌, ◌++◌, length, take, get_or, Contains, All, IsSome, Option, None, Some, Result, Ok, refl, sym, ap, subst, ◌∙◌, arith}
use Rattle.std.specs.FinMap as finite
use Rattle.std.proofs.lemmas.List.{take_more}
use Rattle.std.proofs.lemmas.List.Elements.{Contains-append_left, Contains-append_right, Contains-append_cases, All-contains}
use Rattle.amq_model.specs.Names.{same}
use Rattle.amq_model.specs.Files.{FileName, Files, removed}
use Rattle.amq_model.specs.Calls.{Past, removing, done}
use Rattle.amq_model.specs.Leaves.{Leaves, Within, Told, IsThere}
use Rattle.amq_model.proofs.Lookups.{untouched, get-remove_same, get-remove_other}
use Rattle.amq_model.proofs.OneReading.{same_is, same_self}
use Rattle.amq_model.proofs.Moments.{still, go_on}
use Rattle.amq_model.proofs.Chain.{told_then, loosely}
use Rattle.amq_io.specs.declared.disk.DiskError.{DiskError}
use Rattle.amq_io.specs.Notes.{Notes}
use Rattle.amq_io.proofs.Called.{Ended, called, ended_within}
use Rattle.amq_loader.specs.Bases.{AreApart, Clears, Cleared}

-- before the first one
pub none_cleared : (names : List FileName) (past : Option Past) → Leaves (Clears names) (Cleared []) past past
none_cleared names past = still (Clears names) (Cleared []) past (λ s. record { others = λ n other. refl; gone = λ n there. absurd (omega (arith, there.1)) })

-- the next name isn't among those before it
apart_at : (names : List FileName) (i : ℕ) (d : FileName) → i < length names → AreApart names → Contains (take i names) (get_or names i d) → ⊥
apart_at [] i d low apart there = omega (arith, low)
apart_at (n ∷ ns) zero d low apart there = omega (arith, there.1)
apart_at (n ∷ ns) (suc i) d low apart (zero, lt, is) = apart.0 (behind ns i (omega (arith, low)) is) where
  behind : (ns : List FileName) (i : ℕ) → i < length ns → n ≡ get_or ns i d → Contains ns n
  behind [] i low is = absurd (omega (arith, low))
  behind (m ∷ ms) zero low is = (zero, omega arith, sym is)
  behind (m ∷ ms) (suc i) low is = let r = behind ms i (omega (arith, low)) is in (suc r.0, omega (arith, r.1), r.2)
apart_at (n ∷ ns) (suc i) d low apart (suc k, lt, is) = apart_at ns i d (omega (arith, low)) apart.1 (k, omega (arith, lt), is)

-- the names so far, and the next one
module _ (names : List FileName) (i : ℕ) (next : FileName) (low : i < length names) (is_next : next ≡ get_or names i next) where
  more_is : take (i + 1) names ≡ take i names ++ next ∷ []
  more_is = take_more names i next low ∙ ap (λ (n : FileName). take i names ++ n ∷ []) (sym is_next)

  next_there : Contains names next
  next_there = (i, low, sym is_next)

  front_there : (n : FileName) → Contains (take i names) n → Contains names n
  front_there n there = by names i n there where
    by : (names : List FileName) (i : ℕ) (n : FileName) → Contains (take i names) n → Contains names n
    by names zero n there = absurd (omega (arith, there.1))
    by [] (suc i) n there = absurd (omega (arith, there.1))
    by (m ∷ ns) (suc i) n (zero, lt, is) = (zero, omega arith, is)
    by (m ∷ ns) (suc i) n (suc k, lt, is) = let r = by ns i n (k, omega (arith, lt), is) in (suc r.0, omega (arith, r.1), r.2)

  in_more : (n : FileName) → Contains (take i names) n → Contains (take (i + 1) names) n
  in_more n there = subst (λ (l : List FileName). Contains l n) (sym more_is) (Contains-append_left (take i names) (next ∷ []) n there)

  next_in_more : Contains (take (i + 1) names) next
  next_in_more = subst (λ (l : List FileName). Contains l next) (sym more_is) (Contains-append_right (take i names) (next ∷ []) next (zero, omega arith, refl))

  more_cases : (n : FileName) → Contains (take (i + 1) names) n → Contains (take i names) n ⊎ (next ≡ n)
  more_cases n there = by (Contains-append_cases (take i names) (next ∷ []) n (subst (λ (l : List FileName). Contains l n) more_is there)) where
    by : Contains (take i names) n ⊎ Contains (next ∷ []) n → Contains (take i names) n ⊎ (next ≡ n)
    by (inl there) = inl there
    by (inr (zero, lt, is)) = inr is
    by (inr (suc k, lt, is)) = absurd (omega (arith, lt))

  -- at each moment of the next removal
  removing_next : (o m s : Files) → Cleared (take i names) o m → Within (removing next) m s → Clears names o s
  removing_next o m s so_far within n other =
      untouched (removing next) m s within n (λ is. other (subst (Contains names) (sym is) next_there)) ∙ so_far.others n (λ there. other (front_there n there))

  removed_next : (o m s : Files) → Cleared (take i names) o m → s ≡ removed next m → Cleared (take (i + 1) names) o s
  removed_next o m s so_far is = subst (Cleared (take (i + 1) names) o) (sym is) (record { others = others; gone = gone }) where
    others : (n : FileName) → (Contains (take (i + 1) names) n → ⊥) → finite.get (removed next m) n ≡ finite.get o n
    others n other = get-remove_other m next n (λ is. other (subst (Contains (take (i + 1) names)) (sym is) next_in_more)) ∙ so_far.others n (λ there. other (in_more n there))

    gone : (n : FileName) → Contains (take (i + 1) names) n → finite.get (removed next m) n ≡ None
    gone n there = by (more_cases n there) (same n next) refl where
      by : Contains (take i names) n ⊎ (next ≡ n) → (b : Bool) → same n next ≡ b → finite.get (removed next m) n ≡ None
      by cases true is = subst (λ (n : FileName). finite.get (removed next m) n ≡ None) (sym (same_is n next is)) (get-remove_same m next)
      by (inl there) false is = get-remove_other m next n (λ e. let both : true ≡ false = sym (same_self n) ∙ ap (same n) e ∙ is in cc) ∙ so_far.gone n there
      by (inr e) false is = subst (λ (n : FileName). finite.get (removed next m) n ≡ None) e (get-remove_same m next)

  -- one more removal that answered Ok
  pub one_cleared : {T : Type 0} (x : T) (a b c : Option Past) → Leaves (Clears names) (Cleared (take i names)) a b → Notes {T = T} (removing next) (Ok x) b c → Leaves (Clears names) (Cleared (take (i + 1) names)) a c
  one_cleared {T = T} x a b c so_far notes =
      go_on {I = Clears names} {J = Within (removing next)} {K = Clears names} {E = Cleared (take i names)} {F = Ended {T = T} (removing next) (Ok x)} {G = Cleared (take (i + 1) names)} a b c
      (λ o s is. is) removing_next removed_next so_far (called {T = T} (removing next) (Ok x) b c notes)

  -- and one that answered anything
  pub cut_off : {T : Type 0} (result : Result T DiskError) (a b c : Option Past) → Leaves (Clears names) (Cleared (take i names)) a b → Notes (removing next) result b c → Leaves (Clears names) (Clears names) a c
  cut_off result a b c so_far notes =
      go_on {I = Clears names} {J = Within (removing next)} {K = Clears names} {E = Cleared (take i names)} {F = Ended (removing next) result} {G = Clears names} a b c
      (λ o s is. is) removing_next (λ o m s is e. removing_next o m s is (ended_within (removing next) result m s e)) so_far (called (removing next) result b c notes)

  -- the next one is there
  pub next_is_there : (a b : Option Past) → Told a (λ s. All (λ n. IsThere n s) names) → Told a (λ _. AreApart names) → Leaves (Clears names) (Cleared (take i names)) a b → Told b (IsThere next)
  next_is_there a b all apart so_far = told_then (Clears names) (Cleared (take i names)) (λ s. All (λ n. IsThere n s) names × AreApart names) (IsThere next) a b (both a all apart) there so_far where
    both : (a : Option Past) → Told a (λ s. All (λ n. IsThere n s) names) → Told a (λ _. AreApart names) → Told a (λ s. All (λ n. IsThere n s) names × AreApart names)
    both None all apart = tt
    both (Some p) all apart = (all, apart)

    there : (o s : Files) → All (λ n. IsThere n o) names × AreApart names → Cleared (take i names) o s → IsThere next s
    there o s (all, apart) so_far = subst IsSome (sym (so_far.others next (λ among. apart_at names i next low apart (subst (Contains (take i names)) is_next among)))) (All-contains (λ n. IsThere n o) names next all next_there)

-- all of them
pub all_cleared : (names : List FileName) (i : ℕ) (a b : Option Past) → length names ≤ i → Leaves (Clears names) (Cleared (take i names)) a b → Leaves (Clears names) (Cleared names) a b
all_cleared names i a b done so_far = subst (λ (l : List FileName). Leaves (Clears names) (Cleared l) a b) (take_whole names i done) so_far where
  take_whole : (names : List FileName) (i : ℕ) → length names ≤ i → take i names ≡ names
  take_whole [] zero done = refl
  take_whole [] (suc i) done = refl
  take_whole (n ∷ ns) zero done = absurd (omega (arith, done))
  take_whole (n ∷ ns) (suc i) done = ap (λ (l : List FileName). n ∷ l) (take_whole ns i (omega (arith, done)))

-- at the end it is as at each moment
pub cleared_clears : (names : List FileName) (a b : Option Past) → Leaves (Clears names) (Cleared names) a b → Leaves (Clears names) (Clears names) a b
cleared_clears names a b is = loosely (Clears names) (Clears names) (Cleared names) (Clears names) a b (λ o s e. e) (λ o s e. e.others) is
