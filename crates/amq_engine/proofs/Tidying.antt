-- What leaves a directory tidy: no compacted and no temporary file is there.
use Rattle.std.proofs.Common.{◌≡◌, ◌⊎◌, inl, inr, ℕ, ◌+◌, ◌-◌, ◌^◌, ◌<◌, Bool, true, false, cond, List, Option, None, Some, refl, sym, ◌∙◌, ap, arith}
use Rattle.std.specs.Prelude.{IsSome, is_some, ◌||◌}
use Rattle.std.specs.FinMap as finite
use Rattle.amq_model.specs.declared.config.Config.{Config}
use Rattle.amq_model.specs.Names.{is_data, is_compacted, is_temporary, data_number, compacted_number}
use Rattle.amq_model.specs.Files.{FileName, Files, File}
use Rattle.amq_model.specs.Calls.{Past}
use Rattle.amq_model.specs.Leaves.{Told, Leaves, IsThere, SparesAllBut}
use Rattle.amq_model.proofs.Chain.{told_then}
use Rattle.amq_header.specs.Classes.{data_name, temporary_name, temporary_number}
use Rattle.amq_header.specs.declared.classes.FileClass.TheVariants.{DataFile, Compacted, Temporary}
use Rattle.amq_header.proofs.Exclusive.{one_class, temporary_is}
use Rattle.amq_header.proofs.Made.{data_is_read}
use Rattle.amq_pool.specs.Pools.{Making, Made}
use Rattle.amq_loader.specs.Loads.{is_leftover, IsTidy}
use Rattle.amq_engine.specs.Puts.{Puts, Put}
use Rattle.amq_engine.specs.DataFiles.{HasId, id_and_length}
use Rattle.amq_engine.proofs.Standing.{same_or_not}

-- a data file's name isn't that of a compacted or temporary file
data_no_leftover : (n : FileName) (k : ℕ) → data_number n ≡ Some k → is_leftover n ≡ true → ⊥
data_no_leftover n k plain is = by (is_compacted n) refl is where
  compacted_no : (o : Option ℕ) → compacted_number n ≡ o → is_some o ≡ true → ⊥
  compacted_no None e s = absurd cc
  compacted_no (Some j) e s = let same : DataFile k ≡ Compacted j = one_class n (DataFile k) (Compacted j) plain e in absurd cc

  temporary_no : (o : Option (Option ℕ)) → temporary_number n ≡ o → is_some o ≡ true → ⊥
  temporary_no None e s = absurd cc
  temporary_no (Some j) e s = let same : DataFile k ≡ Temporary j = one_class n (DataFile k) (Temporary j) plain e in absurd cc

  by : (b : Bool) → is_compacted n ≡ b → (b || is_temporary n) ≡ true → ⊥
  by true e is = compacted_no (compacted_number n) refl e
  by false e is = temporary_no (temporary_number n) refl (sym (temporary_is n) ∙ is)

-- behind a new file
pub tidy_made : (config : Config) (highest : ℕ) (o s : Files) → highest < 2 ^ 31 - 1 → IsTidy o → Made config (highest + 1) o s → IsTidy s
tidy_made config highest o s low tidy made n is = by (same_or_not n (temporary_name (highest + 1))) where
  no_data : n ≡ data_name (highest + 1) → ⊥
  no_data e = data_no_leftover n (highest + 1) (ap data_number e ∙ data_is_read (highest + 1) (omega (arith, low))) is

  by : (n ≡ temporary_name (highest + 1)) ⊎ (n ≡ temporary_name (highest + 1) → ⊥) → finite.get s n ≡ None
  by (inl e) = ap (finite.get s) e ∙ made.gone
  by (inr ne) = made.others n ne no_data ∙ tidy n is

pub told_made : (config : Config) (highest : ℕ) (a b : Option Past) → highest < 2 ^ 31 - 1 → Leaves (Making config (highest + 1)) (Made config (highest + 1)) a b → Told a IsTidy → Told b IsTidy
told_made config highest a b low went tidy = told_then (Making config (highest + 1)) (Made config (highest + 1)) IsTidy IsTidy a b tidy (λ o s t m. tidy_made config highest o s low t m) went

not_none : (o : Option File) → IsSome o → o ≡ None → ⊥
not_none None some e = absurd cc
not_none (Some f) some e = absurd cc

-- behind bytes that were put into a file that is there
tidy_put : (n : FileName) (place : ℕ) (bytes : List ℕ) (o s : Files) → IsThere n o → IsTidy o → Put n place bytes o s → IsTidy s
tidy_put n place bytes o s there tidy put q is = by (same_or_not q n) where
  by : (q ≡ n) ⊎ (q ≡ n → ⊥) → finite.get s q ≡ None
  by (inl e) = absurd (not_none (finite.get o n) there (ap (finite.get o) (sym e) ∙ tidy q is))
  by (inr ne) = put.others q ne ∙ tidy q is

told_both : (P Q : Files → Type 0) (h : Option Past) → Told h P → Told h Q → Told h (λ s. P s × Q s)
told_both P Q None p q = tt
told_both P Q (Some h) p q = (p, q)

-- behind calls that wrote to a data file alone
tidy_spared : (used : FileName) (id : ℕ) (o s : Files) → HasId id o used → IsTidy o → SparesAllBut (λ n. n ≡ used) o s → IsTidy s
tidy_spared used id o s has tidy spares n is = by (same_or_not n used) where
  numbered : (k : Option ℕ) → data_number used ≡ k → is_some k ≡ true → is_leftover used ≡ true → ⊥
  numbered None e some left = absurd cc
  numbered (Some k) e some left = data_no_leftover used k e left

  of_data : (b : Bool) → is_data used ≡ b → cond b (id_and_length (finite.get o used)) None ≡ Some (id, has.0) → is_leftover used ≡ true → ⊥
  of_data false isnt there left = absurd cc
  of_data true is_one there left = numbered (data_number used) refl is_one left

  by : (n ≡ used) ⊎ (n ≡ used → ⊥) → finite.get s n ≡ None
  by (inl e) = absurd (of_data (is_data used) refl has.1 (sym (ap is_leftover e) ∙ is))
  by (inr ne) = spares n ne ∙ tidy n is

pub told_spared : (used : FileName) (id : ℕ) (a b : Option Past) → Told a (λ s. HasId id s used) → Leaves (SparesAllBut (λ n. n ≡ used)) (SparesAllBut (λ n. n ≡ used)) a b → Told a IsTidy → Told b IsTidy
told_spared used id a b has went tidy =
    let K : Files → Files → Type 0 = SparesAllBut (λ n. n ≡ used) in
    told_then K K (λ s. HasId id s used × IsTidy s) IsTidy a b (told_both (λ s. HasId id s used) IsTidy a has tidy) (λ o s was k. tidy_spared used id o s was.0 was.1 k) went

pub told_put : (n : FileName) (place : ℕ) (bytes : List ℕ) (a b : Option Past) → Told a (IsThere n) → Leaves (Puts n place bytes) (Put n place bytes) a b → Told a IsTidy → Told b IsTidy
told_put n place bytes a b there went tidy =
    told_then (Puts n place bytes) (Put n place bytes) (λ s. IsThere n s × IsTidy s) IsTidy a b (told_both (IsThere n) IsTidy a there tidy) (λ o s was put. tidy_put n place bytes o s was.0 was.1 put) went
