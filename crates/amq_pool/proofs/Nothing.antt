-- Where no disk call was made.
use Rattle.std.proofs.Common.{inl, ℕ, Option, refl}
use Rattle.amq_model.specs.declared.config.Config.{Config}
use Rattle.amq_model.specs.Files.{Files}
use Rattle.amq_model.specs.Calls.{Past}
use Rattle.amq_model.specs.Leaves.{Leaves}
use Rattle.amq_model.proofs.Moments.{still}
use Rattle.amq_pool.specs.Pools.{Making, Unmade}

module _ (config : Config) (id : ℕ) where
  same : (s : Files) → Making config id s s
  same s = record { others = λ n ne me. refl; final = inl refl }

  pub nothing_made : (past : Option Past) → Leaves (Making config id) (Making config id) past past
  nothing_made past = still (Making config id) (Making config id) past same

  pub nothing_changed : (past : Option Past) → Leaves (Making config id) (Unmade id) past past
  nothing_changed past = still (Making config id) (Unmade id) past (λ s n ne. refl)
