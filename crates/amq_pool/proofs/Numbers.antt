-- Ids that ascend.
use Rattle.std.proofs.Common.{ℕ, ◌+◌, ◌<◌, ◌≤◌, List, [], ◌∷◌, ◌++◌, length, arith}
use Rattle.std.specs.Prelude.{All}
use Rattle.std.proofs.lemmas.List.Elements.{All-nil, All-cons}
use Rattle.amq_pool.specs.declared.pool.PoolFile.{PoolFile}
use Rattle.amq_pool.specs.Pools.{AscendWithin, ids_of}

-- one more behind them
pub push : (low high id top : ℕ) (ids : List ℕ) → AscendWithin low ids high → high < id → id ≤ top → AscendWithin low (ids ++ id ∷ []) top
push low high id top [] rises above fits = (omega arith, fits)
push low high id top (x ∷ ids) rises above fits = (rises.0, push x high id top ids rises.1 above fits)

-- from a lesser number on
pub lower : (low first high : ℕ) (ids : List ℕ) → low ≤ first → AscendWithin first ids high → AscendWithin low ids high
lower low first high [] le rises = omega arith
lower low first high (x ∷ ids) le rises = (omega (arith, rises.0), rises.1)

-- each file's id is above the first number
pub above : (low first high : ℕ) (files : List PoolFile) → low ≤ first → AscendWithin first (ids_of files) high → All (λ f. low < f.id) files
above low first high [] le rises = All-nil (λ f. low < f.id)
above low first high (x ∷ files) le rises = All-cons (λ f. low < f.id) x files (omega (arith, rises.0)) (above low x.id high files (omega (arith, rises.0)) rises.1)

-- there are no more of them than numbers
pub few : (low high : ℕ) (files : List PoolFile) → AscendWithin low (ids_of files) high → low + length files ≤ high
few low high [] rises = omega arith
few low high (x ∷ files) rises = omega (arith, rises.0, few x.id high files rises.1)
