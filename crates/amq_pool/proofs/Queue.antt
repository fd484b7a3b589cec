-- A pool with one more file, and with one less.
use Rattle.std.proofs.Common.{◌≡◌, ℕ, ◌+◌, ◌-◌, ◌^◌, ◌<◌, ◌≤◌, List, [], ◌∷◌, ◌++◌, length, Option, Some, None, sym, ap, ◌∙◌, subst, arith}
use Rattle.std.specs.Prelude.{All, IfSome}
use Rattle.std.specs.Option.{option_to_list}
use Rattle.std.proofs.lemmas.List.{map-append}
use Rattle.std.proofs.lemmas.List.Elements.{All-tail, All-push, All-weaker}
use Rattle.amq_model.specs.declared.config.Config.{Config}
use Rattle.amq_header.proofs.Made.{data_is_read}
use Rattle.amq_pool.specs.declared.pool.PoolFile.{PoolFile}
use Rattle.amq_pool.specs.Pools.{PoolOf, IsPool, IsNamed, AscendWithin, ids_of, numbered_file, with_next}
use Rattle.amq_pool.proofs.Numbers.{above, few, lower, push}

abbrev pub pool_of : Config → ℕ → List PoolFile → PoolOf
pool_of config highest files = record { config = config; highest = highest; prepared = files }

-- with the next file
pub next_is : (p : PoolOf) → IsPool p → p.highest < 2 ^ 31 - 1 → IsPool (with_next p)
next_is p is room = record {
  config = is.config;
  named = All-push (IsNamed (p.highest + 1)) p.prepared (numbered_file (p.highest + 1)) (All-weaker (IsNamed p.highest) (IsNamed (p.highest + 1)) (λ f n. (n.0, n.1, omega (arith, n.2))) p.prepared is.named)
      (p.highest + 1, data_is_read (p.highest + 1) (omega arith), omega arith);
  given = subst (λ (ids : List ℕ). AscendWithin 0 ids (p.highest + 1)) (sym ids) (push 0 p.highest (p.highest + 1) (p.highest + 1) (ids_of p.prepared) is.given (omega arith) (omega arith));
  numbers = subst (λ (ids : List ℕ). AscendWithin 0 ids (2 ^ 31 - 1)) (sym ids) (push 0 p.highest (p.highest + 1) (2 ^ 31 - 1) (ids_of p.prepared) is.given (omega arith) (omega arith));
}
  where
    ids : ids_of (p.prepared ++ numbered_file (p.highest + 1) ∷ []) ≡ ids_of p.prepared ++ (p.highest + 1) ∷ []
    ids = map-append (λ f. f.id) p.prepared (numbered_file (p.highest + 1) ∷ [])

-- without the first file
pub rest_is : (config : Config) (highest : ℕ) (file : PoolFile) (files : List PoolFile) → IsPool (pool_of config highest (file ∷ files)) → IsPool (pool_of config highest files)
rest_is config highest file files is = record {
  config = is.config;
  named = All-tail (IsNamed highest) file files is.named;
  given = lower 0 file.id highest (ids_of files) (omega arith) is.given.1;
  numbers = lower 0 file.id (2 ^ 31 - 1) (ids_of files) (omega arith) is.numbers.1;
}

module _ (config : Config) (highest : ℕ) where
  abbrev Has : List PoolFile → Type 0
  Has files = IsPool (pool_of config highest files)

  -- the first file is taken
  pub taken : (files rest : List PoolFile) (r : Option PoolFile) → files ≡ option_to_list r ++ rest → IsPool (pool_of config highest files) → IsPool (pool_of config highest rest)
  taken files rest None is inside = subst Has is inside
  taken files rest (Some f) is inside = rest_is config highest f rest (subst Has is inside)

  pub least : (files rest : List PoolFile) (r : Option PoolFile) → files ≡ option_to_list r ++ rest → IsPool (pool_of config highest files) → IfSome r (λ file. All (λ other. file.id < other.id) rest)
  least files rest None is inside = tt
  least files rest (Some f) is inside = above f.id f.id highest rest (omega arith) (subst Has is inside).given.1

  -- one more file is prepared
  pub grown : (files mid more : List PoolFile) (f : PoolFile) → mid ≡ files → more ≡ mid ++ f ∷ [] → f ≡ numbered_file (highest + 1) → highest < 2 ^ 31 - 1 → IsPool (pool_of config highest files) → IsPool (pool_of config (highest + 1) more)
  grown files mid more f kept pushed numbered room inside =
      let is : more ≡ files ++ numbered_file (highest + 1) ∷ [] = pushed ∙ ap (λ (l : List PoolFile). l ++ f ∷ []) kept ∙ ap (λ (g : PoolFile). files ++ g ∷ []) numbered in
      subst (λ (l : List PoolFile). IsPool (pool_of config (highest + 1) l)) (sym is) (next_is (pool_of config highest files) inside room)

  pub not_many : (files : List PoolFile) → IsPool (pool_of config highest files) → length files ≤ 2 ^ 31 - 1
  not_many files inside = omega (arith, few 0 (2 ^ 31 - 1) files inside.numbers)
