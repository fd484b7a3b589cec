-- How far an opening is, through its rollbacks and behind them.
use Rattle.std.proofs.Common.{◌≡◌, ℕ, ◌+◌, ◌<◌, ◌≤◌, List, [], ◌∷◌, ◌++◌, length, drop, Option, Some, sym, ap, subst, ◌∙◌, arith}
use Rattle.std.specs.Prelude.{take}
use Rattle.std.specs.List.{cons_option}
use Rattle.std.proofs.lemmas.List.{length-append, take_all, take-append-le}
use Rattle.std.proofs.lemmas.List.Elements.{All-nil, All-push}
use Rattle.amq_model.specs.declared.config.Config.{Config}
use Rattle.amq_model.specs.declared.record.Placed.{Placed}
use Rattle.amq_model.specs.declared.history.Step.{Step}
use Rattle.amq_model.specs.Answers.{history_of}
use Rattle.amq_model.specs.Calls.{Past}
use Rattle.amq_model.specs.Legal.{IsOpeningStep, OpensWith, OpensPartly, rolled_back}
use Rattle.amq_tx.specs.State.{TxState}
use Rattle.amq_pool.specs.Pools.{PoolOf}
use Rattle.amq_engine.specs.Lists.{Lists}
use Rattle.amq_engine.specs.declared.tail.Tail.{Tail}
use Rattle.amq_engine.specs.Engine.{opened, rolling, HasOpened, IsValid}
use Rattle.amq_engine.proofs.History.{history-snoc}

-- a step of another seat
opens_on : (n : ℕ) (txs : List ℕ) (steps : List Step) (x : Step) → 0 < x.seat → OpensWith n txs steps → OpensWith n txs (steps ++ x ∷ [])
opens_on n [] steps x seat all = All-push (λ s. 0 < s.seat) steps x all seat
opens_on n (tx ∷ txs) [] x seat none = absurd none
opens_on n (tx ∷ txs) (s ∷ ss) x seat all = (all.0, opens_on (n + 1) txs ss x seat all.1)

opens_many : (n : ℕ) (txs : List ℕ) (steps : List Step) → OpensWith n txs steps → length txs ≤ length steps
opens_many n [] steps all = omega arith
opens_many n (tx ∷ txs) [] none = absurd none
opens_many n (tx ∷ txs) (s ∷ ss) all = omega (arith, opens_many (n + 1) txs ss all.1)

-- a step of another seat behind it
pub opens_more : (base : List Placed) (steps : List Step) (x : Step) → 0 < x.seat → HasOpened opened base steps → HasOpened opened base (steps ++ x ∷ [])
opens_more base steps x seat h = (
  opens_on 1 (rolled_back base) steps x seat h.0,
  ap (λ (ss : List Step). length (history_of ss)) (take-append-le (length (rolled_back base)) steps (x ∷ []) (opens_many 1 (rolled_back base) steps h.0)) ∙ h.1,
)

partly_more : (n : ℕ) (txs : List ℕ) (steps : List Step) (x : Step) (tx : ℕ) (rest : List ℕ) → drop (length steps) txs ≡ tx ∷ rest → IsOpeningStep (n + length steps) tx x → OpensPartly n txs steps → OpensPartly n txs (steps ++ x ∷ [])
partly_more n [] [] x tx rest next is all = absurd cc
partly_more n (t ∷ ts) [] x tx rest next is all =
    let same : tx ≡ t = cc in
    let e : n + 0 ≡ n = omega arith in
    (subst (λ (k : ℕ). IsOpeningStep k t x) e (subst (λ (q : ℕ). IsOpeningStep (n + 0) q x) same is), tt)
partly_more n [] (s ∷ ss) x tx rest next is all = absurd all
partly_more n (t ∷ ts) (s ∷ ss) x tx rest next is all =
    let e : n + length (s ∷ ss) ≡ (n + 1) + length ss = omega arith in
    (all.0, partly_more (n + 1) ts ss x tx rest next (subst (λ (k : ℕ). IsOpeningStep k tx x) e is) all.1)

-- the next rollback of the opening
pub rolls_more : (base known : List Placed) (n : ℕ) (steps : List Step) (x : Step) (tx : ℕ) (rest : List ℕ) → drop n (rolled_back known) ≡ tx ∷ rest → IsOpeningStep (n + 1) tx x → (p : Placed) → x.placed ≡ Some p → HasOpened (rolling known n) base steps → HasOpened (rolling known (n + 1)) base (steps ++ x ∷ [])
rolls_more base known n steps x tx rest next is p placed h =
    let at : n + 1 ≡ 1 + length steps = omega (arith, h.1) in
    let behind : drop (length steps) (rolled_back base) ≡ tx ∷ rest = ap (λ (k : ℕ). drop k (rolled_back base)) h.1 ∙ ap (λ (b : List Placed). drop n (rolled_back b)) h.0 ∙ next in (
      h.0,
      omega (arith, h.1, length-append steps (x ∷ [])),
      partly_more 1 (rolled_back base) steps x tx rest behind (subst (λ (k : ℕ). IsOpeningStep k tx x) at is) h.2,
      omega (arith, h.3, ap (λ (l : List Placed). length l) (history-snoc steps x ∙ ap (λ (o : Option Placed). history_of steps ++ cons_option o []) placed), length-append (history_of steps) (p ∷ [])),
    )

opens_all : (n : ℕ) (txs : List ℕ) (steps : List Step) → length steps ≡ length txs → OpensPartly n txs steps → OpensWith n txs steps
opens_all n [] [] many all = All-nil (λ s. 0 < s.seat)
opens_all n [] (s ∷ ss) many all = absurd all
opens_all n (tx ∷ txs) [] many all = absurd (omega (arith, many))
opens_all n (tx ∷ txs) (s ∷ ss) many all = (all.0, opens_all (n + 1) txs ss (omega (arith, many)) all.1)

-- the opening is done where all its rollbacks are there
pub valid_opened : (base : List Placed) (n : ℕ) (past : Option Past) (moment : ℕ) (lists : Option Lists) (room : ℕ) (config : Config) (table : TxState) (pool : PoolOf) (t : Tail) → n ≡ length (rolled_back base) → IsValid (rolling base n) past moment lists room config table pool t → IsValid opened past moment lists room config table pool t
valid_opened base n past moment lists room config table pool t all v = record {
  sound = v.sound;
  ranges = v.ranges;
  opening =
      let many : length v.sound.parts.steps ≡ length (rolled_back v.sound.parts.base) = v.opening.1 ∙ all ∙ sym (ap (λ (b : List Placed). length (rolled_back b)) v.opening.0) in (
        opens_all 1 (rolled_back v.sound.parts.base) v.sound.parts.steps many v.opening.2,
        ap (λ (ss : List Step). length (history_of ss)) (ap (λ (k : ℕ). take k v.sound.parts.steps) (sym many) ∙ take_all (length v.sound.parts.steps) v.sound.parts.steps (omega arith)) ∙ v.opening.3 ∙ sym v.opening.1 ∙ many,
      );
  order = v.order;
  spent = v.spent;
  last = v.last;
}
