-- Open transactions: their numbers stand among those of their records.
use Rattle.std.proofs.Common.{◌≡◌, ℕ, Bool, true, false, ◌||◌, ◌&&◌, not, eqb, List, [], ◌∷◌, Option, Some, None, refl, ap, ◌∙◌}
use Rattle.std.specs.List.{cons_option, filter_map, list_any}
use Rattle.amq_model.specs.declared.record.Placed.{Placed}
use Rattle.amq_model.specs.Effect.{ends}
use Rattle.amq_model.specs.Answers.{number_of, is_some_of, is_left_open}
use Rattle.amq_model.proofs.AscendingLaws.{sides}

-- an open transaction has its number there
pub open_listed : (q : ℕ) (ps : List Placed) → (list_any (eqb q) (filter_map (λ p. number_of p.rec) ps) && is_left_open q ps) ≡ is_left_open q ps
open_listed q [] = refl
open_listed q (p ∷ ps) = by (number_of p.rec) (open_listed q ps) where
  at : (own named a b rest any : Bool) → named ≡ own → (any && rest) ≡ rest → ((named || any) && (own && a && b || rest)) ≡ (own && a && b || rest)
  at true named a b rest any same h = ap (λ (n : Bool). (n || any) && (a && b || rest)) same
  at false named a b rest any same h = ap (λ (n : Bool). (n || any) && rest) same ∙ h

  by : (o : Option ℕ) → (list_any (eqb q) (filter_map (λ p. number_of p.rec) ps) && is_left_open q ps) ≡ is_left_open q ps
      → (list_any (eqb q) (cons_option o (filter_map (λ p. number_of p.rec) ps)) && (is_some_of o q && not (ends q p) && not (list_any (ends q) ps) || is_left_open q ps)) ≡ (is_some_of o q && not (ends q p) && not (list_any (ends q) ps) || is_left_open q ps)
  by None h = h
  by (Some n) h = at (eqb n q) (eqb q n) (not (ends q p)) (not (list_any (ends q) ps)) (is_left_open q ps) (list_any (eqb q) (filter_map (λ p. number_of p.rec) ps)) (sides q n) h
