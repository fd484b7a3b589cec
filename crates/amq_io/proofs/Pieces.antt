-- What a source in memory gives.
use Rattle.std.proofs.Common.{◌≡◌, ℕ, ◌+◌, List, ◌++◌, length, take, drop, sym, ◌∙◌, ap}
use Rattle.std.proofs.lemmas.List.{take-append-drop}
use Rattle.std.proofs.Math.Seq.{take-append_seam, drop-drop}

-- the front of the piece, and what is behind it in the source
pub given_next : (bytes lent copied into : List ℕ) (place n m : ℕ) → length copied ≡ n → m ≡ n → lent ≡ bytes → copied ≡ take m (drop place lent)
    → drop place bytes ≡ take n (copied ++ drop n into) ++ drop (place + n) bytes
given_next bytes lent copied into place n m long same is after =
    let front : take n (copied ++ drop n into) ≡ copied = ap (λ k. take k (copied ++ drop n into)) (sym long) ∙ take-append_seam copied (drop n into) in
    let part : copied ≡ take n (drop place bytes) = after ∙ ap (λ k. take k (drop place lent)) same ∙ ap (λ (l : List ℕ). take n (drop place l)) is in
    sym (take-append-drop n (drop place bytes)) ∙ ap (λ l. take n (drop place bytes) ++ l) (drop-drop n place bytes) ∙ ap (λ (l : List ℕ). l ++ drop (place + n) bytes) (sym (front ∙ part))
