-- The bytes of a file of records, with more put behind.
use Rattle.std.proofs.Common.{◌≡◌, ℕ, zero, suc, ◌+◌, ◌-◌, ◌≤◌, List, [], ◌∷◌, ◌++◌, length, take, drop, sym, ap, ◌∙◌, append_assoc, arith}
use Rattle.std.proofs.lemmas.List.{length-append, take_at, drop_at, drop-drop, append-nil, take-append-drop, take_all, drop-append-le, take-take, drop-take}
use Rattle.amq_model.specs.Files.{overlaid}
use Rattle.amq_model.specs.RecordAt.{spelling}
use Rattle.amq_scan.specs.Written.{Item, file_bytes, spelled, end_from}
use Rattle.amq_scan.proofs.Lengths.{spelled_more, end_is}

module _ (fid : ℕ) (header fill : List ℕ) (a b : List Item) (headed : length header ≡ 16) where
  front : List ℕ
  front = header ++ spelled 2 fid a

  bytes_are : file_bytes 2 fid header a fill ≡ front ++ fill
  unfolding front
  bytes_are = sym (append_assoc header (spelled 2 fid a) fill)

  front_long : length front ≡ end_from 2 16 a
  unfolding front
  front_long = omega (arith, length-append header (spelled 2 fid a), headed, end_is 2 fid 16 a)

  -- the bytes with more records put behind the last
  pub put_behind : (place : ℕ) (bytes : List ℕ) → place ≡ end_from 2 16 a → bytes ≡ spelled 2 fid b → overlaid (file_bytes 2 fid header a fill) place bytes ≡ file_bytes 2 fid header (a ++ b) (drop (length bytes) fill)
  unfolding front
  put_behind place bytes at is =
      let long : length front ≡ place = front_long ∙ sym at in
      let text : List ℕ = file_bytes 2 fid header a fill in
      let back : List ℕ = drop (length bytes) fill in
      let before : take place text ≡ front = ap (take place) bytes_are ∙ take_at front fill place long in
      let behind : drop (place + length bytes) text ≡ back = sym (drop-drop (length bytes) place text) ∙ ap (drop (length bytes)) (ap (drop place) bytes_are ∙ drop_at front fill place long) in
      ap (λ (l : List ℕ). (l ++ bytes) ++ drop (place + length bytes) text) before
      ∙ ap (λ (l : List ℕ). (front ++ bytes) ++ l) behind
      ∙ ap (λ (l : List ℕ). (front ++ l) ++ back) is
      ∙ ap (λ (l : List ℕ). l ++ back) (append_assoc header (spelled 2 fid a) (spelled 2 fid b) ∙ ap (λ (l : List ℕ). header ++ l) (sym (spelled_more 2 fid a b)))
      ∙ append_assoc header (spelled 2 fid (a ++ b)) back

drop_past : (n : ℕ) (a b : List ℕ) → length a ≤ n → drop n (a ++ b) ≡ drop (n - length a) b
drop_past n [] b le = ap (λ (k : ℕ). drop k b) (omega arith)
drop_past zero (x ∷ a) b le = absurd (omega (arith, le))
drop_past (suc n) (x ∷ a) b le = let e : suc n - length (x ∷ a) ≡ n - length a = omega arith in drop_past n a b (omega (arith, le)) ∙ ap (λ (k : ℕ). drop k b) (sym e)

-- the whole history, over a file that has some of what is put already
pub whole_put : (fid : ℕ) (header fill : List ℕ) (history : List Item) (put read place : ℕ) (bytes : List ℕ) → length header ≡ 16 → put ≤ read → place ≡ end_from 2 16 (take put history) → bytes ≡ spelled 2 fid (drop put history)
    → (rest : ℕ) × (overlaid (file_bytes 2 fid header (take read history) fill) place bytes ≡ file_bytes 2 fid header (take (length history) history) (drop rest fill))
whole_put fid header fill history put read place bytes headed le at is =
    let front : List Item = take put history in
    let some : List Item = drop put (take read history) in
    let done : List ℕ = spelled 2 fid some in
    let split : take read history ≡ front ++ some = sym (take-append-drop put (take read history)) ∙ ap (λ (l : List Item). l ++ some) (take-take put read history le) in
    let text : file_bytes 2 fid header (take read history) fill ≡ file_bytes 2 fid header front (done ++ fill) =
    ap (λ (l : List Item). file_bytes 2 fid header l fill) split ∙ ap (λ (l : List ℕ). header ++ (l ++ fill)) (spelled_more 2 fid front some) ∙ ap (λ (l : List ℕ). header ++ l) (append_assoc (spelled 2 fid front) done fill) in
    let more : List Item = drop (read - put) (drop put history) in
    let rest_is : drop put history ≡ some ++ more =
    sym (take-append-drop (read - put) (drop put history)) ∙ ap (λ (l : List Item). l ++ more) (sym (drop-take put (read - put) history) ∙ ap (λ (k : ℕ). drop put (take k history)) (omega (arith, le))) in
    let long : length done ≤ length bytes = omega (arith, ap length is, ap (λ (l : List Item). length (spelled 2 fid l)) rest_is, ap length (spelled_more 2 fid some more), length-append done (spelled 2 fid more)) in (
      length bytes - length done,
      ap (λ (l : List ℕ). overlaid l place bytes) text
          ∙ put_behind fid header (done ++ fill) front (drop put history) headed place bytes at is
          ∙ ap (λ (l : List Item). file_bytes 2 fid header l (drop (length bytes) (done ++ fill))) (take-append-drop put history ∙ sym (take_all (length history) history (omega arith)))
          ∙ ap (λ (l : List ℕ). file_bytes 2 fid header (take (length history) history) l) (drop_past (length bytes) done fill long),
    )

-- one more record in the buffer
pub text_grows : (fid put : ℕ) (history : List Item) (x : Item) → put ≤ length history → spelled 2 fid (drop put history) ++ spelling 2 fid x.compact x.rec ≡ spelled 2 fid (drop put (history ++ x ∷ []))
text_grows fid put history x le =
    sym (ap (spelled 2 fid) (drop-append-le put history (x ∷ []) le) ∙ spelled_more 2 fid (drop put history) (x ∷ []) ∙ ap (λ (l : List ℕ). spelled 2 fid (drop put history) ++ l) (append-nil (spelling 2 fid x.compact x.rec)))

-- where the whole history ends
pub end_whole : (fid put place : ℕ) (history : List Item) (bytes : List ℕ) → place ≡ end_from 2 16 (take put history) → bytes ≡ spelled 2 fid (drop put history) → place + length bytes ≡ end_from 2 16 history
end_whole fid put place history bytes at is =
    omega (
      arith,
      at,
      ap length is,
      end_is 2 fid 16 (take put history),
      end_is 2 fid 16 history,
      ap length (spelled_more 2 fid (take put history) (drop put history)),
      ap (λ (l : List Item). length (spelled 2 fid l)) (take-append-drop put history),
      length-append (spelled 2 fid (take put history)) (spelled 2 fid (drop put history)),
    )
