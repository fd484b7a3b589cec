-- How long records are that are written one behind the other, and where their bytes stand.
use Rattle.std.proofs.Common.{◌≡◌, ℕ, zero, suc, ◌+◌, ◌≤◌, List, [], ◌∷◌, ◌++◌, length, take, drop, refl, sym, ap, ◌∙◌, append_assoc, arith}
use Rattle.std.proofs.lemmas.List.{length-append, take_at, drop_at, drop-drop}
use Rattle.std.proofs.lemmas.List.Elements.{All-drop}
use Rattle.amq_model.specs.Files.{overlaid}
use Rattle.amq_model.specs.RecordAt.{Spot, spelling, whole_len}
use Rattle.amq_record.proofs.Records.{length_spelling}
use Rattle.amq_scan.specs.Written.{Item, IsFill, file_bytes, spelled, spots_from, end_from}

pub spelled_more : (version fid : ℕ) (a b : List Item) → spelled version fid (a ++ b) ≡ spelled version fid a ++ spelled version fid b
spelled_more version fid [] b = refl
spelled_more version fid (x ∷ xs) b = ap (λ (l : List ℕ). spelling version fid x.compact x.rec ++ l) (spelled_more version fid xs b) ∙ sym (append_assoc (spelling version fid x.compact x.rec) (spelled version fid xs) (spelled version fid b))

-- they end where their bytes do
pub end_is : (version fid place : ℕ) (items : List Item) → end_from version place items ≡ place + length (spelled version fid items)
end_is version fid place [] = omega arith
end_is version fid place (x ∷ xs) = omega (arith, end_is version fid (place + whole_len version x.rec) xs, length-append (spelling version fid x.compact x.rec) (spelled version fid xs), length_spelling version fid x.compact x.rec)

pub end_more : (version place : ℕ) (a b : List Item) → end_from version place (a ++ b) ≡ end_from version (end_from version place a) b
end_more version place [] b = refl
end_more version place (x ∷ xs) b = end_more version (place + whole_len version x.rec) xs b

pub end_behind : (version place : ℕ) (items : List Item) → place ≤ end_from version place items
end_behind version place [] = omega arith
end_behind version place (x ∷ xs) = omega (arith, end_behind version (place + whole_len version x.rec) xs)

-- fewer records end no later
pub ends_earlier : (version place m n : ℕ) (items : List Item) → m ≤ n → end_from version place (take m items) ≤ end_from version place (take n items)
ends_earlier version place zero n items le = end_behind version place (take n items)
ends_earlier version place (suc m) zero items le = absurd (omega (arith, le))
ends_earlier version place (suc m) (suc n) [] le = omega arith
ends_earlier version place (suc m) (suc n) (x ∷ xs) le = ends_earlier version (place + whole_len version x.rec) m n xs (omega (arith, le))

pub spots_take : (version place n : ℕ) (items : List Item) → take n (spots_from version place items) ≡ spots_from version place (take n items)
spots_take version place zero items = refl
spots_take version place (suc n) [] = refl
spots_take version place (suc n) (x ∷ xs) = ap (λ (ss : List Spot). record { place = place; len = whole_len version x.rec; compact = x.compact; rec = x.rec } ∷ ss) (spots_take version (place + whole_len version x.rec) n xs)

pub spots_drop : (version place n : ℕ) (items : List Item) → drop n (spots_from version place items) ≡ spots_from version (end_from version place (take n items)) (drop n items)
spots_drop version place zero items = refl
spots_drop version place (suc n) [] = refl
spots_drop version place (suc n) (x ∷ xs) = spots_drop version (place + whole_len version x.rec) n xs

-- how long a file of records is
pub length_file : (version fid : ℕ) (header fill : List ℕ) (items : List Item) → length header ≡ 16 → length (file_bytes version fid header items fill) ≡ end_from version 16 items + length fill
length_file version fid header fill items headed = omega (arith, length-append header (spelled version fid items ++ fill), length-append (spelled version fid items) fill, end_is version fid 16 items, headed)

pub fill_rest : (n : ℕ) (fill : List ℕ) → IsFill fill → IsFill (drop n fill)
fill_rest n fill is = All-drop (λ b. 20 ≤ b) n fill is

module _ (version fid : ℕ) (header fill : List ℕ) (a b : List Item) (headed : length header ≡ 16) where
  front : List ℕ
  front = header ++ spelled version fid a

  bytes_are : file_bytes version fid header a fill ≡ front ++ fill
  unfolding front
  bytes_are = sym (append_assoc header (spelled version fid a) fill)

  front_long : length front ≡ end_from version 16 a
  unfolding front
  front_long = omega (arith, length-append header (spelled version fid a), headed, end_is version fid 16 a)

  -- the bytes with more records written behind the last
  pub written_behind : (place : ℕ) (bytes : List ℕ) → place ≡ end_from version 16 a → bytes ≡ spelled version fid b → overlaid (file_bytes version fid header a fill) place bytes ≡ file_bytes version fid header (a ++ b) (drop (length bytes) fill)
  unfolding front
  written_behind place bytes at is =
      let long : length front ≡ place = front_long ∙ sym at in
      let text : List ℕ = file_bytes version fid header a fill in
      let back : List ℕ = drop (length bytes) fill in
      let before : take place text ≡ front = ap (take place) bytes_are ∙ take_at front fill place long in
      let behind : drop (place + length bytes) text ≡ back = sym (drop-drop (length bytes) place text) ∙ ap (drop (length bytes)) (ap (drop place) bytes_are ∙ drop_at front fill place long) in
      ap (λ (l : List ℕ). (l ++ bytes) ++ drop (place + length bytes) text) before
      ∙ ap (λ (l : List ℕ). (front ++ bytes) ++ l) behind
      ∙ ap (λ (l : List ℕ). (front ++ l) ++ back) is
      ∙ ap (λ (l : List ℕ). l ++ back) (append_assoc header (spelled version fid a) (spelled version fid b) ∙ ap (λ (l : List ℕ). header ++ l) (sym (spelled_more version fid a b)))
      ∙ append_assoc header (spelled version fid (a ++ b)) back
