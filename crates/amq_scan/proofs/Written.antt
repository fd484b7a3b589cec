-- Records written one behind the other are the records of their file.
use Rattle.std.proofs.Common.{◌≡◌, inl, inr, ℕ, ◌+◌, ◌-◌, ◌<◌, ◌≤◌, List, [], ◌∷◌, ◌++◌, length, get_or, refl, sym, ap, subst, ◌∙◌, append_assoc, arith}
use Rattle.std.specs.Prelude.{Contains, All}
use Rattle.std.proofs.lemmas.List.{length-append, get_or-append_right}
use Rattle.std.proofs.lemmas.List.Elements.{All-head, All-tail, All-get_or}
use Rattle.amq_model.specs.Files.{Range, IsTorn}
use Rattle.amq_model.specs.declared.record.Record.{Record}
use Rattle.amq_model.specs.declared.record.Record.TheVariants.{Add, Update, AddTx, UpdateTx, DeleteTx, Delete, Prepare, Commit, Rollback}
use Rattle.amq_model.specs.RecordAt.{Spot, kind_of, spelling, whole_len}
use Rattle.amq_model.specs.Scan.{IsScanFrom, IsScan}
use Rattle.amq_model.specs.Kept.{IsPart}
use Rattle.amq_record.proofs.Records.{length_spelling, written_stands}
use Rattle.amq_scan.proofs.Scans.{takes_room, takes_one, begins}
use Rattle.amq_scan.proofs.Parts.{Has, part_has, has_left}
use Rattle.amq_scan.specs.Images.{IsLeft}
use Rattle.amq_scan.specs.Written.{Item, IsItem, spelled, spots_from, end_from, IsFill, file_bytes, IsBehind}
use Rattle.amq_scan.proofs.Lengths.{end_behind}
use Rattle.amq_scan.proofs.Images.{Ascends, scan_ascends, ascends_has, left_part, left_durable}

kind_low : (rec : Record) → kind_of rec < 20
kind_low (Add id user_type body) = omega arith
kind_low (Update id user_type body) = omega arith
kind_low (AddTx tx id user_type body) = omega arith
kind_low (UpdateTx tx id user_type body) = omega arith
kind_low (DeleteTx tx id body) = omega arith
kind_low (Delete id) = omega arith
kind_low (Prepare tx count extra) = omega arith
kind_low (Commit tx count) = omega arith
kind_low (Rollback tx) = omega arith

-- no record begins in the fill
none_in_fill : (front fill : List ℕ) (fid version : ℕ) → IsFill fill → IsScanFrom (front ++ fill) fid version (length front) []
none_in_fill front fill fid version is p le s at h =
    let within : s.place - length front < length fill = omega (arith, h.within, takes_room (front ++ fill) fid version s h, length-append front fill, at, le) in
    let high : 20 ≤ get_or fill (s.place - length front) 0 = All-get_or (λ b. 20 ≤ b) fill (s.place - length front) 0 within is in
    let there : get_or (front ++ fill) s.place 0 ≡ get_or fill (s.place - length front) 0 = get_or-append_right front fill (length front) s.place 0 refl (omega (arith, at, le)) in
    omega (arith, kind_low s.rec, high, there, begins (front ++ fill) fid version s h)

pub scan_written : (front fill : List ℕ) (fid version : ℕ) (items : List Item) → All (IsItem version) items → IsFill fill
    → IsScanFrom (front ++ (spelled version fid items ++ fill)) fid version (length front) (spots_from version (length front) items)
scan_written front fill fid version [] are is = none_in_fill front fill fid version is
scan_written front fill fid version (x ∷ xs) are is =
    let text : List ℕ = spelling version fid x.compact x.rec in
    let back : List ℕ = spelled version fid xs ++ fill in
    let item = All-head (IsItem version) x xs are in
    let s : Spot = record { place = length front; len = whole_len version x.rec; compact = x.compact; rec = x.rec } in
    let bytes : front ++ ((text ++ spelled version fid xs) ++ fill) ≡ front ++ (text ++ back) = ap (λ (l : List ℕ). front ++ l) (append_assoc text (spelled version fid xs) fill) in
    let long : length (front ++ text) ≡ length front + whole_len version x.rec = length-append front text ∙ ap (λ (n : ℕ). length front + n) (length_spelling version fid x.compact x.rec) in
    let rest = scan_written (front ++ text) fill fid version xs (All-tail (IsItem version) x xs are) is in
    let moved : IsScanFrom (front ++ (text ++ back)) fid version (length (front ++ text)) (spots_from version (length (front ++ text)) xs) = subst (λ (l : List ℕ). IsScanFrom l fid version (length (front ++ text)) (spots_from version (length (front ++ text)) xs)) (append_assoc front text back) rest in
    let placed : IsScanFrom (front ++ (text ++ back)) fid version (s.place + s.len) (spots_from version (s.place + s.len) xs) = subst (λ (n : ℕ). IsScanFrom (front ++ (text ++ back)) fid version n (spots_from version n xs)) long moved in
    subst (λ (l : List ℕ). IsScanFrom l fid version (length front) (spots_from version (length front) (x ∷ xs))) (sym bytes)
    (takes_one (front ++ (text ++ back)) fid version s (spots_from version (s.place + s.len) xs) (written_stands front back fid version x.compact x.rec item.small item.values) placed)

pub scan_of_written : (fid version : ℕ) (header fill : List ℕ) (items : List Item) → length header ≡ 16 → All (IsItem version) items → IsFill fill → IsScan (file_bytes version fid header items fill) fid version (spots_from version 16 items)
scan_of_written fid version header fill items long are is =
    subst (λ (n : ℕ). IsScanFrom (file_bytes version fid header items fill) fid version n (spots_from version n items)) long (scan_written header fill fid version items are is)

pub spots_more : (version place : ℕ) (old new : List Item) → spots_from version place (old ++ new) ≡ spots_from version place old ++ spots_from version (end_from version place old) new
spots_more version place [] new = refl
spots_more version place (x ∷ xs) new = ap (λ (ss : List Spot). record { place = place; len = whole_len version x.rec; compact = x.compact; rec = x.rec } ∷ ss) (spots_more version (place + whole_len version x.rec) xs new)

-- ---- a front that is kept whole

pub front_kept : (from : ℕ) (left front back : List Spot) → Ascends from (front ++ back) → IsPart left (front ++ back) → ((s : Spot) → Has front s → Has left s) → (rest : List Spot) × (left ≡ front ++ rest) × IsPart rest back
front_kept from left [] back a p keeps = (left, refl, p)
front_kept from [] (x ∷ front) back a p keeps = absurd (keeps x (inl refl))
front_kept from (y ∷ left) (x ∷ front) back a (inl p) keeps =
    let r = front_kept (x.place + x.len) left front back a.2 p.1 (λ s h. by s (ascends_has (x.place + x.len) (front ++ back) s a.2 (has_left front back s h)) (keeps s (inr h))) in
    (r.0, ap (λ (s : Spot). s ∷ left) p.0 ∙ ap (λ (ss : List Spot). x ∷ ss) r.1, r.2)
  where
    by : (s : Spot) → x.place + x.len ≤ s.place → Has (y ∷ left) s → Has left s
    by s le (inl e) = absurd (omega (arith, le, a.1, ap (λ (u : Spot). u.place) e, ap (λ (u : Spot). u.place) p.0))
    by s le (inr h) = h
front_kept from (y ∷ left) (x ∷ front) back a (inr p) keeps =
    absurd (omega (arith, a.1, ascends_has (x.place + x.len) (front ++ back) x a.2 (part_has (y ∷ left) (front ++ back) x p (keeps x (inl refl)))))

spots_end : (version place : ℕ) (items : List Item) (s : Spot) → Has (spots_from version place items) s → s.place + s.len ≤ end_from version place items
spots_end version place [] s h = absurd h
spots_end version place (x ∷ xs) s (inl e) =
    let P : Spot → Type 0 = λ u. u.place + u.len ≤ end_from version (place + whole_len version x.rec) xs in
    subst P e (end_behind version (place + whole_len version x.rec) xs)
spots_end version place (x ∷ xs) s (inr h) = spots_end version (place + whole_len version x.rec) xs s h

pub torn_written : (pending : List Range) (image : List ℕ) (fid version : ℕ) (header fill : List ℕ) (old new : List Item) (left : List Spot)
    → length header ≡ 16 → All (IsItem version) (old ++ new) → IsFill fill → IsBehind (end_from version 16 old) pending
    → IsTorn pending (file_bytes version fid header (old ++ new) fill) image → IsScan image fid version left → All (Contains (spots_from version 16 (old ++ new))) left
    → (rest : List Spot) × (left ≡ spots_from version 16 old ++ rest) × IsPart rest (spots_from version (end_from version 16 old) new)
torn_written pending image fid version header fill old new left long are is behind torn scan none_false =
    let reading : List ℕ = file_bytes version fid header (old ++ new) fill in
    let front : List Spot = spots_from version 16 old in
    let back : List Spot = spots_from version (end_from version 16 old) new in
    let both = spots_more version 16 old new in
    let l : IsLeft pending reading image fid version (front ++ back) left = record {
      torn = torn;
      found_is = subst (λ (ss : List Spot). IsScan reading fid version ss) both (scan_of_written fid version header fill (old ++ new) long are is);
      left_is = scan;
      none_false = subst (λ (ss : List Spot). All (Contains ss) left) both none_false;
    } in
    front_kept 16 left front back (scan_ascends reading fid version 16 (front ++ back) l.found_is) (left_part pending reading image fid version (front ++ back) left l)
    (λ s h. left_durable pending reading image fid version (front ++ back) left l s (has_left front back s h) (λ i from to p. omega (arith, to, spots_end version 16 old s h, behind i p)))
