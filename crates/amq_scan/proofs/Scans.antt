-- A file has one scan, and reading from place to place finds it.
use Rattle.std.proofs.Common.{◌≡◌, ℕ, zero, suc, Bool, true, false, cond, eqb, ◌+◌, ◌-◌, ◌^◌, ◌<◌, ◌≤◌, List, [], ◌∷◌, length, drop, get_or, leb, ◌&&◌, Option, Some, None, refl, sym, ap, subst, ◌∙◌, arith, inl, inr}
use Rattle.std.proofs.lemmas.Bool.{cases_lt}
use Rattle.std.proofs.lemmas.List.{get_or-take, get_or-drop}
use Rattle.amq_model.specs.declared.record.Record.{Record}
use Rattle.amq_model.specs.declared.record.Record.TheVariants.{Add, Update, AddTx, UpdateTx, DeleteTx, Delete, Prepare, Commit, Rollback}
use Rattle.amq_model.specs.RecordAt.{kind_of, len_of, whole_len, Spot, RecordAt, NoneAt, IsBytes}
use Rattle.amq_model.specs.Scan.{IsScanFrom, IsScan}
use Rattle.amq_record.specs.Reading.{read_at}
use Rattle.amq_record.proofs.Records.{one_record, read_stands, read_none}

len_of-pos : (rec : Record) → 1 < len_of rec
len_of-pos (Add id user_type body) = omega arith
len_of-pos (Update id user_type body) = omega arith
len_of-pos (AddTx tx id user_type body) = omega arith
len_of-pos (UpdateTx tx id user_type body) = omega arith
len_of-pos (DeleteTx tx id body) = omega arith
len_of-pos (Delete id) = omega arith
len_of-pos (Prepare tx count extra) = omega arith
len_of-pos (Commit tx count) = omega arith
len_of-pos (Rollback tx) = omega arith

pub whole_len-pos : (version : ℕ) (rec : Record) → 0 < whole_len version rec
whole_len-pos version rec = by (eqb version 1) where
  by : (one : Bool) → 0 < cond one (len_of rec - 1) (len_of rec)
  by true = omega (arith, len_of-pos rec)
  by false = omega (arith, len_of-pos rec)

pub takes_room : (bytes : List ℕ) (fid version : ℕ) (s : Spot) → RecordAt bytes fid version s → 0 < s.len
takes_room bytes fid version s h = omega (arith, whole_len-pos version s.rec, h.len)

-- ---- what a record begins with

-- the numbers of the kinds
abbrev pub is_kind : ℕ → Bool
is_kind b = leb 11 b && leb b 19

kind_is : (rec : Record) → is_kind (kind_of rec) ≡ true
kind_is (Add id user_type body) = refl
kind_is (Update id user_type body) = refl
kind_is (AddTx tx id user_type body) = refl
kind_is (UpdateTx tx id user_type body) = refl
kind_is (DeleteTx tx id body) = refl
kind_is (Delete id) = refl
kind_is (Prepare tx count extra) = refl
kind_is (Commit tx count) = refl
kind_is (Rollback tx) = refl

-- a record begins with its kind
pub begins : (bytes : List ℕ) (fid version : ℕ) (s : Spot) → RecordAt bytes fid version s → get_or bytes s.place 0 ≡ kind_of s.rec
begins bytes fid version s h =
    let at : s.place + 0 ≡ s.place = omega arith in
    sym (ap (λ (n : ℕ). get_or bytes n 0) at) ∙ sym (get_or-drop s.place bytes 0 0) ∙ sym (get_or-take s.len (drop s.place bytes) 0 0 (takes_room bytes fid version s h)) ∙ ap (λ (l : List ℕ). get_or l 0 0) h.spelled

-- where no kind stands, no record begins
pub none_begins : (bytes : List ℕ) (fid version place : ℕ) → is_kind (get_or bytes place 0) ≡ false → NoneAt bytes fid version place
none_begins bytes fid version place other s at h =
    let kind : is_kind (get_or bytes place 0) ≡ true = ap (λ (n : ℕ). is_kind (get_or bytes n 0)) (sym at) ∙ ap is_kind (begins bytes fid version s h) ∙ kind_is s.rec in
    cc

-- ---- how a scan is made, from the end to the front

pub none_left : (bytes : List ℕ) (fid version from : ℕ) → length bytes ≤ from → IsScanFrom bytes fid version from []
none_left bytes fid version from past p le s at h = omega (arith, takes_room bytes fid version s h, h.within)

pub passes_over : (bytes : List ℕ) (fid version from : ℕ) (ss : List Spot) → NoneAt bytes fid version from → IsScanFrom bytes fid version (from + 1) ss → IsScanFrom bytes fid version from ss
passes_over bytes fid version from [] none rest =
    λ p le s at h. elim (cases_lt from p) [ inl lt ↦ rest p (omega arith) s at h | inr ge ↦ none s (omega (arith, at)) h ]
passes_over bytes fid version from (t ∷ ts) none rest =
    (omega (arith, rest.0), (λ p le lt s at h. elim (cases_lt from p) [ inl after ↦ rest.1 p (omega arith) lt s at h | inr ge ↦ none s (omega (arith, at)) h ]), rest.2, rest.3)

pub takes_one : (bytes : List ℕ) (fid version : ℕ) (s : Spot) (ss : List Spot) → RecordAt bytes fid version s → IsScanFrom bytes fid version (s.place + s.len) ss → IsScanFrom bytes fid version s.place (s ∷ ss)
takes_one bytes fid version s ss h rest = (omega arith, (λ p le lt. absurd (omega arith)), h, rest)

-- ---- uniqueness

pub same_scan : (bytes : List ℕ) (fid version from : ℕ) (a b : List Spot) → fid < 2 ^ 32 → IsScanFrom bytes fid version from a → IsScanFrom bytes fid version from b → a ≡ b
same_scan bytes fid version from [] [] fits p q = refl
same_scan bytes fid version from [] (t ∷ ts) fits p q = absurd (p t.place q.0 t refl q.2)
same_scan bytes fid version from (s ∷ ss) [] fits p q = absurd (q s.place p.0 s refl p.2)
same_scan bytes fid version from (s ∷ ss) (t ∷ ts) fits p q =
    elim (cases_lt s.place t.place) [
      | inl lt ↦ absurd (q.1 s.place p.0 lt s refl p.2)
      | inr le ↦ elim (cases_lt t.place s.place) [
        | inl lt ↦ absurd (p.1 t.place q.0 lt t refl q.2)
        | inr ge ↦
            let one : s ≡ t = one_record bytes fid version s t fits (omega arith) p.2 q.2 in
            let rest : IsScanFrom bytes fid version (s.place + s.len) ts = subst (λ (u : Spot). IsScanFrom bytes fid version (u.place + u.len) ts) (sym one) q.3 in
            let others : ss ≡ ts = same_scan bytes fid version (s.place + s.len) ss ts fits p.3 rest in
            ap (λ (u : Spot). u ∷ ss) one ∙ ap (λ (us : List Spot). t ∷ us) others
      ]
    ]

-- ---- a function that computes it

abbrev pub scan_from : ℕ → List ℕ → ℕ → ℕ → ℕ → List Spot
scan_from zero bytes fid version p = []
scan_from (suc n) bytes fid version p = elim (read_at bytes fid version p) [ None ↦ scan_from n bytes fid version (p + 1) | Some s ↦ s ∷ scan_from n bytes fid version (p + s.len) ]

-- one place, and then the places behind it
next : (n : ℕ) (bytes : List ℕ) (fid version p : ℕ) (r : Option Spot) → IsBytes bytes → fid < 2 ^ 32 → length bytes ≤ p + suc n → ((q : ℕ) → length bytes ≤ q + n → IsScanFrom bytes fid version q (scan_from n bytes fid version q))
    → read_at bytes fid version p ≡ r → IsScanFrom bytes fid version p (elim r [ None ↦ scan_from n bytes fid version (p + 1) | Some s ↦ s ∷ scan_from n bytes fid version (p + s.len) ])
next n bytes fid version p None fits small enough others e = passes_over bytes fid version p _ (read_none bytes fid version p small e) (others (p + 1) (omega arith))
next n bytes fid version p (Some s) fits small enough others e =
    let h = read_stands bytes fid version p s fits e in
    subst (λ (q : ℕ). IsScanFrom bytes fid version q (s ∷ scan_from n bytes fid version (q + s.len))) h.0
    (takes_one bytes fid version s _ h.1 (others (s.place + s.len) (omega (arith, takes_room bytes fid version s h.1, h.0))))

pub scan_from-is : (n : ℕ) (bytes : List ℕ) (fid version p : ℕ) → IsBytes bytes → fid < 2 ^ 32 → length bytes ≤ p + n → IsScanFrom bytes fid version p (scan_from n bytes fid version p)
scan_from-is zero bytes fid version p fits small enough = none_left bytes fid version p (omega arith)
scan_from-is (suc n) bytes fid version p fits small enough = next n bytes fid version p (read_at bytes fid version p) fits small enough (λ q le. scan_from-is n bytes fid version q fits small le) refl

pub scan_of-is : (bytes : List ℕ) (fid version : ℕ) → IsBytes bytes → fid < 2 ^ 32 → IsScan bytes fid version (scan_from (length bytes) bytes fid version 16)
scan_of-is bytes fid version fits small = scan_from-is (length bytes) bytes fid version 16 fits small (omega arith)
