-- What helps to speak of literal bytes.
use Rattle.std.proofs.Common.{◌≡◌, ℕ, zero, suc, ◌+◌, ◌-◌, ◌<◌, ◌≤◌, Bool, true, false, not, ◌&&◌, ◌||◌, T, eqb, ltb, List, [], ◌∷◌, length, take, drop, slice_index, sym, ap, subst, ◌∙◌, get_or-take, get_or-drop, ltb→lt, arith}
use Rattle.std.specs.List.{list_all}
use lib.Dec.{eqb_refl}
use Rattle.amq_model.specs.declared.record.Record.{Record}
use Rattle.amq_model.specs.declared.record.Record.TheVariants.{Add, Update, AddTx, UpdateTx, DeleteTx, Delete, Prepare, Commit, Rollback}
use Rattle.amq_model.specs.RecordAt.{NoneAt, kind_of, len_of, Spot, RecordAt, IsBytes, spelling}

pub one : (a b : Bool) → T (a && b) → T a
one true b h = tt
one false b h = h

pub other : (a b : Bool) → T (a && b) → T b
other true b h = h
other false b h = absurd h

-- literal bytes are bytes
pub are_bytes : (bytes : List ℕ) → T (list_all (λ b. ltb b 256) bytes) → IsBytes bytes
are_bytes [] h i = omega arith
are_bytes (b ∷ bytes) h zero = ltb→lt b 256 (one (ltb b 256) _ h)
are_bytes (b ∷ bytes) h (suc i) = are_bytes bytes (other (ltb b 256) _ h) i

never : (b : Bool) → T (not b) → T b → ⊥
never true h g = h
never false h g = g

-- two literal numbers differ
pub unequal : (a b : ℕ) → T (not (eqb a b)) → a ≡ b → ⊥
unequal a b h e = never (eqb a b) h (subst (λ n. T (eqb a n)) e (eqb_refl a))

-- the bytes at the spot differ from its spelling at one place
pub differs : (bytes : List ℕ) (fid : ℕ) (s : Spot) (i : ℕ) → T (not (eqb (slice_index (take s.len (drop s.place bytes)) i) (slice_index (spelling 2 fid s.compact s.rec) i))) → RecordAt bytes fid 2 s → ⊥
differs bytes fid s i h at = unequal (slice_index (take s.len (drop s.place bytes)) i) (slice_index (spelling 2 fid s.compact s.rec) i) h (ap (λ l. slice_index l i) at.spelled)

-- the byte at a place of a record is that of its spelling
pub read_at : (bytes : List ℕ) (fid : ℕ) (s : Spot) (i : ℕ) → i < s.len → RecordAt bytes fid 2 s → slice_index bytes (s.place + i) ≡ slice_index (spelling 2 fid s.compact s.rec) i
read_at bytes fid s i low at = sym (get_or-drop s.place bytes i 0) ∙ sym (get_or-take s.len (drop s.place bytes) i 0 low) ∙ ap (λ l. slice_index l i) at.spelled

-- each record has 18 bytes
pub at_least : (rec : Record) → 18 ≤ len_of rec
at_least (Add id user_type body) = omega arith
at_least (Update id user_type body) = omega arith
at_least (AddTx tx id user_type body) = omega arith
at_least (UpdateTx tx id user_type body) = omega arith
at_least (DeleteTx tx id body) = omega arith
at_least (Delete id) = omega arith
at_least (Prepare tx count extra) = omega arith
at_least (Commit tx count) = omega arith
at_least (Rollback tx) = omega arith

-- none stands behind the end
pub none_behind : (bytes : List ℕ) (fid p : ℕ) → length bytes ≤ p → NoneAt bytes fid 2 p
none_behind bytes fid p low s is found = let size = at_least s.rec in let len = found.len in let within = found.within in omega arith

-- the number is that of no kind
abbrev pub is_no_kind : ℕ → Bool
is_no_kind b = ltb b 11 || ltb 19 b

no_kind : (bytes : List ℕ) → T (list_all is_no_kind bytes) → (i : ℕ) → T (is_no_kind (slice_index bytes i))
no_kind [] h i = tt
no_kind (b ∷ bytes) h zero = one (is_no_kind b) _ h
no_kind (b ∷ bytes) h (suc i) = no_kind bytes (other (is_no_kind b) _ h) i

a_kind : (rec : Record) → T (is_no_kind (kind_of rec)) → ⊥
a_kind (Add id user_type body) h = h
a_kind (Update id user_type body) h = h
a_kind (AddTx tx id user_type body) h = h
a_kind (UpdateTx tx id user_type body) h = h
a_kind (DeleteTx tx id body) h = h
a_kind (Delete id) h = h
a_kind (Prepare tx count extra) h = h
a_kind (Commit tx count) h = h
a_kind (Rollback tx) h = h

-- none stands where no byte is a kind's
pub none_within : (bytes : List ℕ) (fid from len : ℕ) → T (list_all is_no_kind (take len (drop from bytes))) → (p : ℕ) → from ≤ p → p < from + len → NoneAt bytes fid 2 p
none_within bytes fid from len h p low high s is found =
    let size = at_least s.rec in
    let whole = found.len in
    let there : slice_index bytes (s.place + 0) ≡ kind_of s.rec = read_at bytes fid s 0 (omega arith) found in
    let place : from + (p - from) ≡ s.place + 0 = omega arith in
    let same : slice_index (take len (drop from bytes)) (p - from) ≡ kind_of s.rec = get_or-take len (drop from bytes) (p - from) 0 (omega arith) ∙ get_or-drop from bytes (p - from) 0 ∙ ap (λ i. slice_index bytes i) place ∙ there in
    a_kind s.rec (subst (λ b. T (is_no_kind b)) same (no_kind (take len (drop from bytes)) h (p - from)))

-- none stands from a place on where no byte is a kind's
pub none_from : (bytes : List ℕ) (fid from : ℕ) → T (list_all is_no_kind (drop from bytes)) → (p : ℕ) → from ≤ p → NoneAt bytes fid 2 p
none_from bytes fid from h p low s is found =
    let size = at_least s.rec in
    let whole = found.len in
    let there : slice_index bytes (s.place + 0) ≡ kind_of s.rec = read_at bytes fid s 0 (omega arith) found in
    let place : from + (p - from) ≡ s.place + 0 = omega arith in
    let same : slice_index (drop from bytes) (p - from) ≡ kind_of s.rec = get_or-drop from bytes (p - from) 0 ∙ ap (λ i. slice_index bytes i) place ∙ there in
    a_kind s.rec (subst (λ b. T (is_no_kind b)) same (no_kind (drop from bytes) h (p - from)))
