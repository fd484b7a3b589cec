-- A record that is read stands there, and one that stands there is read.
use Rattle.std.proofs.Common.{◌≡◌, ℕ, ◌+◌, ◌-◌, ◌^◌, ◌<◌, ◌≤◌, Bool, true, false, cond, ◌&&◌, eqb, List, [], ◌∷◌, ◌++◌, length, take, drop, Option, Some, None, refl, sym, ap, subst, ◌∙◌, append_assoc, arith}
use Rattle.std.proofs.lemmas.Bool.{eqb-true, eq-eqb}
use Rattle.std.proofs.Math.ListN.{drop_of_length-le}
use Rattle.std.proofs.lemmas.List.{take_at, drop_at, take-append-drop, length-append, length-drop, append-nil}
use Rattle.amq_model.specs.declared.record.Record.{Record}
use Rattle.amq_model.specs.declared.record.Record.TheVariants.{Add, Update, AddTx, UpdateTx, DeleteTx, Delete, Prepare, Commit, Rollback}
use Rattle.amq_model.specs.RecordAt.{word, kind_of, fields_of, len_of, whole_len, compact_bytes, spelling, IsBytes, IsRecord, IsCompact, Spot, RecordAt, NoneAt}
use Rattle.amq_record.specs.declared.layout.Kind.{Kind}
use Rattle.amq_record.specs.declared.layout.Kind.TheVariants as k
use Rattle.amq_record.specs.Layouts.{Values, number_of, kind_numbered, kind_in, layout_of, values_in, record_from}
use Rattle.amq_record.specs.Reading.{byte_at, both_at, compact_at, head_at, word_at, layout_at, fields_at, front_of, read_at}
use Rattle.amq_record.proofs.Lengths.{length_word, length_fields}
use Rattle.amq_record.proofs.Layouts.{spelled_from, record_is, spelled_is}
use Rattle.amq_record.proofs.Fields.{IsBytes-drop, some_is, bind_with, guard_some, Takes, Takes-then, Reads, FitsBy, reads_word, reads_byte, reads_compact, reads_both, reads_layout}

-- a field of this kind gave this record
abbrev Found : ℕ → List ℕ → Record → List ℕ → Type 0
Found kind bytes rec rest = Takes bytes (fields_of rec) rest × IsRecord rec × (kind_of rec ≡ kind)

abbrev some_kind : Kind → Option Kind
some_kind a = Some a

kind_some : (a b : Kind) → some_kind a ≡ Some b → a ≡ b
kind_some a b e = cc

-- one kind after another
or_else : (n : ℕ) (kind : Kind) (m : ℕ) (this : Kind) → number_of this ≡ m → (others : Option Kind) → cond (eqb n m) (Some this) others ≡ Some kind → (others ≡ Some kind → number_of kind ≡ n) → number_of kind ≡ n
or_else n kind m this is others e go = by (eqb n m) refl e where
  by : (t : Bool) → eqb n m ≡ t → cond t (Some this) others ≡ Some kind → number_of kind ≡ n
  by true same h = ap number_of (sym (kind_some this kind h)) ∙ is ∙ sym (eqb-true n m same)
  by false other h = go h

-- a kind is the one of its number
numbered_is : (n : ℕ) (kind : Kind) → kind_numbered n ≡ Some kind → number_of kind ≡ n
numbered_is n kind e =
    or_else n kind 11 k.Add refl _ e (λ e. or_else n kind 12 k.Update refl _ e (λ e. or_else n kind 13 k.AddTx refl _ e (λ e.
    or_else n kind 14 k.UpdateTx refl _ e (λ e. or_else n kind 15 k.DeleteTx refl _ e (λ e. or_else n kind 16 k.Delete refl _ e (λ e.
    or_else n kind 17 k.Prepare refl _ e (λ e. or_else n kind 18 k.Commit refl _ e (λ e. or_else n kind 19 k.Rollback refl _ e (λ e. absurd cc)))))))))

-- values that fit a kind's layout make a record
fits_from : (kind : Kind) (x : Values) → FitsBy (layout_of kind) x → IsRecord (record_from kind x)
fits_from k.Add x h = (h.1.0, h.1.1.1.0, h.1.1.1.1)
fits_from k.Update x h = (h.1.0, h.1.1.1.0, h.1.1.1.1)
fits_from k.AddTx x h = (h.0, h.1.0, h.1.1.1.0, h.1.1.1.1)
fits_from k.UpdateTx x h = (h.0, h.1.0, h.1.1.1.0, h.1.1.1.1)
fits_from k.DeleteTx x h = (h.0, h.1.0, h.1.1.1.1)
fits_from k.Delete x h = h.1.0
fits_from k.Prepare x h = (h.0, h.1.1.0, h.1.1.1.1)
fits_from k.Commit x h = (h.0, h.1.1.0)
fits_from k.Rollback x h = h.0

-- a record's values fit its kind's layout
fits_in : (rec : Record) → IsRecord rec → FitsBy (layout_of (kind_in rec)) (values_in rec)
fits_in (Add id user_type body) h = (refl, (h.0, (refl, (h.1, h.2))))
fits_in (Update id user_type body) h = (refl, (h.0, (refl, (h.1, h.2))))
fits_in (AddTx tx id user_type body) h = (h.0, (h.1, (refl, (h.2, h.3))))
fits_in (UpdateTx tx id user_type body) h = (h.0, (h.1, (refl, (h.2, h.3))))
fits_in (DeleteTx tx id body) h = (h.0, (h.1, (refl, (refl, h.2))))
fits_in (Delete id) h = (refl, (h, (refl, (refl, refl))))
fits_in (Prepare tx count extra) h = (h.0, (refl, (h.1, (refl, h.2))))
fits_in (Commit tx count) h = (h.0, (refl, (h.1, (refl, refl))))
fits_in (Rollback tx) h = (h, (refl, (refl, (refl, refl))))

kind_from : (kind : Kind) (x : Values) → kind_of (record_from kind x) ≡ number_of kind
kind_from k.Add x = refl
kind_from k.Update x = refl
kind_from k.AddTx x = refl
kind_from k.UpdateTx x = refl
kind_from k.DeleteTx x = refl
kind_from k.Delete x = refl
kind_from k.Prepare x = refl
kind_from k.Commit x = refl
kind_from k.Rollback x = refl

numbered_again : (rec : Record) → kind_numbered (kind_of rec) ≡ Some (kind_in rec)
numbered_again (Add id user_type body) = refl
numbered_again (Update id user_type body) = refl
numbered_again (AddTx tx id user_type body) = refl
numbered_again (UpdateTx tx id user_type body) = refl
numbered_again (DeleteTx tx id body) = refl
numbered_again (Delete id) = refl
numbered_again (Prepare tx count extra) = refl
numbered_again (Commit tx count) = refl
numbered_again (Rollback tx) = refl

fields_takes : (number : ℕ) (bytes : List ℕ) (rec : Record) (rest : List ℕ) → IsBytes bytes → fields_at number bytes ≡ Some (rec, rest) → Found number bytes rec rest
unfolding fields_at
fields_takes number bytes rec rest fits e =
    bind_with _ _ (rec, rest) e (λ kind n e. bind_with _ _ (rec, rest) e (λ values v e.
    let p = (reads_layout (layout_of kind)).takes bytes values.0 values.1 fits v in
    subst (λ (y : Record × List ℕ). Found number bytes y.0 y.1) (some_is (record_from kind values.0, values.1) (rec, rest) e)
    (subst (λ (t : List ℕ). Takes bytes t values.1) (spelled_from kind values.0) p.0, fits_from kind values.0 p.1, kind_from kind values.0 ∙ numbered_is number kind n)))

fields_again : (rec : Record) (rest : List ℕ) → IsRecord rec → fields_at (kind_of rec) (fields_of rec ++ rest) ≡ Some (rec, rest)
unfolding fields_at
fields_again rec rest h =
    let values : layout_at (layout_of (kind_in rec)) (fields_of rec ++ rest) ≡ Some (values_in rec, rest) =
    subst (λ (t : List ℕ). layout_at (layout_of (kind_in rec)) (t ++ rest) ≡ Some (values_in rec, rest)) (spelled_is rec) ((reads_layout (layout_of (kind_in rec))).again (values_in rec) rest (fits_in rec h)) in
    rw (numbered_again rec, values, record_is rec) refl

-- ---- the whole record

-- a compact count that is there, or not
length_compact : (version compact : ℕ) (rec : Record) → length (compact_bytes version compact) + length (fields_of rec) + 9 ≡ whole_len version rec
length_compact version compact rec = by (eqb version 1) where
  by : (one : Bool) → length (cond one [] (compact ∷ [])) + length (fields_of rec) + 9 ≡ cond one (len_of rec - 1) (len_of rec)
  by true = omega (arith, length_fields rec)
  by false = omega (arith, length_fields rec)

-- what stands behind the file id
abbrev behind : ℕ → ℕ → Record → ℕ → List ℕ
behind version compact rec size = compact_bytes version compact ++ (fields_of rec ++ word size)

length_text : (fid version compact : ℕ) (rec : Record) (kind size : ℕ) → length (kind ∷ word fid ++ behind version compact rec size) ≡ whole_len version rec
length_text fid version compact rec kind size = omega (arith, length-append (word fid) (behind version compact rec size), length-append (compact_bytes version compact) (fields_of rec ++ word size), length-append (fields_of rec) (word size), length_word fid, length_word size, length_compact version compact rec)

pub length_spelling : (version fid compact : ℕ) (rec : Record) → length (spelling version fid compact rec) ≡ whole_len version rec
length_spelling version fid compact rec = length_text fid version compact rec (kind_of rec) (whole_len version rec)

-- what was read at the front
record Front (fid version place : ℕ) (bytes : List ℕ) (s : Spot) : Type 0 where
  rest : List ℕ
  takes : Takes bytes (spelling version fid s.compact s.rec) rest
  place_is : s.place ≡ place
  compact : IsCompact version s.compact
  len : s.len ≡ whole_len version s.rec
  values : IsRecord s.rec

-- a conjunction of tests that passed
both_true : (a b : Bool) → (a && b) ≡ true → (a ≡ true) × (b ≡ true)
both_true true b e = (refl, e)
both_true false b e = absurd cc

reads_head : (version : ℕ) → Reads (both_at byte_at (both_at word_at (compact_at version))) (λ x. (x.0 ∷ []) ++ (word x.1.0 ++ compact_bytes version x.1.1)) (λ x. (x.0 < 256) × ((x.1.0 < 2 ^ 32) × IsCompact version x.1.1))
reads_head version = reads_both _ _ _ _ _ _ reads_byte (reads_both _ _ _ _ _ _ reads_word (reads_compact version))

-- the pieces that were read are a spelling
pieces : (fid version place kind compact size : ℕ) (rec : Record) (bytes after last : List ℕ) → kind_of rec ≡ kind → IsRecord rec → IsCompact version compact
    → Takes bytes ((kind ∷ []) ++ (word fid ++ compact_bytes version compact)) after → Takes after (fields_of rec ++ word size) last → size ≡ length bytes - length last
    → Front fid version place bytes (record { place = place; len = size; compact = compact; rec = rec })
pieces fid version place kind compact size rec bytes after last kind-is values small head others size-is =
    let all = Takes-then bytes ((kind ∷ []) ++ (word fid ++ compact_bytes version compact)) after (fields_of rec ++ word size) last head others in
    let text : List ℕ = kind ∷ word fid ++ behind version compact rec size in
    let parts : bytes ≡ text ++ last = all.parts ∙ ap (λ (t : List ℕ). (kind ∷ t) ++ last) (append_assoc (word fid) (compact_bytes version compact) (fields_of rec ++ word size)) in
    let size-len : size ≡ whole_len version rec = omega (arith, ap length parts, length-append text last, length_text fid version compact rec kind size) in
    record {
      rest = last;
      takes = record { parts = parts ∙ ap (λ (n : ℕ). (kind ∷ word fid ++ behind version compact rec n) ++ last) size-len ∙ ap (λ (k : ℕ). (k ∷ word fid ++ behind version compact rec (whole_len version rec)) ++ last) (sym kind-is); rest_fits = all.rest_fits };
      place_is = refl;
      compact = small;
      len = size-len;
      values = values;
    }

front_takes : (fid version place : ℕ) (bytes : List ℕ) (s : Spot) → IsBytes bytes → front_of fid version place bytes ≡ Some s → Front fid version place bytes s
unfolding front_of
front_takes fid version place bytes s fits e =
    bind_with _ _ s e (λ head h e. bind_with _ _ s e (λ rec r e. bind_with _ _ s e (λ size z e.
    let g = guard_some (eqb head.0.1.0 fid && eqb size.0 (length bytes - length size.1)) (record { place = place; len = size.0; compact = head.0.1.1; rec = rec.0 }) s e in
    let t = both_true (eqb head.0.1.0 fid) (eqb size.0 (length bytes - length size.1)) g.0 in
    let a = (reads_head version).takes bytes head.0 head.1 fits h in
    let b = fields_takes head.0.0 head.1 rec.0 rec.1 a.0.rest_fits r in
    let c = reads_word.takes rec.1 size.0 size.1 b.0.rest_fits z in
    let a' = subst (λ (f : ℕ). Takes bytes ((head.0.0 ∷ []) ++ (word f ++ compact_bytes version head.0.1.1)) head.1) (eqb-true _ _ t.0) a.0 in
    subst (Front fid version place bytes) g.1 (pieces fid version place head.0.0 head.0.1.1 size.0 rec.0 bytes head.1 size.1 b.2 b.1 a.1.1.1 a' (Takes-then head.1 (fields_of rec.0) rec.1 (word size.0) size.1 b.0 c.0) (eqb-true _ _ t.1)))))

front_again : (fid version place : ℕ) (s : Spot) (rest : List ℕ) → fid < 2 ^ 32 → s.place ≡ place → s.len ≡ whole_len version s.rec → IsCompact version s.compact → whole_len version s.rec < 2 ^ 32 → IsRecord s.rec → front_of fid version place (spelling version fid s.compact s.rec ++ rest) ≡ Some s
unfolding front_of
front_again fid version place s rest fid-fits place-is len-is small short values =
    let size-of : ℕ = whole_len version s.rec in
    let back : List ℕ = (fields_of s.rec ++ word size-of) ++ rest in
    let all : List ℕ = spelling version fid s.compact s.rec ++ rest in
    let head : head_at version all ≡ Some ((kind_of s.rec, (fid, s.compact)), back) =
    rw (
      append_assoc (word fid) (compact_bytes version s.compact ++ (fields_of s.rec ++ word size-of)) rest,
      append_assoc (compact_bytes version s.compact) (fields_of s.rec ++ word size-of) rest,
      reads_word.again fid (compact_bytes version s.compact ++ back) fid-fits,
      (reads_compact version).again s.compact back small,
    ) refl in
    let rec : fields_at (kind_of s.rec) back ≡ Some (s.rec, word size-of ++ rest) = rw append_assoc (fields_again s.rec (word size-of ++ rest) values) in
    let size : word_at (word size-of ++ rest) ≡ Some (size-of, rest) = reads_word.again size-of rest short in
    let test : (eqb fid fid && eqb size-of (length all - length rest)) ≡ true = rw (eq-eqb fid fid refl, eq-eqb size-of (length all - length rest) (omega (arith, length-append (spelling version fid s.compact s.rec) rest, length_spelling version fid s.compact s.rec))) refl in
    rw (head, rec, size, test, ← place-is, ← len-is) refl

pub read_stands : (bytes : List ℕ) (fid version place : ℕ) (s : Spot) → IsBytes bytes → read_at bytes fid version place ≡ Some s → (s.place ≡ place) × RecordAt bytes fid version s
unfolding read_at
read_stands bytes fid version place s fits e =
    let f = front_takes fid version place (drop place bytes) s (IsBytes-drop place bytes fits) e in
    let text : List ℕ = spelling version fid s.compact s.rec in
    let len = length_spelling version fid s.compact s.rec in (
      f.place_is,
      record {
        values = f.values;
        compact = f.compact;
        len = f.len;
        within = omega (arith, ap length f.takes.parts, length-append text f.rest, length-drop place bytes, len, f.len, f.place_is);
        spelled = rw (f.place_is, f.takes.parts) (take_at text f.rest s.len (len ∙ sym f.len));
      },
    )

len_short : (rec : Record) → IsRecord rec → len_of rec < 2 ^ 32
len_short (Add id user_type body) h = omega (arith, h.2.short)
len_short (Update id user_type body) h = omega (arith, h.2.short)
len_short (AddTx tx id user_type body) h = omega (arith, h.3.short)
len_short (UpdateTx tx id user_type body) h = omega (arith, h.3.short)
len_short (DeleteTx tx id body) h = omega (arith, h.2.short)
len_short (Delete id) h = omega arith
len_short (Prepare tx count extra) h = omega (arith, h.2.short)
len_short (Commit tx count) h = omega arith
len_short (Rollback tx) h = omega arith

whole_short : (version : ℕ) (rec : Record) → len_of rec < 2 ^ 32 → whole_len version rec < 2 ^ 32
whole_short version rec h = by (eqb version 1) where
  by : (one : Bool) → cond one (len_of rec - 1) (len_of rec) < 2 ^ 32
  by true = omega arith
  by false = h

pub stands_read : (bytes : List ℕ) (fid version : ℕ) (s : Spot) → fid < 2 ^ 32 → RecordAt bytes fid version s → read_at bytes fid version s.place ≡ Some s
unfolding read_at
stands_read bytes fid version s fid-fits h =
    let d : List ℕ = drop s.place bytes in
    let parts : d ≡ spelling version fid s.compact s.rec ++ drop s.len d = sym (take-append-drop s.len d) ∙ ap (λ (t : List ℕ). t ++ drop s.len d) h.spelled in
    ap (front_of fid version s.place) parts ∙ front_again fid version s.place s (drop s.len d) fid-fits refl h.len h.compact (whole_short version s.rec (len_short s.rec h.values)) h.values

-- at a place at most one record stands
pub one_record : (bytes : List ℕ) (fid version : ℕ) (s t : Spot) → fid < 2 ^ 32 → s.place ≡ t.place → RecordAt bytes fid version s → RecordAt bytes fid version t → s ≡ t
one_record bytes fid version s t fid-fits same a b = some_is s t (sym (stands_read bytes fid version s fid-fits a) ∙ ap (read_at bytes fid version) same ∙ stands_read bytes fid version t fid-fits b)

pub read_none : (bytes : List ℕ) (fid version place : ℕ) → fid < 2 ^ 32 → read_at bytes fid version place ≡ None → NoneAt bytes fid version place
read_none bytes fid version place fid-fits none s at h =
    let read = stands_read bytes fid version s fid-fits h in
    let there : read_at bytes fid version place ≡ Some s = ap (read_at bytes fid version) (sym at) ∙ read in
    cc

-- what is written stands there
pub written_stands : (front back : List ℕ) (fid version compact : ℕ) (rec : Record) → IsCompact version compact → IsRecord rec → RecordAt (front ++ (spelling version fid compact rec ++ back)) fid version (record { place = length front; len = whole_len version rec; compact = compact; rec = rec })
written_stands front back fid version compact rec small values =
    let text : List ℕ = spelling version fid compact rec in
    let len : length text ≡ whole_len version rec = length_spelling version fid compact rec in
    record {
      values = values;
      compact = small;
      len = refl;
      within = omega (arith, length-append front (text ++ back), length-append text back, len);
      spelled = ap (take (whole_len version rec)) (drop_at front (text ++ back) (length front) refl) ∙ take_at text back (whole_len version rec) len;
    }

-- no spelling begins another
pub no_beginning : (fid version c d : ℕ) (a b : Record) (back : List ℕ) → fid < 2 ^ 32 → IsCompact version c → IsRecord a → IsCompact version d → IsRecord b → spelling version fid c a ++ back ≡ spelling version fid d b → (c ≡ d) × (a ≡ b)
no_beginning fid version c d a b back fits c-small a-values d-small b-values e =
    let bytes : List ℕ = spelling version fid c a ++ back in
    let s : Spot = record { place = 0; len = whole_len version a; compact = c; rec = a } in
    let t : Spot = record { place = 0; len = whole_len version b; compact = d; rec = b } in
    let first : RecordAt bytes fid version s = written_stands [] back fid version c a c-small a-values in
    let same : spelling version fid d b ++ [] ≡ bytes = append-nil (spelling version fid d b) ∙ sym e in
    let second : RecordAt bytes fid version t = subst (λ (l : List ℕ). RecordAt l fid version t) same (written_stands [] [] fid version d b d-small b-values) in
    let one : s ≡ t = one_record bytes fid version s t fits refl first second in
    (ap (λ (u : Spot). u.compact) one, ap (λ (u : Spot). u.rec) one)

-- past the end nothing is read
pub read_past : (bytes : List ℕ) (fid version place : ℕ) → length bytes ≤ place → read_at bytes fid version place ≡ None
unfolding read_at front_of
read_past bytes fid version place past = rw (drop_of_length-le bytes past) refl
