-- A field that is read is the field that was written, and what was written is read again.
use Rattle.std.proofs.Common.{◌≡◌, ℕ, suc, ◌+◌, ◌^◌, ◌<◌, ◌≤◌, Bool, true, false, cond, eqb, ltb, List, [], ◌∷◌, ◌++◌, length, take, drop, Option, Some, None, refl, sym, ap, subst, ◌∙◌, append_assoc, arith, inl, inr}
use Rattle.std.specs.Int.{Width, w32, w64, byte_len, from_be_bytes, to_be_bytes}
use Rattle.std.proofs.lemmas.Bool.{cases_lt, eqb-true, eqb-false, ltb-true, ltb-false, le-ltb, lt-ltb}
use Rattle.std.proofs.lemmas.List.{take_at, drop_at, take-append-drop, length-append, length-take, get_or-drop, get_or-take, get_or_past}
use Rattle.std.proofs.lemmas.Nat.{be_bytes_4, be_bytes_8, from_be_bytes-to_be_bytes_4, from_be_bytes-to_be_bytes_8}
use Rattle.amq_model.specs.RecordAt.{long, word, IsBytes, IsBody, IsCompact, compact_bytes}
use Rattle.amq_record.specs.declared.layout.BodyForm.{BodyForm}
use Rattle.amq_record.specs.declared.layout.BodyForm.TheVariants.{Absent, Sized, Typed}
use Rattle.amq_record.specs.declared.layout.Layout.{Layout}
use Rattle.amq_record.specs.Layouts.{Values, spelled_if, spelled_body, spelled_by}
use Rattle.amq_record.specs.Reading.{◌>>=◌, Field, byte_at, number_at, bytes_at, len_at, sized_at, typed_at, both_at, long_at, word_at, if_at, body_at, layout_at, compact_at}

pub IsBytes-drop : (n : ℕ) (bytes : List ℕ) → IsBytes bytes → IsBytes (drop n bytes)
IsBytes-drop n bytes h i = rw get_or-drop (h (n + i))

pub IsBytes-take : (n : ℕ) (bytes : List ℕ) → IsBytes bytes → IsBytes (take n bytes)
IsBytes-take n bytes h i =
    elim (cases_lt i n) [
      | inl lt ↦ rw (get_or-take n bytes i 0 lt) (h i)
      | inr le ↦ rw (get_or_past (take n bytes) i 0 (omega (arith, length-take n bytes))) (omega arith)
    ]

abbrev some : {A : Type 0} → A → Option A
some x = Some x

pub some_is : {A : Type 0} (x y : A) → some x ≡ some y → x ≡ y
some_is x y e = cc

-- the value of a step that gave one
pub bind_some : {A B : Type 0} (r : Option A) (f : A → Option B) (y : B) → (r >>= f) ≡ Some y → (x : A) × (r ≡ Some x) × (f x ≡ Some y)
bind_some (Some x) f y e = (x, refl, e)
bind_some None f y e = absurd cc

-- the same, for a proof that goes on with the value by a name
pub bind_with : {A B : Type 0} {P : Type 0} (r : Option A) (f : A → Option B) (y : B) → (r >>= f) ≡ Some y → ((x : A) → r ≡ Some x → f x ≡ Some y → P) → P
bind_with (Some x) f y e go = go x refl e
bind_with None f y e go = absurd cc

-- a test that passed
pub guard_some : {A : Type 0} (b : Bool) (x y : A) → cond b (Some x) None ≡ Some y → (b ≡ true) × (x ≡ y)
guard_some true x y e = (refl, cc)
guard_some false x y e = absurd cc

-- a test that did not fail
pub guard_none : {A : Type 0} (b : Bool) (x y : A) → cond b None (Some x) ≡ Some y → (b ≡ false) × (x ≡ y)
guard_none true x y e = absurd cc
guard_none false x y e = (refl, cc)

-- what a field took from the front
pub record Takes (bytes text rest : List ℕ) : Type 0 where
  pub parts : bytes ≡ text ++ rest
  pub rest_fits : IsBytes rest

pub Takes-then : (a x b y c : List ℕ) → Takes a x b → Takes b y c → Takes a (x ++ y) c
Takes-then a x b y c p q = record { parts = p.parts ∙ ap (λ (t : List ℕ). x ++ t) q.parts ∙ sym (append_assoc x y c); rest_fits = q.rest_fits }

-- A field reads exactly what this spells.
pub record Reads {A : Type 0} (field : Field A) (spell : A → List ℕ) (Fits : A → Type 0) : Type 0 where
  pub takes : (bytes : List ℕ) (x : A) (rest : List ℕ) → IsBytes bytes → field bytes ≡ Some (x, rest) → Takes bytes (spell x) rest × Fits x
  pub again : (x : A) (rest : List ℕ) → Fits x → field (spell x ++ rest) ≡ Some (x, rest)

-- ---- numbers

pub record IsWide (w : Width) (limit : ℕ) : Type 0 where
  pub len : (n : ℕ) → length (to_be_bytes w n) ≡ byte_len w
  pub back : (bytes : List ℕ) → length bytes ≡ byte_len w → IsBytes bytes → to_be_bytes w (from_be_bytes w bytes) ≡ bytes
  pub again : (n : ℕ) → n < limit → from_be_bytes w (to_be_bytes w n) ≡ n
  pub below : (bytes : List ℕ) → IsBytes bytes → from_be_bytes w bytes < limit

wide32 : IsWide w32 (2 ^ 32)
wide32 = record {
  len = λ n. refl;
  back = λ bytes len fits. be_bytes_4 bytes _ len fits refl;
  again = λ n lt. from_be_bytes-to_be_bytes_4 n lt;
  below = λ bytes fits. omega (arith, fits 0, fits 1, fits 2, fits 3);
}

wide64 : IsWide w64 (2 ^ 64)
wide64 = record {
  len = λ n. refl;
  back = λ bytes len fits. be_bytes_8 bytes _ len fits refl;
  again = λ n lt. from_be_bytes-to_be_bytes_8 n lt;
  below = λ bytes fits. omega (arith, fits 0, fits 1, fits 2, fits 3, fits 4, fits 5, fits 6, fits 7);
}

number_takes : (w : Width) (limit : ℕ) (wide : IsWide w limit) (bytes : List ℕ) (n : ℕ) (rest : List ℕ) → IsBytes bytes → number_at w bytes ≡ Some (n, rest) → Takes bytes (to_be_bytes w n) rest × (n < limit)
number_takes w limit wide bytes n rest fits e =
    let g = guard_none (ltb (length bytes) (byte_len w)) (from_be_bytes w (take (byte_len w) bytes), drop (byte_len w) bytes) (n, rest) e in
    let long : byte_len w ≤ length bytes = ltb-false _ _ g.0 in
    let n-is : from_be_bytes w (take (byte_len w) bytes) ≡ n = ap (λ (p : ℕ × List ℕ). p.0) g.1 in
    let rest-is : drop (byte_len w) bytes ≡ rest = ap (λ (p : ℕ × List ℕ). p.1) g.1 in
    let front : to_be_bytes w n ≡ take (byte_len w) bytes = rw (← n-is) (wide.back (take (byte_len w) bytes) (omega (arith, length-take (byte_len w) bytes)) (IsBytes-take (byte_len w) bytes fits)) in
    (record { parts = rw (front, ← rest-is) (sym (take-append-drop (byte_len w) bytes)); rest_fits = rw (← rest-is) (IsBytes-drop (byte_len w) bytes fits) }, rw (← n-is) (wide.below (take (byte_len w) bytes) (IsBytes-take (byte_len w) bytes fits)))

number_again : (w : Width) (limit : ℕ) (wide : IsWide w limit) (n : ℕ) (rest : List ℕ) → n < limit → number_at w (to_be_bytes w n ++ rest) ≡ Some (n, rest)
number_again w limit wide n rest lt =
    let len = wide.len n in
    let long : ltb (length (to_be_bytes w n ++ rest)) (byte_len w) ≡ false = le-ltb _ _ (omega (arith, length-append (to_be_bytes w n) rest)) in
    rw (long, take_at (to_be_bytes w n) rest (byte_len w) len, drop_at (to_be_bytes w n) rest (byte_len w) len, wide.again n lt) refl

pub reads_word : Reads word_at word (λ n. n < 2 ^ 32)
unfolding word
reads_word = record { takes = number_takes w32 (2 ^ 32) wide32; again = number_again w32 (2 ^ 32) wide32 }

pub reads_long : Reads long_at long (λ n. n < 2 ^ 64)
unfolding long
reads_long = record { takes = number_takes w64 (2 ^ 64) wide64; again = number_again w64 (2 ^ 64) wide64 }

-- ---- a byte

byte_takes : (bytes : List ℕ) (n : ℕ) (rest : List ℕ) → IsBytes bytes → byte_at bytes ≡ Some (n, rest) → Takes bytes (n ∷ []) rest × (n < 256)
byte_takes [] n rest fits e = absurd cc
byte_takes (b ∷ bytes) n rest fits e =
    subst (λ (p : ℕ × List ℕ). Takes (b ∷ bytes) (p.0 ∷ []) p.1 × (p.0 < 256)) (some_is (b, bytes) (n, rest) e) (record { parts = refl; rest_fits = λ i. fits (suc i) }, fits 0)

pub reads_byte : Reads byte_at (λ n. n ∷ []) (λ n. n < 256)
reads_byte = record { takes = byte_takes; again = λ n rest h. refl }

-- ---- two fields

module _ {A B : Type 0} (f : Field A) (g : Field B) (s : A → List ℕ) (t : B → List ℕ) (F : A → Type 0) (G : B → Type 0) (first : Reads f s F) (second : Reads g t G) where
  both_takes : (bytes : List ℕ) (x : A × B) (rest : List ℕ) → IsBytes bytes → both_at f g bytes ≡ Some (x, rest) → Takes bytes (s x.0 ++ t x.1) rest × (F x.0 × G x.1)
  both_takes bytes x rest fits e =
      let a = bind_some (f bytes) (λ a. g a.1 >>= λ b. Some ((a.0, b.0), b.1)) (x, rest) e in
      let b = bind_some (g a.0.1) (λ b. Some ((a.0.0, b.0), b.1)) (x, rest) a.2 in
      let p = first.takes bytes a.0.0 a.0.1 fits a.1 in
      let q = second.takes a.0.1 b.0.0 b.0.1 p.0.rest_fits b.1 in
      subst (λ (y : (A × B) × List ℕ). Takes bytes (s y.0.0 ++ t y.0.1) y.1 × (F y.0.0 × G y.0.1)) (some_is ((a.0.0, b.0.0), b.0.1) (x, rest) b.2) (Takes-then bytes (s a.0.0) a.0.1 (t b.0.0) b.0.1 p.0 q.0, (p.1, q.1))

  both_again : (x : A × B) (rest : List ℕ) → F x.0 × G x.1 → both_at f g ((s x.0 ++ t x.1) ++ rest) ≡ Some (x, rest)
  both_again x rest h = rw (append_assoc (s x.0) (t x.1) rest, first.again x.0 (t x.1 ++ rest) h.0, second.again x.1 rest h.1) refl

  pub reads_both : Reads (both_at f g) (λ x. s x.0 ++ t x.1) (λ x. F x.0 × G x.1)
  reads_both = record { takes = both_takes; again = both_again }

-- ---- bodies

bytes_takes : (len : ℕ) (bytes body rest : List ℕ) → IsBytes bytes → bytes_at len bytes ≡ Some (body, rest) → Takes bytes body rest × (length body ≡ len) × IsBytes body
bytes_takes len bytes body rest fits e =
    let g = guard_none (ltb (length bytes) len) (take len bytes, drop len bytes) (body, rest) e in
    let long : len ≤ length bytes = ltb-false _ _ g.0 in
    subst (λ (p : List ℕ × List ℕ). Takes bytes p.0 p.1 × (length p.0 ≡ len) × IsBytes p.0) g.1
    (record { parts = sym (take-append-drop len bytes); rest_fits = IsBytes-drop len bytes fits }, omega (arith, length-take len bytes), IsBytes-take len bytes fits)

bytes_again : (body rest : List ℕ) → bytes_at (length body) (body ++ rest) ≡ Some (body, rest)
bytes_again body rest =
    let long : ltb (length (body ++ rest)) (length body) ≡ false = le-ltb _ _ (omega (arith, length-append body rest)) in
    rw (long, take_at body rest (length body) refl, drop_at body rest (length body) refl) refl

len_takes : (bytes : List ℕ) (n : ℕ) (rest : List ℕ) → IsBytes bytes → len_at bytes ≡ Some (n, rest) → Takes bytes (word n) rest × (n < 2 ^ 31)
unfolding len_at
len_takes bytes n rest fits e =
    let a = bind_some (word_at bytes) (λ n. cond (ltb n.0 (2 ^ 31)) (Some n) None) (n, rest) e in
    let g = guard_some (ltb a.0.0 (2 ^ 31)) a.0 (n, rest) a.2 in
    subst (λ (p : ℕ × List ℕ). Takes bytes (word p.0) p.1 × (p.0 < 2 ^ 31)) g.1 ((reads_word.takes bytes a.0.0 a.0.1 fits a.1).0, ltb-true _ _ g.0)

len_again : (n : ℕ) (rest : List ℕ) → n < 2 ^ 31 → len_at (word n ++ rest) ≡ Some (n, rest)
unfolding len_at
len_again n rest lt = rw (reads_word.again n rest (omega arith), lt-ltb n (2 ^ 31) lt) refl

sized_takes : (bytes body rest : List ℕ) → IsBytes bytes → sized_at bytes ≡ Some (body, rest) → Takes bytes (word (length body) ++ body) rest × IsBody body
unfolding sized_at
sized_takes bytes body rest fits e =
    let a = bind_some (len_at bytes) (λ n. bytes_at n.0 n.1) (body, rest) e in
    let p = len_takes bytes a.0.0 a.0.1 fits a.1 in
    let q = bytes_takes a.0.0 a.0.1 body rest p.0.rest_fits a.2 in
    let both = Takes-then bytes (word a.0.0) a.0.1 body rest p.0 q.0 in
    (subst (λ (k : ℕ). Takes bytes (word k ++ body) rest) (sym q.1) both, record { short = omega (arith, p.1, q.1); bytes = q.2 })

sized_again : (body rest : List ℕ) → IsBody body → sized_at ((word (length body) ++ body) ++ rest) ≡ Some (body, rest)
unfolding sized_at
sized_again body rest h = rw (append_assoc (word (length body)) body rest, len_again (length body) (body ++ rest) h.short, bytes_again body rest) refl

abbrev spelled_typed : ℕ × List ℕ → List ℕ
spelled_typed x = word (length x.1) ++ x.0 ∷ x.1

abbrev FitsTyped : ℕ × List ℕ → Type 0
FitsTyped x = (x.0 < 256) × IsBody x.1

typed_takes : (bytes : List ℕ) (x : ℕ × List ℕ) (rest : List ℕ) → IsBytes bytes → typed_at bytes ≡ Some (x, rest) → Takes bytes (spelled_typed x) rest × FitsTyped x
unfolding typed_at
typed_takes bytes x rest fits e =
    let a = bind_some (len_at bytes) (λ n. byte_at n.1 >>= λ t. bytes_at n.0 t.1 >>= λ b. Some ((t.0, b.0), b.1)) (x, rest) e in
    let t = bind_some (byte_at a.0.1) (λ t. bytes_at a.0.0 t.1 >>= λ b. Some ((t.0, b.0), b.1)) (x, rest) a.2 in
    let b = bind_some (bytes_at a.0.0 t.0.1) (λ b. Some ((t.0.0, b.0), b.1)) (x, rest) t.2 in
    let p = len_takes bytes a.0.0 a.0.1 fits a.1 in
    let q = byte_takes a.0.1 t.0.0 t.0.1 p.0.rest_fits t.1 in
    let r = bytes_takes a.0.0 t.0.1 b.0.0 b.0.1 q.0.rest_fits b.1 in
    let qr = Takes-then a.0.1 (t.0.0 ∷ []) t.0.1 b.0.0 b.0.1 q.0 r.0 in
    let all = Takes-then bytes (word a.0.0) a.0.1 (t.0.0 ∷ b.0.0) b.0.1 p.0 qr in
    subst (λ (y : (ℕ × List ℕ) × List ℕ). Takes bytes (spelled_typed y.0) y.1 × FitsTyped y.0) (some_is ((t.0.0, b.0.0), b.0.1) (x, rest) b.2)
    (subst (λ (k : ℕ). Takes bytes (word k ++ t.0.0 ∷ b.0.0) b.0.1) (sym r.1) all, (q.1, record { short = omega (arith, p.1, r.1); bytes = r.2 }))

typed_again : (x : ℕ × List ℕ) (rest : List ℕ) → FitsTyped x → typed_at (spelled_typed x ++ rest) ≡ Some (x, rest)
unfolding typed_at
typed_again x rest h = rw (append_assoc (word (length x.1)) (x.0 ∷ x.1) rest, len_again (length x.1) (x.0 ∷ x.1 ++ rest) h.1.short, bytes_again x.1 rest) refl

-- ---- fields that may be there

-- a field that isn't there is 0
abbrev pub FitsIf : Bool → (ℕ → Type 0) → ℕ → Type 0
FitsIf true Fits n = Fits n
FitsIf false Fits n = n ≡ 0

absent_takes : (bytes : List ℕ) (n : ℕ) (rest : List ℕ) → IsBytes bytes → some {A = ℕ × List ℕ} (0, bytes) ≡ Some (n, rest) → Takes bytes [] rest × (n ≡ 0)
absent_takes bytes n rest fits e = subst (λ (p : ℕ × List ℕ). Takes bytes [] p.1 × (p.0 ≡ 0)) (some_is (0, bytes) (n, rest) e) (record { parts = refl; rest_fits = fits }, refl)

pub reads_if : (there : Bool) (field : Field ℕ) (spell : ℕ → List ℕ) (Fits : ℕ → Type 0) → Reads field spell Fits → Reads (if_at there field) (spelled_if there spell) (FitsIf there Fits)
reads_if true field spell Fits r = record { takes = r.takes; again = r.again }
reads_if false field spell Fits r = record { takes = absent_takes; again = λ n rest h. ap (λ (m : ℕ). some {A = ℕ × List ℕ} (m, rest)) (sym h) }

-- a body of this form
abbrev pub FitsBody : BodyForm → ℕ × List ℕ → Type 0
FitsBody Absent x = (x.0 ≡ 0) × (x.1 ≡ [])
FitsBody Sized x = (x.0 ≡ 0) × IsBody x.1
FitsBody Typed x = (x.0 < 256) × IsBody x.1

no_body_takes : (bytes : List ℕ) (x : ℕ × List ℕ) (rest : List ℕ) → IsBytes bytes → body_at Absent bytes ≡ Some (x, rest) → Takes bytes [] rest × FitsBody Absent x
no_body_takes bytes x rest fits e = subst (λ (p : (ℕ × List ℕ) × List ℕ). Takes bytes [] p.1 × FitsBody Absent p.0) (some_is ((0, []), bytes) (x, rest) e) (record { parts = refl; rest_fits = fits }, (refl, refl))

no_body_again : (x : ℕ × List ℕ) (rest : List ℕ) → FitsBody Absent x → body_at Absent rest ≡ Some (x, rest)
no_body_again x rest h = rw (h.0, h.1) refl

sized_body_takes : (bytes : List ℕ) (x : ℕ × List ℕ) (rest : List ℕ) → IsBytes bytes → body_at Sized bytes ≡ Some (x, rest) → Takes bytes (spelled_body Sized x) rest × FitsBody Sized x
sized_body_takes bytes x rest fits e =
    let a = bind_some (sized_at bytes) (λ a. Some ((0, a.0), a.1)) (x, rest) e in
    let p = sized_takes bytes a.0.0 a.0.1 fits a.1 in
    subst (λ (y : (ℕ × List ℕ) × List ℕ). Takes bytes (spelled_body Sized y.0) y.1 × FitsBody Sized y.0) (some_is ((0, a.0.0), a.0.1) (x, rest) a.2) (p.0, (refl, p.1))

sized_body_again : (x : ℕ × List ℕ) (rest : List ℕ) → FitsBody Sized x → body_at Sized (spelled_body Sized x ++ rest) ≡ Some (x, rest)
sized_body_again x rest h = rw (sized_again x.1 rest h.1) (ap (λ (n : ℕ). some {A = (ℕ × List ℕ) × List ℕ} ((n, x.1), rest)) (sym h.0))

pub reads_body : (form : BodyForm) → Reads (body_at form) (spelled_body form) (FitsBody form)
reads_body Absent = record { takes = no_body_takes; again = no_body_again }
reads_body Sized = record { takes = sized_body_takes; again = sized_body_again }
reads_body Typed = record { takes = typed_takes; again = typed_again }

-- each value fits where the layout has it
abbrev pub FitsBy : Layout → Values → Type 0
FitsBy l x = FitsIf l.tx (λ n. n < 2 ^ 64) x.0 × (FitsIf l.id (λ n. n < 2 ^ 64) x.1.0 × (FitsIf l.count (λ n. n < 2 ^ 32) x.1.1.0 × FitsBody l.body x.1.1.1))

pub reads_layout : (l : Layout) → Reads (layout_at l) (spelled_by l) (FitsBy l)
unfolding layout_at
reads_layout l =
    reads_both _ _ _ _ _ _ (reads_if l.tx long_at long (λ n. n < 2 ^ 64) reads_long)
    (reads_both _ _ _ _ _ _ (reads_if l.id long_at long (λ n. n < 2 ^ 64) reads_long)
    (reads_both _ _ _ _ _ _ (reads_if l.count word_at word (λ n. n < 2 ^ 32) reads_word) (reads_body l.body)))

-- ---- a compact count

compact_takes : (one : Bool) (version : ℕ) → eqb version 1 ≡ one → (bytes : List ℕ) (n : ℕ) (rest : List ℕ) → IsBytes bytes → cond one (Some (0, bytes)) (byte_at bytes) ≡ Some (n, rest) → Takes bytes (cond one [] (n ∷ [])) rest × IsCompact version n
compact_takes true version is bytes n rest fits e =
    subst (λ (p : ℕ × List ℕ). Takes bytes [] p.1 × IsCompact version p.0) (some_is (0, bytes) (n, rest) e) (record { parts = refl; rest_fits = fits }, (omega arith, λ v. refl))
compact_takes false version is bytes n rest fits e =
    let t = byte_takes bytes n rest fits e in
    (t.0, (t.1, λ v. absurd (eqb-false version 1 is v)))

compact_again : (one : Bool) (version : ℕ) → eqb version 1 ≡ one → (n : ℕ) (rest : List ℕ) → IsCompact version n → cond one (Some (0, cond one [] (n ∷ []) ++ rest)) (byte_at (cond one [] (n ∷ []) ++ rest)) ≡ Some (n, rest)
compact_again true version is n rest h = ap (λ (m : ℕ). some (m, rest)) (sym (h.1 (eqb-true version 1 is)))
compact_again false version is n rest h = refl

pub reads_compact : (version : ℕ) → Reads (compact_at version) (compact_bytes version) (IsCompact version)
unfolding compact_at
reads_compact version = record { takes = compact_takes (eqb version 1) version refl; again = compact_again (eqb version 1) version refl }
