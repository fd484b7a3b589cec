-- Which data files calls leave, and which files they leave alone.
use Rattle.std.proofs.Common.{◌≡◌, ◌⊎◌, inl, inr, ⊎_elim, ℕ, zero, suc, ◌+◌, ◌-◌, ◌^◌, ◌<◌, ◌≤◌, Bool, true, false, cond, leb, List, [], ◌∷◌, ◌++◌, length, take, drop, Option, None, Some, IsSome, refl, sym, ap, subst, ◌∙◌, arith}
use Rattle.std.specs.Prelude.{IsTrue, IfSome, is_some, Result, Ok, Err, OnOk, OnErr, ◌&&◌}
use Rattle.std.specs.Int.{w64, from_be_bytes}
use Rattle.std.specs.FinMap as finite
use Rattle.std.proofs.lemmas.Bool.{cases_lt}
use Rattle.std.proofs.lemmas.List.{take-append-le, take-take, drop-take, length-append, length-take-le}
use Rattle.amq_model.specs.declared.config.Config.{Config}
use Rattle.amq_model.specs.Configs.{IsConfig}
use Rattle.amq_model.specs.Names.{is_data}
use Rattle.amq_model.specs.Directory.{file_of}
use Rattle.amq_model.specs.Files.{FileName, File, Files, overlaid}
use Rattle.amq_model.specs.Calls.{Past, content}
use Rattle.amq_model.specs.Leaves.{Leaves, Told, IsThere, IsWithin, SparesAllBut}
use Rattle.amq_model.proofs.Chain.{loosely}
use Rattle.amq_model.proofs.Moments.{go_on, still}
use Rattle.amq_header.specs.Classes.{data_name, temporary_name}
use Rattle.amq_header.specs.Headers.{header_of}
use Rattle.amq_header.specs.declared.header.Header.{Header}
use Rattle.amq_header.proofs.Made.{data_is_read, data_differ}
use Rattle.amq_pool.specs.Pools.{PoolOf, file_for, Making, Made}
use Rattle.amq_pool.proofs.Contents.{file_long, has_header}
use Rattle.amq_engine.specs.Puts.{Puts}
use Rattle.amq_engine.specs.DataFiles.{id_and_length, data_file_at, HasSameFiles, HasFilesMade, IsPreparing, IsUsedOrNew, Works, Worked, WorkedTo}
use Rattle.amq_engine.specs.Engine.{is_nil, with_files}
use Rattle.amq_engine.proofs.Putting.{length-overlaid}
use Rattle.amq_engine.proofs.Segments.{head_for}
use Rattle.amq_engine.proofs.Standing.{same_or_not, temporary_apart}

pub on_ok : {T E : Type 0} (r : Result T E) (P : Type 0) → P → OnOk r P
on_ok (Ok x) P p = p
on_ok (Err e) P p = tt

pub on_err : {T E : Type 0} (r : Result T E) (P : Type 0) → P → OnErr r P
on_err (Ok x) P p = tt
on_err (Err e) P p = p

-- ---- the data files that are told

-- the same directory, file by file of a data file's name
pub files_by : (o s : Files) (n : FileName) → (IsTrue (is_data n) → finite.get s n ≡ finite.get o n) → data_file_at n s ≡ data_file_at n o
files_by o s n same = by (is_data n) same where
  by : (b : Bool) → (IsTrue b → finite.get s n ≡ finite.get o n) → cond b (id_and_length (finite.get s n)) None ≡ cond b (id_and_length (finite.get o n)) None
  by true same = ap id_and_length (same refl)
  by false same = refl

pub same_made : (size first : ℕ) (o s : Files) → HasSameFiles o s → HasFilesMade size first first o s
same_made size first o s same = record {
  made = λ k above below. absurd (omega (arith, above, below));
  others = λ n out. same n;
}

made_then : (size a b c : ℕ) (o m s : Files) → a ≤ b → b ≤ c → c < 2 ^ 63 → HasFilesMade size a b o m → HasFilesMade size b c m s → HasFilesMade size a c o s
made_then size a b c o m s ab bc low one two = record {
  made = λ k above below. ⊎_elim
      (λ (late : b < k). two.made k late below)
      (λ (early : k ≤ b). two.others (data_name k) (λ is. absurd (omega (arith, early, is.1, data_differ k is.0 (omega (arith, below, low)) (omega (arith, is.2, low)) is.3))) ∙ one.made k above early)
      (cases_lt b k);
  others = λ n out. two.others n (λ is. out (is.0, omega (arith, ab, is.1), is.2, is.3)) ∙ one.others n (λ is. out (is.0, is.1, omega (arith, bc, is.2), is.3));
}

-- ---- bytes are put

head_kept : (old : List ℕ) (place : ℕ) (bytes : List ℕ) → 16 ≤ place → place ≤ length old → take 16 (overlaid old place bytes) ≡ take 16 old
head_kept old place bytes from fits =
    let long : length (take place old) ≡ place = length-take-le place old fits in
    take-append-le 16 (take place old ++ bytes) (drop (place + length bytes) old) (omega (arith, length-append (take place old) bytes, long, from))
    ∙ take-append-le 16 (take place old) bytes (omega (arith, long, from))
    ∙ take-take 16 place old from

id_kept : (a b : List ℕ) → take 16 a ≡ take 16 b → take 8 (drop 8 a) ≡ take 8 (drop 8 b)
id_kept a b is = sym (drop-take 8 8 a) ∙ ap (drop 8) is ∙ drop-take 8 8 b

pub info_by : (a b : List ℕ) → length a ≡ length b → take 16 a ≡ take 16 b
    → cond {A = Option (ℕ × ℕ)} (leb 16 (length a)) (Some (from_be_bytes w64 (take 8 (drop 8 a)), length a)) None ≡ cond {A = Option (ℕ × ℕ)} (leb 16 (length b)) (Some (from_be_bytes w64 (take 8 (drop 8 b)), length b)) None
info_by a b long head =
    ap (λ (k : ℕ). cond {A = Option (ℕ × ℕ)} (leb 16 k) (Some (from_be_bytes w64 (take 8 (drop 8 a)), k)) None) long
    ∙ ap (λ (l : List ℕ). cond {A = Option (ℕ × ℕ)} (leb 16 (length b)) (Some (from_be_bytes w64 l, length b)) None) (id_kept a b head)

put_same : (n : FileName) (place : ℕ) (bytes : List ℕ) (o s : Files) → 16 ≤ place → IsThere n o → IsWithin n (place + length bytes) o → Puts n place bytes o s → HasSameFiles o s
put_same n place bytes o s from there within puts q = files (same_or_not q n) where
  one : (f : Option File) → finite.get o n ≡ f → IsSome f → IfSome f (λ f. place + length bytes ≤ length f.bytes) → id_and_length (finite.get s n) ≡ id_and_length f
  one None is some fits = absurd cc
  one (Some old) is some fits =
      let new = puts.this old is in
      ap id_and_length new.1 ∙ ⊎_elim
      (λ same. info_by new.0.bytes old.bytes (ap length same) (ap (take 16) same))
      (λ over. info_by new.0.bytes old.bytes (ap length over ∙ length-overlaid old.bytes place bytes fits) (ap (take 16) over ∙ head_kept old.bytes place bytes from (omega (arith, fits)))) new.2.reads

  files : (q ≡ n) ⊎ (q ≡ n → ⊥) → data_file_at q s ≡ data_file_at q o
  files (inr ne) = files_by o s q (λ plain. puts.others q ne)
  files (inl e) =
      let here : id_and_length (finite.get s n) ≡ id_and_length (finite.get o n) = one (finite.get o n) refl there within in
      let there_too : id_and_length (finite.get s q) ≡ id_and_length (finite.get o q) = ap (λ (m : FileName). id_and_length (finite.get s m)) e ∙ here ∙ sym (ap (λ (m : FileName). id_and_length (finite.get o m)) e) in
      ap (λ (x : Option (ℕ × ℕ)). cond (is_data q) x None) there_too

-- ---- a file is prepared

got : (b : Bool) (x y : Header) → cond b (Some x) None ≡ Some y → (b ≡ true) × (x ≡ y)
got true x y e = (refl, cc)
got false x y e = absurd cc

-- what the bytes of a file with this header say
info_of : (id size : ℕ) (bytes : List ℕ) (h : Header) → length bytes ≡ size → h.id ≡ id → cond (leb 16 (length bytes)) (Some (header_of (file_of [] bytes))) None ≡ Some h
    → cond {A = Option (ℕ × ℕ)} (leb 16 (length bytes)) (Some (from_be_bytes w64 (take 8 (drop 8 bytes)), length bytes)) None ≡ Some (id, size)
info_of id size bytes h long is headed =
    let g = got (leb 16 (length bytes)) (header_of (file_of [] bytes)) h headed in
    let same : from_be_bytes w64 (take 8 (drop 8 bytes)) ≡ id = ap (λ (x : Header). x.id) g.1 ∙ is in
    ap (λ (b : Bool). cond {A = Option (ℕ × ℕ)} b (Some (from_be_bytes w64 (take 8 (drop 8 bytes)), length bytes)) None) g.0
    ∙ ap (λ (k : ℕ). Some (k, length bytes)) same ∙ ap (λ (k : ℕ). Some (id, k)) long

is_data_name : (k : ℕ) → k < 2 ^ 63 → is_data (data_name k) ≡ true
is_data_name k low = ap is_some (data_is_read k low)

pub there_made : (config : Config) (id : ℕ) (s : Files) → IsConfig config → id ≤ 2 ^ 31 - 1 → finite.get s (data_name id) ≡ Some (file_for config id) → data_file_at (data_name id) s ≡ Some (id, config.file_size)
there_made config id s is low there =
    ap (λ (b : Bool). cond b (id_and_length (finite.get s (data_name id))) None) (is_data_name id (omega (arith, low)))
    ∙ ap id_and_length there
    ∙ info_of id config.file_size (file_for config id).bytes (head_for config id) (file_long config id is) refl (has_header config id is low)

module _ (config : Config) (highest : ℕ) (is : IsConfig config) (low : highest < 2 ^ 31 - 1) where
  others_same : (o s : Files) → ((n : FileName) → (n ≡ temporary_name (highest + 1) → ⊥) → (n ≡ data_name (highest + 1) → ⊥) → finite.get s n ≡ finite.get o n) → (n : FileName) → (n ≡ data_name (highest + 1) → ⊥) → data_file_at n s ≡ data_file_at n o
  others_same o s others n ne = files_by o s n (λ plain. others n (temporary_apart (highest + 1) n (inl plain)) ne)

  next_made : (o s : Files) → ((n : FileName) → (n ≡ temporary_name (highest + 1) → ⊥) → (n ≡ data_name (highest + 1) → ⊥) → finite.get s n ≡ finite.get o n) → finite.get s (data_name (highest + 1)) ≡ Some (file_for config (highest + 1)) → HasFilesMade config.file_size highest (highest + 1) o s
  next_made o s others there = record {
    made = λ k above below.
        let same : k ≡ highest + 1 = omega (arith, above, below) in
        subst (λ (j : ℕ). data_file_at (data_name j) s ≡ Some (j, config.file_size)) (sym same) (there_made config (highest + 1) s is (omega (arith, low)) there);
    others = λ n out. others_same o s others n (λ e. out (highest + 1, omega arith, omega arith, e));
  }

  pub made_made : (o s : Files) → Made config (highest + 1) o s → HasFilesMade config.file_size highest (highest + 1) o s
  made_made o s made = next_made o s made.others made.final

  pub making_made : (o s : Files) → Making config (highest + 1) o s → HasSameFiles o s ⊎ HasFilesMade config.file_size highest (highest + 1) o s
  making_made o s making = ⊎_elim (λ same. inl (unchanged same)) (λ new. inr (next_made o s making.others new.0)) making.final where
    unchanged : finite.get s (data_name (highest + 1)) ≡ finite.get o (data_name (highest + 1)) → HasSameFiles o s
    unchanged same n = by (same_or_not n (data_name (highest + 1))) where
      by : (n ≡ data_name (highest + 1)) ⊎ (n ≡ data_name (highest + 1) → ⊥) → data_file_at n s ≡ data_file_at n o
      by (inl e) = files_by o s n (λ plain. ap (finite.get s) e ∙ same ∙ sym (ap (finite.get o) e))
      by (inr ne) = others_same o s making.others n ne

-- ---- from call to call

pub told_two : (I E : Files → Files → Type 0) (R Q : Files → Files → Type 0) (a b : Option Past) (P : Files → Type 0) → Told a P → ((o s : Files) → P o → E o s → Q o s) → Leaves I E a b → Told a (λ o. Told b (Q o))
told_two I E R Q None b P was step went = tt
told_two I E R Q (Some p) b P was step went = subst (λ (h : Option Past). Told h (Q (content p.start p.calls))) (sym went.1) (step _ _ was went.2.told)

pub told_chain : (I E J F : Files → Files → Type 0) (R S T : Files → Files → Type 0) (a b c : Option Past) → ((o m s : Files) → R o m → S m s → T o s) → Leaves I E a b → Leaves J F b c → Told a (λ o. Told b (R o)) → Told b (λ m. Told c (S m)) → Told a (λ o. Told c (T o))
told_chain I E J F R S T None b c both one two r s = tt
told_chain I E J F R S T (Some p) b c both one two r s = at_b one.0 one.1 two r s where
  at_c : (q : Past) (d : Past) → c ≡ Some d → R (content p.start p.calls) (content q.start q.calls) → Told c (S (content q.start q.calls)) → Told c (T (content p.start p.calls))
  at_c q d is r s = subst (λ (h : Option Past). Told h (T (content p.start p.calls))) (sym is) (both _ _ _ r (subst (λ (h : Option Past). Told h (S (content q.start q.calls))) is s))

  at_b : (q : Past) → b ≡ Some q → Leaves J F b c → Told b (R (content p.start p.calls)) → Told b (λ m. Told c (S m)) → Told c (T (content p.start p.calls))
  at_b q is two r s =
      let went : Leaves J F (Some q) c = subst (λ (h : Option Past). Leaves J F h c) is two in
      at_c q went.0 went.1 (subst (λ (h : Option Past). Told h (R (content p.start p.calls))) is r) (subst (λ (h : Option Past). Told h (λ m. Told c (S m))) is s)

-- nothing was called
told_still : (R : Files → Files → Type 0) (a : Option Past) → ((s : Files) → R s s) → Told a (λ o. Told a (R o))
told_still R None same = tt
told_still R (Some p) same = same (content p.start p.calls)

pub works_still : (Keeps : Files → Files → Type 0) (size first : ℕ) (a : Option Past) → ((s : Files) → Keeps s s) → Works Keeps size first first a a
works_still Keeps size first a same = record {
  keeps = still Keeps Keeps a same;
  files = told_still (HasFilesMade size first first) a (λ s. same_made size first s s (λ n. refl));
}

pub works_then : (J K L : Files → Files → Type 0) (size a b c : ℕ) (x y z : Option Past) → ((o s : Files) → J o s → L o s) → ((o m s : Files) → J o m → K m s → L o s) → a ≤ b → b ≤ c → c < 2 ^ 63 → Works J size a b x y → Works K size b c y z → Works L size a c x z
works_then J K L size a b c x y z first both ab bc low one two = record {
  keeps = go_on {I = J} {J = K} {K = L} {E = J} {F = K} {G = L} x y z first both both one.keeps two.keeps;
  files = told_chain J J K K (HasFilesMade size a b) (HasFilesMade size b c) (HasFilesMade size a c) x y z (λ o m s r t. made_then size a b c o m s ab bc low r t) one.keeps two.keeps one.files two.files;
}

pub works_wider : (J K : Files → Files → Type 0) (size a b : ℕ) (x y : Option Past) → ((o s : Files) → J o s → K o s) → Works J size a b x y → Works K size a b x y
works_wider J K size a b x y wider w = record { keeps = loosely J K J K x y wider wider w.keeps; files = w.files }

-- all files but these, and then all but those
pub spares_wider : (A B : FileName → Type 0) → ((n : FileName) → A n → B n) → (o s : Files) → SparesAllBut A o s → SparesAllBut B o s
spares_wider A B in_both o s spares n out = spares n (λ a. out (in_both n a))

pub spares_then : (A B C : FileName → Type 0) → ((n : FileName) → A n → C n) → ((n : FileName) → B n → C n) → (o m s : Files) → SparesAllBut A o m → SparesAllBut B m s → SparesAllBut C o s
spares_then A B C a b o m s one two n out = two n (λ i. out (b n i)) ∙ one n (λ i. out (a n i))

-- numbers from further on
pub preparing_from : (a b c d : ℕ) → a ≤ b → c ≤ d → (n : FileName) → IsPreparing b c n → IsPreparing a d n
preparing_from a b c d low high n p = (p.0, omega (arith, low, p.1), omega (arith, high, p.2), p.3)

-- bytes that were put, wherever that ended
pub puts_works : (n : FileName) (place : ℕ) (bytes : List ℕ) (size first : ℕ) (a b : Option Past) → 16 ≤ place → Told a (IsThere n) → Told a (IsWithin n (place + length bytes)) → Leaves (Puts n place bytes) (Puts n place bytes) a b → Works (SparesAllBut (λ m. m ≡ n)) size first first a b
puts_works n place bytes size first a b from there within went = record {
  keeps = loosely P K P K a b spared spared went;
  files = told_two P P (HasFilesMade size first first) (HasFilesMade size first first) a b (λ s. IsThere n s × IsWithin n (place + length bytes) s) (both a there within)
      (λ o s was puts. same_made size first o s (put_same n place bytes o s from was.0 was.1 puts)) went;
}
  where
    P : Files → Files → Type 0
    P = Puts n place bytes

    K : Files → Files → Type 0
    K = SparesAllBut (λ m. m ≡ n)

    spared : (o s : Files) → P o s → K o s
    spared o s puts m out = puts.others m out

    both : (h : Option Past) → Told h (IsThere n) → Told h (IsWithin n (place + length bytes)) → Told h (λ s. IsThere n s × IsWithin n (place + length bytes) s)
    both None p q = tt
    both (Some h) p q = (p, q)

module _ (config : Config) (highest : ℕ) (is : IsConfig config) (low : highest < 2 ^ 31 - 1) (a b : Option Past) where
  abbrev I : Files → Files → Type 0
  I = Making config (highest + 1)

  abbrev Keeps : Files → Files → Type 0
  Keeps = SparesAllBut (IsPreparing (highest + 1) (highest + 1))

  spared : (o s : Files) → I o s → Keeps o s
  spared o s making n out = making.others n (λ e. out (highest + 1, omega arith, omega arith, inr e)) (λ e. out (highest + 1, omega arith, omega arith, inl e))

  spared_made : (o s : Files) → Made config (highest + 1) o s → Keeps o s
  spared_made o s making n out = making.others n (λ e. out (highest + 1, omega arith, omega arith, inr e)) (λ e. out (highest + 1, omega arith, omega arith, inl e))

  -- the file is prepared
  pub made_works : Leaves I (Made config (highest + 1)) a b → Works Keeps config.file_size highest (highest + 1) a b
  made_works went = record {
    keeps = loosely I Keeps (Made config (highest + 1)) Keeps a b spared spared_made went;
    files = told_two I (Made config (highest + 1)) (HasFilesMade config.file_size highest (highest + 1)) (HasFilesMade config.file_size highest (highest + 1)) a b (λ s. Unit {0}) (trivial a) (λ o s was made. made_made config highest is low o s made) went;
  }
    where
      trivial : (h : Option Past) → Told h (λ s. Unit {0})
      trivial None = tt
      trivial (Some h) = tt

  pub made_worked : (done : Bool) → Leaves I (Made config (highest + 1)) a b → Worked done Keeps config.file_size highest (highest + 1) a b
  made_worked done went = record { last = highest + 1; least = omega arith; within = omega arith; near = omega arith; all = λ is. refl; works = made_works went }

  -- it may be
  pub making_worked : Leaves I I a b → Worked false Keeps config.file_size highest (highest + 1) a b
  making_worked went = by a went where
    kept : (h : Option Past) → Leaves I I h b → Leaves Keeps Keeps h b
    kept h went = loosely I Keeps I Keeps h b spared spared went

    by : (h : Option Past) → Leaves I I h b → Worked false Keeps config.file_size highest (highest + 1) h b
    by None went = record { last = highest; least = omega arith; within = omega arith; near = omega arith; all = λ is. absurd cc; works = record { keeps = kept None went; files = tt } }
    by (Some p) went = ⊎_elim
        (λ same. record {
          last = highest;
          least = omega arith;
          within = omega arith;
          near = omega arith;
          all = λ is. absurd cc;
          works = record { keeps = kept (Some p) went; files = at (HasFilesMade config.file_size highest highest (content p.start p.calls)) (same_made config.file_size highest _ _ same) };
        })
        (λ made. record {
          last = highest + 1;
          least = omega arith;
          within = omega arith;
          near = omega arith;
          all = λ is. absurd cc;
          works = record { keeps = kept (Some p) went; files = at (HasFilesMade config.file_size highest (highest + 1) (content p.start p.calls)) made };
        })
        (making_made config highest is low (content p.start p.calls) (content went.0.start went.0.calls) went.2.told)
      where
        at : (Q : Files → Type 0) → Q (content went.0.start went.0.calls) → Told b Q
        at Q q = subst (λ (h : Option Past). Told h Q) (sym went.1) q

-- ---- up to a number

pub works_worked : (done : Bool) (J K : Files → Files → Type 0) (size a b : ℕ) (x y : Option Past) → ((o s : Files) → J o s → K o s) → a ≤ b → Works J size a b x y → Worked done K size a b x y
works_worked done J K size a b x y wider le w = record { last = b; least = le; within = omega arith; near = omega arith; all = λ is. refl; works = works_wider J K size a b x y wider w }

-- nothing was made
pub unworked : (J K : Files → Files → Type 0) (size a most : ℕ) (x y : Option Past) → ((o s : Files) → J o s → K o s) → a ≤ most → most ≤ a + 1 → Works J size a a x y → Worked false K size a most x y
unworked J K size a most x y wider le near w = record { last = a; least = omega arith; within = le; near = near; all = λ is. absurd cc; works = works_wider J K size a a x y wider w }

pub worked_works : (K : Files → Files → Type 0) (size a b : ℕ) (x y : Option Past) → Worked true K size a b x y → Works K size a b x y
worked_works K size a b x y w = subst (λ (n : ℕ). Works K size a n x y) (w.all refl) w.works

unfoldable pub worked_wider : (done : Bool) (J K : Files → Files → Type 0) (size a b : ℕ) (x y : Option Past) → ((o s : Files) → J o s → K o s) → Worked done J size a b x y → Worked done K size a b x y
worked_wider done J K size a b x y wider w = record { last = w.last; least = w.least; within = w.within; near = w.near; all = w.all; works = works_wider J K size a w.last x y wider w.works }

unfoldable pub worked_then : (done : Bool) (J K L : Files → Files → Type 0) (size a b c : ℕ) (x y z : Option Past) → ((o s : Files) → J o s → L o s) → ((o m s : Files) → J o m → K m s → L o s) → c < 2 ^ 63 → a ≤ b → Works J size a b x y → Worked done K size b c y z → Worked done L size a c x z
worked_then done J K L size a b c x y z first both low ab one two = record {
  last = two.last;
  least = omega (arith, ab, two.least);
  within = two.within;
  near = two.near;
  all = two.all;
  works = works_then J K L size a b two.last x y z first both ab two.least (omega (arith, low, two.within)) one two.works;
}

-- a further file is made, or not
pub most_by : (b : Bool) (h : ℕ) → (h ≤ cond b (h + 1) h) × (cond b (h + 1) h ≤ h + 1)
most_by true h = (omega arith, omega arith)
most_by false h = (omega arith, omega arith)

pub nil_by : {A : Type 0} (fs : List A) → length fs ≡ 0 → is_nil fs ≡ true
nil_by [] none = refl
nil_by (f ∷ fs) none = absurd (omega (arith, none))

pub some_by : {A : Type 0} (fs : List A) → (length fs ≡ 0 → ⊥) → is_nil fs ≡ false
some_by [] some = absurd (some refl)
some_by (f ∷ fs) some = refl

-- ---- the journal goes on

module _ (used : FileName) (size h : ℕ) (x y z : Option Past) (wrote : Works (SparesAllBut (λ n. n ≡ used)) size h h x y) where
  abbrev KeepsUsed : ℕ → Files → Files → Type 0
  KeepsUsed most = SparesAllBut (IsUsedOrNew used (h + 1) most)

  used_wider : (most : ℕ) (o s : Files) → SparesAllBut (λ n. n ≡ used) o s → KeepsUsed most o s
  used_wider most o s spares n out = spares n (λ e. out (inl e))

  -- what waited is written out, or it isn't
  pub wrote_first : (b : Bool) → Worked false (KeepsUsed (cond b (h + 1) h)) size h (cond b (h + 1) h) x y
  wrote_first b = unworked (SparesAllBut (λ n. n ≡ used)) (KeepsUsed (cond b (h + 1) h)) size h (cond b (h + 1) h) x y (used_wider (cond b (h + 1) h)) (most_by b h).0 (most_by b h).1 wrote

  pub wrote_only : (done : Bool) → Worked done (KeepsUsed h) size h h x y
  wrote_only done = works_worked done (SparesAllBut (λ n. n ≡ used)) (KeepsUsed h) size h h x y (used_wider h) (omega arith) wrote

  -- and then a file was prepared, or it wasn't
  pub wrote_then : (done : Bool) → h < 2 ^ 31 - 1 → Worked done (SparesAllBut (IsPreparing (h + 1) (h + 1))) size h (h + 1) y z → Worked done (KeepsUsed (h + 1)) size h (h + 1) x z
  wrote_then done low made =
      worked_then done (SparesAllBut (λ n. n ≡ used)) (SparesAllBut (IsPreparing (h + 1) (h + 1))) (KeepsUsed (h + 1)) size h h (h + 1) x y z (used_wider (h + 1))
      (spares_then (λ n. n ≡ used) (IsPreparing (h + 1) (h + 1)) (IsUsedOrNew used (h + 1) (h + 1)) (λ n e. inl e) (λ n p. inr p)) (omega (arith, low)) (omega arith) wrote made

-- ---- up to a number, from call to call

pub with_files_config : (n : ℕ) (p : PoolOf) → (with_files n p).config ≡ p.config
with_files_config zero p = refl
with_files_config (suc n) p = with_files_config n p

pub to_still : (done : Bool) (size from first : ℕ) (a : Option Past) → first ≤ 2 ^ 31 - 1 → WorkedTo done size from first first a a
to_still done size from first a low =
    let K : Files → Files → Type 0 = SparesAllBut (IsPreparing from first) in
    let w = works_worked done K K size first first a a (λ o s same. same) (omega arith) (works_still K size first a (λ s n out. refl)) in
    record { most = first; limit = low; all = λ is. refl; next = omega arith; worked = w; least = w.least }

pub to_then : (done : Bool) (size from first mid further most reached : ℕ) (x y z : Option Past) → from ≤ further → mid ≤ most → most ≤ 2 ^ 31 - 1 → (done ≡ true → most ≡ reached) → most ≤ reached + 1 → WorkedTo true size from first mid x y → (two : Worked done (SparesAllBut (IsPreparing further most)) size mid most y z) → reached ≤ two.last → WorkedTo done size from first reached x z
unfolding worked_then
to_then done size from first mid further most reached x y z low on high to next one two least =
    let J : Files → Files → Type 0 = SparesAllBut (IsPreparing from mid) in
    let one_is : Works J size first mid x y = subst (λ (n : ℕ). Works (SparesAllBut (IsPreparing from n)) size first n x y) (one.all refl) (worked_works (SparesAllBut (IsPreparing from one.most)) size first one.most x y one.worked) in
    let begun : first ≤ mid = omega (arith, one.worked.least, one.worked.within, one.all refl) in
    record {
      most = most;
      limit = high;
      all = to;
      next = next;
      worked = worked_then done J (SparesAllBut (IsPreparing further most)) (SparesAllBut (IsPreparing from most)) size first mid most x y z
          (spares_wider (IsPreparing from mid) (IsPreparing from most) (preparing_from from from mid most (omega arith) on))
          (spares_then (IsPreparing from mid) (IsPreparing further most) (IsPreparing from most) (preparing_from from from mid most (omega arith) on) (preparing_from from further most most low (omega arith))) (omega (arith, high)) begun one_is two;
      least = least;
    }

pub nil_files : {A : Type 0} (fs : List A) → is_nil fs ≡ true → fs ≡ []
nil_files [] is = refl
nil_files (f ∷ fs) is = absurd cc

pub none_by : {A : Type 0} (o : Option A) → is_some o ≡ false → o ≡ None
none_by None is = refl
none_by (Some x) is = absurd cc

-- a further file may be made, whose number is left
pub most_limit : (m : Bool) (p : PoolOf) → p.highest ≤ 2 ^ 31 - 1 → (m ≡ true → p.prepared ≡ [] → p.highest < 2 ^ 31 - 1) → cond (m && is_nil p.prepared) (p.highest + 1) p.highest ≤ 2 ^ 31 - 1
most_limit false p low left = low
most_limit true p low left = by (is_nil p.prepared) refl where
  by : (b : Bool) → is_nil p.prepared ≡ b → cond b (p.highest + 1) p.highest ≤ 2 ^ 31 - 1
  by true e = omega (arith, left refl (nil_files p.prepared e))
  by false e = low
