-- The control file of a compaction: what is one, and what isn't.
use Rattle.std.proofs.Common.{◌≡◌, ℕ, zero, suc, ◌+◌, ◌-◌, ◌%◌, ◌≤◌, true, false, T, eqb, not, IsTrue, List, [], ◌∷◌, ◌++◌, length, take, drop, slice_index, All, Contains, codes, refl, sym, ap, ◌∙◌, mod-eq_of_lt, eq-or-lt_of_le, ⊎_elim, get_or-drop, arith}
use Rattle.std.specs.List.{list_all}
use Rattle.amq_model.specs.declared.record.Record.TheVariants.{Add}
use Rattle.amq_model.specs.declared.directory.Control.{Control}
use Rattle.amq_model.specs.RecordAt.{Spot, RecordAt, long, word, len_of, spelling}
use Rattle.amq_model.specs.Scan.{IsScan, IsScanFrom}
use Rattle.amq_model.specs.Names.{is_data, is_compacted, compacted}
use Rattle.amq_model.specs.ControlFile.{IsControl, control_body}
use Rattle.amq_model.proofs.Literals.{one, other, are_bytes, unequal, read_at, at_least}

abbrev control : Control
control = record { olds = codes "activemq-data-1.amq" ∷ codes "activemq-data-2.amq" ∷ []; news = codes "activemq-data-3.amq.cmp" ∷ [] }

abbrev header : List ℕ
header = 0 ∷ 0 ∷ 0 ∷ 2 ∷ 0 ∷ 0 ∷ 0 ∷ 0 ∷ 0 ∷ 0 ∷ 0 ∷ 0 ∷ 0 ∷ 0 ∷ 0 ∷ 0 ∷ []

-- the record's bytes before its body, with the length of the body
abbrev front : ℕ → List ℕ
front len = 0x0b ∷ 0 ∷ 0 ∷ 0 ∷ 0 ∷ 0 ∷ 0 ∷ 0 ∷ 0 ∷ 0 ∷ 0 ∷ 0 ∷ 0 ∷ 1 ∷ 0 ∷ 0 ∷ 0 ∷ len ∷ 0 ∷ []

-- the two old names, the new name and no renames, each list with its count and each name with its length
abbrev body : List ℕ
body = 0 ∷ 0 ∷ 0 ∷ 2 ∷ 0 ∷ 0x13 ∷ codes "activemq-data-1.amq" ++ 0 ∷ 0x13 ∷ codes "activemq-data-2.amq" ++ 0 ∷ 0 ∷ 0 ∷ 1 ∷ 0 ∷ 0x17 ∷ codes "activemq-data-3.amq.cmp" ++ 0 ∷ 0 ∷ 0 ∷ 0 ∷ []

abbrev eight : List ℕ
eight = 0 ∷ 0 ∷ 0 ∷ 0 ∷ 0 ∷ 0 ∷ 0 ∷ 0 ∷ []

-- the whole file
abbrev file : List ℕ
file = header ++ front 0x4f ++ body ++ 0 ∷ 0 ∷ 0 ∷ 0x66 ∷ []

-- the same with eight bytes behind the count of renames
abbrev longer : List ℕ
longer = header ++ front 0x57 ++ body ++ eight ++ 0 ∷ 0 ∷ 0 ∷ 0x6e ∷ []

pub the_file_has_118_bytes : length file ≡ 118
the_file_has_118_bytes = refl

pub its_body_is_that_of_its_names : control_body control ≡ body
unfolding word
its_body_is_that_of_its_names = refl

-- ---- a file that is one record

whole_file : (bytes : List ℕ) (s : Spot) → s.place ≡ 16 → length bytes ≡ 16 + s.len → RecordAt bytes 0 2 s → IsScan bytes 0 2 (s ∷ [])
whole_file bytes s first ends at = (omega arith, λ p low high. absurd (omega arith), at, none) where
  none : IsScanFrom bytes 0 2 (s.place + s.len) []
  none p low other is found = let size = at_least other.rec in let len = found.len in let within = found.within in omega arith

data_names : All (λ name. IsTrue (is_data name)) control.olds
data_names zero d h = refl
data_names (suc zero) d h = refl
data_names (suc (suc k)) d h = absurd (omega arith)

compacted_names : All (λ name. IsTrue (is_compacted name)) control.news
compacted_names zero d h = refl
compacted_names (suc k) d h = absurd (omega arith)

apart : All (λ name. Contains control.news (compacted name) → ⊥) control.olds
apart zero d h = of_the_first where
  of_the_first : Contains control.news (codes "activemq-data-1.amq.cmp") → ⊥
  of_the_first (zero, below, e) = unequal 0x33 0x31 tt (ap (λ l. slice_index l 14) e)
  of_the_first (suc k, below, e) = omega arith
apart (suc zero) d h = of_the_second where
  of_the_second : Contains control.news (codes "activemq-data-2.amq.cmp") → ⊥
  of_the_second (zero, below, e) = unequal 0x33 0x32 tt (ap (λ l. slice_index l 14) e)
  of_the_second (suc k, below, e) = omega arith
apart (suc (suc k)) d h = absurd (omega arith)

abbrev spot : ℕ → List ℕ → Spot
spot len body = record { place = 16; len = len; compact = 0; rec = Add 1 0 body }

pub is_a_control_file : IsControl file control
unfolding long word
is_a_control_file = record {
  whole = omega arith;
  version = refl;
  id = refl;
  spot = spot 102 body;
  others = [];
  scan = whole_file file (spot 102 body) refl refl (record {
    values = (omega arith, omega arith, record { short = omega arith; bytes = are_bytes body tt });
    compact = (omega arith, λ e. refl);
    len = refl;
    within = omega arith;
    spelled = refl;
  });
  more = [];
  first = refl;
  olds = data_names;
  news = compacted_names;
  apart = apart;
}

pub with_bytes_behind : IsControl longer control
unfolding long word
with_bytes_behind = record {
  whole = omega arith;
  version = refl;
  id = refl;
  spot = spot 110 (body ++ eight);
  others = [];
  scan = whole_file longer (spot 110 (body ++ eight)) refl refl (record {
    values = (omega arith, omega arith, record { short = omega arith; bytes = are_bytes (body ++ eight) tt });
    compact = (omega arith, λ e. refl);
    len = refl;
    within = omega arith;
    spelled = refl;
  });
  more = eight;
  first = refl;
  olds = data_names;
  news = compacted_names;
  apart = apart;
}

-- ---- no control file

-- a number that isn't among literal bytes
stands_nowhere : (b : ℕ) (bytes : List ℕ) → T (not (eqb 0 b)) → T (list_all (λ x. not (eqb x b)) bytes) → (i : ℕ) → slice_index bytes i ≡ b → ⊥
stands_nowhere b [] none all i e = unequal 0 b none e
stands_nowhere b (x ∷ bytes) none all zero e = unequal x b (one _ _ all) e
stands_nowhere b (x ∷ bytes) none all (suc i) e = stands_nowhere b bytes none (other _ _ all) i e

-- the last byte is missing
abbrev cut : List ℕ
cut = take 117 file

-- an ADD begins at place 16 alone, and there its body is too long
no_add : (s : Spot) (b : List ℕ) → s.rec ≡ Add 1 0 b → 16 ≤ s.place → RecordAt cut 0 2 s → ⊥
unfolding long word
no_add s b is low at =
    let size : s.len ≡ 23 + length b = at.len ∙ ap len_of is in
    let within : s.place + s.len ≤ 117 = at.within in
    let kind : slice_index cut (s.place + 0) ≡ 11 = read_at cut 0 s 0 (omega arith) at ∙ ap (λ r. slice_index (spelling 2 0 s.compact r) 0) is in
    let lowest : slice_index cut (s.place + 17) ≡ length b % 256 = read_at cut 0 s 17 (omega arith) at ∙ ap (λ r. slice_index (spelling 2 0 s.compact r) 17) is in
    let fits : length b % 256 ≡ length b = mod-eq_of_lt (omega arith) in
    ⊎_elim
    (λ e. let far : slice_index cut (s.place + 17) ≡ 79 = ap (λ p. slice_index cut (p + 17)) (sym e) in let same : 79 ≡ length b = sym far ∙ lowest ∙ fits in omega arith)
    (λ e. let place : 17 + (s.place - 17) ≡ s.place + 0 = omega arith in stands_nowhere 11 (drop 17 cut) tt tt (s.place - 17) (get_or-drop 17 cut (s.place - 17) 0 ∙ ap (λ p. slice_index cut p) place ∙ kind))
    (eq-or-lt_of_le low)

pub cut_by_a_byte : (c : Control) → IsControl cut c → ⊥
cut_by_a_byte c h = no_add h.spot (control_body c ++ h.more) h.first h.scan.0 h.scan.2

pub nothing : (c : Control) → IsControl [] c → ⊥
nothing c h = let e : 16 ≤ 0 = h.whole in omega arith

pub of_another_version : (c : Control) → IsControl (0 ∷ 0 ∷ 0 ∷ 1 ∷ drop 4 file) c → ⊥
unfolding word
of_another_version c h = unequal 1 2 tt (ap (λ l. slice_index l 3) h.version)

pub of_another_id : (c : Control) → IsControl (take 15 file ++ 1 ∷ drop 16 file) c → ⊥
unfolding long
of_another_id c h = unequal 1 0 tt (ap (λ l. slice_index l 7) h.id)

-- an old name that a packed file would take
pub an_old_name_is_taken : (bytes : List ℕ) → IsControl bytes (record { olds = codes "activemq-data-1.amq" ∷ []; news = codes "activemq-data-1.amq.cmp" ∷ [] }) → ⊥
an_old_name_is_taken bytes h = h.apart 0 [] (omega arith) (0, omega arith, refl)

pub an_old_name_of_no_data_file : (bytes : List ℕ) → IsControl bytes (record { olds = codes "notes.txt" ∷ []; news = [] }) → ⊥
an_old_name_of_no_data_file bytes h = let e : false ≡ true = h.olds 0 [] (omega arith) in absurd cc

pub a_new_name_of_no_compacted_file : (bytes : List ℕ) → IsControl bytes (record { olds = []; news = codes "activemq-data-1.amq" ∷ [] }) → ⊥
a_new_name_of_no_compacted_file bytes h = let e : false ≡ true = h.news 0 [] (omega arith) in absurd cc
