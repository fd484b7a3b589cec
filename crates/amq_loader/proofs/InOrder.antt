-- Records that are loaded stand in order, each within its file.
use Rattle.std.proofs.Common.{◌≡◌, ◌⊎◌, inl, inr, ℕ, suc, ◌+◌, ◌<◌, ◌≤◌, List, [], ◌∷◌, ◌++◌, map, Contains, All, refl, sym, subst, ◌∙◌, arith}
use Rattle.std.proofs.lemmas.List.Elements.{All-nil, All-cons, All-weaker}
use Rattle.amq_model.specs.declared.record.Placed.{Placed}
use Rattle.amq_model.specs.declared.directory.DataFile.{DataFile}
use Rattle.amq_model.specs.RecordAt.{Spot, whole_len}
use Rattle.amq_model.specs.Scan.{IsScanFrom}
use Rattle.amq_model.specs.Records.{IsBefore}
use Rattle.amq_model.specs.Directory.{FileOf, placed, IsJoined}
use Rattle.amq_model.specs.InFiles.{IsInOne, EndsBefore, NoneOverlap, AreInFiles}
use Rattle.amq_scan.proofs.Scans.{takes_room}
use Rattle.amq_loader.specs.declared.loaded.Loaded.{Loaded}
use Rattle.amq_loader.specs.Loads.{data_file, AreRising, IsLoad}

-- in a file of a greater id, or in this one from a place on
abbrev IsFrom : ℕ → ℕ → Placed → Type 0
IsFrom id place q = (id < q.file) ⊎ ((q.file ≡ id) × (place ≤ q.place))

none_in : (files : List DataFile) → AreInFiles files []
none_in files = record { order = tt; each = All-nil (IsInOne files); apart = tt }

-- the records of one file, and those of others behind it
one_file : (f : FileOf) (files : List DataFile) (fid from : ℕ) (spots : List Spot) (rest : List Placed) → Contains files (data_file f) → 16 ≤ from → IsScanFrom f.bytes fid f.version from spots → All (λ q. f.id < q.file) rest → AreInFiles files rest
    → AreInFiles files (map (placed f.id) spots ++ rest) × All (IsFrom f.id from) (map (placed f.id) spots ++ rest)
one_file f files fid from [] rest has low scan above are = (are, All-weaker (λ q. f.id < q.file) (IsFrom f.id from) (λ q lt. inl lt) rest above)
one_file f files fid from (s ∷ ss) rest has low scan above are =
    let p : Placed = placed f.id s in
    let end : ℕ = s.place + s.len in
    let tail : List Placed = map (placed f.id) ss ++ rest in
    let len : s.len ≡ whole_len f.version s.rec = scan.2.len in
    let some = takes_room f.bytes fid f.version s scan.2 in
    let r = one_file f files fid (s.place + s.len) ss rest has (omega (arith, low, scan.0)) scan.3 above are in (
      record {
        order = (All-weaker (IsFrom f.id (s.place + s.len)) (IsBefore p) (before p (s.place + s.len) refl (omega (arith, some))) (map (placed f.id) ss ++ rest) r.1, r.0.order);
        each = All-cons (IsInOne files) p (map (placed f.id) ss ++ rest) (data_file f, has, record { id = refl; behind = omega (arith, low, scan.0); within = omega (arith, len, scan.2.within) }) r.0.each;
        apart = (All-weaker (IsFrom f.id (s.place + s.len)) (EndsBefore files p) (apart p (s.place + s.len) refl (omega (arith, len))) (map (placed f.id) ss ++ rest) r.1, r.0.apart);
      },
      All-cons (IsFrom f.id from) p (map (placed f.id) ss ++ rest) (inr (refl, scan.0)) (All-weaker (IsFrom f.id (s.place + s.len)) (IsFrom f.id from) (later (s.place + s.len) (omega (arith, scan.0))) (map (placed f.id) ss ++ rest) r.1),
    )
  where
    before : (p : Placed) (end : ℕ) → p.file ≡ f.id → p.place < end → (q : Placed) → IsFrom f.id end q → IsBefore p q
    before p end own lt q (inl above) = inl (omega (arith, own, above))
    before p end own lt q (inr (same, low)) = inr (own ∙ sym same, omega (arith, lt, low))

    apart : (p : Placed) (end : ℕ) → p.file ≡ f.id → p.place + whole_len f.version p.rec ≤ end → (q : Placed) → IsFrom f.id end q → EndsBefore files p q
    apart p end own le q (inl above) = λ same. absurd (omega (arith, own, above, same))
    apart p end own le q (inr (same, low)) = λ e. (data_file f, has, sym own, omega (arith, le, low))

    later : (end : ℕ) → from ≤ end → (q : Placed) → IsFrom f.id end q → IsFrom f.id from q
    later end le q (inl above) = inl above
    later end le q (inr (same, low)) = inr (same, omega (arith, le, low))

-- one file more before them
one_before : (g : DataFile) (files : List DataFile) (l : List Placed) → AreInFiles files l → AreInFiles (g ∷ files) l
one_before g files l are = record {
  order = are.order;
  each = All-weaker (IsInOne files) (IsInOne (g ∷ files)) (λ p one. (one.0, more one.0 one.1, one.2)) l are.each;
  apart = still l are.apart;
} where
  more : (f : DataFile) → Contains files f → Contains (g ∷ files) f
  more f has = (suc has.0, omega (arith, has.1), has.2)

  still : (l : List Placed) → NoneOverlap files l → NoneOverlap (g ∷ files) l
  still [] apart = tt
  still (p ∷ ps) apart = (All-weaker (EndsBefore files p) (EndsBefore (g ∷ files) p) (λ q ends same. (let e = ends same in (e.0, more e.0 e.1, e.2, e.3))) ps apart.0, still ps apart.1)

all_files : (fs : List FileOf) (least : ℕ) (l : List Placed) → AreRising least fs → IsJoined fs l → AreInFiles (map data_file fs) l × All (λ q. least ≤ q.file) l
all_files [] least l rising joined = subst (λ (l : List Placed). AreInFiles [] l × All (λ q. least ≤ q.file) l) (sym joined) (none_in [], All-nil (λ q. least ≤ q.file))
all_files (f ∷ fs) least l rising (spots, scan, rest, more, is) =
    let r = all_files fs (f.id + 1) rest rising.1 more in
    let above : All (λ q. f.id < q.file) rest = All-weaker (λ q. f.id + 1 ≤ q.file) (λ q. f.id < q.file) (λ q le. omega (arith, le)) rest r.1 in
    let one = one_file f (data_file f ∷ map data_file fs) _ 16 spots rest (0, omega arith, refl) (omega arith) scan above (one_before (data_file f) (map data_file fs) rest r.0) in
    subst (λ (l : List Placed). AreInFiles (data_file f ∷ map data_file fs) l × All (λ q. least ≤ q.file) l) (sym is)
    (one.0, All-weaker (IsFrom f.id 16) (λ q. least ≤ q.file) (high (rising.0)) (map (placed f.id) spots ++ rest) one.1)
  where
    high : least ≤ f.id → (q : Placed) → IsFrom f.id 16 q → least ≤ q.file
    high le q (inl lt) = omega (arith, le, lt)
    high le q (inr (same, low)) = omega (arith, le, same)

-- what is loaded
pub load_in_order : (wanted : ℕ) (l : Loaded) → IsLoad wanted l → AreInFiles l.files l.base
load_in_order wanted l load = subst (λ (files : List DataFile). AreInFiles files l.base) (sym load.files) (all_files load.read 0 l.base load.rising load.joined).0
