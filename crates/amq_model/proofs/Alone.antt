-- A directory of one file.
use Rattle.std.proofs.Common.{◌≡◌, ℕ, ◌+◌, ◌^◌, ◌≤◌, Bool, true, false, cond, ltb, leb, List, [], ◌∷◌, length, take, drop, Option, None, Some, refl, sym, ap, subst, ◌∙◌, arith}
use Rattle.std.specs.Prelude.{IsTrue, ◌%◌, map as map_of}
use Rattle.std.specs.Int.{w32, w64, from_be_bytes}
use Rattle.std.specs.Ordering.{eq_by_cmp, nat_cmp}
use Rattle.std.specs.Cmp.Lexicographic.{slice_cmp}
use Rattle.std.specs.FinMap as map
use Rattle.std.proofs.lemmas.Cmp.{nat_list_cmp_total}
use Rattle.std.proofs.lemmas.Bool.{eq-eqb, false≢true}
use Rattle.std.proofs.lemmas.List.{take-take, drop-take, append-nil, length-take}
use Rattle.amq_model.specs.declared.directory.DirFault.{DirFault}
use Rattle.amq_model.specs.RecordAt.{Spot}
use Rattle.amq_model.specs.Scan.{IsScan}
use Rattle.amq_model.specs.Effect.{result_of}
use Rattle.amq_model.specs.Files.{FileName, Image}
use Rattle.amq_model.proofs.Lookups.{same_self, same_true}
use Rattle.amq_model.specs.Names.{same, is_data, control_name}
use Rattle.amq_model.specs.Directory.{FileOf, file_of, files_by_name, data_files, fault_of, fault, first_of_them, shared, by_id, SaysControl, IsJoined, Loads, placed}

-- the header of a data file
pub record IsHeader (header : List ℕ) (fid wanted : ℕ) : Type 0 where
  pub size : length header ≡ 16
  pub version : from_be_bytes w32 (take 4 header) ≡ 2
  pub user_version : from_be_bytes w32 (take 4 (drop 4 header)) ≡ wanted
  pub id : from_be_bytes w64 (take 8 (drop 8 header)) ≡ fid
  pub low : fid % 2 ^ 31 ≡ fid

-- the entries of a directory with one name
pub alone : (n : FileName) (bytes : List ℕ) (image : Image) → map.get image n ≡ Some bytes → ((q : FileName) → (q ≡ n → ⊥) → map.get image q ≡ None) → map.entries image ≡ (n, bytes) ∷ []
alone n bytes image there others =
    let es : List (FileName × List ℕ) = (n, bytes) ∷ [] in
    let one : Image = map.from_sorted es in
    ap map.entries (map.same_map nat_list_cmp_total (map.slice_cmp-IsAntisymmetric map.nat_cmp-IsAntisymmetric) image one (λ q. by q (eq_by_cmp (slice_cmp nat_cmp) q n) refl ∙ sym (map.get-from_sorted (slice_cmp nat_cmp) es q tt))) ∙ map.entries-from_sorted (slice_cmp nat_cmp) es tt
  where
    by : (q : FileName) (b : Bool) → eq_by_cmp (slice_cmp nat_cmp) q n ≡ b → map.get image q ≡ map.find (slice_cmp nat_cmp) q ((n, bytes) ∷ [])
    by q true is = ap (map.get image) (same_true q n is) ∙ there ∙ sym (ap (λ (b : Bool). cond b (Some bytes) None) is)
    by q false is = others q (λ e. false≢true (sym is ∙ ap (λ q. eq_by_cmp (slice_cmp nat_cmp) q n) e ∙ same_self n)) ∙ sym (ap (λ (b : Bool). cond b (Some bytes) None) is)

leb_true : (a b : ℕ) → a ≤ b → leb a b ≡ true
leb_true a b le = grind arith

ltb_false : (a b : ℕ) → b ≤ a → ltb a b ≡ false
ltb_false a b le = grind arith

module _ (name header bytes : List ℕ) (fid wanted : ℕ) (is : IsTrue (is_data name)) (headed : IsHeader header fid wanted) (front : take 16 bytes ≡ header) (short : length bytes ≤ 268435456) where
  pub long : 16 ≤ length bytes
  long = omega (arith, ap length front, headed.size, length-take 16 bytes)

  -- the one file counts
  pub files : files_by_name ((name, bytes) ∷ []) None ≡ file_of name bytes ∷ []
  files = rw (leb_true 16 (length bytes) long, is) refl

  pub part : (n m : ℕ) → n + m ≤ 16 → take m (drop n bytes) ≡ take m (drop n header)
  part n m le = sym (drop-take n m bytes) ∙ ap (drop n) (sym (take-take (n + m) 16 bytes le) ∙ ap (take (n + m)) front) ∙ drop-take n m header

  pub version : from_be_bytes w32 (take 4 bytes) ≡ 2
  version = ap (from_be_bytes w32) (part 0 4 (omega arith)) ∙ headed.version

  pub user_version : from_be_bytes w32 (take 4 (drop 4 bytes)) ≡ wanted
  user_version = ap (from_be_bytes w32) (part 4 4 (omega arith)) ∙ headed.user_version

  pub id : from_be_bytes w64 (take 8 (drop 8 bytes)) ≡ fid
  id = ap (from_be_bytes w64) (part 8 8 (omega arith)) ∙ headed.id

  pub no_fault : fault_of wanted (file_of name bytes) ≡ None
  no_fault = rw (ltb_false 268435456 (length bytes) short, eq-eqb _ _ version, eq-eqb _ _ user_version) refl

  none : fault ((name, bytes) ∷ []) None wanted ≡ None
  none = ap (λ (fs : List FileOf). first_of_them (fault_of wanted) fs (shared (by_id fs))) files ∙ ap (λ (o : Option DirFault). elim o [ Some y ↦ Some y | None ↦ None ]) no_fault

  joined : (spots : List Spot) → IsScan bytes fid 2 spots → IsJoined (data_files ((name, bytes) ∷ []) None) (map_of (placed fid) spots)
  joined spots scan =
      let low : from_be_bytes w64 (take 8 (drop 8 bytes)) % 2 ^ 31 ≡ fid = ap (λ (n : ℕ). n % 2 ^ 31) id ∙ headed.low in
      let one : IsJoined (file_of name bytes ∷ []) (map_of (placed fid) spots) = (
        spots,
        subst (λ (v : ℕ). IsScan bytes (from_be_bytes w64 (take 8 (drop 8 bytes)) % 2 ^ 31) v spots) (sym version) (subst (λ (k : ℕ). IsScan bytes k 2 spots) (sym low) scan),
        [],
        refl,
        ap (λ (k : ℕ). map_of (placed k) spots) (sym id) ∙ sym (append-nil (map_of (placed (from_be_bytes w64 (take 8 (drop 8 bytes)))) spots)),
      ) in
      subst (λ (fs : List FileOf). IsJoined (by_id fs) (map_of (placed fid) spots)) (sym files) one

  -- no control file is there
  pub uncontrolled : same name control_name ≡ false → SaysControl ((name, bytes) ∷ []) None
  uncontrolled other found control there is = absurd (let e : None ≡ Some found = sym (ap (λ (b : Bool). cond b (Some bytes) None) other) ∙ there in cc)

  pub loads_it : same name control_name ≡ false → (spots : List Spot) → IsScan bytes fid 2 spots → Loads ((name, bytes) ∷ []) wanted (result_of (map_of (placed fid) spots))
  loads_it other spots scan = record {
    control = None;
    records = map_of (placed fid) spots;
    read = record { says = uncontrolled other; joined = joined spots scan };
    sound = none;
    is = refl;
  }

pub one_loads : (name header bytes : List ℕ) (fid wanted : ℕ) (spots : List Spot) → IsTrue (is_data name) → same name control_name ≡ false → IsHeader header fid wanted → take 16 bytes ≡ header → length bytes ≤ 268435456 → IsScan bytes fid 2 spots
    → Loads ((name, bytes) ∷ []) wanted (result_of (map_of (placed fid) spots))
one_loads name header bytes fid wanted spots is other headed front short scan = loads_it name header bytes fid wanted is headed front short other spots scan
