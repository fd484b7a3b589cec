-- Pools and prepared files, computed.
use Rattle.std.proofs.Common.{◌≡◌, inl, inr, ℕ, List, [], ◌∷◌, replicate, slice_index, codes, Option, Some, None, refl, sym, ap, ◌∙◌, arith}
use Rattle.std.specs.FinMap as map
use Rattle.std.specs.Ordering.{nat_cmp}
use Rattle.std.specs.Cmp.Lexicographic.{slice_cmp}
use Rattle.amq_model.specs.declared.config.Config.{Config}
use Rattle.amq_model.specs.RecordAt.{long, word}
use Rattle.amq_model.specs.Files.{FileName, Files, File}
use Rattle.amq_model.proofs.Lookups.{get-insert_same, get-insert_other}
use Rattle.amq_model.proofs.Literals.{unequal}
use Rattle.amq_pool.specs.Prepare.{prepared_file, Prepares, Prepared, Spares}
use Rattle.amq_pool.specs.Pools.{AscendWithin, numbered_file, with_next, file_for}

abbrev config : Config
config = record { file_size = 64; min_files = 2; pool_files = None; compact_min_files = 10; compact_percentage = 30; buffer_size = 64; buffer_timeout = 3; user_version = 7 }

-- ---- files

pub bytes_of_a_file : (file_for config 2).bytes ≡ 0 ∷ 0 ∷ 0 ∷ 2 ∷ 0 ∷ 0 ∷ 0 ∷ 7 ∷ 0 ∷ 0 ∷ 0 ∷ 0 ∷ 0 ∷ 0 ∷ 0 ∷ 2 ∷ replicate 48 74
unfolding long word
bytes_of_a_file = refl

pub nothing_is_pending : (file_for config 2).pending ≡ []
nothing_is_pending = refl

-- ---- pools

pub two_more : with_next (with_next (record { config = config; highest = 1; prepared = [] })) ≡ record { config = config; highest = 3; prepared = numbered_file 2 ∷ numbered_file 3 ∷ [] }
two_more = refl

pub ids_ascend : AscendWithin 0 (2 ∷ 3 ∷ []) 3
ids_ascend = (omega arith, (omega arith, omega arith))

pub not_in_order : AscendWithin 0 (3 ∷ 2 ∷ []) 3 → ⊥
not_in_order rises = omega (arith, rises.1.0)

pub not_twice : AscendWithin 0 (2 ∷ 2 ∷ []) 3 → ⊥
not_twice rises = omega (arith, rises.1.0)

pub not_above : AscendWithin 0 (2 ∷ 4 ∷ []) 3 → ⊥
not_above rises = omega (arith, rises.1.1)

-- ---- what a preparation leaves

abbrev temporary : FileName
temporary = codes "t"

abbrev name : FileName
name = codes "n"

differ : temporary ≡ name → ⊥
differ e = unequal 116 110 tt (ap (λ l. slice_index l 0) e)

-- a directory with this file alone
abbrev holding : FileName → List ℕ → Files
holding n bytes = map.insert map.empty n (record { bytes = bytes; pending = [] })

abbrev nothing : Files
nothing = map.empty

-- no file is there
empty : (q : FileName) → map.get nothing q ≡ None
empty q = map.get-empty (slice_cmp nat_cmp) q

abbrev whole : File
whole = prepared_file 4 74 (1 ∷ 2 ∷ [])

pub the_file_is_there : Prepared temporary name 4 74 (1 ∷ 2 ∷ []) nothing (holding name (1 ∷ 2 ∷ 74 ∷ 74 ∷ []))
the_file_is_there = record {
  others = λ q ne me. get-insert_other nothing name q whole me;
  final = get-insert_same nothing name whole;
  gone = get-insert_other nothing name temporary whole differ ∙ empty temporary;
}

pub only_the_temporary_file : Prepares temporary name 4 74 (1 ∷ 2 ∷ []) nothing (holding temporary (74 ∷ []))
only_the_temporary_file = record {
  others = λ q ne me. get-insert_other nothing temporary q (record { bytes = 74 ∷ []; pending = [] }) ne;
  final = inl (get-insert_other nothing temporary name (record { bytes = 74 ∷ []; pending = [] }) (λ e. differ (sym e)));
}

none_there : (f : File) (o : Option File) → o ≡ Some f → o ≡ None → ⊥
none_there f o is none = cc

other_file : (f g : File) (o : Option File) → o ≡ Some f → o ≡ Some g → f ≡ g
other_file f g o is found = cc

pub not_without_its_header : Prepares temporary name 4 74 (1 ∷ 2 ∷ []) nothing (holding name (74 ∷ 74 ∷ 74 ∷ 74 ∷ [])) → ⊥
not_without_its_header p =
    let half : File = record { bytes = 74 ∷ 74 ∷ 74 ∷ 74 ∷ []; pending = [] } in
    let is = get-insert_same nothing name half in
    elim p.final [
      | inl e ↦ none_there half (map.get (map.insert nothing name half) name) is (e ∙ empty name)
      | inr e ↦ unequal 74 1 tt (ap (λ (f : File). slice_index f.bytes 0) (other_file half whole (map.get (map.insert nothing name half) name) is e.0))
    ]

pub not_another_file : Prepares temporary name 4 74 (1 ∷ 2 ∷ []) nothing (holding (codes "x") []) → ⊥
not_another_file p =
    let file : File = record { bytes = []; pending = [] } in
    none_there file (map.get (map.insert nothing (codes "x") file) (codes "x")) (get-insert_same nothing (codes "x") file)
    (p.others (codes "x") (λ e. unequal 120 116 tt (ap (λ l. slice_index l 0) e)) (λ e. unequal 120 110 tt (ap (λ l. slice_index l 0) e)) ∙ empty (codes "x"))

pub not_spared : Spares temporary nothing (holding name (1 ∷ 2 ∷ 74 ∷ 74 ∷ [])) → ⊥
not_spared p = none_there whole (map.get (map.insert nothing name whole) name) (get-insert_same nothing name whole) (p name (λ e. differ (sym e)) ∙ empty name)
