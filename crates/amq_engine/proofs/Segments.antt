-- The file in use and prepared files, by the records that their scans find.
use Rattle.std.proofs.Common.{◌≡◌, ℕ, ◌^◌, ◌<◌, Bool, true, false, cond, leb, List, [], ◌++◌, length, take, None, Some, refl, sym, ap, subst, ◌∙◌, arith}
use Rattle.std.specs.Prelude.{IsTrue, All, is_some}
use Rattle.std.proofs.lemmas.Bool.{leb-true}
use Rattle.std.proofs.lemmas.List.Elements.{All-take}
use Rattle.std.proofs.Math.Nat.{mod-eq_of_lt}
use Rattle.amq_model.specs.declared.config.Config.{Config}
use Rattle.amq_model.specs.Configs.{IsConfig}
use Rattle.amq_model.specs.Scan.{IsScan}
use Rattle.amq_model.specs.Names.{is_data, data_number}
use Rattle.amq_model.specs.Files.{FileName, Files}
use Rattle.amq_model.specs.Directory.{file_of}
use Rattle.amq_header.specs.declared.header.Header.{Header}
use Rattle.amq_header.specs.Headers.{header_of, header_in}
use Rattle.amq_header.proofs.HeaderLaws.{read_again}
use Rattle.amq_scan.specs.Written.{Item, IsItem, IsFill, spelled, spots_from, file_bytes}
use Rattle.amq_scan.specs.Segments.{IsSegment}
use Rattle.amq_scan.proofs.Written.{scan_of_written}
use Rattle.amq_pool.specs.declared.pool.PoolFile.{PoolFile}
use Rattle.amq_pool.specs.Pools.{header_for, file_for}
use Rattle.amq_pool.proofs.Contents.{header_long, file_long, no_record, has_header}
use Rattle.amq_engine.specs.Directory.{segment, IsInUse}

-- a name with a number is a data file's
pub number_names : (name : FileName) (n : ℕ) → data_number name ≡ Some n → IsTrue (is_data name)
number_names name n e = ap is_some e

-- the header of a file of this number
abbrev pub head_for : Config → ℕ → Header
head_for config id = record { version = 2; user_version = config.user_version; id = id }

got : (b : Bool) (x y : Header) → cond b (Some x) None ≡ Some y → (b ≡ true) × (x ≡ y)
got true x y e = (refl, cc)
got false x y e = absurd cc

module _ (config : Config) (f : PoolFile) (is : IsConfig config) (named : IsTrue (is_data f.name)) (low : f.id < 2 ^ 31) where
  -- a file of this length with this header, whose scan finds these records
  segment_by : (items : List Item) (bytes : List ℕ) → length bytes ≡ config.file_size → header_in bytes ≡ Some (head_for config f.id) → IsScan bytes f.id 2 (spots_from 2 16 items) → IsSegment config.user_version (segment f items) bytes
  segment_by items bytes size headed scan =
      let g = got (leb 16 (length bytes)) (header_of (file_of [] bytes)) (head_for config f.id) headed in
      let most = is.file_size_most in
      record {
        named = named;
        long = leb-true 16 (length bytes) g.0;
        short = omega (arith, size, most);
        version = ap (λ (h : Header). h.version) g.1;
        user_version = ap (λ (h : Header). h.user_version) g.1;
        id = ap (λ (h : Header). h.id) g.1;
        scan = subst (λ (k : ℕ). IsScan bytes k 2 (spots_from 2 16 items)) (sym (mod-eq_of_lt low)) scan;
      }

  -- a file of these records
  pub written_segment : (items : List Item) (fill : List ℕ) → All (IsItem 2) items → IsFill fill → length (file_bytes 2 f.id (header_for config f.id) items fill) ≡ config.file_size
      → IsSegment config.user_version (segment f items) (file_bytes 2 f.id (header_for config f.id) items fill)
  written_segment items fill are filled size =
      let small = is.user_version in
      segment_by items (file_bytes 2 f.id (header_for config f.id) items fill) size
      (read_again (head_for config f.id) (spelled 2 f.id items ++ fill) (record { version = omega arith; user_version = omega (arith, small); id = omega (arith, low) }))
      (scan_of_written f.id 2 (header_for config f.id) fill items (header_long config f.id is) are filled)

  -- the file in use has the records that it reads
  pub in_use_segment : (sure : ℕ) (items : List Item) → All (IsItem 2) items → (s : Files) (h : IsInUse config f sure items s) → IsSegment config.user_version (segment f (take h.put items)) h.file.bytes
  in_use_segment sure items are s h =
      subst (λ (bytes : List ℕ). IsSegment config.user_version (segment f (take h.put items)) bytes) (sym h.bytes)
      (written_segment (take h.put items) h.fill (All-take (IsItem 2) h.put items are) h.filled (ap length (sym h.bytes) ∙ h.size))

  -- a prepared file has none
  pub prepared_segment : IsSegment config.user_version (segment f []) (file_for config f.id).bytes
  prepared_segment = segment_by [] (file_for config f.id).bytes (file_long config f.id is) (has_header config f.id is (omega (arith, low))) (no_record config f.id is f.id)
