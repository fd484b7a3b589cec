-- What a prepared file holds.
use Rattle.std.proofs.Common.{◌≡◌, ℕ, ◌+◌, ◌-◌, ◌^◌, ◌≤◌, List, [], ◌++◌, length, drop, replicate, Option, None, Some, refl, ap, subst, ◌∙◌, arith, length-append, length-drop}
use Rattle.std.proofs.lemmas.List.{length-replicate}
use Rattle.std.proofs.lemmas.List.Elements.{All-nil, All-replicate, All-drop}
use Rattle.amq_model.specs.declared.config.Config.{Config}
use Rattle.amq_model.specs.Configs.{IsConfig}
use Rattle.amq_model.specs.RecordAt.{long, word}
use Rattle.amq_model.specs.Files.{Files, File, Image, Range, IsTorn, IsFileImage, IsImage}
use Rattle.std.specs.FinMap as map
use Rattle.std.proofs.lemmas.Grind.{same_number_lists}
use Rattle.amq_header.specs.Classes.{data_name}
use Rattle.amq_model.specs.Scan.{IsScan}
use Rattle.amq_record.proofs.Lengths.{length_long, length_word}
use Rattle.amq_scan.specs.Written.{IsItem}
use Rattle.amq_scan.proofs.Written.{scan_of_written}
use Rattle.amq_header.specs.Headers.{header_in}
use Rattle.amq_header.proofs.HeaderLaws.{read_again}
use Rattle.amq_pool.specs.Pools.{header_for, file_for}

module _ (config : Config) (id : ℕ) (is : IsConfig config) where
  pub header_long : length (header_for config id) ≡ 16
  header_long = omega (arith, length-append (word 2) (word config.user_version ++ long id), length-append (word config.user_version) (long id), length_word 2, length_word config.user_version, length_long id)

  filling : List ℕ
  filling = drop (0 + length (header_for config id)) (replicate config.file_size 74)

  -- header and filling
  parts : (file_for config id).bytes ≡ header_for config id ++ filling
  unfolding filling
  parts = refl

  pub file_long : length (file_for config id).bytes ≡ config.file_size
  unfolding filling
  file_long = let room = is.file_size_least in omega (arith, ap length parts, length-append (header_for config id) filling, header_long, length-drop {A = ℕ} (0 + length (header_for config id)) (replicate config.file_size 74), length-replicate {A = ℕ} config.file_size 74)

  pub no_record : (fid : ℕ) → IsScan (file_for config id).bytes fid 2 []
  unfolding filling
  no_record fid =
      scan_of_written fid 2 (header_for config id) filling [] header_long (All-nil (IsItem 2))
      (All-drop (λ b. 20 ≤ b) (0 + length (header_for config id)) (replicate config.file_size 74) (All-replicate (λ b. 20 ≤ b) config.file_size 74 (omega arith)))

  pub has_header : id ≤ 2 ^ 31 - 1 → header_in (file_for config id).bytes ≡ Some (record { version = 2; user_version = config.user_version; id = id })
  has_header low =
      let small = is.user_version in
      ap header_in parts ∙ read_again (record { version = 2; user_version = config.user_version; id = id }) filling (record { version = omega arith; user_version = omega arith; id = omega arith })

-- ---- what a crash leaves of it

whole : (old new : List ℕ) → IsTorn [] old new → new ≡ old
whole old new torn = same_number_lists new old torn.len (λ k below. torn.same k (omega (arith, torn.len)) (λ none. none))

left_whole : (file : File) (there : Option File) (found : Option (List ℕ)) → there ≡ Some file → file.pending ≡ [] → IsFileImage there found → found ≡ Some file.bytes
left_whole file None found is settled left = absurd cc
left_whole file (Some f) None is settled left = absurd left
left_whole file (Some f) (Some bytes) is settled left =
    let same : f ≡ file = cc in
    ap Some (whole file.bytes bytes (subst (λ (p : List Range). IsTorn p file.bytes bytes) settled (subst (λ (g : File). IsTorn g.pending g.bytes bytes) same left)))

pub durable : (config : Config) (id : ℕ) (s : Files) (image : Image) → map.get s (data_name id) ≡ Some (file_for config id) → IsImage s image → map.get image (data_name id) ≡ Some (file_for config id).bytes
durable config id s image is left = left_whole (file_for config id) (map.get s (data_name id)) (map.get image (data_name id)) is refl (left (data_name id))
