-- The calls of prints by their statuses, computed.
use Rattle.std.proofs.Common.{◌≡◌, ℕ, List, [], ◌∷◌, map, codes, refl, sym, ap, ◌∙◌}
use Rattle.amq_model.specs.Files.{FileName, Files}
use Rattle.amq_model.specs.Calls.{Call, Event, listing, reading, fine}
use Rattle.amq_model.specs.LoadCalls.{listed, names_among}
use Rattle.amq_cli.specs.declared.status.Status.TheVariants as s
use Rattle.amq_cli.specs.declared.status.Unbuilt.TheVariants as u
use Rattle.amq_cli.specs.Offline.{HasPrintCalls}

abbrev event : Call → ℕ → Event
event call before = record { call = call; outcome = fine; before = before }

abbrev one : FileName
one = codes "activemq-data-1.amq"

-- the directory has one data file, and one of another name
module _ (before : Files) (is : listed before ≡ (one, 20) ∷ (codes "notes.txt", 20) ∷ []) where
  calls : listing ∷ reading one ∷ [] ≡ listing ∷ map reading (names_among (listed before))
  calls = ap (λ (l : List (FileName × ℕ)). listing ∷ map reading (names_among l)) (sym is)

  pub a_report : HasPrintCalls s.Ok before (event (reading one) 1 ∷ event listing 0 ∷ [])
  a_report = calls

  pub notes_are_read : HasPrintCalls s.Ok before (event (reading (codes "notes.txt")) 2 ∷ event (reading one) 1 ∷ event listing 0 ∷ []) → ⊥
  notes_are_read h =
      let e : listing ∷ reading one ∷ reading (codes "notes.txt") ∷ [] ≡ listing ∷ reading one ∷ [] = h ∙ sym calls in
      absurd (cc)

  pub a_read_failed : HasPrintCalls s.DiskFault before (event (reading one) 1 ∷ event listing 0 ∷ [])
  a_read_failed = ([], calls)

pub beside_a_control_file : (before : Files) → HasPrintCalls (s.NotBuilt u.Directory) before (event listing 0 ∷ [])
beside_a_control_file before = refl

pub a_source_is_none : (before : Files) → HasPrintCalls s.SourceFault before [] → ⊥
a_source_is_none before h = h
