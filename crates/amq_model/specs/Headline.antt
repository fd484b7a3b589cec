-- The headline: what loading gives of everything that a crash may leave of a journal.
use Rattle.std.specs.Prelude.{◌≡◌, ℕ, List, ◌++◌, Option, None}
use Rattle.std.specs.FinMap as finite
use Rattle.amq_model.specs.declared.record.Placed.{Placed}
use Rattle.amq_model.specs.Effect.{result_of}
use Rattle.amq_model.specs.Directory.{Loads}
use Rattle.amq_model.specs.Files.{Image}
use Rattle.amq_model.specs.Names.{control_name}
use Rattle.amq_model.specs.Calls.{Past}
use Rattle.amq_model.specs.Crash.{NoFalseRecord}
use Rattle.amq_model.specs.Kept.{IsKept}
use Rattle.amq_model.specs.Leaves.{LeftSince}

-- The image has no fault and no control file, and loading it gives the result of the base and then what is kept of the history: its first `durable` records, some later ones in order, and no transaction in part.
pub record LoadsKept (base history : List Placed) (durable wanted : ℕ) (image : Image) : Type 0 where
  pub kept : List Placed
  pub is : IsKept base history durable kept
  pub uncontrolled : finite.get image control_name ≡ None
  pub loads : Loads (finite.entries image) wanted (result_of (base ++ kept))

-- Whatever a crash since the moment t may leave loads so, if no false record is found in it.
abbrev pub RecoversSince : Option Past → ℕ → ℕ → List Placed → List Placed → ℕ → Type 0
RecoversSince past t wanted base history durable = LeftSince past t (λ reading image. NoFalseRecord reading image → LoadsKept base history durable wanted image)
