-- The files that a crash leaves of the entries of a disk in memory.
use Rattle.std.specs.Prelude.{◌≡◌, ℕ, List, [], ◌∷◌, Vec}
use Rattle.std.proofs.Common.{Global}
use Rattle.amq_model.specs.Files.{FileName}
use Rattle.amq_io.specs.Torn.{IsTornBy}
use Rattle.amq_io.specs.declared.pick.Pick.{Pick}
use Rattle.amq_io.specs.declared.entries.Entry.{Entry}

-- each file is left of an entry, one by one
abbrev pub AreTorn : Pick → List Entry → List (FileName × Vec ℕ Global) → Type 0
AreTorn pick [] [] = Unit {0}
AreTorn pick [] (n ∷ ns) = ⊥
AreTorn pick (o ∷ os) [] = ⊥
AreTorn pick (o ∷ os) (n ∷ ns) = (n.0 ≡ o.name) × IsTornBy pick o.file.read o.file.synced n.1.items × AreTorn pick os ns
