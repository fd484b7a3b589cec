-- What the pending ranges of a file in memory stand for, and what a crash makes of its bytes.
use Rattle.std.specs.Prelude.{ℕ, ◌+◌, ◌≤◌, List, [], ◌∷◌, length, replicate}
use Rattle.amq_model.specs.Files.{Range, overlaid}
use Rattle.amq_io.specs.declared.pick.Pick.{Pick}
use Rattle.amq_io.specs.declared.pick.Pick.TheVariants.{Keep, Revert, Fill}
use Rattle.amq_io.specs.declared.memory_file.Pending.{Pending}

-- the range that is pending
abbrev pub range_of : Pending → Range
range_of p = (p.place, length p.before.items)

-- each range ends inside a file of that length
abbrev pub AreInside : ℕ → List Pending → Type 0
AreInside len [] = Unit {0}
AreInside len (p ∷ ps) = (p.place + length p.before.items ≤ len) × AreInside len ps

-- the bytes with this pick for one range
abbrev pub picked : Pick → List ℕ → Pending → List ℕ
picked Keep bytes p = bytes
picked Revert bytes p = overlaid bytes p.place p.before.items
picked (Fill fill) bytes p = overlaid bytes p.place (replicate (length p.before.items) fill)

-- the bytes with this pick for the ranges, one after another
abbrev pub all_picked : Pick → List ℕ → List Pending → List ℕ
all_picked pick bytes [] = bytes
all_picked pick bytes (p ∷ ps) = all_picked pick (picked pick bytes p) ps
