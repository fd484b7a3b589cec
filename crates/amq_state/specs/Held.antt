-- Records that a pass over a list borrows or owns.
use Rattle.std.specs.Prelude.{List, map}
use Rattle.std.specs.Cow.{cow_value}
use Rattle.std.specs.declared.borrow.Cow.{Cow}
use Rattle.amq_model.specs.declared.record.Placed.{Placed}

-- the records, borrowed or owned
abbrev pub held : List (Cow Placed) → List Placed
held cs = map cow_value cs
