use Rattle.std.proofs.Common.{List, ℕ, map, subst, Vec, Global}
use Rattle.std.specs.Prelude.{IfOk}
use Rattle.amq_model.specs.Files.{FileName}
use Rattle.amq_io.specs.MemoryDisk.{content_of, HoldsFiles}
use Rattle.amq_io.proofs.memory_disk.MemoryDisk.new.Goals as goal

pub returns-clause-none : goal.returns-clause-none
returns-clause-none c =
    let P : List (FileName × Vec ℕ Global) → Type 0 = λ l. IfOk c.of_files.result (λ d. HoldsFiles (map (λ e. (e.0, e.1.items)) l) (content_of d)) in
    subst P c.new.ensures.items c.of_files.ensures.holds
