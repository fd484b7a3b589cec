-- What a list of a directory says.
use Rattle.std.specs.Prelude.{◌≡◌, ℕ, List, map, length}
use Rattle.std.specs.FinMap as finite
use Rattle.amq_model.specs.Files.{FileName, Files}
use Rattle.amq_io.specs.declared.disk.FileInfo.{FileInfo}

-- every file once, ascending by the bytes of its name
abbrev pub IsListed : List FileInfo → Files → Type 0
IsListed infos s = map {B = FileName × ℕ} (λ i. (i.name, i.len)) infos ≡ map {B = FileName × ℕ} (λ e. (e.0, length e.1.bytes)) (finite.entries s)
