-- The files of a directory in the order of their names.
use Rattle.std.specs.Prelude.{◌≡◌, ℕ, zero, suc, Bool, true, false, List, [], ◌∷◌, length}
use Rattle.std.specs.Ordering.{nat_cmp}
use Rattle.std.specs.declared.cmp.Ordering.TheVariants.{Less, Equal, Greater}
use Rattle.std.specs.Cmp.Lexicographic.{slice_cmp}
use Rattle.amq_model.specs.Files.{FileName, File}
use Rattle.amq_io.specs.declared.disk.FileInfo.{FileInfo}

-- what is listed of a file
abbrev pub listed_of : FileInfo → FileName × ℕ
listed_of l = (l.name, l.len)

-- what is to be listed of it
abbrev pub info_of : FileName × File → FileName × ℕ
info_of e = (e.0, length e.1.bytes)

-- where a name stands, or belongs
abbrev pub IsPlace : FileName → List FileInfo → ℕ → Bool → Type 0
IsPlace n [] i found = (i ≡ 0) × (found ≡ false)
IsPlace n (e ∷ es) zero true = slice_cmp nat_cmp n e.name ≡ Equal
IsPlace n (e ∷ es) zero false = slice_cmp nat_cmp n e.name ≡ Less
IsPlace n (e ∷ es) (suc i) found = (slice_cmp nat_cmp n e.name ≡ Greater) × IsPlace n es i found
