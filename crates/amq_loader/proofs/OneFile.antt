-- What one file of a directory has.
use Rattle.std.proofs.Common.{◌≡◌, ◌⊎◌, inl, inr, ℕ, ◌<◌, Bool, true, false, cond, leb, List, [], length, Option, None, Some, Ok, Err, refl, sym, ap, subst, ◌∙◌, arith}
use Rattle.std.specs.Prelude.{Result, ◌&&◌, IfSome, IfOk, IsSome, ◌==◌}
use Rattle.std.proofs.lemmas.Bool.{lt-ltb, le-leb}
use Rattle.amq_model.specs.declared.directory.DirFault.{DirFault}
use Rattle.amq_model.specs.declared.directory.DirFault.TheVariants.{TooLong, Version, UserVersion}
use Rattle.amq_model.specs.Files.{Files, File}
use Rattle.amq_model.specs.Names.{is_data}
use Rattle.amq_model.specs.Calls.{Past, content}
use Rattle.amq_model.specs.Leaves.{Leaves, Unchanged, Told, HasBytes, IsThere}
use Rattle.amq_model.specs.Directory.{file_of}
use Rattle.amq_io.specs.Cause.{Faults, NoneFailed}
use Rattle.amq_io.specs.declared.disk.FileInfo.{FileInfo}
use Rattle.amq_loader.specs.declared.faults.LoadFault.{LoadFault}
use Rattle.amq_loader.specs.declared.faults.LoadFault.TheVariants as f
use Rattle.amq_loader.specs.declared.part.Part.{Part}
use Rattle.amq_loader.specs.Causes.{HasCauseBy, IsFaultOr}
use Rattle.amq_loader.specs.Parts.{is_counted, IsFound, IsFaultHere, HasFaultHere, IsListedFile, IsFoundIn, IsFaultIn}
use Rattle.amq_loader.proofs.Chain.{told_back}

pub if_ok : {T E : Type 0} (r : Result T E) (P Q : T → Type 0) → ((x : T) → P x → Q x) → IfOk r P → IfOk r Q
if_ok (Ok x) P Q weaker h = weaker x h
if_ok (Err e) P Q weaker h = tt

not_leb : (n : ℕ) → n < 16 → leb 16 n ≡ false
not_leb n lt = grind arith

and_false : (b : Bool) → (b && false) ≡ false
and_false true = refl
and_false false = refl

not_counted : (name bytes : List ℕ) → (is_data name ≡ false) ⊎ (length bytes < 16) → is_counted name bytes ≡ false
not_counted name bytes (inl e) = ap (λ (b : Bool). leb 16 (length bytes) && b) e ∙ and_false (leb 16 (length bytes))
not_counted name bytes (inr lt) = ap (λ (b : Bool). b && is_data name) (not_leb (length bytes) lt)

has_bytes : (info : FileInfo) (s : Files) (l : IsListedFile info s) → HasBytes info.name l.file.bytes s
has_bytes info s l = subst (λ (o : Option File). IfSome o (λ f. l.file.bytes ≡ f.bytes)) (sym l.there) refl

shorter : (P : Type 0) (a b : ℕ) → a ≡ b → P ⊎ (a < 16) → P ⊎ (b < 16)
shorter P a b e (inl p) = inl p
shorter P a b e (inr lt) = inr (omega (arith, e, lt))

-- no data file, or one that is too short
pub nothing_found : (wanted : ℕ) (info : FileInfo) (past : Option Past) → Told past (IsListedFile info) → (is_data info.name ≡ false) ⊎ (info.len < 16) → IsFoundIn wanted info.name past None
nothing_found wanted info None listed why = record { bytes = []; told = tt; is = refl }
nothing_found wanted info (Some p) listed why = record {
  bytes = listed.file.bytes;
  told = has_bytes info (content p.start p.calls) listed;
  is = not_counted info.name listed.file.bytes (shorter (is_data info.name ≡ false) info.len (length listed.file.bytes) listed.len why);
}

-- a data file that is too long
long_here : (wanted : ℕ) (name bytes : List ℕ) (len : ℕ) (found : DirFault) → len ≡ length bytes → is_data name ≡ true → 268435456 < len → found ≡ TooLong name len → IsFaultHere wanted name bytes found
long_here wanted name bytes len found is named long same = record {
  counts = ap (λ (b : Bool). b && is_data name) (le-leb 16 (length bytes) (omega (arith, is, long))) ∙ named;
  is = ap (λ (b : Bool). cond b (Some (TooLong name (length bytes))) (cond ((file_of name bytes).version == 2) (cond ((file_of name bytes).user_version == wanted) None (Some (UserVersion name (file_of name bytes).user_version wanted))) (Some (Version name (file_of name bytes).version)))) (lt-ltb 268435456 (length bytes) (omega (arith, is, long)))
      ∙ ap (λ (n : ℕ). Some (TooLong name n)) (sym is) ∙ ap Some (sym same);
}

told_long : (wanted : ℕ) (info : FileInfo) (past : Option Past) (found : DirFault) → Told past (IsListedFile info) → is_data info.name ≡ true → 268435456 < info.len → found ≡ TooLong info.name info.len → Told past (IsFaultIn wanted info.name found)
told_long wanted info None found listed named long same = tt
told_long wanted info (Some p) found listed named long same =
    subst (λ (o : Option File). IfSome o (λ f. IsFaultHere wanted info.name f.bytes found)) (sym listed.there) (long_here wanted info.name listed.file.bytes info.len found listed.len named long same)

pub long_cause : (T : Type 0) (wanted : ℕ) (info : FileInfo) (past : Option Past) (e : LoadFault) (a : Faults) → Told past (IsListedFile info) → is_data info.name ≡ true → 268435456 < info.len → IsFaultOr (TooLong info.name info.len) e
    → HasCauseBy {T = T} (λ found. Told past (IsFaultIn wanted info.name found)) ⊥ (Err e) a a
long_cause T wanted info past (f.Directory found) a listed named long is = (told_long wanted info past found listed named long is, omega arith, refl)
long_cause T wanted info past f.NotBuilt a listed named long is = absurd is
long_cause T wanted info past (f.Disk call) a listed named long is = absurd is
long_cause T wanted info past f.NoMemory a listed named long is = (omega arith, refl)

-- a file that was read
told_here : (wanted : ℕ) (info : FileInfo) (past : Option Past) (bytes : List ℕ) (found : DirFault) → Told past (IsListedFile info) → Told past (HasBytes info.name bytes) → IsFaultHere wanted info.name bytes found → Told past (IsFaultIn wanted info.name found)
told_here wanted info None bytes found listed has is = tt
told_here wanted info (Some p) bytes found listed has is =
    let read : bytes ≡ listed.file.bytes = subst (λ (o : Option File). IfSome o (λ f. bytes ≡ f.bytes)) listed.there has in
    subst (λ (o : Option File). IfSome o (λ f. IsFaultHere wanted info.name f.bytes found)) (sym listed.there) (subst (λ (b : List ℕ). IsFaultHere wanted info.name b found) read is)

pub part_cause : {T : Type 0} (wanted : ℕ) (info : FileInfo) (past : Option Past) (bytes : List ℕ) (result : Result T LoadFault) (a b : Faults) → Told past (IsListedFile info) → Told past (HasBytes info.name bytes) → NoneFailed a b
    → HasFaultHere wanted info.name bytes result → HasCauseBy (λ found. Told past (IsFaultIn wanted info.name found)) ⊥ result a b
part_cause wanted info past bytes (Ok x) a b listed has went is = went
part_cause wanted info past bytes (Err (f.Directory found)) a b listed has went is = (told_here wanted info past bytes found listed has is, went.0, went.1)
part_cause wanted info past bytes (Err f.NotBuilt) a b listed has went is = absurd is
part_cause wanted info past bytes (Err (f.Disk call)) a b listed has went is = absurd is
part_cause wanted info past bytes (Err f.NoMemory) a b listed has went is = went

pub part_found : {E : Type 0} (wanted : ℕ) (name bytes : List ℕ) (past : Option Past) (result : Result (Option Part) E) → Told past (HasBytes name bytes) → IfOk result (IsFound wanted name bytes) → IfOk result (IsFoundIn wanted name past)
part_found wanted name bytes past result has found = if_ok result (IsFound wanted name bytes) (IsFoundIn wanted name past) (λ x is. record { bytes = bytes; told = has; is = is }) found

-- what a disk tells later it told before
pub found_back : (wanted : ℕ) (name : List ℕ) (a b : Option Past) (found : Option Part) → Leaves Unchanged Unchanged a b → IsFoundIn wanted name b found → IsFoundIn wanted name a found
found_back wanted name a b found leaves is = record { bytes = is.bytes; told = told_back (HasBytes name is.bytes) a b leaves is.told; is = is.is }

file_there : (info : FileInfo) (s : Files) → IsListedFile info s → IsThere info.name s
file_there info s l = subst IsSome (sym l.there) refl

-- a file that is listed is there to be read
pub told_there : (info : FileInfo) (past : Option Past) → Told past (IsListedFile info) → Told past (IsThere info.name)
told_there info None listed = tt
told_there info (Some p) listed = file_there info (content p.start p.calls) listed
