-- The directory between the calls that prepare a file.
use Rattle.std.proofs.Common.{◌≡◌, ◌⊎◌, inl, inr, ⊎_elim, ℕ, ◌+◌, ◌≤◌, List, [], ◌∷◌, length, replicate, Option, None, Some, IsSome, refl, sym, ◌∙◌, ap, subst, arith}
use Rattle.std.specs.Prelude.{IfSome, option_map}
use Rattle.std.proofs.lemmas.List.{length-replicate}
use Rattle.std.specs.Prelude.{Result}
use Rattle.amq_io.specs.declared.disk.DiskError.{DiskError}
use Rattle.std.specs.FinMap as map
use Rattle.amq_model.specs.Files.{FileName, Files, File, overlaid, created, written, synced, renamed}
use Rattle.amq_model.specs.Calls.{Call, Past, creating, writing, syncing, renaming, undone, whole, short, absent, fine, noted}
use Rattle.amq_io.specs.Notes.{Notes}
use Rattle.amq_model.specs.Leaves.{Leaves, Within, Exactly}
use Rattle.amq_model.specs.Leaves.{Told, IsThere, IsWithin}
use Rattle.amq_model.proofs.Lookups.{Touches, untouched, get-insert_same, get-changed_same, get-renamed_to, get-renamed_from}
use Rattle.amq_model.proofs.Chain.{began, and_then, told_then, loosely}
use Rattle.amq_io.proofs.Called.{at_last}
use Rattle.amq_pool.specs.Prepare.{prepared_file, Prepares, Prepared, Spares}
use Rattle.amq_pool.specs.Faults.{OnNoMemory}
use Rattle.std.specs.Prelude.{Ok, Err}
use Rattle.amq_model.proofs.Moments.{go_on}
use Rattle.amq_io.proofs.Called.{Ended, called}
use Rattle.amq_io.specs.Faults.{as_error}
use Rattle.amq_io.specs.declared.disk.DiskError.TheVariants as error
use Rattle.amq_io.specs.declared.faults.DiskFault.{DiskFault}
use Rattle.amq_io.specs.declared.faults.DiskFault.TheVariants.{Disk, NoMemory}

module _ (t n : FileName) (len fill : ℕ) (header : List ℕ) (differ : t ≡ n → ⊥) where
  abbrev pub made : Files → Files
  made o = created t len fill o

  abbrev pub headed : Files → Files
  headed o = written t 0 header (made o)

  abbrev pub settled : Files → Files
  settled o = synced t (headed o)

  abbrev pub whole_file : File
  whole_file = prepared_file len fill header

  pub get-made : (o : Files) → map.get (made o) t ≡ Some (record { bytes = replicate len fill; pending = (0, len) ∷ [] })
  get-made o = get-insert_same o t _

  pub get-headed : (o : Files) → map.get (headed o) t ≡ Some (record { bytes = overlaid (replicate len fill) 0 header; pending = (0, length header) ∷ (0, len) ∷ [] })
  get-headed o = get-changed_same t _ (made o) _ (get-made o)

  pub get-settled : (o : Files) → map.get (settled o) t ≡ Some whole_file
  get-settled o = get-changed_same t _ (headed o) _ (get-headed o)

  -- the other files are as they were
  abbrev pub Same : Files → Files → Type 0
  Same o s = (q : FileName) → (q ≡ t → ⊥) → map.get s q ≡ map.get o q

  same-made : (o : Files) → Same o (made o)
  same-made o q ne = untouched (creating t len fill) o _ (inr (inl refl)) q ne

  same-headed : (o : Files) → Same o (headed o)
  same-headed o q ne = untouched (writing t 0 header) (made o) _ (inr (inl refl)) q ne ∙ same-made o q ne

  same-settled : (o : Files) → Same o (settled o)
  same-settled o q ne = untouched (syncing t) (headed o) _ (inr (inl refl)) q ne ∙ same-headed o q ne

  final_differs : n ≡ t → ⊥
  final_differs e = differ (sym e)

  -- while the temporary file alone is changed
  early : (call : Call) → ((q : FileName) → Touches call q → q ≡ t) → (o m s : Files) → Same o m → Within call m s → Prepares t n len fill header o s
  early call only o m s same within = record {
    others = λ q ne me. untouched call m s within q (λ touch. ne (only q touch)) ∙ same q ne;
    final = inl (untouched call m s within n (λ touch. final_differs (only n touch)) ∙ same n final_differs);
  }

  pub while_making : (o s : Files) → Within (creating t len fill) o s → Prepares t n len fill header o s
  while_making o s within = early (creating t len fill) (λ q touch. touch) o o s (λ q ne. refl) within

  pub while_writing : (o s : Files) → Within (writing t 0 header) (made o) s → Prepares t n len fill header o s
  while_writing o s within = early (writing t 0 header) (λ q touch. touch) o (made o) s (same-made o) within

  pub while_syncing : (o s : Files) → Within (syncing t) (headed o) s → Prepares t n len fill header o s
  while_syncing o s within = early (syncing t) (λ q touch. touch) o (headed o) s (same-headed o) within

  final : (o s : Files) → Within (renaming t n) (settled o) s → (map.get s n ≡ map.get o n) ⊎ ((map.get s n ≡ Some whole_file) × (map.get s t ≡ None))
  final o s (inl is) = inl (ap (λ m. map.get m n) is ∙ same-settled o n final_differs)
  final o s (inr (inl is)) = inr (ap (λ m. map.get m n) is ∙ get-renamed_to t n (settled o) whole_file (get-settled o), ap (λ m. map.get m t) is ∙ get-renamed_from t n (settled o) whole_file (get-settled o) differ)
  final o s (inr (inr (undone, is))) = inl (ap (λ m. map.get m n) is ∙ same-settled o n final_differs)
  final o s (inr (inr (whole, is))) = inr (ap (λ m. map.get m n) is ∙ get-renamed_to t n (settled o) whole_file (get-settled o), ap (λ m. map.get m t) is ∙ get-renamed_from t n (settled o) whole_file (get-settled o) differ)
  final o s (inr (inr (short k, is))) = inl (ap (λ m. map.get m n) is ∙ same-settled o n final_differs)
  final o s (inr (inr (absent, is))) = inl (ap (λ m. map.get m n) is ∙ same-settled o n final_differs)

  pub while_renaming : (o s : Files) → Within (renaming t n) (settled o) s → Prepares t n len fill header o s
  while_renaming o s within = record {
    others = λ q ne me. untouched (renaming t n) (settled o) s within q (⊎_elim ne me) ∙ same-settled o q ne;
    final = final o s within;
  }

  pub at_end : (o s : Files) → s ≡ renamed t n (settled o) → Prepared t n len fill header o s
  at_end o s is = record {
    others = λ q ne me. untouched (renaming t n) (settled o) s (inr (inl is)) q (⊎_elim ne me) ∙ same-settled o q ne;
    final = ap (λ m. map.get m n) is ∙ get-renamed_to t n (settled o) whole_file (get-settled o);
    gone = ap (λ m. map.get m t) is ∙ get-renamed_from t n (settled o) whole_file (get-settled o) differ;
  }

  abbrev pub P : Files → Files → Type 0
  P = Prepares t n len fill header

  -- the calls so far
  abbrev pub Noted : Call → Option Past → Option Past → Type 0
  Noted call old new = new ≡ option_map (noted call fine) old

  pub run1 : (a b : Option Past) → Noted (creating t len fill) a b → Leaves P (Exactly made) a b
  run1 a b n1 = and_then P (λ o. o) (creating t len fill) a a b (began P a) n1 while_making

  pub run2 : (a b c : Option Past) → Noted (creating t len fill) a b → Noted (writing t 0 header) b c → Leaves P (Exactly headed) a c
  run2 a b c n1 n2 = and_then P made (writing t 0 header) a b c (run1 a b n1) n2 while_writing

  pub run3 : (a b c d : Option Past) → Noted (creating t len fill) a b → Noted (writing t 0 header) b c → Noted (syncing t) c d → Leaves P (Exactly settled) a d
  run3 a b c d n1 n2 n3 = and_then P headed (syncing t) a c d (run2 a b c n1 n2) n3 while_syncing

  pub run4 : (a b c d e : Option Past) → Noted (creating t len fill) a b → Noted (writing t 0 header) b c → Noted (syncing t) c d → Noted (renaming t n) d e → Leaves P (Prepared t n len fill header) a e
  run4 a b c d e n1 n2 n3 n4 =
      loosely P P (Exactly (λ o. renamed t n (settled o))) (Prepared t n len fill header) a e (λ o s i. i) at_end
      (and_then P settled (renaming t n) a d e (run3 a b c d n1 n2 n3) n4 while_renaming)

  -- the calls so far, of which the last answered anything
  pub try1 : {T : Type 0} (a b : Option Past) (r : Result T DiskError) → Notes (creating t len fill) r a b → Leaves P P a b
  try1 a b r n1 = at_last P (λ o. o) (creating t len fill) r a a b (began P a) n1 while_making

  pub try2 : {T : Type 0} (a b c : Option Past) (r : Result T DiskError) → Noted (creating t len fill) a b → Notes (writing t 0 header) r b c → Leaves P P a c
  try2 a b c r n1 n2 = at_last P made (writing t 0 header) r a b c (run1 a b n1) n2 while_writing

  pub try3 : {T : Type 0} (a b c d : Option Past) (r : Result T DiskError) → Noted (creating t len fill) a b → Noted (writing t 0 header) b c → Notes (syncing t) r c d → Leaves P P a d
  try3 a b c d r n1 n2 n3 = at_last P headed (syncing t) r a c d (run2 a b c n1 n2) n3 while_syncing

  pub try4 : {T : Type 0} (a b c d e : Option Past) (r : Result T DiskError) → Noted (creating t len fill) a b → Noted (writing t 0 header) b c → Noted (syncing t) c d → Notes (renaming t n) r d e → Leaves P P a e
  try4 a b c d e r n1 n2 n3 n4 = at_last P settled (renaming t n) r a d e (run3 a b c d n1 n2 n3) n4 while_renaming

  -- what the calls require
  told_any : (a : Option Past) → Told a (λ o. Unit {0})
  told_any None = tt
  told_any (Some p) = tt

  there : (f : Files → Files) (file : File) → ((o : Files) → map.get (f o) t ≡ Some file) → (a b : Option Past) → Leaves P (Exactly f) a b → Told b (IsThere t)
  there f file get a b so_far = told_then P (Exactly f) (λ o. Unit {0}) (IsThere t) a b (told_any a) (λ o s u is. subst IsSome (sym (ap (λ m. map.get m t) is ∙ get o)) refl) so_far

  pub there1 : (a b : Option Past) → Noted (creating t len fill) a b → Told b (IsThere t)
  there1 a b n1 = there made _ get-made a b (run1 a b n1)

  pub within1 : (a b : Option Past) → length header ≤ len → Noted (creating t len fill) a b → Told b (IsWithin t (0 + length header))
  within1 a b fits n1 =
      let Q : Option File → Type 0 = λ f. IfSome f (λ f. 0 + length header ≤ length f.bytes) in
      told_then P (Exactly made) (λ o. Unit {0}) (IsWithin t (0 + length header)) a b (told_any a) (λ o s u is. subst Q (sym (ap (λ m. map.get m t) is ∙ get-made o)) (omega (arith, fits, length-replicate len fill))) (run1 a b n1)

  pub there2 : (a b c : Option Past) → Noted (creating t len fill) a b → Noted (writing t 0 header) b c → Told c (IsThere t)
  there2 a b c n1 n2 = there headed _ get-headed a c (run2 a b c n1 n2)

  pub there3 : (a b c d : Option Past) → Noted (creating t len fill) a b → Noted (writing t 0 header) b c → Noted (syncing t) c d → Told d (IsThere t)
  there3 a b c d n1 n2 n3 = there settled _ get-settled a d (run3 a b c d n1 n2 n3)

  -- the calls so far, of which the last wanted memory in vain
  no_memory : {T : Type 0} (f : Files → Files) (call : Call) (r : Result T DiskFault) (a b c : Option Past) → ((o : Files) → Same o (f o)) → Leaves P (Exactly f) a b → Notes call (as_error r) b c
      → ((o s : Files) → Within call (f o) s → P o s) → OnNoMemory r (Leaves P (Spares t) a c)
  no_memory f call (Ok x) a b c same so_far notes here = tt
  no_memory f call (Err (Disk k)) a b c same so_far notes here = tt
  no_memory {T = T} f call (Err NoMemory) a b c same so_far notes here =
      go_on {I = P} {J = Within call} {K = P} {E = Exactly f} {F = Ended {T = T} call (Err error.NoMemory)} {G = Spares t} a b c
      (λ o s i. i)
      (λ o m s e w. here o s (subst (λ m. Within call m s) e w))
      (λ o m s e w q ne. ap (λ m. map.get m q) (w ∙ e) ∙ same o q ne)
      so_far (called {T = T} call (Err error.NoMemory) b c notes)

  pub memory1 : {T : Type 0} (a b : Option Past) (r : Result T DiskFault) → Notes (creating t len fill) (as_error r) a b → OnNoMemory r (Leaves P (Spares t) a b)
  memory1 a b r n1 = no_memory (λ o. o) (creating t len fill) r a a b (λ o q ne. refl) (began P a) n1 while_making

  pub memory2 : {T : Type 0} (a b c : Option Past) (r : Result T DiskFault) → Noted (creating t len fill) a b → Notes (writing t 0 header) (as_error r) b c → OnNoMemory r (Leaves P (Spares t) a c)
  memory2 a b c r n1 n2 = no_memory made (writing t 0 header) r a b c same-made (run1 a b n1) n2 while_writing

  pub memory3 : {T : Type 0} (a b c d : Option Past) (r : Result T DiskFault) → Noted (creating t len fill) a b → Noted (writing t 0 header) b c → Notes (syncing t) (as_error r) c d → OnNoMemory r (Leaves P (Spares t) a d)
  memory3 a b c d r n1 n2 n3 = no_memory headed (syncing t) r a c d same-headed (run2 a b c n1 n2) n3 while_syncing

  pub memory4 : {T : Type 0} (a b c d e : Option Past) (r : Result T DiskFault) → Noted (creating t len fill) a b → Noted (writing t 0 header) b c → Noted (syncing t) c d → Notes (renaming t n) (as_error r) d e
      → OnNoMemory r (Leaves P (Spares t) a e)
  memory4 a b c d e r n1 n2 n3 n4 = no_memory settled (renaming t n) r a d e same-settled (run3 a b c d n1 n2 n3) n4 while_renaming
