-- The directory between the calls that put bytes.
use Rattle.std.proofs.Common.{◌≡◌, ◌⊎◌, inl, inr, ℕ, ◌+◌, ◌<◌, ◌≤◌, List, [], ◌∷◌, ◌++◌, length, take, drop, Option, None, Some, IsSome, refl, sym, ◌∙◌, ap, subst, arith, length-append, length-drop}
use Rattle.std.proofs.lemmas.List.{length-take-le}
use Rattle.std.specs.Prelude.{option_map, Result}
use Rattle.std.specs.FinMap as map
use Rattle.amq_model.specs.Files.{FileName, Files, File, IsPending, Range, overlaid, written, synced}
use Rattle.amq_model.specs.Calls.{Call, Past, writing, syncing, undone, whole, short, absent, fine, noted}
use Rattle.amq_io.specs.Notes.{Notes}
use Rattle.amq_model.specs.Leaves.{Leaves, Within, Exactly}
use Rattle.amq_model.specs.Leaves.{Told, IsThere}
use Rattle.amq_io.specs.declared.disk.DiskError.{DiskError}
use Rattle.amq_model.proofs.Lookups.{untouched, get-changed_same}
use Rattle.amq_model.proofs.Chain.{began, and_then, told_then, loosely}
use Rattle.amq_io.proofs.Called.{at_last}
use Rattle.amq_engine.specs.Puts.{IsPutting, Puts, Put}

module _ (old : List ℕ) (place : ℕ) (bytes : List ℕ) (fits : place + length bytes ≤ length old) where
  pub length-overlaid : length (overlaid old place bytes) ≡ length old
  length-overlaid = omega (arith, length-append (take place old ++ bytes) (drop (place + length bytes) old), length-append (take place old) bytes, length-take-le place old (omega arith), length-drop (place + length bytes) old)

pending_more : (place len : ℕ) (pending : List Range) (i : ℕ) → IsPending ((place, len) ∷ pending) i → IsPending pending i ⊎ ((place ≤ i) × (i < place + len))
pending_more place len pending i (inl here) = inr here
pending_more place len pending i (inr there) = inl there

module _ (n : FileName) (place : ℕ) (bytes : List ℕ) where
  same : (f : File) → IsPutting place bytes f f
  same f = record { reads = inl refl; pending = λ i p. inl p }

  put_whole : (f : File) → IsPutting place bytes f (record { bytes = overlaid f.bytes place bytes; pending = (place, length bytes) ∷ f.pending })
  put_whole f = record { reads = inr refl; pending = pending_more place (length bytes) f.pending }

  settled : (f : File) → IsPutting place bytes f (record { bytes = overlaid f.bytes place bytes; pending = [] })
  settled f = record { reads = inr refl; pending = λ i none. absurd none }

  pended : (f : File) → IsPutting place bytes f (record { bytes = f.bytes; pending = (place, length bytes) ∷ f.pending })
  pended f = record { reads = inl refl; pending = pending_more place (length bytes) f.pending }

  abbrev pub wrote : Files → Files
  wrote o = written n place bytes o

  get-wrote : (o : Files) (old : File) → map.get o n ≡ Some old → map.get (wrote o) n ≡ Some (record { bytes = overlaid old.bytes place bytes; pending = (place, length bytes) ∷ old.pending })
  get-wrote o old is = get-changed_same n _ o old is

  abbrev Found : Files → File → Type 0
  Found s old = (new : File) × (map.get s n ≡ Some new) × IsPutting place bytes old new

  writes_this : (o s : Files) → Within (writing n place bytes) o s → (old : File) → map.get o n ≡ Some old → Found s old
  writes_this o s (inl is) old here = (old, ap (λ m. map.get m n) is ∙ here, same old)
  writes_this o s (inr (inl is)) old here = (_, ap (λ m. map.get m n) is ∙ get-wrote o old here, put_whole old)
  writes_this o s (inr (inr (undone, is))) old here = (_, ap (λ m. map.get m n) is ∙ get-changed_same n _ o old here, pended old)
  writes_this o s (inr (inr (whole, is))) old here = (_, ap (λ m. map.get m n) is ∙ get-wrote o old here, put_whole old)
  writes_this o s (inr (inr (short k, is))) old here = (_, ap (λ m. map.get m n) is ∙ get-changed_same n _ o old here, pended old)
  writes_this o s (inr (inr (absent, is))) old here = (_, ap (λ m. map.get m n) is ∙ get-changed_same n _ o old here, pended old)

  syncs_this : (o s : Files) → Within (syncing n) (wrote o) s → (old : File) → map.get o n ≡ Some old → Found s old
  syncs_this o s (inl is) old here = (_, ap (λ m. map.get m n) is ∙ get-wrote o old here, put_whole old)
  syncs_this o s (inr (inl is)) old here = (_, ap (λ m. map.get m n) is ∙ get-changed_same n _ (wrote o) _ (get-wrote o old here), settled old)
  syncs_this o s (inr (inr is)) old here = (_, ap (λ m. map.get m n) is.1 ∙ get-wrote o old here, put_whole old)

  abbrev pub P : Files → Files → Type 0
  P = Puts n place bytes

  while_writing : (o s : Files) → Within (writing n place bytes) o s → P o s
  while_writing o s within = record { others = λ q ne. untouched (writing n place bytes) o s within q ne; this = writes_this o s within }

  while_syncing : (o s : Files) → Within (syncing n) (wrote o) s → P o s
  while_syncing o s within = record { others = λ q ne. untouched (syncing n) (wrote o) s within q ne ∙ untouched (writing n place bytes) o _ (inr (inl refl)) q ne; this = syncs_this o s within }

  at_end : (o s : Files) → s ≡ synced n (wrote o) → Put n place bytes o s
  at_end o s is = record { others = λ q ne. untouched (syncing n) (wrote o) s (inr (inl is)) q ne ∙ untouched (writing n place bytes) o _ (inr (inl refl)) q ne; this = λ old here. ap (λ m. map.get m n) is ∙ get-changed_same n _ (wrote o) _ (get-wrote o old here) }

  abbrev Noted : Call → Option Past → Option Past → Type 0
  Noted call old new = new ≡ option_map (noted call fine) old

  run1 : (a b : Option Past) → Noted (writing n place bytes) a b → Leaves P (Exactly wrote) a b
  run1 a b n1 = and_then P (λ o. o) (writing n place bytes) a a b (began P a) n1 while_writing

  pub run2 : (a b c : Option Past) → Noted (writing n place bytes) a b → Noted (syncing n) b c → Leaves P (Put n place bytes) a c
  run2 a b c n1 n2 =
      loosely P P (Exactly (λ o. synced n (wrote o))) (Put n place bytes) a c (λ o s i. i) at_end
      (and_then P wrote (syncing n) a b c (run1 a b n1) n2 while_syncing)

  pub try1 : {T : Type 0} (a b : Option Past) (r : Result T DiskError) → Notes (writing n place bytes) r a b → Leaves P P a b
  try1 a b r n1 = at_last P (λ o. o) (writing n place bytes) r a a b (began P a) n1 while_writing

  pub try2 : {T : Type 0} (a b c : Option Past) (r : Result T DiskError) → Noted (writing n place bytes) a b → Notes (syncing n) r b c → Leaves P P a c
  try2 a b c r n1 n2 = at_last P wrote (syncing n) r a b c (run1 a b n1) n2 while_syncing

  still_there : (o : Files) (found : Option File) → map.get o n ≡ found → IsSome found → IsSome (map.get (wrote o) n)
  still_there o None is some = absurd (nothing some)
    where
      nothing : IsSome {T = File} None → ⊥
      nothing e = cc
  still_there o (Some old) is some = subst IsSome (sym (get-wrote o old is)) refl

  pub there1 : (a b : Option Past) → Told a (IsThere n) → Noted (writing n place bytes) a b → Told b (IsThere n)
  there1 a b was n1 =
      told_then P (Exactly wrote) (IsThere n) (IsThere n) a b was (λ o s some is. subst (IsThere n) (sym is) (still_there o (map.get o n) refl some)) (run1 a b n1)
