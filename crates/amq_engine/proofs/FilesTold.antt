-- What a call of an engine says of the data files, from what it did.
use Rattle.std.proofs.Common.{◌≡◌, ◌⊎◌, inl, inr, ⊎_elim, ℕ, ◌+◌, ◌^◌, ◌<◌, ◌≤◌, Bool, true, false, cond, List, [], ◌∷◌, ◌++◌, length, take, drop, Option, None, Some, refl, sym, ap, subst, ◌∙◌, arith}
use Rattle.std.specs.Prelude.{IsTrue, All, ◌&&◌}
use Rattle.std.specs.Int.{w64, from_be_bytes}
use Rattle.std.specs.FinMap as finite
use Rattle.std.proofs.lemmas.Bool.{le-leb, cases_lt}
use Rattle.std.proofs.lemmas.List.Elements.{All-weaker}
use Rattle.amq_model.specs.declared.config.Config.{Config}
use Rattle.amq_model.specs.Configs.{IsConfig}
use Rattle.amq_model.specs.Names.{is_data}
use Rattle.amq_model.specs.Files.{FileName, Files}
use Rattle.amq_model.specs.Calls.{Past, content}
use Rattle.amq_model.specs.Leaves.{Leaves, Told, SparesAllBut}
use Rattle.amq_model.proofs.Keeping.{all_told}
use Rattle.amq_model.proofs.Chain.{loosely}
use Rattle.amq_scan.specs.Written.{Item, IsItem}
use Rattle.amq_scan.proofs.Lengths.{end_is}
use Rattle.amq_tx.specs.State.{TxState}
use Rattle.amq_pool.specs.declared.pool.PoolFile.{PoolFile}
use Rattle.amq_pool.specs.Pools.{PoolOf}
use Rattle.amq_engine.specs.declared.tail.Tail.{Tail}
use Rattle.amq_engine.specs.Lists.{Lists}
use Rattle.amq_engine.specs.Directory.{StandsNow, IsInUse}
use Rattle.amq_engine.specs.Engine.{Parts, IsSound, IsNewItem, pool_readied, is_nil}
use Rattle.amq_engine.specs.DataFiles.{id_and_length, HasSameFiles, HasFilesMade, HasId, IsPreparing, IsUsedOrNew, LeavesAllBut, Works, Worked}
use Rattle.amq_engine.proofs.Segments.{in_use_segment}
use Rattle.amq_engine.proofs.Listing.{listed_data, has_used, used_id}
use Rattle.amq_engine.proofs.Standing.{now_used}

-- records begin behind the header
pub sound_start : (config : Config) (table : TxState) (pool : PoolOf) (t : Tail) → Parts config table pool t → 16 ≤ t.end
sound_start config table pool t p = omega (arith, p.place, end_is 2 t.file.id 16 (take p.sure p.items))

-- the file in use is a data file with its id
used_has : (config : Config) (used : PoolFile) (sure : ℕ) (items : List Item) (s : Files) → IsConfig config → IsTrue (is_data used.name) → used.id < 2 ^ 31 → All (IsItem 2) items → IsInUse config used sure items s → HasId used.id s used.name
used_has config used sure items s is named low are u =
    let seg = in_use_segment config used is named low sure items are s u in
    let info : id_and_length (Some u.file) ≡ Some (used.id, length u.file.bytes) =
    ap (λ (b : Bool). cond {A = Option (ℕ × ℕ)} b (Some (from_be_bytes w64 (take 8 (drop 8 u.file.bytes)), length u.file.bytes)) None) (le-leb 16 (length u.file.bytes) seg.long) ∙ ap (λ (k : ℕ). Some (k, length u.file.bytes)) seg.id in
    (length u.file.bytes, ap (λ (b : Bool). cond {A = Option (ℕ × ℕ)} b (id_and_length (finite.get s used.name)) None) named ∙ ap id_and_length u.there ∙ info)

pub sound_used : (past : Option Past) (lists : Option Lists) (room : ℕ) (config : Config) (table : TxState) (pool : PoolOf) (t : Tail) → IsConfig config → IsSound past lists room config table pool t → Told past (λ s. HasId t.file.id s t.file.name)
sound_used past lists room config table pool t ranges s = by past s.reads_now where
  p : Parts config table pool t
  p = s.parts

  Now : Files → Type 0
  Now = StandsNow config (s.parts.old ++ s.parts.closed) t.file s.parts.sure s.parts.items pool.highest pool.prepared

  has : (f : Files) → StandsNow config (s.parts.old ++ s.parts.closed) t.file s.parts.sure s.parts.items pool.highest pool.prepared f → HasId t.file.id f t.file.name
  has f now =
      used_has config t.file s.parts.sure s.parts.items f ranges (listed_data pool.highest 0 _ t.file.name s.parts.listed (has_used (s.parts.old ++ s.parts.closed) t.file pool.prepared))
      (omega (arith, s.parts.numbers, used_id pool.highest (s.parts.old ++ s.parts.closed) t.file pool.prepared s.parts.listed))
      (All-weaker IsNewItem (IsItem 2) (λ x n. n.item) s.parts.items s.parts.new) (now_used config (s.parts.old ++ s.parts.closed) t.file s.parts.sure s.parts.items pool.highest pool.prepared f now)

  by : (h : Option Past) → Rattle.amq_model.specs.Leaves.AllReads h (StandsNow config (s.parts.old ++ s.parts.closed) t.file s.parts.sure s.parts.items pool.highest pool.prepared) → Told h (λ f. HasId t.file.id f t.file.name)
  by None all = tt
  by (Some h) all = has _ (all_told (Some h) (StandsNow config (s.parts.old ++ s.parts.closed) t.file s.parts.sure s.parts.items pool.highest pool.prepared) all)

-- files that are told apart by what was read
pub leaves_told : (Touch : FileName → Type 0) (Among : Files → FileName → Type 0) (a b : Option Past) → Told a (λ o. (n : FileName) → Touch n → Among o n) → Leaves (SparesAllBut Touch) (SparesAllBut Touch) a b → LeavesAllBut Among a b
leaves_told Touch Among None b told went = went
leaves_told Touch Among (Some p) b told went =
    let A : FileName → Type 0 = Among (content p.start p.calls) in
    loosely (SparesAllBut Touch) (SparesAllBut A) (SparesAllBut Touch) (SparesAllBut A) (Some p) b (λ o s spares n out. spares n (λ i. out (told n i))) (λ o s spares n out. spares n (λ i. out (told n i))) went

pub told_for : (P Q : Files → Type 0) (h : Option Past) → ((s : Files) → P s → Q s) → Told h P → Told h Q
told_for P Q None f told = tt
told_for P Q (Some p) f told = f (content p.start p.calls) told

told_both_for : (P Q : Files → Files → Type 0) (a b : Option Past) → ((o s : Files) → P o s → Q o s) → Told a (λ o. Told b (P o)) → Told a (λ o. Told b (Q o))
told_both_for P Q a b f told = told_for (λ o. Told b (P o)) (λ o. Told b (Q o)) a (λ o. told_for (P o) (Q o) b (f o)) told

-- no number is new
pub made_same : (size h : ℕ) (o s : Files) → HasFilesMade size h h o s → HasSameFiles o s
made_same size h o s made n = made.others n (λ is. absurd (omega (arith, is.1, is.2)))

pub works_same : (Keeps : Files → Files → Type 0) (size h : ℕ) (a b : Option Past) → Works Keeps size h h a b → Told a (λ o. Told b (HasSameFiles o))
works_same Keeps size h a b w = told_both_for (HasFilesMade size h h) HasSameFiles a b (λ o s made. made_same size h o s made) w.files

-- the file in use, and where one is prepared the next
pub touched_by : (used : FileName) (id h : ℕ) (b : Bool) (past : Option Past) → Told past (λ s. HasId id s used) → Told past (λ o. (n : FileName) → IsUsedOrNew used (h + 1) (cond b (h + 1) h) n → HasId id o n ⊎ (IsTrue b × IsPreparing (h + 1) (h + 1) n))
touched_by used id h b past told = told_for (λ s. HasId id s used) _ past (λ o has n touch. ⊎_elim (λ (e : n ≡ used). inl (subst (λ (m : FileName). HasId id o m) (sym e) has)) (λ p. inr (prepared b n p)) touch) told where
  prepared : (b : Bool) (n : FileName) → IsPreparing (h + 1) (cond b (h + 1) h) n → IsTrue b × IsPreparing (h + 1) (h + 1) n
  prepared true n p = (refl, p)
  prepared false n p = absurd (omega (arith, p.1, p.2))

-- the number that is the greatest then
pub readied_most : (m : Bool) (p : PoolOf) → (pool_readied m p).highest ≡ cond (m && is_nil p.prepared) (p.highest + 1) p.highest
readied_most false p = refl
readied_most true p = by p.prepared refl where
  by : (fs : List PoolFile) → p.prepared ≡ fs → (pool_readied true p).highest ≡ cond (is_nil p.prepared) (p.highest + 1) p.highest
  by [] e = rw e refl
  by (f ∷ fs) e = rw e refl

-- a command that failed
pub failed_told : (Keeps : Files → Files → Type 0) (size h : ℕ) (b : Bool) (x y : Option Past) → Worked false Keeps size h (cond b (h + 1) h) x y → Told x (λ o. Told y (λ s. HasSameFiles o s ⊎ (IsTrue b × HasFilesMade size h (h + 1) o s)))
failed_told Keeps size h b x y w = told_both_for (HasFilesMade size h w.last) (λ o s. HasSameFiles o s ⊎ (IsTrue b × HasFilesMade size h (h + 1) o s)) x y (λ o s made. by b w.within o s made) w.works.files where
  by : (k : Bool) → w.last ≤ cond k (h + 1) h → (o s : Files) → HasFilesMade size h w.last o s → HasSameFiles o s ⊎ (IsTrue k × HasFilesMade size h (h + 1) o s)
  by false le o s made = inl (made_same size h o s (subst (λ (n : ℕ). HasFilesMade size h n o s) (omega (arith, le, w.least)) made))
  by true le o s made = ⊎_elim
      (λ (lt : h < w.last). inr (refl, subst (λ (n : ℕ). HasFilesMade size h n o s) (omega (arith, le, lt)) made))
      (λ (ge : w.last ≤ h). inl (made_same size h o s (subst (λ (n : ℕ). HasFilesMade size h n o s) (omega (arith, ge, w.least)) made))) (cases_lt h w.last)

-- nothing was called
pub same_told : (a : Option Past) → Told a (λ o. Told a (HasSameFiles o))
same_told None = tt
same_told (Some p) = λ n. refl

pub still_alone : (Among : Files → FileName → Type 0) (a : Option Past) → LeavesAllBut Among a a
still_alone Among None = refl
still_alone Among (Some p) = Rattle.amq_model.proofs.Moments.still (SparesAllBut (Among (content p.start p.calls))) (SparesAllBut (Among (content p.start p.calls))) (Some p) (λ s n out. refl)

pub same_failed : (P : Files → Files → Type 0) (a : Option Past) → Told a (λ o. Told a (λ s. HasSameFiles o s ⊎ P o s))
same_failed P None = tt
same_failed P (Some p) = inl (λ n. refl)

pub used_only : (used : FileName) (id : ℕ) (past : Option Past) → Told past (λ s. HasId id s used) → Told past (λ o. (n : FileName) → n ≡ used → HasId id o n)
used_only used id past told = told_for (λ s. HasId id s used) (λ o. (n : FileName) → n ≡ used → HasId id o n) past (λ o has n e. subst (λ (m : FileName). HasId id o m) (sym e) has) told
