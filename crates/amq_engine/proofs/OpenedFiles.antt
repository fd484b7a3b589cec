-- Which data files an opening leaves, and which files it leaves alone.
use Rattle.std.proofs.Common.{◌≡◌, ◌⊎◌, inl, inr, ⊎_elim, ℕ, ◌+◌, ◌-◌, ◌^◌, ◌<◌, ◌≤◌, Bool, true, false, cond, List, [], ◌∷◌, length, Option, None, Some, refl, sym, ap, subst, ◌∙◌, arith}
use Rattle.std.specs.Prelude.{IsTrue, Contains, IsSome, ◌&&◌}
use Rattle.std.specs.Prelude.{min}
use Rattle.std.proofs.Common.{ltb}
use Rattle.std.proofs.lemmas.Bool.{ltb-true, ltb-false}
use Rattle.std.proofs.lemmas.List.Elements.{All-contains}
use Rattle.std.specs.FinMap as finite
use Rattle.amq_model.specs.declared.config.Config.{Config}
use Rattle.amq_model.specs.declared.record.Placed.{Placed}
use Rattle.amq_model.specs.declared.history.Step.{Step}
use Rattle.amq_model.specs.Answers.{history_of}
use Rattle.amq_model.specs.Legal.{rolled_back}
use Rattle.amq_model.specs.Names.{is_data}
use Rattle.amq_model.specs.Files.{FileName, File, Files}
use Rattle.amq_model.specs.Calls.{Past, content}
use Rattle.amq_model.specs.Leaves.{Leaves, Told, IsThere, Syncs, IsSyncedFile, SparesAllBut}
use Rattle.amq_model.proofs.Chain.{loosely}
use Rattle.amq_header.specs.Classes.{data_name}
use Rattle.amq_loader.specs.Loads.{is_leftover, IsTidy}
use Rattle.amq_loader.specs.Bases.{Clears}
use Rattle.amq_pool.specs.Pools.{PoolOf, numbered_file}
use Rattle.amq_engine.specs.declared.tail.Tail.{Tail}
use Rattle.amq_engine.specs.Lists.{Lists}
use Rattle.amq_engine.specs.Engine.{readied, pool_readied}
use Rattle.amq_engine.specs.Opening.{AreLeft, HasNumbers}
use Rattle.amq_engine.specs.DataFiles.{id_and_length, HasFilesMade, IsPreparing, IsUsedOrNew, IsRenewed, SyncsAllBut, Works, Worked, WorkedTo, HasFilesOf, HasBegunFiles, FailedFlushed, file_of_last}
use Rattle.amq_engine.proofs.DataFiles.{files_by, same_made, told_two, worked_works, works_worked, worked_wider, worked_then, unworked, spares_wider, spares_then, preparing_from, to_then, info_by}

-- ---- the rollbacks

pub named_ready : (m f : Bool) (p : PoolOf) (t : Tail) → p.prepared ≡ [] → t.file ≡ numbered_file p.highest → (readied m f p t).file ≡ numbered_file (pool_readied m p).highest
named_ready true f p t none named = rw none refl
named_ready false true p t none named = named
named_ready false false p t none named = named

-- what a rollback did
pub rolled_to : (done : Bool) (used : FileName) (size h most reached : ℕ) (x y : Option Past) → used ≡ data_name h → most ≤ 2 ^ 31 - 1 → (done ≡ true → most ≡ reached) → most ≤ reached + 1 → (w : Worked done (SparesAllBut (IsUsedOrNew used (h + 1) most)) size h most x y) → reached ≤ w.last → WorkedTo done size h h reached x y
unfolding worked_wider
rolled_to done used size h most reached x y named low is next w least = record {
  most = most;
  limit = low;
  all = is;
  next = next;
  worked = worked_wider done (SparesAllBut (IsUsedOrNew used (h + 1) most)) (SparesAllBut (IsPreparing h most)) size h most x y (spares_wider (IsUsedOrNew used (h + 1) most) (IsPreparing h most) both) w;
  least = least;
}
  where
    both : (n : FileName) → IsUsedOrNew used (h + 1) most n → IsPreparing h most n
    both n (inl e) = (h, omega arith, omega (arith, w.least, w.within), inl (e ∙ named))
    both n (inr p) = (p.0, omega (arith, p.1), p.2, p.3)

-- a rollback that failed asked for no further file, but where it goes on to one
pub failed_to : (moves none : Bool) (used : FileName) (size h reached : ℕ) (x y : Option Past) → used ≡ data_name h → h ≤ 2 ^ 31 - 1 → reached ≡ h → Worked false (SparesAllBut (IsUsedOrNew used (h + 1) (cond (moves && none) (h + 1) h))) size h (cond (moves && none) (h + 1) h) x y → WorkedTo true size h h reached x y ⊎ (moves ≡ true)
failed_to true none used size h reached x y named low at w = inr refl
failed_to false none used size h reached x y named low at w =
    let all : Worked true (SparesAllBut (IsUsedOrNew used (h + 1) h)) size h h x y = record { last = w.last; least = w.least; within = w.within; near = w.near; all = λ d. omega (arith, w.least, w.within); works = w.works } in
    inl (rolled_to true used size h h reached x y named low (λ d. sym at) (omega (arith, at)) all (omega (arith, at, w.least)))

pub to_and_then : (done : Bool) (size f mid reached : ℕ) (x y z : Option Past) → WorkedTo true size f f mid x y → WorkedTo done size mid mid reached y z → WorkedTo done size f f reached x z
to_and_then done size f mid reached x y z one two =
    to_then done size f f mid mid two.most reached x y z (omega (arith, one.worked.least, one.worked.within, one.all refl)) (omega (arith, two.worked.least, two.worked.within)) two.limit two.all two.next one two.worked two.least

-- bytes were put into that file
pub put_to : (done : Bool) (used : FileName) (size h : ℕ) (x y : Option Past) → used ≡ data_name h → h ≤ 2 ^ 31 - 1 → Works (SparesAllBut (λ n. n ≡ used)) size h h x y → WorkedTo done size h h h x y
put_to done used size h x y named low w =
    let to = works_worked done (SparesAllBut (λ n. n ≡ used)) (SparesAllBut (IsPreparing h h)) size h h x y (spares_wider (λ n. n ≡ used) (IsPreparing h h) (λ n e. (h, omega arith, omega arith, inl (e ∙ named)))) (omega arith) w in
    record { most = h; limit = low; all = λ d. refl; next = omega arith; worked = to; least = to.least }

-- further files were made
pub further_to : (done : Bool) (size h reached : ℕ) (x y : Option Past) → WorkedTo done size (h + 1) h reached x y → WorkedTo done size h h reached x y
unfolding worked_wider
further_to done size h reached x y w = record {
  most = w.most;
  limit = w.limit;
  all = w.all;
  next = w.next;
  worked = worked_wider done (SparesAllBut (IsPreparing (h + 1) w.most)) (SparesAllBut (IsPreparing h w.most)) size h w.most x y (spares_wider (IsPreparing (h + 1) w.most) (IsPreparing h w.most) (preparing_from h (h + 1) w.most w.most (omega arith) (omega arith))) w.worked;
  least = w.least;
}

-- ---- leftovers are removed, and the file is begun

-- a leftover that was there
abbrev WasLeft : Option Past → FileName → Type 0
WasLeft old n = IsTrue (is_leftover n) × Told old (IsThere n)

cleared_works : (size h : ℕ) (names : List FileName) (a b : Option Past) → Told a (AreLeft names) → Leaves (Clears names) (Clears names) a b → Works (SparesAllBut (WasLeft a)) size h h a b
cleared_works size h names None b left went = record { keeps = went; files = tt }
cleared_works size h names (Some p) b left went = record {
  keeps = loosely (Clears names) K (Clears names) K (Some p) b wider wider went;
  files = told_two (Clears names) (Clears names) (HasFilesMade size h h) (HasFilesMade size h h) (Some p) b (AreLeft names) left
      (λ o s l clears. same_made size h o s (λ n. files_by o s n (λ plain. clears n (λ among. plain_no (is_data n) plain (l.others n among).0)))) went;
}
  where
    K : Files → Files → Type 0
    K = SparesAllBut (WasLeft (Some p))

    wider : (o s : Files) → SparesAllBut (λ n. Contains names n) o s → SparesAllBut (WasLeft (Some p)) o s
    wider o s spares n out = spares n (λ among. out (left.are n among, All-contains (λ m. IsThere m (content p.start p.calls)) names n left.there among))

    plain_no : (b : Bool) → IsTrue b → b ≡ false → ⊥
    plain_no true t e = cc
    plain_no false t e = cc

-- leftovers were removed, and the file was begun, or it may be
pub renewed_worked : (done : Bool) (size h : ℕ) (names : List FileName) (a b c : Option Past) → h < 2 ^ 31 - 1 → Told a (AreLeft names) → Leaves (Clears names) (Clears names) a b → Worked done (SparesAllBut (IsPreparing (h + 1) (h + 1))) size h (h + 1) b c → Worked done (SparesAllBut (IsRenewed a h (h + 1))) size h (h + 1) a c
renewed_worked done size h names a b c low left cleared made =
    worked_then done (SparesAllBut (WasLeft a)) (SparesAllBut (IsPreparing (h + 1) (h + 1))) (SparesAllBut (IsRenewed a h (h + 1))) size h h (h + 1) a b c
    (spares_wider (WasLeft a) (IsRenewed a h (h + 1)) (λ n is. inl is))
    (spares_then (WasLeft a) (IsPreparing (h + 1) (h + 1)) (IsRenewed a h (h + 1)) (λ n is. inl is) (λ n is. inr is)) (omega (arith, low)) (omega arith) (cleared_works size h names a b left cleared) made

pub renewed_works : (size h : ℕ) (names : List FileName) (a b c : Option Past) → h < 2 ^ 31 - 1 → Told a (AreLeft names) → Leaves (Clears names) (Clears names) a b → Works (SparesAllBut (IsPreparing (h + 1) (h + 1))) size h (h + 1) b c → Works (SparesAllBut (IsRenewed a h (h + 1))) size h (h + 1) a c
renewed_works size h names a b c low left cleared made =
    let K : Files → Files → Type 0 = SparesAllBut (IsPreparing (h + 1) (h + 1)) in
    worked_works (SparesAllBut (IsRenewed a h (h + 1))) size h (h + 1) a c
    (renewed_worked true size h names a b c low left cleared (works_worked true K K size h (h + 1) b c (λ o s same. same) (omega arith) made))

-- leftovers were removed, and no more
pub cleared_worked : (size h : ℕ) (names : List FileName) (a b : Option Past) → Told a (AreLeft names) → Leaves (Clears names) (Clears names) a b → Worked false (SparesAllBut (IsRenewed a h (h + 1))) size h (h + 1) a b
cleared_worked size h names a b left cleared =
    unworked (SparesAllBut (WasLeft a)) (SparesAllBut (IsRenewed a h (h + 1))) size h (h + 1) a b (spares_wider (WasLeft a) (IsRenewed a h (h + 1)) (λ n is. inl is)) (omega arith) (omega arith) (cleared_works size h names a b left cleared)

-- ---- files are made durable first

synced_info : (o s : Option File) → IsSyncedFile o s → id_and_length s ≡ id_and_length o
synced_info None None same = refl
synced_info None (Some s) same = absurd same
synced_info (Some o) None same = absurd same
synced_info (Some o) (Some s) same = info_by s.bytes o.bytes (ap length same.0) (ap (Rattle.std.specs.Prelude.take 16) same.0)

syncs_works : (size h : ℕ) (a b : Option Past) → Leaves Syncs Syncs a b → Works Syncs size h h a b
syncs_works size h a b went = record {
  keeps = went;
  files = told_two Syncs Syncs (HasFilesMade size h h) (HasFilesMade size h h) a b (λ s. Unit {0}) (trivial a) (λ o s was syncs. same_made size h o s (λ n. ap (λ (x : Option (ℕ × ℕ)). cond (is_data n) x None) (synced_info (finite.get o n) (finite.get s n) (syncs n)))) went;
}
  where
    trivial : (h : Option Past) → Told h (λ s. Unit {0})
    trivial None = tt
    trivial (Some h) = tt

then_same : (Among : FileName → Type 0) (o m s : Files) → Syncs o m → SparesAllBut Among m s → SyncsAllBut Among o s
then_same Among o m s syncs spares n out = subst (λ (f : Option File). IsSyncedFile (finite.get o n) f) (sym (spares n out)) (syncs n)

-- what is there behind syncs was there before
there_before : (n : FileName) (a b : Option Past) → Leaves Syncs Syncs a b → Told b (IsThere n) → Told a (IsThere n)
there_before n None b went is = tt
there_before n (Some p) b went is = by (finite.get (content p.start p.calls) n) refl where
  now : IsSome (finite.get (content went.0.start went.0.calls) n)
  now = subst (λ (h : Option Past). Told h (IsThere n)) went.1 is

  by : (f : Option File) → finite.get (content p.start p.calls) n ≡ f → IsSome f
  by (Some f) e = refl
  by None e = lost (finite.get (content went.0.start went.0.calls) n) now (subst (λ (f : Option File). IsSyncedFile f (finite.get (content went.0.start went.0.calls) n)) e (went.2.told n))
    where
      lost : (g : Option File) → IsSome g → IsSyncedFile None g → IsSome {T = File} None
      lost None some same = some
      lost (Some g) some same = absurd same

renewed_before : (h most : ℕ) (a b : Option Past) → Leaves Syncs Syncs a b → (n : FileName) → IsRenewed b h most n → IsRenewed a h most n
renewed_before h most a b went n (inl is) = inl (is.0, there_before n a b went is.1)
renewed_before h most a b went n (inr is) = inr is

pub begun_worked : (done : Bool) (size h : ℕ) (a b c : Option Past) → h < 2 ^ 31 - 1 → Leaves Syncs Syncs a b → Worked done (SparesAllBut (IsRenewed b h (h + 1))) size h (h + 1) b c → Worked done (SyncsAllBut (IsRenewed a h (h + 1))) size h (h + 1) a c
begun_worked done size h a b c low syncs made =
    worked_then done Syncs (SparesAllBut (IsRenewed b h (h + 1))) (SyncsAllBut (IsRenewed a h (h + 1))) size h h (h + 1) a b c (λ o s synced n out. synced n)
    (λ o m s synced spares. then_same (IsRenewed a h (h + 1)) o m s synced (spares_wider (IsRenewed b h (h + 1)) (IsRenewed a h (h + 1)) (renewed_before h (h + 1) a b syncs) m s spares)) (omega (arith, low)) (omega arith) (syncs_works size h a b syncs) made

pub begun_works : (size h : ℕ) (a b c : Option Past) → h < 2 ^ 31 - 1 → Leaves Syncs Syncs a b → Works (SparesAllBut (IsRenewed b h (h + 1))) size h (h + 1) b c → Works (SyncsAllBut (IsRenewed a h (h + 1))) size h (h + 1) a c
begun_works size h a b c low syncs made =
    let K : Files → Files → Type 0 = SparesAllBut (IsRenewed b h (h + 1)) in
    worked_works (SyncsAllBut (IsRenewed a h (h + 1))) size h (h + 1) a c (begun_worked true size h a b c low syncs (works_worked true K K size h (h + 1) b c (λ o s same. same) (omega arith) made))

-- ---- the whole opening

-- the further files, up to a number
renewed_further : (done : Bool) (size h reached : ℕ) (a b c : Option Past) (w : WorkedTo done size (h + 1) (h + 1) reached b c) → Works (SyncsAllBut (IsRenewed a h (h + 1))) size h (h + 1) a b → Worked done (SyncsAllBut (IsRenewed a h w.most)) size h w.most a c
renewed_further done size h reached a b c w begun =
    worked_then done (SyncsAllBut (IsRenewed a h (h + 1))) (SparesAllBut (IsPreparing (h + 1) w.most)) (SyncsAllBut (IsRenewed a h w.most)) size h (h + 1) w.most a b c
    (λ o s syncs n out. syncs n (λ r. out (wider n r)))
    (λ o m s syncs spares n out. subst (λ (f : Option File). IsSyncedFile (finite.get o n) f) (sym (spares n (λ p. out (inr p)))) (syncs n (λ r. out (wider n r)))) (omega (arith, w.limit)) (omega arith) begun w.worked
  where
    wider : (n : FileName) → IsRenewed a h (h + 1) n → IsRenewed a h w.most n
    wider n (inl is) = inl is
    wider n (inr (k, above, below, e)) = inr (k, above, omega (arith, below, w.worked.least, w.worked.within), e)

further_least : (done : Bool) (size h reached : ℕ) (a b c : Option Past) (w : WorkedTo done size (h + 1) (h + 1) reached b c) (begun : Works (SyncsAllBut (IsRenewed a h (h + 1))) size h (h + 1) a b) → reached ≤ (renewed_further done size h reached a b c w begun).last
unfolding renewed_further worked_then
further_least done size h reached a b c w begun = w.least

pub opened_works : (size h reached : ℕ) (a b c : Option Past) → Works (SyncsAllBut (IsRenewed a h (h + 1))) size h (h + 1) a b → WorkedTo true size (h + 1) (h + 1) reached b c → Works (SyncsAllBut (IsRenewed a h reached)) size h reached a c
opened_works size h reached a b c begun w =
    subst (λ (n : ℕ). Works (SyncsAllBut (IsRenewed a h n)) size h n a c) (w.all refl) (worked_works (SyncsAllBut (IsRenewed a h w.most)) size h w.most a c (renewed_further true size h reached a b c w begun))

-- the file of the last append, with another one where there is none
pub last_from : (first other : ℕ) (history : List Placed) → first ≤ other → file_of_last first history ≤ file_of_last other history
last_from first other [] le = le
last_from first other (p ∷ history) le = omega arith

-- which data files there are behind an opening, whole or not
pub opened_has : (done : Bool) (config : Config) (history : List Placed) (files before reached : ℕ) (a b c : Option Past) → Told a (HasNumbers files before) → Works (SyncsAllBut (IsRenewed a before (before + 1))) config.file_size before (before + 1) a b → (w : WorkedTo done config.file_size (before + 1) (before + 1) reached b c)
    → file_of_last (before + 1) history ≤ reached → (done ≡ true → (config.min_files ≤ files + (reached - before)) ⊎ (reached ≡ 2 ^ 31 - 1)) → (reached ≡ file_of_last (before + 1) history) ⊎ (files + (w.most - before) ≤ config.min_files)
    → (done ≡ true → Told c IsTidy) → (f : HasFilesOf done config history a c) × (reached ≤ f.worked.last) × (f.most ≡ w.most) × (f.before ≡ before)
opened_has done config history files before reached a b c had begun w stands enough no_more tidy =
    let further = renewed_further done config.file_size before reached a b c w begun in
    let least : reached ≤ further.last = further_least done config.file_size before reached a b c w begun in
    let files_are : HasFilesOf done config history a c = record {
      files = files;
      before = before;
      had = had;
      most = w.most;
      limit = w.limit;
      begun = omega (arith, w.worked.least, w.worked.within);
      worked = further;
      stands = omega (arith, last_from before (before + 1) history (omega arith), stands, least);
      enough = λ is. subst (λ (n : ℕ). (config.min_files ≤ files + (n - before)) ⊎ (n ≡ 2 ^ 31 - 1)) (sym (w.all is)) (enough is);
      tidy = tidy;
      no_more = ⊎_elim (λ (e : reached ≡ file_of_last (before + 1) history). inl (needed done (file_of_last (before + 1) history) e w.all)) (λ few. inr few) no_more;
    } in
    (files_are, least, refl, refl)
  where
    needed : (d : Bool) (last : ℕ) → reached ≡ last → (d ≡ true → w.most ≡ reached) → w.most ≤ cond d last (last + 1)
    needed true last e all = omega (arith, all refl, e)
    needed false last e all = omega (arith, w.next, e)

-- the new file wasn't begun, or it may be
pub unbegun_has : (config : Config) (files before : ℕ) (l : Lists) (a c : Option Past) → l.steps ≡ [] → before < 2 ^ 31 - 1 → Told a (HasNumbers files before) → Worked false (SyncsAllBut (IsRenewed a before (before + 1))) config.file_size before (before + 1) a c → HasBegunFiles config l a c
unbegun_has config files before l a c none low had w = record {
  files = record {
    files = files;
    before = before;
    had = had;
    most = before + 1;
    limit = omega (arith, low);
    begun = omega arith;
    worked = w;
    stands = omega (arith, w.least, last before);
    enough = λ is. absurd (no is);
    tidy = λ is. absurd (no is);
    no_more = inl (omega (arith, last (before + 1)));
  };
  flushed = inr (inl (omega (arith, last (before + 1))));
}
  where
    no : false ≡ true → ⊥
    no e = cc

    last : (first : ℕ) → file_of_last first (history_of l.steps) ≡ first
    last first = ap (λ (steps : List Step). file_of_last first (history_of steps)) none

-- what is whole is so too where not all was done
to_unfinished : (size from first reached : ℕ) (b c : Option Past) → WorkedTo true size from first reached b c → (w : WorkedTo false size from first reached b c) × (w.most ≡ reached)
to_unfinished size from first reached b c w = (
  record {
    most = w.most;
    limit = w.limit;
    all = λ is. absurd (no is);
    next = w.next;
    worked = record { last = w.worked.last; least = w.worked.least; within = w.worked.within; near = w.worked.near; all = λ is. absurd (no is); works = w.worked.works };
    least = w.least;
  },
  w.all refl,
)
  where
    no : false ≡ true → ⊥
    no e = cc

-- an opening that failed behind the first file
module _ (config : Config) (l : Lists) (files before reached : ℕ) (txs : List ℕ) (a b c : Option Past) (had : Told a (HasNumbers files before)) (begun : Works (SyncsAllBut (IsRenewed a before (before + 1))) config.file_size before (before + 1) a b)
    (most : (reached ≡ file_of_last (before + 1) (history_of l.steps)) ⊎ ((file_of_last (before + 1) (history_of l.steps) ≤ reached) × (files + (reached + 2 - (before + 1)) ≤ config.min_files))) where
  abbrev last : ℕ → ℕ
  last first = file_of_last first (history_of l.steps)

  has : (w : WorkedTo false config.file_size (before + 1) (before + 1) reached b c) → (f : HasFilesOf false config (history_of l.steps) a c) × (reached ≤ f.worked.last) × (f.most ≡ w.most) × (f.before ≡ before)
  has w = opened_has false config (history_of l.steps) files before reached a b c had begun w
      (⊎_elim (λ (e : reached ≡ last (before + 1)). omega (arith, e)) (λ few. few.0) most)
      (λ d. absurd (no d))
      (⊎_elim (λ (e : reached ≡ last (before + 1)). inl e) (λ few. inr (omega (arith, few.1, w.next))) most)
      (λ d. absurd (no d))
    where
      no : false ≡ true → ⊥
      no e = cc

  -- behind the file of the last append it asked for none that it may not have
  pub failed_has : txs ≡ rolled_back l.base → WorkedTo false config.file_size (before + 1) (before + 1) reached b c → FailedFlushed config (before + 1) reached txs b c l → HasBegunFiles config l a c
  failed_has same w (inl (few, needs, at)) =
      let so = has w in
      record {
        files = so.0;
        flushed = inl (subst (λ (n : ℕ). length l.steps < n) (ap length same) few, needs, omega (arith, so.2, w.next, at, ap last (ap (λ (n : ℕ). n + 1) so.3)));
      }
  failed_has same w (inr (inl (at, done))) =
      let all = to_unfinished config.file_size (before + 1) (before + 1) reached b c done in
      let so = has all.0 in
      record { files = so.0; flushed = inr (inl (omega (arith, so.2, all.1, at, ap last (ap (λ (n : ℕ). n + 1) so.3)))) }
  failed_has same w (inr (inr (all, counts))) = record { files = (has w).0; flushed = inr (inr (all ∙ ap length same, counts)) }

-- there are as many as are asked for, or the numbers are spent
pub enough_by : (config : Config) (files before first file highest n : ℕ) → first ≡ before + 1 → first ≤ file → highest ≤ 2 ^ 31 - 1 → n ≡ min (config.min_files - (files + (file + 1 - first))) (2 ^ 31 - 1 - file) → highest ≡ file + n
    → (config.min_files ≤ files + (highest - before)) ⊎ (highest ≡ 2 ^ 31 - 1)
enough_by config files before first file highest n begun later most many up = by (ltb (config.min_files - (files + (file + 1 - first))) (2 ^ 31 - 1 - file)) refl where
  by : (b : Bool) → ltb (config.min_files - (files + (file + 1 - first))) (2 ^ 31 - 1 - file) ≡ b → (config.min_files ≤ files + (highest - before)) ⊎ (highest ≡ 2 ^ 31 - 1)
  by true e = inl (omega (arith, ltb-true (config.min_files - (files + (file + 1 - first))) (2 ^ 31 - 1 - file) e, begun, later, most, many, up))
  by false e = inr (omega (arith, ltb-false (config.min_files - (files + (file + 1 - first))) (2 ^ 31 - 1 - file) e, begun, later, most, many, up))
