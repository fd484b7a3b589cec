-- Which data files a journal has so far: what an opening and the calls behind it add to them.
use Rattle.std.proofs.Common.{◌≡◌, ◌⊎◌, inl, inr, ⊎_elim, ℕ, zero, suc, ◌+◌, ◌-◌, ◌^◌, ◌<◌, ◌≤◌, Bool, true, false, cond, leb, ltb, List, [], ◌∷◌, ◌++◌, length, Option, None, Some, refl, sym, ap, subst, ◌∙◌, arith}
use Rattle.std.specs.Prelude.{IfSome, OnOk, OnErr, Result, Ok, Err, max, min, map, option_map, ◌&&◌}
use Rattle.std.specs.List.{filter_map}
use Rattle.std.specs.Int.{w64, from_be_bytes}
use Rattle.std.specs.Prelude.{take, drop}
use Rattle.std.specs.FinMap as finite
use Rattle.std.proofs.lemmas.Bool.{leb-true, ltb-true, ltb-false, cases_lt}
use Rattle.std.proofs.lemmas.Option.{same_Some}
use Rattle.amq_model.specs.declared.config.Config.{Config}
use Rattle.amq_model.specs.declared.record.Placed.{Placed}
use Rattle.amq_model.specs.declared.record.Record.{Record}
use Rattle.amq_model.specs.declared.refusal.Refusal.{Refusal}
use Rattle.amq_model.specs.Configs.{IsConfig}
use Rattle.amq_model.specs.Names.{is_data}
use Rattle.amq_model.specs.Answers.{history_of}
use Rattle.amq_model.specs.Directory.{FileOf, file_of, files_by_name, data_files, placed_by_id, by_id}
use Rattle.amq_model.specs.Files.{FileName, File, Files}
use Rattle.amq_model.specs.Calls.{Past, content}
use Rattle.amq_model.specs.Leaves.{Leaves, Told, IsSyncedFile, SparesAllBut}
use Rattle.amq_model.proofs.Moments.{go_on}
use Rattle.amq_header.specs.Classes.{data_name}
use Rattle.amq_header.proofs.Made.{data_differ}
use Rattle.amq_loader.specs.Loads.{number_of, IsTidy}
use Rattle.amq_scan.proofs.Parts.{Has}
use Rattle.amq_scan.proofs.Entries.{Entry, there_entry, has_file}
use Rattle.amq_tx.specs.State.{TxState}
use Rattle.amq_pool.specs.declared.pool.PoolFile.{PoolFile}
use Rattle.amq_pool.specs.Pools.{PoolOf, ids_of}
use Rattle.amq_engine.specs.declared.tail.Tail.{Tail}
use Rattle.amq_engine.specs.Lists.{Lists, steps_in}
use Rattle.amq_engine.specs.Directory.{files_from}
use Rattle.amq_engine.specs.Engine.{EngineOf, with_put, flushed, closed_after, Parts, IsSound, readied, pool_readied, is_nil, end_of_tail}
use Rattle.amq_engine.specs.Opening.{HasNumbers, EndsIn, StandBehind, StandsFrom, rollbacks_behind}
use Rattle.amq_engine.specs.DataFiles.{id_and_length, data_file_at, HasFilesMade, HasId, IsNumbered, IsUsedOrNew, IsRenewed, SyncsAllBut, Works, Worked, WorkedTo, HasFilesOf, HasFilesSoFar, file_of_last}
use Rattle.amq_engine.proofs.Counting.{has_le}
use Rattle.amq_engine.proofs.DataFiles.{told_chain, works_still, wrote_only}
use Rattle.amq_engine.proofs.Listing.{used_id}
use Rattle.amq_engine.proofs.Noting.{both_true}
use Rattle.amq_engine.proofs.OpenedFiles.{last_from, opened_has}
use Rattle.amq_engine.proofs.FilesTold.{sound_used}
use Rattle.amq_engine.proofs.Tidying.{told_spared}
use Rattle.amq_engine.proofs.Places.{rollbacks_stand}
use Rattle.amq_engine.proofs.Standing.{same_or_not}

-- ---- no data file that was there has a greater id

placed_has : (f g : FileOf) (gs : List FileOf) → Has (f ∷ gs) g → Has (placed_by_id f gs) g
placed_has f g [] h = h
placed_has f g (x ∷ xs) h = by (ltb x.id f.id) h (placed_has f g xs) where
  by : (b : Bool) → Has (f ∷ x ∷ xs) g → (Has (f ∷ xs) g → Has (placed_by_id f xs) g) → Has (cond b (x ∷ placed_by_id f xs) (f ∷ x ∷ xs)) g
  by false h rest = h
  by true (inl e) rest = inr (rest (inl e))
  by true (inr (inl e)) rest = inl e
  by true (inr (inr h)) rest = inr (rest (inr h))

by_id_has : (fs : List FileOf) (f : FileOf) → Has fs f → Has (by_id fs) f
by_id_has [] f h = absurd h
by_id_has (x ∷ xs) f (inl e) = placed_has x f (by_id xs) (inl e)
by_id_has (x ∷ xs) f (inr h) = placed_has x f (by_id xs) (inr (by_id_has xs f h))

ids_have : (fs : List FileOf) (f : FileOf) (rest : List ℕ) → Has fs f → Has (map (λ (g : FileOf). g.id) fs ++ rest) f.id
ids_have [] f rest h = absurd h
ids_have (x ∷ xs) f rest (inl e) = inl (ap (λ (g : FileOf). g.id) e)
ids_have (x ∷ xs) f rest (inr h) = inr (ids_have xs f rest h)

had_low : (files before : ℕ) (o : Files) (n : FileName) (id len : ℕ) → HasNumbers files before o → data_file_at n o ≡ Some (id, len) → id ≤ before
had_low files before o n id len had is = by (is_data n) refl (finite.get o n) refl is where
  es : List Entry
  es = finite.entries had.image

  here : (file : File) → finite.get o n ≡ Some file → is_data n ≡ true → (b : Bool) → leb 16 (length file.bytes) ≡ b → cond {A = Option (ℕ × ℕ)} b (Some (from_be_bytes w64 (take 8 (drop 8 file.bytes)), length file.bytes)) None ≡ Some (id, len) → id ≤ before
  here file got is_one false long e = absurd cc
  here file got is_one true long e =
      let f = file_of n file.bytes in
      let has : Has (files_by_name es None) f = has_file es (n, file.bytes) (there_entry had.image n file.bytes (had.reading n ∙ ap (option_map (λ (g : File). g.bytes)) got)) (record { long = leb-true 16 (length file.bytes) long; named = is_one }) in
      let same : from_be_bytes w64 (take 8 (drop 8 file.bytes)) ≡ id = ap (λ (p : ℕ × ℕ). p.0) (same_Some (from_be_bytes w64 (take 8 (drop 8 file.bytes)), length file.bytes) (id, len) e) in
      let all = map (λ (g : FileOf). g.id) (data_files es None) ++ filter_map (λ (g : Entry). number_of g.0) es in
      let low : from_be_bytes w64 (take 8 (drop 8 file.bytes)) ≤ before = subst (λ (k : ℕ). f.id ≤ k) (sym had.is) (has_le 0 all f.id (ids_have (data_files es None) f (filter_map (λ (g : Entry). number_of g.0) es) (by_id_has (files_by_name es None) f has))) in
      omega (arith, same, low)

  by : (b : Bool) → is_data n ≡ b → (f : Option File) → finite.get o n ≡ f → cond b (id_and_length f) None ≡ Some (id, len) → id ≤ before
  by false is_one f got e = absurd cc
  by true is_one None got e = absurd cc
  by true is_one (Some file) got e = here file got is_one (leb 16 (length file.bytes)) refl e

-- the file in use is one of the new ones
used_named : (size files before last : ℕ) (o m : Files) (used : FileName) (id : ℕ) → HasNumbers files before o → HasFilesMade size before last o m → HasId id m used → before < id → used ≡ data_name id
used_named size files before last o m used id had made has above = by (same_or_not used (data_name id)) where
  out : (used ≡ data_name id → ⊥) → IsNumbered before last used → ⊥
  out ne (k, above, below, e) =
      let there : data_file_at used m ≡ Some (k, size) = ap (λ (n : FileName). data_file_at n m) e ∙ made.made k above below in
      let same : id ≡ k = ap (λ (p : ℕ × ℕ). p.0) (same_Some (id, has.0) (k, size) (sym has.1 ∙ there)) in
      ne (e ∙ ap data_name (sym same))

  by : (used ≡ data_name id) ⊎ (used ≡ data_name id → ⊥) → used ≡ data_name id
  by (inl e) = e
  by (inr ne) = absurd (omega (arith, above, had_low files before o used id has.0 had (sym (made.others used (out ne)) ∙ has.1)))

-- ---- one call more

-- files are made again, or further ones
made_over : (size a b h c top : ℕ) (o m s : Files) → a ≤ h → h ≤ b → top ≡ max b c → top < 2 ^ 63 → HasFilesMade size a b o m → HasFilesMade size h c m s → HasFilesMade size a top o s
made_over size a b h c top o m s ah hb is low one two = record {
  made = λ k above below. ⊎_elim
      (λ (late : h < k). ⊎_elim
      (λ (out : c < k). two.others (data_name k) (λ n. absurd (omega (arith, out, n.2, data_differ k n.0 (omega (arith, below, low)) (omega (arith, is, n.2, low)) n.3))) ∙ one.made k above (omega (arith, is, below, out)))
      (λ (in_it : k ≤ c). two.made k late in_it) (cases_lt c k))
      (λ (early : k ≤ h). two.others (data_name k) (λ n. absurd (omega (arith, early, n.1, data_differ k n.0 (omega (arith, below, low)) (omega (arith, is, n.2, low)) n.3))) ∙ one.made k above (omega (arith, early, hb)))
      (cases_lt h k);
  others = λ n out. two.others n (λ i. out (i.0, omega (arith, ah, i.1), omega (arith, is, i.2), i.3)) ∙ one.others n (λ i. out (i.0, i.1, omega (arith, is, i.2), i.3));
}

module _ (done d : Bool) (size files before most1 h most2 id : ℕ) (used : FileName) (old a b : Option Past) (had : Told old (HasNumbers files before)) (has : Told a (λ s. HasId id s used)) (one : Worked done (SyncsAllBut (IsRenewed old before most1)) size before most1 old a)
    (two : Worked d (SparesAllBut (IsUsedOrNew used (h + 1) most2)) size h most2 a b) (above : before < id) (within : id ≤ h) (reached : h ≤ one.last) (next : most2 ≤ h + 1) (low : max most1 most2 ≤ 2 ^ 31 - 1) where
  abbrev J : Files → Files → Type 0
  J = SyncsAllBut (IsRenewed old before most1)

  abbrev K : Files → Files → Type 0
  K = SparesAllBut (IsUsedOrNew used (h + 1) most2)

  abbrev top : ℕ
  top = max most1 most2

  abbrev L : Files → Files → Type 0
  L = SyncsAllBut (IsRenewed old before top)

  wider : (n : FileName) → IsRenewed old before most1 n → IsRenewed old before top n
  wider n (inl is) = inl is
  wider n (inr (k, above, below, e)) = inr (k, above, omega (arith, below), e)

  touched : used ≡ data_name id → (n : FileName) → IsUsedOrNew used (h + 1) most2 n → IsRenewed old before top n
  touched named n (inl e) = inr (id, omega (arith, above), omega (arith, within, reached, one.within), inl (e ∙ named))
  touched named n (inr (k, from, below, e)) = inr (k, omega (arith, from, within, above), omega (arith, below), e)

  more : (p : Past) → old ≡ Some p → (q : Past) → a ≡ Some q → Works L size before (max one.last two.last) old b
  more p is_old q is_a =
      let o = content p.start p.calls in
      let m = content q.start q.calls in
      let made : HasFilesMade size before one.last o m = subst (λ (x : Option Past). Told x (HasFilesMade size before one.last o)) is_a (subst (λ (x : Option Past). Told x (λ f. Told a (HasFilesMade size before one.last f))) is_old one.works.files) in
      let named : used ≡ data_name id = used_named size files before one.last o m used id (subst (λ (x : Option Past). Told x (HasNumbers files before)) is_old had) made (subst (λ (x : Option Past). Told x (λ s. HasId id s used)) is_a has) above in
      let first : (o s : Files) → J o s → L o s = λ o s syncs n out. syncs n (λ r. out (wider n r)) in
      let both : (o m s : Files) → J o m → K m s → L o s = λ o m s syncs spares n out. subst (λ (f : Option File). IsSyncedFile (finite.get o n) f) (sym (spares n (λ t. out (touched named n t)))) (syncs n (λ r. out (wider n r))) in
      record {
        keeps = go_on {I = J} {J = K} {K = L} {E = J} {F = K} {G = L} old a b first both both one.works.keeps two.works.keeps;
        files = told_chain J J K K (HasFilesMade size before one.last) (HasFilesMade size h two.last) (HasFilesMade size before (max one.last two.last)) old a b
            (λ o m s r t. made_over size before one.last h two.last (max one.last two.last) o m s (omega (arith, above, within)) reached refl (omega (arith, low, one.within, two.within)) r t) one.works.keeps two.works.keeps one.works.files two.works.files;
      }

  untold : old ≡ None → a ≡ None → Works L size before (max one.last two.last) old b
  untold is_old is_a =
      let none : b ≡ None = subst (λ (x : Option Past). Leaves K K x b) is_a two.works.keeps in
      record {
        keeps = subst (λ (x : Option Past). Leaves L L x b) (sym is_old) none;
        files = subst (λ (x : Option Past). Told x (λ o. Told b (HasFilesMade size before (max one.last two.last) o))) (sym is_old) tt;
      }

  works_more : Works L size before (max one.last two.last) old b
  works_more = by old refl one.works.keeps where
    by : (x : Option Past) → old ≡ x → Leaves J J x a → Works L size before (max one.last two.last) old b
    by None is went = untold is went
    by (Some p) is went = more p is went.0 went.1

  worked_more : Worked (done && d) L size before top old b
  worked_more = record {
    last = max one.last two.last;
    least = omega (arith, one.least);
    within = omega (arith, one.within, two.within);
    near = omega (arith, one.near, two.near);
    all = λ is. (let both = both_true done d is in omega (arith, one.all both.0, two.all both.1));
    works = works_more;
  }

-- where not all was done one more may be there
last_wider : (done d : Bool) (n file file' : ℕ) → file ≤ file' → n ≤ cond done file (file + 1) → n ≤ cond (done && d) file' (file' + 1)
last_wider true true n file file' le is = omega (arith, le, is)
last_wider true false n file file' le is = omega (arith, le, is)
last_wider false d n file file' le is = omega (arith, le, is)

last_needed : (done d : Bool) (n file : ℕ) → n ≤ cond d file (file + 1) → n ≤ cond (done && d) file (file + 1)
last_needed true d n file is = is
last_needed false true n file is = omega (arith, is)
last_needed false false n file is = is

reached_by : (d : Bool) (h h' most last : ℕ) → (d ≡ true → most ≡ h') → (d ≡ false → h' ≡ h) → (d ≡ true → last ≡ most) → h ≤ last → h' ≤ last
reached_by true h h' most last made unmade all least = omega (arith, made refl, all refl)
reached_by false h h' most last made unmade all least = omega (arith, unmade refl, least)

-- what a call adds, which went on to that file, or prepared one
pub so_far_more : (done d : Bool) (config : Config) (file end h file' end' h' most : ℕ) (l l' : Lists) (old a b : Option Past) (used : FileName) → HasFilesSoFar done config file end h l old a → Told a (λ s. HasId file s used)
    → (two : Worked d (SparesAllBut (IsUsedOrNew used (h + 1) most)) config.file_size h most a b) → file ≤ h → most ≤ h + 1 → most ≤ 2 ^ 31 - 1 → h ≤ h' → (d ≡ true → most ≡ h') → (d ≡ false → h' ≡ h) → file ≤ file' → file' ≤ h'
    → (most ≤ h) ⊎ (h + 1 ≤ cond d file' (file' + 1)) → (d ≡ true → Told a IsTidy → Told b IsTidy) → ((first : ℕ) → StandsFrom config first file end l → StandsFrom config first file' end' l') → HasFilesSoFar (done && d) config file' end' h' l' old b
unfolding worked_more
so_far_more done d config file end h file' end' h' most l l' old a b used f has two within next low up made unmade later within' needs tidy stand =
    let F = f.files in
    let reached : h' ≤ two.last = reached_by d h h' most two.last made unmade two.all two.least in
    let top = max F.most most in
    let stands : StandsFrom config (F.before + 1) file' end' l' = stand (F.before + 1) f.stands in
    let limit : top ≤ 2 ^ 31 - 1 = omega (arith, F.limit, low) in
    let last = file_of_last (F.before + 1) (history_of l'.steps) in
    let more : Worked (done && d) (SyncsAllBut (IsRenewed old F.before top)) config.file_size F.before top old b = worked_more done d config.file_size F.files F.before F.most h most file used old a b F.had has F.worked two f.begun within f.reached next limit in
    let few : (top ≤ cond (done && d) last (last + 1)) ⊎ (F.files + (top - F.before) ≤ config.min_files) =
    ⊎_elim
    (λ (same : most ≤ h). (let same_top : top ≡ F.most = omega (arith, same, f.reached, F.worked.within) in
    ⊎_elim
    (λ (le : F.most ≤ cond done (file_of_last (F.before + 1) (history_of l.steps)) (file_of_last (F.before + 1) (history_of l.steps) + 1)).
    (let le_file : F.most ≤ cond done file (file + 1) = subst (λ (k : ℕ). F.most ≤ cond done k (k + 1)) (sym f.stands.1.0) le in
    inl (subst (λ (k : ℕ). top ≤ cond (done && d) k (k + 1)) stands.1.0 (subst (λ (k : ℕ). k ≤ cond (done && d) file' (file' + 1)) (sym same_top) (last_wider done d F.most file file' later le_file)))))
    (λ (le : F.files + (F.most - F.before) ≤ config.min_files). inr (omega (arith, same_top, le))) F.no_more))
    (λ (one_more : h + 1 ≤ cond d file' (file' + 1)). inl (subst (λ (k : ℕ). top ≤ cond (done && d) k (k + 1)) stands.1.0 (last_needed done d top file' (omega (arith, one_more, next, f.next))))) needs in
    let files : HasFilesOf (done && d) config (history_of l'.steps) old b = record {
      files = F.files;
      before = F.before;
      had = F.had;
      most = top;
      limit = limit;
      begun = omega (arith, F.begun);
      worked = more;
      stands = omega (arith, last_from F.before (F.before + 1) (history_of l'.steps) (omega arith), stands.1.0, within', reached);
      enough = λ is. ⊎_elim (λ (le : config.min_files ≤ F.files + (F.most - F.before)). inl (omega (arith, le))) (λ (e : F.most ≡ 2 ^ 31 - 1). inr (omega (arith, e, limit))) (F.enough (both_true done d is).0);
      tidy = λ is. (let both = both_true done d is in tidy both.1 (F.tidy both.0));
      no_more = few;
    } in
    record {
      files = files;
      reached = omega (arith, reached);
      next = omega (arith, f.next, next, up);
      all = λ is. (let both = both_true done d is in omega (arith, f.all both.0, made both.1, up));
      begun = omega (arith, f.begun, later);
      stands = stands;
    }

-- of what a chronicle tells
pub so_far_lists : (P : Lists → Type 0) (Q : Lists → Type 0) (config : Config) (file end file' end' : ℕ) (lists lists' : Option Lists) → (lists ≡ None → lists' ≡ None) → ((first : ℕ) → IfSome lists (StandsFrom config first file end) → IfSome lists' (StandsFrom config first file' end'))
    → ((l l' : Lists) → ((first : ℕ) → StandsFrom config first file end l → StandsFrom config first file' end' l') → P l → Q l') → IfSome lists P → IfSome lists' Q
so_far_lists P Q config file end file' end' None None gone stands goes is = tt
so_far_lists P Q config file end file' end' None (Some l') gone stands goes is = absurd (some l' (gone refl)) where
  some : (l : Lists) → Some l ≡ None → ⊥
  some l e = cc
so_far_lists P Q config file end file' end' (Some l) None gone stands goes is = tt
so_far_lists P Q config file end file' end' (Some l) (Some l') gone stands goes is = goes l l' stands is

pub none_mapped : (f : Lists → Lists) (lists lists' : Option Lists) → lists' ≡ option_map f lists → lists ≡ None → lists' ≡ None
none_mapped f None lists' same is = same
none_mapped f (Some l) lists' same is = absurd cc

pub none_steps : (lists lists' : Option Lists) → steps_in lists' ≡ steps_in lists → lists ≡ None → lists' ≡ None
none_steps None None same is = refl
none_steps None (Some l') same is = absurd cc
none_steps (Some l) lists' same is = absurd cc

-- ---- the numbers of an engine

module _ (config : Config) (table : TxState) (pool : PoolOf) (t : Tail) (p : Parts config table pool t) where
  pub used_within : t.file.id ≤ pool.highest
  used_within = used_id pool.highest (p.old ++ p.closed) t.file pool.prepared p.listed

  none_left : (n : ℕ) → [] ≡ ids_of (files_from (t.file.id + 1) n) → n ≡ 0
  none_left zero is = refl
  none_left (suc n) is = absurd cc

  -- none is prepared but those behind the one in use
  pub last_in_use : pool.prepared ≡ [] → pool.highest ≡ t.file.id
  last_in_use none = omega (arith, used_within, none_left (pool.highest - t.file.id) (sym (ap ids_of none) ∙ p.behind))

  next_number : (f : PoolFile) (fs : List PoolFile) → pool.prepared ≡ f ∷ fs → (t.file.id ≤ f.id) × (f.id ≤ pool.highest)
  next_number f fs some = by (pool.highest - t.file.id) refl (sym (ap ids_of some) ∙ p.behind) where
    by : (n : ℕ) → pool.highest - t.file.id ≡ n → f.id ∷ ids_of fs ≡ ids_of (files_from (t.file.id + 1) n) → (t.file.id ≤ f.id) × (f.id ≤ pool.highest)
    by zero left is = absurd cc
    by (suc n) left is = let e : f.id ≡ t.file.id + 1 = cc in (omega (arith, e), omega (arith, e, left))

  -- the file in use and the greatest number, once the journal is ready for a command
  pub readied_numbers : (m f : Bool) → (t.file.id ≤ (readied m f pool t).file.id) × ((readied m f pool t).file.id ≤ (pool_readied m pool).highest) × (pool.highest ≤ (pool_readied m pool).highest) × ((cond (m && is_nil pool.prepared) (pool.highest + 1) pool.highest ≤ pool.highest) ⊎ (pool.highest + 1 ≤ (readied m f pool t).file.id))
  readied_numbers false true = (omega arith, used_within, omega arith, inl (omega arith))
  readied_numbers false false = (omega arith, used_within, omega arith, inl (omega arith))
  readied_numbers true f = by pool.prepared refl where
    by : (fs : List PoolFile) → pool.prepared ≡ fs → (t.file.id ≤ (readied true f pool t).file.id) × ((readied true f pool t).file.id ≤ (pool_readied true pool).highest) × (pool.highest ≤ (pool_readied true pool).highest) × ((cond (is_nil pool.prepared) (pool.highest + 1) pool.highest ≤ pool.highest) ⊎ (pool.highest + 1 ≤ (readied true f pool t).file.id))
    by [] e = rw e (omega (arith, used_within), omega arith, omega arith, inr (omega arith))
    by (x ∷ xs) e = let n = next_number x xs e in rw e (n.0, n.1, omega arith, inl (omega arith))

  -- a call for the next file failed
  pub unreadied_numbers : (m : Bool) → (cond (m && is_nil pool.prepared) (pool.highest + 1) pool.highest ≤ pool.highest) ⊎ (pool.highest + 1 ≤ t.file.id + 1)
  unreadied_numbers false = inl (omega arith)
  unreadied_numbers true = by pool.prepared refl where
    by : (fs : List PoolFile) → pool.prepared ≡ fs → (cond (is_nil pool.prepared) (pool.highest + 1) pool.highest ≤ pool.highest) ⊎ (pool.highest + 1 ≤ t.file.id + 1)
    by [] e = inr (omega (arith, last_in_use e))
    by (x ∷ xs) e = rw e (inl (omega arith))

-- nothing was called
still_worked : (d : Bool) (used : FileName) (size h : ℕ) (a : Option Past) → Worked d (SparesAllBut (IsUsedOrNew used (h + 1) h)) size h h a a
still_worked d used size h a = wrote_only used size h a a a (works_still (SparesAllBut (λ n. n ≡ used)) size h a (λ s n out. refl)) d

-- ---- a call of an engine

module _ (done : Bool) (first past : Option Past) (lists : Option Lists) (room : ℕ) (config : Config) (table : TxState) (pool : PoolOf) (t : Tail) (ranges : IsConfig config) (sound : IsSound past lists room config table pool t) (lists' : Option Lists) (gone : lists ≡ None → lists' ≡ None) where
  abbrev end : ℕ
  end = end_of_tail t

  abbrev So : Lists → Type 0
  So l = HasFilesSoFar done config t.file.id end pool.highest l first past

  -- which went on to that file, or prepared one
  pub so_far_call : (d : Bool) (past' : Option Past) (file' end' h' most : ℕ) → Worked d (SparesAllBut (IsUsedOrNew t.file.name (pool.highest + 1) most)) pool.config.file_size pool.highest most past past' → most ≤ pool.highest + 1 → most ≤ 2 ^ 31 - 1 → pool.highest ≤ h' → (d ≡ true → most ≡ h') → (d ≡ false → h' ≡ pool.highest) → t.file.id ≤ file' → file' ≤ h'
      → (most ≤ pool.highest) ⊎ (pool.highest + 1 ≤ cond d file' (file' + 1)) → (d ≡ true → Told past IsTidy → Told past' IsTidy) → ((first : ℕ) → IfSome lists (StandsFrom config first t.file.id end) → IfSome lists' (StandsFrom config first file' end')) → IfSome lists So → IfSome lists' (λ l. HasFilesSoFar (done && d) config file' end' h' l first past')
  so_far_call d past' file' end' h' most work next low up made unmade later within needs tidy stands is =
      let K : Files → Files → Type 0 = SparesAllBut (IsUsedOrNew t.file.name (pool.highest + 1) most) in
      let two : Worked d K config.file_size pool.highest most past past' = subst (λ (k : Config). Worked d K k.file_size pool.highest most past past') sound.parts.same_config work in
      so_far_lists So (λ l. HasFilesSoFar (done && d) config file' end' h' l first past') config t.file.id end file' end' lists lists' gone stands
      (λ l l' stand f. so_far_more done d config t.file.id end pool.highest file' end' h' most l l' first past past' t.file.name f (sound_used past lists room config table pool t ranges sound) two (used_within config table pool t sound.parts) next low up made unmade later within needs tidy stand) is

  -- which called nothing
  pub so_far_still : (d : Bool) → ((first : ℕ) → IfSome lists (StandsFrom config first t.file.id end) → IfSome lists' (StandsFrom config first t.file.id end)) → IfSome lists So → IfSome lists' (λ l. HasFilesSoFar (done && d) config t.file.id end pool.highest l first past)
  so_far_still d stands is =
      so_far_call d past t.file.id end pool.highest pool.highest (still_worked d t.file.name pool.config.file_size pool.highest past) (omega arith) sound.parts.numbers (omega arith) (λ e. refl) (λ e. refl) (omega arith) (used_within config table pool t sound.parts) (inl (omega arith)) (λ d tidy. tidy) stands is

  -- which may have written what waited
  pub so_far_wrote : (past' : Option Past) (file' end' : ℕ) → Works (SparesAllBut (λ n. n ≡ t.file.name)) pool.config.file_size pool.highest pool.highest past past' → file' ≡ t.file.id → ((first : ℕ) → IfSome lists (StandsFrom config first t.file.id end) → IfSome lists' (StandsFrom config first file' end')) → IfSome lists So → IfSome lists' (λ l. HasFilesSoFar done config file' end' pool.highest l first past')
  so_far_wrote past' file' end' wrote same stands is =
      subst (λ (d : Bool). IfSome lists' (λ l. HasFilesSoFar d config file' end' pool.highest l first past')) (and_true done)
      (so_far_call true past' file' end' pool.highest pool.highest (wrote_only t.file.name pool.config.file_size pool.highest past past' past' wrote true) (omega arith) sound.parts.numbers (omega arith) (λ e. refl) (λ e. refl) (omega (arith, same)) (omega (arith, same, used_within config table pool t sound.parts)) (inl (omega arith)) (λ d tidy. told_spared t.file.name t.file.id past past' (sound_used past lists room config table pool t ranges sound) wrote.keeps tidy) stands is)
    where
      and_true : (b : Bool) → (b && true) ≡ b
      and_true true = refl
      and_true false = refl

-- ---- an opening

-- which is whole
pub opened_so_far : (config : Config) (files before first file end highest n : ℕ) (txs : List ℕ) (l : Lists) (a b c : Option Past) → first ≡ before + 1 → Told a (HasNumbers files before) → Works (SyncsAllBut (IsRenewed a before (before + 1))) config.file_size before (before + 1) a b → WorkedTo true config.file_size (before + 1) (before + 1) highest b c → first ≤ file
    → highest ≡ file + n → n ≡ min (config.min_files - (files + (file + 1 - first))) (2 ^ 31 - 1 - file) → (config.min_files ≤ files + (highest - before)) ⊎ (highest ≡ 2 ^ 31 - 1) → history_of l.steps ≡ rollbacks_behind config first 16 txs → EndsIn first (history_of l.steps) file end → Told c IsTidy → HasFilesSoFar true config file end highest l a c
opened_so_far config files before first file end highest n txs l a b c at had begun w later up many enough placed ends tidy =
    let history = history_of l.steps in
    let is : file ≡ file_of_last (before + 1) history = ends.0 ∙ ap (λ (k : ℕ). file_of_last k history) at in
    let so = opened_has true config history files before highest a b c had begun w (omega (arith, is, up)) (λ d. enough) (needed (ltb 0 n) refl is) (λ d. tidy) in
    record {
      files = so.0;
      reached = so.1;
      next = omega (arith, so.2, w.next);
      all = λ d. so.2 ∙ w.all d;
      begun = omega (arith, so.3, at, later);
      stands = subst (λ (k : ℕ). StandsFrom config k file end l) (at ∙ sym (ap (λ (k : ℕ). k + 1) so.3)) (subst (λ (h : List Placed). StandBehind config first 16 h) (sym placed) (rollbacks_stand config first 16 txs), ends);
    }
  where
    needed : (b : Bool) → ltb 0 n ≡ b → file ≡ file_of_last (before + 1) (history_of l.steps) → (highest ≡ file_of_last (before + 1) (history_of l.steps)) ⊎ (files + (w.most - before) ≤ config.min_files)
    needed true some is = inr (omega (arith, ltb-true 0 n some, many, up, at, later, w.all refl))
    needed false none is = inl (omega (arith, ltb-false 0 n none, up, is))

-- a flush keeps the configuration
pub flushed_config : {D C : Type 0} (r : Result ℕ Refusal) (e v : EngineOf D C) → OnOk r (v ≡ record (flushed e) { disk = v.disk; chronicle = v.chronicle }) → OnErr r (v ≡ record e { disk = v.disk; chronicle = v.chronicle; closed = closed_after r e.closed }) → v.config ≡ e.config
flushed_config (Ok count) e v is err = ap (λ w. w.config) is
flushed_config (Err refusal) e v ok is = ap (λ w. w.config) is

-- the file stays the same where a record is put behind
pub put_file : (now : ℕ) (rec : Option Record) (t u : Tail) → u ≡ with_put now rec t → u.file.id ≡ t.file.id
put_file now None t u is = ap (λ (x : Tail). x.file.id) is
put_file now (Some r) t u is = ap (λ (x : Tail). x.file.id) is
