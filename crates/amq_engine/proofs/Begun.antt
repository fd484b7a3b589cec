-- A journal that begins on the directory that was loaded.
use Rattle.std.proofs.Common.{◌≡◌, ◌⊎◌, inl, inr, ℕ, ◌+◌, ◌-◌, ◌^◌, ◌<◌, ◌≤◌, false, List, [], ◌∷◌, ◌++◌, length, Option, None, Some, Result, Ok, Err, refl, sym, ◌∙◌, ap, subst, arith}
use Rattle.std.specs.Prelude.{IfSome, OnOk, IsTrue, All, is_err, option_map, take, map as map_of}
use Rattle.std.specs.List.{AllByRecursion}
use Rattle.std.specs.FinMap as finite
use Rattle.std.proofs.lemmas.List.{append-nil}
use Rattle.amq_model.specs.declared.config.Config.{Config}
use Rattle.amq_model.specs.declared.record.Placed.{Placed}
use Rattle.amq_model.specs.declared.history.Step.{Step}
use Rattle.amq_model.specs.Configs.{IsConfig}
use Rattle.amq_model.specs.Names.{is_data, control_name}
use Rattle.amq_model.specs.Files.{FileName, Files, File}
use Rattle.amq_model.specs.Calls.{Past, content}
use Rattle.amq_model.specs.Answers.{history_of}
use Rattle.amq_model.specs.Legal.{rolled_back}
use Rattle.amq_model.specs.Headline.{RecoversSince}
use Rattle.amq_model.specs.Leaves.{Told, Leaves, Syncs, AllReads, HoldsSince, IsAt}
use Rattle.amq_model.proofs.Chain.{told_then}
use Rattle.amq_model.specs.LoadCalls.{Makes}
use Rattle.amq_model.proofs.Moments.{syncs_until}
use Rattle.amq_model.proofs.Making.{made_until}
use Rattle.amq_model.proofs.Keeping.{reads_on, reads_weaker, holds_now, kept_from}
use Rattle.amq_buffer.specs.Buffered.{Buffered}
use Rattle.amq_header.specs.Classes.{data_name, temporary_name}
use Rattle.amq_header.proofs.Made.{data_is_read}
use Rattle.amq_io.specs.Faults.{HasFault}
use Rattle.amq_io.specs.Cause.{Faults, NoneFailed}
use Rattle.amq_io.specs.declared.faults.DiskFault.{DiskFault}
use Rattle.amq_io.specs.declared.faults.DiskFault.TheVariants as f
use Rattle.amq_scan.specs.Segments.{Segment, records_of, AreAscending, IsNamed, IsClosedDirectory, IsDirectory}
use Rattle.amq_scan.proofs.Parts.{Has, has_contains, contains_has}
use Rattle.amq_pool.specs.declared.pool.PoolFile.{PoolFile}
use Rattle.amq_pool.specs.Pools.{PoolOf, IsPool, ids_of, numbered_file, file_for, Making, Made}
use Rattle.amq_tx.specs.State.{TxState}
use Rattle.amq_tx.specs.Follows.{Follows}
use Rattle.amq_loader.specs.Bases.{AreNamed, IsBaseFile, IsBase, Clears, Cleared}
use Rattle.amq_loader.specs.Loads.{IsTidy}
use Rattle.amq_loader.proofs.Bases.{closed_clears, closed_is_directory}
use Rattle.amq_engine.specs.declared.chronicle.Receipted.{Receipted}
use Rattle.amq_engine.specs.Lists.{Lists, with_base, with_receipt}
use Rattle.amq_engine.specs.Directory.{Stands, StandsNow, AreListed, HasName, named_file, all_files, files_from}
use Rattle.amq_engine.specs.Engine.{rolling, Holds, IsValid, AreKept, IsTold, IsBlank, open_fault}
use Rattle.amq_engine.specs.Opening.{HasNumbers, HasOpenCause, AreLeft, AreFirstRollbacks, rollbacks_behind}
use Rattle.amq_engine.specs.Receipts.{AreInOrder, IsLastCount, IsCrashSafe, Anything, GoesOn, AreOpeningCalls, BeginsBySyncs}
use Rattle.amq_engine.proofs.Tidying.{tidy_made}
use Rattle.amq_engine.proofs.Receipts.{if_some}
use Rattle.amq_engine.proofs.Recovering.{told_safe}
use Rattle.amq_engine.proofs.Holding.{stands_holds}
use Rattle.amq_engine.proofs.Segments.{number_names}
use Rattle.amq_engine.proofs.Listing.{listed_next, next_apart, has_back, has_closed}
use Rattle.amq_engine.proofs.Standing.{Matters, kept_but, closed_kept, closed_data, same_or_not, control_apart, temporary_apart, prepared_in_use}

-- ---- the files of a base, as a journal lists them

mapped_named : (n : FileName) (gs : List Segment) → HasName n (map_of named_file gs) → IsNamed n gs
mapped_named n [] h = h
mapped_named n (g ∷ gs) (inl e) = inl e
mapped_named n (g ∷ gs) (inr h) = inr (mapped_named n gs h)

named_mapped : (n : FileName) (gs : List Segment) → IsNamed n gs → HasName n (map_of named_file gs)
named_mapped n [] h = h
named_mapped n (g ∷ gs) (inl e) = inl e
named_mapped n (g ∷ gs) (inr h) = inr (named_mapped n gs h)

files_listed : (highest least : ℕ) (gs : List Segment) → AreAscending least gs → AreNamed highest gs → AllByRecursion (IsBaseFile highest) gs → AreListed highest least (map_of named_file gs)
files_listed highest least [] ascending named each = tt
files_listed highest least (g ∷ gs) ascending named each = (ascending.0, each.0.id, named.0, λ h. named.1 (mapped_named g.name gs h), files_listed highest (g.id + 1) gs ascending.1 named.2 each.1)

-- ---- the directory

-- all that matters is as it was
closed_same : (wanted : ℕ) (gs : List Segment) (o s : Files) → ((q : FileName) → Matters q → finite.get s q ≡ finite.get o q) → IsClosedDirectory wanted gs o → IsClosedDirectory wanted gs s
closed_same wanted gs o s kept was = record {
  ascending = was.ascending;
  there = closed_kept wanted o s gs (λ q h. kept q (inl (closed_data wanted o gs q was.there h))) was.there;
  only = λ n file named long there. was.only n file named long (sym (kept n (inl named)) ∙ there);
  uncontrolled = kept control_name (inr refl) ∙ was.uncontrolled;
}

-- it holds its records, and nothing behind them
pub closed_holds : (wanted : ℕ) (base : List Placed) (gs : List Segment) (s : Files) → records_of gs ≡ base → IsClosedDirectory wanted gs s → Holds wanted base 0 [] s
closed_holds wanted base gs s based closed =
    let count : length (records_of gs) ≡ length base + 0 = omega (arith, ap (λ (l : List Placed). length l) based) in
    record {
      files = gs;
      sure = 0;
      put = 0;
      enough = omega arith;
      ahead = omega arith;
      within = omega arith;
      is = subst (λ (k : ℕ). IsDirectory wanted k gs s) count (closed_is_directory wanted gs s closed);
      records = based ∙ sym (append-nil base);
      last = 0;
      one = λ k d lt. absurd (omega (arith, lt));
    }

module _ (config : Config) (ranges : IsConfig config) (highest : ℕ) (low : highest < 2 ^ 31 - 1) (base : List Placed) (gs : List Segment) (based : records_of gs ≡ base)
    (ascending : AreAscending 0 gs) (named : AreNamed highest gs) (each : AllByRecursion (IsBaseFile highest) gs) where
  -- the file that is begun
  abbrev begun : PoolFile
  begun = numbered_file (highest + 1)

  old_listed : AreListed highest 0 (map_of named_file gs)
  old_listed = files_listed highest 0 gs ascending named each

  pub base_listed : AreListed (highest + 1) 0 (all_files gs begun [])
  base_listed = listed_next highest 0 (map_of named_file gs) old_listed (omega arith) low

  new_data : IsTrue (is_data (data_name (highest + 1)))
  new_data = number_names (data_name (highest + 1)) (highest + 1) (data_is_read (highest + 1) (omega (arith, low)))

  -- none of the old files has its name
  old_apart : (q : FileName) → IsNamed q gs → q ≡ data_name (highest + 1) → ⊥
  old_apart q h e = next_apart highest 0 (map_of named_file gs) old_listed (omega (arith, low)) (named_mapped (data_name (highest + 1)) gs (subst (λ (n : FileName). IsNamed n gs) e h))

  module _ (o s : Files) (was : IsClosedDirectory config.user_version gs o) (others : (q : FileName) → (q ≡ temporary_name (highest + 1) → ⊥) → (q ≡ data_name (highest + 1) → ⊥) → finite.get s q ≡ finite.get o q) where
    kept : (q : FileName) → Matters q → (q ≡ data_name (highest + 1) → ⊥) → finite.get s q ≡ finite.get o q
    kept q matters ne = others q (temporary_apart (highest + 1) q matters) ne

    new_stands : finite.get s (data_name (highest + 1)) ≡ Some (file_for config (highest + 1)) → Stands config gs begun 0 [] [] s
    new_stands there = record {
      closed_there = closed_kept config.user_version o s gs (λ q h. kept q (inl (closed_data config.user_version o gs q was.there h)) (old_apart q h)) was.there;
      used_there = prepared_in_use config begun ranges s there;
      free_there = tt;
      only = λ n file plain long is. by n file plain long is (same_or_not n (data_name (highest + 1)));
      uncontrolled = kept control_name (inr refl) (λ e. control_apart (data_name (highest + 1)) new_data (sym e)) ∙ was.uncontrolled;
    } where
      by : (n : FileName) (file : File) → IsTrue (is_data n) → 16 ≤ length file.bytes → finite.get s n ≡ Some file → (n ≡ data_name (highest + 1)) ⊎ (n ≡ data_name (highest + 1) → ⊥) → HasName n (all_files gs begun [])
      by n file plain long is (inl e) = has_back n (map_of named_file gs) (begun ∷ []) (inl (sym e))
      by n file plain long is (inr ne) = has_closed n gs begun [] (was.only n file plain long (sym (kept n (inl plain) ne) ∙ is))

    new_holds : (finite.get s (data_name (highest + 1)) ≡ finite.get o (data_name (highest + 1))) ⊎ ((finite.get s (data_name (highest + 1)) ≡ Some (file_for config (highest + 1))) × (finite.get s (temporary_name (highest + 1)) ≡ None)) → Holds config.user_version base 0 [] s
    new_holds (inl same) = closed_holds config.user_version base gs s based (closed_same config.user_version gs o s (kept_but o s (data_name (highest + 1)) kept same) was)
    new_holds (inr there) = stands_holds config gs [] begun 0 [] (highest + 1) [] base s 0 ranges (λ k x lt. absurd (omega (arith, lt))) (omega arith) (omega (arith, low))
        (subst (λ (l : List Segment). AreListed (highest + 1) 0 (all_files l begun [])) (sym (append-nil gs)) base_listed) based (omega arith)
        (subst (λ (l : List Segment). Stands config l begun 0 [] [] s) (sym (append-nil gs)) (new_stands there.0))

  -- while the leftovers are removed
  reads_cleared : (names : List FileName) (a b : Option Past) → Told a (AreLeft names) → AllReads a (IsClosedDirectory config.user_version gs) → Leaves (Clears names) (Clears names) a b → AllReads b (IsClosedDirectory config.user_version gs)
  reads_cleared names None b left now went = let F : Option Past → Type 0 = λ h. AllReads h (IsClosedDirectory config.user_version gs) in subst F (sym went) tt
  reads_cleared names (Some p) b left now went =
      reads_on (Clears names) (Clears names) (IsClosedDirectory config.user_version gs) (IsClosedDirectory config.user_version gs) (Some p) b now (λ o s closed clears. closed_clears config.user_version names gs o s left.others closed clears) went

  pub kept_cleared : (names : List FileName) (t : ℕ) (a b : Option Past) → Told a (AreLeft names) → AllReads a (IsClosedDirectory config.user_version gs) → Leaves (Clears names) (Clears names) a b
      → HoldsSince a t (Holds config.user_version base 0 []) → HoldsSince b t (Holds config.user_version base 0 [])
  kept_cleared names t None b left now went holds = let F : Option Past → Type 0 = λ h. HoldsSince h t (Holds config.user_version base 0 []) in subst F (sym went) tt
  kept_cleared names t (Some p) b left now went holds =
      kept_from (Clears names) (Clears names) (Holds config.user_version base 0 []) (IsClosedDirectory config.user_version gs) t (Some p) b holds now
      (λ o s closed clears. closed_holds config.user_version base gs s based (closed_clears config.user_version names gs o s left.others closed clears)) went

  -- and while the new file is prepared
  pub kept_making : (names : List FileName) (t : ℕ) (a b d : Option Past) → Told a (AreLeft names) → AllReads a (IsClosedDirectory config.user_version gs) → Leaves (Clears names) (Clears names) a b → Leaves (Making config (highest + 1)) (Making config (highest + 1)) b d
      → HoldsSince a t (Holds config.user_version base 0 []) → HoldsSince d t (Holds config.user_version base 0 [])
  kept_making names t a b d left now cleared went holds =
      kept_from (Making config (highest + 1)) (Making config (highest + 1)) (Holds config.user_version base 0 []) (IsClosedDirectory config.user_version gs) t b d
      (kept_cleared names t a b left now cleared holds) (reads_cleared names a b left now cleared) (λ o s closed making. new_holds o s closed making.others making.final) went

  -- in the end it is in use
  pub reads_begun : (names : List FileName) (a b d : Option Past) → Told a (AreLeft names) → AllReads a (IsClosedDirectory config.user_version gs) → Leaves (Clears names) (Clears names) a b → Leaves (Making config (highest + 1)) (Made config (highest + 1)) b d
      → AllReads d (Stands config gs begun 0 [] [])
  reads_begun names a b d left now cleared went =
      reads_on (Making config (highest + 1)) (Made config (highest + 1)) (IsClosedDirectory config.user_version gs) (Stands config gs begun 0 [] []) b d (reads_cleared names a b left now cleared)
      (λ o s closed made. new_stands o s closed made.others made.final) went

-- ---- what was left is gone

has_or_not : (ns : List FileName) (n : FileName) → Has ns n ⊎ (Has ns n → ⊥)
has_or_not [] n = inr (λ none. none)
has_or_not (m ∷ ms) n = by (same_or_not m n) (has_or_not ms n) where
  by : (m ≡ n) ⊎ (m ≡ n → ⊥) → Has ms n ⊎ (Has ms n → ⊥) → Has (m ∷ ms) n ⊎ (Has (m ∷ ms) n → ⊥)
  by (inl e) rest = inl (inl e)
  by (inr ne) (inl h) = inl (inr h)
  by (inr ne) (inr nh) = inr none
    where
      none : Has (m ∷ ms) n → ⊥
      none (inl e) = ne e
      none (inr h) = nh h

-- behind the removals
tidy_cleared : (names : List FileName) (o s : Files) → AreLeft names o → Cleared names o s → IsTidy s
tidy_cleared names o s left cleared n is = by (has_or_not names n) where
  by : Has names n ⊎ (Has names n → ⊥) → finite.get s n ≡ None
  by (inl h) = cleared.gone n (has_contains names n h)
  by (inr nh) = cleared.others n (λ there. nh (contains_has names n there)) ∙ left.all n is (λ there. nh (contains_has names n there))

-- and behind the new file
pub told_tidy : (config : Config) (highest : ℕ) (names : List FileName) (a b d : Option Past) → highest < 2 ^ 31 - 1 → Told a (AreLeft names) → Leaves (Clears names) (Cleared names) a b → Leaves (Making config (highest + 1)) (Made config (highest + 1)) b d → Told d IsTidy
told_tidy config highest names a b d low left cleared went =
    told_then (Making config (highest + 1)) (Made config (highest + 1)) IsTidy IsTidy b d (told_then (Clears names) (Cleared names) (AreLeft names) IsTidy a b left (λ o s l c. tidy_cleared names o s l c) cleared) (λ o s t m. tidy_made config highest o s low t m) went

-- since the receipt of nothing the base is held
pub base_now : (wanted highest t : ℕ) (base : List Placed) (h : Option Past) → IsBase h wanted highest base → IfSome h (IsAt t) → t < 2 ^ 64 - 1 → HoldsSince h t (Holds wanted base 0 [])
base_now wanted highest t base h b at early = holds_now (Holds wanted base 0 []) t h at early (reads_weaker (IsClosedDirectory wanted b.files) (Holds wanted base 0 []) h (λ s closed. closed_holds wanted base b.files s b.records closed) b.reads)

-- ---- what is noted

-- a chronicle that was blank, behind the base and the first receipt
pub record IsNoted (base : List Placed) (moment : ℕ) (l : Lists) : Type 0 where
  pub base_is : l.base ≡ base
  pub steps : l.steps ≡ []
  pub receipts : l.receipts ≡ record { durable = 0; moment = moment; steps = 0 } ∷ []

pub noted : (base : List Placed) (moment : ℕ) (lists lists' : Option Lists) → IfSome lists IsBlank → lists' ≡ option_map (with_receipt 0 moment) (option_map (with_base base) lists) → IfSome lists' (IsNoted base moment)
noted base moment lists lists' blank is = subst (λ (l : Option Lists). IfSome l (IsNoted base moment)) (sym is) (by lists blank) where
  by : (o : Option Lists) → IfSome o IsBlank → IfSome (option_map (with_receipt 0 moment) (option_map (with_base base) o)) (IsNoted base moment)
  by None blank = tt
  by (Some l) blank = record { base_is = refl; steps = blank.1; receipts = ap (λ (rs : List Receipted). rs ++ record { durable = 0; moment = moment; steps = length l.steps } ∷ []) blank.2 ∙ ap (λ (ss : List Step). record { durable = 0; moment = moment; steps = length ss } ∷ []) blank.1 }

module _ (d : Option Past) (wanted : ℕ) (base : List Placed) (m : ℕ) (holds : m < 2 ^ 64 - 1 → HoldsSince d m (Holds wanted base 0 [])) where
  noted_told : (l : Lists) → IsNoted base m l → IsTold d wanted base 0 [] [] l
  noted_told l n = record {
    base = n.base_is;
    same = n.steps;
    kept = subst (AreKept d wanted base 0 []) (sym n.receipts) ((omega arith, holds), tt);
  }

  noted_order : (later : ℕ) → m ≤ later → (l : Lists) → IsNoted base m l → AreInOrder later l.receipts
  noted_order later on l n = subst (AreInOrder later) (sym n.receipts) (refl, on)

  noted_last : (l : Lists) → IsNoted base m l → IsLastCount 0 l.receipts
  noted_last l n = subst (IsLastCount 0) (sym n.receipts) refl

-- it is crash safe from the first receipt on
pub noted_safe : (d : Option Past) (config : Config) (base : List Placed) (m later : ℕ) (lists : Option Lists) → m ≤ later → (m < 2 ^ 64 - 1 → HoldsSince d m (Holds config.user_version base 0 [])) → IfSome lists (IsNoted base m) → IfSome lists (IsCrashSafe d later config.user_version)
noted_safe d config base m later lists on holds is = if_some (IsNoted base m) (IsCrashSafe d later config.user_version) lists (λ l n.
    told_safe d later config base 0 [] [] l refl tt (omega arith) (noted_told d config.user_version base m holds l n) (noted_order d config.user_version base m holds later on l n)) is

-- ---- the engine of a journal that began

pub begun_valid : (config : Config) (ranges : IsConfig config) (highest : ℕ) (low : highest < 2 ^ 31 - 1) (base : List Placed) (a d : Option Past) (b : IsBase a config.user_version highest base) (m later : ℕ) (lists : Option Lists) (room : ℕ) (table : TxState) (buffer : Buffered) (pool : PoolOf) (file : PoolFile) → m ≤ later
    → (m < 2 ^ 64 - 1 → HoldsSince d m (Holds config.user_version base 0 [])) → AllReads d (Stands config b.files (numbered_file (highest + 1)) 0 [] []) → IfSome lists (IsNoted base m) → Follows table base []
    → buffer ≡ record { bytes = []; capacity = config.buffer_size; timeout = config.buffer_timeout; since = None } → pool ≡ record { config = config; highest = highest + 1; prepared = [] } → IsPool pool → file ≡ numbered_file (highest + 1)
    → IsValid (rolling base 0) d later lists room config table pool (record { file = file; buffer = buffer; end = 16; appended = 0; durable = 0 })
begun_valid config ranges highest low base a d b m later lists room table buffer pool file on holds reads is follows fresh bare is_pool begun =
    subst (λ (f : PoolFile). IsValid (rolling base 0) d later lists room config table pool (record { file = f; buffer = buffer; end = 16; appended = 0; durable = 0 })) (sym begun)
    (subst (λ (p : PoolOf). IsValid (rolling base 0) d later lists room config table p (record { file = new; buffer = buffer; end = 16; appended = 0; durable = 0 })) (sym bare)
    (subst (λ (u : Buffered). IsValid (rolling base 0) d later lists room config table (record { config = config; highest = highest + 1; prepared = [] }) (record { file = new; buffer = u; end = 16; appended = 0; durable = 0 })) (sym fresh) (record {
      sound = record {
        parts = record {
          base = base;
          old = b.files;
          closed = [];
          items = [];
          sure = 0;
          steps = [];
          based = b.records;
          new = λ k x lt. absurd (omega (arith, lt));
          placed = refl;
          each = tt;
          follows = follows;
          same_config = refl;
          pool_is = subst IsPool bare is_pool;
          listed = subst (λ (l : List Segment). AreListed (highest + 1) 0 (all_files l new [])) (sym (append-nil b.files)) (base_listed config ranges highest low base b.files b.records b.ascending b.named b.each);
          numbers = omega (arith, low);
          behind = let none : 0 ≡ highest + 1 - (highest + 1) = omega arith in ap (λ (k : ℕ). ids_of (files_from (highest + 1 + 1) k)) none;
          few = omega arith;
          capacity = refl;
          timeout = refl;
          first = (λ e. refl, λ e. refl);
          some = omega arith;
          durable = refl;
          count = refl;
          buffered = refl;
          place = refl;
          fits = omega (arith, ranges.file_size_least);
        };
        reads_now = reads_weaker (Stands config b.files new 0 [] []) (StandsNow config (b.files ++ []) new 0 [] (highest + 1) []) d (λ s st. inl (subst (λ (l : List Segment). Stands config l new 0 [] [] s) (sym (append-nil b.files)) st)) reads;
        room = λ some. absurd (some refl);
        told = if_some (IsNoted base m) (IsTold d config.user_version base 0 [] []) lists (λ l n. noted_told d config.user_version base m holds l n) is;
      };
      ranges = ranges;
      opening = (refl, refl, tt, refl);
      spent = tt;
      order = if_some (IsNoted base m) (λ l. AreInOrder later l.receipts) lists (λ l n. noted_order d config.user_version base m holds later on l n) is;
      last = if_some (IsNoted base m) (λ l. IsLastCount 0 l.receipts) lists (λ l n. noted_last d config.user_version base m holds l n) is;
    })))
  where
    new : PoolFile
    new = numbered_file (highest + 1)

-- ---- before the receipt

-- a chronicle without receipts is crash safe
blank_is_safe : (past : Option Past) (moment wanted : ℕ) (l : Lists) → l.receipts ≡ [] → IsCrashSafe past moment wanted l
blank_is_safe past moment wanted l none = record {
  recovers = subst (λ (rs : List Receipted). All (λ r. r.moment < 2 ^ 64 - 1 → RecoversSince past r.moment wanted l.base (history_of l.steps) r.durable) rs) (sym none) (λ k x lt. absurd (omega (arith, lt)));
  counted = subst (λ (rs : List Receipted). All (λ r. r.durable ≤ length (history_of l.steps)) rs) (sym none) (λ k x lt. absurd (omega (arith, lt)));
  receipts = subst (AreInOrder moment) (sym none) tt;
}

pub blank_safe : (past : Option Past) (moment wanted : ℕ) (lists lists' : Option Lists) → lists' ≡ lists → IfSome lists IsBlank → IfSome lists' (IsCrashSafe past moment wanted)
blank_safe past moment wanted lists lists' is blank = subst (λ (l : Option Lists). IfSome l (IsCrashSafe past moment wanted)) (sym is) (if_some IsBlank (IsCrashSafe past moment wanted) lists (λ l b. blank_is_safe past moment wanted l b.2) blank)

-- what is so of a blank chronicle, where nothing was noted
pub still_blank : (P : Lists → Type 0) (lists lists' : Option Lists) → lists' ≡ lists → ((l : Lists) → IsBlank l → P l) → IfSome lists IsBlank → IfSome lists' P
still_blank P lists lists' is from blank = subst (λ (l : Option Lists). IfSome l P) (sym is) (if_some IsBlank P lists from blank)

pub when_fine : {T E : Type 0} (r : Result T E) (P : Type 0) → is_err r ≡ false → OnOk r P → P
when_fine (Ok x) P is h = h
when_fine (Err e) P is h = absurd cc

-- ---- behind the receipt

module _ (base : List Placed) (m : ℕ) (lists : Option Lists) (notes : IfSome lists (IsNoted base m)) where
  pub noted_steps : IfSome lists (λ l. l.steps ≡ [])
  noted_steps = if_some (IsNoted base m) (λ l. l.steps ≡ []) lists (λ l n. n.steps) notes

  pub noted_lists : (P : List Placed → Type 0) → P base → IfSome lists (λ l. (l.steps ≡ []) × P l.base)
  noted_lists P has = if_some (IsNoted base m) (λ l. (l.steps ≡ []) × P l.base) lists (λ l n. (n.steps, subst P (sym n.base_is) has)) notes

  pub noted_base : (P : List Placed → Type 0) → P base → IfSome lists (λ l. IsBlank l ⊎ P l.base)
  noted_base P has = if_some (IsNoted base m) (λ l. IsBlank l ⊎ P l.base) lists (λ l n. inr (subst P (sym n.base_is) has)) notes

  -- there is a receipt
  pub noted_unblank : IfSome lists (λ l. l.receipts ≡ [] → IsBlank l)
  noted_unblank = if_some (IsNoted base m) (λ l. l.receipts ≡ [] → IsBlank l) lists (λ l n none. absurd (let e : record { durable = 0; moment = m; steps = 0 } ∷ [] ≡ [] = sym n.receipts ∙ none in cc)) notes

  -- and no rollback yet
  pub noted_rollbacks : (config : Config) (files before : ℕ) (h : Option Past) → Told h (HasNumbers files before) → IfSome lists (λ l. IsBlank l ⊎ Told h (AreFirstRollbacks config l))
  noted_rollbacks config files before h had = if_some (IsNoted base m) (λ l. IsBlank l ⊎ Told h (AreFirstRollbacks config l)) lists (λ l n. inr (by h had l n.steps)) notes
    where
      by : (h : Option Past) → Told h (HasNumbers files before) → (l : Lists) → l.steps ≡ [] → Told h (AreFirstRollbacks config l)
      by None had l none = tt
      by (Some p) had l none = record { files = files; before = before; had = had; placed = subst (λ (ss : List Step). history_of ss ≡ take (length ss) (rollbacks_behind config (before + 1) 16 (rolled_back l.base))) (sym none) refl }

  pub noted_begins : (a b d : Option Past) → IfSome b (IsAt m) → Leaves Syncs Syncs a b → Makes AreOpeningCalls a b → GoesOn b d → IfSome lists (λ l. BeginsBySyncs l.receipts a d)
  noted_begins a b d at syncs calls goes = if_some (IsNoted base m) (λ l. BeginsBySyncs l.receipts a d) lists (λ l n. subst (λ (rs : List Receipted). BeginsBySyncs rs a d) (sym n.receipts) (syncs_until Anything Anything m a b d at syncs goes, made_until AreOpeningCalls Anything Anything m a b d at calls goes)) notes

-- the new file has the number behind the greatest one, of what is told
pub told_begun : (files highest id count : ℕ) (h : Option Past) → id ≡ highest + 1 → count ≡ files → highest < 2 ^ 31 - 1 → Told h (HasNumbers files highest) → Told h (λ s. (before : ℕ) × HasNumbers count before s × (id ≡ before + 1) × (before < 2 ^ 31 - 1))
told_begun files highest id count None is same low told = tt
told_begun files highest id count (Some p) is same low told = (highest, subst (λ (k : ℕ). HasNumbers k highest (content p.start p.calls)) (sym same) told, is, low)

-- a fault behind calls of which none failed
pub behind_fault : (T : Type 0) (fault : DiskFault) (config : Config) (lists : Option Lists) (old new : Option Past) (was mid now : Faults) → NoneFailed was mid → HasFault {T = T} (Err fault) mid now → HasOpenCause config (open_fault fault) lists old new was now
behind_fault T (f.Disk call) config lists old new was mid now none cause = (omega (arith, none.0, cause.0), cause.2)
behind_fault T f.NoMemory config lists old new was mid now none cause = (omega (arith, none.0, cause.0), cause.1 ∙ none.1)
