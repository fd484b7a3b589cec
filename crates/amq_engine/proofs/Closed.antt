-- What a journal leaves whose appends are all durable.
use Rattle.std.proofs.Common.{◌≡◌, inl, inr, ℕ, ◌+◌, ◌-◌, ◌^◌, ◌≤◌, List, [], ◌∷◌, ◌++◌, length, take, Option, None, Some, refl, sym, ap, subst, ◌∙◌, arith}
use Rattle.std.specs.Prelude.{IfSome, OnOk, All, Result, Ok, Err}
use Rattle.std.proofs.lemmas.List.{take_all}
use Rattle.amq_model.specs.declared.config.Config.{Config}
use Rattle.amq_model.specs.declared.record.Placed.{Placed}
use Rattle.amq_model.specs.Answers.{history_of}
use Rattle.amq_model.specs.Calls.{Past, content}
use Rattle.amq_model.specs.Configs.{IsConfig}
use Rattle.amq_model.specs.Files.{Files}
use Rattle.amq_model.specs.Leaves.{Told}
use Rattle.amq_model.proofs.Keeping.{all_told}
use Rattle.amq_tx.specs.State.{TxState}
use Rattle.amq_scan.specs.Written.{Item}
use Rattle.amq_scan.specs.Segments.{Segment, records_of, IsSegment, AreClosed}
use Rattle.amq_pool.specs.declared.pool.PoolFile.{PoolFile}
use Rattle.amq_pool.specs.Pools.{PoolOf, numbered_file, file_for}
use Rattle.amq_engine.specs.declared.tail.Tail.{Tail}
use Rattle.amq_engine.specs.Directory.{segment, bare, all_files, AreListed, ArePrepared, Stands, StandsNow, IsJournal}
use Rattle.amq_engine.specs.Engine.{IsNewItem, IsTold, records, Parts, IsSound}
use Rattle.amq_engine.specs.Lists.{Lists}
use Rattle.amq_engine.proofs.Segments.{number_names, in_use_segment, prepared_segment}
use Rattle.amq_engine.proofs.Holding.{listed_behind, all_ascend, all_named, listed_more, length-records, records_of_all, records_since, items_of}

pub when_ok : {T E : Type 0} (r : Result T E) (P Q : Type 0) → (P → Q) → OnOk r P → OnOk r Q
when_ok (Ok x) P Q f h = f h
when_ok (Err e) P Q f h = tt

-- ---- the journal

closed_with : (wanted : ℕ) (s : Files) (gs hs : List Segment) → AreClosed wanted s gs → AreClosed wanted s hs → AreClosed wanted s (gs ++ hs)
closed_with wanted s [] hs a b = b
closed_with wanted s (g ∷ gs) hs a b = (a.0, closed_with wanted s gs hs a.1 b)

free_closed : (config : Config) (highest least : ℕ) (s : Files) (free : List PoolFile) → IsConfig config → highest ≤ 2 ^ 31 - 1 → AreListed highest least free → ArePrepared config s free → AreClosed config.user_version s (bare free)
free_closed config highest least s [] ranges low listed are = tt
free_closed config highest least s (f ∷ fs) ranges low listed are = (
  record {
    file = file_for config f.id;
    there = are.0;
    is = prepared_segment config f ranges (number_names f.name listed.2.0 listed.2.1) (omega (arith, listed.1, low));
    still = λ i none. none;
  },
  free_closed config highest (f.id + 1) s fs ranges low listed.4 are.1,
)

module _ (config : Config) (old closed : List Segment) (used : PoolFile) (sure : ℕ) (items : List Item) (base : List Placed) (ranges : IsConfig config) (new : All IsNewItem items) (flushed : sure ≡ length items) (based : records_of old ≡ base) where
  journal_of : (highest : ℕ) (free : List PoolFile) (s : Files) → AreListed highest 0 (all_files (old ++ closed) used free) → highest ≤ 2 ^ 31 - 1 → Stands config (old ++ closed) used sure items free s → IsJournal config.user_version base (records closed used items) s
  journal_of highest free s listed low st =
      let u = st.used_there in
      let l = (listed_behind highest 0 (old ++ closed) (used ∷ free) listed).1 in
      let whole : take u.put items ≡ items = take_all u.put items (omega (arith, u.ahead, flushed)) in
      let files : List Segment = (old ++ closed) ++ segment used items ∷ bare free in
      record {
        files = files;
        is = record {
          ascending = all_ascend highest 0 (old ++ closed) used items free listed;
          there = closed_with config.user_version s (old ++ closed) (segment used items ∷ bare free) st.closed_there (
            record {
              file = u.file;
              there = u.there;
              is = subst (λ (xs : List Item). IsSegment config.user_version (segment used xs) u.file.bytes) whole (in_use_segment config used ranges (number_names used.name l.2.0 l.2.1) (omega (arith, l.1, low)) sure items (items_of items new) s u);
              still = u.still flushed;
            },
            free_closed config highest (used.id + 1) s free ranges low l.4 st.free_there,
          );
          only = λ n file named long there. all_named n (old ++ closed) used items free (st.only n file named long there);
          uncontrolled = st.uncontrolled;
        };
        records = records_of_all (old ++ closed) used items free ∙ records_since old closed used items base based;
      }

  -- The directory holds a whole journal, where all records of the file in use are durable.
  stands_journal : (highest : ℕ) (free : List PoolFile) (s : Files) → AreListed highest 0 (all_files (old ++ closed) used free) → highest ≤ 2 ^ 31 - 1 → StandsNow config (old ++ closed) used sure items highest free s → IsJournal config.user_version base (records closed used items) s
  stands_journal highest free s listed low (inl st) = journal_of highest free s listed low st
  stands_journal highest free s listed low (inr st) = journal_of (highest + 1) (free ++ numbered_file (highest + 1) ∷ []) s (listed_more highest (old ++ closed) used free st.0 listed) (omega (arith, st.0)) st.1

-- ---- the engine's journal

module _ (past : Option Past) (lists : Option Lists) (room : ℕ) (config : Config) (table : TxState) (pool : PoolOf) (t : Tail) (s : IsSound past lists room config table pool t) where
  abbrev history : List Placed
  history = records s.parts.closed t.file s.parts.items

  -- what the disk reads
  journal_now : t.durable ≡ t.appended → IsConfig config → Told past (IsJournal config.user_version s.parts.base history)
  journal_now flushed ranges = goes past (all_told past (StandsNow config (p.old ++ p.closed) t.file p.sure p.items pool.highest pool.prepared) s.reads_now) (omega (arith, p.durable, p.count, flushed))
    where
      p : Parts config table pool t
      p = s.parts

      goes : (h : Option Past) → Told h (StandsNow config (p.old ++ p.closed) t.file p.sure p.items pool.highest pool.prepared) → p.sure ≡ length p.items → Told h (IsJournal config.user_version p.base (records p.closed t.file p.items))
      goes None told all = tt
      goes (Some q) told all = stands_journal config p.old p.closed t.file p.sure p.items p.base ranges p.new all p.based pool.highest pool.prepared (content q.start q.calls) p.listed p.numbers told

  -- of this base it has this history
  journal_by : (base l : List Placed) → s.parts.base ≡ base → history ≡ l → t.durable ≡ t.appended → IsConfig config → Told past (IsJournal config.user_version base l)
  journal_by base l based is flushed ranges =
      subst (λ (b : List Placed). Told past (IsJournal config.user_version b l)) based (subst (λ (h : List Placed). Told past (IsJournal config.user_version s.parts.base h)) is (journal_now flushed ranges))

  -- it has the chronicle's base and the steps' history
  pub sound_journal : t.durable ≡ t.appended → IsConfig config → IfSome lists (λ l. Told past (IsJournal config.user_version l.base (history_of l.steps)))
  sound_journal flushed ranges = by lists s.told where
    by : (o : Option Lists) → IfSome o (IsTold past config.user_version s.parts.base t.durable history s.parts.steps) → IfSome o (λ l. Told past (IsJournal config.user_version l.base (history_of l.steps)))
    by None told = tt
    by (Some l) told = journal_by l.base (history_of l.steps) (sym told.base) (sym (ap history_of told.same ∙ s.parts.placed)) flushed ranges

  -- with no append it has no history
  pub sound_bare_journal : (base : List Placed) → s.parts.base ≡ base → t.appended ≡ 0 → t.durable ≡ 0 → IsConfig config → Told past (IsJournal config.user_version base [])
  sound_bare_journal base based nothing none ranges =
      journal_by base [] based (of_none history (omega (arith, s.parts.count, nothing, length-records s.parts.closed t.file s.parts.items))) (omega (arith, nothing, none)) ranges
    where
      of_none : (l : List Placed) → length l ≡ 0 → l ≡ []
      of_none [] is = refl
      of_none (p ∷ ps) is = absurd (omega (arith, is))
