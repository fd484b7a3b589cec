use Rattle.std.proofs.Common.{◌≡◌, ◌⊎◌, inl, inr, ⊎_elim, ◌<◌, ℕ, List, [], length, slice_get, refl, sym, ap, subst, ◌∙◌, arith, true, false}
use Rattle.std.specs.Prelude.{take, IfSome}
use Rattle.std.proofs.lemmas.Option.{slice_get-get_or}
use Rattle.amq_model.specs.declared.history.Step.{Step}
use Rattle.amq_model.specs.Answers.{history_of}
use Rattle.amq_tx.specs.Tables.{state_of}
use Rattle.amq_pool.specs.Pools.{PoolOf}
use Rattle.amq_engine.specs.DataFiles.{WorkedTo, file_of_last}
use Rattle.amq_engine.specs.Engine.{rolling, IsValid, end_of_tail}
use Rattle.amq_engine.specs.Opening.{EndsIn, NextNeedsFile, rollbacks_behind}
use Rattle.amq_engine.specs.Owed.{AreOwedAtOpening}
use Rattle.amq_engine.proofs.Receipts.{if_some}
use Rattle.amq_engine.proofs.Started.{on_err}
use Rattle.amq_engine.proofs.GoingOn.{goes_still, goes_through}
use Rattle.amq_engine.proofs.Rollbacks.{ArePlaced, placed_next, placed_front, steps_so}
use Rattle.amq_engine.proofs.DataFiles.{to_still}
use Rattle.amq_engine.proofs.OpenedFiles.{to_and_then}
use Rattle.amq_engine.proofs.rolling.roll_back.Goals as goal

pub roll_back_next-requires-clause-ended : goal.roll_back_next-requires-clause-ended
roll_back_next-requires-clause-ended g c =
    let first = c.args.tail.now.file.id in
    let t = c.loop-done.tail in
    if_some (λ l. EndsIn first (history_of l.steps) t.file.id (end_of_tail t)) (λ l. (first : ℕ) × EndsIn first (history_of l.steps) t.file.id (end_of_tail t)) (g.C.Chronicle.lists c.loop-done.chronicle) (λ l ends. (first, ends)) c.loop-done.invariant.ends

pub loop-done-init : goal.loop-done-init
loop-done-init g c =
    let t = c.args.tail.now in
    record {
      valid = λ base same v. v;
      begun = (c.requires.begun.0, c.requires.begun.1);
      base = refl;
      ends = if_some (λ l. l.steps ≡ []) (λ l. EndsIn t.file.id (history_of l.steps) t.file.id (end_of_tail t)) (g.C.Chronicle.lists c.args.chronicle.now) (λ l blank. subst (λ (steps : List Step). EndsIn t.file.id (history_of steps) t.file.id (end_of_tail t)) (sym blank) (refl, c.requires.begun.2)) c.requires.blank;
      placed = if_some (λ l. l.steps ≡ []) (λ l. ArePlaced c.args.config.now t.file.id c.args.txs.now 0 l.steps) (g.C.Chronicle.lists c.args.chronicle.now) (λ l blank. subst (λ (steps : List Step). ArePlaced c.args.config.now t.file.id c.args.txs.now 0 steps) (sym blank) (refl, refl)) c.requires.blank;
      faults = (omega arith, refl);
      later = omega arith;
      later_file = omega arith;
      tidy = λ tidy. tidy;
      first = λ r starts. starts;
      goes = goes_still (g.D.Disk.past c.args.disk.now);
      owed = λ all. all;
      named = c.requires.named;
      works = to_still true c.args.config.now.file_size c.args.pool.now.highest c.args.pool.now.highest (g.D.Disk.past c.args.disk.now) c.requires.valid.1.sound.parts.numbers;
    }

pub roll_back_next-requires-clause-valid : goal.roll_back_next-requires-clause-valid
roll_back_next-requires-clause-valid g c =
    let base = c.requires.valid.0 in (
      base,
      c.loop-done.invariant.valid base c.requires.valid.2 c.requires.valid.1,
      ap (λ (txs : List ℕ). slice_get txs c.loop-done.done) (sym c.requires.valid.2) ∙ slice_get-get_or c.args.txs.now c.loop-done.done _ (grind (arith, c.loop-done-test.true)),
    )

pub returns-in_err-roll_back_next-clause-goes_on : goal.returns-in_err-roll_back_next-clause-goes_on
returns-in_err-roll_back_next-clause-goes_on g c = goes_through (g.D.Disk.past c.args.disk.now) (g.D.Disk.past c.loop-done.disk) (g.D.Disk.past c.roll_back_next.new.disk) c.loop-done.invariant.goes c.roll_back_next.ensures.goes_on

pub loop-done-preserved : goal.loop-done-preserved
loop-done-preserved g c =
    let u = c.roll_back_next.new.tail in
    record {
      valid = λ base same v. c.in_ok-roll_back_next.ensures.ok base (ap (λ (txs : List ℕ). slice_get txs c.loop-done.done) (sym same) ∙ slice_get-get_or c.args.txs.now c.loop-done.done _ (grind (arith, c.loop-done-test.true))) (c.loop-done.invariant.valid base same v);
      begun = c.in_ok-roll_back_next.ensures.begun;
      later_file = omega (arith, c.loop-done.invariant.later_file, c.in_ok-roll_back_next.ensures.later_file);
      base = c.roll_back_next.ensures.base ∙ c.loop-done.invariant.base;
      ends = if_some _ (λ l. EndsIn c.args.tail.now.file.id (history_of l.steps) u.file.id (end_of_tail u)) (g.C.Chronicle.lists c.roll_back_next.new.chronicle) (λ l ends. ends c.args.tail.now.file.id) c.in_ok-roll_back_next.ensures.ends;
      placed =
          let next = c.in_ok-roll_back_next.ensures.stepped in
          placed_next c.args.config.now c.args.tail.now.file.id c.args.txs.now c.loop-done.done _ c.loop-done.tail.file.id (end_of_tail c.loop-done.tail) (g.C.Chronicle.lists c.loop-done.chronicle) (g.C.Chronicle.lists c.roll_back_next.new.chronicle) next.0
          (slice_get-get_or c.args.txs.now c.loop-done.done _ (grind (arith, c.loop-done-test.true))) c.loop-done.invariant.placed c.loop-done.invariant.ends next.1 next.2;
      faults = (omega (arith, c.loop-done.invariant.faults.0, c.in_ok-roll_back_next.ensures.faults.0), c.in_ok-roll_back_next.ensures.faults.1 ∙ c.loop-done.invariant.faults.1);
      later = omega (arith, c.loop-done.invariant.later, c.roll_back_next.ensures.later);
      tidy = λ tidy. c.in_ok-roll_back_next.ensures.tidy (c.loop-done.invariant.tidy tidy);
      first = λ r starts. c.roll_back_next.ensures.first r (c.loop-done.invariant.first r starts);
      goes = goes_through (g.D.Disk.past c.args.disk.now) (g.D.Disk.past c.loop-done.disk) (g.D.Disk.past c.roll_back_next.new.disk) c.loop-done.invariant.goes c.roll_back_next.ensures.goes_on;
      owed = λ all. c.in_ok-roll_back_next.ensures.owed (c.loop-done.invariant.owed all);
      named = c.in_ok-roll_back_next.ensures.named;
      works = to_and_then true c.args.config.now.file_size c.args.pool.now.highest c.loop-done.pool.highest c.roll_back_next.new.pool.highest (g.D.Disk.past c.args.disk.now) (g.D.Disk.past c.loop-done.disk) (g.D.Disk.past c.roll_back_next.new.disk) c.loop-done.invariant.works c.in_ok-roll_back_next.ensures.works;
    }

pub returns-clause-ok : goal.returns-clause-ok
returns-clause-ok g c base same v =
    let all : c.loop-done.done ≡ length c.args.txs.now = grind (arith, c.loop-done-test.false, c.loop-done.auto.done-end) in
    subst (λ (n : ℕ). IsValid (rolling base n) (g.D.Disk.past c.loop-done.disk) (g.D.Disk.moment c.loop-done.disk) (g.C.Chronicle.lists c.loop-done.chronicle) (g.C.Chronicle.receipt_room c.loop-done.chronicle) c.args.config.now (state_of c.loop-done.table) c.loop-done.pool c.loop-done.tail) all
    (c.loop-done.invariant.valid base same v)

pub returns-in_err-roll_back_next-clause-first : goal.returns-in_err-roll_back_next-clause-first
returns-in_err-roll_back_next-clause-first g c r starts = c.roll_back_next.ensures.first r (c.loop-done.invariant.first r starts)

pub returns-clause-placed : goal.returns-clause-placed
returns-clause-placed g c =
    let first = c.args.tail.now.file.id in
    let lists = g.C.Chronicle.lists c.loop-done.chronicle in
    if_some (λ l. ArePlaced c.args.config.now first c.args.txs.now c.loop-done.done l.steps) (λ l. history_of l.steps ≡ take (length l.steps) (rollbacks_behind c.args.config.now first 16 c.args.txs.now)) lists (λ l are. placed_front c.args.config.now first c.args.txs.now c.loop-done.done l.steps are) c.loop-done.invariant.placed

pub returns-clause-all : goal.returns-clause-all
returns-clause-all g c =
    let first = c.args.tail.now.file.id in
    let lists = g.C.Chronicle.lists c.loop-done.chronicle in
    let all : c.loop-done.done ≡ length c.args.txs.now = grind (arith, c.loop-done-test.false, c.loop-done.auto.done-end) in
    if_some (λ l. ArePlaced c.args.config.now first c.args.txs.now c.loop-done.done l.steps) (λ l. length l.steps ≡ length c.args.txs.now) lists (λ l are. are.0 ∙ all) c.loop-done.invariant.placed

pub returns-in_err-roll_back_next-clause-placed : goal.returns-in_err-roll_back_next-clause-placed
returns-in_err-roll_back_next-clause-placed g c =
    let first = c.args.tail.now.file.id in
    let P : List Step → Type 0 = λ ss. history_of ss ≡ take (length ss) (rollbacks_behind c.args.config.now first 16 c.args.txs.now) in
    let before = g.C.Chronicle.lists c.loop-done.chronicle in
    steps_so P before (g.C.Chronicle.lists c.roll_back_next.new.chronicle) c.in_err-roll_back_next.ensures.unstepped
    (if_some (λ l. ArePlaced c.args.config.now first c.args.txs.now c.loop-done.done l.steps) (λ l. P l.steps) before (λ l are. placed_front c.args.config.now first c.args.txs.now c.loop-done.done l.steps are) c.loop-done.invariant.placed)

pub returns-in_err-roll_back_next-clause-failed_owed : goal.returns-in_err-roll_back_next-clause-failed_owed
returns-in_err-roll_back_next-clause-failed_owed g c all = on_err _ (IfSome (g.C.Chronicle.lists c.roll_back_next.new.chronicle) (AreOwedAtOpening c.args.config.now)) (c.in_err-roll_back_next.ensures.failed_owed (c.loop-done.invariant.owed all))

pub returns-clause-owed : goal.returns-clause-owed
returns-clause-owed g c all = c.loop-done.invariant.owed all

pub returns-clause-named : goal.returns-clause-named
returns-clause-named g c = c.loop-done.invariant.named

pub returns-clause-works : goal.returns-clause-works
returns-clause-works g c = c.loop-done.invariant.works

pub returns-in_err-roll_back_next-clause-failed_works : goal.returns-in_err-roll_back_next-clause-failed_works
returns-in_err-roll_back_next-clause-failed_works g c =
    on_err _ (WorkedTo false c.args.config.now.file_size c.args.pool.now.highest c.args.pool.now.highest c.roll_back_next.new.pool.highest (g.D.Disk.past c.args.disk.now) (g.D.Disk.past c.roll_back_next.new.disk))
    (to_and_then false c.args.config.now.file_size c.args.pool.now.highest c.loop-done.pool.highest c.roll_back_next.new.pool.highest (g.D.Disk.past c.args.disk.now) (g.D.Disk.past c.loop-done.disk) (g.D.Disk.past c.roll_back_next.new.disk) c.loop-done.invariant.works c.in_err-roll_back_next.ensures.failed_works)

pub returns-in_err-roll_back_next-clause-failed_last : goal.returns-in_err-roll_back_next-clause-failed_last
returns-in_err-roll_back_next-clause-failed_last g c =
    let first = c.args.tail.now.file.id in
    let t = c.loop-done.tail in
    let at : c.roll_back_next.new.pool.highest ≡ t.file.id = ap (λ (p : PoolOf). p.highest) c.in_err-roll_back_next.ensures.same_pool ∙ c.loop-done.invariant.begun.1 in
    let P : List Step → Type 0 = λ ss. c.roll_back_next.new.pool.highest ≡ file_of_last first (history_of ss) in
    let before = g.C.Chronicle.lists c.loop-done.chronicle in
    on_err _ (IfSome (g.C.Chronicle.lists c.roll_back_next.new.chronicle) (λ l. P l.steps))
    (steps_so P before (g.C.Chronicle.lists c.roll_back_next.new.chronicle) c.in_err-roll_back_next.ensures.unstepped
    (if_some (λ l. EndsIn first (history_of l.steps) t.file.id (end_of_tail t)) (λ l. P l.steps) before (λ l ends. at ∙ ends.0) c.loop-done.invariant.ends))

-- the one that failed isn't noted
pub returns-in_err-roll_back_next-clause-failed_few : goal.returns-in_err-roll_back_next-clause-failed_few
returns-in_err-roll_back_next-clause-failed_few g c =
    let P : List Step → Type 0 = λ ss. length ss < length c.args.txs.now in
    let before = g.C.Chronicle.lists c.loop-done.chronicle in
    let more : c.loop-done.done < length c.args.txs.now = grind (arith, c.loop-done-test.true) in
    on_err _ (IfSome (g.C.Chronicle.lists c.roll_back_next.new.chronicle) (λ l. P l.steps))
    (steps_so P before (g.C.Chronicle.lists c.roll_back_next.new.chronicle) c.in_err-roll_back_next.ensures.unstepped
    (if_some (λ l. ArePlaced c.args.config.now c.args.tail.now.file.id c.args.txs.now c.loop-done.done l.steps) (λ l. P l.steps) before (λ l are. omega (arith, are.0, more)) c.loop-done.invariant.placed))

-- nor did it ask for a further file, but where it doesn't fit
pub returns-in_err-roll_back_next-clause-failed_needs : goal.returns-in_err-roll_back_next-clause-failed_needs
returns-in_err-roll_back_next-clause-failed_needs g c =
    let past = g.D.Disk.past in
    let size = c.args.config.now.file_size in
    let first = c.args.pool.now.highest in
    let mid = c.loop-done.pool.highest in
    let last = c.roll_back_next.new.pool.highest in
    let Needs : Type 0 = IfSome (g.C.Chronicle.lists c.roll_back_next.new.chronicle) (NextNeedsFile c.args.config.now) in
    on_err _ (WorkedTo true size first first last (past c.args.disk.now) (past c.roll_back_next.new.disk) ⊎ Needs)
    (⊎_elim (λ (w : WorkedTo true size mid mid last (past c.loop-done.disk) (past c.roll_back_next.new.disk)). inl (to_and_then true size first mid last (past c.args.disk.now) (past c.loop-done.disk) (past c.roll_back_next.new.disk) c.loop-done.invariant.works w)) (λ (n : Needs). inr n) c.in_err-roll_back_next.ensures.failed_needs)
