use Rattle.std.proofs.Common.{ℕ, ◌≡◌, ◌⊎◌, inl, inr, false, ◌-◌, ◌^◌, ◌<◌, ◌≤◌, List, [], length, option_map, refl, sym, ap, subst, ◌∙◌, arith}
use Rattle.std.specs.Prelude.{IfSome}
use Rattle.amq_model.specs.declared.record.Placed.{Placed}
use Rattle.amq_model.specs.declared.directory.OpenFault.{OpenFault}
use Rattle.amq_model.specs.Leaves.{Told, HoldsSince}
use Rattle.amq_tx.specs.Tables.{state_of}
use Rattle.amq_pool.specs.declared.pool.PoolFile.{PoolFile}
use Rattle.amq_pool.specs.Pools.{PoolOf}
use Rattle.amq_engine.specs.Lists.{Lists, with_base, with_receipt}
use Rattle.amq_engine.specs.Engine.{Holds, IsBlank}
use Rattle.amq_engine.specs.Opening.{HasBase, AreFirstRollbacks, HasOpenCause, HasNumbers}
use Rattle.amq_engine.proofs.Begun.{IsNoted, noted, noted_safe, base_now, begun_valid, blank_safe, still_blank, noted_steps, noted_base, noted_unblank, noted_rollbacks, noted_begins, noted_lists, told_begun, behind_fault, when_fine}
use Rattle.amq_engine.proofs.Commanding.{when_err}
use Rattle.amq_engine.proofs.Beginning.{begins_blank}
use Rattle.amq_engine.proofs.Owing.{first_owed, blank_owed}
use Rattle.amq_engine.proofs.OpenedFiles.{begun_works, begun_worked, unbegun_has}
use Rattle.amq_engine.proofs.DataFiles.{on_err}
use Rattle.amq_engine.specs.DataFiles.{HasFailedFiles}
use Rattle.amq_engine.proofs.opening.begin.Goals as goal

-- where nothing was noted the chronicle is blank
pub returns-then-is_err-clause-unstepped : goal.returns-then-is_err-clause-unstepped
returns-then-is_err-clause-unstepped g c =
    let lists = g.C.Chronicle.lists in
    let same : lists c.note.new.chronicle ≡ lists c.args.chronicle.now = when_err c.note.result (lists c.note.new.chronicle ≡ lists c.args.chronicle.now) (sym c.is_err.ensures.value ∙ c.if-is_err.true) c.note.ensures.err in
    still_blank (λ l. l.steps ≡ []) (lists c.args.chronicle.now) (lists c.note.new.chronicle) same (λ l blank. blank.1) c.requires.blank

pub returns-then-is_err-clause-crash_safe : goal.returns-then-is_err-clause-crash_safe
returns-then-is_err-clause-crash_safe g c =
    let lists = g.C.Chronicle.lists in
    let same : lists c.note.new.chronicle ≡ lists c.args.chronicle.now = when_err c.note.result (lists c.note.new.chronicle ≡ lists c.args.chronicle.now) (sym c.is_err.ensures.value ∙ c.if-is_err.true) c.note.ensures.err in
    blank_safe (g.D.Disk.past c.find.new.disk) (g.D.Disk.moment c.find.new.disk) c.args.config.now.user_version (lists c.args.chronicle.now) (lists c.note.new.chronicle) same c.requires.blank

pub returns-then-is_err-clause-base : goal.returns-then-is_err-clause-base
returns-then-is_err-clause-base g c =
    let lists = g.C.Chronicle.lists in
    let same : lists c.note.new.chronicle ≡ lists c.args.chronicle.now = when_err c.note.result (lists c.note.new.chronicle ≡ lists c.args.chronicle.now) (sym c.is_err.ensures.value ∙ c.if-is_err.true) c.note.ensures.err in
    still_blank (λ l. IsBlank l ⊎ Told (g.D.Disk.past c.args.disk.now) (HasBase c.args.config.now.user_version l.base)) (lists c.args.chronicle.now) (lists c.note.new.chronicle) same (λ l blank. inl blank) c.requires.blank

pub returns-in-Ok-clause-valid : goal.returns-in-Ok-clause-valid
returns-in-Ok-clause-valid g c buffer fresh =
    let past = g.D.Disk.past in
    let lists = g.C.Chronicle.lists in
    let config = c.args.config.now in
    let loaded = c.in_ok-loaded.field-0.loaded in
    let m = c.moment.result in
    let is : lists c.note.new.chronicle ≡ option_map (with_receipt 0 m) (option_map (with_base loaded.base) (lists c.args.chronicle.now)) =
    when_fine c.note.result (lists c.note.new.chronicle ≡ option_map (with_receipt 0 m) (option_map (with_base c.replace-base.result) (lists c.args.chronicle.now))) (sym c.is_err.ensures.value ∙ c.if-is_err.false) c.note.ensures.ok
    ∙ ap (λ (b : List Placed). option_map (with_receipt 0 m) (option_map (with_base b) (lists c.args.chronicle.now))) c.replace-base.ensures.value in
    let notes : IfSome (lists c.note.new.chronicle) (IsNoted loaded.base m) = noted loaded.base m (lists c.args.chronicle.now) (lists c.note.new.chronicle) c.requires.blank is in
    let holds : m < 2 ^ 64 - 1 → HoldsSince (past c.renew.new.disk) m (Holds config.user_version loaded.base 0 []) =
    λ early. c.renew.ensures.kept loaded.base m c.in_ok-loaded.ensures.base (base_now config.user_version loaded.highest_file m loaded.base (past c.find.new.disk) c.in_ok-loaded.ensures.base c.moment.ensures.told early) in
    let on : m ≤ g.D.Disk.moment c.renew.new.disk = omega (arith, c.moment.ensures.count, c.renew.ensures.later) in (
      loaded.base,
      begun_valid config c.requires.config loaded.highest_file c.in_ok-loaded.ensures.unspent loaded.base (past c.find.new.disk) (past c.renew.new.disk) c.in_ok-loaded.ensures.base m (g.D.Disk.moment c.renew.new.disk)
          (lists c.note.new.chronicle) (g.C.Chronicle.receipt_room c.note.new.chronicle) (state_of c.in_ok-loaded.field-0.table) buffer c.in-Ok.pool c.in-Ok.file on holds (c.in-Ok.ensures.stands loaded.base c.in_ok-loaded.ensures.base)
          notes c.in_ok-loaded.ensures.table fresh c.in-Ok.ensures.pool c.in-Ok.ensures.is c.in-Ok.ensures.file,
      c.in_ok-loaded.ensures.rollbacks,
      c.in_ok-loaded.ensures.state,
    )

pub returns-in-Ok-clause-lists : goal.returns-in-Ok-clause-lists
returns-in-Ok-clause-lists g c =
    let past = g.D.Disk.past in
    let lists = g.C.Chronicle.lists in
    let config = c.args.config.now in
    let loaded = c.in_ok-loaded.field-0.loaded in
    let m = c.moment.result in
    let is : lists c.note.new.chronicle ≡ option_map (with_receipt 0 m) (option_map (with_base loaded.base) (lists c.args.chronicle.now)) =
    when_fine c.note.result (lists c.note.new.chronicle ≡ option_map (with_receipt 0 m) (option_map (with_base c.replace-base.result) (lists c.args.chronicle.now))) (sym c.is_err.ensures.value ∙ c.if-is_err.false) c.note.ensures.ok
    ∙ ap (λ (b : List Placed). option_map (with_receipt 0 m) (option_map (with_base b) (lists c.args.chronicle.now))) c.replace-base.ensures.value in
    let notes : IfSome (lists c.note.new.chronicle) (IsNoted loaded.base m) = noted loaded.base m (lists c.args.chronicle.now) (lists c.note.new.chronicle) c.requires.blank is in
    noted_lists loaded.base m (lists c.note.new.chronicle) notes (λ b. Told (past c.args.disk.now) (HasBase config.user_version b)) c.in_ok-loaded.ensures.has_base

pub returns-in-Ok-clause-numbers : goal.returns-in-Ok-clause-numbers
returns-in-Ok-clause-numbers g c =
    let loaded = c.in_ok-loaded.field-0.loaded in
    told_begun (length loaded.files) loaded.highest_file c.in-Ok.file.id c.len-files.result (g.D.Disk.past c.args.disk.now) (ap (λ f. f.id) c.in-Ok.ensures.file) c.len-files.ensures c.in_ok-loaded.ensures.unspent c.in_ok-loaded.ensures.numbers

pub returns-in-Ok-clause-unstepped : goal.returns-in-Ok-clause-unstepped
returns-in-Ok-clause-unstepped g c =
    let past = g.D.Disk.past in
    let lists = g.C.Chronicle.lists in
    let config = c.args.config.now in
    let loaded = c.in_ok-loaded.field-0.loaded in
    let m = c.moment.result in
    let is : lists c.note.new.chronicle ≡ option_map (with_receipt 0 m) (option_map (with_base loaded.base) (lists c.args.chronicle.now)) =
    when_fine c.note.result (lists c.note.new.chronicle ≡ option_map (with_receipt 0 m) (option_map (with_base c.replace-base.result) (lists c.args.chronicle.now))) (sym c.is_err.ensures.value ∙ c.if-is_err.false) c.note.ensures.ok
    ∙ ap (λ (b : List Placed). option_map (with_receipt 0 m) (option_map (with_base b) (lists c.args.chronicle.now))) c.replace-base.ensures.value in
    let notes : IfSome (lists c.note.new.chronicle) (IsNoted loaded.base m) = noted loaded.base m (lists c.args.chronicle.now) (lists c.note.new.chronicle) c.requires.blank is in
    noted_steps loaded.base m (lists c.note.new.chronicle) notes

pub returns-in-Ok-clause-crash_safe : goal.returns-in-Ok-clause-crash_safe
returns-in-Ok-clause-crash_safe g c =
    let past = g.D.Disk.past in
    let lists = g.C.Chronicle.lists in
    let config = c.args.config.now in
    let loaded = c.in_ok-loaded.field-0.loaded in
    let m = c.moment.result in
    let is : lists c.note.new.chronicle ≡ option_map (with_receipt 0 m) (option_map (with_base loaded.base) (lists c.args.chronicle.now)) =
    when_fine c.note.result (lists c.note.new.chronicle ≡ option_map (with_receipt 0 m) (option_map (with_base c.replace-base.result) (lists c.args.chronicle.now))) (sym c.is_err.ensures.value ∙ c.if-is_err.false) c.note.ensures.ok
    ∙ ap (λ (b : List Placed). option_map (with_receipt 0 m) (option_map (with_base b) (lists c.args.chronicle.now))) c.replace-base.ensures.value in
    let notes : IfSome (lists c.note.new.chronicle) (IsNoted loaded.base m) = noted loaded.base m (lists c.args.chronicle.now) (lists c.note.new.chronicle) c.requires.blank is in
    let holds : m < 2 ^ 64 - 1 → HoldsSince (past c.renew.new.disk) m (Holds config.user_version loaded.base 0 []) =
    λ early. c.renew.ensures.kept loaded.base m c.in_ok-loaded.ensures.base (base_now config.user_version loaded.highest_file m loaded.base (past c.find.new.disk) c.in_ok-loaded.ensures.base c.moment.ensures.told early) in
    let on : m ≤ g.D.Disk.moment c.renew.new.disk = omega (arith, c.moment.ensures.count, c.renew.ensures.later) in
    noted_safe (past c.renew.new.disk) config loaded.base m (g.D.Disk.moment c.renew.new.disk) (lists c.note.new.chronicle) on holds notes

pub returns-in-Ok-clause-base : goal.returns-in-Ok-clause-base
returns-in-Ok-clause-base g c =
    let past = g.D.Disk.past in
    let lists = g.C.Chronicle.lists in
    let config = c.args.config.now in
    let loaded = c.in_ok-loaded.field-0.loaded in
    let m = c.moment.result in
    let is : lists c.note.new.chronicle ≡ option_map (with_receipt 0 m) (option_map (with_base loaded.base) (lists c.args.chronicle.now)) =
    when_fine c.note.result (lists c.note.new.chronicle ≡ option_map (with_receipt 0 m) (option_map (with_base c.replace-base.result) (lists c.args.chronicle.now))) (sym c.is_err.ensures.value ∙ c.if-is_err.false) c.note.ensures.ok
    ∙ ap (λ (b : List Placed). option_map (with_receipt 0 m) (option_map (with_base b) (lists c.args.chronicle.now))) c.replace-base.ensures.value in
    let notes : IfSome (lists c.note.new.chronicle) (IsNoted loaded.base m) = noted loaded.base m (lists c.args.chronicle.now) (lists c.note.new.chronicle) c.requires.blank is in
    noted_base loaded.base m (lists c.note.new.chronicle) notes (λ b. Told (past c.args.disk.now) (HasBase config.user_version b)) c.in_ok-loaded.ensures.has_base

pub returns-in-Ok-clause-begins : goal.returns-in-Ok-clause-begins
returns-in-Ok-clause-begins g c =
    let past = g.D.Disk.past in
    let lists = g.C.Chronicle.lists in
    let config = c.args.config.now in
    let loaded = c.in_ok-loaded.field-0.loaded in
    let m = c.moment.result in
    let is : lists c.note.new.chronicle ≡ option_map (with_receipt 0 m) (option_map (with_base loaded.base) (lists c.args.chronicle.now)) =
    when_fine c.note.result (lists c.note.new.chronicle ≡ option_map (with_receipt 0 m) (option_map (with_base c.replace-base.result) (lists c.args.chronicle.now))) (sym c.is_err.ensures.value ∙ c.if-is_err.false) c.note.ensures.ok
    ∙ ap (λ (b : List Placed). option_map (with_receipt 0 m) (option_map (with_base b) (lists c.args.chronicle.now))) c.replace-base.ensures.value in
    let notes : IfSome (lists c.note.new.chronicle) (IsNoted loaded.base m) = noted loaded.base m (lists c.args.chronicle.now) (lists c.note.new.chronicle) c.requires.blank is in
    noted_begins loaded.base m (lists c.note.new.chronicle) notes (past c.args.disk.now) (past c.find.new.disk) (past c.renew.new.disk) c.moment.ensures.told c.find.ensures.crash c.in_ok-loaded.ensures.calls c.renew.ensures.goes_on

pub returns-in-Err-clause-cause : goal.returns-in-Err-clause-cause
returns-in-Err-clause-cause g c =
    let past = g.D.Disk.past in
    let faults = g.D.Disk.faults in
    let lists = g.C.Chronicle.lists c.note.new.chronicle in
    subst (λ (o : OpenFault). HasOpenCause c.args.config.now o lists (past c.args.disk.now) (past c.renew.new.disk) (faults c.args.disk.now) (faults c.renew.new.disk)) (sym c.fault_of.ensures)
    (behind_fault (PoolOf × PoolFile) c.in-Err.fault c.args.config.now lists (past c.args.disk.now) (past c.renew.new.disk) (faults c.args.disk.now) (faults c.find.new.disk) (faults c.renew.new.disk) (c.in_ok-loaded.ensures.faults.0, c.in_ok-loaded.ensures.faults.1) c.in-Err.ensures.cause)

pub returns-in-Err-clause-unstepped : goal.returns-in-Err-clause-unstepped
returns-in-Err-clause-unstepped g c =
    let past = g.D.Disk.past in
    let lists = g.C.Chronicle.lists in
    let config = c.args.config.now in
    let loaded = c.in_ok-loaded.field-0.loaded in
    let m = c.moment.result in
    let is : lists c.note.new.chronicle ≡ option_map (with_receipt 0 m) (option_map (with_base loaded.base) (lists c.args.chronicle.now)) =
    when_fine c.note.result (lists c.note.new.chronicle ≡ option_map (with_receipt 0 m) (option_map (with_base c.replace-base.result) (lists c.args.chronicle.now))) (sym c.is_err.ensures.value ∙ c.if-is_err.false) c.note.ensures.ok
    ∙ ap (λ (b : List Placed). option_map (with_receipt 0 m) (option_map (with_base b) (lists c.args.chronicle.now))) c.replace-base.ensures.value in
    let notes : IfSome (lists c.note.new.chronicle) (IsNoted loaded.base m) = noted loaded.base m (lists c.args.chronicle.now) (lists c.note.new.chronicle) c.requires.blank is in
    noted_steps loaded.base m (lists c.note.new.chronicle) notes

pub returns-in-Err-clause-crash_safe : goal.returns-in-Err-clause-crash_safe
returns-in-Err-clause-crash_safe g c =
    let past = g.D.Disk.past in
    let lists = g.C.Chronicle.lists in
    let config = c.args.config.now in
    let loaded = c.in_ok-loaded.field-0.loaded in
    let m = c.moment.result in
    let is : lists c.note.new.chronicle ≡ option_map (with_receipt 0 m) (option_map (with_base loaded.base) (lists c.args.chronicle.now)) =
    when_fine c.note.result (lists c.note.new.chronicle ≡ option_map (with_receipt 0 m) (option_map (with_base c.replace-base.result) (lists c.args.chronicle.now))) (sym c.is_err.ensures.value ∙ c.if-is_err.false) c.note.ensures.ok
    ∙ ap (λ (b : List Placed). option_map (with_receipt 0 m) (option_map (with_base b) (lists c.args.chronicle.now))) c.replace-base.ensures.value in
    let notes : IfSome (lists c.note.new.chronicle) (IsNoted loaded.base m) = noted loaded.base m (lists c.args.chronicle.now) (lists c.note.new.chronicle) c.requires.blank is in
    let holds : m < 2 ^ 64 - 1 → HoldsSince (past c.renew.new.disk) m (Holds config.user_version loaded.base 0 []) =
    λ early. c.renew.ensures.kept loaded.base m c.in_ok-loaded.ensures.base (base_now config.user_version loaded.highest_file m loaded.base (past c.find.new.disk) c.in_ok-loaded.ensures.base c.moment.ensures.told early) in
    let on : m ≤ g.D.Disk.moment c.renew.new.disk = omega (arith, c.moment.ensures.count, c.renew.ensures.later) in
    noted_safe (past c.renew.new.disk) config loaded.base m (g.D.Disk.moment c.renew.new.disk) (lists c.note.new.chronicle) on holds notes

pub returns-in-Err-clause-base : goal.returns-in-Err-clause-base
returns-in-Err-clause-base g c =
    let past = g.D.Disk.past in
    let lists = g.C.Chronicle.lists in
    let config = c.args.config.now in
    let loaded = c.in_ok-loaded.field-0.loaded in
    let m = c.moment.result in
    let is : lists c.note.new.chronicle ≡ option_map (with_receipt 0 m) (option_map (with_base loaded.base) (lists c.args.chronicle.now)) =
    when_fine c.note.result (lists c.note.new.chronicle ≡ option_map (with_receipt 0 m) (option_map (with_base c.replace-base.result) (lists c.args.chronicle.now))) (sym c.is_err.ensures.value ∙ c.if-is_err.false) c.note.ensures.ok
    ∙ ap (λ (b : List Placed). option_map (with_receipt 0 m) (option_map (with_base b) (lists c.args.chronicle.now))) c.replace-base.ensures.value in
    let notes : IfSome (lists c.note.new.chronicle) (IsNoted loaded.base m) = noted loaded.base m (lists c.args.chronicle.now) (lists c.note.new.chronicle) c.requires.blank is in
    noted_base loaded.base m (lists c.note.new.chronicle) notes (λ b. Told (past c.args.disk.now) (HasBase config.user_version b)) c.in_ok-loaded.ensures.has_base

pub returns-in-Err-clause-begins : goal.returns-in-Err-clause-begins
returns-in-Err-clause-begins g c =
    let past = g.D.Disk.past in
    let lists = g.C.Chronicle.lists in
    let config = c.args.config.now in
    let loaded = c.in_ok-loaded.field-0.loaded in
    let m = c.moment.result in
    let is : lists c.note.new.chronicle ≡ option_map (with_receipt 0 m) (option_map (with_base loaded.base) (lists c.args.chronicle.now)) =
    when_fine c.note.result (lists c.note.new.chronicle ≡ option_map (with_receipt 0 m) (option_map (with_base c.replace-base.result) (lists c.args.chronicle.now))) (sym c.is_err.ensures.value ∙ c.if-is_err.false) c.note.ensures.ok
    ∙ ap (λ (b : List Placed). option_map (with_receipt 0 m) (option_map (with_base b) (lists c.args.chronicle.now))) c.replace-base.ensures.value in
    let notes : IfSome (lists c.note.new.chronicle) (IsNoted loaded.base m) = noted loaded.base m (lists c.args.chronicle.now) (lists c.note.new.chronicle) c.requires.blank is in
    noted_begins loaded.base m (lists c.note.new.chronicle) notes (past c.args.disk.now) (past c.find.new.disk) (past c.renew.new.disk) c.moment.ensures.told c.find.ensures.crash c.in_ok-loaded.ensures.calls c.renew.ensures.goes_on

-- before anything is noted there were syncs alone
pub returns-in_err-loaded-clause-begins : goal.returns-in_err-loaded-clause-begins
returns-in_err-loaded-clause-begins g c =
    let lists = g.C.Chronicle.lists c.args.chronicle.now in
    begins_blank lists lists (g.D.Disk.past c.args.disk.now) (g.D.Disk.past c.find.new.disk) refl c.requires.blank (c.find.ensures.crash, c.find.ensures.first_calls)

pub returns-then-is_err-clause-begins : goal.returns-then-is_err-clause-begins
returns-then-is_err-clause-begins g c =
    let lists = g.C.Chronicle.lists in
    let same : lists c.note.new.chronicle ≡ lists c.args.chronicle.now = when_err c.note.result (lists c.note.new.chronicle ≡ lists c.args.chronicle.now) (sym c.is_err.ensures.value ∙ c.if-is_err.true) c.note.ensures.err in
    begins_blank (lists c.args.chronicle.now) (lists c.note.new.chronicle) (g.D.Disk.past c.args.disk.now) (g.D.Disk.past c.find.new.disk) same c.requires.blank (c.find.ensures.crash, c.find.ensures.first_calls)

pub returns-then-is_err-clause-unnoted : goal.returns-then-is_err-clause-unnoted
returns-then-is_err-clause-unnoted g c =
    let lists = g.C.Chronicle.lists in
    let same : lists c.note.new.chronicle ≡ lists c.args.chronicle.now = when_err c.note.result (lists c.note.new.chronicle ≡ lists c.args.chronicle.now) (sym c.is_err.ensures.value ∙ c.if-is_err.true) c.note.ensures.err in
    still_blank (λ l. l.receipts ≡ [] → IsBlank l) (lists c.args.chronicle.now) (lists c.note.new.chronicle) same (λ l blank none. blank) c.requires.blank

pub returns-then-is_err-clause-rollbacks : goal.returns-then-is_err-clause-rollbacks
returns-then-is_err-clause-rollbacks g c =
    let lists = g.C.Chronicle.lists in
    let same : lists c.note.new.chronicle ≡ lists c.args.chronicle.now = when_err c.note.result (lists c.note.new.chronicle ≡ lists c.args.chronicle.now) (sym c.is_err.ensures.value ∙ c.if-is_err.true) c.note.ensures.err in
    still_blank (λ l. IsBlank l ⊎ Told (g.D.Disk.past c.args.disk.now) (AreFirstRollbacks c.args.config.now l)) (lists c.args.chronicle.now) (lists c.note.new.chronicle) same (λ l blank. inl blank) c.requires.blank

pub returns-in_err-loaded-clause-unnoted : goal.returns-in_err-loaded-clause-unnoted
returns-in_err-loaded-clause-unnoted g c =
    let lists = g.C.Chronicle.lists c.args.chronicle.now in
    still_blank (λ l. l.receipts ≡ [] → IsBlank l) lists lists refl (λ l blank none. blank) c.requires.blank

pub returns-in_err-loaded-clause-rollbacks : goal.returns-in_err-loaded-clause-rollbacks
returns-in_err-loaded-clause-rollbacks g c =
    let lists = g.C.Chronicle.lists c.args.chronicle.now in
    still_blank (λ l. IsBlank l ⊎ Told (g.D.Disk.past c.args.disk.now) (AreFirstRollbacks c.args.config.now l)) lists lists refl (λ l blank. inl blank) c.requires.blank

pub returns-in-Ok-clause-unnoted : goal.returns-in-Ok-clause-unnoted
returns-in-Ok-clause-unnoted g c =
    let lists = g.C.Chronicle.lists in
    let loaded = c.in_ok-loaded.field-0.loaded in
    let m = c.moment.result in
    let is : lists c.note.new.chronicle ≡ option_map (with_receipt 0 m) (option_map (with_base loaded.base) (lists c.args.chronicle.now)) =
    when_fine c.note.result (lists c.note.new.chronicle ≡ option_map (with_receipt 0 m) (option_map (with_base c.replace-base.result) (lists c.args.chronicle.now))) (sym c.is_err.ensures.value ∙ c.if-is_err.false) c.note.ensures.ok
    ∙ ap (λ (b : List Placed). option_map (with_receipt 0 m) (option_map (with_base b) (lists c.args.chronicle.now))) c.replace-base.ensures.value in
    let notes : IfSome (lists c.note.new.chronicle) (IsNoted loaded.base m) = noted loaded.base m (lists c.args.chronicle.now) (lists c.note.new.chronicle) c.requires.blank is in
    noted_unblank loaded.base m (lists c.note.new.chronicle) notes

pub returns-in-Ok-clause-rollbacks : goal.returns-in-Ok-clause-rollbacks
returns-in-Ok-clause-rollbacks g c =
    let lists = g.C.Chronicle.lists in
    let loaded = c.in_ok-loaded.field-0.loaded in
    let m = c.moment.result in
    let is : lists c.note.new.chronicle ≡ option_map (with_receipt 0 m) (option_map (with_base loaded.base) (lists c.args.chronicle.now)) =
    when_fine c.note.result (lists c.note.new.chronicle ≡ option_map (with_receipt 0 m) (option_map (with_base c.replace-base.result) (lists c.args.chronicle.now))) (sym c.is_err.ensures.value ∙ c.if-is_err.false) c.note.ensures.ok
    ∙ ap (λ (b : List Placed). option_map (with_receipt 0 m) (option_map (with_base b) (lists c.args.chronicle.now))) c.replace-base.ensures.value in
    let notes : IfSome (lists c.note.new.chronicle) (IsNoted loaded.base m) = noted loaded.base m (lists c.args.chronicle.now) (lists c.note.new.chronicle) c.requires.blank is in
    noted_rollbacks loaded.base m (lists c.note.new.chronicle) notes c.args.config.now (length loaded.files) loaded.highest_file (g.D.Disk.past c.args.disk.now) c.in_ok-loaded.ensures.numbers

pub returns-in-Err-clause-unnoted : goal.returns-in-Err-clause-unnoted
returns-in-Err-clause-unnoted g c =
    let lists = g.C.Chronicle.lists in
    let loaded = c.in_ok-loaded.field-0.loaded in
    let m = c.moment.result in
    let is : lists c.note.new.chronicle ≡ option_map (with_receipt 0 m) (option_map (with_base loaded.base) (lists c.args.chronicle.now)) =
    when_fine c.note.result (lists c.note.new.chronicle ≡ option_map (with_receipt 0 m) (option_map (with_base c.replace-base.result) (lists c.args.chronicle.now))) (sym c.is_err.ensures.value ∙ c.if-is_err.false) c.note.ensures.ok
    ∙ ap (λ (b : List Placed). option_map (with_receipt 0 m) (option_map (with_base b) (lists c.args.chronicle.now))) c.replace-base.ensures.value in
    let notes : IfSome (lists c.note.new.chronicle) (IsNoted loaded.base m) = noted loaded.base m (lists c.args.chronicle.now) (lists c.note.new.chronicle) c.requires.blank is in
    noted_unblank loaded.base m (lists c.note.new.chronicle) notes

pub returns-in-Err-clause-rollbacks : goal.returns-in-Err-clause-rollbacks
returns-in-Err-clause-rollbacks g c =
    let lists = g.C.Chronicle.lists in
    let loaded = c.in_ok-loaded.field-0.loaded in
    let m = c.moment.result in
    let is : lists c.note.new.chronicle ≡ option_map (with_receipt 0 m) (option_map (with_base loaded.base) (lists c.args.chronicle.now)) =
    when_fine c.note.result (lists c.note.new.chronicle ≡ option_map (with_receipt 0 m) (option_map (with_base c.replace-base.result) (lists c.args.chronicle.now))) (sym c.is_err.ensures.value ∙ c.if-is_err.false) c.note.ensures.ok
    ∙ ap (λ (b : List Placed). option_map (with_receipt 0 m) (option_map (with_base b) (lists c.args.chronicle.now))) c.replace-base.ensures.value in
    let notes : IfSome (lists c.note.new.chronicle) (IsNoted loaded.base m) = noted loaded.base m (lists c.args.chronicle.now) (lists c.note.new.chronicle) c.requires.blank is in
    noted_rollbacks loaded.base m (lists c.note.new.chronicle) notes c.args.config.now (length loaded.files) loaded.highest_file (g.D.Disk.past c.args.disk.now) c.in_ok-loaded.ensures.numbers

pub returns-in-Ok-clause-owed : goal.returns-in-Ok-clause-owed
returns-in-Ok-clause-owed g c =
    let lists = g.C.Chronicle.lists in
    first_owed c.args.config.now c.replace-base.result c.moment.result (lists c.args.chronicle.now) (lists c.note.new.chronicle) c.requires.blank
    (when_fine c.note.result (lists c.note.new.chronicle ≡ option_map (with_receipt 0 c.moment.result) (option_map (with_base c.replace-base.result) (lists c.args.chronicle.now))) (sym c.is_err.ensures.value ∙ c.if-is_err.false) c.note.ensures.ok)

pub returns-in-Err-clause-owed : goal.returns-in-Err-clause-owed
returns-in-Err-clause-owed g c =
    let lists = g.C.Chronicle.lists in
    first_owed c.args.config.now c.replace-base.result c.moment.result (lists c.args.chronicle.now) (lists c.note.new.chronicle) c.requires.blank
    (when_fine c.note.result (lists c.note.new.chronicle ≡ option_map (with_receipt 0 c.moment.result) (option_map (with_base c.replace-base.result) (lists c.args.chronicle.now))) (sym c.is_err.ensures.value ∙ c.if-is_err.false) c.note.ensures.ok)

pub returns-in_err-loaded-clause-owed : goal.returns-in_err-loaded-clause-owed
returns-in_err-loaded-clause-owed g c =
    let lists = g.C.Chronicle.lists c.args.chronicle.now in
    blank_owed c.args.config.now lists lists refl c.requires.blank

pub returns-then-is_err-clause-owed : goal.returns-then-is_err-clause-owed
returns-then-is_err-clause-owed g c =
    let lists = g.C.Chronicle.lists in
    blank_owed c.args.config.now (lists c.args.chronicle.now) (lists c.note.new.chronicle) (when_err c.note.result (lists c.note.new.chronicle ≡ lists c.args.chronicle.now) (sym c.is_err.ensures.value ∙ c.if-is_err.true) c.note.ensures.err) c.requires.blank

pub returns-in-Ok-clause-begun : goal.returns-in-Ok-clause-begun
returns-in-Ok-clause-begun g c =
    let past = g.D.Disk.past in
    let loaded = c.in_ok-loaded.field-0.loaded in (
      loaded.highest_file,
      c.in-Ok.ensures.file,
      ap (λ (p : PoolOf). p.highest) c.in-Ok.ensures.pool,
      c.in_ok-loaded.ensures.unspent,
      subst (λ (n : ℕ). Told (past c.args.disk.now) (HasNumbers n loaded.highest_file)) (sym c.len-files.ensures) c.in_ok-loaded.ensures.numbers,
      begun_works c.args.config.now.file_size loaded.highest_file (past c.args.disk.now) (past c.find.new.disk) (past c.renew.new.disk) c.in_ok-loaded.ensures.unspent c.find.ensures.crash c.in-Ok.ensures.works,
    )

-- only syncs came before
pub returns-in_err-loaded-clause-failed_files : goal.returns-in_err-loaded-clause-failed_files
returns-in_err-loaded-clause-failed_files g c =
    on_err _ ((l : Lists) → l.steps ≡ [] → HasFailedFiles c.args.config.now l (g.D.Disk.past c.args.disk.now) (g.D.Disk.past c.find.new.disk)) (λ l none. inl (none, c.find.ensures.crash))

pub returns-then-is_err-clause-failed_files : goal.returns-then-is_err-clause-failed_files
returns-then-is_err-clause-failed_files g c l none = inl (none, c.find.ensures.crash)

pub returns-in-Err-clause-failed_files : goal.returns-in-Err-clause-failed_files
returns-in-Err-clause-failed_files g c l none =
    let past = g.D.Disk.past in
    let config = c.args.config.now in
    let loaded = c.in_ok-loaded.field-0.loaded in
    let h = loaded.highest_file in
    inr (unbegun_has config (length loaded.files) h l (past c.args.disk.now) (past c.renew.new.disk) none c.in_ok-loaded.ensures.unspent c.in_ok-loaded.ensures.numbers
    (begun_worked false config.file_size h (past c.args.disk.now) (past c.find.new.disk) (past c.renew.new.disk) c.in_ok-loaded.ensures.unspent c.find.ensures.crash c.in-Err.ensures.failed_works))
