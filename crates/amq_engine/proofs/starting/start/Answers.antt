use Rattle.std.proofs.Common.{◌≡◌, ◌⊎◌, inl, inr, false, ℕ, ◌+◌, ◌-◌, ◌^◌, ◌≤◌, List, [], length, refl, sym, ap, subst, ◌∙◌, rules, true, arith}
use Rattle.std.specs.Prelude.{Err, IfErr, IfSome, min, take}
use Rattle.amq_model.specs.declared.history.Step.{Step}
use Rattle.amq_model.specs.Answers.{history_of}
use Rattle.amq_model.specs.Effect.{result_of}
use Rattle.amq_model.specs.Legal.{rolled_back, AreLegalOfRefused, end_of}
use Rattle.amq_tx.specs.Tables.{state_of}
use Rattle.amq_model.specs.Leaves.{Told}
use Rattle.amq_engine.specs.Engine.{end_of_tail, IsBlank, AreSpentAtLast}
use Rattle.amq_engine.specs.Lists.{Lists}
use Rattle.amq_engine.specs.Opening.{HasBase, AreFirstRollbacks, HasOpenCause, rollbacks_behind, EndsIn}
use Rattle.amq_engine.specs.Receipts.{IsCrashSafe}
use Rattle.amq_engine.proofs.Receipts.{if_some, both_some}
use Rattle.amq_engine.proofs.Found.{syncs_none}
use Rattle.amq_engine.proofs.OpeningCalls.{no_calls}
use Rattle.amq_engine.proofs.Stages.{valid_opened}
use Rattle.amq_engine.proofs.Beginning.{begins_blank, begins_through}
use Rattle.amq_engine.proofs.Owing.{owed_in_opening, blank_owed}
use Rattle.amq_engine.proofs.RollingBack.{rolled_safe}
use Rattle.amq_engine.proofs.Begun.{still_blank}
use Rattle.amq_engine.proofs.Rollbacks.{both_so, placed_all, told_rollbacks}
use Rattle.amq_engine.proofs.Started.{told_filled, valid_base, valid_rolled_back, valid_appended, valid_noted, valid_spent, on_err, same_base, roll_cause, unblank}
use Rattle.amq_pool.specs.declared.pool.PoolFile.{PoolFile}
use Rattle.amq_pool.specs.Pools.{numbered_file}
use Rattle.amq_engine.specs.DataFiles.{WorkedTo, SyncsAllBut, IsRenewed, HasFailedFiles, HasFilesSoFar, FailedFlushed, file_of_last}
use Rattle.amq_engine.proofs.OpenedFiles.{opened_works, enough_by, failed_has}
use Rattle.amq_engine.proofs.JournalFiles.{opened_so_far}
use Rattle.amq_engine.proofs.Counting.{count_told}
use Rattle.amq_engine.proofs.starting.start.Goals as goal

-- nothing was asked
pub returns-in_default-clause-begins : goal.returns-in_default-clause-begins
returns-in_default-clause-begins g c =
    let past = g.D.Disk.past c.args.disk.now in
    let lists = g.C.Chronicle.lists c.args.chronicle.now in
    begins_blank lists lists past past refl c.requires.blank (syncs_none past, no_calls past)

pub complete-requires-clause-valid : goal.complete-requires-clause-valid
complete-requires-clause-valid g c =
    let begun = c.in_ok-table.ensures.valid c.in-Ok.buffer c.in-Ok.ensures in
    (begun.0, begun.1, c.as_slice.ensures.value ∙ begun.2)

pub returns-in_err-complete-clause-failed_legal : goal.returns-in_err-complete-clause-failed_legal
returns-in_err-complete-clause-failed_legal g c =
    let config = c.args.config.now in
    let past = g.D.Disk.past c.complete.new.disk in
    let moment = g.D.Disk.moment c.complete.new.disk in
    let lists = g.C.Chronicle.lists c.complete.new.chronicle in
    let begun = c.in_ok-table.ensures.valid c.in-Ok.buffer c.in-Ok.ensures in
    let failed = c.in_err-complete.ensures.failed begun.0 (c.as_slice.ensures.value ∙ begun.2) begun.1 in
    let both = rolled_safe past moment lists (g.C.Chronicle.receipt_room c.complete.new.chronicle) config (state_of c.complete.new.table) c.complete.new.pool c.complete.new.tail begun.0 failed.0 failed.1 in
    on_err _ (IfSome lists (λ l. AreLegalOfRefused l.base l.steps config)) (if_some (λ l. IsCrashSafe past moment config.user_version l × AreLegalOfRefused l.base l.steps config) (λ l. AreLegalOfRefused l.base l.steps config) lists (λ l p. p.1) both)

pub returns-in_err-complete-clause-failed_appended : goal.returns-in_err-complete-clause-failed_appended
returns-in_err-complete-clause-failed_appended g c =
    let lists = g.C.Chronicle.lists c.complete.new.chronicle in
    let begun = c.in_ok-table.ensures.valid c.in-Ok.buffer c.in-Ok.ensures in
    let failed = c.in_err-complete.ensures.failed begun.0 (c.as_slice.ensures.value ∙ begun.2) begun.1 in
    on_err _ (IfSome lists (λ l. length (history_of l.steps) ≡ length l.steps)) (valid_appended (g.D.Disk.past c.complete.new.disk) (g.D.Disk.moment c.complete.new.disk) (g.C.Chronicle.receipt_room c.complete.new.chronicle) c.args.config.now (state_of c.complete.new.table) c.complete.new.pool c.complete.new.tail begun.0 failed.0 lists failed.1)

pub returns-in_err-complete-clause-failed_safe : goal.returns-in_err-complete-clause-failed_safe
returns-in_err-complete-clause-failed_safe g c =
    let config = c.args.config.now in
    let past = g.D.Disk.past c.complete.new.disk in
    let moment = g.D.Disk.moment c.complete.new.disk in
    let lists = g.C.Chronicle.lists c.complete.new.chronicle in
    let begun = c.in_ok-table.ensures.valid c.in-Ok.buffer c.in-Ok.ensures in
    let failed = c.in_err-complete.ensures.failed begun.0 (c.as_slice.ensures.value ∙ begun.2) begun.1 in
    let both = rolled_safe past moment lists (g.C.Chronicle.receipt_room c.complete.new.chronicle) config (state_of c.complete.new.table) c.complete.new.pool c.complete.new.tail begun.0 failed.0 failed.1 in
    on_err _ (IfSome lists (IsCrashSafe past moment config.user_version)) (if_some (λ l. IsCrashSafe past moment config.user_version l × AreLegalOfRefused l.base l.steps config) (IsCrashSafe past moment config.user_version) lists (λ l p. p.0) both)

pub returns-in_err-complete-clause-begins : goal.returns-in_err-complete-clause-begins
returns-in_err-complete-clause-begins g c =
    let past = g.D.Disk.past in
    let lists = g.C.Chronicle.lists in
    let begun = c.in_ok-table.ensures.valid c.in-Ok.buffer c.in-Ok.ensures in
    let some : IfSome (lists c.begin.new.chronicle) (λ l. l.receipts ≡ [] → ⊥) =
    valid_noted (past c.begin.new.disk) (g.D.Disk.moment c.begin.new.disk) (g.C.Chronicle.receipt_room c.begin.new.chronicle) c.args.config.now (state_of c.in_ok-table.field-0.table) c.in_ok-table.field-0.pool _ begun.0 0 ⊥ (lists c.begin.new.chronicle) begun.1 in
    begins_through (lists c.begin.new.chronicle) (lists c.complete.new.chronicle) (past c.args.disk.now) (past c.begin.new.disk) (past c.complete.new.disk) some c.begin.ensures.begins c.complete.ensures.base c.complete.ensures.first c.complete.ensures.goes_on

pub returns-clause-begins : goal.returns-clause-begins
returns-clause-begins g c =
    let past = g.D.Disk.past in
    let lists = g.C.Chronicle.lists in
    let begun = c.in_ok-table.ensures.valid c.in-Ok.buffer c.in-Ok.ensures in
    let some : IfSome (lists c.begin.new.chronicle) (λ l. l.receipts ≡ [] → ⊥) =
    valid_noted (past c.begin.new.disk) (g.D.Disk.moment c.begin.new.disk) (g.C.Chronicle.receipt_room c.begin.new.chronicle) c.args.config.now (state_of c.in_ok-table.field-0.table) c.in_ok-table.field-0.pool _ begun.0 0 ⊥ (lists c.begin.new.chronicle) begun.1 in
    begins_through (lists c.begin.new.chronicle) (lists c.complete.new.chronicle) (past c.args.disk.now) (past c.begin.new.disk) (past c.complete.new.disk) some c.begin.ensures.begins c.complete.ensures.base c.complete.ensures.first c.complete.ensures.goes_on

pub returns-clause-tidy : goal.returns-clause-tidy
returns-clause-tidy g c = c.in_ok-complete.ensures.tidy c.in_ok-table.ensures.tidy

pub returns-clause-valid : goal.returns-clause-valid
returns-clause-valid g c =
    let begun = c.in_ok-table.ensures.valid c.in-Ok.buffer c.in-Ok.ensures in
    let same : c.as_slice.result.now ≡ rolled_back begun.0 = c.as_slice.ensures.value ∙ begun.2 in
    valid_opened begun.0 (length c.as_slice.result.now) (g.D.Disk.past c.complete.new.disk) (g.D.Disk.moment c.complete.new.disk) (g.C.Chronicle.lists c.complete.new.chronicle) (g.C.Chronicle.receipt_room c.complete.new.chronicle) c.args.config.now
    (state_of c.complete.new.table) c.complete.new.pool c.complete.new.tail (ap (λ (txs : List ℕ). length txs) same) (c.in_ok-complete.ensures.ok begun.0 same begun.1)

pub returns-clause-state : goal.returns-clause-state
returns-clause-state g c =
    let begun = c.in_ok-table.ensures.valid c.in-Ok.buffer c.in-Ok.ensures in
    let same : c.as_slice.result.now ≡ rolled_back begun.0 = c.as_slice.ensures.value ∙ begun.2 in
    let lists = g.C.Chronicle.lists c.complete.new.chronicle in
    if_some (λ l. l.base ≡ begun.0) (λ l. c.in_ok-table.field-0.state ≡ result_of l.base) lists (λ l is. begun.3 ∙ ap result_of (sym is))
    (valid_base (g.D.Disk.past c.complete.new.disk) (g.D.Disk.moment c.complete.new.disk) (g.C.Chronicle.receipt_room c.complete.new.chronicle) c.args.config.now (state_of c.complete.new.table) c.complete.new.pool c.complete.new.tail
    begun.0 (length c.as_slice.result.now) lists (c.in_ok-complete.ensures.ok begun.0 same begun.1))

pub returns-clause-rolled : goal.returns-clause-rolled
returns-clause-rolled g c =
    let begun = c.in_ok-table.ensures.valid c.in-Ok.buffer c.in-Ok.ensures in
    let same : c.as_slice.result.now ≡ rolled_back begun.0 = c.as_slice.ensures.value ∙ begun.2 in
    valid_rolled_back (g.D.Disk.past c.complete.new.disk) (g.D.Disk.moment c.complete.new.disk) (g.C.Chronicle.receipt_room c.complete.new.chronicle) c.args.config.now (state_of c.complete.new.table) c.complete.new.pool c.complete.new.tail
    begun.0 (length c.as_slice.result.now) (g.C.Chronicle.lists c.complete.new.chronicle) (ap (λ (txs : List ℕ). length txs) same) (c.in_ok-complete.ensures.ok begun.0 same begun.1)

pub returns-clause-files : goal.returns-clause-files
returns-clause-files g c =
    let config = c.args.config.now in
    let begun = c.in_ok-table.ensures.valid c.in-Ok.buffer c.in-Ok.ensures in
    let txs = c.as_slice.result.now in
    let same : txs ≡ rolled_back begun.0 = c.as_slice.ensures.value ∙ begun.2 in
    let valid = c.in_ok-complete.ensures.ok begun.0 same begun.1 in
    let first = c.in_ok-table.field-0.file.id in
    let files = c.in_ok-table.field-0.files in
    let tail = c.complete.new.tail in
    let pool = c.complete.new.pool in
    let lists = g.C.Chronicle.lists c.complete.new.chronicle in
    let based = valid_base (g.D.Disk.past c.complete.new.disk) (g.D.Disk.moment c.complete.new.disk) (g.C.Chronicle.receipt_room c.complete.new.chronicle) config (state_of c.complete.new.table) pool tail begun.0 (length txs) lists valid in
    let placed = both_so (λ ss. history_of ss ≡ take (length ss) (rollbacks_behind config first 16 txs)) (λ ss. length ss ≡ length txs) (λ ss. history_of ss ≡ rollbacks_behind config first 16 txs) lists (λ ss front all. placed_all config first txs ss front all) c.complete.ensures.placed c.in_ok-complete.ensures.all in
    told_filled config files first tail.file.id (end_of_tail tail) pool.highest (min (config.min_files - (files + (tail.file.id + 1 - first))) (2 ^ 31 - 1 - tail.file.id)) pool.prepared txs begun.0 lists (g.D.Disk.past c.args.disk.now)
    c.in_ok-complete.ensures.later_file valid.sound.parts.numbers refl c.in_ok-complete.ensures.filled.0 c.in_ok-complete.ensures.filled.1 c.in_ok-complete.ensures.ends c.in_ok-table.ensures.numbers same based placed

pub returns-in_err-complete-clause-failed_rollbacks : goal.returns-in_err-complete-clause-failed_rollbacks
returns-in_err-complete-clause-failed_rollbacks g c =
    let config = c.args.config.now in
    let begun = c.in_ok-table.ensures.valid c.in-Ok.buffer c.in-Ok.ensures in
    let txs = c.as_slice.result.now in
    let same : txs ≡ rolled_back begun.0 = c.as_slice.ensures.value ∙ begun.2 in
    let failed = c.in_err-complete.ensures.failed begun.0 same begun.1 in
    let lists = g.C.Chronicle.lists c.complete.new.chronicle in
    let based = valid_base (g.D.Disk.past c.complete.new.disk) (g.D.Disk.moment c.complete.new.disk) (g.C.Chronicle.receipt_room c.complete.new.chronicle) config (state_of c.complete.new.table) c.complete.new.pool c.complete.new.tail begun.0 failed.0 lists failed.1 in
    on_err _ (IfSome lists (λ l. IsBlank l ⊎ Told (g.D.Disk.past c.args.disk.now) (AreFirstRollbacks config l)))
    (told_rollbacks config c.in_ok-table.field-0.files c.in_ok-table.field-0.file.id begun.0 txs lists (g.D.Disk.past c.args.disk.now) same based c.complete.ensures.placed c.in_ok-table.ensures.numbers)

pub returns-in_err-complete-clause-unnoted : goal.returns-in_err-complete-clause-unnoted
returns-in_err-complete-clause-unnoted g c =
    let begun = c.in_ok-table.ensures.valid c.in-Ok.buffer c.in-Ok.ensures in
    let failed = c.in_err-complete.ensures.failed begun.0 (c.as_slice.ensures.value ∙ begun.2) begun.1 in
    let lists = g.C.Chronicle.lists c.complete.new.chronicle in
    unblank lists (valid_noted (g.D.Disk.past c.complete.new.disk) (g.D.Disk.moment c.complete.new.disk) (g.C.Chronicle.receipt_room c.complete.new.chronicle) c.args.config.now (state_of c.complete.new.table) c.complete.new.pool c.complete.new.tail begun.0 failed.0 ⊥ lists failed.1)

pub returns-clause-unnoted : goal.returns-clause-unnoted
returns-clause-unnoted g c =
    let begun = c.in_ok-table.ensures.valid c.in-Ok.buffer c.in-Ok.ensures in
    let same : c.as_slice.result.now ≡ rolled_back begun.0 = c.as_slice.ensures.value ∙ begun.2 in
    let lists = g.C.Chronicle.lists c.complete.new.chronicle in
    unblank lists (valid_noted (g.D.Disk.past c.complete.new.disk) (g.D.Disk.moment c.complete.new.disk) (g.C.Chronicle.receipt_room c.complete.new.chronicle) c.args.config.now (state_of c.complete.new.table) c.complete.new.pool c.complete.new.tail begun.0 (length c.as_slice.result.now) ⊥ lists (c.in_ok-complete.ensures.ok begun.0 same begun.1))

pub returns-in_default-clause-unnoted : goal.returns-in_default-clause-unnoted
returns-in_default-clause-unnoted g c = let lists = g.C.Chronicle.lists c.args.chronicle.now in still_blank (λ l. l.receipts ≡ [] → IsBlank l) lists lists refl (λ l blank none. blank) c.requires.blank

pub returns-in_default-clause-failed_rollbacks : goal.returns-in_default-clause-failed_rollbacks
returns-in_default-clause-failed_rollbacks g c =
    let lists = g.C.Chronicle.lists c.args.chronicle.now in
    still_blank (λ l. IsBlank l ⊎ Told (g.D.Disk.past c.args.disk.now) (AreFirstRollbacks c.args.config.now l)) lists lists refl (λ l blank. inl blank) c.requires.blank

pub returns-in_err-complete-clause-cause : goal.returns-in_err-complete-clause-cause
returns-in_err-complete-clause-cause g c =
    let config = c.args.config.now in
    let past = g.D.Disk.past in
    let faults = g.D.Disk.faults in
    let lists = g.C.Chronicle.lists in
    let based = same_base (λ b. Told (past c.args.disk.now) (HasBase config.user_version b)) (lists c.begin.new.chronicle) (lists c.complete.new.chronicle) c.complete.ensures.base
    (if_some (λ l. (l.steps ≡ []) × Told (past c.args.disk.now) (HasBase config.user_version l.base)) (λ l. Told (past c.args.disk.now) (HasBase config.user_version l.base)) (lists c.begin.new.chronicle) (λ l both. both.1) c.in_ok-table.ensures.lists) in
    let fault = c.in_err-complete.field-0.0 in
    let is : c.from_residual-in_err-complete.result ≡ Err fault = search rules in
    subst (λ r. IfErr r (λ fault. HasOpenCause config fault (lists c.complete.new.chronicle) (past c.args.disk.now) (past c.complete.new.disk) (faults c.args.disk.now) (faults c.complete.new.disk))) (sym is)
    (roll_cause fault config (lists c.complete.new.chronicle) (past c.args.disk.now) (past c.complete.new.disk) (faults c.args.disk.now) (faults c.begin.new.disk) (faults c.complete.new.disk) c.in_ok-table.ensures.faults based c.in_err-complete.ensures.cause)

pub returns-in_err-complete-clause-failed_spent : goal.returns-in_err-complete-clause-failed_spent
returns-in_err-complete-clause-failed_spent g c =
    let lists = g.C.Chronicle.lists c.complete.new.chronicle in
    let begun = c.in_ok-table.ensures.valid c.in-Ok.buffer c.in-Ok.ensures in
    let failed = c.in_err-complete.ensures.failed begun.0 (c.as_slice.ensures.value ∙ begun.2) begun.1 in
    on_err _ (IfSome lists (λ l. AreSpentAtLast [] l.steps)) (valid_spent (g.D.Disk.past c.complete.new.disk) (g.D.Disk.moment c.complete.new.disk) (g.C.Chronicle.receipt_room c.complete.new.chronicle) c.args.config.now (state_of c.complete.new.table) c.complete.new.pool c.complete.new.tail begun.0 failed.0 lists failed.1)

pub returns-in_default-clause-failed_spent : goal.returns-in_default-clause-failed_spent
returns-in_default-clause-failed_spent g c =
    let lists = g.C.Chronicle.lists c.args.chronicle.now in
    still_blank (λ l. AreSpentAtLast [] l.steps) lists lists refl (λ l blank. subst (λ (ss : List Step). AreSpentAtLast [] ss) (sym blank.1) tt) c.requires.blank

pub returns-in_default-clause-owed : goal.returns-in_default-clause-owed
returns-in_default-clause-owed g c =
    let lists = g.C.Chronicle.lists c.args.chronicle.now in
    owed_in_opening c.args.config.now lists lists refl (blank_owed c.args.config.now lists lists refl c.requires.blank)

pub returns-in_err-table-clause-owed : goal.returns-in_err-table-clause-owed
returns-in_err-table-clause-owed g c =
    let lists = g.C.Chronicle.lists c.begin.new.chronicle in
    owed_in_opening c.args.config.now lists lists refl c.begin.ensures.owed

pub returns-in_err-complete-clause-owed : goal.returns-in_err-complete-clause-owed
returns-in_err-complete-clause-owed g c = c.complete.ensures.owed c.begin.ensures.owed

pub returns-clause-owed : goal.returns-clause-owed
returns-clause-owed g c = c.complete.ensures.owed c.begin.ensures.owed

pub returns-clause-ends : goal.returns-clause-ends
returns-clause-ends g c =
    let t = c.complete.new.tail in
    if_some (λ l. EndsIn c.in_ok-table.field-0.file.id (history_of l.steps) t.file.id (end_of_tail t)) (λ l. end_of_tail t ≡ end_of (history_of l.steps)) (g.C.Chronicle.lists c.complete.new.chronicle) (λ l ends. ends.1) c.in_ok-complete.ensures.ends

pub complete-requires-clause-named : goal.complete-requires-clause-named
complete-requires-clause-named g c =
    let begun = c.in_ok-table.ensures.begun in
    begun.1 ∙ sym (ap (λ (n : ℕ). numbered_file n) begun.2)

pub returns-clause-opened_files : goal.returns-clause-opened_files
returns-clause-opened_files g c =
    let past = g.D.Disk.past in
    let config = c.args.config.now in
    let began = c.in_ok-table.ensures.valid c.in-Ok.buffer c.in-Ok.ensures in
    let same : c.as_slice.result.now ≡ rolled_back began.0 = c.as_slice.ensures.value ∙ began.2 in
    let valid = c.in_ok-complete.ensures.ok began.0 same began.1 in
    let begun = c.in_ok-table.ensures.begun in
    let first = c.in_ok-table.field-0.file.id in
    let files = c.in_ok-table.field-0.files in
    let tail = c.complete.new.tail in
    let highest = c.complete.new.pool.highest in
    let to = subst (λ (n : ℕ). WorkedTo true config.file_size n n highest (past c.begin.new.disk) (past c.complete.new.disk)) begun.2 c.in_ok-complete.ensures.works in
    let done = opened_works config.file_size begun.0 highest (past c.args.disk.now) (past c.begin.new.disk) (past c.complete.new.disk) begun.5 to in
    record {
      files = files;
      before = begun.0;
      had = begun.4;
      begun = omega (arith, ap (λ (f : PoolFile). f.id) begun.1, c.in_ok-complete.ensures.later_file, c.in_ok-complete.ensures.filled.0);
      works = done;
      count = count_told (SyncsAllBut (IsRenewed (past c.args.disk.now) begun.0 highest)) config.file_size files begun.0 highest (past c.args.disk.now) (past c.complete.new.disk) (omega (arith, to.worked.least, to.worked.within, to.all refl)) (omega (arith, valid.sound.parts.numbers)) begun.4 done;
      enough = enough_by config files begun.0 first tail.file.id highest (min (config.min_files - (files + (tail.file.id + 1 - first))) (2 ^ 31 - 1 - tail.file.id)) (ap (λ (f : PoolFile). f.id) begun.1) c.in_ok-complete.ensures.later_file valid.sound.parts.numbers refl c.in_ok-complete.ensures.filled.0;
      most = valid.sound.parts.numbers;
    }

-- nothing was asked
pub returns-in_default-clause-failed_files : goal.returns-in_default-clause-failed_files
returns-in_default-clause-failed_files g c =
    let past = g.D.Disk.past c.args.disk.now in
    if_some IsBlank (λ l. HasFailedFiles c.args.config.now l past past) (g.C.Chronicle.lists c.args.chronicle.now) (λ l blank. inl (blank.1, syncs_none past)) c.requires.blank

pub returns-in_err-table-clause-failed_files : goal.returns-in_err-table-clause-failed_files
returns-in_err-table-clause-failed_files g c =
    let past = g.D.Disk.past in
    let config = c.args.config.now in
    let lists = g.C.Chronicle.lists c.begin.new.chronicle in
    let F : Lists → Type 0 = λ l. HasFailedFiles config l (past c.args.disk.now) (past c.begin.new.disk) in
    on_err _ (IfSome lists F) (if_some (λ l. l.steps ≡ []) F lists (λ l none. c.in_err-table.ensures.failed_files l none) c.begin.ensures.unstepped)

pub returns-in_err-complete-clause-failed_files : goal.returns-in_err-complete-clause-failed_files
returns-in_err-complete-clause-failed_files g c =
    let past = g.D.Disk.past in
    let config = c.args.config.now in
    let begun = c.in_ok-table.ensures.begun in
    let before = begun.0 in
    let files = c.in_ok-table.field-0.files in
    let lists = g.C.Chronicle.lists c.complete.new.chronicle in
    let txs = c.as_slice.result.now in
    let reached = c.complete.new.pool.highest in
    let at : c.in_ok-table.field-0.file.id ≡ before + 1 = ap (λ (f : PoolFile). f.id) begun.1 in
    let to = subst (λ (n : ℕ). WorkedTo false config.file_size n n reached (past c.begin.new.disk) (past c.complete.new.disk)) begun.2 c.in_err-complete.ensures.failed_works in
    let began = c.in_ok-table.ensures.valid c.in-Ok.buffer c.in-Ok.ensures in
    let same : txs ≡ rolled_back began.0 = c.as_slice.ensures.value ∙ began.2 in
    let failed = c.in_err-complete.ensures.failed began.0 same began.1 in
    let based = valid_base (past c.complete.new.disk) (g.D.Disk.moment c.complete.new.disk) (g.C.Chronicle.receipt_room c.complete.new.chronicle) config (state_of c.complete.new.table) c.complete.new.pool c.complete.new.tail began.0 failed.0 lists failed.1 in
    let F : Lists → Type 0 = λ l. HasFailedFiles config l (past c.args.disk.now) (past c.complete.new.disk) in
    let M : ℕ → Lists → Type 0 = λ n l. (reached ≡ file_of_last n (history_of l.steps)) ⊎ ((file_of_last n (history_of l.steps) ≤ reached) × (files + (reached + 2 - n) ≤ config.min_files)) in
    let Z : ℕ → Lists → Type 0 = λ n. FailedFlushed config n reached txs (past c.begin.new.disk) (past c.complete.new.disk) in
    let most : IfSome lists (M (before + 1)) = subst (λ (n : ℕ). IfSome lists (M n)) at c.in_err-complete.ensures.failed_most in
    let flushed : IfSome lists (Z (before + 1)) = subst (λ (n : ℕ). IfSome lists (Z n)) begun.2 c.in_err-complete.ensures.failed_flushed in
    on_err _ (IfSome lists F)
    (both_some (λ l. l.base ≡ began.0) (λ l. M (before + 1) l × Z (before + 1) l) F lists (λ l is so. inr (failed_has config l files before reached txs (past c.args.disk.now) (past c.begin.new.disk) (past c.complete.new.disk) begun.4 begun.5 so.0 (same ∙ ap rolled_back (sym is)) to so.1)) based
    (both_some (M (before + 1)) (Z (before + 1)) (λ l. M (before + 1) l × Z (before + 1) l) lists (λ l m f. (m, f)) most flushed))

pub returns-clause-journal_files : goal.returns-clause-journal_files
returns-clause-journal_files g c =
    let past = g.D.Disk.past in
    let config = c.args.config.now in
    let began = c.in_ok-table.ensures.valid c.in-Ok.buffer c.in-Ok.ensures in
    let txs = c.as_slice.result.now in
    let same : txs ≡ rolled_back began.0 = c.as_slice.ensures.value ∙ began.2 in
    let valid = c.in_ok-complete.ensures.ok began.0 same began.1 in
    let begun = c.in_ok-table.ensures.begun in
    let first = c.in_ok-table.field-0.file.id in
    let files = c.in_ok-table.field-0.files in
    let tail = c.complete.new.tail in
    let highest = c.complete.new.pool.highest in
    let lists = g.C.Chronicle.lists c.complete.new.chronicle in
    let n = min (config.min_files - (files + (tail.file.id + 1 - first))) (2 ^ 31 - 1 - tail.file.id) in
    let at : first ≡ begun.0 + 1 = ap (λ (f : PoolFile). f.id) begun.1 in
    let to = subst (λ (n : ℕ). WorkedTo true config.file_size n n highest (past c.begin.new.disk) (past c.complete.new.disk)) begun.2 c.in_ok-complete.ensures.works in
    let enough = enough_by config files begun.0 first tail.file.id highest n at c.in_ok-complete.ensures.later_file valid.sound.parts.numbers refl c.in_ok-complete.ensures.filled.0 in
    let placed = both_so (λ ss. history_of ss ≡ take (length ss) (rollbacks_behind config first 16 txs)) (λ ss. length ss ≡ length txs) (λ ss. history_of ss ≡ rollbacks_behind config first 16 txs) lists (λ ss front all. placed_all config first txs ss front all) c.complete.ensures.placed c.in_ok-complete.ensures.all in
    let ends = both_so (λ ss. history_of ss ≡ rollbacks_behind config first 16 txs) (λ ss. EndsIn first (history_of ss) tail.file.id (end_of_tail tail)) (λ ss. (history_of ss ≡ rollbacks_behind config first 16 txs) × EndsIn first (history_of ss) tail.file.id (end_of_tail tail)) lists (λ ss p e. (p, e)) placed c.in_ok-complete.ensures.ends in
    if_some (λ l. (history_of l.steps ≡ rollbacks_behind config first 16 txs) × EndsIn first (history_of l.steps) tail.file.id (end_of_tail tail)) (λ l. HasFilesSoFar true config tail.file.id (end_of_tail tail) highest l (past c.args.disk.now) (past c.complete.new.disk)) lists
    (λ l both. opened_so_far config files begun.0 first tail.file.id (end_of_tail tail) highest n txs l (past c.args.disk.now) (past c.begin.new.disk) (past c.complete.new.disk) at begun.4 begun.5 to c.in_ok-complete.ensures.later_file c.in_ok-complete.ensures.filled.0 refl enough both.0 both.1 (c.in_ok-complete.ensures.tidy c.in_ok-table.ensures.tidy)) ends
