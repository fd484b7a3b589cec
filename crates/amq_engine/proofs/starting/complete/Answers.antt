use Rattle.std.proofs.Common.{◌≡◌, ◌⊎◌, inl, inr, ⊎_elim, ◌<◌, ◌≤◌, false, arith, ℕ, List, ◌+◌, ◌-◌, ◌^◌, length, sym, ap, ◌∙◌, true, subst}
use Rattle.std.specs.Prelude.{min, take, is_ok, is_some, IfSome}
use Rattle.amq_model.specs.declared.history.Step.{Step}
use Rattle.amq_model.specs.Answers.{history_of}
use Rattle.amq_tx.specs.Tables.{state_of}
use Rattle.amq_engine.specs.declared.tail.Tail.{Tail}
use Rattle.amq_engine.specs.Lists.{Lists}
use Rattle.amq_engine.specs.Receipts.{IsLastCount}
use Rattle.amq_engine.specs.Engine.{rolling, with_files, end_of_tail}
use Rattle.amq_engine.proofs.Sound.{sound_there, sound_within}
use Rattle.amq_engine.specs.Opening.{EndsIn, NextNeedsFile, rollbacks_behind}
use Rattle.amq_engine.proofs.Started.{filled_by, on_err, valid_counted}
use Rattle.amq_engine.proofs.Receipts.{if_some, both_some}
use Rattle.amq_engine.proofs.Rollbacks.{same_steps, steps_so}
use Rattle.amq_model.specs.declared.config.Config.{Config}
use Rattle.amq_pool.specs.declared.pool.PoolFile.{PoolFile}
use Rattle.amq_engine.specs.DataFiles.{WorkedTo, FailedFlushed, file_of_last}
use Rattle.amq_engine.proofs.OpenedFiles.{to_and_then, put_to, further_to}
use Rattle.amq_engine.proofs.FilesTold.{sound_start}
use Rattle.amq_engine.proofs.GoingOn.{goes_through}
use Rattle.amq_engine.proofs.Beginning.{starts_receipted}
use Rattle.amq_engine.proofs.Noting.{both_true}
use Rattle.amq_engine.proofs.Owing.{owed_at_end}
use Rattle.amq_engine.proofs.starting.complete.Goals as goal

pub write_out-requires-clause-there : goal.write_out-requires-clause-there
write_out-requires-clause-there g c =
    let v = c.in_ok-roll_back.ensures.ok c.requires.valid.0 c.requires.valid.2 c.requires.valid.1 in
    sound_there (g.D.Disk.past c.roll_back.new.disk) (g.C.Chronicle.lists c.roll_back.new.chronicle) (g.C.Chronicle.receipt_room c.roll_back.new.chronicle) c.args.config.now (state_of c.roll_back.new.table) c.roll_back.new.pool c.roll_back.new.tail v.sound

pub write_out-requires-clause-within : goal.write_out-requires-clause-within
write_out-requires-clause-within g c =
    let v = c.in_ok-roll_back.ensures.ok c.requires.valid.0 c.requires.valid.2 c.requires.valid.1 in
    sound_within (g.D.Disk.past c.roll_back.new.disk) (g.C.Chronicle.lists c.roll_back.new.chronicle) (g.C.Chronicle.receipt_room c.roll_back.new.chronicle) c.args.config.now (state_of c.roll_back.new.table) c.roll_back.new.pool c.roll_back.new.tail v.sound

pub returns-in-Ok-clause-ok : goal.returns-in-Ok-clause-ok
returns-in-Ok-clause-ok g c base same v =
    let stage = rolling base (length c.args.txs.now) in
    c.fill_pool.ensures.valid stage (g.C.Chronicle.lists c.write_out.new.chronicle) (g.C.Chronicle.receipt_room c.write_out.new.chronicle) c.args.config.now (state_of c.roll_back.new.table) c.write_out.new.tail
    (c.write_out.ensures.valid stage c.args.config.now (state_of c.roll_back.new.table) c.roll_back.new.pool (c.in_ok-roll_back.ensures.ok base same v))

pub returns-in-Err-fill_pool-clause-failed : goal.returns-in-Err-fill_pool-clause-failed
returns-in-Err-fill_pool-clause-failed g c base same v =
    let stage = rolling base (length c.args.txs.now) in (
      length c.args.txs.now,
      c.fill_pool.ensures.valid stage (g.C.Chronicle.lists c.write_out.new.chronicle) (g.C.Chronicle.receipt_room c.write_out.new.chronicle) c.args.config.now (state_of c.roll_back.new.table) c.write_out.new.tail
          (c.write_out.ensures.valid stage c.args.config.now (state_of c.roll_back.new.table) c.roll_back.new.pool (c.in_ok-roll_back.ensures.ok base same v)),
    )

pub returns-in-Ok-clause-filled : goal.returns-in-Ok-clause-filled
returns-in-Ok-clause-filled g c =
    let file = c.write_out.new.tail.file.id in
    let p = c.roll_back.new.pool in
    let at : p.highest ≡ file = c.in_ok-roll_back.ensures.begun.1 ∙ sym (ap (λ (t : Tail). t.file.id) c.in_default.ensures.ok) in
    let n : ℕ → ℕ = λ k. min (c.args.config.now.min_files - (c.args.files + (file + 1 - c.args.tail.now.file.id))) (2 ^ 31 - 1 - k) in
    filled_by (n file) file p c.fill_pool.new.pool (c.in-Ok.ensures.filled ∙ ap (λ (k : ℕ). with_files (n k) p) at) c.in_ok-roll_back.ensures.begun.0 at

pub returns-in-Err-clause-goes_on : goal.returns-in-Err-clause-goes_on
returns-in-Err-clause-goes_on g c =
    let past = g.D.Disk.past in
    goes_through (past c.args.disk.now) (past c.roll_back.new.disk) (past c.write_out.new.disk) c.roll_back.ensures.goes_on c.write_out.ensures.goes_on

pub returns-in-Err-clause-first : goal.returns-in-Err-clause-first
returns-in-Err-clause-first g c r starts =
    let lists = g.C.Chronicle.lists in
    starts_receipted r _ c.roll_back.new.tail.appended _ (lists c.roll_back.new.chronicle) (lists c.write_out.new.chronicle) c.write_out.ensures.receipt (c.roll_back.ensures.first r starts)

pub returns-in-Err-fill_pool-clause-goes_on : goal.returns-in-Err-fill_pool-clause-goes_on
returns-in-Err-fill_pool-clause-goes_on g c =
    let past = g.D.Disk.past in
    goes_through (past c.args.disk.now) (past c.write_out.new.disk) (past c.fill_pool.new.disk) (goes_through (past c.args.disk.now) (past c.roll_back.new.disk) (past c.write_out.new.disk) c.roll_back.ensures.goes_on c.write_out.ensures.goes_on) c.fill_pool.ensures.goes_on

pub returns-in-Err-fill_pool-clause-first : goal.returns-in-Err-fill_pool-clause-first
returns-in-Err-fill_pool-clause-first g c r starts =
    let lists = g.C.Chronicle.lists in
    starts_receipted r _ c.roll_back.new.tail.appended _ (lists c.roll_back.new.chronicle) (lists c.write_out.new.chronicle) c.write_out.ensures.receipt (c.roll_back.ensures.first r starts)

pub returns-in-Ok-clause-goes_on : goal.returns-in-Ok-clause-goes_on
returns-in-Ok-clause-goes_on g c =
    let past = g.D.Disk.past in
    goes_through (past c.args.disk.now) (past c.write_out.new.disk) (past c.fill_pool.new.disk) (goes_through (past c.args.disk.now) (past c.roll_back.new.disk) (past c.write_out.new.disk) c.roll_back.ensures.goes_on c.write_out.ensures.goes_on) c.fill_pool.ensures.goes_on

pub returns-in-Ok-clause-first : goal.returns-in-Ok-clause-first
returns-in-Ok-clause-first g c r starts =
    let lists = g.C.Chronicle.lists in
    starts_receipted r _ c.roll_back.new.tail.appended _ (lists c.roll_back.new.chronicle) (lists c.write_out.new.chronicle) c.write_out.ensures.receipt (c.roll_back.ensures.first r starts)

pub returns-in-Ok-clause-tidy : goal.returns-in-Ok-clause-tidy
returns-in-Ok-clause-tidy g c tidy = c.in-Ok.ensures.tidy (c.in_default.ensures.tidy (c.in_ok-roll_back.ensures.tidy tidy))

pub returns-in-Err-clause-placed : goal.returns-in-Err-clause-placed
returns-in-Err-clause-placed g c =
    let lists = g.C.Chronicle.lists in
    let P : List Step → Type 0 = λ ss. history_of ss ≡ take (length ss) (rollbacks_behind c.args.config.now c.args.tail.now.file.id 16 c.args.txs.now) in
    steps_so P (lists c.roll_back.new.chronicle) (lists c.write_out.new.chronicle) (same_steps _ c.roll_back.new.tail.appended _ (lists c.roll_back.new.chronicle) (lists c.write_out.new.chronicle) c.write_out.ensures.receipt) c.roll_back.ensures.placed

pub returns-in-Err-fill_pool-clause-placed : goal.returns-in-Err-fill_pool-clause-placed
returns-in-Err-fill_pool-clause-placed g c =
    let lists = g.C.Chronicle.lists in
    let P : List Step → Type 0 = λ ss. history_of ss ≡ take (length ss) (rollbacks_behind c.args.config.now c.args.tail.now.file.id 16 c.args.txs.now) in
    steps_so P (lists c.roll_back.new.chronicle) (lists c.write_out.new.chronicle) (same_steps _ c.roll_back.new.tail.appended _ (lists c.roll_back.new.chronicle) (lists c.write_out.new.chronicle) c.write_out.ensures.receipt) c.roll_back.ensures.placed

pub returns-in-Ok-clause-placed : goal.returns-in-Ok-clause-placed
returns-in-Ok-clause-placed g c =
    let lists = g.C.Chronicle.lists in
    let P : List Step → Type 0 = λ ss. history_of ss ≡ take (length ss) (rollbacks_behind c.args.config.now c.args.tail.now.file.id 16 c.args.txs.now) in
    steps_so P (lists c.roll_back.new.chronicle) (lists c.write_out.new.chronicle) (same_steps _ c.roll_back.new.tail.appended _ (lists c.roll_back.new.chronicle) (lists c.write_out.new.chronicle) c.write_out.ensures.receipt) c.roll_back.ensures.placed

pub returns-in-Ok-clause-all : goal.returns-in-Ok-clause-all
returns-in-Ok-clause-all g c =
    let lists = g.C.Chronicle.lists in
    let P : List Step → Type 0 = λ ss. length ss ≡ length c.args.txs.now in
    steps_so P (lists c.roll_back.new.chronicle) (lists c.write_out.new.chronicle) (same_steps _ c.roll_back.new.tail.appended _ (lists c.roll_back.new.chronicle) (lists c.write_out.new.chronicle) c.write_out.ensures.receipt) c.in_ok-roll_back.ensures.all

pub returns-in-Err-clause-owed : goal.returns-in-Err-clause-owed
returns-in-Err-clause-owed g c all =
    let lists = g.C.Chronicle.lists in
    let v = c.in_ok-roll_back.ensures.ok c.requires.valid.0 c.requires.valid.2 c.requires.valid.1 in
    owed_at_end c.args.config.now (g.D.Disk.past c.roll_back.new.disk) (g.D.Disk.moment c.roll_back.new.disk) (g.C.Chronicle.receipt_room c.roll_back.new.chronicle) (state_of c.roll_back.new.table) c.roll_back.new.pool c.roll_back.new.tail _
    _ _ (lists c.roll_back.new.chronicle) (lists c.write_out.new.chronicle) (λ both. (both_true (is_ok c.write_out.result) (is_some c.roll_back.new.tail.buffer.since) both).1) c.write_out.ensures.receipt v (c.in_ok-roll_back.ensures.owed all)

pub returns-in-Err-fill_pool-clause-owed : goal.returns-in-Err-fill_pool-clause-owed
returns-in-Err-fill_pool-clause-owed g c all =
    let lists = g.C.Chronicle.lists in
    let v = c.in_ok-roll_back.ensures.ok c.requires.valid.0 c.requires.valid.2 c.requires.valid.1 in
    owed_at_end c.args.config.now (g.D.Disk.past c.roll_back.new.disk) (g.D.Disk.moment c.roll_back.new.disk) (g.C.Chronicle.receipt_room c.roll_back.new.chronicle) (state_of c.roll_back.new.table) c.roll_back.new.pool c.roll_back.new.tail _
    _ _ (lists c.roll_back.new.chronicle) (lists c.write_out.new.chronicle) (λ both. (both_true (is_ok c.write_out.result) (is_some c.roll_back.new.tail.buffer.since) both).1) c.write_out.ensures.receipt v (c.in_ok-roll_back.ensures.owed all)

pub returns-in-Ok-clause-owed : goal.returns-in-Ok-clause-owed
returns-in-Ok-clause-owed g c all =
    let lists = g.C.Chronicle.lists in
    let v = c.in_ok-roll_back.ensures.ok c.requires.valid.0 c.requires.valid.2 c.requires.valid.1 in
    owed_at_end c.args.config.now (g.D.Disk.past c.roll_back.new.disk) (g.D.Disk.moment c.roll_back.new.disk) (g.C.Chronicle.receipt_room c.roll_back.new.chronicle) (state_of c.roll_back.new.table) c.roll_back.new.pool c.roll_back.new.tail _
    _ _ (lists c.roll_back.new.chronicle) (lists c.write_out.new.chronicle) (λ both. (both_true (is_ok c.write_out.result) (is_some c.roll_back.new.tail.buffer.since) both).1) c.write_out.ensures.receipt v (c.in_ok-roll_back.ensures.owed all)

pub write_out-requires-clause-start : goal.write_out-requires-clause-start
write_out-requires-clause-start g c =
    let v = c.in_ok-roll_back.ensures.ok c.requires.valid.0 c.requires.valid.2 c.requires.valid.1 in
    sound_start c.args.config.now (state_of c.roll_back.new.table) c.roll_back.new.pool c.roll_back.new.tail v.sound.parts

pub fill_pool-requires : goal.fill_pool-requires
fill_pool-requires g c =
    let v = c.in_ok-roll_back.ensures.ok c.requires.valid.0 c.requires.valid.2 c.requires.valid.1 in
    record { numbers = v.sound.parts.numbers }

pub returns-in-Ok-clause-works : goal.returns-in-Ok-clause-works
returns-in-Ok-clause-works g c =
    let past = g.D.Disk.past in
    let config = c.args.config.now in
    let v = c.in_ok-roll_back.ensures.ok c.requires.valid.0 c.requires.valid.2 c.requires.valid.1 in
    let first = c.args.pool.now.highest in
    let mid = c.roll_back.new.pool.highest in
    let rolled = c.in_ok-roll_back.ensures.works in
    let put = put_to true c.roll_back.new.tail.file.name config.file_size mid (past c.roll_back.new.disk) (past c.write_out.new.disk) (ap (λ (f : PoolFile). f.name) c.in_ok-roll_back.ensures.named) v.sound.parts.numbers (c.write_out.ensures.works config.file_size mid) in
    let filled = subst (λ (k : Config). WorkedTo true k.file_size (mid + 1) mid c.fill_pool.new.pool.highest (past c.write_out.new.disk) (past c.fill_pool.new.disk)) v.sound.parts.same_config c.in-Ok.ensures.works in
    to_and_then true config.file_size first mid c.fill_pool.new.pool.highest (past c.args.disk.now) (past c.write_out.new.disk) (past c.fill_pool.new.disk)
    (to_and_then true config.file_size first mid mid (past c.args.disk.now) (past c.roll_back.new.disk) (past c.write_out.new.disk) rolled put)
    (further_to true config.file_size mid c.fill_pool.new.pool.highest (past c.write_out.new.disk) (past c.fill_pool.new.disk) filled)

pub returns-in-Err-clause-failed_works : goal.returns-in-Err-clause-failed_works
returns-in-Err-clause-failed_works g c =
    let past = g.D.Disk.past in
    let config = c.args.config.now in
    let v = c.in_ok-roll_back.ensures.ok c.requires.valid.0 c.requires.valid.2 c.requires.valid.1 in
    let first = c.args.pool.now.highest in
    let mid = c.roll_back.new.pool.highest in
    let put = put_to false c.roll_back.new.tail.file.name config.file_size mid (past c.roll_back.new.disk) (past c.write_out.new.disk) (ap (λ (f : PoolFile). f.name) c.in_ok-roll_back.ensures.named) v.sound.parts.numbers (c.write_out.ensures.works config.file_size mid) in
    to_and_then false config.file_size first mid mid (past c.args.disk.now) (past c.roll_back.new.disk) (past c.write_out.new.disk) c.in_ok-roll_back.ensures.works put

pub returns-in-Err-fill_pool-clause-failed_works : goal.returns-in-Err-fill_pool-clause-failed_works
returns-in-Err-fill_pool-clause-failed_works g c =
    let past = g.D.Disk.past in
    let config = c.args.config.now in
    let v = c.in_ok-roll_back.ensures.ok c.requires.valid.0 c.requires.valid.2 c.requires.valid.1 in
    let first = c.args.pool.now.highest in
    let mid = c.roll_back.new.pool.highest in
    let put = put_to true c.roll_back.new.tail.file.name config.file_size mid (past c.roll_back.new.disk) (past c.write_out.new.disk) (ap (λ (f : PoolFile). f.name) c.in_ok-roll_back.ensures.named) v.sound.parts.numbers (c.write_out.ensures.works config.file_size mid) in
    let filled = subst (λ (k : Config). WorkedTo false k.file_size (mid + 1) mid c.fill_pool.new.pool.highest (past c.write_out.new.disk) (past c.fill_pool.new.disk)) v.sound.parts.same_config c.in-Err-fill_pool.ensures.failed_works in
    to_and_then false config.file_size first mid c.fill_pool.new.pool.highest (past c.args.disk.now) (past c.write_out.new.disk) (past c.fill_pool.new.disk)
    (to_and_then true config.file_size first mid mid (past c.args.disk.now) (past c.roll_back.new.disk) (past c.write_out.new.disk) c.in_ok-roll_back.ensures.works put)
    (further_to false config.file_size mid c.fill_pool.new.pool.highest (past c.write_out.new.disk) (past c.fill_pool.new.disk) filled)

-- the file in use is that of the last append, and the pool has no further one
pub returns-in-Err-clause-failed_most : goal.returns-in-Err-clause-failed_most
returns-in-Err-clause-failed_most g c =
    let lists = g.C.Chronicle.lists in
    let first = c.args.tail.now.file.id in
    let p = c.roll_back.new.pool in
    let t = c.roll_back.new.tail in
    let P : List Step → Type 0 = λ ss. let last = file_of_last first (history_of ss) in (p.highest ≡ last) ⊎ ((last ≤ p.highest) × (c.args.files + (p.highest + 2 - first) ≤ c.args.config.now.min_files)) in
    steps_so P (lists c.roll_back.new.chronicle) (lists c.write_out.new.chronicle) (same_steps _ c.roll_back.new.tail.appended _ (lists c.roll_back.new.chronicle) (lists c.write_out.new.chronicle) c.write_out.ensures.receipt)
    (if_some (λ l. EndsIn first (history_of l.steps) t.file.id (end_of_tail t)) (λ l. P l.steps) (lists c.roll_back.new.chronicle) (λ l ends. inl (c.in_ok-roll_back.ensures.begun.1 ∙ ends.0)) c.in_ok-roll_back.ensures.ends)

pub returns-in_err-roll_back-clause-failed_most : goal.returns-in_err-roll_back-clause-failed_most
returns-in_err-roll_back-clause-failed_most g c =
    let first = c.args.tail.now.file.id in
    let p = c.roll_back.new.pool in
    let P : List Step → Type 0 = λ ss. let last = file_of_last first (history_of ss) in (p.highest ≡ last) ⊎ ((last ≤ p.highest) × (c.args.files + (p.highest + 2 - first) ≤ c.args.config.now.min_files)) in
    on_err _ (IfSome (g.C.Chronicle.lists c.roll_back.new.chronicle) (λ l. P l.steps)) (if_some (λ l. p.highest ≡ file_of_last first (history_of l.steps)) (λ l. P l.steps) (g.C.Chronicle.lists c.roll_back.new.chronicle) (λ l is. inl is) c.in_err-roll_back.ensures.failed_last)

-- further files are asked for
pub returns-in-Err-fill_pool-clause-failed_most : goal.returns-in-Err-fill_pool-clause-failed_most
returns-in-Err-fill_pool-clause-failed_most g c =
    let lists = g.C.Chronicle.lists in
    let first = c.args.tail.now.file.id in
    let p = c.roll_back.new.pool in
    let q = c.fill_pool.new.pool in
    let t = c.roll_back.new.tail in
    let same : c.write_out.new.tail.file.id ≡ t.file.id = ap (λ (u : Tail). u.file.id) c.in_default.ensures.ok in
    let few = c.in-Err-fill_pool.ensures.few in
    let P : List Step → Type 0 = λ ss. let last = file_of_last first (history_of ss) in (q.highest ≡ last) ⊎ ((last ≤ q.highest) × (c.args.files + (q.highest + 2 - first) ≤ c.args.config.now.min_files)) in
    steps_so P (lists c.roll_back.new.chronicle) (lists c.write_out.new.chronicle) (same_steps _ c.roll_back.new.tail.appended _ (lists c.roll_back.new.chronicle) (lists c.write_out.new.chronicle) c.write_out.ensures.receipt)
    (if_some (λ l. EndsIn first (history_of l.steps) t.file.id (end_of_tail t)) (λ l. P l.steps) (lists c.roll_back.new.chronicle)
    (λ l ends. inr (omega (arith, ends.0, c.in_ok-roll_back.ensures.begun.1, c.fill_pool.ensures.more), omega (arith, few, same, c.in_ok-roll_back.ensures.begun.1, c.in_ok-roll_back.ensures.later_file))) c.in_ok-roll_back.ensures.ends)

-- a rollback is still owed
pub returns-in_err-roll_back-clause-failed_flushed : goal.returns-in_err-roll_back-clause-failed_flushed
returns-in_err-roll_back-clause-failed_flushed g c =
    let lists = g.C.Chronicle.lists c.roll_back.new.chronicle in
    let first = c.args.tail.now.file.id in
    let highest = c.roll_back.new.pool.highest in
    let F : Lists → Type 0 = FailedFlushed c.args.config.now c.args.pool.now.highest highest c.args.txs.now (g.D.Disk.past c.args.disk.now) (g.D.Disk.past c.roll_back.new.disk) in
    let Last : Lists → Type 0 = λ l. highest ≡ file_of_last first (history_of l.steps) in
    let at : (l : Lists) → file_of_last first (history_of l.steps) ≡ file_of_last c.args.pool.now.highest (history_of l.steps) = λ l. sym (ap (λ (n : ℕ). file_of_last n (history_of l.steps)) c.requires.begun.1) in
    on_err _ (IfSome lists F)
    (⊎_elim (λ w. if_some Last F lists (λ l last. inr (inl (last ∙ at l, w))) c.in_err-roll_back.ensures.failed_last)
    (λ needs. both_some (λ l. length l.steps < length c.args.txs.now) (λ l. Last l × NextNeedsFile c.args.config.now l) F lists (λ l few so. inl (few, so.1, so.0 ∙ at l)) c.in_err-roll_back.ensures.failed_few
    (both_some Last (NextNeedsFile c.args.config.now) (λ l. Last l × NextNeedsFile c.args.config.now l) lists (λ l last needs. (last, needs)) c.in_err-roll_back.ensures.failed_last needs)) c.in_err-roll_back.ensures.failed_needs)

-- the flush failed, and no further file was asked for
pub returns-in-Err-clause-failed_flushed : goal.returns-in-Err-clause-failed_flushed
returns-in-Err-clause-failed_flushed g c =
    let past = g.D.Disk.past in
    let lists = g.C.Chronicle.lists in
    let config = c.args.config.now in
    let v = c.in_ok-roll_back.ensures.ok c.requires.valid.0 c.requires.valid.2 c.requires.valid.1 in
    let first = c.args.pool.now.highest in
    let mid = c.roll_back.new.pool.highest in
    let t = c.roll_back.new.tail in
    let put = put_to true t.file.name config.file_size mid (past c.roll_back.new.disk) (past c.write_out.new.disk) (ap (λ (f : PoolFile). f.name) c.in_ok-roll_back.ensures.named) v.sound.parts.numbers (c.write_out.ensures.works config.file_size mid) in
    let w : WorkedTo true config.file_size first first mid (past c.args.disk.now) (past c.write_out.new.disk) = to_and_then true config.file_size first mid mid (past c.args.disk.now) (past c.roll_back.new.disk) (past c.write_out.new.disk) c.in_ok-roll_back.ensures.works put in
    let P : List Step → Type 0 = λ ss. mid ≡ file_of_last first (history_of ss) in
    if_some (λ l. P l.steps) (FailedFlushed config first mid c.args.txs.now (past c.args.disk.now) (past c.write_out.new.disk)) (lists c.write_out.new.chronicle) (λ l at. inr (inl (at, w)))
    (steps_so P (lists c.roll_back.new.chronicle) (lists c.write_out.new.chronicle) (same_steps _ t.appended _ (lists c.roll_back.new.chronicle) (lists c.write_out.new.chronicle) c.write_out.ensures.receipt)
    (if_some (λ l. EndsIn c.args.tail.now.file.id (history_of l.steps) t.file.id (end_of_tail t)) (λ l. P l.steps) (lists c.roll_back.new.chronicle)
    (λ l ends. c.in_ok-roll_back.ensures.begun.1 ∙ ends.0 ∙ sym (ap (λ (n : ℕ). file_of_last n (history_of l.steps)) c.requires.begun.1)) c.in_ok-roll_back.ensures.ends))

-- the last receipt counts all
pub returns-in-Err-fill_pool-clause-failed_flushed : goal.returns-in-Err-fill_pool-clause-failed_flushed
returns-in-Err-fill_pool-clause-failed_flushed g c =
    let past = g.D.Disk.past in
    let lists = g.C.Chronicle.lists c.write_out.new.chronicle in
    let config = c.args.config.now in
    let stage = rolling c.requires.valid.0 (length c.args.txs.now) in
    let v = c.write_out.ensures.valid stage config (state_of c.roll_back.new.table) c.roll_back.new.pool (c.in_ok-roll_back.ensures.ok c.requires.valid.0 c.requires.valid.2 c.requires.valid.1) in
    let none = ap (λ (t : Tail). t.buffer.since) c.in_default.ensures.ok in
    let P : List Step → Type 0 = λ ss. length ss ≡ length c.args.txs.now in
    let before = g.C.Chronicle.lists c.roll_back.new.chronicle in
    both_some (λ l. P l.steps) (λ l. IsLastCount (length (history_of l.steps)) l.receipts) (FailedFlushed config c.args.pool.now.highest c.fill_pool.new.pool.highest c.args.txs.now (past c.args.disk.now) (past c.fill_pool.new.disk)) lists (λ l all counts. inr (inr (all, counts)))
    (steps_so P before lists (same_steps _ c.roll_back.new.tail.appended _ before lists c.write_out.ensures.receipt) c.in_ok-roll_back.ensures.all)
    (valid_counted stage (past c.write_out.new.disk) (g.D.Disk.moment c.write_out.new.disk) lists (g.C.Chronicle.receipt_room c.write_out.new.chronicle) config (state_of c.roll_back.new.table) c.roll_back.new.pool c.write_out.new.tail none v)
