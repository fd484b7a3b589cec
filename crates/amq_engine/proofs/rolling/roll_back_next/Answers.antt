use Rattle.std.proofs.Common.{◌≡◌, ◌⊎◌, inl, inr, ⊎_elim, ◌+◌, ◌-◌, ◌^◌, ◌≤◌, ℕ, Bool, true, false, [], ◌∷◌, ◌++◌, length, List, Option, None, Some, refl, sym, ap, subst, ◌∙◌, arith, cond}
use Rattle.std.specs.Prelude.{IfSome, IsTrue, is_some, option_map, ◌&&◌}
use Rattle.amq_model.specs.declared.record.Placed.{Placed}
use Rattle.amq_model.specs.declared.record.Record.TheVariants as rec
use Rattle.amq_model.specs.declared.command.Command.TheVariants.{Rollback}
use Rattle.amq_model.specs.declared.command.Reply.{Reply}
use Rattle.amq_model.specs.declared.command.Reply.TheVariants.{Appended}
use Rattle.amq_model.specs.declared.history.Answer.TheVariants.{Done}
use Rattle.amq_model.specs.declared.history.Step.{Step}
use Rattle.amq_tx.specs.State.{TxState}
use Rattle.amq_tx.specs.Tables.{state_of}
use Rattle.amq_tx.specs.Refusing.{refusal_in}
use Rattle.amq_engine.specs.declared.tail.Tail.{Tail}
use Rattle.amq_pool.specs.Pools.{ids_of, PoolOf, numbered_file}
use Rattle.amq_engine.specs.Lists.{Lists, with_step, steps_in}
use Rattle.amq_engine.specs.Engine.{rolling, IsValid, end_of_tail, passes, spent, refused, flushes, placed_behind, is_nil}
use Rattle.amq_engine.specs.Opening.{NeedsFile, rollback_behind, EndsIn}
use Rattle.amq_model.specs.Answers.{history_of}
use Rattle.amq_model.specs.Legal.{needs_file}
use Rattle.amq_engine.proofs.Sound.{sound_there, sound_within}
use Rattle.amq_engine.proofs.Commanding.{spent_left, when_ok, few_appends, count_fits, put_fits, valid_room}
use Rattle.amq_engine.proofs.RollingBack.{accepts_next, refused_spent, roll_spent, rolled_ends, roll_needs, valid_rolled}
use Rattle.amq_engine.proofs.GoingOn.{goes_still}
use Rattle.amq_engine.proofs.Owing.{owed_in_opening, owed_same, owed_failed, owed_rolled}
use Rattle.amq_engine.proofs.FilesTold.{sound_start, readied_most}
use Rattle.amq_model.specs.declared.config.Config.{Config}
use Rattle.amq_pool.specs.declared.pool.PoolFile.{PoolFile}
use Rattle.amq_engine.specs.DataFiles.{WorkedTo}
use Rattle.amq_engine.proofs.DataFiles.{to_still, most_by, most_limit, none_by}
use Rattle.amq_engine.proofs.OpenedFiles.{named_ready, rolled_to, failed_to}
use Rattle.amq_engine.proofs.Beginning.{starts_same, starts_failed, starts_step, starts_receipted}
use Rattle.amq_engine.proofs.Rollbacks.{placed_is, same_steps, steps_failed, steps_more, steps_so}
use Rattle.amq_engine.proofs.rolling.roll_back_next.Goals as goal

pub returns-then-is_err-clause-failed : goal.returns-then-is_err-clause-failed
returns-then-is_err-clause-failed g c base v =
    let lists = g.C.Chronicle.lists in
    let room = g.C.Chronicle.receipt_room in
    let past = g.D.Disk.past c.args.disk.now in
    let moment = g.D.Disk.moment c.args.disk.now in
    let stage = rolling base c.args.done in
    subst (λ (s : TxState). IsValid stage past moment (lists c.make_room.new.chronicle) (room c.make_room.new.chronicle) c.args.config.now s c.args.pool.now c.args.tail.now) (sym c.make_room.ensures.table)
    (valid_room stage past moment (lists c.args.chronicle.now) (lists c.make_room.new.chronicle) (room c.args.chronicle.now) (room c.make_room.new.chronicle) c.args.config.now (state_of c.args.table.now) c.args.pool.now c.args.tail.now c.make_room.ensures.lists c.make_room.ensures.room v)

pub returns-then-is_some-clause-failed : goal.returns-then-is_some-clause-failed
returns-then-is_some-clause-failed g c base v =
    let lists = g.C.Chronicle.lists in
    let room = g.C.Chronicle.receipt_room in
    let past = g.D.Disk.past c.args.disk.now in
    let moment = g.D.Disk.moment c.args.disk.now in
    let stage = rolling base c.args.done in
    subst (λ (s : TxState). IsValid stage past moment (lists c.make_room.new.chronicle) (room c.make_room.new.chronicle) c.args.config.now s c.args.pool.now c.args.tail.now) (sym c.make_room.ensures.table)
    (valid_room stage past moment (lists c.args.chronicle.now) (lists c.make_room.new.chronicle) (room c.args.chronicle.now) (room c.make_room.new.chronicle) c.args.config.now (state_of c.args.table.now) c.args.pool.now c.args.tail.now c.make_room.ensures.lists c.make_room.ensures.room v)

pub returns-then-is_some-clause-cause : goal.returns-then-is_some-clause-cause
returns-then-is_some-clause-cause g c =
    let lists = g.C.Chronicle.lists in
    let e = c.args in
    let ends : e.tail.now.end + length c.bytes.result.now ≡ end_of_tail e.tail.now = ap (λ (l : List ℕ). e.tail.now.end + length l) c.bytes.ensures in
    let moves : c.passes-moves.result ≡ passes e.config.now.file_size (end_of_tail e.tail.now) (Some 18) = c.passes-moves.ensures ∙ ap (λ (n : ℕ). passes e.config.now.file_size n (Some 18)) ends in
    let some : is_some (spent (passes e.config.now.file_size (end_of_tail e.tail.now) (Some 18)) e.pool.now.highest (ids_of e.pool.now.prepared)) ≡ true =
    sym (ap is_some (c.number_refusal.ensures.first ∙ ap (λ (m : Bool). spent m e.pool.now.highest (ids_of e.pool.now.prepared)) moves)) ∙ sym c.is_some.ensures ∙ c.if-is_some.true in
    let so = roll_spent (g.D.Disk.past e.disk.now) (g.D.Disk.moment e.disk.now) (lists e.chronicle.now) (g.C.Chronicle.receipt_room e.chronicle.now) e.config.now (state_of e.table.now) e.pool.now e.tail.now c.requires.valid.0 e.done e.tx c.requires.valid.2 c.requires.valid.1 some c.requires.begun.1 c.requires.ended in
    (c.highest.ensures.value ∙ so.0, subst (λ (l : Option Lists). IfSome l (NeedsFile e.config.now)) (sym c.make_room.ensures.lists) so.1, (refl, refl))

pub ready-requires-clause-there : goal.ready-requires-clause-there
ready-requires-clause-there g c =
    sound_there (g.D.Disk.past c.args.disk.now) (g.C.Chronicle.lists c.args.chronicle.now) (g.C.Chronicle.receipt_room c.args.chronicle.now) c.args.config.now (state_of c.args.table.now) c.args.pool.now c.args.tail.now c.requires.valid.1.sound

pub ready-requires-clause-within : goal.ready-requires-clause-within
ready-requires-clause-within g c =
    sound_within (g.D.Disk.past c.args.disk.now) (g.C.Chronicle.lists c.args.chronicle.now) (g.C.Chronicle.receipt_room c.args.chronicle.now) c.args.config.now (state_of c.args.table.now) c.args.pool.now c.args.tail.now c.requires.valid.1.sound

pub returns-in-Err-clause-failed : goal.returns-in-Err-clause-failed
returns-in-Err-clause-failed g c base v =
    let lists = g.C.Chronicle.lists in
    let room = g.C.Chronicle.receipt_room in
    let past = g.D.Disk.past c.args.disk.now in
    let moment = g.D.Disk.moment c.args.disk.now in
    let stage = rolling base c.args.done in
    let same : IsValid stage past moment (lists c.make_room.new.chronicle) (room c.make_room.new.chronicle) c.args.config.now (state_of c.make_room.new.table) c.args.pool.now c.args.tail.now =
    subst (λ (s : TxState). IsValid stage past moment (lists c.make_room.new.chronicle) (room c.make_room.new.chronicle) c.args.config.now s c.args.pool.now c.args.tail.now) (sym c.make_room.ensures.table)
    (valid_room stage past moment (lists c.args.chronicle.now) (lists c.make_room.new.chronicle) (room c.args.chronicle.now) (room c.make_room.new.chronicle) c.args.config.now (state_of c.args.table.now) c.args.pool.now c.args.tail.now c.make_room.ensures.lists c.make_room.ensures.room v) in
    c.ready.ensures.valid stage c.args.config.now (state_of c.make_room.new.table) same

pub apply-given-requires-clause-checked : goal.apply-given-requires-clause-checked
apply-given-requires-clause-checked g c =
    subst (λ (s : TxState). refusal_in s (Rollback c.args.tx) ≡ None) (sym c.make_room.ensures.table)
    (accepts_next (g.D.Disk.past c.args.disk.now) (g.D.Disk.moment c.args.disk.now) (g.C.Chronicle.lists c.args.chronicle.now) (g.C.Chronicle.receipt_room c.args.chronicle.now) c.args.config.now (state_of c.args.table.now) c.args.pool.now c.args.tail.now c.requires.valid.0 c.args.done c.args.tx c.requires.valid.2 c.requires.valid.1)

pub apply-given-requires-clause-count : goal.apply-given-requires-clause-count
apply-given-requires-clause-count g c =
    let lists = g.C.Chronicle.lists in
    let room = g.C.Chronicle.receipt_room in
    let past = g.D.Disk.past c.args.disk.now in
    let moment = g.D.Disk.moment c.args.disk.now in
    let table = state_of c.make_room.new.table in
    let stage = rolling c.requires.valid.0 c.args.done in
    let same : IsValid stage past moment (lists c.make_room.new.chronicle) (room c.make_room.new.chronicle) c.args.config.now table c.args.pool.now c.args.tail.now =
    subst (λ (s : TxState). IsValid stage past moment (lists c.make_room.new.chronicle) (room c.make_room.new.chronicle) c.args.config.now s c.args.pool.now c.args.tail.now) (sym c.make_room.ensures.table)
    (valid_room stage past moment (lists c.args.chronicle.now) (lists c.make_room.new.chronicle) (room c.args.chronicle.now) (room c.make_room.new.chronicle) c.args.config.now (state_of c.args.table.now) c.args.pool.now c.args.tail.now c.make_room.ensures.lists c.make_room.ensures.room c.requires.valid.1) in
    let valid : IsValid stage (g.D.Disk.past c.ready.new.disk) (g.D.Disk.moment c.ready.new.disk) (lists c.ready.new.chronicle) (room c.ready.new.chronicle) c.args.config.now table c.ready.new.pool c.ready.new.tail = c.ready.ensures.valid stage c.args.config.now table same in
    count_fits c.args.config.now table c.ready.new.pool c.ready.new.tail (Rollback c.args.tx) valid.ranges valid.sound.parts

pub put_record-reply-requires-clause-count : goal.put_record-reply-requires-clause-count
put_record-reply-requires-clause-count g c =
    let lists = g.C.Chronicle.lists in
    let room = g.C.Chronicle.receipt_room in
    let past = g.D.Disk.past c.args.disk.now in
    let moment = g.D.Disk.moment c.args.disk.now in
    let table = state_of c.make_room.new.table in
    let stage = rolling c.requires.valid.0 c.args.done in
    let same : IsValid stage past moment (lists c.make_room.new.chronicle) (room c.make_room.new.chronicle) c.args.config.now table c.args.pool.now c.args.tail.now =
    subst (λ (s : TxState). IsValid stage past moment (lists c.make_room.new.chronicle) (room c.make_room.new.chronicle) c.args.config.now s c.args.pool.now c.args.tail.now) (sym c.make_room.ensures.table)
    (valid_room stage past moment (lists c.args.chronicle.now) (lists c.make_room.new.chronicle) (room c.args.chronicle.now) (room c.make_room.new.chronicle) c.args.config.now (state_of c.args.table.now) c.args.pool.now c.args.tail.now c.make_room.ensures.lists c.make_room.ensures.room c.requires.valid.1) in
    let valid : IsValid stage (g.D.Disk.past c.ready.new.disk) (g.D.Disk.moment c.ready.new.disk) (lists c.ready.new.chronicle) (room c.ready.new.chronicle) c.args.config.now table c.ready.new.pool c.ready.new.tail = c.ready.ensures.valid stage c.args.config.now table same in
    few_appends c.args.config.now table c.ready.new.pool c.ready.new.tail valid.ranges valid.sound.parts

pub returns-clause-ok : goal.returns-clause-ok
returns-clause-ok g c base there v =
    let e = c.args in
    let lists = g.C.Chronicle.lists in
    let room = g.C.Chronicle.receipt_room in
    let past = g.D.Disk.past e.disk.now in
    let moment = g.D.Disk.moment e.disk.now in
    let table = state_of c.make_room.new.table in
    let stage = rolling base e.done in
    let same : IsValid stage past moment (lists c.make_room.new.chronicle) (room c.make_room.new.chronicle) e.config.now table e.pool.now e.tail.now =
    subst (λ (s : TxState). IsValid stage past moment (lists c.make_room.new.chronicle) (room c.make_room.new.chronicle) e.config.now s e.pool.now e.tail.now) (sym c.make_room.ensures.table)
    (valid_room stage past moment (lists e.chronicle.now) (lists c.make_room.new.chronicle) (room e.chronicle.now) (room c.make_room.new.chronicle) e.config.now (state_of e.table.now) e.pool.now e.tail.now c.make_room.ensures.lists c.make_room.ensures.room v) in
    let valid : IsValid stage (g.D.Disk.past c.ready.new.disk) (g.D.Disk.moment c.ready.new.disk) (lists c.ready.new.chronicle) (room c.ready.new.chronicle) e.config.now table c.ready.new.pool c.ready.new.tail = c.ready.ensures.valid stage e.config.now table same in
    let ends : e.tail.now.end + length c.bytes.result.now ≡ end_of_tail e.tail.now = ap (λ (l : List ℕ). e.tail.now.end + length l) c.bytes.ensures in
    let moves : c.passes-moves.result ≡ passes e.config.now.file_size (end_of_tail e.tail.now) (Some 18) = c.passes-moves.ensures ∙ ap (λ (n : ℕ). passes e.config.now.file_size n (Some 18)) ends in
    let accepts = accepts_next past moment (lists c.make_room.new.chronicle) (room c.make_room.new.chronicle) e.config.now table e.pool.now e.tail.now base e.done e.tx there same in
    let none : refused e.config.now (refusal_in table (Rollback e.tx)) None (Rollback e.tx) ≡ None = refused_spent e.config.now (refusal_in table (Rollback e.tx)) None e.tx v.ranges accepts in
    let t = c.ready.new.tail in
    let fits : end_of_tail t + 18 ≤ e.config.now.file_size =
    subst (λ (u : Tail). end_of_tail u + 18 ≤ e.config.now.file_size) (sym c.in_default.ensures.ok)
    (put_fits e.config.now (refusal_in table (Rollback e.tx)) None e.pool.now e.tail.now (Rollback e.tx) (Some (rec.Rollback e.tx)) c.passes-moves.result (flushes e.tail.now.buffer.capacity (length e.tail.now.buffer.bytes) (Rollback e.tx)) v.ranges none refl moves) in
    let step : Reply → Option Placed → Option Lists = λ r p. option_map (with_step (record { seat = 0; number = e.done + 1; command = Rollback e.tx; answer = Done r; placed = p })) (lists c.ready.new.chronicle) in
    let noted : lists c.step.new.self ≡ step (Appended t.appended) (Some (placed_behind t (rec.Rollback e.tx))) =
    c.step.ensures.noted ∙ ap (λ (r : Reply). step r c.put_record-reply.result.1) c.put_record-reply.ensures.reply ∙ ap (step (Appended t.appended)) c.put_record-reply.ensures.placed in
    let two : 2 ≤ room c.make_room.new.chronicle = when_ok c.make_room.result (2 ≤ room c.make_room.new.chronicle) (sym c.is_err.ensures.value ∙ c.if-is_err.false) c.make_room.ensures.receipts in
    subst (λ (u : Tail). IsValid (rolling base (e.done + 1)) (g.D.Disk.past c.ready.new.disk) (g.D.Disk.moment c.ready.new.disk) (lists c.step.new.self) (room c.step.new.self) e.config.now (state_of c.apply-given.new.self) c.ready.new.pool u) (sym c.put_record-reply.ensures.tail)
    (valid_rolled (g.D.Disk.past c.ready.new.disk) (g.D.Disk.moment c.ready.new.disk) (lists c.ready.new.chronicle) (lists c.step.new.self) (room c.ready.new.chronicle) (room c.step.new.self) e.config.now table (state_of c.apply-given.new.self) c.ready.new.pool t base e.done e.tx c.apply-given.result there c.ranges.tx.fits valid fits c.apply-given.ensures.number
    (λ b steps x follows accepted. c.apply-given.ensures.follows b steps x follows accepted) noted (omega (arith, two, c.ready.ensures.room, c.step.ensures.receipts)))

pub returns-clause-ends : goal.returns-clause-ends
returns-clause-ends g c =
    let t = c.ready.new.tail in
    rolled_ends (g.C.Chronicle.lists c.ready.new.chronicle) (g.C.Chronicle.lists c.step.new.self) t c.put_record-reply.new.tail _ (rec.Rollback c.args.tx) c.put_record-reply.ensures.placed c.put_record-reply.ensures.tail c.step.ensures.noted

pub returns-then-is_err-clause-goes_on : goal.returns-then-is_err-clause-goes_on
returns-then-is_err-clause-goes_on g c = goes_still (g.D.Disk.past c.args.disk.now)

pub returns-then-is_some-clause-goes_on : goal.returns-then-is_some-clause-goes_on
returns-then-is_some-clause-goes_on g c = goes_still (g.D.Disk.past c.args.disk.now)

pub returns-then-is_err-clause-first : goal.returns-then-is_err-clause-first
returns-then-is_err-clause-first g c r starts = starts_same r (g.C.Chronicle.lists c.args.chronicle.now) (g.C.Chronicle.lists c.make_room.new.chronicle) c.make_room.ensures.lists starts

pub returns-then-is_some-clause-first : goal.returns-then-is_some-clause-first
returns-then-is_some-clause-first g c r starts = starts_same r (g.C.Chronicle.lists c.args.chronicle.now) (g.C.Chronicle.lists c.make_room.new.chronicle) c.make_room.ensures.lists starts

pub returns-in-Err-clause-first : goal.returns-in-Err-clause-first
returns-in-Err-clause-first g c r starts =
    let lists = g.C.Chronicle.lists in
    starts_failed r (c.passes-moves.result ≡ true) (c.args.pool.now.prepared ≡ []) (g.D.Disk.moment c.args.disk.now) c.args.tail.now c.ready.new.tail (lists c.make_room.new.chronicle) (lists c.ready.new.chronicle) c.in-Err.ensures.err
    (starts_same r (lists c.args.chronicle.now) (lists c.make_room.new.chronicle) c.make_room.ensures.lists starts)

pub returns-clause-first : goal.returns-clause-first
returns-clause-first g c r starts =
    let lists = g.C.Chronicle.lists in
    starts_step r _ (lists c.ready.new.chronicle) (lists c.step.new.self) c.step.ensures.noted
    (starts_receipted r _ c.args.tail.now.appended _ (lists c.make_room.new.chronicle) (lists c.ready.new.chronicle) c.in_default.ensures.receipt
    (starts_same r (lists c.args.chronicle.now) (lists c.make_room.new.chronicle) c.make_room.ensures.lists starts))

pub returns-then-is_err-clause-unstepped : goal.returns-then-is_err-clause-unstepped
returns-then-is_err-clause-unstepped g c = ap steps_in c.make_room.ensures.lists

pub returns-then-is_some-clause-unstepped : goal.returns-then-is_some-clause-unstepped
returns-then-is_some-clause-unstepped g c = ap steps_in c.make_room.ensures.lists

pub returns-in-Err-clause-unstepped : goal.returns-in-Err-clause-unstepped
returns-in-Err-clause-unstepped g c =
    let lists = g.C.Chronicle.lists in
    steps_failed (c.passes-moves.result ≡ true) (c.args.pool.now.prepared ≡ []) (g.D.Disk.moment c.args.disk.now) c.args.tail.now c.ready.new.tail (lists c.make_room.new.chronicle) (lists c.ready.new.chronicle) c.in-Err.ensures.err ∙ ap steps_in c.make_room.ensures.lists

-- the record stands behind the others
pub returns-clause-stepped : goal.returns-clause-stepped
returns-clause-stepped g c =
    let e = c.args in
    let lists = g.C.Chronicle.lists in
    let t = c.ready.new.tail in
    let x : Step = record { seat = 0; number = e.done + 1; command = Rollback e.tx; answer = Done c.put_record-reply.result.0; placed = c.put_record-reply.result.1 } in
    let ends : e.tail.now.end + length c.bytes.result.now ≡ end_of_tail e.tail.now = ap (λ (l : List ℕ). e.tail.now.end + length l) c.bytes.ensures in
    let moves : c.passes-moves.result ≡ passes e.config.now.file_size (end_of_tail e.tail.now) (Some 18) = c.passes-moves.ensures ∙ ap (λ (n : ℕ). passes e.config.now.file_size n (Some 18)) ends in
    let flushed = flushes e.tail.now.buffer.capacity (length e.tail.now.buffer.bytes) (Rollback e.tx) in
    let placed : x.placed ≡ Some (rollback_behind e.config.now e.tail.now.file.id (end_of_tail e.tail.now) e.tx) =
    c.put_record-reply.ensures.placed ∙ ap (λ (u : Tail). Some (placed_behind u (rec.Rollback e.tx))) c.in_default.ensures.ok ∙ ap Some (placed_is e.config.now c.passes-moves.result flushed e.pool.now e.tail.now e.tx (sym moves) c.requires.begun.0 c.requires.begun.1) in
    let same : steps_in (lists c.ready.new.chronicle) ≡ steps_in (lists e.chronicle.now) = same_steps _ e.tail.now.appended _ (lists c.make_room.new.chronicle) (lists c.ready.new.chronicle) c.in_default.ensures.receipt ∙ ap steps_in c.make_room.ensures.lists in (
      x,
      placed,
      steps_more x (lists c.ready.new.chronicle) (lists c.step.new.self) c.step.ensures.noted ∙ ap (option_map (λ (ss : List Step). ss ++ x ∷ [])) same,
    )

pub returns-then-is_err-clause-failed_owed : goal.returns-then-is_err-clause-failed_owed
returns-then-is_err-clause-failed_owed g c all = owed_in_opening c.args.config.now (g.C.Chronicle.lists c.args.chronicle.now) (g.C.Chronicle.lists c.make_room.new.chronicle) c.make_room.ensures.lists all

pub returns-then-is_some-clause-failed_owed : goal.returns-then-is_some-clause-failed_owed
returns-then-is_some-clause-failed_owed g c all = owed_in_opening c.args.config.now (g.C.Chronicle.lists c.args.chronicle.now) (g.C.Chronicle.lists c.make_room.new.chronicle) c.make_room.ensures.lists all

pub returns-in-Err-clause-failed_owed : goal.returns-in-Err-clause-failed_owed
returns-in-Err-clause-failed_owed g c all =
    let lists = g.C.Chronicle.lists in
    let room = g.C.Chronicle.receipt_room in
    let e = c.args in
    let past = g.D.Disk.past e.disk.now in
    let moment = g.D.Disk.moment e.disk.now in
    let table = state_of e.table.now in
    let stage = rolling c.requires.valid.0 e.done in
    let v : IsValid stage past moment (lists c.make_room.new.chronicle) (room c.make_room.new.chronicle) e.config.now table e.pool.now e.tail.now =
    valid_room stage past moment (lists e.chronicle.now) (lists c.make_room.new.chronicle) (room e.chronicle.now) (room c.make_room.new.chronicle) e.config.now table e.pool.now e.tail.now c.make_room.ensures.lists c.make_room.ensures.room c.requires.valid.1 in
    owed_failed e.config.now past moment (room c.make_room.new.chronicle) table e.pool.now e.tail.now stage (c.passes-moves.result ≡ true) (e.pool.now.prepared ≡ []) moment c.ready.new.tail (lists c.make_room.new.chronicle) (lists c.ready.new.chronicle) c.in-Err.ensures.err v
    (owed_same e.config.now (lists e.chronicle.now) (lists c.make_room.new.chronicle) c.make_room.ensures.lists all)

pub returns-clause-owed : goal.returns-clause-owed
returns-clause-owed g c all =
    let lists = g.C.Chronicle.lists in
    let room = g.C.Chronicle.receipt_room in
    let e = c.args in
    let past = g.D.Disk.past e.disk.now in
    let moment = g.D.Disk.moment e.disk.now in
    let table = state_of e.table.now in
    let stage = rolling c.requires.valid.0 e.done in
    let v : IsValid stage past moment (lists c.make_room.new.chronicle) (room c.make_room.new.chronicle) e.config.now table e.pool.now e.tail.now =
    valid_room stage past moment (lists e.chronicle.now) (lists c.make_room.new.chronicle) (room e.chronicle.now) (room c.make_room.new.chronicle) e.config.now table e.pool.now e.tail.now c.make_room.ensures.lists c.make_room.ensures.room c.requires.valid.1 in
    let ends : e.tail.now.end + length c.bytes.result.now ≡ end_of_tail e.tail.now = ap (λ (l : List ℕ). e.tail.now.end + length l) c.bytes.ensures in
    let moves : c.passes-moves.result ≡ passes e.config.now.file_size (end_of_tail e.tail.now) (Some 18) = c.passes-moves.ensures ∙ ap (λ (n : ℕ). passes e.config.now.file_size n (Some 18)) ends in
    owed_rolled e.config.now past moment (room c.make_room.new.chronicle) table e.pool.now e.tail.now stage c.passes-moves.result _ e.tx _ (lists c.make_room.new.chronicle) (lists c.ready.new.chronicle) (lists c.step.new.self) c.in_default.ensures.receipt moves refl tt c.step.ensures.noted
    (subst (λ (o : Option Lists). IfSome o (λ l. (first : ℕ) × EndsIn first (history_of l.steps) e.tail.now.file.id (end_of_tail e.tail.now))) (sym c.make_room.ensures.lists) c.requires.ended) v
    (owed_same e.config.now (lists e.chronicle.now) (lists c.make_room.new.chronicle) c.make_room.ensures.lists all)

pub ready-requires-clause-start : goal.ready-requires-clause-start
ready-requires-clause-start g c = sound_start c.args.config.now (state_of c.args.table.now) c.args.pool.now c.args.tail.now c.requires.valid.1.sound.parts

pub returns-clause-named : goal.returns-clause-named
returns-clause-named g c =
    let e = c.args in
    ap (λ (t : Tail). t.file) c.put_record-reply.ensures.tail ∙ ap (λ (t : Tail). t.file) c.in_default.ensures.ok
    ∙ named_ready c.passes-moves.result (flushes e.tail.now.buffer.capacity (length e.tail.now.buffer.bytes) (Rollback e.tx)) e.pool.now e.tail.now c.requires.begun.0 c.requires.named
    ∙ sym (ap (λ (p : PoolOf). numbered_file p.highest) c.in_default.ensures.pool)

pub returns-clause-works : goal.returns-clause-works
returns-clause-works g c =
    let e = c.args in
    let lists = g.C.Chronicle.lists in
    let room = g.C.Chronicle.receipt_room in
    let past = g.D.Disk.past e.disk.now in
    let moment = g.D.Disk.moment e.disk.now in
    let table = state_of c.make_room.new.table in
    let stage = rolling c.requires.valid.0 e.done in
    let same : IsValid stage past moment (lists c.make_room.new.chronicle) (room c.make_room.new.chronicle) e.config.now table e.pool.now e.tail.now =
    subst (λ (s : TxState). IsValid stage past moment (lists c.make_room.new.chronicle) (room c.make_room.new.chronicle) e.config.now s e.pool.now e.tail.now) (sym c.make_room.ensures.table)
    (valid_room stage past moment (lists e.chronicle.now) (lists c.make_room.new.chronicle) (room e.chronicle.now) (room c.make_room.new.chronicle) e.config.now (state_of e.table.now) e.pool.now e.tail.now c.make_room.ensures.lists c.make_room.ensures.room c.requires.valid.1) in
    let valid : IsValid stage (g.D.Disk.past c.ready.new.disk) (g.D.Disk.moment c.ready.new.disk) (lists c.ready.new.chronicle) (room c.ready.new.chronicle) e.config.now table c.ready.new.pool c.ready.new.tail = c.ready.ensures.valid stage e.config.now table same in
    let h = e.pool.now.highest in
    let most = cond (c.passes-moves.result && is_nil e.pool.now.prepared) (h + 1) h in
    let is : most ≡ c.ready.new.pool.highest = sym (ap (λ (p : PoolOf). p.highest) c.in_default.ensures.pool ∙ readied_most c.passes-moves.result e.pool.now) in
    subst (λ (k : Config). WorkedTo true k.file_size h h c.ready.new.pool.highest past (g.D.Disk.past c.ready.new.disk)) c.requires.valid.1.sound.parts.same_config
    (rolled_to true e.tail.now.file.name e.pool.now.config.file_size h most c.ready.new.pool.highest past (g.D.Disk.past c.ready.new.disk) (ap (λ (f : PoolFile). f.name) c.requires.named)
    (omega (arith, is, valid.sound.parts.numbers)) (λ d. is) (omega (arith, is)) c.in_default.ensures.works (omega (arith, is, c.in_default.ensures.works.all refl)))

pub returns-then-is_err-clause-failed_works : goal.returns-then-is_err-clause-failed_works
returns-then-is_err-clause-failed_works g c = to_still false c.args.config.now.file_size c.args.pool.now.highest c.args.pool.now.highest (g.D.Disk.past c.args.disk.now) c.requires.valid.1.sound.parts.numbers

pub returns-then-is_some-clause-failed_works : goal.returns-then-is_some-clause-failed_works
returns-then-is_some-clause-failed_works g c = to_still false c.args.config.now.file_size c.args.pool.now.highest c.args.pool.now.highest (g.D.Disk.past c.args.disk.now) c.requires.valid.1.sound.parts.numbers

pub returns-in-Err-clause-failed_works : goal.returns-in-Err-clause-failed_works
returns-in-Err-clause-failed_works g c =
    let e = c.args in
    let past = g.D.Disk.past e.disk.now in
    let h = e.pool.now.highest in
    let most = cond (c.passes-moves.result && is_nil e.pool.now.prepared) (h + 1) h in
    let at : c.ready.new.pool.highest ≡ h = ap (λ (p : PoolOf). p.highest) c.in-Err.ensures.same_pool in
    let low : most ≤ 2 ^ 31 - 1 = most_limit c.passes-moves.result e.pool.now c.requires.valid.1.sound.parts.numbers (λ moving none. spent_left c.passes-moves.result h (ids_of e.pool.now.prepared) (none_by (spent c.passes-moves.result h (ids_of e.pool.now.prepared)) (sym (ap is_some c.number_refusal.ensures.first) ∙ sym c.is_some.ensures ∙ c.if-is_some.false)) moving (ap ids_of none)) in
    subst (λ (k : Config). WorkedTo false k.file_size h h c.ready.new.pool.highest past (g.D.Disk.past c.ready.new.disk)) c.requires.valid.1.sound.parts.same_config
    (rolled_to false e.tail.now.file.name e.pool.now.config.file_size h most c.ready.new.pool.highest past (g.D.Disk.past c.ready.new.disk) (ap (λ (f : PoolFile). f.name) c.requires.named)
    low (λ d. absurd (no d)) (omega (arith, at, (most_by (c.passes-moves.result && is_nil e.pool.now.prepared) h).1)) c.in-Err.ensures.failed_works (omega (arith, at, c.in-Err.ensures.failed_works.least)))
  where
    no : false ≡ true → ⊥
    no e = cc

-- nothing was asked
pub returns-then-is_err-clause-failed_needs : goal.returns-then-is_err-clause-failed_needs
returns-then-is_err-clause-failed_needs g c = inl (to_still true c.args.config.now.file_size c.args.pool.now.highest c.args.pool.now.highest (g.D.Disk.past c.args.disk.now) c.requires.valid.1.sound.parts.numbers)

pub returns-then-is_some-clause-failed_needs : goal.returns-then-is_some-clause-failed_needs
returns-then-is_some-clause-failed_needs g c = inl (to_still true c.args.config.now.file_size c.args.pool.now.highest c.args.pool.now.highest (g.D.Disk.past c.args.disk.now) c.requires.valid.1.sound.parts.numbers)

-- a further file was asked for only where the rollback doesn't fit
pub returns-in-Err-clause-failed_needs : goal.returns-in-Err-clause-failed_needs
returns-in-Err-clause-failed_needs g c =
    let e = c.args in
    let past = g.D.Disk.past e.disk.now in
    let lists = g.C.Chronicle.lists in
    let v = c.requires.valid.1 in
    let h = e.pool.now.highest in
    let m = c.passes-moves.result in
    let reached = c.ready.new.pool.highest in
    let stage = rolling c.requires.valid.0 e.done in
    let at : reached ≡ h = ap (λ (p : PoolOf). p.highest) c.in-Err.ensures.same_pool in
    let ends : e.tail.now.end + length c.bytes.result.now ≡ end_of_tail e.tail.now = ap (λ (l : List ℕ). e.tail.now.end + length l) c.bytes.ensures in
    let moves : m ≡ passes e.config.now.file_size (end_of_tail e.tail.now) (Some 18) = c.passes-moves.ensures ∙ ap (λ (n : ℕ). passes e.config.now.file_size n (Some 18)) ends in
    let to = subst (λ (k : Config). WorkedTo true k.file_size h h reached past (g.D.Disk.past c.ready.new.disk) ⊎ (m ≡ true)) v.sound.parts.same_config
    (failed_to m (is_nil e.pool.now.prepared) e.tail.now.file.name e.pool.now.config.file_size h reached past (g.D.Disk.past c.ready.new.disk) (ap (λ (f : PoolFile). f.name) c.requires.named) v.sound.parts.numbers at c.in-Err.ensures.failed_works) in
    let P : List Step → Type 0 = λ ss. IsTrue (needs_file (history_of ss) e.config.now (Rollback 0)) in
    ⊎_elim (λ (w : WorkedTo true e.config.now.file_size h h reached past (g.D.Disk.past c.ready.new.disk)). inl w)
    (λ (moving : m ≡ true). inr (steps_so P (lists e.chronicle.now) (lists c.ready.new.chronicle) (returns-in-Err-clause-unstepped g c)
    (roll_needs stage past (g.D.Disk.moment e.disk.now) (lists e.chronicle.now) (g.C.Chronicle.receipt_room e.chronicle.now) e.config.now (state_of e.table.now) e.pool.now e.tail.now v (sym moves ∙ moving)))) to
