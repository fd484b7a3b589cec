use Rattle.std.proofs.Common.{◌≡◌, ◌⊎◌, inl, inr, ⊎_elim, ◌+◌, ◌-◌, ◌^◌, ◌<◌, ◌≤◌, ℕ, Bool, true, false, cond, length, List, [], ◌++◌, Option, None, refl, sym, ap, subst, ◌∙◌, arith}
use Rattle.std.specs.Prelude.{IfSome, IsSome, option_map, ◌||◌, ◌&&◌, is_some, nat_lt, Ok, Err, IsTrue}
use Rattle.amq_model.specs.Calls.{counted}
use Rattle.amq_model.specs.Answers.{record_of, history_of, refusal}
use Rattle.amq_model.specs.Legal.{number_for}
use Rattle.amq_model.specs.declared.command.Reply.{Reply}
use Rattle.amq_model.specs.declared.refusal.Refusal.{Refusal}
use Rattle.amq_model.specs.declared.record.Record.{Record}
use Rattle.amq_model.specs.declared.record.Placed.{Placed}
use Rattle.amq_model.specs.declared.history.Answer.TheVariants.{Done}
use Rattle.amq_model.specs.RecordAt.{IsRecord, len_of}
use Rattle.amq_tx.specs.State.{TxState}
use Rattle.amq_tx.specs.Tables.{state_of}
use Rattle.amq_tx.specs.Refusing.{refusal_in}
use Rattle.amq_tx.proofs.Refusals.{refusals_are}
use Rattle.amq_pool.specs.Pools.{PoolOf, ids_of}
use Rattle.amq_engine.specs.declared.tail.Tail.{Tail}
use Rattle.amq_engine.specs.Lists.{Lists, with_step, steps_in}
use Rattle.amq_engine.specs.Receipts.{GoesOn}
use Rattle.amq_engine.specs.Engine.{is_noted, IsChronicle, opened, IsSound, IsValid, Parts, IsReply, Notes, receipted, flushes, passes, spent, end_of_tail, readied, pool_readied, with_put, reply_of, placed_behind, fault_refusal, refused, record_len, prepares, writes_first, is_nil}
use Rattle.amq_engine.proofs.Sound.{sound_there, sound_within}
use Rattle.amq_engine.proofs.Flushing.{written_durable, seen}
use Rattle.amq_engine.proofs.Accepting.{written_first, reply_is, seen_accepted, values_of, not_closed}
use Rattle.amq_engine.proofs.Commanding.{few_appends, small_id, base_below, count_fits, put_fits, numbers_left, table_accepts, valid_refused, valid_accepted, valid_chronicle, valid_room}
use Rattle.amq_engine.proofs.Stages.{opens_more}
use Rattle.amq_engine.proofs.Spent.{spent_at_last}
use Rattle.amq_engine.proofs.Noting.{noted_refused, noted_failed, noted_accepted, fault_not_spent, spent_so, asks_nothing, same_disk, nothing_refused, fits_buffer, both_true, nil_is, is_nil_ids}
use Rattle.amq_engine.proofs.GoingOn.{goes_still}
use Rattle.amq_engine.proofs.Places.{stands_same, stands_bare, stands_put, failed_end}
use Rattle.amq_engine.proofs.Rollbacks.{same_steps, steps_failed}
use Rattle.amq_engine.specs.Opening.{StandsFrom}
use Rattle.amq_model.specs.Leaves.{Told, SparesAllBut}
use Rattle.amq_model.specs.declared.config.Config.{Config}
use Rattle.amq_model.specs.Files.{Files}
use Rattle.amq_engine.specs.DataFiles.{HasFilesMade, HasSameFiles, HasId, IsPreparing, IsUsedOrNew, LeavesAllBut, IsCommandFile, HasFilesSoFar}
use Rattle.amq_engine.proofs.DataFiles.{worked_works, most_by, most_limit}
use Rattle.amq_engine.proofs.JournalFiles.{so_far_call, so_far_still, none_steps, none_mapped, used_within, readied_numbers, unreadied_numbers, put_file}
use Rattle.amq_engine.proofs.FilesTold.{sound_start, sound_used, leaves_told, still_alone, same_failed, touched_by, failed_told, readied_most}
use Rattle.amq_loader.specs.Loads.{IsTidy}
use Rattle.amq_engine.proofs.Leaving.{writes_by, fault_unnoted, fault_noted}
use Rattle.amq_engine.proofs.engine.Engine.command.Goals as goal

pub returns-in-Some-clause-chronicle : goal.returns-in-Some-clause-chronicle
returns-in-Some-clause-chronicle g c =
    let e = c.self.inside in
    subst (λ v. IfSome (g.C.Chronicle.lists v.chronicle) (IsChronicle (g.D.Disk.past v.disk) (g.D.Disk.moment v.disk) v.config v.appended v.durable)) c.self.view_is
    (valid_chronicle (g.D.Disk.past e.disk) (g.D.Disk.moment e.disk) (g.C.Chronicle.lists e.chronicle) (g.C.Chronicle.receipt_room e.chronicle) e.config (state_of e.table) e.pool e.tail c.self.invariant)

pub invariant_of-self : goal.invariant_of-self
invariant_of-self g c =
    let e = c.self.inside in
    let lists = g.C.Chronicle.lists in
    let room = g.C.Chronicle.receipt_room in
    let past = g.D.Disk.past e.disk in
    let moment = g.D.Disk.moment e.disk in
    let table = state_of c.room_for.new.table in
    let roomy = valid_room opened past moment (lists e.chronicle) (lists c.room_for.new.chronicle) (room e.chronicle) (room c.room_for.new.chronicle) e.config (state_of e.table) e.pool e.tail c.room_for.ensures.lists c.room_for.ensures.room c.self.invariant in
    let same : IsValid opened past moment (lists c.room_for.new.chronicle) (room c.room_for.new.chronicle) e.config table e.pool e.tail = subst (λ (s : TxState). IsValid opened past moment (lists c.room_for.new.chronicle) (room c.room_for.new.chronicle) e.config s e.pool e.tail) (sym c.room_for.ensures.table) roomy in
    same

pub returns-in-Err-clause-chronicle : goal.returns-in-Err-clause-chronicle
returns-in-Err-clause-chronicle g c =
    let e = c.self.inside in
    let lists = g.C.Chronicle.lists in
    let room = g.C.Chronicle.receipt_room in
    let past = g.D.Disk.past e.disk in
    let moment = g.D.Disk.moment e.disk in
    let table = state_of c.room_for.new.table in
    let roomy = valid_room opened past moment (lists e.chronicle) (lists c.room_for.new.chronicle) (room e.chronicle) (room c.room_for.new.chronicle) e.config (state_of e.table) e.pool e.tail c.room_for.ensures.lists c.room_for.ensures.room c.self.invariant in
    let same : IsValid opened past moment (lists c.room_for.new.chronicle) (room c.room_for.new.chronicle) e.config table e.pool e.tail = subst (λ (s : TxState). IsValid opened past moment (lists c.room_for.new.chronicle) (room c.room_for.new.chronicle) e.config s e.pool e.tail) (sym c.room_for.ensures.table) roomy in
    valid_chronicle past moment (lists c.room_for.new.chronicle) (room c.room_for.new.chronicle) e.config table e.pool e.tail same

pub invariant_of-self-in-Some-refusal_of : goal.invariant_of-self-in-Some-refusal_of
invariant_of-self-in-Some-refusal_of g c =
    let e = c.self.inside in
    let lists = g.C.Chronicle.lists in
    let room = g.C.Chronicle.receipt_room in
    let past = g.D.Disk.past e.disk in
    let moment = g.D.Disk.moment e.disk in
    let table = state_of c.room_for.new.table in
    let same = subst (λ (s : TxState). IsValid opened past moment (lists e.chronicle) (room e.chronicle) e.config s e.pool e.tail) (sym c.room_for.ensures.table) c.self.invariant in
    let parts = same.sound.parts in
    let ends : e.tail.end + length c.bytes.result.now ≡ end_of_tail e.tail = ap (λ (l : List ℕ). e.tail.end + length l) c.bytes.ensures in
    let moves : c.passes-moves.result ≡ passes e.config.file_size (end_of_tail e.tail) (record_len c.args.command) =
    c.passes-moves.ensures ∙ ap (λ (n : ℕ). passes e.config.file_size n (option_map len_of c.in-Ok.rec)) ends ∙ ap (passes e.config.file_size (end_of_tail e.tail)) c.in-Ok.ensures.length in
    let is = ap (λ (m : Bool). refused e.config (refusal_in table c.args.command) (spent m e.pool.highest (ids_of e.pool.prepared)) c.args.command) (sym moves) ∙ sym c.in-Some-refusal_of.ensures.first in
    valid_refused past e.config table e.pool e.tail c.args.command c.args.seat c.args.number opened opened moment (lists e.chronicle) (lists c.step.new.self) (room e.chronicle) (room c.step.new.self) c.in-Some-refusal_of.refusal same
    (refusals_are table parts.base parts.steps parts.follows c.args.command) is (opens_more parts.base parts.steps _ c.requires.producer same.opening)
    (spent_at_last e.config table e.pool e.tail parts c.args.command same.ranges c.passes-moves.result c.args.seat c.args.number c.in-Some-refusal_of.refusal moves (sym c.in-Some-refusal_of.ensures.first))
    (c.step.ensures.noted ∙ ap (option_map (with_step _)) c.room_for.ensures.lists) (omega (arith, c.room_for.ensures.room, c.step.ensures.receipts))

pub returns-in-Some-refusal_of-clause-noted : goal.returns-in-Some-refusal_of-clause-noted
returns-in-Some-refusal_of-clause-noted g c =
    let e = c.self.inside in
    noted_refused c.args.seat c.args.number c.args.command c.in-Some-refusal_of.refusal e.tail.file.id (end_of_tail e.tail) c.args.self.now.durable e.tail.durable _ _ _ (g.C.Chronicle.lists c.room_for.new.chronicle) (g.C.Chronicle.lists c.step.new.self) c.in-Some-refusal_of.ensures.kind (sym (ap (λ v. v.durable) c.self.view_is)) (c.room_for.ensures.lists ∙ ap (λ v. g.C.Chronicle.lists v.chronicle) c.self.view_is) c.step.ensures.noted

pub returns-in-Some-refusal_of-clause-spent : goal.returns-in-Some-refusal_of-clause-spent
returns-in-Some-refusal_of-clause-spent g c highest told =
    let e = c.self.inside in
    let lists = g.C.Chronicle.lists in
    let room = g.C.Chronicle.receipt_room in
    let past = g.D.Disk.past e.disk in
    let moment = g.D.Disk.moment e.disk in
    let table = state_of c.room_for.new.table in
    let ends : e.tail.end + length c.bytes.result.now ≡ end_of_tail e.tail = ap (λ (l : List ℕ). e.tail.end + length l) c.bytes.ensures in
    let moves : c.passes-moves.result ≡ passes e.config.file_size (end_of_tail e.tail) (record_len c.args.command) =
    c.passes-moves.ensures ∙ ap (λ (n : ℕ). passes e.config.file_size n (option_map len_of c.in-Ok.rec)) ends ∙ ap (passes e.config.file_size (end_of_tail e.tail)) c.in-Ok.ensures.length in
    let so = spent_so e.config table c.args.command c.passes-moves.result e.pool.highest highest (ids_of e.pool.prepared) c.in-Some-refusal_of.refusal c.self.invariant.sound.parts.numbers (sym c.in-Some-refusal_of.ensures.first) (let same : c.in-Some-refusal_of.refusal ≡ Rattle.amq_model.specs.declared.refusal.Refusal.TheVariants.FileIdsSpent highest = cc in same) in
    let prepared : (passes e.config.file_size (end_of_tail e.tail) (record_len c.args.command) && is_nil (ids_of e.pool.prepared)) ≡ true = ap (λ (m : Bool). m && is_nil (ids_of e.pool.prepared)) (sym moves) ∙ so.2 in
    (so.0 ∙ ap (λ v. v.highest) c.self.view_is, so.1, ap (λ v. prepares v c.args.command) (sym c.self.view_is) ∙ prepared)

pub returns-in-Some-refusal_of-clause-chronicle : goal.returns-in-Some-refusal_of-clause-chronicle
returns-in-Some-refusal_of-clause-chronicle g c =
    let e = c.self.inside in
    valid_chronicle (g.D.Disk.past e.disk) (g.D.Disk.moment e.disk) (g.C.Chronicle.lists c.step.new.self) (g.C.Chronicle.receipt_room c.step.new.self) e.config (state_of c.room_for.new.table) e.pool e.tail (invariant_of-self-in-Some-refusal_of g c)

pub ready-requires-clause-there : goal.ready-requires-clause-there
ready-requires-clause-there g c =
    let e = c.self.inside in
    sound_there (g.D.Disk.past e.disk) (g.C.Chronicle.lists e.chronicle) (g.C.Chronicle.receipt_room e.chronicle) e.config (state_of e.table) e.pool e.tail c.self.invariant.sound

pub ready-requires-clause-within : goal.ready-requires-clause-within
ready-requires-clause-within g c =
    let e = c.self.inside in
    sound_within (g.D.Disk.past e.disk) (g.C.Chronicle.lists e.chronicle) (g.C.Chronicle.receipt_room e.chronicle) e.config (state_of e.table) e.pool e.tail c.self.invariant.sound

pub invariant_of-self-in-Err-ready : goal.invariant_of-self-in-Err-ready
invariant_of-self-in-Err-ready g c =
    let e = c.self.inside in
    let lists = g.C.Chronicle.lists in
    let room = g.C.Chronicle.receipt_room in
    let past = g.D.Disk.past e.disk in
    let moment = g.D.Disk.moment e.disk in
    let table = state_of c.room_for.new.table in
    let roomy = valid_room opened past moment (lists e.chronicle) (lists c.room_for.new.chronicle) (room e.chronicle) (room c.room_for.new.chronicle) e.config (state_of e.table) e.pool e.tail c.room_for.ensures.lists c.room_for.ensures.room c.self.invariant in
    let same : IsValid opened past moment (lists c.room_for.new.chronicle) (room c.room_for.new.chronicle) e.config table e.pool e.tail = subst (λ (s : TxState). IsValid opened past moment (lists c.room_for.new.chronicle) (room c.room_for.new.chronicle) e.config s e.pool e.tail) (sym c.room_for.ensures.table) roomy in
    c.ready.ensures.valid opened e.config table same

pub returns-in-Err-ready-clause-noted : goal.returns-in-Err-ready-clause-noted
returns-in-Err-ready-clause-noted g c =
    let e = c.self.inside in
    let lists = g.C.Chronicle.lists in
    let room = g.C.Chronicle.receipt_room in
    let past = g.D.Disk.past e.disk in
    let moment = g.D.Disk.moment e.disk in
    let table = state_of c.room_for.new.table in
    let P : Refusal → Type 0 = λ q. Notes c.args.seat c.args.number c.args.command (Err q) c.ready.new.tail.file.id (end_of_tail c.ready.new.tail) (receipted (nat_lt c.args.self.now.durable c.ready.new.tail.durable) c.args.self.now.appended (counted (counted (g.D.Disk.moment c.args.self.now.disk))) (lists c.args.self.now.chronicle)) (lists c.ready.new.chronicle) in
    subst P (sym c.close_after.ensures.refusal)
    (subst (λ v. Notes c.args.seat c.args.number c.args.command (Err (fault_refusal c.in-Err-ready.fault)) c.ready.new.tail.file.id (end_of_tail c.ready.new.tail) (receipted (nat_lt v.durable c.ready.new.tail.durable) v.appended (counted (counted (g.D.Disk.moment v.disk))) (lists v.chronicle)) (lists c.ready.new.chronicle)) c.self.view_is
    (noted_failed c.args.seat c.args.number c.args.command c.in-Err-ready.fault e.config (state_of e.table) e.pool e.tail c.ready.new.tail c.ready.new.tail.file.id (end_of_tail c.ready.new.tail) moment (lists e.chronicle) (lists c.room_for.new.chronicle) (lists c.ready.new.chronicle) c.self.invariant.sound.parts c.room_for.ensures.lists
    (⊎_elim (λ w. inl w) (λ w. inr w.2) c.in-Err-ready.ensures.err)))

pub returns-in-Err-ready-clause-spent : goal.returns-in-Err-ready-clause-spent
returns-in-Err-ready-clause-spent g c highest told =
    fault_not_spent c.in-Err-ready.fault highest (ap (λ (q : Refusal). Err q) (sym c.close_after.ensures.refusal) ∙ told)

pub returns-in-Err-ready-clause-idle : goal.returns-in-Err-ready-clause-idle
returns-in-Err-ready-clause-idle g c =
    let e = c.self.inside in
    let lists = g.C.Chronicle.lists in
    let room = g.C.Chronicle.receipt_room in
    let past = g.D.Disk.past e.disk in
    let moment = g.D.Disk.moment e.disk in
    let table = state_of c.room_for.new.table in
    let ends : e.tail.end + length c.bytes.result.now ≡ end_of_tail e.tail = ap (λ (l : List ℕ). e.tail.end + length l) c.bytes.ensures in
    let moves : c.passes-moves.result ≡ passes e.config.file_size (end_of_tail e.tail) (record_len c.args.command) =
    c.passes-moves.ensures ∙ ap (λ (n : ℕ). passes e.config.file_size n (option_map len_of c.in-Ok.rec)) ends ∙ ap (passes e.config.file_size (end_of_tail e.tail)) c.in-Ok.ensures.length in
    let unclosed : c.args.self.now.closed ≡ None = sym (ap (λ v. v.closed) c.self.view_is) ∙ c.in_default.is in
    ⊎_elim
    (λ none.
    let so = asks_nothing c.args.self.now c.args.command e.config.file_size (end_of_tail e.tail) e.tail.buffer.capacity (length e.tail.buffer.bytes) e.tail.buffer.since e.pool.prepared (sym (ap (λ v. v.config.file_size) c.self.view_is)) (sym (ap (λ v. v.end) c.self.view_is)) (sym (ap (λ v. v.config.buffer_size) c.self.view_is) ∙ sym c.self.invariant.sound.parts.capacity) (sym (ap (λ v. v.waiting) c.self.view_is)) (sym (ap (λ v. v.since) c.self.view_is)) (sym (ap (λ v. v.free) c.self.view_is)) none in
    c.ready.ensures.idle
    (ap (λ (m : Bool). (m || flushes e.tail.buffer.capacity (length e.tail.buffer.bytes) c.args.command) && is_some e.tail.buffer.since) moves ∙ so.0)
    (ap (λ (m : Bool). m && is_nil e.pool.prepared) moves ∙ so.1)
    ∙ ap (λ v. v.disk) c.self.view_is)
    (λ shut. absurd (not_closed c.args.self.now.closed unclosed shut))

pub returns-in-Err-ready-clause-chronicle : goal.returns-in-Err-ready-clause-chronicle
returns-in-Err-ready-clause-chronicle g c =
    let e = c.self.inside in
    valid_chronicle (g.D.Disk.past c.ready.new.disk) (g.D.Disk.moment c.ready.new.disk) (g.C.Chronicle.lists c.ready.new.chronicle) (g.C.Chronicle.receipt_room c.ready.new.chronicle) e.config (state_of c.room_for.new.table) c.ready.new.pool c.ready.new.tail (invariant_of-self-in-Err-ready g c)

pub apply-given-requires-clause-checked : goal.apply-given-requires-clause-checked
apply-given-requires-clause-checked g c =
    let e = c.self.inside in
    let lists = g.C.Chronicle.lists in
    let room = g.C.Chronicle.receipt_room in
    let past = g.D.Disk.past e.disk in
    let moment = g.D.Disk.moment e.disk in
    let table = state_of c.room_for.new.table in
    let by_numbers = spent c.passes-moves.result e.pool.highest (ids_of e.pool.prepared) in
    let none : refused e.config (refusal_in table c.args.command) by_numbers c.args.command ≡ None = sym c.in_default-refusal_of.ensures.first in
    table_accepts e.config (refusal_in table c.args.command) by_numbers c.args.command none

pub apply-given-requires-clause-count : goal.apply-given-requires-clause-count
apply-given-requires-clause-count g c =
    let e = c.self.inside in
    let lists = g.C.Chronicle.lists in
    let room = g.C.Chronicle.receipt_room in
    let past = g.D.Disk.past e.disk in
    let moment = g.D.Disk.moment e.disk in
    let table = state_of c.room_for.new.table in
    let roomy = valid_room opened past moment (lists e.chronicle) (lists c.room_for.new.chronicle) (room e.chronicle) (room c.room_for.new.chronicle) e.config (state_of e.table) e.pool e.tail c.room_for.ensures.lists c.room_for.ensures.room c.self.invariant in
    let same : IsValid opened past moment (lists c.room_for.new.chronicle) (room c.room_for.new.chronicle) e.config table e.pool e.tail = subst (λ (s : TxState). IsValid opened past moment (lists c.room_for.new.chronicle) (room c.room_for.new.chronicle) e.config s e.pool e.tail) (sym c.room_for.ensures.table) roomy in
    let valid : IsValid opened (g.D.Disk.past c.ready.new.disk) (g.D.Disk.moment c.ready.new.disk) (lists c.ready.new.chronicle) (room c.ready.new.chronicle) e.config table c.ready.new.pool c.ready.new.tail = c.ready.ensures.valid opened e.config table same in
    count_fits e.config table c.ready.new.pool c.ready.new.tail c.args.command valid.ranges valid.sound.parts

pub put_record-reply-requires-clause-fits : goal.put_record-reply-requires-clause-fits
put_record-reply-requires-clause-fits g c =
    let e = c.self.inside in
    let lists = g.C.Chronicle.lists in
    let room = g.C.Chronicle.receipt_room in
    let past = g.D.Disk.past e.disk in
    let moment = g.D.Disk.moment e.disk in
    let table = state_of c.room_for.new.table in
    let by_numbers = spent c.passes-moves.result e.pool.highest (ids_of e.pool.prepared) in
    let none : refused e.config (refusal_in table c.args.command) by_numbers c.args.command ≡ None = sym c.in_default-refusal_of.ensures.first in
    let rec = c.numbered-rec.result in
    let long : option_map len_of rec ≡ record_len c.args.command = c.numbered-rec.ensures.length ∙ c.in-Ok.ensures.length in
    let parts : Parts e.config table e.pool e.tail = subst (λ (s : TxState). Parts e.config s e.pool e.tail) (sym c.room_for.ensures.table) c.self.invariant.sound.parts in
    subst (λ (u : Tail). IfSome rec (λ rec. length u.buffer.bytes + len_of rec ≤ u.buffer.capacity)) (sym c.in_default-ready.ensures.ok)
    (fits_buffer e.config table by_numbers (refusal_in table c.args.command) e.pool e.tail c.args.command rec c.passes-moves.result parts none long)

pub put_record-reply-requires-clause-number : goal.put_record-reply-requires-clause-number
put_record-reply-requires-clause-number g c =
    let e = c.self.inside in
    let lists = g.C.Chronicle.lists in
    let room = g.C.Chronicle.receipt_room in
    let past = g.D.Disk.past e.disk in
    let moment = g.D.Disk.moment e.disk in
    let table = state_of c.room_for.new.table in
    let roomy = valid_room opened past moment (lists e.chronicle) (lists c.room_for.new.chronicle) (room e.chronicle) (room c.room_for.new.chronicle) e.config (state_of e.table) e.pool e.tail c.room_for.ensures.lists c.room_for.ensures.room c.self.invariant in
    let same : IsValid opened past moment (lists c.room_for.new.chronicle) (room c.room_for.new.chronicle) e.config table e.pool e.tail = subst (λ (s : TxState). IsValid opened past moment (lists c.room_for.new.chronicle) (room c.room_for.new.chronicle) e.config s e.pool e.tail) (sym c.room_for.ensures.table) roomy in
    let valid : IsValid opened (g.D.Disk.past c.ready.new.disk) (g.D.Disk.moment c.ready.new.disk) (lists c.ready.new.chronicle) (room c.ready.new.chronicle) e.config table c.ready.new.pool c.ready.new.tail = c.ready.ensures.valid opened e.config table same in
    small_id e.config table c.ready.new.pool c.ready.new.tail valid.sound.parts

pub put_record-reply-requires-clause-count : goal.put_record-reply-requires-clause-count
put_record-reply-requires-clause-count g c =
    let e = c.self.inside in
    let lists = g.C.Chronicle.lists in
    let room = g.C.Chronicle.receipt_room in
    let past = g.D.Disk.past e.disk in
    let moment = g.D.Disk.moment e.disk in
    let table = state_of c.room_for.new.table in
    let roomy = valid_room opened past moment (lists e.chronicle) (lists c.room_for.new.chronicle) (room e.chronicle) (room c.room_for.new.chronicle) e.config (state_of e.table) e.pool e.tail c.room_for.ensures.lists c.room_for.ensures.room c.self.invariant in
    let same : IsValid opened past moment (lists c.room_for.new.chronicle) (room c.room_for.new.chronicle) e.config table e.pool e.tail = subst (λ (s : TxState). IsValid opened past moment (lists c.room_for.new.chronicle) (room c.room_for.new.chronicle) e.config s e.pool e.tail) (sym c.room_for.ensures.table) roomy in
    let valid : IsValid opened (g.D.Disk.past c.ready.new.disk) (g.D.Disk.moment c.ready.new.disk) (lists c.ready.new.chronicle) (room c.ready.new.chronicle) e.config table c.ready.new.pool c.ready.new.tail = c.ready.ensures.valid opened e.config table same in
    few_appends e.config table c.ready.new.pool c.ready.new.tail valid.ranges valid.sound.parts

pub invariant_of-self-2 : goal.invariant_of-self-2
invariant_of-self-2 g c =
    let e = c.self.inside in
    let lists = g.C.Chronicle.lists in
    let room = g.C.Chronicle.receipt_room in
    let past = g.D.Disk.past e.disk in
    let moment = g.D.Disk.moment e.disk in
    let table = state_of c.room_for.new.table in
    let roomy = valid_room opened past moment (lists e.chronicle) (lists c.room_for.new.chronicle) (room e.chronicle) (room c.room_for.new.chronicle) e.config (state_of e.table) e.pool e.tail c.room_for.ensures.lists c.room_for.ensures.room c.self.invariant in
    let same : IsValid opened past moment (lists c.room_for.new.chronicle) (room c.room_for.new.chronicle) e.config table e.pool e.tail = subst (λ (s : TxState). IsValid opened past moment (lists c.room_for.new.chronicle) (room c.room_for.new.chronicle) e.config s e.pool e.tail) (sym c.room_for.ensures.table) roomy in
    let valid : IsValid opened (g.D.Disk.past c.ready.new.disk) (g.D.Disk.moment c.ready.new.disk) (lists c.ready.new.chronicle) (room c.ready.new.chronicle) e.config table c.ready.new.pool c.ready.new.tail = c.ready.ensures.valid opened e.config table same in
    let ends : e.tail.end + length c.bytes.result.now ≡ end_of_tail e.tail = ap (λ (l : List ℕ). e.tail.end + length l) c.bytes.ensures in
    let moves : c.passes-moves.result ≡ passes e.config.file_size (end_of_tail e.tail) (record_len c.args.command) =
    c.passes-moves.ensures ∙ ap (λ (n : ℕ). passes e.config.file_size n (option_map len_of c.in-Ok.rec)) ends ∙ ap (passes e.config.file_size (end_of_tail e.tail)) c.in-Ok.ensures.length in
    let by_numbers = spent c.passes-moves.result e.pool.highest (ids_of e.pool.prepared) in
    let none : refused e.config (refusal_in table c.args.command) by_numbers c.args.command ≡ None = sym c.in_default-refusal_of.ensures.first in
    let t = c.ready.new.tail in
    let rec = c.numbered-rec.result in
    let command = c.args.command in
    let by_table = refusal_in table command in
    let parts = valid.sound.parts in
    let base = parts.base in
    let steps = parts.steps in
    let long : option_map len_of rec ≡ record_len command = c.numbered-rec.ensures.length ∙ c.in-Ok.ensures.length in
    let numbered : rec ≡ record_of command (number_for (base ++ history_of steps) command t.file.id) = c.numbered-rec.ensures.record base steps parts.follows (base_below e.config table c.ready.new.pool t parts) in
    let values : IfSome rec (λ rec. IsRecord rec) = c.numbered-rec.ensures.values (values_of e.config by_table by_numbers command c.in-Ok.rec c.self.invariant.ranges none c.in-Ok.ensures.length c.in-Ok.ensures.values) in
    let fits : IfSome rec (λ rec. end_of_tail t + len_of rec ≤ e.config.file_size) =
    subst (λ (u : Tail). IfSome rec (λ rec. end_of_tail u + len_of rec ≤ e.config.file_size)) (sym c.in_default-ready.ensures.ok) (put_fits e.config by_table by_numbers e.pool e.tail command rec c.passes-moves.result (flushes e.tail.buffer.capacity (length e.tail.buffer.bytes) command) c.self.invariant.ranges none long moves) in
    let empty : rec ≡ None → c.apply-given.result ≡ None → t.buffer.bytes ≡ [] =
    λ no given. ap (λ (u : Tail). u.buffer.bytes) (c.in_default-ready.ensures.ok ∙ ap (λ (m : Bool). readied m (flushes e.tail.buffer.capacity (length e.tail.buffer.bytes) command) e.pool e.tail) moves
    ∙ written_first table command e.pool e.tail e.config.file_size (end_of_tail e.tail) (sym c.apply-given.ensures.number ∙ given) (sym long ∙ ap (λ (o : Option Record). option_map len_of o) no)) in
    let step : Reply → Option Placed → Option Lists = λ r p. option_map (with_step (record { seat = c.args.seat; number = c.args.number; command = command; answer = Done r; placed = p })) (lists c.ready.new.chronicle) in
    let noted : lists c.step-2.new.self ≡ step (reply_of t c.apply-given.result rec) (option_map (placed_behind t) rec) =
    c.step-2.ensures.noted ∙ ap (λ (r : Reply). step r c.put_record-reply.result.1) c.put_record-reply.ensures.reply ∙ ap (step (reply_of t c.apply-given.result rec)) c.put_record-reply.ensures.placed in
    let two : 2 ≤ room c.room_for.new.chronicle = c.in-Ok.ensures.receipts in
    subst (λ (u : Tail). IsValid opened (g.D.Disk.past c.ready.new.disk) (g.D.Disk.moment c.ready.new.disk) (lists c.step-2.new.self) (room c.step-2.new.self) e.config (state_of c.apply-given.new.self) c.ready.new.pool u) (sym c.put_record-reply.ensures.tail)
    (valid_accepted (g.D.Disk.past c.ready.new.disk) e.config table c.ready.new.pool t command c.args.seat c.args.number opened opened (g.D.Disk.moment c.ready.new.disk) (lists c.ready.new.chronicle) (lists c.step-2.new.self) (room c.ready.new.chronicle) (room c.step-2.new.self) e.clock
    (state_of c.apply-given.new.self) c.apply-given.result rec by_numbers valid (refusals_are table base steps parts.follows command) none numbered (c.apply-given.ensures.journal base steps parts.follows) values fits empty
    (λ x accepted. c.apply-given.ensures.follows base steps x parts.follows accepted) (opens_more base steps _ c.requires.producer valid.opening) noted (omega (arith, two, c.ready.ensures.room, c.step-2.ensures.receipts)))

pub returns-clause-noted : goal.returns-clause-noted
returns-clause-noted g c =
    let e = c.self.inside in
    let lists = g.C.Chronicle.lists in
    let room = g.C.Chronicle.receipt_room in
    let past = g.D.Disk.past e.disk in
    let moment = g.D.Disk.moment e.disk in
    let table = state_of c.room_for.new.table in
    subst (λ v. Notes c.args.seat c.args.number c.args.command (Ok c.put_record-reply.result.0) c.put_record-reply.new.tail.file.id (end_of_tail c.put_record-reply.new.tail) (receipted (nat_lt v.durable c.put_record-reply.new.tail.durable) v.appended (counted (counted (g.D.Disk.moment v.disk))) (lists v.chronicle)) (lists c.step-2.new.self)) c.self.view_is
    (noted_accepted c.args.seat c.args.number c.args.command c.put_record-reply.result.0 c.put_record-reply.result.1 e.config (state_of e.table) e.pool e.tail c.ready.new.tail c.put_record-reply.new.tail c.numbered-rec.result c.passes-moves.result (flushes e.tail.buffer.capacity (length e.tail.buffer.bytes) c.args.command) e.clock (counted (counted moment)) (lists e.chronicle) (lists c.room_for.new.chronicle) (lists c.ready.new.chronicle) (lists c.step-2.new.self)
    c.self.invariant.sound.parts c.room_for.ensures.lists c.in_default-ready.ensures.ok c.put_record-reply.ensures.tail c.put_record-reply.ensures.placed c.in_default-ready.ensures.receipt c.step-2.ensures.noted)

pub returns-clause-reply : goal.returns-clause-reply
returns-clause-reply g c =
    let e = c.self.inside in
    let lists = g.C.Chronicle.lists in
    let room = g.C.Chronicle.receipt_room in
    let past = g.D.Disk.past e.disk in
    let moment = g.D.Disk.moment e.disk in
    let table = state_of c.room_for.new.table in
    let ends : e.tail.end + length c.bytes.result.now ≡ end_of_tail e.tail = ap (λ (l : List ℕ). e.tail.end + length l) c.bytes.ensures in
    let moves : c.passes-moves.result ≡ passes e.config.file_size (end_of_tail e.tail) (record_len c.args.command) =
    c.passes-moves.ensures ∙ ap (λ (n : ℕ). passes e.config.file_size n (option_map len_of c.in-Ok.rec)) ends ∙ ap (passes e.config.file_size (end_of_tail e.tail)) c.in-Ok.ensures.length in
    let rec = c.numbered-rec.result in
    let long : option_map len_of rec ≡ record_len c.args.command = c.numbered-rec.ensures.length ∙ c.in-Ok.ensures.length in
    let all = written_durable e.config (state_of e.table) e.pool e.tail c.self.invariant.sound.parts in
    let said = c.put_record-reply.ensures.reply ∙ ap (λ (t : Tail). reply_of t c.apply-given.result rec) (c.in_default-ready.ensures.ok ∙ ap (λ (m : Bool). readied m (flushes e.tail.buffer.capacity (length e.tail.buffer.bytes) c.args.command) e.pool e.tail) moves) in
    subst (IsReply c.args.self.now.appended c.args.command) (sym said) (reply_is table c.args.command c.apply-given.result rec e.pool e.tail e.config.file_size (end_of_tail e.tail) c.args.self.now.appended c.apply-given.ensures.number long all (ap (λ v. v.appended) c.self.view_is))

pub returns-clause-ok : goal.returns-clause-ok
returns-clause-ok g c =
    let e = c.self.inside in
    let lists = g.C.Chronicle.lists in
    let room = g.C.Chronicle.receipt_room in
    let past = g.D.Disk.past e.disk in
    let moment = g.D.Disk.moment e.disk in
    let table = state_of c.room_for.new.table in
    let ends : e.tail.end + length c.bytes.result.now ≡ end_of_tail e.tail = ap (λ (l : List ℕ). e.tail.end + length l) c.bytes.ensures in
    let moves : c.passes-moves.result ≡ passes e.config.file_size (end_of_tail e.tail) (record_len c.args.command) =
    c.passes-moves.ensures ∙ ap (λ (n : ℕ). passes e.config.file_size n (option_map len_of c.in-Ok.rec)) ends ∙ ap (passes e.config.file_size (end_of_tail e.tail)) c.in-Ok.ensures.length in
    let rec = c.numbered-rec.result in
    let long : option_map len_of rec ≡ record_len c.args.command = c.numbered-rec.ensures.length ∙ c.in-Ok.ensures.length in
    let all = written_durable e.config (state_of e.table) e.pool e.tail c.self.invariant.sound.parts in
    let pool : c.ready.new.pool ≡ pool_readied (passes e.config.file_size (end_of_tail e.tail) (record_len c.args.command)) e.pool = c.in_default-ready.ensures.pool ∙ ap (λ (m : Bool). pool_readied m e.pool) moves in
    ap (λ (p : PoolOf). seen c.ready.new.disk c.step-2.new.self e.config p c.put_record-reply.new.tail e.clock e.closed) pool
    ∙ seen_accepted c.args.command c.ready.new.disk c.step-2.new.self e.config e.clock e.closed c.args.self.now e.disk e.chronicle rec e.pool e.tail c.put_record-reply.new.tail c.self.view_is
    (c.put_record-reply.ensures.tail ∙ ap (λ (t : Tail). with_put e.clock rec t) (c.in_default-ready.ensures.ok ∙ ap (λ (m : Bool). readied m (flushes e.tail.buffer.capacity (length e.tail.buffer.bytes) c.args.command) e.pool e.tail) moves)) c.self.invariant.sound.parts.capacity long all

pub returns-clause-numbers : goal.returns-clause-numbers
returns-clause-numbers g c =
    let e = c.self.inside in
    let lists = g.C.Chronicle.lists in
    let room = g.C.Chronicle.receipt_room in
    let past = g.D.Disk.past e.disk in
    let moment = g.D.Disk.moment e.disk in
    let table = state_of c.room_for.new.table in
    let ends : e.tail.end + length c.bytes.result.now ≡ end_of_tail e.tail = ap (λ (l : List ℕ). e.tail.end + length l) c.bytes.ensures in
    let moves : c.passes-moves.result ≡ passes e.config.file_size (end_of_tail e.tail) (record_len c.args.command) =
    c.passes-moves.ensures ∙ ap (λ (n : ℕ). passes e.config.file_size n (option_map len_of c.in-Ok.rec)) ends ∙ ap (passes e.config.file_size (end_of_tail e.tail)) c.in-Ok.ensures.length in
    let by_numbers = spent c.passes-moves.result e.pool.highest (ids_of e.pool.prepared) in
    let none : refused e.config (refusal_in table c.args.command) by_numbers c.args.command ≡ None = sym c.in_default-refusal_of.ensures.first in
    λ prepared.
    let so = both_true (passes e.config.file_size (end_of_tail e.tail) (record_len c.args.command)) (is_nil (ids_of e.pool.prepared)) (ap (λ v. prepares v c.args.command) c.self.view_is ∙ prepared) in
    subst (λ (n : ℕ). n < 2 ^ 31 - 1) (ap (λ v. v.highest) c.self.view_is)
    (numbers_left e.config (refusal_in table c.args.command) c.passes-moves.result e.pool.highest (ids_of e.pool.prepared) c.args.command none (moves ∙ so.0) (nil_is (ids_of e.pool.prepared) so.1))

pub returns-clause-idle : goal.returns-clause-idle
returns-clause-idle g c =
    let e = c.self.inside in
    let lists = g.C.Chronicle.lists in
    let room = g.C.Chronicle.receipt_room in
    let past = g.D.Disk.past e.disk in
    let moment = g.D.Disk.moment e.disk in
    let table = state_of c.room_for.new.table in
    let ends : e.tail.end + length c.bytes.result.now ≡ end_of_tail e.tail = ap (λ (l : List ℕ). e.tail.end + length l) c.bytes.ensures in
    let moves : c.passes-moves.result ≡ passes e.config.file_size (end_of_tail e.tail) (record_len c.args.command) =
    c.passes-moves.ensures ∙ ap (λ (n : ℕ). passes e.config.file_size n (option_map len_of c.in-Ok.rec)) ends ∙ ap (passes e.config.file_size (end_of_tail e.tail)) c.in-Ok.ensures.length in
    let unclosed : c.args.self.now.closed ≡ None = sym (ap (λ v. v.closed) c.self.view_is) ∙ c.in_default.is in
    ⊎_elim
    (λ none.
    let so = asks_nothing c.args.self.now c.args.command e.config.file_size (end_of_tail e.tail) e.tail.buffer.capacity (length e.tail.buffer.bytes) e.tail.buffer.since e.pool.prepared (sym (ap (λ v. v.config.file_size) c.self.view_is)) (sym (ap (λ v. v.end) c.self.view_is)) (sym (ap (λ v. v.config.buffer_size) c.self.view_is) ∙ sym c.self.invariant.sound.parts.capacity) (sym (ap (λ v. v.waiting) c.self.view_is)) (sym (ap (λ v. v.since) c.self.view_is)) (sym (ap (λ v. v.free) c.self.view_is)) none in
    c.ready.ensures.idle
    (ap (λ (m : Bool). (m || flushes e.tail.buffer.capacity (length e.tail.buffer.bytes) c.args.command) && is_some e.tail.buffer.since) moves ∙ so.0)
    (ap (λ (m : Bool). m && is_nil e.pool.prepared) moves ∙ so.1)
    ∙ ap (λ v. v.disk) c.self.view_is)
    (λ shut. absurd (not_closed c.args.self.now.closed unclosed shut))

pub returns-clause-chronicle : goal.returns-clause-chronicle
returns-clause-chronicle g c =
    let e = c.self.inside in
    valid_chronicle (g.D.Disk.past c.ready.new.disk) (g.D.Disk.moment c.ready.new.disk) (g.C.Chronicle.lists c.step-2.new.self) (g.C.Chronicle.receipt_room c.step-2.new.self) e.config (state_of c.apply-given.new.self) c.ready.new.pool c.put_record-reply.new.tail (invariant_of-self-2 g c)

pub returns-in-Err-ready-clause-spared : goal.returns-in-Err-ready-clause-spared
returns-in-Err-ready-clause-spared g c prepared top =
    let e = c.self.inside in
    let table = state_of c.room_for.new.table in
    let ends : e.tail.end + length c.bytes.result.now ≡ end_of_tail e.tail = ap (λ (l : List ℕ). e.tail.end + length l) c.bytes.ensures in
    let moves : c.passes-moves.result ≡ passes e.config.file_size (end_of_tail e.tail) (record_len c.args.command) =
    c.passes-moves.ensures ∙ ap (λ (n : ℕ). passes e.config.file_size n (option_map len_of c.in-Ok.rec)) ends ∙ ap (passes e.config.file_size (end_of_tail e.tail)) c.in-Ok.ensures.length in
    let by_numbers = spent c.passes-moves.result e.pool.highest (ids_of e.pool.prepared) in
    let none : refused e.config (refusal_in table c.args.command) by_numbers c.args.command ≡ None = sym c.in_default-refusal_of.ensures.first in
    let so = both_true (passes e.config.file_size (end_of_tail e.tail) (record_len c.args.command)) (is_nil (ids_of e.pool.prepared)) (ap (λ v. prepares v c.args.command) c.self.view_is ∙ prepared) in
    let left = numbers_left e.config (refusal_in table c.args.command) c.passes-moves.result e.pool.highest (ids_of e.pool.prepared) c.args.command none (moves ∙ so.0) (nil_is (ids_of e.pool.prepared) so.1) in
    absurd (omega (arith, left, ap (λ v. v.highest) c.self.view_is, top))

pub returns-in-Err-ready-clause-calls : goal.returns-in-Err-ready-clause-calls
returns-in-Err-ready-clause-calls g c =
    let e = c.self.inside in
    let table = state_of c.room_for.new.table in
    let ends : e.tail.end + length c.bytes.result.now ≡ end_of_tail e.tail = ap (λ (l : List ℕ). e.tail.end + length l) c.bytes.ensures in
    let moves : c.passes-moves.result ≡ passes e.config.file_size (end_of_tail e.tail) (record_len c.args.command) =
    c.passes-moves.ensures ∙ ap (λ (n : ℕ). passes e.config.file_size n (option_map len_of c.in-Ok.rec)) ends ∙ ap (passes e.config.file_size (end_of_tail e.tail)) c.in-Ok.ensures.length in
    let asks : (c.passes-moves.result && is_nil e.pool.prepared) ≡ prepares c.args.self.now c.args.command =
    ap (λ (m : Bool). m && is_nil e.pool.prepared) moves ∙ ap (λ (k : Bool). passes e.config.file_size (end_of_tail e.tail) (record_len c.args.command) && k) (sym (is_nil_ids e.pool.prepared)) ∙ ap (λ v. prepares v c.args.command) c.self.view_is in
    let W : Bool → Bool = λ m. (m || flushes e.tail.buffer.capacity (length e.tail.buffer.bytes) c.args.command) && is_some e.tail.buffer.since in
    let writes : W c.passes-moves.result ≡ writes_first c.args.self.now c.args.command =
    ap W moves ∙ writes_by c.args.self.now c.args.command e.config.file_size (end_of_tail e.tail) e.tail.buffer.capacity (length e.tail.buffer.bytes) e.tail.buffer.since (sym (ap (λ v. v.config.file_size) c.self.view_is)) (sym (ap (λ v. v.end) c.self.view_is)) (sym (ap (λ v. v.config.buffer_size) c.self.view_is) ∙ sym c.self.invariant.sound.parts.capacity) (sym (ap (λ v. v.waiting) c.self.view_is)) (sym (ap (λ v. v.since) c.self.view_is)) in
    subst (λ (b : Bool). g.D.Disk.moment c.ready.new.disk ≤ g.D.Disk.moment c.args.self.now.disk + cond b 2 0 + cond (prepares c.args.self.now c.args.command) 4 0) writes
    (subst (λ (b : Bool). g.D.Disk.moment c.ready.new.disk ≤ g.D.Disk.moment c.args.self.now.disk + cond (W c.passes-moves.result) 2 0 + cond b 4 0) asks
    (subst (λ v. g.D.Disk.moment c.ready.new.disk ≤ g.D.Disk.moment v.disk + cond (W c.passes-moves.result) 2 0 + cond (c.passes-moves.result && is_nil e.pool.prepared) 4 0) c.self.view_is c.ready.ensures.calls))

pub returns-clause-spared : goal.returns-clause-spared
returns-clause-spared g c prepared top =
    let e = c.self.inside in
    let table = state_of c.room_for.new.table in
    let ends : e.tail.end + length c.bytes.result.now ≡ end_of_tail e.tail = ap (λ (l : List ℕ). e.tail.end + length l) c.bytes.ensures in
    let moves : c.passes-moves.result ≡ passes e.config.file_size (end_of_tail e.tail) (record_len c.args.command) =
    c.passes-moves.ensures ∙ ap (λ (n : ℕ). passes e.config.file_size n (option_map len_of c.in-Ok.rec)) ends ∙ ap (passes e.config.file_size (end_of_tail e.tail)) c.in-Ok.ensures.length in
    let by_numbers = spent c.passes-moves.result e.pool.highest (ids_of e.pool.prepared) in
    let none : refused e.config (refusal_in table c.args.command) by_numbers c.args.command ≡ None = sym c.in_default-refusal_of.ensures.first in
    let so = both_true (passes e.config.file_size (end_of_tail e.tail) (record_len c.args.command)) (is_nil (ids_of e.pool.prepared)) (ap (λ v. prepares v c.args.command) c.self.view_is ∙ prepared) in
    let left = numbers_left e.config (refusal_in table c.args.command) c.passes-moves.result e.pool.highest (ids_of e.pool.prepared) c.args.command none (moves ∙ so.0) (nil_is (ids_of e.pool.prepared) so.1) in
    absurd (omega (arith, left, ap (λ v. v.highest) c.self.view_is, top))

pub returns-clause-calls : goal.returns-clause-calls
returns-clause-calls g c =
    let e = c.self.inside in
    let table = state_of c.room_for.new.table in
    let ends : e.tail.end + length c.bytes.result.now ≡ end_of_tail e.tail = ap (λ (l : List ℕ). e.tail.end + length l) c.bytes.ensures in
    let moves : c.passes-moves.result ≡ passes e.config.file_size (end_of_tail e.tail) (record_len c.args.command) =
    c.passes-moves.ensures ∙ ap (λ (n : ℕ). passes e.config.file_size n (option_map len_of c.in-Ok.rec)) ends ∙ ap (passes e.config.file_size (end_of_tail e.tail)) c.in-Ok.ensures.length in
    let asks : (c.passes-moves.result && is_nil e.pool.prepared) ≡ prepares c.args.self.now c.args.command =
    ap (λ (m : Bool). m && is_nil e.pool.prepared) moves ∙ ap (λ (k : Bool). passes e.config.file_size (end_of_tail e.tail) (record_len c.args.command) && k) (sym (is_nil_ids e.pool.prepared)) ∙ ap (λ v. prepares v c.args.command) c.self.view_is in
    let W : Bool → Bool = λ m. (m || flushes e.tail.buffer.capacity (length e.tail.buffer.bytes) c.args.command) && is_some e.tail.buffer.since in
    let writes : W c.passes-moves.result ≡ writes_first c.args.self.now c.args.command =
    ap W moves ∙ writes_by c.args.self.now c.args.command e.config.file_size (end_of_tail e.tail) e.tail.buffer.capacity (length e.tail.buffer.bytes) e.tail.buffer.since (sym (ap (λ v. v.config.file_size) c.self.view_is)) (sym (ap (λ v. v.end) c.self.view_is)) (sym (ap (λ v. v.config.buffer_size) c.self.view_is) ∙ sym c.self.invariant.sound.parts.capacity) (sym (ap (λ v. v.waiting) c.self.view_is)) (sym (ap (λ v. v.since) c.self.view_is)) in
    subst (λ (b : Bool). g.D.Disk.moment c.ready.new.disk ≤ g.D.Disk.moment c.args.self.now.disk + cond b 2 0 + cond (prepares c.args.self.now c.args.command) 4 0) writes
    (subst (λ (b : Bool). g.D.Disk.moment c.ready.new.disk ≤ g.D.Disk.moment c.args.self.now.disk + cond (W c.passes-moves.result) 2 0 + cond b 4 0) asks
    (subst (λ v. g.D.Disk.moment c.ready.new.disk ≤ g.D.Disk.moment v.disk + cond (W c.passes-moves.result) 2 0 + cond (c.passes-moves.result && is_nil e.pool.prepared) 4 0) c.self.view_is c.ready.ensures.calls))

pub returns-in-Err-ready-clause-unasked : goal.returns-in-Err-ready-clause-unasked
returns-in-Err-ready-clause-unasked g c =
    let e = c.self.inside in
    let lists = g.C.Chronicle.lists in
    let table = state_of c.room_for.new.table in
    let by_numbers = spent c.passes-moves.result e.pool.highest (ids_of e.pool.prepared) in
    let none : refused e.config (refusal_in table c.args.command) by_numbers c.args.command ≡ None = sym c.in_default-refusal_of.ensures.first in
    subst (λ v. IfSome (lists v.chronicle) (λ l. IsSome (refusal l.base l.steps v.config c.args.command) → c.ready.new.disk ≡ v.disk)) c.self.view_is
    (nothing_refused (g.D.Disk.past e.disk) (lists e.chronicle) (g.C.Chronicle.receipt_room e.chronicle) e.config table e.pool e.tail c.args.command by_numbers e.disk c.ready.new.disk
    (subst (λ (s : TxState). IsSound (g.D.Disk.past e.disk) (lists e.chronicle) (g.C.Chronicle.receipt_room e.chronicle) e.config s e.pool e.tail) (sym c.room_for.ensures.table) c.self.invariant.sound) none)

pub returns-clause-unasked : goal.returns-clause-unasked
returns-clause-unasked g c =
    let e = c.self.inside in
    let lists = g.C.Chronicle.lists in
    let table = state_of c.room_for.new.table in
    let by_numbers = spent c.passes-moves.result e.pool.highest (ids_of e.pool.prepared) in
    let none : refused e.config (refusal_in table c.args.command) by_numbers c.args.command ≡ None = sym c.in_default-refusal_of.ensures.first in
    subst (λ v. IfSome (lists v.chronicle) (λ l. IsSome (refusal l.base l.steps v.config c.args.command) → c.ready.new.disk ≡ v.disk)) c.self.view_is
    (nothing_refused (g.D.Disk.past e.disk) (lists e.chronicle) (g.C.Chronicle.receipt_room e.chronicle) e.config table e.pool e.tail c.args.command by_numbers e.disk c.ready.new.disk
    (subst (λ (s : TxState). IsSound (g.D.Disk.past e.disk) (lists e.chronicle) (g.C.Chronicle.receipt_room e.chronicle) e.config s e.pool e.tail) (sym c.room_for.ensures.table) c.self.invariant.sound) none)

pub returns-in-Some-clause-unasked : goal.returns-in-Some-clause-unasked
returns-in-Some-clause-unasked g c = same_disk (g.C.Chronicle.lists c.args.self.now.chronicle) c.args.self.now.config c.args.command c.args.self.now.disk c.args.self.now.disk refl

pub returns-in-Err-clause-unasked : goal.returns-in-Err-clause-unasked
returns-in-Err-clause-unasked g c = same_disk (g.C.Chronicle.lists c.args.self.now.chronicle) c.args.self.now.config c.args.command c.args.self.now.disk c.self.inside.disk (ap (λ v. v.disk) c.self.view_is)

pub returns-in-Some-refusal_of-clause-unasked : goal.returns-in-Some-refusal_of-clause-unasked
returns-in-Some-refusal_of-clause-unasked g c = same_disk (g.C.Chronicle.lists c.args.self.now.chronicle) c.args.self.now.config c.args.command c.args.self.now.disk c.self.inside.disk (ap (λ v. v.disk) c.self.view_is)

pub returns-in-Some-clause-goes_on : goal.returns-in-Some-clause-goes_on
returns-in-Some-clause-goes_on g c = goes_still (g.D.Disk.past c.args.self.now.disk)

pub returns-in-Err-clause-goes_on : goal.returns-in-Err-clause-goes_on
returns-in-Err-clause-goes_on g c = subst (λ v. GoesOn (g.D.Disk.past v.disk) (g.D.Disk.past c.self.inside.disk)) c.self.view_is (goes_still (g.D.Disk.past c.self.inside.disk))

pub returns-in-Some-refusal_of-clause-goes_on : goal.returns-in-Some-refusal_of-clause-goes_on
returns-in-Some-refusal_of-clause-goes_on g c = subst (λ v. GoesOn (g.D.Disk.past v.disk) (g.D.Disk.past c.self.inside.disk)) c.self.view_is (goes_still (g.D.Disk.past c.self.inside.disk))

pub returns-in-Err-ready-clause-goes_on : goal.returns-in-Err-ready-clause-goes_on
returns-in-Err-ready-clause-goes_on g c = subst (λ v. GoesOn (g.D.Disk.past v.disk) (g.D.Disk.past c.ready.new.disk)) c.self.view_is c.ready.ensures.goes_on

pub returns-clause-goes_on : goal.returns-clause-goes_on
returns-clause-goes_on g c = subst (λ v. GoesOn (g.D.Disk.past v.disk) (g.D.Disk.past c.ready.new.disk)) c.self.view_is c.ready.ensures.goes_on

-- the file and the end are as they were
pub returns-in-Some-clause-stands : goal.returns-in-Some-clause-stands
returns-in-Some-clause-stands g c first stands = stands

pub returns-in-Err-clause-stands : goal.returns-in-Err-clause-stands
returns-in-Err-clause-stands g c =
    let e = c.self.inside in
    let lists = g.C.Chronicle.lists in
    subst (λ v. (first : ℕ) → IfSome (lists v.chronicle) (StandsFrom v.config first v.file v.end) → IfSome (lists c.room_for.new.chronicle) (StandsFrom e.config first e.tail.file.id (end_of_tail e.tail))) c.self.view_is
    (λ first stands. stands_same e.config first e.tail.file.id (end_of_tail e.tail) e.tail.file.id (end_of_tail e.tail) (lists e.chronicle) (lists c.room_for.new.chronicle) (ap steps_in c.room_for.ensures.lists) refl refl stands)

pub returns-in-Some-refusal_of-clause-stands : goal.returns-in-Some-refusal_of-clause-stands
returns-in-Some-refusal_of-clause-stands g c =
    let e = c.self.inside in
    let lists = g.C.Chronicle.lists in
    subst (λ v. (first : ℕ) → IfSome (lists v.chronicle) (StandsFrom v.config first v.file v.end) → IfSome (lists c.step.new.self) (StandsFrom e.config first e.tail.file.id (end_of_tail e.tail))) c.self.view_is
    (λ first stands. stands_bare e.config first e.tail.file.id (end_of_tail e.tail) e.tail.file.id (end_of_tail e.tail) (lists c.room_for.new.chronicle) (lists c.step.new.self) _ refl c.step.ensures.noted refl refl
    (stands_same e.config first e.tail.file.id (end_of_tail e.tail) e.tail.file.id (end_of_tail e.tail) (lists e.chronicle) (lists c.room_for.new.chronicle) (ap steps_in c.room_for.ensures.lists) refl refl stands))

pub returns-in-Err-ready-clause-stands : goal.returns-in-Err-ready-clause-stands
returns-in-Err-ready-clause-stands g c =
    let e = c.self.inside in
    let lists = g.C.Chronicle.lists in
    let t = c.ready.new.tail in
    let same = steps_failed (c.passes-moves.result ≡ true) (e.pool.prepared ≡ []) (g.D.Disk.moment e.disk) e.tail t (lists c.room_for.new.chronicle) (lists c.ready.new.chronicle) c.in-Err-ready.ensures.err ∙ ap steps_in c.room_for.ensures.lists in
    let at = failed_end (c.passes-moves.result ≡ true) (e.pool.prepared ≡ []) (g.D.Disk.moment e.disk) e.tail t (lists c.room_for.new.chronicle) (lists c.ready.new.chronicle) c.in-Err-ready.ensures.err in
    subst (λ v. (first : ℕ) → IfSome (lists v.chronicle) (StandsFrom v.config first v.file v.end) → IfSome (lists c.ready.new.chronicle) (StandsFrom e.config first t.file.id (end_of_tail t))) c.self.view_is
    (λ first stands. stands_same e.config first e.tail.file.id (end_of_tail e.tail) t.file.id (end_of_tail t) (lists e.chronicle) (lists c.ready.new.chronicle) same at.0 at.1 stands)

-- the record stands where it must
pub returns-clause-stands : goal.returns-clause-stands
returns-clause-stands g c =
    let e = c.self.inside in
    let lists = g.C.Chronicle.lists in
    let t = c.put_record-reply.new.tail in
    let ends : e.tail.end + length c.bytes.result.now ≡ end_of_tail e.tail = ap (λ (l : List ℕ). e.tail.end + length l) c.bytes.ensures in
    let moves : c.passes-moves.result ≡ passes e.config.file_size (end_of_tail e.tail) (record_len c.args.command) =
    c.passes-moves.ensures ∙ ap (λ (n : ℕ). passes e.config.file_size n (option_map len_of c.in-Ok.rec)) ends ∙ ap (passes e.config.file_size (end_of_tail e.tail)) c.in-Ok.ensures.length in
    let long : record_len c.args.command ≡ option_map len_of c.numbered-rec.result = sym (c.numbered-rec.ensures.length ∙ c.in-Ok.ensures.length) in
    let same : steps_in (lists c.ready.new.chronicle) ≡ steps_in (lists e.chronicle) = same_steps _ e.tail.appended _ (lists c.room_for.new.chronicle) (lists c.ready.new.chronicle) c.in_default-ready.ensures.receipt ∙ ap steps_in c.room_for.ensures.lists in
    subst (λ v. (first : ℕ) → IfSome (lists v.chronicle) (StandsFrom v.config first v.file v.end) → IfSome (lists c.step-2.new.self) (StandsFrom e.config first t.file.id (end_of_tail t))) c.self.view_is
    (λ first stands. stands_put e.config first (state_of e.table) e.pool e.tail c.ready.new.tail t c.self.invariant.sound.parts c.passes-moves.result _ e.clock c.numbered-rec.result _ (lists c.ready.new.chronicle) (lists c.step-2.new.self) (moves ∙ ap (passes e.config.file_size (end_of_tail e.tail)) long)
    c.in_default-ready.ensures.ok c.put_record-reply.ensures.tail c.put_record-reply.ensures.placed c.step-2.ensures.noted
    (stands_same e.config first e.tail.file.id (end_of_tail e.tail) e.tail.file.id (end_of_tail e.tail) (lists e.chronicle) (lists c.ready.new.chronicle) same refl refl stands))

pub returns-in-Some-clause-tidy : goal.returns-in-Some-clause-tidy
returns-in-Some-clause-tidy g c noted tidy = tidy

pub returns-in-Err-clause-tidy : goal.returns-in-Err-clause-tidy
returns-in-Err-clause-tidy g c noted = subst (λ v. Told (g.D.Disk.past v.disk) IsTidy → Told (g.D.Disk.past c.self.inside.disk) IsTidy) c.self.view_is (λ tidy. tidy)

pub returns-in-Some-refusal_of-clause-tidy : goal.returns-in-Some-refusal_of-clause-tidy
returns-in-Some-refusal_of-clause-tidy g c noted = subst (λ v. Told (g.D.Disk.past v.disk) IsTidy → Told (g.D.Disk.past c.self.inside.disk) IsTidy) c.self.view_is (λ tidy. tidy)

pub returns-in-Err-ready-clause-tidy : goal.returns-in-Err-ready-clause-tidy
returns-in-Err-ready-clause-tidy g c noted = absurd (fault_unnoted c.in-Err-ready.fault c.close_after.result c.close_after.ensures.refusal noted)

pub returns-clause-tidy : goal.returns-clause-tidy
returns-clause-tidy g c noted = subst (λ v. Told (g.D.Disk.past v.disk) IsTidy → Told (g.D.Disk.past c.ready.new.disk) IsTidy) c.self.view_is c.in_default-ready.ensures.tidy

pub ready-requires-clause-start : goal.ready-requires-clause-start
ready-requires-clause-start g c =
    let e = c.self.inside in
    sound_start e.config (state_of e.table) e.pool e.tail c.self.invariant.sound.parts

pub returns-in-Some-clause-spares : goal.returns-in-Some-clause-spares
returns-in-Some-clause-spares g c = still_alone (IsCommandFile c.args.self.now c.args.command) (g.D.Disk.past c.args.self.now.disk)

pub returns-in-Err-clause-spares : goal.returns-in-Err-clause-spares
returns-in-Err-clause-spares g c = subst (λ d. LeavesAllBut (IsCommandFile c.args.self.now c.args.command) (g.D.Disk.past d) (g.D.Disk.past c.self.inside.disk)) (ap (λ v. v.disk) c.self.view_is) (still_alone (IsCommandFile c.args.self.now c.args.command) (g.D.Disk.past c.self.inside.disk))

pub returns-in-Some-refusal_of-clause-spares : goal.returns-in-Some-refusal_of-clause-spares
returns-in-Some-refusal_of-clause-spares g c = subst (λ d. LeavesAllBut (IsCommandFile c.args.self.now c.args.command) (g.D.Disk.past d) (g.D.Disk.past c.self.inside.disk)) (ap (λ v. v.disk) c.self.view_is) (still_alone (IsCommandFile c.args.self.now c.args.command) (g.D.Disk.past c.self.inside.disk))

pub returns-in-Some-clause-failed_files : goal.returns-in-Some-clause-failed_files
returns-in-Some-clause-failed_files g c = same_failed _ (g.D.Disk.past c.args.self.now.disk)

pub returns-in-Err-clause-failed_files : goal.returns-in-Err-clause-failed_files
returns-in-Err-clause-failed_files g c = subst (λ v. Told (g.D.Disk.past v.disk) (λ o. Told (g.D.Disk.past c.self.inside.disk) (λ s. HasSameFiles o s ⊎ (IsTrue (prepares v c.args.command) × HasFilesMade v.config.file_size v.highest (v.highest + 1) o s)))) c.self.view_is (same_failed _ (g.D.Disk.past c.self.inside.disk))

pub returns-in-Some-refusal_of-clause-failed_files : goal.returns-in-Some-refusal_of-clause-failed_files
returns-in-Some-refusal_of-clause-failed_files g c = subst (λ v. Told (g.D.Disk.past v.disk) (λ o. Told (g.D.Disk.past c.self.inside.disk) (λ s. HasSameFiles o s ⊎ (IsTrue (prepares v c.args.command) × HasFilesMade v.config.file_size v.highest (v.highest + 1) o s)))) c.self.view_is (same_failed _ (g.D.Disk.past c.self.inside.disk))

pub returns-in-Err-ready-clause-spares : goal.returns-in-Err-ready-clause-spares
returns-in-Err-ready-clause-spares g c =
    let e = c.self.inside in
    let past = g.D.Disk.past in
    let table = state_of c.room_for.new.table in
    let ends : e.tail.end + length c.bytes.result.now ≡ end_of_tail e.tail = ap (λ (l : List ℕ). e.tail.end + length l) c.bytes.ensures in
    let moves : c.passes-moves.result ≡ passes e.config.file_size (end_of_tail e.tail) (record_len c.args.command) =
    c.passes-moves.ensures ∙ ap (λ (n : ℕ). passes e.config.file_size n (option_map len_of c.in-Ok.rec)) ends ∙ ap (passes e.config.file_size (end_of_tail e.tail)) c.in-Ok.ensures.length in
    let b = c.passes-moves.result && is_nil e.pool.prepared in
    let asks : b ≡ prepares c.args.self.now c.args.command =
    ap (λ (m : Bool). m && is_nil e.pool.prepared) moves ∙ ap (λ (k : Bool). passes e.config.file_size (end_of_tail e.tail) (record_len c.args.command) && k) (sym (is_nil_ids e.pool.prepared)) ∙ ap (λ v. prepares v c.args.command) c.self.view_is in
    let h = e.pool.highest in
    subst (λ v. LeavesAllBut (λ o n. HasId v.file o n ⊎ (IsTrue (prepares c.args.self.now c.args.command) × IsPreparing (v.highest + 1) (v.highest + 1) n)) (past v.disk) (past c.ready.new.disk)) c.self.view_is
    (subst (λ (k : Bool). LeavesAllBut (λ o n. HasId e.tail.file.id o n ⊎ (IsTrue k × IsPreparing (h + 1) (h + 1) n)) (past e.disk) (past c.ready.new.disk)) asks
    (leaves_told (IsUsedOrNew e.tail.file.name (h + 1) (cond b (h + 1) h)) (λ o n. HasId e.tail.file.id o n ⊎ (IsTrue b × IsPreparing (h + 1) (h + 1) n)) (past e.disk) (past c.ready.new.disk)
    (touched_by e.tail.file.name e.tail.file.id h b (past e.disk) (sound_used (past e.disk) (g.C.Chronicle.lists e.chronicle) (g.C.Chronicle.receipt_room e.chronicle) e.config (state_of e.table) e.pool e.tail c.self.invariant.ranges c.self.invariant.sound)) c.in-Err-ready.ensures.failed_works.works.keeps))

pub returns-clause-spares : goal.returns-clause-spares
returns-clause-spares g c =
    let e = c.self.inside in
    let past = g.D.Disk.past in
    let table = state_of c.room_for.new.table in
    let ends : e.tail.end + length c.bytes.result.now ≡ end_of_tail e.tail = ap (λ (l : List ℕ). e.tail.end + length l) c.bytes.ensures in
    let moves : c.passes-moves.result ≡ passes e.config.file_size (end_of_tail e.tail) (record_len c.args.command) =
    c.passes-moves.ensures ∙ ap (λ (n : ℕ). passes e.config.file_size n (option_map len_of c.in-Ok.rec)) ends ∙ ap (passes e.config.file_size (end_of_tail e.tail)) c.in-Ok.ensures.length in
    let b = c.passes-moves.result && is_nil e.pool.prepared in
    let asks : b ≡ prepares c.args.self.now c.args.command =
    ap (λ (m : Bool). m && is_nil e.pool.prepared) moves ∙ ap (λ (k : Bool). passes e.config.file_size (end_of_tail e.tail) (record_len c.args.command) && k) (sym (is_nil_ids e.pool.prepared)) ∙ ap (λ v. prepares v c.args.command) c.self.view_is in
    let h = e.pool.highest in
    subst (λ v. LeavesAllBut (λ o n. HasId v.file o n ⊎ (IsTrue (prepares c.args.self.now c.args.command) × IsPreparing (v.highest + 1) (v.highest + 1) n)) (past v.disk) (past c.ready.new.disk)) c.self.view_is
    (subst (λ (k : Bool). LeavesAllBut (λ o n. HasId e.tail.file.id o n ⊎ (IsTrue k × IsPreparing (h + 1) (h + 1) n)) (past e.disk) (past c.ready.new.disk)) asks
    (leaves_told (IsUsedOrNew e.tail.file.name (h + 1) (cond b (h + 1) h)) (λ o n. HasId e.tail.file.id o n ⊎ (IsTrue b × IsPreparing (h + 1) (h + 1) n)) (past e.disk) (past c.ready.new.disk)
    (touched_by e.tail.file.name e.tail.file.id h b (past e.disk) (sound_used (past e.disk) (g.C.Chronicle.lists e.chronicle) (g.C.Chronicle.receipt_room e.chronicle) e.config (state_of e.table) e.pool e.tail c.self.invariant.ranges c.self.invariant.sound)) c.in_default-ready.ensures.works.works.keeps))

pub returns-in-Err-ready-clause-failed_files : goal.returns-in-Err-ready-clause-failed_files
returns-in-Err-ready-clause-failed_files g c =
    let e = c.self.inside in
    let past = g.D.Disk.past in
    let table = state_of c.room_for.new.table in
    let ends : e.tail.end + length c.bytes.result.now ≡ end_of_tail e.tail = ap (λ (l : List ℕ). e.tail.end + length l) c.bytes.ensures in
    let moves : c.passes-moves.result ≡ passes e.config.file_size (end_of_tail e.tail) (record_len c.args.command) =
    c.passes-moves.ensures ∙ ap (λ (n : ℕ). passes e.config.file_size n (option_map len_of c.in-Ok.rec)) ends ∙ ap (passes e.config.file_size (end_of_tail e.tail)) c.in-Ok.ensures.length in
    let b = c.passes-moves.result && is_nil e.pool.prepared in
    let asks : b ≡ prepares c.args.self.now c.args.command =
    ap (λ (m : Bool). m && is_nil e.pool.prepared) moves ∙ ap (λ (k : Bool). passes e.config.file_size (end_of_tail e.tail) (record_len c.args.command) && k) (sym (is_nil_ids e.pool.prepared)) ∙ ap (λ v. prepares v c.args.command) c.self.view_is in
    let h = e.pool.highest in
    subst (λ v. Told (past v.disk) (λ o. Told (past c.ready.new.disk) (λ s. HasSameFiles o s ⊎ (IsTrue (prepares c.args.self.now c.args.command) × HasFilesMade v.config.file_size v.highest (v.highest + 1) o s)))) c.self.view_is
    (subst (λ (k : Bool). Told (past e.disk) (λ o. Told (past c.ready.new.disk) (λ s. HasSameFiles o s ⊎ (IsTrue k × HasFilesMade e.config.file_size h (h + 1) o s)))) asks
    (subst (λ (k : Config). Told (past e.disk) (λ o. Told (past c.ready.new.disk) (λ s. HasSameFiles o s ⊎ (IsTrue b × HasFilesMade k.file_size h (h + 1) o s)))) c.self.invariant.sound.parts.same_config
    (failed_told (SparesAllBut (IsUsedOrNew e.tail.file.name (h + 1) (cond b (h + 1) h))) e.pool.config.file_size h b (past e.disk) (past c.ready.new.disk) c.in-Err-ready.ensures.failed_works)))

pub returns-clause-files : goal.returns-clause-files
returns-clause-files g c =
    let e = c.self.inside in
    let past = g.D.Disk.past in
    let table = state_of c.room_for.new.table in
    let ends : e.tail.end + length c.bytes.result.now ≡ end_of_tail e.tail = ap (λ (l : List ℕ). e.tail.end + length l) c.bytes.ensures in
    let moves : c.passes-moves.result ≡ passes e.config.file_size (end_of_tail e.tail) (record_len c.args.command) =
    c.passes-moves.ensures ∙ ap (λ (n : ℕ). passes e.config.file_size n (option_map len_of c.in-Ok.rec)) ends ∙ ap (passes e.config.file_size (end_of_tail e.tail)) c.in-Ok.ensures.length in
    let b = c.passes-moves.result && is_nil e.pool.prepared in
    let asks : b ≡ prepares c.args.self.now c.args.command =
    ap (λ (m : Bool). m && is_nil e.pool.prepared) moves ∙ ap (λ (k : Bool). passes e.config.file_size (end_of_tail e.tail) (record_len c.args.command) && k) (sym (is_nil_ids e.pool.prepared)) ∙ ap (λ v. prepares v c.args.command) c.self.view_is in
    let h = e.pool.highest in
    let most : cond b (h + 1) h ≡ c.ready.new.pool.highest = sym (ap (λ (p : PoolOf). p.highest) c.in_default-ready.ensures.pool ∙ readied_most c.passes-moves.result e.pool) in
    let K : Files → Files → Type 0 = SparesAllBut (IsUsedOrNew e.tail.file.name (h + 1) (cond b (h + 1) h)) in
    subst (λ v. Told (past v.disk) (λ o. Told (past c.ready.new.disk) (HasFilesMade v.config.file_size v.highest c.ready.new.pool.highest o))) c.self.view_is
    (subst (λ (k : Config). Told (past e.disk) (λ o. Told (past c.ready.new.disk) (HasFilesMade k.file_size h c.ready.new.pool.highest o))) c.self.invariant.sound.parts.same_config
    (subst (λ (n : ℕ). Told (past e.disk) (λ o. Told (past c.ready.new.disk) (HasFilesMade e.pool.config.file_size h n o))) most (worked_works K e.pool.config.file_size h (cond b (h + 1) h) (past e.disk) (past c.ready.new.disk) c.in_default-ready.ensures.works).files))

-- the data files, counted from an earlier call on
pub returns-in-Some-clause-journal_files : goal.returns-in-Some-clause-journal_files
returns-in-Some-clause-journal_files g c done first =
    let e = c.self.inside in
    let past = g.D.Disk.past in
    let lists = g.C.Chronicle.lists in
    subst (λ v. IfSome (lists v.chronicle) (λ l. HasFilesSoFar done v.config v.file v.end v.highest l first (past v.disk)) → IfSome (lists v.chronicle) (λ l. HasFilesSoFar (done && false) v.config v.file v.end v.highest l first (past v.disk))) c.self.view_is
    (so_far_still done first (past e.disk) (lists e.chronicle) (g.C.Chronicle.receipt_room e.chronicle) e.config (state_of e.table) e.pool e.tail c.self.invariant.ranges c.self.invariant.sound (lists e.chronicle) (λ none. none) false (λ from stands. stands))

pub returns-in-Err-clause-journal_files : goal.returns-in-Err-clause-journal_files
returns-in-Err-clause-journal_files g c done first =
    let e = c.self.inside in
    let past = g.D.Disk.past in
    let lists = g.C.Chronicle.lists in
    let same = ap steps_in c.room_for.ensures.lists in
    subst (λ v. IfSome (lists v.chronicle) (λ l. HasFilesSoFar done v.config v.file v.end v.highest l first (past v.disk)) → IfSome (lists c.room_for.new.chronicle) (λ l. HasFilesSoFar (done && false) e.config e.tail.file.id (end_of_tail e.tail) e.pool.highest l first (past e.disk))) c.self.view_is
    (so_far_still done first (past e.disk) (lists e.chronicle) (g.C.Chronicle.receipt_room e.chronicle) e.config (state_of e.table) e.pool e.tail c.self.invariant.ranges c.self.invariant.sound (lists c.room_for.new.chronicle) (none_steps (lists e.chronicle) (lists c.room_for.new.chronicle) same) false
    (λ from stands. stands_same e.config from e.tail.file.id (end_of_tail e.tail) e.tail.file.id (end_of_tail e.tail) (lists e.chronicle) (lists c.room_for.new.chronicle) same refl refl stands))

pub returns-in-Some-refusal_of-clause-journal_files : goal.returns-in-Some-refusal_of-clause-journal_files
returns-in-Some-refusal_of-clause-journal_files g c done first =
    let e = c.self.inside in
    let past = g.D.Disk.past in
    let lists = g.C.Chronicle.lists in
    let same = ap steps_in c.room_for.ensures.lists in
    let noted = is_noted (Err c.in-Some-refusal_of.refusal) in
    subst (λ v. IfSome (lists v.chronicle) (λ l. HasFilesSoFar done v.config v.file v.end v.highest l first (past v.disk)) → IfSome (lists c.step.new.self) (λ l. HasFilesSoFar (done && noted) e.config e.tail.file.id (end_of_tail e.tail) e.pool.highest l first (past e.disk))) c.self.view_is
    (so_far_still done first (past e.disk) (lists e.chronicle) (g.C.Chronicle.receipt_room e.chronicle) e.config (state_of e.table) e.pool e.tail c.self.invariant.ranges c.self.invariant.sound (lists c.step.new.self)
    (λ none. none_mapped _ (lists c.room_for.new.chronicle) (lists c.step.new.self) c.step.ensures.noted (none_steps (lists e.chronicle) (lists c.room_for.new.chronicle) same none)) noted
    (λ from stands. stands_bare e.config from e.tail.file.id (end_of_tail e.tail) e.tail.file.id (end_of_tail e.tail) (lists c.room_for.new.chronicle) (lists c.step.new.self) _ refl c.step.ensures.noted refl refl
    (stands_same e.config from e.tail.file.id (end_of_tail e.tail) e.tail.file.id (end_of_tail e.tail) (lists e.chronicle) (lists c.room_for.new.chronicle) same refl refl stands)))

pub returns-in-Err-ready-clause-journal_files : goal.returns-in-Err-ready-clause-journal_files
returns-in-Err-ready-clause-journal_files g c done first =
    let e = c.self.inside in
    let past = g.D.Disk.past in
    let lists = g.C.Chronicle.lists in
    let t = c.ready.new.tail in
    let h = e.pool.highest in
    let b = c.passes-moves.result && is_nil e.pool.prepared in
    let sound = c.self.invariant.sound in
    let same = steps_failed (c.passes-moves.result ≡ true) (e.pool.prepared ≡ []) (g.D.Disk.moment e.disk) e.tail t (lists c.room_for.new.chronicle) (lists c.ready.new.chronicle) c.in-Err-ready.ensures.err ∙ ap steps_in c.room_for.ensures.lists in
    let at = failed_end (c.passes-moves.result ≡ true) (e.pool.prepared ≡ []) (g.D.Disk.moment e.disk) e.tail t (lists c.room_for.new.chronicle) (lists c.ready.new.chronicle) c.in-Err-ready.ensures.err in
    let pool : c.ready.new.pool.highest ≡ h = ap (λ (p : PoolOf). p.highest) c.in-Err-ready.ensures.same_pool in
    let most : cond b (h + 1) h ≤ 2 ^ 31 - 1 = most_limit c.passes-moves.result e.pool sound.parts.numbers (λ moving none. numbers_left e.config (refusal_in (state_of c.room_for.new.table) c.args.command) c.passes-moves.result e.pool.highest (ids_of e.pool.prepared) c.args.command (sym c.in_default-refusal_of.ensures.first) moving (ap ids_of none)) in
    let needs = ⊎_elim (λ (le : cond b (h + 1) h ≤ h). inl le) (λ (le : h + 1 ≤ e.tail.file.id + 1). inr (omega (arith, le, at.0))) (unreadied_numbers e.config (state_of e.table) e.pool e.tail sound.parts c.passes-moves.result) in
    subst (λ (n : Bool). IfSome (lists c.args.self.now.chronicle) (λ l. HasFilesSoFar done c.args.self.now.config c.args.self.now.file c.args.self.now.end c.args.self.now.highest l first (past c.args.self.now.disk)) → IfSome (lists c.ready.new.chronicle) (λ l. HasFilesSoFar (done && n) e.config t.file.id (end_of_tail t) c.ready.new.pool.highest l first (past c.ready.new.disk))) (sym (fault_noted c.in-Err-ready.fault c.close_after.result c.close_after.ensures.refusal))
    (subst (λ v. IfSome (lists v.chronicle) (λ l. HasFilesSoFar done v.config v.file v.end v.highest l first (past v.disk)) → IfSome (lists c.ready.new.chronicle) (λ l. HasFilesSoFar (done && false) e.config t.file.id (end_of_tail t) c.ready.new.pool.highest l first (past c.ready.new.disk))) c.self.view_is
    (so_far_call done first (past e.disk) (lists e.chronicle) (g.C.Chronicle.receipt_room e.chronicle) e.config (state_of e.table) e.pool e.tail c.self.invariant.ranges sound (lists c.ready.new.chronicle) (none_steps (lists e.chronicle) (lists c.ready.new.chronicle) same) false (past c.ready.new.disk) t.file.id (end_of_tail t) c.ready.new.pool.highest (cond b (h + 1) h) c.in-Err-ready.ensures.failed_works
    (most_by b h).1 most (omega (arith, pool)) (λ d. absurd (no_true d)) (λ d. pool) (omega (arith, at.0)) (omega (arith, at.0, pool, used_within e.config (state_of e.table) e.pool e.tail sound.parts)) needs (λ d. absurd (no_true d))
    (λ from stands. stands_same e.config from e.tail.file.id (end_of_tail e.tail) t.file.id (end_of_tail t) (lists e.chronicle) (lists c.ready.new.chronicle) same at.0 at.1 stands)))
  where
    no_true : {A : Type 0} → false ≡ true → A
    no_true e = absurd cc

pub returns-clause-journal_files : goal.returns-clause-journal_files
returns-clause-journal_files g c done first =
    let e = c.self.inside in
    let past = g.D.Disk.past in
    let lists = g.C.Chronicle.lists in
    let r = c.ready.new.tail in
    let t = c.put_record-reply.new.tail in
    let h = e.pool.highest in
    let m = c.passes-moves.result in
    let b = m && is_nil e.pool.prepared in
    let sound = c.self.invariant.sound in
    let highest : c.ready.new.pool.highest ≡ (pool_readied m e.pool).highest = ap (λ (p : PoolOf). p.highest) c.in_default-ready.ensures.pool in
    let most : cond b (h + 1) h ≡ c.ready.new.pool.highest = sym (highest ∙ readied_most m e.pool) in
    let flushes_it = flushes e.tail.buffer.capacity (length e.tail.buffer.bytes) c.args.command in
    let file : t.file.id ≡ (readied m flushes_it e.pool e.tail).file.id = put_file _ _ r t c.put_record-reply.ensures.tail ∙ ap (λ (u : Tail). u.file.id) c.in_default-ready.ensures.ok in
    let n = readied_numbers e.config (state_of e.table) e.pool e.tail sound.parts m flushes_it in
    let low : cond b (h + 1) h ≤ 2 ^ 31 - 1 = most_limit m e.pool sound.parts.numbers (λ moving none. numbers_left e.config (refusal_in (state_of c.room_for.new.table) c.args.command) c.passes-moves.result e.pool.highest (ids_of e.pool.prepared) c.args.command (sym c.in_default-refusal_of.ensures.first) moving (ap ids_of none)) in
    let needs = ⊎_elim (λ (le : cond b (h + 1) h ≤ h). inl le) (λ (le : h + 1 ≤ (readied m flushes_it e.pool e.tail).file.id). inr (omega (arith, le, file))) n.3 in
    let same : steps_in (lists c.ready.new.chronicle) ≡ steps_in (lists e.chronicle) = same_steps _ e.tail.appended _ (lists c.room_for.new.chronicle) (lists c.ready.new.chronicle) c.in_default-ready.ensures.receipt ∙ ap steps_in c.room_for.ensures.lists in
    let stands = returns-clause-stands g c in
    λ is. (subst (λ v. ((from : ℕ) → IfSome (lists v.chronicle) (StandsFrom v.config from v.file v.end) → IfSome (lists c.step-2.new.self) (StandsFrom e.config from t.file.id (end_of_tail t))) → IfSome (lists v.chronicle) (λ l. HasFilesSoFar done v.config v.file v.end v.highest l first (past v.disk)) → IfSome (lists c.step-2.new.self) (λ l. HasFilesSoFar (done && true) e.config t.file.id (end_of_tail t) c.ready.new.pool.highest l first (past c.ready.new.disk))) c.self.view_is
    (λ stand. so_far_call done first (past e.disk) (lists e.chronicle) (g.C.Chronicle.receipt_room e.chronicle) e.config (state_of e.table) e.pool e.tail c.self.invariant.ranges sound (lists c.step-2.new.self) (λ none. none_mapped _ (lists c.ready.new.chronicle) (lists c.step-2.new.self) c.step-2.ensures.noted (none_steps (lists e.chronicle) (lists c.ready.new.chronicle) same none)) true (past c.ready.new.disk) t.file.id (end_of_tail t) c.ready.new.pool.highest (cond b (h + 1) h) c.in_default-ready.ensures.works
    (most_by b h).1 low (omega (arith, highest, n.2)) (λ d. most) (λ d. absurd (no_false d)) (omega (arith, file, n.0)) (omega (arith, file, highest, n.1)) needs (λ d. c.in_default-ready.ensures.tidy) stand)) stands is
  where
    no_false : {A : Type 0} → true ≡ false → A
    no_false e = absurd cc
