use Rattle.std.proofs.Common.{◌≡◌, ℕ, List, [], length, refl, ap}
use Rattle.amq_tx.specs.Tables.{state_of}
use Rattle.amq_engine.proofs.Sound.{all_durable}
use Rattle.amq_engine.proofs.Closed.{sound_journal}
use Rattle.amq_engine.proofs.Commanding.{valid_chronicle}
use Rattle.amq_engine.proofs.engine.Engine.open_on.Goals as goal

pub returns-in-Ok-clause-opened : goal.returns-in-Ok-clause-opened
returns-in-Ok-clause-opened g c =
    let p = c.in-Ok.ensures.valid.sound.parts in
    let none : c.in-Ok.field-0.tail.buffer.bytes ≡ [] = p.first.0 c.in-Ok.ensures.flushed in
    (refl, all_durable c.args.config (state_of c.in-Ok.field-0.table) c.in-Ok.field-0.pool c.in-Ok.field-0.tail p none, ap (λ (l : List ℕ). length l) none, c.in-Ok.ensures.flushed, refl, refl)

pub returns-in-Ok-clause-content : goal.returns-in-Ok-clause-content
returns-in-Ok-clause-content g c =
    let s = c.in-Ok.ensures.valid.sound in
    sound_journal (g.D.Disk.past c.start.new.disk) (g.C.Chronicle.lists c.start.new.chronicle) (g.C.Chronicle.receipt_room c.start.new.chronicle) c.args.config (state_of c.in-Ok.field-0.table) c.in-Ok.field-0.pool c.in-Ok.field-0.tail s
    (all_durable c.args.config (state_of c.in-Ok.field-0.table) c.in-Ok.field-0.pool c.in-Ok.field-0.tail s.parts (s.parts.first.0 c.in-Ok.ensures.flushed)) c.requires.config

pub returns-in-Ok-clause-chronicle : goal.returns-in-Ok-clause-chronicle
returns-in-Ok-clause-chronicle g c =
    valid_chronicle (g.D.Disk.past c.start.new.disk) (g.D.Disk.moment c.start.new.disk) (g.C.Chronicle.lists c.start.new.chronicle) (g.C.Chronicle.receipt_room c.start.new.chronicle) c.args.config (state_of c.in-Ok.field-0.table) c.in-Ok.field-0.pool c.in-Ok.field-0.tail c.in-Ok.ensures.valid

pub returns-in-Ok-clause-tidy : goal.returns-in-Ok-clause-tidy
returns-in-Ok-clause-tidy g c = c.in-Ok.ensures.tidy

pub returns-in-Ok-clause-begins : goal.returns-in-Ok-clause-begins
returns-in-Ok-clause-begins g c = c.start.ensures.begins

pub returns-in-Ok-clause-owed : goal.returns-in-Ok-clause-owed
returns-in-Ok-clause-owed g c = c.start.ensures.owed

pub returns-in-Ok-clause-ends : goal.returns-in-Ok-clause-ends
returns-in-Ok-clause-ends g c = c.in-Ok.ensures.ends

pub returns-in-Err-clause-failed_owed : goal.returns-in-Err-clause-failed_owed
returns-in-Err-clause-failed_owed g c = c.start.ensures.owed

pub returns-in-Ok-clause-journal_files : goal.returns-in-Ok-clause-journal_files
returns-in-Ok-clause-journal_files g c = c.in-Ok.ensures.journal_files
