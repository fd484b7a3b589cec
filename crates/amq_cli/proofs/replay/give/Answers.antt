use Rattle.std.proofs.Common.{◌≡◌, true, false, Bool, refl, ap, ◌∙◌, rules}
use Rattle.std.specs.Prelude.{nat_lt, Err}
use Rattle.amq_model.specs.Calls.{counted}
use Rattle.amq_engine.specs.DataFiles.{HasFilesSoFar}
use Rattle.amq_engine.specs.Engine.{is_noted}
use Rattle.amq_cli.specs.Offline.{lists_of}
use Rattle.amq_cli.proofs.Ending.{last_of_command, still_open}
use Rattle.amq_cli.proofs.Answering.{command_accepted, command_refused, of_command, unnoted, grown_refused}
use Rattle.amq_cli.proofs.DataFileLemmas.{as_noted}
use Rattle.amq_cli.proofs.replay.give.Goals as goal

pub returns-in-Ok : goal.returns-in-Ok
returns-in-Ok g c =
    let old = c.args.engine.now in
    let new = c.command.new.self in
    record {
      gives = record {
        played = λ answered line sends was. command_accepted old.config.buffer_timeout answered c.args.number.now old new was line c.args.command c.in-Ok.reply (counted (counted (g.D.Disk.moment old.disk))) (g.D.Disk.past new.disk) (g.D.Disk.moment new.disk) sends c.in-Ok.ensures.reply c.in-Ok.ensures.ok c.in-Ok.ensures.noted c.command.ensures.chronicle;
        kept = search rules;
        next = search rules;
        continues = record {
          last = search rules;
          closes = search rules;
          unclosed = search rules;
          same = search rules;
          cause = search rules;
          later = search rules;
          goes_on = search rules;
          first = search rules;
          stands = search rules;
          files = λ done first was. as_noted (λ (b : Bool). HasFilesSoFar b new.config new.file new.end new.highest (lists_of new.chronicle) first (g.D.Disk.past new.disk)) done true true refl (c.in-Ok.ensures.journal_files done first was);
        };
      };
    }

pub returns-in-Err : goal.returns-in-Err
returns-in-Err g c =
    let old = c.args.engine.now in
    let new = c.command.new.self in
    let taken : is_noted (Err c.in-Err.refusal) ≡ true = search rules in
    record {
      gives = record {
        played = λ answered line sends was. command_refused old.config.buffer_timeout answered c.args.number.now old new was line c.args.command c.in-Err.refusal (counted (counted (g.D.Disk.moment old.disk))) (g.D.Disk.past new.disk) (g.D.Disk.moment new.disk) sends taken (c.in-Err.ensures.refused (of_command c.in-Err.refusal taken c.in-Err.ensures.answers)) c.in-Err.ensures.noted c.command.ensures.chronicle;
        kept = search rules;
        next = search rules;
        continues = record {
          last = search rules;
          closes = search rules;
          unclosed = search rules;
          same = search rules;
          cause = search rules;
          later = search rules;
          goes_on = search rules;
          first = search rules;
          stands = search rules;
          files = λ done first was. as_noted (λ (b : Bool). HasFilesSoFar b new.config new.file new.end new.highest (lists_of new.chronicle) first (g.D.Disk.past new.disk)) done (is_noted (Err c.in-Err.refusal)) true taken (c.in-Err.ensures.journal_files done first was);
        };
      };
    }

pub returns-in-Err-2 : goal.returns-in-Err-2
returns-in-Err-2 g c =
    let old = c.args.engine.now in
    let new = c.command.new.self in
    let ends : is_noted (Err c.in-Err.refusal) ≡ false = search rules in
    record {
      gives = record {
        played = search rules;
        kept = unnoted c.args.number.now c.args.command (Err c.in-Err.refusal) (nat_lt old.durable new.durable) old.durable old.appended (counted (counted (g.D.Disk.moment old.disk))) (lists_of old.chronicle) (lists_of new.chronicle) (grown_refused c.args.command old new c.in-Err.ensures.err) ends c.in-Err.ensures.noted;
        next = search rules;
        continues = record {
          last = last_of_command c.in-Err.refusal (search rules) (λ call is. still_open c.args.engine.now.closed call c.requires.open ((c.command.ensures.closed call).0 (c.in-Err.is ∙ ap Err is)));
          closes = search rules;
          unclosed = search rules;
          same = search rules;
          cause = search rules;
          later = search rules;
          goes_on = search rules;
          first = search rules;
          stands = search rules;
          files = λ done first was. as_noted (λ (b : Bool). HasFilesSoFar b new.config new.file new.end new.highest (lists_of new.chronicle) first (g.D.Disk.past new.disk)) done (is_noted (Err c.in-Err.refusal)) false ends (c.in-Err.ensures.journal_files done first was);
        };
      };
    }
