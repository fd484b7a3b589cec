use Rattle.std.proofs.Common.{rules, ◌≡◌, ℕ, [], ◌∷◌, ◌++◌, Some, refl, sym, ap, subst, ◌∙◌}
use Rattle.std.specs.Prelude.{if◌then◌else◌}
use Rattle.amq_model.specs.Names.{same}
use Rattle.amq_model.specs.declared.command.Command.{Command}
use Rattle.amq_model.specs.declared.command.Command.TheVariants.{Begin}
use Rattle.amq_model.specs.declared.history.Answer.{Answer}
use Rattle.amq_model.specs.declared.script.Line.TheVariants.{Labelled}
use Rattle.amq_cli.specs.Labelled.{number_in}
use Rattle.amq_cli.specs.Replay.{begun_number, with_number}
use Rattle.amq_cli.specs.Playing.{IsPlaying, AreNumbersOf}
use Rattle.amq_cli.proofs.Playing.{labels_behind}
use Rattle.amq_cli.proofs.Answering.{not_begun, begins, with_each}
use Rattle.amq_cli.proofs.Lines.{unasked}
use Rattle.amq_cli.proofs.replay.give_labelled.Goals as goal

pub returns-then-not-is_begin : goal.returns-then-not-is_begin
returns-then-not-is_begin g c = record {
  answers = record {
    played = λ answered labelled was. (let label = c.args.label.now in
        let sends = ap (λ n. Some (with_number n c.args.command)) (sym (labelled label) ∙ sym c.number.ensures) ∙ ap Some (sym c.with_number.ensures) in
        with_each c.give.result _ (λ (answer : Answer). AreNumbersOf (number_in c.args.labels.now) (answered ++ (Labelled label c.args.command, Some answer) ∷ []))
        (λ answer. labels_behind (number_in c.args.labels.now) (number_in c.args.labels.now) answered (Labelled label c.args.command, Some answer) labelled (λ other. not_begun label other c.args.command (Some answer) (number_in c.args.labels.now other) (sym c.is_begin.ensures ∙ c.if-not-is_begin.true)))
        (c.give.ensures.gives.played answered (Labelled label c.args.command) sends was));
    kept = search rules;
    next = search rules;
    continues = search rules;
  };
}

pub returns-then-is_err : goal.returns-then-is_err
returns-then-is_err g c = record {
  answers = record {
    played = search rules;
    kept = search rules;
    next = search rules;
    continues = unasked g.D.Disk.past g.D.Disk.faults Answer c.args.engine.now;
  };
}

pub returns : goal.returns
returns g c = record {
  answers = record {
    played = λ answered labelled was. (let label = c.args.label.now in
        let begin : c.args.command ≡ Begin = begins c.args.command (sym c.is_begin.ensures ∙ c.if-not-is_begin.false) in
        let played = c.in_ok-answer.ensures.gives.played answered (Labelled label Begin) refl was in
        let old = number_in c.args.labels.now in
        let new = number_in c.set.new.self in
        let numbers = labels_behind old new answered (Labelled label Begin, Some c.in_ok-answer.answer) labelled
        (λ other. c.set.ensures other ∙ ap (λ (n : ℕ). if same label other then n else number_in c.reserve.new.self other) c.begun_number.ensures ∙ ap (λ (n : ℕ). if same label other then begun_number (Some c.in_ok-answer.answer) else n) (c.reserve.ensures.same other)) in
        subst (λ (command : Command). IsPlaying c.args.engine.now.config.buffer_timeout (answered ++ (Labelled label command, Some c.in_ok-answer.answer) ∷ []) c.give-2.new.number c.give-2.new.engine × AreNumbersOf new (answered ++ (Labelled label command, Some c.in_ok-answer.answer) ∷ [])) (sym begin) (played, numbers));
    kept = search rules;
    next = search rules;
    continues = search rules;
  };
}
