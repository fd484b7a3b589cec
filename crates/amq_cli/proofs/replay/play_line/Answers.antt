use Rattle.std.proofs.Common.{rules, ◌≡◌, ◌++◌, Some, refl, ap, subst, ◌∙◌}
use Rattle.std.specs.Prelude.{Ok, Err, if◌then◌else◌}
use Rattle.amq_model.specs.Names.{same}
use Rattle.amq_model.specs.Texts.{reply_line, refusal_line, bound_line}
use Rattle.amq_model.specs.declared.history.Answer.TheVariants.{Done}
use Rattle.amq_model.specs.declared.command.Reply.TheVariants.{Durable}
use Rattle.amq_model.specs.declared.script.Line.TheVariants.{Tick}
use Rattle.amq_cli.specs.Labelled.{number_in}
use Rattle.amq_cli.specs.Offline.{lists_of}
use Rattle.amq_cli.specs.Replaying.{AnswersLine}
use Rattle.amq_cli.proofs.Playing.{labels_behind}
use Rattle.amq_cli.proofs.Ending.{last_of_tick, still_open}
use Rattle.amq_cli.proofs.Answering.{tick_answered}
use Rattle.amq_cli.proofs.DataFileLemmas.{so_far_unfinished}
use Rattle.amq_cli.proofs.Lines.{plain, answered_so, answered_plays, refused_plays, unasked_plays, bind_plays}
use Rattle.amq_cli.proofs.replay.play_line.Given as given
use Rattle.amq_cli.proofs.replay.play_line.Goals as goal
use Rattle.amq_cli.proofs.replay.play_line.Goals.{Joined-line-4, in-Plain, in-Labelled, in-Tick+in-Ok, in-Tick+in-Err}

pub returns-then-is_err : goal.returns-then-is_err
returns-then-is_err g c = record {
  plays = let labels = number_in c.args.labels.now in
      unasked_plays g.D.Disk.past g.D.Disk.faults c.args.line labels labels c.args.number.now c.args.text.now.items c.reserve.new.self.items c.args.engine.now c.reserve.ensures.items;
}

pub returns-then-is_err-2 : goal.returns-then-is_err-2
returns-then-is_err-2 g c = record {
  plays = unasked_plays g.D.Disk.past g.D.Disk.faults c.args.line (number_in c.args.labels.now) (number_in c.reserve-in-Bind.new.self) c.args.number.now c.args.text.now.items c.reserve.new.self.items c.args.engine.now c.reserve.ensures.items;
}

pub returns-in-Bind : goal.returns-in-Bind
returns-in-Bind g c = record {
  plays =
      let tx = c.in-Bind.tx in
      let text : c.push_bound.new.out.items ≡ c.reserve.new.self.items ++ bound_line tx = search rules in
      bind_plays g.D.Disk.past g.D.Disk.faults c.args.line (number_in c.args.labels.now) (number_in c.set.new.self) c.args.number.now c.args.text.now.items c.push_bound.new.out.items c.args.engine.now c.in-Bind.label tx c.in-Bind.is
      (λ other. c.set.ensures other ∙ ap (λ n. if same c.in-Bind.label other then tx else n) (c.reserve-in-Bind.ensures.same other))
      c.requires.open
      (text ∙ ap (λ t. t ++ bound_line tx) c.reserve.ensures.items);
}

-- what the line was answered
answers : (g : given.Over) → (c : Joined-line-4 g) → AnswersLine g.D.Disk.past g.D.Disk.faults c.args.line (number_in c.args.labels.now) (number_in c.match-line-4.labels) c.args.number.now c.match-line-4.number c.match-line-4.answered c.args.engine.now c.match-line-4.engine
answers g c =
    let past = g.D.Disk.past in
    let faults = g.D.Disk.faults in
    let labels = number_in c.args.labels.now in
    let number = c.args.number.now in
    let old = c.args.engine.now in
    elim c.match-line-4.branch [
      | in-Plain w ↦ answered_so past faults _ _ labels _ _ number _ _ _ _ old _ _ w.in-Plain.is w.labels-is w.number-is w.answered-is w.engine-is
          (plain past faults w.in-Plain.command labels number _ _ old _ w.give-answered.ensures.gives)
      | in-Labelled w ↦ answered_so past faults _ _ labels _ _ number _ _ _ _ old _ _ w.in-Labelled.is w.labels-is w.number-is w.answered-is w.engine-is w.give_labelled-answered.ensures.answers
      | in-Tick+in-Ok w ↦ (
          let new = w.tick.new.self in
          let now = w.in-Tick.now in
          let answer = Done (Durable w.in-Ok.count) in
          answered_so past faults (Tick now) _ labels _ _ number number _ (Ok answer) _ old new _ w.in-Tick.is w.labels-is w.number-is w.answered-is w.engine-is (record {
            played = λ answered labelled was. (
              tick_answered old.config.buffer_timeout answered number old new was now w.in-Ok.count (g.D.Disk.moment new.disk) (past new.disk) (g.D.Disk.moment new.disk) refl w.in-Ok.ensures.count w.in-Ok.ensures.ok w.in-Ok.ensures.receipt w.tick.ensures.chronicle,
              labels_behind labels labels answered (Tick now, Some answer) labelled (λ other. refl),
            );
            kept = tt;
            next = search rules;
            continues = record {
              last = tt;
              closes = tt;
              unclosed = search rules;
              same = search rules;
              cause = search rules;
              later = search rules;
              goes_on = search rules;
              first = search rules;
              stands = search rules;
              files = λ done first so_far. w.tick.ensures.journal_files done first so_far;
            };
          }))
      | in-Tick+in-Err w ↦ (
          let new = w.tick.new.self in
          answered_so past faults (Tick w.in-Tick.now) _ labels _ _ number number _ (Err w.in-Err.refusal) _ old new _ w.in-Tick.is w.labels-is w.number-is w.answered-is w.engine-is (record {
            played = λ answered labelled was. tt;
            kept = search rules;
            next = search rules;
            continues = record {
              last = last_of_tick w.in-Err.refusal w.in-Err.ensures.refusals (λ call is. still_open old.closed call c.requires.open ((w.tick.ensures.closed call).0 (w.in-Err.is ∙ ap Err is)));
              closes = search rules;
              unclosed = tt;
              same = search rules;
              cause = search rules;
              later = search rules;
              goes_on = search rules;
              first = search rules;
              stands = search rules;
              files = λ done first so_far. so_far_unfinished done new.config new.file new.end new.highest (lists_of new.chronicle) first (past new.disk) (w.tick.ensures.journal_files done first so_far);
            };
          }))
    ]

pub returns-in-Ok-answered : goal.returns-in-Ok-answered
returns-in-Ok-answered g c = record {
  plays =
      let past = g.D.Disk.past in
      let faults = g.D.Disk.faults in
      let before = c.args.text.now.items in
      let answer = c.in-Ok-answered.answer in
      let text : c.push_answer.new.out.items ≡ c.reserve.new.self.items ++ reply_line answer = search rules in
      let is = subst (λ r. AnswersLine past faults c.args.line (number_in c.args.labels.now) (number_in c.match-line-4.labels) c.args.number.now c.match-line-4.number r c.args.engine.now c.match-line-4.engine) c.in-Ok-answered.is (answers g (goal.at.returns-in-Ok-answered g c).Joined-line-4) in
      answered_plays past faults c.args.line (number_in c.args.labels.now) (number_in c.match-line-4.labels) c.args.number.now c.match-line-4.number before c.push_answer.new.out.items c.args.engine.now c.match-line-4.engine answer is (text ∙ ap (λ t. t ++ reply_line answer) c.reserve.ensures.items);
}

pub returns-in-Err-answered : goal.returns-in-Err-answered
returns-in-Err-answered g c = record {
  plays =
      let past = g.D.Disk.past in
      let faults = g.D.Disk.faults in
      let before = c.args.text.now.items in
      let refusal = c.in-Err-answered.refusal in
      let text : c.push_answer-in-Err-answered.new.out.items ≡ c.reserve.new.self.items ++ refusal_line refusal = search rules in
      let is = subst (λ r. AnswersLine past faults c.args.line (number_in c.args.labels.now) (number_in c.match-line-4.labels) c.args.number.now c.match-line-4.number r c.args.engine.now c.match-line-4.engine) c.in-Err-answered.is (answers g (goal.at.returns-in-Err-answered g c).Joined-line-4) in
      refused_plays past faults c.args.line (number_in c.args.labels.now) (number_in c.match-line-4.labels) c.args.number.now c.match-line-4.number before c.push_answer-in-Err-answered.new.out.items c.args.engine.now c.match-line-4.engine refusal is (text ∙ ap (λ t. t ++ refusal_line refusal) c.reserve.ensures.items);
}
