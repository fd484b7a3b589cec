use Rattle.std.proofs.Common.{◌≡◌, List, [], ◌∷◌, ◌++◌, All, sym, ap, refl, subst, ◌∙◌, rules, arith}
use Rattle.std.proofs.lemmas.Grind.{common_steps}
use Rattle.std.specs.Prelude.{IsTrue, Result, Err, IfErr, is_ok, ◌&&◌, reverse, length}
use Rattle.amq_model.specs.declared.refusal.Refusal.{Refusal}
use Rattle.std.proofs.lemmas.List.{length-append, append-nil}
use Rattle.amq_model.specs.declared.config.Config.{Config}
use Rattle.amq_model.specs.declared.script.Line.{Line}
use Rattle.amq_cli.specs.Owed.{HasOwed}
use Rattle.std.proofs.lemmas.List.Elements.{All-take}
use Rattle.amq_cli.specs.Replay.{is_built, HasEnded, HasReplayed}
use Rattle.amq_model.specs.Texts.{refusal_line}
use Rattle.amq_cli.specs.Labelled.{number_in}
use Rattle.amq_cli.specs.Playing.{HasPlayed}
use Rattle.amq_engine.proofs.GoingOn.{goes_still, goes_through}
use Rattle.amq_cli.specs.Offline.{lists_of}
use Rattle.amq_cli.proofs.Beginning.{first_still, first_through}
use Rattle.amq_cli.proofs.Ending.{one_taken, ended_more, last_of_all, same_labels, owed_front, all_owed, all_played}
use Rattle.amq_cli.proofs.Causes.{cause_behind}
use Rattle.amq_engine.specs.DataFiles.{HasFilesSoFar}
use Rattle.amq_cli.proofs.replay.replay.Goals as goal

pub loop-line-init : goal.loop-line-init
loop-line-init g c =
    let e = c.args.engine.now in
    let text = c.args.text.now.items in
    record {
      built = search rules;
      played = ([], grind (arith, common_steps), same_labels e.config.buffer_timeout [] (λ label. 0) (number_in c.new-labels.result) 1 e text c.new-labels.ensures c.requires.begun);
      few = search rules;
      unclosed = c.requires.open;
      config = refl;
      base = refl;
      faults = (refl, refl);
      goes = goes_still (g.D.Disk.past e.disk);
      first = first_still (lists_of e.chronicle);
      stands = λ first stands. stands;
      files = λ done first was. was;
    }

pub play_line-requires-clause-built : goal.play_line-requires-clause-built
play_line-requires-clause-built g c =
    let popped : c.loop-line.lines.items ≡ c.pop.new.self.items ++ c.in-Some.line ∷ [] = search rules in
    last_of_all (λ line. IsTrue (is_built line)) c.pop.new.self.items c.in-Some.line (subst (All (λ line. IsTrue (is_built line))) popped c.loop-line.invariant.built)

pub loop-line-preserved : goal.loop-line-preserved
loop-line-preserved g c =
    let was = c.loop-line.invariant in
    let line = c.in-Some.line in
    let popped : c.loop-line.lines.items ≡ c.pop.new.self.items ++ line ∷ [] = search rules in
    let played = was.played in
    let timeout = ap (λ (k : _). k.buffer_timeout) was.config in
    record {
      built = subst (All (λ line. IsTrue (is_built line))) (sym c.pop.ensures.rest) (All-take (λ line. IsTrue (is_built line)) _ c.loop-line.lines.items was.built);
      played = (
        played.0 ++ line ∷ [],
        one_taken c.args.lines.items played.0 c.loop-line.lines.items c.pop.new.self.items line popped played.1,
        subst (λ t. HasPlayed t (played.0 ++ line ∷ []) (number_in c.play_line.new.labels) c.play_line.new.number c.play_line.new.engine c.play_line.new.text.items) timeout
            (c.in_ok-play_line.ensures.plays.played played.0 (subst (λ t. HasPlayed t played.0 (number_in c.loop-line.labels) c.loop-line.number c.loop-line.engine c.loop-line.text.items) (sym timeout) played.2)),
      );
      few = omega (arith, was.few, c.play_line.ensures.plays.next, ap length popped, length-append c.pop.new.self.items (line ∷ []));
      unclosed = search rules;
      config = search rules;
      base = search rules;
      faults = (omega (arith, was.faults.0, c.in_ok-play_line.ensures.plays.continues.cause.0), c.in_ok-play_line.ensures.plays.continues.cause.1 ∙ was.faults.1);
      goes = goes_through (g.D.Disk.past c.args.engine.now.disk) (g.D.Disk.past c.loop-line.engine.disk) (g.D.Disk.past c.play_line.new.engine.disk) was.goes c.play_line.ensures.plays.continues.goes_on;
      first = first_through (lists_of c.args.engine.now.chronicle) (lists_of c.loop-line.engine.chronicle) (lists_of c.play_line.new.engine.chronicle) was.first c.play_line.ensures.plays.continues.first;
      stands = λ first stands. c.play_line.ensures.plays.continues.stands first (was.stands first stands);
      files = λ done first so_far. c.in_ok-play_line.ensures.plays.continues.files done first (was.files done first so_far);
    }

pub returns-in_err-play_line : goal.returns-in_err-play_line
returns-in_err-play_line g c = record {
  replays = record {
    replayed = search rules;
    ended = (let was = c.loop-line.invariant in
        let line = c.in-Some.line in
        let popped : c.loop-line.lines.items ≡ c.pop.new.self.items ++ line ∷ [] = search rules in
        let played = was.played in
        let timeout = ap (λ (k : _). k.buffer_timeout) was.config in
        let steps = c.play_line.new.engine.chronicle.steps.items in
        let receipts = c.play_line.new.engine.chronicle.receipts.items in
        let ended = c.in_err-play_line.ensures.plays.ended played.0 (subst (λ t. HasPlayed t played.0 (number_in c.loop-line.labels) c.loop-line.number c.loop-line.engine c.loop-line.text.items) (sym timeout) played.2) in
        let all = one_taken c.args.lines.items played.0 c.loop-line.lines.items c.pop.new.self.items line popped played.1 in
        let here = subst (λ ls. HasEnded c.args.engine.now.config.buffer_timeout ls steps receipts c.play_line.new.text.items (refusal_line c.in_err-play_line.field-0.0)) all
        (ended_more c.args.engine.now.config.buffer_timeout (played.0 ++ line ∷ []) (reverse c.pop.new.self.items) steps receipts c.play_line.new.text.items _
        (subst (λ t. HasEnded t (played.0 ++ line ∷ []) steps receipts c.play_line.new.text.items (refusal_line c.in_err-play_line.field-0.0)) timeout ended)) in
        let err : c.from_residual.result ≡ Err c.in_err-play_line.field-0.0 = search rules in
        subst (λ r. IfErr r (λ refusal. HasEnded c.args.engine.now.config.buffer_timeout c.args.lines.items steps receipts c.play_line.new.text.items (refusal_line refusal))) (sym err) here);
    owed = (let was = c.loop-line.invariant in
        let line = c.in-Some.line in
        let popped : c.loop-line.lines.items ≡ c.pop.new.self.items ++ line ∷ [] = search rules in
        let played = was.played in
        let timeout = ap (λ (k : Config). k.buffer_timeout) was.config in
        let steps = c.play_line.new.engine.chronicle.steps.items in
        let receipts = c.play_line.new.engine.chronicle.receipts.items in
        let owed = c.in_err-play_line.ensures.plays.owed played.0 (subst (λ t. HasPlayed t played.0 (number_in c.loop-line.labels) c.loop-line.number c.loop-line.engine c.loop-line.text.items) (sym timeout) played.2) in
        let all = one_taken c.args.lines.items played.0 c.loop-line.lines.items c.pop.new.self.items line popped played.1 in
        subst (λ ls. HasOwed c.args.engine.now.config ls steps receipts) all
        (owed_front c.args.engine.now.config (played.0 ++ line ∷ []) (reverse c.pop.new.self.items) steps receipts (subst (λ (k : Config). HasOwed k (played.0 ++ line ∷ []) steps receipts) was.config owed)));
    continues = record {
      last = search rules;
      closes = search rules;
      unclosed = search rules;
      same = search rules;
      cause = (let faults = g.D.Disk.faults in
          let err : c.from_residual.result ≡ Err c.in_err-play_line.field-0.0 = search rules in
          cause_behind (Unit {0}) c.in_err-play_line.field-0.0 c.from_residual.result (faults c.args.engine.now.disk) (faults c.loop-line.engine.disk) (faults c.play_line.new.engine.disk) c.loop-line.invariant.faults err c.in_err-play_line.ensures.plays.continues.cause);
      later = search rules;
      goes_on = (goes_through (g.D.Disk.past c.args.engine.now.disk) (g.D.Disk.past c.loop-line.engine.disk) (g.D.Disk.past c.play_line.new.engine.disk) c.loop-line.invariant.goes c.play_line.ensures.plays.continues.goes_on);
      first = (first_through (lists_of c.args.engine.now.chronicle) (lists_of c.loop-line.engine.chronicle) (lists_of c.play_line.new.engine.chronicle) c.loop-line.invariant.first c.play_line.ensures.plays.continues.first);
      stands = λ first stands. (c.play_line.ensures.plays.continues.stands first (c.loop-line.invariant.stands first stands));
      files = λ done first was. (let e = c.play_line.new.engine in
          let err : c.from_residual.result ≡ Err c.in_err-play_line.field-0.0 = search rules in
          subst (λ (r : Result (Unit {0}) Refusal). HasFilesSoFar (is_ok r && done) e.config e.file e.end e.highest (lists_of e.chronicle) first (g.D.Disk.past e.disk)) (sym err)
          (c.in_err-play_line.ensures.plays.continues.files done first (c.loop-line.invariant.files done first was)));
    };
  };
}

pub returns : goal.returns
returns g c = record {
  replays = record {
    replayed =
        let was = c.loop-line.invariant in
        let played = was.played in
        let e = c.loop-line.engine in
        let none : c.loop-line.lines.items ≡ [] = search rules in
        let all : played.0 ≡ c.args.lines.items = sym (append-nil played.0) ∙ ap (λ (ls : List Line). played.0 ++ reverse ls) (sym none) ∙ played.1 in
        subst (λ (ls : List Line). HasReplayed c.args.engine.now.config.buffer_timeout ls e.chronicle.steps.items e.chronicle.receipts.items c.loop-line.text.items) all (all_played c.args.engine.now.config.buffer_timeout played.0 (number_in c.loop-line.labels) c.loop-line.number e c.loop-line.text.items played.2);
    ended = search rules;
    owed = (let was = c.loop-line.invariant in
        let played = was.played in
        let e = c.loop-line.engine in
        let none : c.loop-line.lines.items ≡ [] = search rules in
        let all : played.0 ≡ c.args.lines.items = sym (append-nil played.0) ∙ ap (λ (ls : List Line). played.0 ++ reverse ls) (sym none) ∙ played.1 in
        subst (λ (k : Config). HasOwed k c.args.lines.items e.chronicle.steps.items e.chronicle.receipts.items) was.config
        (subst (λ (ls : List Line). HasOwed e.config ls e.chronicle.steps.items e.chronicle.receipts.items) all (all_owed c.args.engine.now.config.buffer_timeout played.0 (number_in c.loop-line.labels) c.loop-line.number e c.loop-line.text.items played.2)));
    continues = record {
      last = search rules;
      closes = search rules;
      unclosed = search rules;
      same = search rules;
      cause = search rules;
      later = search rules;
      goes_on = search rules;
      first = search rules;
      stands = search rules;
      files = λ done first was. c.loop-line.invariant.files done first was;
    };
  };
}
