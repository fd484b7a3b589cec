use Rattle.std.proofs.Common.{◌==◌, length, rules, arith, sym, ap, subst, ◌∙◌, Ok}
use Rattle.std.proofs.lemmas.List.{length_push}
use Rattle.std.proofs.lemmas.Iterator.Consumers.{YieldsList-turn, YieldsList-end}
use Rattle.std.proofs.lemmas.Iterator.Splits.{YieldsList-from_slice_split}
use Rattle.amq_script.specs.Faults.{IsRefused, fault_at}
use Rattle.amq_model.specs.Script.{script_of}
use Rattle.amq_script.proofs.Progress.{IsAt, goes_on, refuses, ends}
use Rattle.amq_script.proofs.parsing.parse.Goals as goal

pub loop-line-preserved : goal.loop-line-preserved
loop-line-preserved c =
    let t = YieldsList-turn (YieldsList-from_slice_split _ (λ b. b == 10) c.args.bytes.now (cc) (cc) (cc) (λ x b q h. search rules)) c.loop-line.yielded _ c.loop-line.yielded_by _ _ c.in-Some.line c.in-Some.is c.next.ensures.steps in
    let n = length_push c.loop-line.yielded c.in-Some.line in
    let at = c.loop-line.invariant.at in
    let read = c.in-Ok.ensures at.saids at.read in
    record {
      can_next = search rules;
      is_finite = tt;
      numbered = omega (arith, c.loop-line.invariant.numbered);
      at = subst (λ k. IsAt c.args.mode c.args.bytes.now k c.read_line.new.self) (sym n) (goes_on c.args.mode c.args.bytes.now (length c.loop-line.yielded) c.loop-line.reader c.read_line.new.self at c.in-Some.line.now read.0 t.0 t.1 read.1 read.2);
    }

pub returns-in-Err-clause-err : goal.returns-in-Err-clause-err
returns-in-Err-clause-err c =
    let t = YieldsList-turn (YieldsList-from_slice_split _ (λ b. b == 10) c.args.bytes.now (cc) (cc) (cc) (λ x b q h. search rules)) c.loop-line.yielded _ c.loop-line.yielded_by _ _ c.in-Some.line c.in-Some.is c.next.ensures.steps in
    let at = c.loop-line.invariant.at in
    let read = c.in-Err.ensures at.saids at.read in
    let refused = refuses c.args.mode c.args.bytes.now (length c.loop-line.yielded) c.loop-line.reader c.read_line.new.self at c.in-Some.line.now c.in-Err.fault t.0 t.1 read in
    let fault = c.at.ensures ∙ ap (fault_at c.in-Err.fault) c.loop-line.invariant.numbered in
    subst (λ f. IsRefused f (script_of c.args.mode c.args.bytes.now)) (sym fault) refused

pub returns-in-Ok-finish-clause-ok : goal.returns-in-Ok-finish-clause-ok
returns-in-Ok-finish-clause-ok c =
    let t = YieldsList-end (YieldsList-from_slice_split _ (λ b. b == 10) c.args.bytes.now (cc) (cc) (cc) (λ x b q h. search rules)) c.loop-line.yielded _ c.loop-line.yielded_by _ _ c.in-None.is c.next.ensures.steps in
    let at = c.loop-line.invariant.at in
    ends c.args.mode c.args.bytes.now (length c.loop-line.yielded) c.loop-line.reader at t.1 ∙ ap Ok (sym (c.in-Ok-finish.ensures at.saids at.read))
