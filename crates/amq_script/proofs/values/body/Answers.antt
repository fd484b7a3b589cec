use Rattle.std.proofs.Common.{◌<◌, length, arith, sym, ap, ◌∙◌, Ok, inl, inr}
use Rattle.std.proofs.lemmas.Bool.Decides.{nat_tests}
use Rattle.amq_script.proofs.Pairs.{are_pairs_decoded, are_pairs_refused, pairs_decoded, no_dash, body_of_pairs, body_of_other}
use Rattle.amq_script.proofs.values.body.Goals as goal

pub returns-in-Ok : goal.returns-in-Ok
returns-in-Ok c =
    let some : 0 < length c.args.word.now = grind (arith, nat_tests, c.if-is_empty.ensures) in
    let valid = are_pairs_decoded c.args.word.now c.in-Ok.bytes.items some c.in-Ok.ensures.ok in
    let spelled = body_of_pairs c.args.word.now (no_dash c.args.word.now c.as_slice.result.now c.as_slice.ensures c.if-eq.ensures) valid in
    let same = pairs_decoded c.args.word.now c.in-Ok.bytes.items valid c.in-Ok.ensures.ok ∙ sym c.of-in-Ok.ensures in
    spelled ∙ ap Ok same

pub returns-in_default : goal.returns-in_default
returns-in_default c =
    let dash = no_dash c.args.word.now c.as_slice.result.now c.as_slice.ensures c.if-eq.ensures in
    elim c.in-Err.ensures.err [
      | inl e ↦ absurd (c.in_default.not-OutOfMemory e)
      | inr e ↦ body_of_other c.args.word.now dash (are_pairs_refused c.args.word.now c.in-Err.error e)
    ]
