use Rattle.std.proofs.Common.{sym}
use Rattle.amq_script.proofs.Letters.{IsUtf8_label}
use Rattle.amq_script.proofs.values.label.Goals as goal

pub returns-in_default : goal.returns-in_default
returns-in_default c =
    absurd (c.in_default.ensures.cases.0 (IsUtf8_label c.args.word.now (sym c.if-not-is_label.ensures)))
