use Rattle.std.proofs.Common.{inl, inr, refl, rules}
use Rattle.amq_cli.proofs.output.write.Goals as goal

pub returns-in_default : goal.returns-in_default
returns-in_default g c = record { status = inl refl; part = search rules; given = inl (refl, inr (search rules)); sound = λ is. absurd (c.in_default.not-Ok is); ok = λ is. absurd (c.in_default.not-Ok is) }
