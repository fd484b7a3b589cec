use Rattle.std.proofs.Common.{◌≡◌, ◌+◌, ◌≤◌, ◌∷◌, take, drop, length, rules, refl, ◌∙◌, ap, arith}
use Rattle.amq_io.specs.Versions.{Versions}
use Rattle.amq_io.proofs.Picking.{hold_is, hold_inside}
use Rattle.amq_io.proofs.memory_file.MemoryFile.pend.Goals as goal

pub returns-clause-ok : goal.returns-clause-ok
returns-clause-ok c =
    let b = c.self.inside.bytes.items in
    let v = c.args.self.now in
    let same : b ≡ v.read.bytes = ap (λ (v : Versions). v.read.bytes) c.self.view_is in
    let fits : c.args.place + c.args.len ≤ length b = omega (arith, c.requires, ap length same) in
    let was : c.in_ok-before.before.items ≡ take c.args.len (drop c.args.place b) = search rules in
    hold_is b b (record { place = c.args.place; before = c.in_ok-before.before }) c.self.inside.pending.items c.push.new.self.items c.args.len v refl fits was (λ i out. refl) c.in_ok-push.ensures.items c.self.view_is
    ∙ ap (λ b. record { read = record { bytes = b; pending = (c.args.place, c.args.len) ∷ v.read.pending }; synced = v.synced }) same

pub invariant_of-self-2 : goal.invariant_of-self-2
invariant_of-self-2 c =
    let b = c.self.inside.bytes.items in
    let fits : c.args.place + c.args.len ≤ length b = omega (arith, c.requires, ap (λ (v : Versions). length v.read.bytes) c.self.view_is) in
    let was : c.in_ok-before.before.items ≡ take c.args.len (drop c.args.place b) = search rules in
    hold_inside b (record { place = c.args.place; before = c.in_ok-before.before }) c.self.inside.pending.items c.push.new.self.items c.args.len c.self.invariant fits was c.in_ok-push.ensures.items
