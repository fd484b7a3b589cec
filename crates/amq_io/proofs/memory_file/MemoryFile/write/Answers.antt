use Rattle.std.proofs.Common.{◌≡◌, ◌+◌, ◌≤◌, ◌∷◌, ◌++◌, List, ℕ, take, drop, length, rules, sym, ◌∙◌, ap, arith}
use Rattle.amq_model.specs.Files.{overlaid}
use Rattle.amq_io.specs.declared.memory_file.Pending.{Pending}
use Rattle.amq_io.specs.Versions.{Versions}
use Rattle.amq_io.proofs.Picking.{seen, hold_is, hold_inside, inside_of, over_outside, length-overlaid, written_back}
use Rattle.amq_io.proofs.memory_file.MemoryFile.write.Goals as goal

pub returns-clause-ok : goal.returns-clause-ok
returns-clause-ok c =
    let b = c.self.inside.bytes.items in
    let v = c.args.self.now in
    let w = c.args.bytes.now in
    let same : b ≡ v.read.bytes = ap (λ (v : Versions). v.read.bytes) c.self.view_is in
    let fits : c.args.place + length w ≤ length b = omega (arith, c.requires, ap length same) in
    let was : c.in_ok-before.before.items ≡ take (length w) (drop c.args.place b) = search rules in
    let place = c.args.place in
    let over : c.overlay.new.bytes ≡ overlaid b place w = c.overlay.ensures ∙ ap (λ (l : List ℕ). overlaid l place w) c.deref_mut.ensures.value in
    let long : length (overlaid b place w) ≡ length b = length-overlaid b place w fits in
    let back : take c.self.inside.bytes.len (c.overlay.new.bytes ++ drop (length c.overlay.new.bytes) b) ≡ c.overlay.new.bytes = written_back c.overlay.new.bytes b c.self.inside.bytes.len (ap length over ∙ long ∙ sym (ap length c.deref_mut.ensures.value) ∙ c.deref_mut.ensures.len) in
    let item : Pending = record { place = place; before = c.in_ok-before.before } in
    ap (λ (l : List ℕ). seen l c.push.new.self.items) (back ∙ over)
    ∙ hold_is b (overlaid b place w) item c.self.inside.pending.items c.push.new.self.items (length w) v long fits was (λ i out. over_outside b place w fits i out) c.in_ok-push.ensures.items c.self.view_is
    ∙ ap (λ (b : List ℕ). record { read = record { bytes = overlaid b place w; pending = (place, length w) ∷ v.read.pending }; synced = v.synced }) same

pub invariant_of-self-2 : goal.invariant_of-self-2
invariant_of-self-2 c =
    let b = c.self.inside.bytes.items in
    let w = c.args.bytes.now in
    let place = c.args.place in
    let fits : place + length w ≤ length b = omega (arith, c.requires, ap (λ (v : Versions). length v.read.bytes) c.self.view_is) in
    let was : c.in_ok-before.before.items ≡ take (length w) (drop place b) = search rules in
    let over : c.overlay.new.bytes ≡ overlaid b place w = c.overlay.ensures ∙ ap (λ (l : List ℕ). overlaid l place w) c.deref_mut.ensures.value in
    let long : length c.overlay.new.bytes ≡ length b = ap length over ∙ length-overlaid b place w fits in
    let back = written_back c.overlay.new.bytes b c.self.inside.bytes.len (long ∙ sym (ap length c.deref_mut.ensures.value) ∙ c.deref_mut.ensures.len) in
    inside_of (length b) (length (take c.self.inside.bytes.len (c.overlay.new.bytes ++ drop (length c.overlay.new.bytes) b))) c.push.new.self.items (sym (ap length back ∙ long))
    (hold_inside b (record { place = place; before = c.in_ok-before.before }) c.self.inside.pending.items c.push.new.self.items (length w) c.self.invariant fits was c.in_ok-push.ensures.items)
