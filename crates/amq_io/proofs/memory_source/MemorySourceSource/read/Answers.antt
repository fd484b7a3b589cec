use Rattle.std.proofs.Common.{◌≡◌, length, rules, arith, sym, ◌∙◌, ap}
use Rattle.amq_io.specs.Streams.{Stream}
use Rattle.amq_io.proofs.Pieces.{given_next}
use Rattle.amq_io.proofs.memory_source.MemorySourceSource.read.Goals as goal

pub returns-clause-next : goal.returns-clause-next
returns-clause-next c =
    let s = c.self.inside in
    let long : length c.copy_from_slice.new.self ≡ c.min-len.result = search rules in
    ap (λ (s : Stream). s.bytes) (sym c.self.view_is) ∙ given_next s.bytes.items c.deref-2.result.now c.copy_from_slice.new.self c.args.into.now s.place c.min-len.result _ long (omega arith) c.deref-2.ensures.value c.copy_from_slice.ensures.after
