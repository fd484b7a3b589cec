use Rattle.std.proofs.Common.{◌∙◌, arith}
use Rattle.amq_cli.proofs.Pieces.{taken_more}
use Rattle.amq_cli.proofs.output.write_whole.Goals as goal

pub loop-written-preserved : goal.loop-written-preserved
loop-written-preserved g c =
    let w = c.loop-written.written in
    let n = c.in_ok-written.field-0 in
    let rest = c.split_at.result.1.now in
    record {
      within = omega (arith, c.in_ok-written.ensures.bound, c.split_at.ensures.back_len, c.loop-written.invariant.within);
      taken = taken_more w n c.args.bytes.now rest (g.K.Sink.taken c.args.sink.now) (g.K.Sink.taken c.loop-written.sink) (g.K.Sink.taken c.write.new.self) c.loop-written.invariant.taken c.split_at.ensures.back c.in_ok-written.ensures.next;
      sound = c.in_ok-written.ensures.sound ∙ c.loop-written.invariant.sound;
    }
