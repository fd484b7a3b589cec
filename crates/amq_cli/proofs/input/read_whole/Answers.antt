use Rattle.std.proofs.Common.{◌≡◌, ◌≤◌, ℕ, List, ◌++◌, length, take, sym, ap, subst, ◌∙◌, arith, rules}
use Rattle.std.proofs.lemmas.List.{length-append, length-take-le}
use Rattle.amq_cli.proofs.Pieces.{IsReadPart, one_more}
use Rattle.amq_cli.proofs.input.read_whole.Goals as goal

pub pieces-preserved : goal.pieces-preserved
pieces-preserved g c =
    let bytes = c.pieces.bytes.items in
    let piece = c.read.new.into in
    let n = c.in-Ok.count in
    let more : c.extend_from_slice.new.self.items ≡ bytes ++ take n piece = search rules in
    let within : n ≤ length piece = search rules in
    let long : length (take n piece) ≡ n = length-take-le n piece within in
    record {
      enough = omega (arith, c.pieces.invariant.enough, c.if-count-eq0.false, ap length more, length-append bytes (take n piece), long);
      short = search rules;
      part = subst (λ (b : List ℕ). IsReadPart b (g.S.Source.left c.args.source.now) (g.S.Source.left c.read.new.self)) (sym more)
          (one_more n bytes piece (g.S.Source.left c.args.source.now) (g.S.Source.left c.pieces.source) (g.S.Source.left c.read.new.self) c.pieces.invariant.part c.in-Ok.ensures.next);
      sound = c.in-Ok.ensures.sound ∙ c.pieces.invariant.sound;
    }
