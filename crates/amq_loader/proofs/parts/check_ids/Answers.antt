use Rattle.std.proofs.Common.{◌≡◌, ◌+◌, ◌-◌, Some, arith, eq-eqb, sym, ap, ◌∙◌}
use Rattle.std.proofs.lemmas.Bool.{ne_eqb}
use Rattle.amq_model.specs.declared.directory.DirFault.TheVariants.{TwoFiles}
use Rattle.amq_loader.specs.declared.part.Part.{Part}
use Rattle.amq_loader.specs.Parts.{shared_id}
use Rattle.amq_loader.proofs.Tallies.{shared_here, shared_later, shared_last}
use Rattle.amq_loader.proofs.parts.check_ids.Goals as goal

pub returns-then-first-second : goal.returns-then-first-second
returns-then-first-second c =
    let p = c.index-parts-i.result in
    let q = c.index-parts-i-in-loop-i.result in
    let e : p.file.id ≡ q.file.id = ap (λ (x : Part). x.file.id) c.index-parts-i.is ∙ c.if-first-second.true ∙ sym (ap (λ (x : Part). x.file.id) c.index-parts-i-in-loop-i.is) in
    let h : shared_id c.args.parts.now ≡ Some (TwoFiles p.file.id p.file.name q.file.name) =
    shared_here c.args.parts.now c.loop-i.i p q c.loop-i.invariant.some c.loop-i-test.true c.index-parts-i.is c.index-parts-i-in-loop-i.is (eq-eqb _ _ e) c.loop-i.invariant.same in
    cc (h, c.in_ok-two_files.ensures, c.index-parts-i.is, c.index-parts-i-in-loop-i.is)

pub loop-i-preserved : goal.loop-i-preserved
loop-i-preserved c =
    let p = c.index-parts-i.result in
    let q = c.index-parts-i-in-loop-i.result in
    record {
      some = omega arith;
      same = shared_later c.args.parts.now c.loop-i.i (c.loop-i.i + 1 - 1) p q c.loop-i.invariant.some (omega arith) c.loop-i-test.true c.index-parts-i.is c.index-parts-i-in-loop-i.is
          (ne_eqb _ _ (λ e. c.if-first-second.false (sym (ap (λ (x : Part). x.file.id) c.index-parts-i.is) ∙ e ∙ ap (λ (x : Part). x.file.id) c.index-parts-i-in-loop-i.is))) c.loop-i.invariant.same;
    }

pub returns : goal.returns
returns c = shared_last c.args.parts.now c.loop-i.i c.loop-i-test.false c.loop-i.invariant.same
