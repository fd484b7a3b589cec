use Rattle.std.proofs.Common.{arith}
use Rattle.amq_io.specs.declared.disk.FileInfo.{FileInfo}
use Rattle.amq_loader.specs.Loads.{is_leftover}
use Rattle.amq_loader.proofs.Tallies.{kept_more}
use Rattle.amq_loader.proofs.names.leftovers_of.Goals as goal

pub loop-info-preserved : goal.loop-info-preserved
loop-info-preserved c =
    kept_more (λ (i : FileInfo). i.name) is_leftover c.args.infos.now c.loop-info.info-index c.info-item.result c.loop-info.names.items c.push_leftover.new.names.items (omega arith) c.info-item.is c.loop-info.invariant c.in_ok-push_leftover.ensures
