use Rattle.std.proofs.Common.{map, arith, rules}
use Rattle.amq_io.specs.declared.disk.FileInfo.{FileInfo}
use Rattle.amq_loader.specs.Loads.{number_of}
use Rattle.amq_loader.specs.declared.part.Part.{Part}
use Rattle.amq_loader.proofs.Tallies.{number_more}
use Rattle.amq_loader.proofs.names.highest_number.Goals as goal

pub loop-info-preserved : goal.loop-info-preserved
loop-info-preserved c =
    number_more (λ (i : FileInfo). i.name) number_of c.args.infos.now c.loop-info.info-index c.info-item.result (map (λ (p : Part). p.file.id) c.args.parts.now) c.loop-info.highest c.max-highest.result (omega arith) c.info-item.is c.loop-info.invariant (search rules)
