use Rattle.std.proofs.Common.{◌≡◌, Some, rules, sym, ◌∙◌, ap}
use Rattle.std.specs.Prelude.{option_map}
use Rattle.amq_model.specs.Files.{File}
use Rattle.amq_io.proofs.Places.{reads, get_first, get_absent}
use Rattle.amq_io.proofs.entries.bytes_of.Goals as goal

pub returns-in_ok-to_vec-in-Some : goal.returns-in_ok-to_vec-in-Some
returns-in_ok-to_vec-in-Some c =
    let same : c.in_ok-to_vec-in-Some.field-0.items ≡ c.index-files-i.result.file.read.bytes = search rules in
    ap Some same ∙ ap (option_map (λ (f : File). f.bytes)) (sym (get_first reads c.args.name.now c.args.files.now c.in-Some.i c.index-files-i.result c.in-Some.ensures.found c.index-files-i.is))

pub returns-in-None : goal.returns-in-None
returns-in-None c =
    ap (option_map (λ (f : File). f.bytes)) (sym (get_absent reads c.args.name.now c.args.files.now c.in-None.ensures.none))
