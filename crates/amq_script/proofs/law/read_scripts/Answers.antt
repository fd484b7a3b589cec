use Rattle.amq_script.proofs.Grammar.{script_said, script_read}
use Rattle.amq_script.proofs.law.read_scripts.Goals as goal

pub returns : goal.returns
returns c = λ mode bytes producers. (script_said mode bytes producers, λ h. script_read mode bytes producers h.0 h.1 h.2)
