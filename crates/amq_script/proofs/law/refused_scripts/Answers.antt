use Rattle.amq_script.proofs.Grammar.{script_wrong, wrong_script}
use Rattle.amq_script.proofs.law.refused_scripts.Goals as goal

pub returns : goal.returns
returns c = λ mode bytes number cause. (script_wrong mode bytes number cause, wrong_script mode bytes number cause)
