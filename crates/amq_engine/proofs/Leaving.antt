-- Which calls a command makes, and what a call of an engine leaves tidy.
use Rattle.std.proofs.Common.{◌≡◌, ℕ, true, false, Option, Err, sym, ap, ◌∙◌}
use Rattle.std.specs.Prelude.{◌||◌, ◌&&◌, is_some}
use Rattle.amq_model.specs.declared.command.Command.{Command}
use Rattle.amq_model.specs.declared.refusal.Refusal.{Refusal}
use Rattle.amq_io.specs.declared.faults.DiskFault.{DiskFault}
use Rattle.amq_io.specs.declared.faults.DiskFault.TheVariants as f
use Rattle.amq_engine.specs.Engine.{EngineOf, passes, flushes, record_len, writes_first, fault_refusal, is_noted}

-- whether the command writes out first, by the parts of the engine
pub writes_by : {D C : Type 0} (e : EngineOf D C) (command : Command) (size end capacity waiting : ℕ) (since : Option ℕ) → e.config.file_size ≡ size → e.end ≡ end → e.config.buffer_size ≡ capacity → e.waiting ≡ waiting → e.since ≡ since
    → ((passes size end (record_len command) || flushes capacity waiting command) && is_some since) ≡ writes_first e command
writes_by e command size end capacity waiting since a b c d s =
    sym (ap (λ (n : ℕ). (passes n e.end (record_len command) || flushes e.config.buffer_size e.waiting command) && is_some e.since) a
    ∙ ap (λ (n : ℕ). (passes size n (record_len command) || flushes e.config.buffer_size e.waiting command) && is_some e.since) b
    ∙ ap (λ (n : ℕ). (passes size end (record_len command) || flushes n e.waiting command) && is_some e.since) c
    ∙ ap (λ (n : ℕ). (passes size end (record_len command) || flushes capacity n command) && is_some e.since) d
    ∙ ap (λ (o : Option ℕ). (passes size end (record_len command) || flushes capacity waiting command) && is_some o) s)

-- a fault of the disk is no answer that is noted
pub fault_unnoted : (fault : DiskFault) (q : Refusal) → q ≡ fault_refusal fault → is_noted (Err q) ≡ true → ⊥
fault_unnoted (f.Disk call) q is noted = let none : is_noted (Err q) ≡ false = ap (λ (r : Refusal). is_noted (Err r)) is in absurd cc
fault_unnoted f.NoMemory q is noted = let none : is_noted (Err q) ≡ false = ap (λ (r : Refusal). is_noted (Err r)) is in absurd cc

pub fault_noted : (fault : DiskFault) (q : Refusal) → q ≡ fault_refusal fault → is_noted (Err q) ≡ false
fault_noted (f.Disk call) q is = ap (λ (r : Refusal). is_noted (Err r)) is
fault_noted f.NoMemory q is = ap (λ (r : Refusal). is_noted (Err r)) is
