-- Which counts of faults a status leaves as they were, at literal counts.
use Rattle.std.proofs.Common.{◌≡◌, ℕ, Some, refl, arith}
use Rattle.amq_model.specs.declared.refusal.DiskCall.TheVariants.{Read, Sync}
use Rattle.amq_cli.specs.declared.input.InputFault.TheVariants as f
use Rattle.amq_cli.specs.declared.status.Status.TheVariants as s
use Rattle.amq_cli.specs.Input.{HasInputCount}
use Rattle.amq_cli.specs.Counts.{HasSourceCount, HasSinkCount, HasDiskCount, HasLoadCount, HasPrintCounts}

a_read_failed : HasInputCount f.Failed 0 1
a_read_failed = tt

none_failed_of_a_long_input : HasInputCount f.TooLong 0 1 → ⊥
none_failed_of_a_long_input h = let more : ◌≡◌ {A = ℕ} 1 0 = h in omega (arith, more)

with_4 : HasSourceCount s.SourceFault 0 1
with_4 = tt

not_with_8 : HasSourceCount s.NoMemory 0 1 → ⊥
not_with_8 h = let more : ◌≡◌ {A = ℕ} 1 0 = h in omega (arith, more)

the_sink_with_5 : HasSinkCount s.SinkFault 0 1
the_sink_with_5 = tt

not_the_sink_with_0 : HasSinkCount s.Ok 0 1 → ⊥
not_the_sink_with_0 h = let more : ◌≡◌ {A = ℕ} 1 0 = h in omega (arith, more)

the_disk_with_6 : HasDiskCount s.DiskFault (3, Some Read) (4, Some Sync)
the_disk_with_6 = tt

not_the_disk_with_5 : HasDiskCount s.SinkFault (3, Some Read) (4, Some Sync) → ⊥
not_the_disk_with_5 h = let more : ◌≡◌ {A = ℕ} 4 3 = h.0 in omega (arith, more)

a_load_for_memory : HasLoadCount s.NoMemory (3, Some Read) (3, Some Read)
a_load_for_memory = (refl, refl)

not_a_failed_load_for_memory : HasLoadCount s.NoMemory (3, Some Read) (4, Some Read) → ⊥
not_a_failed_load_for_memory h = let more : ◌≡◌ {A = ℕ} 4 3 = h.0 in omega (arith, more)

a_print_for_memory : HasPrintCounts s.NoMemory 0 0 (3, Some Read) (3, Some Read)
a_print_for_memory = (refl, (refl, refl))

not_a_failed_print_for_memory : HasPrintCounts s.NoMemory 0 1 (3, Some Read) (3, Some Read) → ⊥
not_a_failed_print_for_memory h = let more : ◌≡◌ {A = ℕ} 1 0 = h.0 in omega (arith, more)
