-- Lines and the summary that are computed.
use Rattle.std.proofs.Common.{◌≡◌, [], ◌∷◌, replicate, codes, refl}
use Rattle.std.specs.Fmt.{digits}
use Rattle.amq_model.specs.declared.refusal.Phase.TheVariants as p
use Rattle.amq_model.specs.declared.state.EntryKind.TheVariants as k
use Rattle.amq_model.specs.Texts.{bound_line, given_up_line, compacting_line, step_line, producer_line, compacted_line, summary_of}

bound : bound_line 9223372036854775807 ≡ codes "bound 9223372036854775807\n"
unfolding digits
bound = refl

given_up : given_up_line 0 ≡ codes "given up 0\n"
unfolding digits
given_up = refl

compacting : compacting_line 12 ≡ codes "compacting 12\n"
unfolding digits
compacting = refl

idle : step_line p.Idle ≡ codes "idle\n"
idle = refl

reading : step_line p.Reading ≡ codes "phase Reading\n"
reading = refl

packing : step_line p.Packing ≡ codes "phase Packing\n"
packing = refl

writing : step_line p.Writing ≡ codes "phase Writing\n"
writing = refl

control : step_line p.Control ≡ codes "phase Control\n"
control = refl

swapped : step_line p.Swapped ≡ codes "phase Swapped\n"
swapped = refl

freeing : step_line p.Freeing ≡ codes "phase Freeing\n"
freeing = refl

renaming : step_line p.Renaming ≡ codes "phase Renaming\n"
renaming = refl

dropping : step_line p.Dropping ≡ codes "phase Dropping\n"
dropping = refl

producer : producer_line 64 ≡ codes "producer 64\n"
unfolding digits
producer = refl

compacted : compacted_line 3 1 ≡ codes "compacted 3 1\n"
unfolding digits
compacted = refl

nothing : summary_of 0 record { live = []; in_doubt = [] } ≡ codes "appended 0\nlive 0\nin doubt 0\n"
unfolding digits
nothing = refl

-- the script of 20
of_twenty : summary_of 48 record {
  live = replicate 16 record { kind = k.Add; id = 20; user_type = 31; body = [] };
  in_doubt = [];
} ≡ codes "appended 48\nlive 16\nin doubt 0\n"
unfolding digits
of_twenty = refl

in_doubt : summary_of 3 record {
  live = [];
  in_doubt = record { tx = 1; extra = []; records = record { kind = k.Add; id = 3; user_type = 7; body = [] } ∷ []; deletes = [] } ∷ [];
} ≡ codes "appended 3\nlive 0\nin doubt 1\n"
unfolding digits
in_doubt = refl
