-- Texts that are computed.
use Rattle.std.proofs.Common.{◌≡◌, [], ◌∷◌, codes, refl}
use Rattle.std.specs.Fmt.{digits}
use Rattle.amq_model.specs.declared.command.Reply.TheVariants.{Appended, Durable}
use Rattle.amq_model.specs.declared.history.Answer.TheVariants.{Done, Refused}
use Rattle.amq_model.specs.declared.refusal.DiskCall.TheVariants as d
use Rattle.amq_model.specs.declared.refusal.Phase.TheVariants as p
use Rattle.amq_model.specs.declared.refusal.Refusal.TheVariants.{TooLarge, Compacting, Disk, NoMemory}
use Rattle.amq_model.specs.declared.state.EntryKind.TheVariants as k
use Rattle.amq_model.specs.Texts.{reply_line, report_of}

appended : reply_line (Done (Appended 0)) ≡ codes "ok 0\n"
unfolding digits
appended = refl

durable : reply_line (Done (Durable 18446744073709551615)) ≡ codes "durable 18446744073709551615\n"
unfolding digits
durable = refl

too_large : reply_line (Refused (TooLarge 65 64)) ≡ codes "refused TooLarge 65 64\n"
unfolding digits
too_large = refl

compacting : reply_line (Refused (Compacting p.Reading)) ≡ codes "refused Compacting Reading\n"
compacting = refl

disk : reply_line (Refused (Disk d.Sync)) ≡ codes "refused Disk Sync\n"
disk = refl

no_memory : reply_line (Refused NoMemory) ≡ []
no_memory = refl

nothing : report_of record { live = []; in_doubt = [] } ≡ codes "live 0\nin doubt 0\n"
unfolding digits
nothing = refl

in_doubt : report_of record {
  live = record { kind = k.Update; id = 18; user_type = 255; body = [] } ∷ [];
  in_doubt = record {
    tx = 1;
    extra = 1 ∷ 2 ∷ [];
    records = record { kind = k.Add; id = 3; user_type = 7; body = 104 ∷ 175 ∷ [] } ∷ [];
    deletes = record { id = 9; body = [] } ∷ [];
  } ∷ [];
} ≡ codes "live 1\nupdate 18 255 -\nin doubt 1\ntx 1 extra 0102 records 1 deletes 1\n  add 3 7 68af\n  delete 9 -\n"
unfolding digits
in_doubt = refl
