use Rattle.std.proofs.Common.{◌≡◌, ◌<◌, ◌^◌, take}
use Rattle.amq_model.specs.Names.{value_of}
use Rattle.amq_model.proofs.decimal.value_of.Given as goal

abbrev pub invariant-loop-digit : goal.invariant-loop-digit
invariant-loop-digit l = record {
  spelled : l.value ≡ value_of (take l.digit-index l.digits);
  below : l.value < 10 ^ l.digit-index;
}
