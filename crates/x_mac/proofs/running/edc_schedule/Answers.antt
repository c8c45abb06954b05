use Rattle.std.proofs.Common.{refl}
use Rattle.x_des.specs.Bits.{bits_of, number, pick}
use Rattle.x_des.specs.Des.{keys_from, round_keys}
use Rattle.x_mac.proofs.running.edc_schedule.Goals as goal

pub of_round_keys-requires : goal.of_round_keys-requires
unfolding bits_of number pick keys_from round_keys
of_round_keys-requires c = refl
