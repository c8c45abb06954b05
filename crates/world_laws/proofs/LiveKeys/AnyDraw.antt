-- A generator under a weak key, with the seed 0, draws the moment, whatever it is.
use Rattle.std.proofs.Common.{◌≡◌, ◌<◌, ◌^◌, ℕ, false, ◌∙◌, ap}
use Rattle.std.specs.Int.Bits.{xor_zero_r}
use Rattle.x_des.specs.Des.{enciphered}
use Rattle.x_mac.specs.Pair.{ede_of}
use Rattle.x_gen.specs.Parity.{odd_parity_of, is_weak_key}
use Rattle.x_gen.specs.Gen.{drawn, gen_after}
use Rattle.world_laws.specs.Exchanged.{DrawsMoment, weak_generator}
use Rattle.world_laws.proofs.LiveKeys.Drawing.{weak, both_weak, once, twice, first_draw}

-- enciphered twice it is itself again
drawn_moment : (moment : ℕ) → moment < 2 ^ 64 → drawn weak_generator moment ≡ moment
drawn_moment moment below =
    ap (ede_of both_weak) (xor_zero_r (ede_of both_weak moment))
    ∙ (once (ede_of both_weak moment) ∙ (ap (enciphered weak) (once moment) ∙ twice moment below))

pub draws_moment : (moment : ℕ) → moment < 2 ^ 64 → is_weak_key (odd_parity_of moment) ≡ false → DrawsMoment moment
draws_moment moment below strong = record {
  after = gen_after weak_generator moment;
  draws = first_draw weak_generator moment (odd_parity_of moment) (ap odd_parity_of (drawn_moment moment below)) strong;
}
