-- Whether the roles and the generators of two parties are equal (this project's profile).
use Rattle.std.specs.Prelude.{◌==◌, Bool, true, false, ◌&&◌}
use Rattle.x_base.specs.declared.party.Role.{Role}
use Rattle.x_base.specs.declared.party.Role.TheVariants.{Bank, Distribution, Translation}
use Rattle.x_gen.specs.declared.generator.Gen.{Gen}
use Rattle.party_state.specs.State.{same_pair}

abbrev pub same_role : Role → Role → Bool
same_role Bank Bank = true
same_role Distribution Distribution = true
same_role Translation Translation = true
same_role _ _ = false

abbrev pub same_generator : Gen → Gen → Bool
same_generator a b = same_pair a.key b.key && (a.v == b.v)
