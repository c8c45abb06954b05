-- The edits with which a key is sent are apart.
use Rattle.std.proofs.Common.{ℕ, Option, Some, None, List, refl}
use Rattle.x_gen.specs.declared.generator.Gen.{Gen}
use Rattle.party_tables.specs.declared.link.LinkRec.{LinkRec}
use Rattle.party_state.specs.State.{Party}
use Rattle.party_state.specs.Verdicts.{Test}
use Rattle.role_base.specs.Apart.{AreApart}
use Rattle.role_base.specs.Sending.{sending_drawn}

pub sending_apart : (p : Party) (front : List Test) (l : LinkRec) (drawn : Option (ℕ × Gen)) → AreApart (sending_drawn p front l drawn).edits
sending_apart p front l None = tt
sending_apart p front l (Some drawn) = ((refl, (refl, (refl, tt))), ((refl, (refl, tt)), ((refl, tt), (tt, tt))))
