-- The members of which one stands after a stopped event (this project's profile).
use Rattle.std.specs.Prelude.{◌≡◌}
use Rattle.member.specs.Member.{Member}
use Rattle.open_parties.specs.declared.expecting.Expected.{Expected}

-- these are the one before the event, and the one after it
pub record AreExpected (e : Expected) (x y : Member) : Type 0 where
  pub before : e.before ≡ x
  pub after : e.after ≡ y
