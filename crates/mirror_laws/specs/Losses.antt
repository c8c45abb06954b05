-- What the loss of a disk leaves of a network (this project's profile).
use Rattle.std.specs.Prelude.{◌≡◌, ℕ, Some, List}
use Rattle.member.specs.Member.{Member}
use Rattle.world_laws.specs.World.{World, HasMember, member_at}

-- each member has the same party as before, and nothing was written, made, used or accepted
pub record ChangesNoParty (w after : World) : Type 0 where
  pub parties : (p : List ℕ) (x : Member) → member_at p w.members ≡ Some x → HasMember after p (λ party space. party ≡ x.party)
  pub texts : after.texts ≡ w.texts
  pub facts : after.facts ≡ w.facts
  pub births : after.births ≡ w.births
  pub uses : after.uses ≡ w.uses
  pub acceptances : after.acceptances ≡ w.acceptances
