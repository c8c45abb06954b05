-- A loss changes no party.
use Rattle.std.proofs.Common.{◌≡◌, ℕ, Bool, true, false, cond, Option, Some, None, List, refl, sym, ap, inl, inr}
use Rattle.change_code.specs.Cost.{can_compact, space_of_whole}
use Rattle.change_code.specs.declared.format.Format.TheVariants.{Two}
use Rattle.member.specs.Member.{Member}
use Rattle.world_laws.specs.World.{World, HasMember, member_at}
use Rattle.world_laws.specs.Steps.{world_with_space}
use Rattle.world_laws.proofs.Lists.Members.{member_cases}
use Rattle.mirror_laws.specs.Runs.{Which, FirstDisk, SecondDisk, world_after_loss}
use Rattle.mirror_laws.specs.Losses.{ChangesNoParty}

same_world : (w : World) → ChangesNoParty w w
same_world w = record { parties = λ p x at. record { member = x; at = at; holds = refl }; texts = refl; facts = refl; births = refl; uses = refl; acceptances = refl }

module _ (w : World) (party : List ℕ) (x : Member) (at : member_at party w.members ≡ Some x) where
  abbrev y : Member
  y = record { party = x.party; space = space_of_whole Two x.party }

  parties_stay : (p : List ℕ) (z : Member) → member_at p w.members ≡ Some z → HasMember (world_with_space w x (space_of_whole Two x.party)) p (λ own space. own ≡ z.party)
  parties_stay p z there = elim (member_cases w.members party x y at refl p z there) [
    | inl is ↦ record { member = y; at = is.2; holds = ap (λ (m : Member). m.party) (sym is.1) }
    | inr is ↦ record { member = z; at = is; holds = refl }
  ]

  rewritten : (b : Bool) → ChangesNoParty w (cond b (world_with_space w x (space_of_whole Two x.party)) w)
  rewritten true = record { parties = parties_stay; texts = refl; facts = refl; births = refl; uses = refl; acceptances = refl }
  rewritten false = same_world w

pub changes : (w : World) (party : List ℕ) (which : Which) (o : Option Member) → member_at party w.members ≡ o → ChangesNoParty w (world_after_loss w which o)
changes w party which None at = same_world w
changes w party FirstDisk (Some x) at = rewritten w party x at (can_compact Two x.party)
changes w party SecondDisk (Some x) at = same_world w
