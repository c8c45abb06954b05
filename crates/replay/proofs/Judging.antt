-- The member at a place, and whether its input is honest.
use Rattle.std.proofs.Common.{◌≡◌, ◌<◌, ℕ, Bool, true, false, map, List, length, Option, Some, sym, ◌∙◌, ap, subst}
use Rattle.x_disk.specs.Disk.{View}
use Rattle.party_state.specs.declared.command.Input.{Input}
use Rattle.party_state.specs.declared.decision.Lead.{Lead}
use Rattle.party_state.specs.State.{Party}
use Rattle.key_store.specs.Store.{Stored}
use Rattle.member.specs.Leads.{lead_in}
use Rattle.member.specs.Member.{Member}
use Rattle.node_core.specs.Turns.{member_of}
use Rattle.world_laws.specs.World.{World, Fact, member_at}
use Rattle.world_laws.specs.Honest.{named_text}
use Rattle.course.specs.Forging.{HonestInput}
use Rattle.replay.specs.Acting.{ForgesAt}
use Rattle.replay.specs.PlayState.{Shows}
use Rattle.open_parties.specs.OpenParties.{open_party, members, AreIn, AreOpen, NoneOf, IsPlace, IsTakenOut}
use Rattle.replay.specs.declared.play_state.PlayState.{PlayState}
use Rattle.open_parties.specs.declared.open_party.OpenParty.{OpenParty}
use Rattle.open_parties.specs.declared.open_party.PartyDisk.TheVariants.{Open}
use Rattle.replay.proofs.Members.{found}
use Rattle.open_parties.proofs.Places.{OpenAt, open_at}
use Rattle.replay.proofs.Stepping.{at}

-- a place has a member
pub member_there : {D : Type 0} (tell : Bool) (told : D → View) (s : PlayState D) (place : ℕ) → place < length s.parties → AreOpen s.parties → (w : World) (own : List ℕ) → IsPlace s.parties own place → Shows tell told w s
    → (x : Member) × (member_at own w.members ≡ Some x)
member_there {D = D} tell told s place lt all w own is_place shows =
    let o : OpenAt s.parties place = open_at s.parties place lt all in
    let p = is_place o.front (open_party o.own (Open o.node)) o.back o.was o.size in
    let there : member_at o.own (members s.parties) ≡ Some (member_of o.node) =
    ap (λ (l : List (OpenParty D)). member_at o.own (members l)) o.was ∙ found tell told o.own o.node o.back o.front (subst (AreIn tell told) o.was shows.all_open) (subst (NoneOf o.front) (sym p.1) p.0) in
    (member_of o.node, subst (λ (n : List ℕ). member_at n w.members ≡ Some (member_of o.node)) p.1 (ap (λ (ms : List Member). member_at o.own ms) (sym shows.members_are) ∙ there))

-- by the facts as they are kept, and the lead of what is planned
module _ {D : Type 0} (told : D → View) (old mid : PlayState D) (place : ℕ) (node : Stored D) (l : IsTakenOut old.parties mid.parties place node) (facts_stay : mid.facts ≡ old.facts) (i : Input) (lead : Option Lead) (lead_is : lead ≡ lead_in node.party i) (answer : Bool) where
  pub honest_there : ((known : List Fact) (p : Party) → mid.facts ≡ map named_text known → lead ≡ lead_in p i → answer ≡ true → HonestInput known p (Some i)) → answer ≡ true
      → (tell : Bool) (w : World) (own : List ℕ) → IsPlace old.parties own place → Shows tell told w old → (x : Member) × (member_at own w.members ≡ Some x) × HonestInput w.facts x.party (Some i)
  honest_there test is tell w own is_place shows = (
    member_of node,
    at tell told old.parties mid.parties place node l w shows.all_open shows.members_are own is_place,
    test w.facts node.party (facts_stay ∙ shows.facts_are) lead_is is,
  )

  pub forged_there : ((known : List Fact) (p : Party) → mid.facts ≡ map named_text known → lead ≡ lead_in p i → answer ≡ false → HonestInput known p (Some i) → ⊥) → answer ≡ false → ForgesAt told old place i
  forged_there test is = λ tell w own is_place shows. (
    member_of node,
    at tell told old.parties mid.parties place node l w shows.all_open shows.members_are own is_place,
    test w.facts node.party (facts_stay ∙ shows.facts_are) lead_is is,
  )
