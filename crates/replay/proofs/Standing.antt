-- Open parties that stand for the members of a network, and their disks once they are back on the shelf.
use Rattle.std.proofs.Common.{◌≡◌, ℕ, Bool, true, false, List, [], ◌∷◌, Some, is_some, bytes_eq, refl, sym, ◌∙◌, ap, subst}
use Rattle.std.proofs.lemmas.Slice.Eq.{bytes_eq-Decides}
use Rattle.x_disk.specs.Disk.{View}
use Rattle.member.specs.Member.{Member}
use Rattle.world_laws.specs.World.{own_of, member_at}
use Rattle.replay.specs.Breaking.{TellsAndReadsAs, AreOnShelf, StandsForMember, StandForAll}
use Rattle.open_parties.specs.Closing.{IsBack, AllBack}
use Rattle.node_core.specs.Turns.{IsImageOf}
use Rattle.open_parties.specs.declared.open_party.OpenParty.{OpenParty}
use Rattle.open_parties.specs.declared.open_party.PartyDisk.{PartyDisk}
use Rattle.open_parties.specs.declared.open_party.PartyDisk.TheVariants.{Open, Closed, Away}
use Rattle.open_parties.proofs.Images.{image_of}
use Rattle.open_parties.proofs.Members.{cond_yes, cond_not}

module _ {D : Type 0} (told : D → View) (old entry : List ℕ → View) where
  back_reads : (own : List ℕ) (h : PartyDisk D) (x : Member) → IsBack told old entry own h → StandsForMember told old own h x → TellsAndReadsAs (entry own) x
  back_reads own (Open node) x back stands = record {
    tells = ap is_some back.0.now ∙ stands.0.tells refl;
    stands = λ image now. subst (λ (m : Member). IsImageOf m image) stands.1 (image_of (told node.disk) node.gate node.end node.format node.party back.1 image (sym back.0.now ∙ now));
  }
  back_reads own (Closed disk) x back stands = record { tells = ap is_some back.now ∙ stands.1.tells; stands = λ image now. stands.1.stands image (sym back.now ∙ now) }
  back_reads own Away x back stands = record { tells = ap is_some back.now ∙ stands.1.tells; stands = λ image now. stands.1.stands image (sym back.now ∙ now) }

  pub named_for : (own : List ℕ) (h : PartyDisk D) (x : Member) → StandsForMember told old own h x → x.party.own ≡ own
  named_for own (Open node) x stands = ap (λ (m : Member). m.party.own) (sym stands.1) ∙ stands.0.named
  named_for own (Closed disk) x stands = stands.0
  named_for own Away x stands = stands.0

  -- what a read gives of each member's disk stands for it
  pub stand_on_shelf : (open_parties : List (OpenParty D)) (members : List Member) → AllBack told old entry open_parties → StandForAll told old open_parties members → AreOnShelf entry members
  stand_on_shelf [] [] back stands = λ own x at. absurd (cc at)
  stand_on_shelf [] (y ∷ members) back stands = absurd stands
  stand_on_shelf (s ∷ open_parties) [] back stands = absurd stands
  stand_on_shelf (s ∷ open_parties) (y ∷ members) back stands = λ own x at. go own x (bytes_eq own (own_of y)) refl at (λ (found : member_at own members ≡ Some x). stand_on_shelf open_parties members back.1 stands.1 own x found)
    where
      here : (own : List ℕ) (x : Member) → own ≡ own_of y → y ≡ x → TellsAndReadsAs (entry own) x
      here own x mine same =
          subst (λ (m : Member). TellsAndReadsAs (entry own) m) same
          (subst (λ (name : List ℕ). TellsAndReadsAs (entry name) y) (sym (mine ∙ named_for s.own s.held y stands.0)) (back_reads s.own s.held y back.0 stands.0))

      go : (own : List ℕ) (x : Member) (t : Bool) → bytes_eq own (own_of y) ≡ t → member_at own (y ∷ members) ≡ Some x → (member_at own members ≡ Some x → TellsAndReadsAs (entry own) x) → TellsAndReadsAs (entry own) x
      go own x true is at rest =
          let there : Some y ≡ Some x = sym (cond_yes (bytes_eq own (own_of y)) (Some y) (member_at own members) is) ∙ at in
          let same : y ≡ x = cc there in
          here own x ((bytes_eq-Decides own (own_of y)).0 is) same
      go own x false is at rest = rest (sym (cond_not (bytes_eq own (own_of y)) (Some y) (member_at own members) is) ∙ at)
