-- What a crash leaves of the disks once they are back on the shelf.
use Rattle.std.proofs.Common.{◌≡◌, ℕ, Bool, true, false, List, [], ◌∷◌, Some, bytes_eq, refl, sym, ◌∙◌, subst}
use Rattle.std.proofs.lemmas.Slice.Eq.{bytes_eq-Decides}
use Rattle.x_disk.specs.Disk.{View, IsDurable}
use Rattle.key_store.specs.Store.{Stored}
use Rattle.member.specs.Member.{Member}
use Rattle.world_laws.specs.World.{own_of, member_at}
use Rattle.node_core.specs.Turns.{member_of, IsImageOf}
use Rattle.replay.specs.Breaking.{AreDurable, TellsAndReadsAs, StandsForMember, StandForAll}
use Rattle.open_parties.specs.Closing.{IsBack, AllBack}
use Rattle.open_parties.specs.Crash.{held_of}
use Rattle.open_parties.specs.OpenParties.{members, with_held, IsIn, AreIn, IsOpen, AreOpen}
use Rattle.open_parties.specs.declared.open_party.OpenParty.{OpenParty}
use Rattle.open_parties.specs.declared.open_party.PartyDisk.{PartyDisk}
use Rattle.open_parties.specs.declared.open_party.PartyDisk.TheVariants.{Open, Closed, Away}
use Rattle.x_disk.proofs.Alike.{durable_alike, told_now}
use Rattle.open_parties.proofs.Images.{image_of}
use Rattle.open_parties.proofs.Members.{cond_yes, cond_not}
use Rattle.replay.proofs.Standing.{named_for}

-- each image stands for the member as what a read gives does
pub durable_image : (v : View) (x : Member) → TellsAndReadsAs v x → IsDurable v → (image : List ℕ) → v.may_leave image → IsImageOf x image
durable_image v x reads durable image may =
    let here = told_now v.now reads.tells in
    subst (IsImageOf x) (sym (durable.only here.0 image here.1 may)) (reads.stands here.0 here.1)

-- ---- where the parties are held

module _ {D : Type 0} (told : D → View) where
  durable_first : (old entry : List ℕ → View) (mine : List ℕ) (node : Stored D) (ms : List Member) → IsBack told old entry mine (Open node) → node.party.own ≡ mine → AreDurable entry ms
      → (own : List ℕ) (x : Member) (t : Bool) → bytes_eq own node.party.own ≡ t → member_at own (member_of node ∷ ms) ≡ Some x → IsDurable (entry own)
  durable_first old entry mine node ms back named rest own x true is at =
      subst (λ (name : List ℕ). IsDurable (entry name)) (sym ((bytes_eq-Decides own node.party.own).0 is ∙ named)) (durable_alike (told node.disk) (entry mine) back.1.durable back.0)
  durable_first old entry mine node ms back named rest own x false is at = rest own x (sym (cond_not (bytes_eq own node.party.own) (Some (member_of node)) (member_at own ms) is) ∙ at)

  durable_more : (old entry : List ℕ → View) (mine : List ℕ) (h : PartyDisk D) (ms : List Member) → IsBack told old entry mine h → IsIn true told mine h → AreDurable entry ms → AreDurable entry (with_held h ms)
  durable_more old entry mine (Open node) ms back is rest = λ own x at. durable_first old entry mine node ms back is.named rest own x (bytes_eq own node.party.own) refl at
  durable_more old entry mine (Closed disk) ms back is rest = absurd is
  durable_more old entry mine Away ms back is rest = absurd is

  pub durable_back : (old entry : List ℕ → View) (open_parties : List (OpenParty D)) → AllBack told old entry open_parties → AreIn true told open_parties → AreDurable entry (members open_parties)
  durable_back old entry [] back all = λ own x at. absurd (cc at)
  durable_back old entry (s ∷ open_parties) back all = durable_more old entry s.own s.held (members open_parties) back.0 all.0 (durable_back old entry open_parties back.1 all.1)

-- ---- where some stand for members behind an event that broke off

turned : (own a b : List ℕ) → a ≡ b → bytes_eq own a ≡ bytes_eq b own
turned own a b is = go (bytes_eq own a) (bytes_eq b own) refl refl
  where
    go : (t u : Bool) → bytes_eq own a ≡ t → bytes_eq b own ≡ u → bytes_eq own a ≡ bytes_eq b own
    go true u here there = here ∙ sym ((bytes_eq-Decides b own).1 (sym ((bytes_eq-Decides own a).0 here ∙ is)))
    go false true here there = (bytes_eq-Decides own a).1 (sym (is ∙ (bytes_eq-Decides b own).0 there)) ∙ sym there
    go false false here there = here ∙ sym there

module _ {D : Type 0} (told : D → View) (old entry : List ℕ → View) where
  durable_at : (own : List ℕ) (h : PartyDisk D) → IsOpen h → IsBack told old entry own h → IsDurable (entry own)
  durable_at own (Open node) all_in back = durable_alike (told node.disk) (entry own) back.1.durable back.0
  durable_at own (Closed disk) all_in back = absurd all_in
  durable_at own Away all_in back = absurd all_in

  pub durable_open : (open_parties : List (OpenParty D)) (members : List Member) → AreOpen open_parties → AllBack told old entry open_parties → StandForAll told old open_parties members → AreDurable entry members
  durable_open [] [] all_in back stands = λ own x at. absurd (cc at)
  durable_open [] (y ∷ members) all_in back stands = absurd stands
  durable_open (s ∷ open_parties) [] all_in back stands = absurd stands
  durable_open (s ∷ open_parties) (y ∷ members) all_in back stands = λ own x at.
      go own x (bytes_eq own (own_of y)) refl at (λ (found : member_at own members ≡ Some x). durable_open open_parties members all_in.1 back.1 stands.1 own x found)
    where
      go : (own : List ℕ) (x : Member) (t : Bool) → bytes_eq own (own_of y) ≡ t → member_at own (y ∷ members) ≡ Some x → (member_at own members ≡ Some x → IsDurable (entry own)) → IsDurable (entry own)
      go own x true is at rest =
          subst (λ (name : List ℕ). IsDurable (entry name)) (sym ((bytes_eq-Decides own (own_of y)).0 is ∙ named_for told old entry s.own s.held y stands.0)) (durable_at s.own s.held all_in.0 back.0)
      go own x false is at rest = rest (sym (cond_not (bytes_eq own (own_of y)) (Some y) (member_at own members) is) ∙ at)

  -- each image of an open disk stands for its member
  image_open : (own : List ℕ) (node : Stored D) (y : Member) → IsBack told old entry own (Open node) → StandsForMember told old own (Open node) y → (image : List ℕ) → (entry own).may_leave image → IsImageOf y image
  image_open own node y back stands image may =
      let here = told_now (told node.disk).now (stands.0.tells refl) in
      let same = back.1.durable.only here.0 image here.1 (back.0.images image may) in
      subst (λ (m : Member). IsImageOf m image) stands.1
      (subst (IsImageOf (member_of node)) (sym same) (image_of (told node.disk) node.gate node.end node.format node.party back.1 here.0 here.1))

  pub images_open : (open_parties : List (OpenParty D)) (members : List Member) → AllBack told old entry open_parties → StandForAll told old open_parties members → (own : List ℕ) (node : Stored D) → held_of open_parties own ≡ Open node
      → (image : List ℕ) → (entry own).may_leave image → (y : Member) × (member_at own members ≡ Some y) × IsImageOf y image
  images_open [] members back stands own node is image may = absurd (cc is)
  images_open (s ∷ open_parties) [] back stands own node is image may = absurd stands
  images_open (s ∷ open_parties) (y ∷ members) back stands own node is image may =
      go (bytes_eq s.own own) refl (λ (there : held_of open_parties own ≡ Open node). images_open open_parties members back.1 stands.1 own node there image may)
    where
      front_is : bytes_eq own (own_of y) ≡ bytes_eq s.own own
      front_is = turned own (own_of y) s.own (named_for told old entry s.own s.held y stands.0)

      stands_here : (h : PartyDisk D) → s.own ≡ own → h ≡ Open node → IsBack told old entry s.own h → StandsForMember told old s.own h y → IsImageOf y image
      stands_here (Open m) mine one b st = image_open s.own m y b st image (subst (λ (name : List ℕ). (entry name).may_leave image) (sym mine) may)
      stands_here (Closed disk) mine one b st = absurd (cc one)
      stands_here Away mine one b st = absurd (cc one)

      go : (t : Bool) → bytes_eq s.own own ≡ t → (held_of open_parties own ≡ Open node → (z : Member) × (member_at own members ≡ Some z) × IsImageOf z image) → (z : Member) × (member_at own (y ∷ members) ≡ Some z) × IsImageOf z image
      go true same rest = (
        y,
        cond_yes (bytes_eq own (own_of y)) (Some y) (member_at own members) (front_is ∙ same),
        stands_here s.held ((bytes_eq-Decides s.own own).0 same) (sym (cond_yes (bytes_eq s.own own) s.held (held_of open_parties own) same) ∙ is) back.0 stands.0,
      )
      go false other rest =
          let more = rest (sym (cond_not (bytes_eq s.own own) s.held (held_of open_parties own) other) ∙ is) in
          (more.0, cond_not (bytes_eq own (own_of y)) (Some y) (member_at own members) (front_is ∙ other) ∙ more.1, more.2)
