-- What a party's image and a spool's stand for.
use Rattle.std.proofs.Common.{◌≡◌, ℕ, ◌-◌, List, Bool, true, false, Option, Some, None, is_some, refl, sym, ap, ◌∙◌, arith}
use Rattle.x_disk.specs.Disk.{View, Tells}
use Rattle.key_journal.specs.Journal.{is_blank}
use Rattle.party_state.specs.State.{Party}
use Rattle.change_code.specs.declared.format.Format.{Format}
use Rattle.journal_state.specs.States as journal
use Rattle.key_store.specs.Store.{Stored, IsStore, Stands, StandsAs}
use Rattle.member.specs.Member.{Member}
use Rattle.node_core.specs.Turns.{member_of, IsImageOf}
use Rattle.spool_store.specs.Contents.{Progress, Goes, HoldsPlans}

abbrev pub OneParty : Type 0
OneParty = (image : List ℕ) (first second : Party) → Stands image first → Stands image second → first ≡ second

abbrev pub OneFormat : Type 0
OneFormat = (image : List ℕ) (first second : Format) (party other : Party) → StandsAs image first party → StandsAs image second other → first ≡ second

abbrev pub OneProgress : Type 0
OneProgress = (image : List ℕ) (a b : Option Progress) → journal.StandsFor Goes None image a → journal.StandsFor Goes None image b → a ≡ b

abbrev pub NotBlank : Type 0
NotBlank = (image : List ℕ) (s : Option Progress) → journal.StandsFor Goes None image s → is_blank image ≡ false

pub tells_of : (v : View) (image : List ℕ) → v.now ≡ Some image → Tells v
tells_of v image now = ap is_some now

-- the image of a disk that tells
pub told_image : (now : Option (List ℕ)) → is_some now ≡ true → (image : List ℕ) × (now ≡ Some image)
told_image (Some image) is = (image, refl)
told_image None is = absurd (cc is)

pub differ : (b : Bool) → b ≡ true → b ≡ false → ⊥
differ b set clear = let both : true ≡ false = sym set ∙ clear in cc both

pub stands_of : (x : Member) (image : List ℕ) → IsImageOf x image → Stands image x.party
stands_of x image is = record { format = x.space.format; stands = record { bodies = is.bodies; holds = is.holds; fold = is.fold } }

pub same_progress : OneProgress → (image : List ℕ) (p q : Progress) → HoldsPlans image p → HoldsPlans image q → p ≡ q
same_progress one image p q first second = let both : Some p ≡ Some q = one image (Some p) (Some q) first second in cc both

module _ {D : Type 0} (told : D → View) (node : Stored D) (store : IsStore (told node.disk) node.gate node.end node.format node.party) (image : List ℕ) (now : (told node.disk).now ≡ Some image) where
  pub now_image : IsImageOf (member_of node) image
  now_image =
      let s = store.stands image now in
      let room = store.room s.bodies (record { image = image; now = now; holds = s.holds }) in
      record { bodies = s.bodies; holds = s.holds; fold = s.fold; left = omega (arith, room) }

  -- it stands for no other member
  pub same_member : OneParty → OneFormat → (y : Member) → IsImageOf y image → y ≡ member_of node
  same_member one_party one_format y is =
      let mine = store.stands image now in
      let theirs : StandsAs image y.space.format y.party = record { bodies = is.bodies; holds = is.holds; fold = is.fold } in
      let party : y.party ≡ node.party = one_party image y.party node.party (record { format = y.space.format; stands = theirs }) (record { format = node.format; stands = mine }) in
      let format : y.space.format ≡ node.format = one_format image y.space.format node.format y.party node.party theirs mine in
      let room_is = store.room is.bodies (record { image = image; now = now; holds = is.holds }) in
      let room : y.space.room ≡ node.end - node.gate = omega (arith, room_is, is.left) in
      ap (λ (p : Party). let m : Member = record { party = p; space = y.space } in m) party
      ∙ (ap (λ (f : Format). let m : Member = record { party = node.party; space = record { format = f; room = y.space.room } } in m) format
      ∙ ap (λ (r : ℕ). let m : Member = record { party = node.party; space = record { format = node.format; room = r } } in m) room)
