-- What the images of a party and of a spool at rest stand for.
use Rattle.std.proofs.Common.{◌≡◌, inl, inr, ℕ, ◌-◌, List, Option, Some, None, true, false, sym, ap, subst, ◌∙◌, arith}
use Rattle.x_disk.specs.Disk.{View, Tells, IsSound, LeavesOnly}
use Rattle.x_disk.proofs.Alike.{told_now}
use Rattle.key_journal.specs.Journal.{is_blank}
use Rattle.party_state.specs.State.{Party}
use Rattle.change_code.specs.declared.format.Format.{Format}
use Rattle.journal_state.specs.States as journal
use Rattle.key_store.specs.Store.{Stored, IsStore, Stands, StandsAs}
use Rattle.member.specs.Member.{Member}
use Rattle.node_core.specs.Turns.{member_of, IsImageOf}
use Rattle.spool_store.specs.declared.entry_plan.EntryPlan.{EntryPlan}
use Rattle.spool_store.specs.Contents.{Progress, Goes, HoldsPlans}
use Rattle.csm_spool.specs.InStep.{InStep, IsAt, PairsInStep}
use Rattle.spool_store.specs.Spools.{Spooled, IsSpool}

-- what a run of calls leaves, it may leave at its end
pub left_now : (old new : View) (P : List ℕ → Type 0) → IsSound new → LeavesOnly old new P → (c : List ℕ) → new.may_leave c → P c
left_now old new P sound run c left = run.each c (sound.counts_now old.moment c run.later left)

pub now_image : {D : Type 0} (told : D → View) (node : Stored D) → IsStore (told node.disk) node.gate node.end node.format node.party → (image : List ℕ) → (told node.disk).now ≡ Some image → IsImageOf (member_of node) image
now_image told node store image now =
    let s = store.stands image now in
    let room = store.room s.bodies (record { image = image; now = now; holds = s.holds }) in
    record { bodies = s.bodies; holds = s.holds; fold = s.fold; left = omega (arith, room) }

pub party_images : {D : Type 0} (told : D → View) (node : Stored D) → IsStore (told node.disk) node.gate node.end node.format node.party → Tells (told node.disk) → (c : List ℕ) → (told node.disk).may_leave c → IsImageOf (member_of node) c
party_images told node store tells c left =
    let now = told_now (told node.disk).now tells in
    subst (IsImageOf (member_of node)) (sym (store.durable.only now.0 c now.1 left)) (now_image told node store now.0 now.1)

pub spool_images : (v : View) (gate end : ℕ) (p : Progress) → IsSpool v gate end p → Tells v → (c : List ℕ) → v.may_leave c → HoldsPlans c p
spool_images v gate end p is tells c left =
    let now = told_now v.now tells in
    subst (λ (i : List ℕ). HoldsPlans i p) (sym (is.standing.durable.only now.0 c now.1 left)) (is.standing.stands now.0 now.1)

abbrev pub OneParty : Type 0
OneParty = (image : List ℕ) (first second : Party) → Stands image first → Stands image second → first ≡ second

abbrev pub OneFormat : Type 0
OneFormat = (image : List ℕ) (first second : Format) (party other : Party) → StandsAs image first party → StandsAs image second other → first ≡ second

abbrev pub OneProgress : Type 0
OneProgress = (image : List ℕ) (a b : Option Progress) → journal.StandsFor Goes None image a → journal.StandsFor Goes None image b → a ≡ b

abbrev pub NotBlank : Type 0
NotBlank = (image : List ℕ) (s : Option Progress) → journal.StandsFor Goes None image s → is_blank image ≡ false

-- the image that a read gives stands for no other member
same_member : OneParty → OneFormat → {D : Type 0} (told : D → View) (node : Stored D) → IsStore (told node.disk) node.gate node.end node.format node.party → (image : List ℕ) → (told node.disk).now ≡ Some image → (y : Member) → IsImageOf y image → y ≡ member_of node
same_member one_party one_format told node store image now y is =
    let mine = store.stands image now in
    let theirs : StandsAs image y.space.format y.party = record { bodies = is.bodies; holds = is.holds; fold = is.fold } in
    let party : y.party ≡ node.party = one_party image y.party node.party (record { format = y.space.format; stands = theirs }) (record { format = node.format; stands = mine }) in
    let format : y.space.format ≡ node.format = one_format image y.space.format node.format y.party node.party theirs mine in
    let room_is = store.room is.bodies (record { image = image; now = now; holds = is.holds }) in
    let room : y.space.room ≡ node.end - node.gate = omega (arith, room_is, is.left) in
    ap (λ (p : Party). let m : Member = record { party = p; space = y.space } in m) party
    ∙ (ap (λ (f : Format). let m : Member = record { party = node.party; space = record { format = f; room = y.space.room } } in m) format
    ∙ ap (λ (r : ℕ). let m : Member = record { party = node.party; space = record { format = node.format; room = r } } in m) room)

-- where each pair of images is in step, the party stands behind the plans, or before the last of them
module _ (one_party : OneParty) (one_format : OneFormat) (one_progress : OneProgress) (not_blank : NotBlank) {D E : Type 0} (told : D → View) (told_spool : E → View) (node : Stored D) (old : Spooled E)
    (store : IsStore (told node.disk) node.gate node.end node.format node.party) (kept : IsSpool (told_spool old.disk) old.gate old.end old.progress)
    (party_sound : IsSound (told node.disk)) (spool_sound : IsSound (told_spool old.disk)) (x : Member) where
  of_pair : (i j : List ℕ) → (told node.disk).now ≡ Some i → (told_spool old.disk).now ≡ Some j → InStep i j old.progress.text x old.progress.entries → IsAt x old.progress.entries old.progress.plans (member_of node)
  of_pair i j i_now j_now (inl (blank, stands)) = let never : true ≡ false = sym blank ∙ not_blank j (Some old.progress) (kept.standing.stands j j_now) in absurd (cc never)
  of_pair i j i_now j_now (inr u) =
      let theirs : Progress = record { text = old.progress.text; entries = old.progress.entries; plans = u.plans } in
      let both : Some theirs ≡ Some old.progress = one_progress j (Some theirs) (Some old.progress) u.holds (kept.standing.stands j j_now) in
      let same : theirs ≡ old.progress = cc both in
      let plans : u.plans ≡ old.progress.plans = ap (λ (p : Progress). p.plans) same in
      let member : u.member ≡ member_of node = same_member one_party one_format told node store i i_now u.member u.stands in
      subst (λ (m : Member). IsAt x old.progress.entries old.progress.plans m) member (subst (λ (ps : List EntryPlan). IsAt x old.progress.entries ps u.member) plans u.is_at)

  pub starts_at : Tells (told node.disk) → Tells (told_spool old.disk) → PairsInStep (told node.disk) (told_spool old.disk) old.progress.text x old.progress.entries → IsAt x old.progress.entries old.progress.plans (member_of node)
  starts_at party_tells spool_tells pairs =
      let i = told_now (told node.disk).now party_tells in
      let j = told_now (told_spool old.disk).now spool_tells in
      of_pair i.0 j.0 i.1 j.1 (pairs i.0 j.0 (party_sound.now_among i.0 i.1) (spool_sound.now_among j.0 j.1))
