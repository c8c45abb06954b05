-- The disks of a network that is set up, from call to call.
use Rattle.std.proofs.Common.{arith, ◌≡◌, ◌≢◌, ◌+◌, ℕ, inl, inr, suc, true, false, Option, Some, None, List, [], ◌∷◌, length, refl, sym, ◌∙◌, ap, subst, bytes_eq}
use Rattle.std.specs.Prelude.{is_some}
use Rattle.std.proofs.lemmas.List.Elements.{Contains-append_right}
use Rattle.x_base.specs.declared.party.Role.{Role}
use Rattle.x_disk.specs.Disk.{View, Tells}
use Rattle.x_disk.specs.Shelf.{IsAlike}
use Rattle.x_gen.specs.declared.generator.Gen.{Gen}
use Rattle.party_tables.proofs.Tables.{find_key, one_found}
use Rattle.party_tables.proofs.Keys.{test_idents}
use Rattle.key_journal.specs.Journal.{is_blank}
use Rattle.party_state.specs.declared.decision.Decision.{Decision}
use Rattle.party_state.specs.declared.edit.Edit.{Edit}
use Rattle.party_state.specs.State.{Party, apply, link_with}
use Rattle.change_code.specs.Cost.{space_after}
use Rattle.change_code.specs.declared.space.Space.{Space}
use Rattle.key_store.specs.Store.{Stands, StandsWith}
use Rattle.member.specs.Member.{Member}
use Rattle.x_party.specs.Images.{DiskStandsFor}
use Rattle.x_party.proofs.Alike.{stands_alike}
use Rattle.x_party.specs.Outcomes.{IsAccepted}
use Rattle.member.specs.Deciding.{decision}
use Rattle.world_laws.specs.World.{own_of, member_at}
use Rattle.world_laws.proofs.Lists.Among.{first_in}
use Rattle.call_laws.specs.Sessions.{AllOff, IsOff}
use Rattle.call_laws.specs.SetUp.{End, SetUp, Creates, Loads, LosesPower, link_at, first_member, with_link, load_into, members_after, members_by, names_in}
use Rattle.call_laws.specs.SettingUp.{IsCreating, IsLoading, IsSetUp, AreSetUp, AllTell}
use Rattle.call_laws.proofs.Loads.{LoadsExactly, DecidesLoad, loading, loads_decide}
use Rattle.call_laws.proofs.Members.{names_differ, put_cases}

-- the disks tell, and stand for these members
abbrev pub AreOn : List Member → (List ℕ → View) → Type 0
AreOn ms disks = (name : List ℕ) (x : Member) → member_at name ms ≡ Some x → Tells (disks name) × DiskStandsFor (disks name) x.party x.space

-- a party is created where none of its name was, and an end is loaded where its link doesn't stand
pub record IsFree (ms : List Member) (e : End) : Type 0 where
  pub member : Member
  pub at : member_at e.own ms ≡ Some member
  pub free : link_with e.key member.party ≡ None

abbrev pub IsNew : List Member → SetUp → Type 0
IsNew ms (Creates own role generator) = member_at own ms ≡ None
IsNew ms (Loads e moment) = IsFree ms e
IsNew ms LosesPower = Unit {0}

abbrev pub AreNew : List Member → List SetUp → Type 0
AreNew ms [] = Unit {0}
AreNew ms (s ∷ ss) = IsNew ms s × AreNew (members_after s ms) ss

pub tells_now : (v : View) → Tells v → (image : List ℕ) × (v.now ≡ Some image)
tells_now v t = go v.now t
  where
    go : (o : Option (List ℕ)) → is_some o ≡ true → (image : List ℕ) × (o ≡ Some image)
    go None h = absurd (cc)
    go (Some image) h = (image, refl)

alike_tells : (v w : View) → IsAlike v w → Tells v → Tells w
alike_tells v w a t = ap is_some a.now ∙ t

-- what a disk stands for once the power has failed
off_stands : (v w : View) (p : Party) (space : Space) → IsOff v.may_leave w → Tells v → DiskStandsFor v p space → DiskStandsFor w p space
off_stands v w p space off t s =
    let now = tells_now v t in
    let is : off.image ≡ now.0 = s.durable.only now.0 off.image now.1 off.left in
    record {
      durable = off.durable;
      reads = λ image reads.
          let same : image ≡ now.0 = one_found image off.image reads off.reads ∙ is in
          subst (λ (b : List ℕ). StandsWith b p space) (sym same) (s.reads now.0 now.1);
    }

stands_so : (image : List ℕ) (p : Party) (space : Space) → StandsWith image p space → Stands image p
stands_so image p space s = record { format = space.format; stands = record { bodies = s.bodies; holds = s.holds; fold = s.fold } }

module _ (exactly : LoadsExactly)
    (one_space : (image : List ℕ) (first second : Party) (s t : Space) → StandsWith image first s → StandsWith image second t → (first ≡ second) × (s ≡ t))
    (not_blank : (image : List ℕ) (party : Party) → Stands image party → is_blank image ≡ false) where
  -- ---- a party is created

  module _ (ms : List Member) (old new : List ℕ → View) (on : AreOn ms old) (own : List ℕ) (role : Role) (generator : Gen) (is : IsCreating own role generator old new) where
    created_new : Tells (old own) → member_at own ms ≡ None
    created_new tells = go (member_at own ms) refl
      where
        now : (image : List ℕ) × ((old own).now ≡ Some image)
        now = tells_now (old own) tells

        go : (o : Option Member) → member_at own ms ≡ o → o ≡ None
        go None e = refl
        go (Some x) e =
            let stood : Stands now.0 x.party = stands_so now.0 x.party x.space ((on own x e).1.reads now.0 now.1) in
            let not : is_blank now.0 ≡ false = not_blank now.0 x.party stood in
            let blank : is_blank now.0 ≡ true = is.made.blank now.0 now.1 in
            absurd (cc (not, blank))

    created_on : Tells (old own) → AreOn (members_after (Creates own role generator) ms) new
    created_on tells name x at = elim (put_cases (first_member own role generator) ms name x at) [
      | inl here ↦ subst (λ (q : List ℕ). Tells (new q) × DiskStandsFor (new q) x.party x.space) (sym here.0)
          (is.tells ∙ tells, subst (λ (z : Member). DiskStandsFor (new own) z.party z.space) (sym here.1) is.made.stands)
      | inr there ↦ (alike_tells (old name) (new name) (is.others name there.0) (on name x there.1).0, stands_alike (old name) (new name) x.party x.space (on name x there.1).1 (is.others name there.0))
    ]

    created_tells : (names : List (List ℕ)) → AllTell (own ∷ names) old → AllTell names new
    created_tells names tell name stands = elim (names_differ name own) [
      | inl here ↦ subst (λ (q : List ℕ). Tells (new q)) (sym here) (is.tells ∙ tell own (first_in own names))
      | inr there ↦ alike_tells (old name) (new name) (is.others name there) (tell name (Contains-append_right (own ∷ []) names name stands))
    ]

  -- ---- an end is loaded

  module _ (ms : List Member) (old new : List ℕ → View) (on : AreOn ms old) (e : End) (moment : ℕ) (is : IsLoading ms e moment old new) where
    abbrev x : Member
    x = is.member

    abbrev d : Decision
    d = decision x.party (loading e) moment

    tells : Tells (old e.own)
    tells = (on e.own x is.at).0

    now : (image : List ℕ) × ((old e.own).now ≡ Some image)
    now = tells_now (old e.own) tells

    stood : StandsWith now.0 x.party x.space
    stood = (on e.own x is.at).1.reads now.0 now.1

    accepted : IsAccepted (old e.own) (new e.own) d x.party x.space is.reply
    accepted =
        let o = is.made in
        let one : (o.party ≡ x.party) × (o.space ≡ x.space) = one_space now.0 o.party x.party o.space x.space (o.reads now.0 now.1) stood in
        subst (λ (t : Space). IsAccepted (old e.own) (new e.own) d x.party t is.reply) one.1
        (subst (λ (p : Party). IsAccepted (old e.own) (new e.own) (decision p (loading e) moment) p o.space is.reply) one.0 o.holds)

    decided : DecidesLoad x.party e d
    decided = loads_decide exactly x.party e moment accepted.accepts

    pub loaded_free : IsFree ms e
    loaded_free = record { member = x; at = is.at; free = decided.free }

    own_is : e.own ≡ x.party.own
    own_is = find_key own_of bytes_eq test_idents e.own x ms is.at

    stands_new : DiskStandsFor (new e.own) (with_link x (link_at e)).party (with_link x (link_at e)).space
    stands_new = subst (λ (es : List Edit). DiskStandsFor (new e.own) (apply es x.party) (space_after x.space es)) decided.change accepted.stands

    members_are : members_after (Loads e moment) ms ≡ load_into (Some x) (link_at e) ms
    members_are = ap (λ (o : Option Member). load_into o (link_at e) ms) is.at

    pub loaded_on : AreOn (members_after (Loads e moment) ms) new
    loaded_on = subst (λ (zs : List Member). AreOn zs new) (sym members_are) (λ name z at. elim (put_cases (with_link x (link_at e)) ms name z at) [
      | inl here ↦ subst (λ (q : List ℕ). Tells (new q) × DiskStandsFor (new q) z.party z.space) (own_is ∙ sym here.0)
          (is.tells ∙ tells, subst (λ (y : Member). DiskStandsFor (new e.own) y.party y.space) (sym here.1) stands_new)
      | inr there ↦ (let ne : name ≢ e.own = λ same. there.0 (same ∙ own_is) in
          (alike_tells (old name) (new name) (is.others name ne) (on name z there.1).0, stands_alike (old name) (new name) z.party z.space (on name z there.1).1 (is.others name ne)))
    ])

    pub loaded_tells : (names : List (List ℕ)) → AllTell names old → AllTell names new
    loaded_tells names tell name stands = elim (names_differ name e.own) [
      | inl here ↦ subst (λ (q : List ℕ). Tells (new q)) (sym here) (is.tells ∙ tells)
      | inr there ↦ alike_tells (old name) (new name) (is.others name there) (tell name stands)
    ]

  -- ---- the power fails

  off_on : (ms : List Member) (old new : List ℕ → View) → AreOn ms old → AllOff old new → AreOn ms new
  off_on ms old new on off name x at = (ap is_some (off name).reads, off_stands (old name) (new name) x.party x.space (off name) (on name x at).0 (on name x at).1)

  -- ---- call by call

  step_new : (ms : List Member) (s : SetUp) (ss : List SetUp) (old new : List ℕ → View) → AreOn ms old → AllTell (names_in (s ∷ ss)) old → IsSetUp ms s old new → IsNew ms s
  step_new ms (Creates own role generator) ss old new on tell is = created_new ms old new on own role generator is (tell own (first_in own (names_in ss)))
  step_new ms (Loads e moment) ss old new on tell is = loaded_free ms old new on e moment is
  step_new ms LosesPower ss old new on tell is = tt

  step_on : (ms : List Member) (s : SetUp) (ss : List SetUp) (old new : List ℕ → View) → AreOn ms old → AllTell (names_in (s ∷ ss)) old → IsSetUp ms s old new → AreOn (members_after s ms) new × AllTell (names_in ss) new
  step_on ms (Creates own role generator) ss old new on tell is = (created_on ms old new on own role generator is (tell own (first_in own (names_in ss))), created_tells ms old new on own role generator is (names_in ss) tell)
  step_on ms (Loads e moment) ss old new on tell is = (loaded_on ms old new on e moment is, loaded_tells ms old new on e moment is (names_in ss) tell)
  step_on ms LosesPower ss old new on tell is = (off_on ms old new on is, λ name stands. ap is_some (is name).reads)

  are_new : (ms : List Member) (ss : List SetUp) (k : ℕ) (disks : ℕ → List ℕ → View) → AreOn ms (disks k) → AllTell (names_in ss) (disks k) → AreSetUp ms ss k disks → AreNew ms ss
  are_new ms [] k disks on tell is = tt
  are_new ms (s ∷ ss) k disks on tell is =
      let next = step_on ms s ss (disks k) (disks (suc k)) on tell is.0 in
      (step_new ms s ss (disks k) (disks (suc k)) on tell is.0, are_new (members_after s ms) ss (suc k) disks next.0 next.1 is.1)

  are_on : (ms : List Member) (ss : List SetUp) (k : ℕ) (disks : ℕ → List ℕ → View) → AreOn ms (disks k) → AllTell (names_in ss) (disks k) → AreSetUp ms ss k disks → AreOn (members_by ss ms) (disks (k + length ss))
  are_on ms [] k disks on tell is = (let end : k + 0 ≡ k = omega arith in subst (λ (n : ℕ). AreOn ms (disks n)) (sym end) on)
  are_on ms (s ∷ ss) k disks on tell is =
      let next = step_on ms s ss (disks k) (disks (suc k)) on tell is.0 in
      let place : suc k + length ss ≡ k + length (s ∷ ss) = omega arith in
      subst (λ (n : ℕ). AreOn (members_by ss (members_after s ms)) (disks n)) place (are_on (members_after s ms) ss (suc k) disks next.0 next.1 is.1)

  -- ---- from nothing

  nobody_on : (disks : List ℕ → View) → AreOn [] disks
  nobody_on disks name x at = absurd (cc (at))

  pub all_new : (ss : List SetUp) (disks : ℕ → List ℕ → View) → AllTell (names_in ss) (disks 0) → AreSetUp [] ss 0 disks → AreNew [] ss
  all_new ss disks tell is = are_new [] ss 0 disks (nobody_on (disks 0)) tell is

  pub all_on : (ss : List SetUp) (disks : ℕ → List ℕ → View) → AllTell (names_in ss) (disks 0) → AreSetUp [] ss 0 disks → AreOn (members_by ss []) (disks (length ss))
  all_on ss disks tell is =
      let place : 0 + length ss ≡ length ss = omega arith in
      subst (λ (n : ℕ). AreOn (members_by ss []) (disks n)) place (are_on [] ss 0 disks (nobody_on (disks 0)) tell is)
