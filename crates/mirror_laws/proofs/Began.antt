-- The one disk or two of each party of a network that is set up, from call to call.
use Rattle.std.proofs.Common.{arith, ◌≡◌, ◌≢◌, ◌+◌, ℕ, inl, inr, suc, Bool, true, false, cond, Option, Some, None, List, [], ◌∷◌, length, refl, sym, ◌∙◌, ap, subst, bytes_eq, Contains}
use Rattle.std.specs.Prelude.{is_some}
use Rattle.std.proofs.lemmas.List.Elements.{Contains-append_cases, Contains-append_right}
use Rattle.x_base.specs.declared.party.Role.{Role}
use Rattle.x_base.specs.declared.verdict.Verdict.TheVariants.{Accept}
use Rattle.x_disk.specs.Disk.{View, Tells, IsDurable}
use Rattle.x_disk.specs.Shelf.{IsAlike}
use Rattle.x_gen.specs.declared.generator.Gen.{Gen}
use Rattle.party_tables.specs.Tables.{put_row}
use Rattle.party_tables.proofs.Keys.{test_idents}
use Rattle.party_tables.proofs.Tables.{find_key}
use Rattle.party_state.specs.declared.decision.Decision.{Decision}
use Rattle.party_state.specs.declared.decision.Lead.{Lead}
use Rattle.change_code.specs.Cost.{fits}
use Rattle.key_store.specs.Store.{StandsWith}
use Rattle.member.specs.Deciding.{decision}
use Rattle.member.specs.Leads.{lead_in}
use Rattle.member.specs.Member.{Member, plan_at, as_decided, as_full, after}
use Rattle.mirror_store.specs.Opening.{HasFirstSpace}
use Rattle.mirror_store.specs.Turns.{fits_frame}
use Rattle.x_party.specs.Images.{DiskStandsFor}
use Rattle.x_party.specs.declared.outcome.Outcome.TheVariants as outcome
use Rattle.x_pair.specs.Outcomes.{OfOpened, turning}
use Rattle.world_laws.specs.World.{World, own_of, member_at}
use Rattle.world_laws.proofs.Lists.Among.{first_in, of_one}
use Rattle.call_laws.specs.Sessions.{IsOff, AllOff}
use Rattle.call_laws.specs.SetUp.{End, SetUp, Creates, Loads, LosesPower, link_at, first_member, with_link, load_into, members_after, members_by, name_in, names_in}
use Rattle.call_laws.specs.SettingUp.{IsLoading}
use Rattle.call_laws.proofs.Disks.{AreOn, IsNew, AreNew, IsFree, loaded_free, loaded_on}
use Rattle.call_laws.proofs.Loads.{LoadsExactly, DecidesLoad, loading, loads_decide}
use Rattle.call_laws.proofs.Members.{names_differ, put_here, put_there, put_cases}
use Rattle.mirror_laws.specs.Sessions.{HaveOwnDisks, StandsOnBoth, StandsOnOwn, AllButOwnStay}
use Rattle.mirror_laws.specs.SettingUp.{IsPairLoading, IsCreatingOn, IsLoadingOn, IsSetUpOn, AreSetUpOn, TellsOnOwn, AllTellOnOwn}
use Rattle.mirror_laws.proofs.Images.{Known, told, stands_so, never_blank}
use Rattle.mirror_laws.proofs.OwnDisks.{but_own}

-- ---- members that are there stay

-- who is found among these members
abbrev pub IsThere : List ℕ → List Member → Type 0
IsThere name ms = (x : Member) × (member_at name ms ≡ Some x)

put_stays : (y : Member) (ms : List Member) (name : List ℕ) → IsThere name ms → IsThere name (put_row own_of bytes_eq y ms)
put_stays y ms name there = elim (names_differ name y.party.own) [
  | inl is ↦ (y, put_here y ms name is)
  | inr ne ↦ (there.0, put_there y ms name ne ∙ there.1)
]

load_stays : (o : Option Member) (e : End) (ms : List Member) (name : List ℕ) → IsThere name ms → IsThere name (load_into o (link_at e) ms)
load_stays None e ms name there = there
load_stays (Some x) e ms name there = put_stays (with_link x (link_at e)) ms name there

step_stays : (ms : List Member) (s : SetUp) (name : List ℕ) → IsThere name ms → IsThere name (members_after s ms)
step_stays ms (Creates own role generator) name there = put_stays (first_member own role generator) ms name there
step_stays ms (Loads e moment) name there = load_stays (member_at e.own ms) e ms name there
step_stays ms LosesPower name there = there

all_stay : (ms : List Member) (ss : List SetUp) (name : List ℕ) → IsThere name ms → IsThere name (members_by ss ms)
all_stay ms [] name there = there
all_stay ms (s ∷ ss) name there = all_stay (members_after s ms) ss name (step_stays ms s name there)

step_there : (ms : List Member) (s : SetUp) (name : List ℕ) → Contains (name_in s) name → IsThere name (members_after s ms)
step_there ms (Creates own role generator) name among = (first_member own role generator, put_here (first_member own role generator) ms name (sym (of_one own name among)))
step_there ms (Loads e moment) name among = absurd (omega (arith, among.1))
step_there ms LosesPower name among = absurd (omega (arith, among.1))

all_there : (ms : List Member) (ss : List SetUp) (name : List ℕ) → Contains (names_in ss) name → IsThere name (members_by ss ms)
all_there ms [] name among = absurd (omega (arith, among.1))
all_there ms (s ∷ ss) name among = elim (Contains-append_cases (name_in s) (names_in ss) name among) [
  | inl here ↦ all_stay (members_after s ms) ss name (step_there ms s name here)
  | inr later ↦ all_there (members_after s ms) ss name later
]

-- ---- disks that stand for a member

still_durable : (v w : View) → IsAlike v w → IsDurable v → IsDurable w
still_durable v w alike d = record { only = λ b c now left. d.only b c (sym alike.now ∙ now) (alike.images c left); stable = alike.stable ∙ (d.stable ∙ sym alike.now) }

-- where a disk tells the same
alike_one : (v w : View) (x : Member) → IsAlike v w → Tells v × DiskStandsFor v x.party x.space → Tells w × DiskStandsFor w x.party x.space
alike_one v w x a s = (ap is_some a.now ∙ s.0, record { durable = still_durable v w a s.1.durable; reads = λ image now. s.1.reads image (sym a.now ∙ now) })

-- where two do
alike_both : (v w v2 w2 : View) (x : Member) → IsAlike v v2 → IsAlike w w2 → StandsOnBoth v w x → StandsOnBoth v2 w2 x
alike_both v w v2 w2 x a b s =
    let first = alike_one v v2 x a (s.first_tells, s.stand.on_first) in
    record {
      first_tells = first.0;
      second_tells = ap is_some b.now ∙ s.second_tells;
      stand = record { on_first = first.1; durable = still_durable w w2 b s.stand.durable; on_second = λ image now. s.stand.on_second image (sym b.now ∙ now) };
    }

-- what a disk from which nothing else could be left reads once the power has failed
off_reads : (v w : View) → Tells v → IsDurable v → IsOff v.may_leave w → w.now ≡ v.now
off_reads v w tells durable off =
    let now = told v tells in
    off.reads ∙ (ap (λ (b : List ℕ). Some b) (durable.only now.0 off.image now.1 off.left) ∙ sym now.1)

off_one : (v w : View) (x : Member) → IsOff v.may_leave w → Tells v × DiskStandsFor v x.party x.space → Tells w × DiskStandsFor w x.party x.space
off_one v w x off s =
    let same = off_reads v w s.0 s.1.durable off in
    (ap is_some off.reads, record { durable = off.durable; reads = λ image now. s.1.reads image (sym same ∙ now) })

off_both : (v w v2 w2 : View) (x : Member) → IsOff v.may_leave v2 → IsOff w.may_leave w2 → StandsOnBoth v w x → StandsOnBoth v2 w2 x
off_both v w v2 w2 x a b s =
    let first = off_one v v2 x a (s.first_tells, s.stand.on_first) in
    let second = off_reads w w2 s.second_tells s.stand.durable b in
    record {
      first_tells = first.0;
      second_tells = ap is_some b.reads;
      stand = record { on_first = first.1; durable = b.durable; on_second = λ image now. s.stand.on_second image (sym second ∙ now) };
    }

off_own : (m : Option (List ℕ)) (name : List ℕ) (old new : List ℕ → View) (x : Member) → AllOff old new → StandsOnOwn m name old x → StandsOnOwn m name new x
off_own None name old new x off s = off_one (old name) (new name) x (off name) s
off_own (Some second) name old new x off s = off_both (old name) (old second) (new name) (new second) x (off name) (off second) s

off_tells : (m : Option (List ℕ)) (name : List ℕ) (old new : List ℕ → View) → AllOff old new → TellsOnOwn m name new
off_tells None name old new off = ap is_some (off name).reads
off_tells (Some second) name old new off = (ap is_some (off name).reads, ap is_some (off second).reads)

own_tells : (m : Option (List ℕ)) (name : List ℕ) (disks : List ℕ → View) (x : Member) → StandsOnOwn m name disks x → TellsOnOwn m name disks
own_tells None name disks x s = s.0
own_tells (Some second) name disks x s = (s.first_tells, s.second_tells)

on_first : (m : Option (List ℕ)) (name : List ℕ) (disks : List ℕ → View) (x : Member) → StandsOnOwn m name disks x → Tells (disks name) × DiskStandsFor (disks name) x.party x.space
on_first None name disks x s = s
on_first (Some second) name disks x s = (s.first_tells, s.stand.on_first)

-- ---- a creation over one disk or two

create_others : (m : Option (List ℕ)) (own : List ℕ) (role : Role) (generator : Gen) (old new : List ℕ → View) → IsCreatingOn m own role generator old new → AllButOwnStay m own old new
create_others None own role generator old new is = is.others
create_others (Some second) own role generator old new is = is.others

-- its disks stood for nobody before
not_twice : {A : Type 0} → Known → (m : Option (List ℕ)) (own : List ℕ) (role : Role) (generator : Gen) (old new : List ℕ → View) (y : Member) → IsCreatingOn m own role generator old new → StandsOnOwn m own old y → A
not_twice known None own role generator old new y is s =
    let now = told (old own) s.0 in
    never_blank known now.0 y.party (is.made.blank now.0 now.1) (stands_so now.0 y.party y.space (s.1.reads now.0 now.1))
not_twice known (Some second) own role generator old new y is s =
    let now = told (old own) s.first_tells in
    let other = told (old second) s.second_tells in
    never_blank known now.0 y.party (is.made.is_due now.0 other.0 (record { first = now.1; second = other.1 })).1 (stands_so now.0 y.party y.space (s.stand.on_first.reads now.0 now.1))

create_stands : (m : Option (List ℕ)) (own : List ℕ) (role : Role) (generator : Gen) (old new : List ℕ → View) → IsCreatingOn m own role generator old new → TellsOnOwn m own old → StandsOnOwn m own new (first_member own role generator)
create_stands None own role generator old new is tells = (is.tells ∙ tells, is.made.stands)
create_stands (Some second) own role generator old new is tells = record {
  first_tells = is.safe.first_tells ∙ tells.0;
  second_tells = is.safe.second_tells ∙ tells.1;
  stand = record {
    on_first = is.made.stand.0;
    durable = is.made.stand.1.durable;
    on_second = (let x : Member = first_member own role generator in λ image now. stands_so image x.party x.space (is.made.stand.1.reads image now));
  };
}

-- a plan that accepts is what was decided
as_it_was_decided : (b c : Bool) (l : Option Lead) (d : Decision) → (cond c (cond b (as_decided l d) (as_full l)) (as_full (cond b (as_decided l d) (as_full l)).lead)).verdict ≡ Accept
    → (d.verdict ≡ Accept) × ((cond c (cond b (as_decided l d) (as_full l)) (as_full (cond b (as_decided l d) (as_full l)).lead)).edits ≡ d.change)
as_it_was_decided true true l d is = (is, refl)
as_it_was_decided false true l d is = absurd (cc (is))
as_it_was_decided b false l d is = absurd (cc (is))

-- ---- a load over one disk or two

load_others : (m : Option (List ℕ)) (ms : List Member) (e : End) (moment : ℕ) (old new : List ℕ → View) → IsLoadingOn m ms e moment old new → AllButOwnStay m e.own old new
load_others None ms e moment old new is = is.others
load_others (Some second) ms e moment old new is = is.others

members_are : (ms : List Member) (e : End) (moment : ℕ) (y : Member) → member_at e.own ms ≡ Some y → members_after (Loads e moment) ms ≡ put_row own_of bytes_eq (with_link y (link_at e)) ms
members_are ms e moment y at = ap (λ (o : Option Member). load_into o (link_at e) ms) at

-- the member that it was loaded at, and what its disks stand for afterwards
record IsLoaded (m : Option (List ℕ)) (ms : List Member) (e : End) (new : List ℕ → View) : Type 0 where
  member : Member
  at : member_at e.own ms ≡ Some member
  free : IsFree ms e
  stands : StandsOnOwn m e.own new (with_link member (link_at e))

module _ (known : Known) (exactly : LoadsExactly) (ms : List Member) (e : End) (moment : ℕ) (old new : List ℕ → View) where
  -- over one disk
  loaded_alone : AreOn ms old → IsLoading ms e moment old new → IsLoaded None ms e new
  loaded_alone on is =
      let y : Member = is.member in
      let own : e.own ≡ y.party.own = find_key own_of bytes_eq test_idents e.own y ms is.at in
      record {
        member = y;
        at = is.at;
        free = loaded_free exactly known.one_space known.not_blank ms old new on e moment is;
        stands = loaded_on exactly known.one_space known.not_blank ms old new on e moment is e.own (with_link y (link_at e))
            (ap (member_at e.own) (members_are ms e moment y is.at) ∙ put_here (with_link y (link_at e)) ms e.own own);
      }

  -- over two
  module _ (second_name : List ℕ) (is : IsPairLoading second_name ms e moment old new) (stood : StandsOnBoth (old e.own) (old second_name) is.member) where
    abbrev y : Member
    y = is.member

    first : (image : List ℕ) × ((old e.own).now ≡ Some image)
    first = told (old e.own) stood.first_tells

    second : (image : List ℕ) × ((old second_name).now ≡ Some image)
    second = told (old second_name) stood.second_tells

    stands_first : StandsWith first.0 y.party y.space
    stands_first = stood.stand.on_first.reads first.0 first.1

    opened : OfOpened (turning e.own (loading e) moment) first.0 second.0 (new e.own) (new second_name) (outcome.Done is.reply)
    opened = is.turned.makes first.0 second.0 (record { first = first.1; second = second.1 })

    opened_with : StandsWith first.0 opened.member.party opened.member.space
    opened_with = go opened.space
      where
        go : HasFirstSpace first.0 opened.member.party opened.member.space → StandsWith first.0 opened.member.party opened.member.space
        go (inl stands) = stands
        go (inr blank) = never_blank known first.0 y.party blank.0 (stands_so first.0 y.party y.space stands_first)

    opened_is : opened.member ≡ y
    opened_is = (let one = known.one_space first.0 opened.member.party y.party opened.member.space y.space opened_with stands_first in λ i. record { party = one.0 i; space = one.1 i })

    abbrev d : Decision
    d = decision opened.member.party (loading e) moment

    kept : (d.verdict ≡ Accept) × (opened.next ≡ after opened.member d.change)
    kept =
        let l : Option Lead = lead_in opened.member.party (loading e) in
        let was = as_it_was_decided (fits opened.member.space d.change) (fits_frame opened.member.party (plan_at opened.member (loading e) moment).edits) l d opened.says.accepted in
        (was.0, opened.says.next ∙ ap (after opened.member) was.1)

    decided : DecidesLoad opened.member.party e d
    decided = loads_decide exactly opened.member.party e moment kept.0

    next_is : opened.next ≡ with_link y (link_at e)
    next_is = kept.1 ∙ (ap (after opened.member) decided.change ∙ ap (λ (z : Member). with_link z (link_at e)) opened_is)

    pair_free : IsFree ms e
    pair_free = subst (λ (z : Member). DecidesLoad z.party e (decision z.party (loading e) moment) → IsFree ms e) (sym opened_is) (λ by. record { member = y; at = is.at; free = by.free }) decided

    loaded_on_both : IsLoaded (Some second_name) ms e new
    loaded_on_both = record {
      member = y;
      at = is.at;
      free = pair_free;
      stands = subst (StandsOnBoth (new e.own) (new second_name)) next_is
          (record { first_tells = is.turned.safe.first_tells ∙ stood.first_tells; second_tells = is.turned.safe.second_tells ∙ stood.second_tells; stand = opened.stand });
    }

  loaded_by : (m : Option (List ℕ)) → AreOn ms old → ((y : Member) → member_at e.own ms ≡ Some y → StandsOnOwn m e.own old y) → IsLoadingOn m ms e moment old new → IsLoaded m ms e new
  loaded_by None on own is = loaded_alone on is
  loaded_by (Some second) on own is = loaded_on_both second is (own is.member is.at)

-- ---- from call to call

-- the disks of each of these members tell, and stand for it
abbrev pub AreOnOwn : (List ℕ → Option (List ℕ)) → List Member → (List ℕ → View) → Type 0
AreOnOwn mirror ms disks = (name : List ℕ) (x : Member) → member_at name ms ≡ Some x → StandsOnOwn (mirror name) name disks x

module _ (known : Known) (exactly : LoadsExactly) (mirror : List ℕ → Option (List ℕ)) (end : World) (apart : HaveOwnDisks mirror end) where
  -- a call over the disks of one party leaves those of another
  module _ (own : List ℕ) (there : IsThere own end.members) (old new : List ℕ → View) (stay : AllButOwnStay (mirror own) own old new) (name : List ℕ) (at : IsThere name end.members) (ne : name ≢ own) where
    first_alike : IsAlike (old name) (new name)
    first_alike = (but_own end mirror apart own there.0 there.1 old new stay).firsts name at.0 at.1 ne

    second_alike : (second : List ℕ) → mirror name ≡ Some second → IsAlike (old second) (new second)
    second_alike second has = (but_own end mirror apart own there.0 there.1 old new stay).seconds name second at.0 at.1 ne has

    other_stands : (x : Member) → StandsOnOwn (mirror name) name old x → StandsOnOwn (mirror name) name new x
    other_stands x = go (mirror name) second_alike
      where
        go : (m : Option (List ℕ)) → ((second : List ℕ) → m ≡ Some second → IsAlike (old second) (new second)) → StandsOnOwn m name old x → StandsOnOwn m name new x
        go None stays s = alike_one (old name) (new name) x first_alike s
        go (Some second) stays s = alike_both (old name) (old second) (new name) (new second) x first_alike (stays second refl) s

    other_tells : TellsOnOwn (mirror name) name old → TellsOnOwn (mirror name) name new
    other_tells = go (mirror name) second_alike
      where
        go : (m : Option (List ℕ)) → ((second : List ℕ) → m ≡ Some second → IsAlike (old second) (new second)) → TellsOnOwn m name old → TellsOnOwn m name new
        go None stays t = ap is_some first_alike.now ∙ t
        go (Some second) stays t = (ap is_some first_alike.now ∙ t.0, ap is_some (stays second refl).now ∙ t.1)

  -- ---- a party is created

  module _ (ms : List Member) (ss : List SetUp) (old new : List ℕ → View) (on : AreOnOwn mirror ms old) (own : List ℕ) (role : Role) (generator : Gen) (is : IsCreatingOn (mirror own) own role generator old new)
      (tells : TellsOnOwn (mirror own) own old) (is_end : members_by (Creates own role generator ∷ ss) ms ≡ end.members) where
    abbrev x : Member
    x = first_member own role generator

    created_new : member_at own ms ≡ None
    created_new = go (member_at own ms) refl
      where
        go : (o : Option Member) → member_at own ms ≡ o → o ≡ None
        go None e = refl
        go (Some y) e = not_twice known (mirror own) own role generator old new y is (on own y e)

    in_end : (name : List ℕ) → IsThere name (members_after (Creates own role generator) ms) → IsThere name end.members
    in_end name there = subst (IsThere name) is_end (all_stay (members_after (Creates own role generator) ms) ss name there)

    own_there : IsThere own end.members
    own_there = in_end own (x, put_here x ms own refl)

    own_stands : StandsOnOwn (mirror own) own new x
    own_stands = create_stands (mirror own) own role generator old new is tells

    created_stay : AllButOwnStay (mirror own) own old new
    created_stay = create_others (mirror own) own role generator old new is

    created_on : AreOnOwn mirror (members_after (Creates own role generator) ms) new
    created_on name y at = elim (put_cases x ms name y at) [
      | inl here ↦ subst (λ (q : List ℕ). StandsOnOwn (mirror q) q new y) (sym here.0) (subst (StandsOnOwn (mirror own) own new) (sym here.1) own_stands)
      | inr there ↦ other_stands own own_there old new created_stay name (in_end name (y, at)) there.0 y (on name y there.1)
    ]

    created_tells : AllTellOnOwn mirror (own ∷ names_in ss) old → AllTellOnOwn mirror (names_in ss) new
    created_tells tell name among = elim (names_differ name own) [
      | inl here ↦ subst (λ (q : List ℕ). TellsOnOwn (mirror q) q new) (sym here) (own_tells (mirror own) own new x own_stands)
      | inr there ↦ other_tells own own_there old new created_stay name (subst (IsThere name) is_end (all_there (members_after (Creates own role generator) ms) ss name among)) there
          (tell name (Contains-append_right (own ∷ []) (names_in ss) name among))
    ]

  -- ---- an end is loaded

  module _ (ms : List Member) (ss : List SetUp) (old new : List ℕ → View) (on : AreOnOwn mirror ms old) (e : End) (moment : ℕ) (is : IsLoadingOn (mirror e.own) ms e moment old new)
      (is_end : members_by (Loads e moment ∷ ss) ms ≡ end.members) where
    loaded : IsLoaded (mirror e.own) ms e new
    loaded = loaded_by known exactly ms e moment old new (mirror e.own) (λ name x at. on_first (mirror name) name old x (on name x at)) (on e.own) is

    abbrev member : Member
    member = loaded.member

    own_is : e.own ≡ member.party.own
    own_is = find_key own_of bytes_eq test_idents e.own member ms loaded.at

    loaded_there : IsThere e.own end.members
    loaded_there = subst (IsThere e.own) is_end (all_stay ms (Loads e moment ∷ ss) e.own (member, loaded.at))

    loaded_stay : AllButOwnStay (mirror e.own) e.own old new
    loaded_stay = load_others (mirror e.own) ms e moment old new is

    load_on : AreOnOwn mirror (members_after (Loads e moment) ms) new
    load_on = subst (λ (zs : List Member). AreOnOwn mirror zs new) (sym (members_are ms e moment member loaded.at)) (λ name z at. elim (put_cases (with_link member (link_at e)) ms name z at) [
      | inl here ↦ subst (λ (q : List ℕ). StandsOnOwn (mirror q) q new z) (own_is ∙ sym here.0) (subst (StandsOnOwn (mirror e.own) e.own new) (sym here.1) loaded.stands)
      | inr there ↦ other_stands e.own loaded_there old new loaded_stay name (subst (IsThere name) is_end (all_stay ms (Loads e moment ∷ ss) name (z, there.1))) (λ same. there.0 (same ∙ own_is)) z (on name z there.1)
    ])

    load_tells : AllTellOnOwn mirror (names_in ss) old → AllTellOnOwn mirror (names_in ss) new
    load_tells tell name among = elim (names_differ name e.own) [
      | inl here ↦ subst (λ (q : List ℕ). TellsOnOwn (mirror q) q new) (sym here) (own_tells (mirror e.own) e.own new (with_link member (link_at e)) loaded.stands)
      | inr there ↦ other_tells e.own loaded_there old new loaded_stay name (subst (IsThere name) is_end (all_there ms (Loads e moment ∷ ss) name among)) there (tell name among)
    ]

  -- ---- call by call

  -- the call creates or loads what wasn't there, and the disks stand for the members afterwards
  record IsStep (ms : List Member) (s : SetUp) (ss : List SetUp) (new : List ℕ → View) : Type 0 where
    is_new : IsNew ms s
    on : AreOnOwn mirror (members_after s ms) new
    tell : AllTellOnOwn mirror (names_in ss) new

  step : (ms : List Member) (s : SetUp) (ss : List SetUp) (old new : List ℕ → View) → AreOnOwn mirror ms old → AllTellOnOwn mirror (names_in (s ∷ ss)) old → members_by (s ∷ ss) ms ≡ end.members → IsSetUpOn mirror ms s old new
      → IsStep ms s ss new
  step ms (Creates own role generator) ss old new on tell is_end is =
      let tells = tell own (first_in own (names_in ss)) in
      record {
        is_new = created_new ms ss old new on own role generator is tells is_end;
        on = created_on ms ss old new on own role generator is tells is_end;
        tell = created_tells ms ss old new on own role generator is tells is_end tell;
      }
  step ms (Loads e moment) ss old new on tell is_end is = record {
    is_new = (loaded ms ss old new on e moment is is_end).free;
    on = load_on ms ss old new on e moment is is_end;
    tell = load_tells ms ss old new on e moment is is_end tell;
  }
  step ms LosesPower ss old new on tell is_end is = record {
    is_new = tt;
    on = λ name x at. off_own (mirror name) name old new x is (on name x at);
    tell = λ name among. off_tells (mirror name) name old new is;
  }

  -- what all of it leaves
  pub record AreSteps (ms : List Member) (ss : List SetUp) (new : List ℕ → View) : Type 0 where
    pub are_new : AreNew ms ss
    pub on : AreOnOwn mirror (members_by ss ms) new

  pub steps : (ms : List Member) (ss : List SetUp) (k : ℕ) (disks : ℕ → List ℕ → View) → AreOnOwn mirror ms (disks k) → AllTellOnOwn mirror (names_in ss) (disks k) → members_by ss ms ≡ end.members → AreSetUpOn mirror ms ss k disks
      → AreSteps ms ss (disks (k + length ss))
  steps ms [] k disks on tell is_end is = (let place : k + 0 ≡ k = omega arith in record { are_new = tt; on = subst (λ (n : ℕ). AreOnOwn mirror ms (disks n)) (sym place) on })
  steps ms (s ∷ ss) k disks on tell is_end is =
      let next : IsStep ms s ss (disks (suc k)) = step ms s ss (disks k) (disks (suc k)) on tell is_end is.0 in
      let rest : AreSteps (members_after s ms) ss (disks (suc k + length ss)) = steps (members_after s ms) ss (suc k) disks next.on next.tell is_end is.1 in
      let place : suc k + length ss ≡ k + length (s ∷ ss) = omega arith in
      record { are_new = (next.is_new, rest.are_new); on = subst (λ (n : ℕ). AreOnOwn mirror (members_by ss (members_after s ms)) (disks n)) place rest.on }
