-- An event that breaks off, in the network.
use Rattle.std.proofs.Common.{◌≡◌, ◌≢◌, ◌⊎◌, inl, inr, ℕ, ◌<◌, true, List, [], ◌∷◌, ◌++◌, length, Option, Some, None, bytes_eq, refl, sym, ◌∙◌, ap, subst}
use Rattle.x_disk.specs.Disk.{View}
use Rattle.party_tables.specs.Tables.{put_row}
use Rattle.party_state.specs.declared.command.Input.{Input}
use Rattle.key_store.specs.Store.{Stored}
use Rattle.member.specs.Member.{Member}
use Rattle.node_core.specs.Turns.{member_of}
use Rattle.world_laws.specs.World.{World, own_of, member_at}
use Rattle.world_laws.specs.Events.{Completion, CutOld, CutNew}
use Rattle.course.specs.Outcomes.{world_after_given}
use Rattle.course.specs.Stops.{KeepsChange, member_next}
use Rattle.replay.specs.Breaking.{TellsAndReadsAs, StandsForMember, StandForAll}
use Rattle.replay.specs.Breaks.{IsBrokenOff, BreaksOff}
use Rattle.replay.specs.Events.{StandsEither, IsBrokenIn}
use Rattle.replay.specs.PlayState.{Shows}
use Rattle.open_parties.specs.OpenParties.{open_party, members, with_held, IsOf, IsIn, AreIn, AreOpen, NoneOf, IsPlace, IsTakenOut}
use Rattle.open_parties.specs.declared.failure.Failure.{Failure}
use Rattle.replay.specs.declared.play_state.PlayState.{PlayState}
use Rattle.open_parties.specs.declared.open_party.OpenParty.{OpenParty}
use Rattle.open_parties.specs.declared.open_party.PartyDisk.{PartyDisk}
use Rattle.open_parties.specs.declared.open_party.PartyDisk.TheVariants.{Open, Closed, Away}
use Rattle.open_parties.proofs.Members.{cond_yes, cond_not, same_yes, same_not, of_in}
use Rattle.replay.proofs.Members.{found}
use Rattle.replay.proofs.Reading.{reads_one}

-- the open parties stand for the members that they show
module _ {D : Type 0} (told : D → View) (entry : List ℕ → View) where
  pub stand_open : (open_parties : List (OpenParty D)) → AreIn true told open_parties → StandForAll told entry open_parties (members open_parties)
  stand_open [] all = tt
  stand_open (s ∷ open_parties) all = go s.own s.held all.0 (stand_open open_parties all.1)
    where
      go : (own : List ℕ) (h : PartyDisk D) → IsIn true told own h → StandForAll told entry open_parties (members open_parties) → StandForAll told entry (open_party own h ∷ open_parties) (with_held h (members open_parties))
      go own (Open m) is rest = ((is, refl), rest)
      go own (Closed disk) is rest = absurd is
      go own Away is rest = absurd is

  pub shown_stand : (w : World) (s : PlayState D) → Shows true told w s → StandForAll told entry s.parties w.members
  shown_stand w s shows = subst (StandForAll told entry s.parties) shows.members_are (stand_open s.parties shows.all_open)

  module _ (own : List ℕ) (node : Stored D) (held : PartyDisk D) (back : List (OpenParty D)) where
    stand_stays : StandsForMember told entry own held (member_of node) → (front : List (OpenParty D)) → AreIn true told (front ++ open_party own (Open node) ∷ back) → StandForAll told entry (front ++ open_party own held ∷ back) (members (front ++ open_party own (Open node) ∷ back))
    stand_stays stands [] all = (stands, stand_open back all.1)
    stand_stays stands (f ∷ front) all = go f.own f.held all.0 (stand_stays stands front all.1)
      where
        go : (name : List ℕ) (h : PartyDisk D) → IsIn true told name h → StandForAll told entry (front ++ open_party own held ∷ back) (members (front ++ open_party own (Open node) ∷ back))
            → StandForAll told entry (open_party name h ∷ (front ++ open_party own held ∷ back)) (with_held h (members (front ++ open_party own (Open node) ∷ back)))
        go name (Open m) is rest = ((is, refl), rest)
        go name (Closed disk) is rest = absurd is
        go name Away is rest = absurd is

    stand_put : (y : Member) → y.party.own ≡ own → StandsForMember told entry own held y → (front : List (OpenParty D)) → AreIn true told (front ++ open_party own (Open node) ∷ back) → NoneOf front own
        → StandForAll told entry (front ++ open_party own held ∷ back) (put_row own_of bytes_eq y (members (front ++ open_party own (Open node) ∷ back)))
    stand_put y named stands [] all none =
        subst (StandForAll told entry (open_party own held ∷ back)) (sym (cond_yes (bytes_eq y.party.own node.party.own) (y ∷ members back) (member_of node ∷ put_row own_of bytes_eq y (members back)) (same_yes y.party.own node.party.own (named ∙ sym all.0.named)))) (stands, stand_open back all.1)
    stand_put y named stands (f ∷ front) all none = go f.own f.held none.0 all.0 (stand_put y named stands front all.1 none.1)
      where
        go : (name : List ℕ) (h : PartyDisk D) → name ≢ own → IsIn true told name h → StandForAll told entry (front ++ open_party own held ∷ back) (put_row own_of bytes_eq y (members (front ++ open_party own (Open node) ∷ back)))
            → StandForAll told entry (open_party name h ∷ (front ++ open_party own held ∷ back)) (put_row own_of bytes_eq y (with_held h (members (front ++ open_party own (Open node) ∷ back))))
        go name (Open m) apart is rest =
            subst (StandForAll told entry (open_party name (Open m) ∷ (front ++ open_party own held ∷ back)))
            (sym (cond_not (bytes_eq y.party.own m.party.own) (y ∷ members (front ++ open_party own (Open node) ∷ back)) (member_of m ∷ put_row own_of bytes_eq y (members (front ++ open_party own (Open node) ∷ back))) (same_not y.party.own m.party.own (λ same. apart (sym is.named ∙ (sym same ∙ named)))))) ((is, refl), rest)
        go name (Closed disk) apart is rest = absurd is
        go name Away apart is rest = absurd is

-- an event that broke off at a place, where what is held stands for the member before, or for another of its name
module _ {D : Type 0} (told : D → View) (entry : List ℕ → View) (old new : List (OpenParty D)) (place : ℕ) (w : World) (n : ℕ) (all : AreIn true told old) (members_are : members old ≡ w.members)
    (front : List (OpenParty D)) (name : List ℕ) (node : Stored D) (held : PartyDisk D) (back : List (OpenParty D)) (was : old ≡ front ++ open_party name (Open node) ∷ back) (size : length front ≡ place) (is : new ≡ front ++ open_party name held ∷ back)
    (own : List ℕ) (is_place : IsPlace old own place) where
  split_in : AreIn true told (front ++ open_party name (Open node) ∷ back)
  split_in = subst (AreIn true told) was all

  pub was_of : IsOf true told name node
  was_of = of_in true told name node back front split_in

  here : NoneOf front own × (name ≡ own)
  here = is_place front (open_party name (Open node)) back was size

  none : NoneOf front name
  none = subst (NoneOf front) (sym here.1) here.0

  pub at_name : member_at name w.members ≡ Some (member_of node)
  at_name = ap (λ (ms : List Member). member_at name ms) (sym members_are ∙ ap members was) ∙ found true told name node back front split_in none

  at : member_at own w.members ≡ Some (member_of node)
  at = subst (λ (o : List ℕ). member_at o w.members ≡ Some (member_of node)) here.1 at_name

  pub broke_before : (i : Option Input) (moment : ℕ) (completion : Completion) → (world_after_given n w (member_of node) i moment completion).members ≡ w.members → StandsForMember told entry name held (member_of node) → IsBrokenOff told entry w n own new i moment
  broke_before i moment completion world_is stands = record {
    member = member_of node;
    at = at;
    completion = completion;
    stands = subst (λ (ss : List (OpenParty D)). StandForAll told entry ss (world_after_given n w (member_of node) i moment completion).members) (sym is)
        (subst (StandForAll told entry (front ++ open_party name held ∷ back)) (sym (ap members was) ∙ (members_are ∙ sym world_is)) (stand_stays told entry name node held back stands front split_in));
  }

  pub broke_after : (i : Option Input) (moment : ℕ) (completion : Completion) (y : Member) → (world_after_given n w (member_of node) i moment completion).members ≡ put_row own_of bytes_eq y w.members → y.party.own ≡ name → StandsForMember told entry name held y
      → IsBrokenOff told entry w n own new i moment
  broke_after i moment completion y world_is named stands = record {
    member = member_of node;
    at = at;
    completion = completion;
    stands = subst (λ (ss : List (OpenParty D)). StandForAll told entry ss (world_after_given n w (member_of node) i moment completion).members) (sym is)
        (subst (StandForAll told entry (front ++ open_party name held ∷ back)) (ap (put_row own_of bytes_eq y) (sym (ap members was) ∙ members_are) ∙ sym world_is) (stand_put told entry name node held back y named stands front split_in none));
  }

-- an event broke off at the party that was taken out
module _ {D : Type 0} (told : D → View) (entry : List ℕ → View) (old : PlayState D) (mid : List (OpenParty D)) (new : PlayState D) (place : ℕ) (node : Stored D) (l : IsTakenOut old.parties mid place node) (i : Option Input) (moment : ℕ) (why : Failure)
    (name : List ℕ) (is_name : IsPlace old.parties name place) (b : IsBrokenIn told (entry name) mid new.parties place node (member_of node) (member_next (member_of node) i moment) (KeepsChange (member_of node) i moment) why)
    (own_next : (member_next (member_of node) i moment).party.own ≡ node.party.own)
    (cuts : KeepsChange (member_of node) i moment → (n : ℕ) (w : World) → member_at node.party.own w.members ≡ Some (member_of node) → (world_after_given n w (member_of node) i moment CutNew).members ≡ put_row own_of bytes_eq (member_next (member_of node) i moment) w.members)
    (stays : (n : ℕ) (w : World) → world_after_given n w (member_of node) i moment CutOld ≡ w) where
  name_is : l.own ≡ name
  name_is = (is_name l.front (open_party l.own (Open node)) l.back l.before l.size).1

  stands_by : node.party.own ≡ l.own → (h : PartyDisk D) → StandsEither told (entry l.own) h (member_of node) (member_next (member_of node) i moment) (KeepsChange (member_of node) i moment)
      → StandsForMember told entry l.own h (member_of node) ⊎ (KeepsChange (member_of node) i moment × StandsForMember told entry l.own h (member_next (member_of node) i moment))
  stands_by named (Open m) (tells, inl same) = inl (record { named = ap (λ (x : Member). x.party.own) same ∙ named; tells = λ t. tells }, same)
  stands_by named (Open m) (tells, inr next) = inr (next.0, (record { named = ap (λ (x : Member). x.party.own) next.1 ∙ (own_next ∙ named); tells = λ t. tells }, next.1))
  stands_by named (Closed disk) reads = go (reads_one (told disk) (member_of node) (member_next (member_of node) i moment) (KeepsChange (member_of node) i moment) reads)
    where
      go : TellsAndReadsAs (told disk) (member_of node) ⊎ (KeepsChange (member_of node) i moment × TellsAndReadsAs (told disk) (member_next (member_of node) i moment)) → StandsForMember told entry l.own (Closed disk) (member_of node) ⊎ (KeepsChange (member_of node) i moment × StandsForMember told entry l.own (Closed disk) (member_next (member_of node) i moment))
      go (inl r) = inl (named, r)
      go (inr r) = inr (r.0, (own_next ∙ named, r.1))
  stands_by named Away reads = go (reads_one (entry l.own) (member_of node) (member_next (member_of node) i moment) (KeepsChange (member_of node) i moment) reads)
    where
      go : TellsAndReadsAs (entry l.own) (member_of node) ⊎ (KeepsChange (member_of node) i moment × TellsAndReadsAs (entry l.own) (member_next (member_of node) i moment)) → StandsForMember told entry l.own Away (member_of node) ⊎ (KeepsChange (member_of node) i moment × StandsForMember told entry l.own Away (member_next (member_of node) i moment))
      go (inl r) = inl (named, r)
      go (inr r) = inr (r.0, (own_next ∙ named, r.1))

  pub broken_off : BreaksOff told entry old new place i moment why
  broken_off = λ w n own is_place shows.
      let all = shows.all_open in
      let is : new.parties ≡ l.front ++ open_party l.own b.held ∷ l.back = b.fills l.front l.own l.back l.after l.size in
      let of = was_of told entry old.parties new.parties place w n all shows.members_are l.front l.own node b.held l.back l.before l.size is own is_place in
      let f = b.fails (of.tells refl) in
      let either : StandsEither told (entry l.own) b.held (member_of node) (member_next (member_of node) i moment) (KeepsChange (member_of node) i moment) =
      subst (λ (o : List ℕ). StandsEither told (entry o) b.held (member_of node) (member_next (member_of node) i moment) (KeepsChange (member_of node) i moment)) (sym name_is) f.1 in
      (f.0, go w n own is_place shows is of.named (stands_by of.named b.held either))
    where
      here : (w : World) (n : ℕ) (own : List ℕ) (is_place : IsPlace old.parties own place) (shows : Shows true told w old) → node.party.own ≡ l.own → member_at node.party.own w.members ≡ Some (member_of node)
      here w n own is_place shows named = subst (λ (o : List ℕ). member_at o w.members ≡ Some (member_of node)) (sym named)
          (at_name told entry old.parties new.parties place w n shows.all_open shows.members_are l.front l.own node b.held l.back l.before l.size (b.fills l.front l.own l.back l.after l.size) own is_place)

      go : (w : World) (n : ℕ) (own : List ℕ) (is_place : IsPlace old.parties own place) (shows : Shows true told w old) → new.parties ≡ l.front ++ open_party l.own b.held ∷ l.back → node.party.own ≡ l.own
          → StandsForMember told entry l.own b.held (member_of node) ⊎ (KeepsChange (member_of node) i moment × StandsForMember told entry l.own b.held (member_next (member_of node) i moment)) → IsBrokenOff told entry w n own new.parties i moment
      go w n own is_place shows is named (inl stands) =
          broke_before told entry old.parties new.parties place w n shows.all_open shows.members_are l.front l.own node b.held l.back l.before l.size is own is_place i moment CutOld (ap (λ (u : World). u.members) (stays n w)) stands
      go w n own is_place shows is named (inr stands) =
          broke_after told entry old.parties new.parties place w n shows.all_open shows.members_are l.front l.own node b.held l.back l.before l.size is own is_place i moment CutNew (member_next (member_of node) i moment) (cuts stands.0 n w (here w n own is_place shows named)) (own_next ∙ named) stands.1

-- nothing has begun
module _ {D : Type 0} (told : D → View) (entry : List ℕ → View) (s : PlayState D) (place : ℕ) (i : Option Input) (moment : ℕ) (within : place < length s.parties) (opened : AreOpen s.parties) (w : World) (n : ℕ) (own : List ℕ)
    (is_place : IsPlace s.parties own place) (shows : Shows true told w s) where
  old_stays : (x : Member) (o : Option Input) → world_after_given n w x o moment CutOld ≡ w
  old_stays x None = refl
  old_stays x (Some input) = refl
