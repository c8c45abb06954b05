-- Parties are added one behind another, or a party isn't set up.
use Rattle.std.proofs.Common.{◌≡◌, inl, inr, ℕ, zero, suc, ◌+◌, ◌<◌, Bool, true, false, List, [], ◌∷◌, ◌++◌, length, get_or, take, drop, IfSome, Option, Some, None, option_map, is_some, bytes_eq, refl, sym, ◌∙◌, ap, subst, arith}
use Rattle.std.specs.Prelude.{nat_lt, Contains, option_to_list}
use Rattle.std.specs.List.{filter_map, list_all, list_any}
use mathlib.Core.Logic.{◌≢◌}
use Rattle.std.proofs.lemmas.Bool.{and_from, and_parts, or_parts, both_ways, not-true, eq-eqb}
use Rattle.std.proofs.lemmas.List.{append-nil}
use Rattle.std.proofs.lemmas.List.Elements.{Contains-append_right}
use Rattle.std.proofs.lemmas.Slice.Eq.{bytes_eq-Decides}
use Rattle.x_base.specs.Ident.{expanded}
use Rattle.x_disk.specs.Disk.{View, Tells, IsSound}
use Rattle.x_disk.specs.Shelf.{IsAlike, AllStay, SlotsStay, alike_refl}
use Rattle.party_tables.specs.declared.link.LinkRec.{LinkRec}
use Rattle.key_store.specs.Store.{Stored}
use Rattle.scenario.specs.declared.line.Line.{Line}
use Rattle.scenario.specs.declared.line.Line.TheVariants as line
use Rattle.scenario.specs.Behind.{EachBehind}
use Rattle.scenario.specs.Rules.{declared, expansion, is_party, same_two, may_declare, may_follow}
use Rattle.member.specs.Member.{Member}
use Rattle.world_laws.specs.World.{own_of}
use Rattle.node_core.specs.Turns.{member_of}
use Rattle.open_parties.specs.Closing.{AllSlots, AreApart}
use Rattle.open_parties.specs.Crash.{held_view, disk_of}
use Rattle.open_parties.specs.OpenParties.{open_party, members, with_held, owners, IsOf, AreIn, AreOpen, NoneOf}
use Rattle.course.specs.Starts.{loads_of, start_member, members_by}
use Rattle.course.specs.Parties.{new_party, line_of_party, own_of_new, party_in, parties_in, new_member, full_member}
use Rattle.replay.specs.SettingUp.{AllTell, ReadsBlank, AllReadBlank, IsSetUp, BeginsInPart, IsBeginning, BeginsOnly, IsFailedSetUp, IsFailedSetUpNext, IsOrFails, IsAddedNext, AddsNext, ShowMembers, IsOfSetUp, SetsUpOnly, AreSetUp}
use Rattle.course.specs.declared.declaring.NewParty.{NewParty}
use Rattle.open_parties.specs.declared.failure.Failure.TheVariants as failure
use Rattle.replay.specs.declared.making.SetUpEnd.{SetUpEnd}
use Rattle.replay.specs.declared.making.SetUpEnd.TheVariants.{NotEmpty, Failed}
use Rattle.open_parties.specs.declared.open_party.OpenParty.{OpenParty}
use Rattle.open_parties.specs.declared.open_party.PartyDisk.{PartyDisk}
use Rattle.open_parties.specs.declared.open_party.PartyDisk.TheVariants.{Open, Closed, Away}
use Rattle.replay.proofs.Adding.{adds_begin, adds_end, adds_none, adds_weaker}
use Rattle.open_parties.proofs.Holding.{apart_by, held_last, held_front, still_there}
use Rattle.replay.proofs.Loads.{own_stays, more_of, follows, split_lines}
use Rattle.x_disk.proofs.Alike.{alike_trans}

-- ---- a disk on which no party is set up, by what a read of it gives

begins_as : (v w : View) (x : Member) (loads : List LinkRec) (image : List ℕ) → v.now ≡ w.now → IsBeginning v x loads image → IsBeginning w x loads image
begins_as v w x loads image same (inl was) = inl (sym same ∙ was)
begins_as v w x loads image same (inr (blank, rest)) = inr (λ i now. blank i (same ∙ now), rest)

-- what a crash leaves of it, from the shelf on
pub begins_from : (u v w : View) (x : Member) (loads : List LinkRec) → IsAlike u v → BeginsOnly v w x loads → BeginsOnly u w x loads
begins_from u v w x loads alike run = λ tells.
    adds_weaker u w (BeginsInPart v x loads) (BeginsInPart u x loads) (adds_begin u v w (BeginsInPart v x loads) alike (run (ap is_some alike.now ∙ tells))) (λ image p. (λ other now. p.0 other (alike.now ∙ now), p.1))

-- and until it is back there
pub begins_to : (u v w : View) (x : Member) (loads : List LinkRec) → BeginsOnly u v x loads → IsAlike v w → BeginsOnly u w x loads
begins_to u v w x loads run alike = λ tells. adds_end u v w (BeginsInPart u x loads) (run tells) alike

pub failed_set_up_alike : (v w v2 w2 : View) (x : Member) (loads : List LinkRec) (why : SetUpEnd) → v.now ≡ v2.now → w.now ≡ w2.now → IsFailedSetUp v w x loads why → IsFailedSetUp v2 w2 x loads why
failed_set_up_alike v w v2 w2 x loads NotEmpty a b u = record { filled = λ image now. u.filled image (a ∙ now); stays = sym b ∙ (u.stays ∙ a) }
failed_set_up_alike v w v2 w2 x loads (Failed f) a b u = record {
  failing = u.failing;
  tells = sym (ap is_some b) ∙ u.tells;
  begins = λ image now. begins_as v v2 x loads image a (u.begins image (b ∙ now));
}

pub failed_set_up_or_fails : (v w : View) (x : Member) (loads : List LinkRec) (why new : SetUpEnd) → Tells v → IsFailedSetUp v w x loads why → IsOrFails why new → IsFailedSetUp v w x loads new
failed_set_up_or_fails v w x loads why new tells u (inl same) = subst (λ (k : SetUpEnd). IsFailedSetUp v w x loads k) (sym same) u
failed_set_up_or_fails v w x loads why new tells u (inr (f, fine, is)) = subst (λ (k : SetUpEnd). IsFailedSetUp v w x loads k) (sym is) (go why u)
  where
    go : (k : SetUpEnd) → IsFailedSetUp v w x loads k → IsFailedSetUp v w x loads (Failed f)
    go NotEmpty old = record { failing = fine; tells = ap is_some old.stays ∙ tells; begins = λ image now. inl (sym old.stays ∙ now) }
    go (Failed g) old = record { failing = fine; tells = old.tells; begins = old.begins }

-- the set-up of a party wanted memory before it fetched the disk
pub none_made : (lines : List Line) (p : NewParty) (entry : List ℕ → View) → IsSound (entry p.own) → IsFailedSetUpNext lines p entry entry (Failed failure.NoMemory)
none_made lines p entry sound = record {
  failed_set_up = λ tells. record { failing = tt; tells = tells; begins = λ image now. inl now };
  any_moment = λ tells. adds_none (entry p.own) (entry p.own) (BeginsInPart (entry p.own) (new_member p) (loads_of p.own lines)) sound (alike_refl (entry p.own));
  others = λ other apart. alike_refl (entry other);
}

-- ---- the lines

pub line_is : (l : Line) (p : NewParty) → new_party l ≡ Some p → l ≡ line_of_party p
line_is (line.Party name role pair v) p is = ap line_of_party (cc is)
line_is l p is = absurd (cc is)

-- the line at a place declares the party
pub split_at_party : (lines : List Line) (i : ℕ) (l : Line) (p : NewParty) → i < length lines → l ≡ get_or lines i l → new_party l ≡ Some p → lines ≡ take i lines ++ line_of_party p ∷ drop (i + 1) lines
split_at_party lines i l p lt is at = split_lines lines i l lt is ∙ ap (λ (x : Line). take i lines ++ x ∷ drop (i + 1) lines) (line_is l p at)

declared_in : (front back : List Line) (p : NewParty) → Contains (front ++ line_of_party p ∷ back) (line_of_party p)
declared_in front back p = Contains-append_right front (line_of_party p ∷ back) (line_of_party p) (zero, omega arith, refl)

-- a part of the set-up of a party that the lines declare
in_set_up : (lines : List Line) (p : NewParty) (v : View) → Contains lines (line_of_party p) → (image : List ℕ) → BeginsInPart v (new_member p) (loads_of p.own lines) image → IsOfSetUp lines p.own v image
in_set_up lines p v declared image (blank, inl empty) = (blank, inl empty)
in_set_up lines p v declared image (blank, inr part) = (blank, inr (record { party = p; declared = declared; named = refl; links = part.0; stands = part.1 }))

pub sets_up_only : (lines front back : List Line) (p : NewParty) (v w : View) → lines ≡ front ++ line_of_party p ∷ back → Tells v → BeginsOnly v w (new_member p) (loads_of p.own lines) → SetsUpOnly lines p.own v w
sets_up_only lines front back p v w split tells run =
    adds_weaker v w (BeginsInPart v (new_member p) (loads_of p.own lines)) (IsOfSetUp lines p.own v) (run tells)
    (in_set_up lines p v (subst (λ (ls : List Line). Contains ls (line_of_party p)) (sym split) (declared_in front back p)))

start_is : (lines : List Line) (l : Line) → start_member lines l ≡ option_map (full_member lines) (new_party l)
start_is lines (line.Party name role pair v) = refl
start_is lines l = refl

listed : {X Y : Type 0} (f : X → Y) (o : Option X) (t : Option X) → o ≡ t → option_to_list (option_map f o) ≡ option_to_list (option_map f t)
listed f o t is = ap (λ (u : Option _). option_to_list (option_map f u)) is

module _ (lines : List Line) (i : ℕ) (l : Line) (lt : i < length lines) (is : l ≡ get_or lines i l) (p : Option NewParty) (at : new_party l ≡ p) where
  parties_more : parties_in (take (i + 1) lines) ≡ parties_in (take i lines) ++ option_to_list (option_map own_of_new p)
  parties_more = more_of party_in lines i l lt is ∙ ap (λ (os : List (List ℕ)). parties_in (take i lines) ++ os) (listed own_of_new (new_party l) p at)

  members_more : members_by lines (take (i + 1) lines) ≡ members_by lines (take i lines) ++ option_to_list (option_map (full_member lines) p)
  members_more =
      more_of (start_member lines) lines i l lt is
      ∙ ap (λ (ms : List Member). members_by lines (take i lines) ++ ms) (ap (λ (o : Option Member). option_to_list o) (start_is lines l) ∙ listed (full_member lines) (new_party l) p at)

-- no party of these has this identity
abbrev NoneIn : List (List ℕ) → List ℕ → Type 0
NoneIn [] own = Unit {0}
NoneIn (o ∷ owners) own = (o ≢ own) × NoneIn owners own

same_self : (a : ℕ × ℕ) → same_two a a ≡ true
same_self a = and_from _ _ (eq-eqb a.0 a.0 refl) (eq-eqb a.1 a.1 refl)

apart_names : (before : List Line) (name : List ℕ) → list_any (same_two (expanded name)) (filter_map expansion before) ≡ false → NoneIn (parties_in before) name
apart_names [] name any = tt
apart_names (line.Party n role pair v ∷ before) name any =
    let both = or_parts (same_two (expanded name) (expanded n)) (list_any (same_two (expanded name)) (filter_map expansion before)) any in
    (λ same. both_ways _ both.0 (ap (λ (m : List ℕ). same_two (expanded name) (expanded m)) same ∙ same_self (expanded name)), apart_names before name both.1)
apart_names (l ∷ before) name any = apart_names before name any

may_be_declared : (before : List Line) (name : List ℕ) → may_declare before name ≡ true → NoneIn (parties_in before) name
may_be_declared before name may =
    let a = (and_parts (list_all is_party before) _ may).1 in
    let b = (and_parts (nat_lt (length (filter_map declared before)) 64) _ a).1 in
    apart_names before name (not-true _ b)

module _ {D : Type 0} where
  none_in : (open_parties : List (OpenParty D)) (own : List ℕ) → NoneIn (owners open_parties) own → NoneOf open_parties own
  none_in [] own none = tt
  none_in (s ∷ open_parties) own none = (none.0, none_in open_parties own none.1)

  pub none_of : (open_parties : List (OpenParty D)) (own : List ℕ) → (Contains (owners open_parties) own → ⊥) → NoneOf open_parties own
  none_of [] own never = tt
  none_of (s ∷ open_parties) own never = (λ same. never (zero, omega arith, same), none_of open_parties own (λ c. never (suc c.0, omega (arith, c.1), c.2)))

  -- the identity of a line's party is no other's
  pub apart_at : (lines : List Line) (i : ℕ) (l : Line) (p : NewParty) (open_parties : List (OpenParty D)) → EachBehind may_follow lines → i < length lines → l ≡ get_or lines i l → new_party l ≡ Some p → owners open_parties ≡ parties_in (take i lines) → NoneOf open_parties p.own
  apart_at lines i l p open_parties rules lt is at same =
      let may : may_follow (take i lines) (line_of_party p) ≡ true = ap (may_follow (take i lines)) (sym (line_is l p at)) ∙ follows lines i l rules lt is in
      none_in open_parties p.own (subst (λ (os : List (List ℕ)). NoneIn os p.own) (sym same) (may_be_declared (take i lines) p.own may))

  -- the identity of the party of a line, where it declares one
  pub apart_next : (lines : List Line) (i : ℕ) (l : Line) (open_parties : List (OpenParty D)) → EachBehind may_follow lines → i < length lines → l ≡ get_or lines i l → owners open_parties ≡ parties_in (take i lines) → IfSome (new_party l) (λ (p : NewParty). NoneOf open_parties p.own)
  apart_next lines i l open_parties rules lt is same = go (new_party l) refl
    where
      go : (o : Option NewParty) → new_party l ≡ o → IfSome o (λ (p : NewParty). NoneOf open_parties p.own)
      go None none = tt
      go (Some p) some = apart_at lines i l p open_parties rules lt is some same

  -- ---- one more party

  open_push : (open_parties : List (OpenParty D)) (own : List ℕ) (n : Stored D) → AreOpen open_parties → AreOpen (open_parties ++ open_party own (Open n) ∷ [])
  open_push [] own n all = (tt, tt)
  open_push (s ∷ open_parties) own n all = (all.0, open_push open_parties own n all.1)

  owners_push : (open_parties : List (OpenParty D)) (s : OpenParty D) → owners (open_parties ++ s ∷ []) ≡ owners open_parties ++ s.own ∷ []
  owners_push [] s = refl
  owners_push (t ∷ open_parties) s = ap (λ (os : List (List ℕ)). t.own ∷ os) (owners_push open_parties s)

  none_push : (open_parties : List (OpenParty D)) (s : OpenParty D) (own : List ℕ) → NoneOf open_parties own → s.own ≢ own → NoneOf (open_parties ++ s ∷ []) own
  none_push [] s own none apart = (apart, tt)
  none_push (t ∷ open_parties) s own none apart = (none.0, none_push open_parties s own none.1 apart)

  none_parts : (open_parties : List (OpenParty D)) (s : OpenParty D) (own : List ℕ) → NoneOf (open_parties ++ s ∷ []) own → NoneOf open_parties own × (s.own ≢ own)
  none_parts [] s own none = (tt, none.0)
  none_parts (t ∷ open_parties) s own none = let more = none_parts open_parties s own none.1 in ((none.0, more.0), more.1)

  apart_push : (open_parties : List (OpenParty D)) (s : OpenParty D) → AreApart open_parties → NoneOf open_parties s.own → AreApart (open_parties ++ s ∷ [])
  apart_push [] s apart none = (tt, tt)
  apart_push (t ∷ open_parties) s apart none = (none_push open_parties s t.own apart.0 (λ same. none.0 (sym same)), apart_push open_parties s apart.1 none.1)

  slots_push : (slot : List ℕ → Type 0) (open_parties : List (OpenParty D)) (s : OpenParty D) → AllSlots slot (owners open_parties) → slot s.own → AllSlots slot (owners (open_parties ++ s ∷ []))
  slots_push slot [] s all one = (one, tt)
  slots_push slot (t ∷ open_parties) s all one = (all.0, slots_push slot open_parties s all.1 one)

  members_push : (open_parties : List (OpenParty D)) (own : List ℕ) (n : Stored D) → members (open_parties ++ open_party own (Open n) ∷ []) ≡ members open_parties ++ member_of n ∷ []
  members_push [] own n = refl
  members_push (s ∷ open_parties) own n = ap (with_held s.held) (members_push open_parties own n) ∙ go s.held
    where
      go : (h : PartyDisk D) → with_held h (members open_parties ++ member_of n ∷ []) ≡ with_held h (members open_parties) ++ member_of n ∷ []
      go (Open m) = refl
      go (Closed disk) = refl
      go Away = refl

  in_push : (tell : Bool) (told : D → View) (open_parties : List (OpenParty D)) (own : List ℕ) (n : Stored D) → AreIn tell told open_parties → IsOf tell told own n → AreIn tell told (open_parties ++ open_party own (Open n) ∷ [])
  in_push tell told [] own n all of = (of, tt)
  in_push tell told (s ∷ open_parties) own n all of = (all.0, in_push tell told open_parties own n all.1 of)

pub slots_on : (old new : List ℕ → Type 0) (own : List (List ℕ)) → SlotsStay old new → AllSlots old own → AllSlots new own
slots_on old new [] stay all = tt
slots_on old new (o ∷ own) stay all = (stay o all.0, slots_on old new own stay all.1)

pub tell_parts : (entry : List ℕ → View) (a b : List (List ℕ)) → AllTell entry (a ++ b) → AllTell entry a × AllTell entry b
tell_parts entry [] b all = (tt, all)
tell_parts entry (o ∷ a) b all = let more = tell_parts entry a b all.1 in ((all.0, more.0), more.1)

blank_push : (entry : List ℕ → View) (a : List (List ℕ)) (own : List ℕ) → AllReadBlank entry a → ReadsBlank (entry own) → AllReadBlank entry (a ++ own ∷ [])
blank_push entry [] own all one = (one, tt)
blank_push entry (o ∷ a) own all one = (all.0, blank_push entry a own all.1 one)

-- ---- the parties so far

-- before the first line
pub none_set_up : {D : Type 0} (told : D → View) (lines : List Line) (entry : List ℕ → View) (slot : List ℕ → Type 0) → ((own : List ℕ) → IsSound (entry own)) → AreSetUp told lines [] entry entry slot []
none_set_up told lines entry slot sound = record {
  opened = tt;
  owners_are = refl;
  apart = tt;
  slots = tt;
  others = λ own none. alike_refl (entry own);
  shown = λ tell tells. record { all_open = tt; members_are = refl; blank = tt };
  any_moment = λ tells own. adds_none (entry own) (entry own) (IsOfSetUp lines own (entry own)) (sound own) (alike_refl (entry own));
}

module _ {D : Type 0} (told : D → View) (lines : List Line) (start entry : List ℕ → View) (slot : List ℕ → Type 0) (open_parties : List (OpenParty D)) where
  module _ (rules : EachBehind may_follow lines) (i : ℕ) (l : Line) (lt : i < length lines) (is : l ≡ get_or lines i l) (so_far : AreSetUp told lines (take i lines) start entry slot open_parties)
      (entry2 : List ℕ → View) (slot2 : List ℕ → Type 0) (stay : SlotsStay slot slot2) where
    apart_from : (p : NewParty) → new_party l ≡ Some p → NoneOf open_parties p.own
    apart_from p at = apart_at lines i l p open_parties rules lt is at so_far.owners_are

    alike_at : (p : NewParty) → new_party l ≡ Some p → IsAlike (start p.own) (entry p.own)
    alike_at p at = so_far.others p.own (apart_from p at)

    skips : (open_parties2 : List (OpenParty D)) → new_party l ≡ None → open_parties2 ≡ open_parties → AllStay entry entry2 → AreSetUp told lines (take (i + 1) lines) start entry2 slot2 open_parties2
    skips open_parties2 at same all = subst (λ (s : List (OpenParty D)). AreSetUp told lines (take (i + 1) lines) start entry2 slot2 s) (sym same) (record {
      opened = so_far.opened;
      owners_are = so_far.owners_are ∙ sym parties;
      apart = so_far.apart;
      slots = slots_on slot slot2 (owners open_parties) stay so_far.slots;
      others = λ own none. alike_trans (start own) (entry own) (entry2 own) (so_far.others own none) (all own);
      shown = λ tell tells.
          let s = so_far.shown tell (λ t. subst (AllTell start) parties (tells t)) in
          record { all_open = s.all_open; members_are = s.members_are ∙ sym names; blank = subst (AllReadBlank start) (sym parties) s.blank };
      any_moment = λ tells own.
          adds_end (start own) (disk_of told entry open_parties own) (disk_of told entry2 open_parties own) (IsOfSetUp lines own (start own)) (so_far.any_moment (subst (AllTell start) parties tells) own) (still_there told entry entry2 open_parties own (all own));
    })
      where
        parties : parties_in (take (i + 1) lines) ≡ parties_in (take i lines)
        parties = parties_more lines i l lt is None at ∙ append-nil (parties_in (take i lines))

        names : members_by lines (take (i + 1) lines) ≡ members_by lines (take i lines)
        names = members_more lines i l lt is None at ∙ append-nil (members_by lines (take i lines))

    module _ (p : NewParty) (at : new_party l ≡ Some p) where
      parties : parties_in (take (i + 1) lines) ≡ parties_in (take i lines) ++ p.own ∷ []
      parties = parties_more lines i l lt is (Some p) at

      told_both : AllTell start (parties_in (take (i + 1) lines)) → AllTell start (parties_in (take i lines)) × Tells (start p.own)
      told_both tells = let both = tell_parts start (parties_in (take i lines)) (p.own ∷ []) (subst (AllTell start) parties tells) in (both.0, both.1.0)

      module _ (node : Stored D) (made : IsSetUp told (entry p.own) (full_member lines p) node) where
        here : Tells (start p.own) → Tells (entry p.own)
        here tells = ap is_some (alike_at p at).now ∙ tells

        of : (tell : Bool) → (tell ≡ true → Tells (start p.own)) → IsOf tell told p.own node
        of tell tells = record {
          named = ap own_of made.member ∙ own_stays (new_member p) (loads_of p.own lines);
          tells = λ t. made.tells ∙ here (tells t);
        }

        shows : (tell : Bool) → (tell ≡ true → AllTell start (parties_in (take (i + 1) lines))) → ShowMembers tell told lines (take (i + 1) lines) start (open_parties ++ open_party p.own (Open node) ∷ [])
        shows tell tells =
            let s = so_far.shown tell (λ t. (told_both (tells t)).0) in
            record {
              all_open = in_push tell told open_parties p.own node s.all_open (of tell (λ t. (told_both (tells t)).1));
              members_are =
                  members_push open_parties p.own node
                  ∙ (ap (λ (ms : List Member). ms ++ member_of node ∷ []) s.members_are
                  ∙ (ap (λ (m : Member). members_by lines (take i lines) ++ m ∷ []) made.member ∙ sym (members_more lines i l lt is (Some p) at)));
              blank = subst (AllReadBlank start) (sym parties) (blank_push start (parties_in (take i lines)) p.own s.blank (λ image now. made.blank image ((alike_at p at).now ∙ now)));
            }

      joins : (open_parties2 : List (OpenParty D)) → IsAddedNext told lines p entry entry2 slot2 open_parties open_parties2 → AreSetUp told lines (take (i + 1) lines) start entry2 slot2 open_parties2
      joins open_parties2 next = subst (λ (s : List (OpenParty D)). AreSetUp told lines (take (i + 1) lines) start entry2 slot2 s) (sym next.behind) (record {
        opened = open_push open_parties p.own next.node so_far.opened;
        owners_are = owners_push open_parties (open_party p.own (Open next.node)) ∙ (ap (λ (os : List (List ℕ)). os ++ p.own ∷ []) so_far.owners_are ∙ sym parties);
        apart = apart_push open_parties (open_party p.own (Open next.node)) so_far.apart (apart_from p at);
        slots = slots_push slot2 open_parties (open_party p.own (Open next.node)) (slots_on slot slot2 (owners open_parties) stay so_far.slots) next.placed;
        others = λ own none.
            let both = none_parts open_parties (open_party p.own (Open next.node)) own none in
            alike_trans (start own) (entry own) (entry2 own) (so_far.others own both.0) (next.others own (λ same. both.1 (sym same)));
        shown = shows next.node next.made;
        any_moment = λ tells own. each tells own (bytes_eq p.own own) refl;
      })
        where
          mine : AllTell start (parties_in (take (i + 1) lines)) → SetsUpOnly lines p.own (start p.own) (disk_of told entry2 (open_parties ++ open_party p.own (Open next.node) ∷ []) p.own)
          mine tells =
              subst (λ (h : PartyDisk D). SetsUpOnly lines p.own (start p.own) (held_view told (entry2 p.own) h)) (sym (held_last open_parties p.own (Open next.node) (apart_from p at)))
              (sets_up_only lines (take i lines) (drop (i + 1) lines) p (start p.own) (told next.node.disk) (split_at_party lines i l p lt is at) (told_both tells).1
              (begins_from (start p.own) (entry p.own) (told next.node.disk) (new_member p) (loads_of p.own lines) (alike_at p at) next.any_moment))

          each : AllTell start (parties_in (take (i + 1) lines)) → (own : List ℕ) (t : Bool) → bytes_eq p.own own ≡ t → SetsUpOnly lines own (start own) (disk_of told entry2 (open_parties ++ open_party p.own (Open next.node) ∷ []) own)
          each tells own true same =
              subst (λ (name : List ℕ). SetsUpOnly lines name (start name) (disk_of told entry2 (open_parties ++ open_party p.own (Open next.node) ∷ []) name)) ((bytes_eq-Decides p.own own).0 same) (mine tells)
          each tells own false other =
              subst (λ (h : PartyDisk D). SetsUpOnly lines own (start own) (held_view told (entry2 own) h)) (sym (held_front open_parties (open_party p.own (Open next.node)) own (apart_by p.own own other)))
              (adds_end (start own) (disk_of told entry open_parties own) (disk_of told entry2 open_parties own) (IsOfSetUp lines own (start own)) (so_far.any_moment (told_both tells).0 own)
              (still_there told entry entry2 open_parties own (next.others own (λ same. apart_by p.own own other (sym same)))))

    pub set_up_more : (open_parties2 : List (OpenParty D)) → AddsNext told lines (new_party l) entry entry2 slot2 open_parties open_parties2 → AreSetUp told lines (take (i + 1) lines) start entry2 slot2 open_parties2
    set_up_more open_parties2 next = go (new_party l) refl next
      where
        go : (o : Option NewParty) → new_party l ≡ o → AddsNext told lines o entry entry2 slot2 open_parties open_parties2 → AreSetUp told lines (take (i + 1) lines) start entry2 slot2 open_parties2
        go None at none = skips open_parties2 at none.0 none.1
        go (Some p) at some = joins p at open_parties2 some

  -- the others' disks stay
  pub strangers : (front : List Line) → AreSetUp told lines front start entry slot open_parties → (own : List ℕ) → (Contains (parties_in front) own → ⊥) → IsAlike (start own) (entry own)
  strangers front all own never = all.others own (none_of open_parties own (λ c. never (subst (λ (os : List (List ℕ)). Contains os own) all.owners_are c)))
