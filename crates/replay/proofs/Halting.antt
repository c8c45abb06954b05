-- A set-up ends early: the disks are put back.
use Rattle.std.proofs.Common.{◌≡◌, ℕ, zero, ◌+◌, ◌<◌, Bool, true, false, bytes_eq, List, ◌∷◌, ◌++◌, length, get_or, take, drop, Option, Some, None, is_some, refl, sym, ◌∙◌, ap, subst, arith}
use Rattle.std.specs.Prelude.{Contains}
use mathlib.Core.Logic.{◌≢◌}
use Rattle.std.proofs.lemmas.List.Elements.{filter_map-append, Contains-append_left, Contains-append_right}
use Rattle.std.proofs.lemmas.Slice.Eq.{bytes_eq-Decides}
use Rattle.x_disk.specs.Disk.{View, Tells, IsSound}
use Rattle.x_disk.specs.Shelf.{IsAlike}
use Rattle.scenario.specs.declared.line.Line.{Line}
use Rattle.scenario.specs.Behind.{EachBehind}
use Rattle.scenario.specs.Rules.{may_follow}
use Rattle.replay.specs.Breaking.{AreOnShelf, AreDurable}
use Rattle.open_parties.specs.Closing.{AllBack, OtherDisksStay}
use Rattle.open_parties.specs.Crash.{disk_of}
use Rattle.open_parties.specs.OpenParties.{members, owners, NoneOf}
use Rattle.course.specs.Starts.{loads_of}
use Rattle.course.specs.Parties.{new_party, line_of_party, party_in, parties_in, new_member}
use Rattle.replay.specs.SettingUp.{AllTell, BeginsInPart, BeginsOnly, IsOrFails, IsFailedSetUpNext, FailsSetUpNext, IsOfSetUp, SetsUpOnly, AreSetUp, IsSetUpEnd}
use Rattle.course.specs.declared.declaring.NewParty.{NewParty}
use Rattle.replay.specs.declared.making.SetUpEnd.{SetUpEnd}
use Rattle.open_parties.specs.declared.open_party.OpenParty.{OpenParty}
use Rattle.replay.proofs.Breakage.{stand_open}
use Rattle.replay.proofs.Adding.{adds_end, adds_now}
use Rattle.open_parties.proofs.Holding.{apart_by, still_there, back_on_shelf}
use Rattle.replay.proofs.Joining.{begins_from, begins_to, sets_up_only, split_at_party, failed_set_up_alike, failed_set_up_or_fails, none_of, tell_parts, apart_at}
use Rattle.replay.proofs.Lasting.{durable_back}
use Rattle.x_disk.proofs.Alike.{alike_trans}
use Rattle.replay.proofs.Standing.{stand_on_shelf}

-- the party of a line is among those of all
party_of_line : (front back : List Line) (p : NewParty) → Contains (parties_in (front ++ line_of_party p ∷ back)) p.own
party_of_line front back p =
    subst (λ (os : List (List ℕ)). Contains os p.own) (sym (filter_map-append party_in front (line_of_party p ∷ back)))
    (Contains-append_right (parties_in front) (parties_in (line_of_party p ∷ back)) p.own (zero, omega arith, refl))

module _ {D : Type 0} (told : D → View) (lines : List Line) (start entry : List ℕ → View) (slot : List ℕ → Type 0) (open_parties : List (OpenParty D)) (front tail : List Line) (p : NewParty) (split : lines ≡ front ++ line_of_party p ∷ tail)
    (none : NoneOf open_parties p.own) (so_far : AreSetUp told lines front start entry slot open_parties) (entry2 entry3 : List ℕ → View) (why end : SetUpEnd) (failed_set_up : IsFailedSetUpNext lines p entry entry2 why)
    (back : AllBack told entry2 entry3 open_parties) (others : OtherDisksStay entry2 entry3 open_parties) (ends : IsOrFails why end) where
  tell : AllTell start (parties_in lines) → AllTell start (parties_in front) × Tells (start p.own)
  tell tells =
      let all = subst (AllTell start) (ap parties_in split ∙ filter_map-append party_in front (line_of_party p ∷ tail)) tells in
      let both = tell_parts start (parties_in front) (parties_in (line_of_party p ∷ tail)) all in
      (both.0, both.1.0)

  alike : IsAlike (start p.own) (entry p.own)
  alike = so_far.others p.own none

  other_stays : (own : List ℕ) → NoneOf open_parties own → own ≢ p.own → IsAlike (start own) (entry3 own)
  other_stays own out apart = alike_trans (start own) (entry own) (entry3 own) (so_far.others own out) (alike_trans (entry own) (entry2 own) (entry3 own) (failed_set_up.others own apart) (others own out))

  -- a crash at any moment of the set-up
  begun_only : BeginsOnly (start p.own) (entry3 p.own) (new_member p) (loads_of p.own lines)
  begun_only =
      begins_to (start p.own) (entry2 p.own) (entry3 p.own) (new_member p) (loads_of p.own lines)
      (begins_from (start p.own) (entry p.own) (entry2 p.own) (new_member p) (loads_of p.own lines) alike failed_set_up.any_moment) (others p.own none)

  pub ends_only : AllTell start (parties_in lines) → (own : List ℕ) → SetsUpOnly lines own (start own) (entry3 own)
  ends_only tells own = go (bytes_eq p.own own) refl
    where
      go : (t : Bool) → bytes_eq p.own own ≡ t → SetsUpOnly lines own (start own) (entry3 own)
      go true same =
          subst (λ (name : List ℕ). SetsUpOnly lines name (start name) (entry3 name)) ((bytes_eq-Decides p.own own).0 same) (sets_up_only lines front tail p (start p.own) (entry3 p.own) split (tell tells).1 begun_only)
      go false other =
          adds_end (start own) (disk_of told entry2 open_parties own) (entry3 own) (IsOfSetUp lines own (start own))
          (adds_end (start own) (disk_of told entry open_parties own) (disk_of told entry2 open_parties own) (IsOfSetUp lines own (start own)) (so_far.any_moment (tell tells).0 own)
          (still_there told entry entry2 open_parties own (failed_set_up.others own (λ same. apart_by p.own own other (sym same)))))
          (back_on_shelf told entry2 entry3 open_parties own back (others own))

  pub ends_early : IsSound (entry3 p.own) → AllTell start (parties_in lines) → IsSetUpEnd lines start entry3 end
  ends_early sound tells =
      let both = tell tells in
      let s = so_far.shown true (λ t. both.0) in
      let here = ap is_some alike.now ∙ both.1 in
      record {
        front = front;
        party = p;
        back = tail;
        split = split;
        to = record {
          images = subst (AreOnShelf entry3) s.members_are (stand_on_shelf told entry2 entry3 open_parties (members open_parties) back (stand_open told entry2 open_parties s.all_open));
          durable = subst (AreDurable entry3) s.members_are (durable_back told entry2 entry3 open_parties back s.all_open);
          blank = s.blank;
          others = λ own never apart. other_stays own (none_out so_far own never) apart;
        };
        failed_set_up = failed_set_up_or_fails (start p.own) (entry3 p.own) (new_member p) (loads_of p.own lines) why end both.1
            (failed_set_up_alike (entry p.own) (entry2 p.own) (start p.own) (entry3 p.own) (new_member p) (loads_of p.own lines) why alike.now (sym (others p.own none).now) (failed_set_up.failed_set_up here)) ends;
        leaves = adds_now (start p.own) (entry3 p.own) (BeginsInPart (start p.own) (new_member p) (loads_of p.own lines)) sound (begun_only both.1);
      }
    where
      none_out : AreSetUp told lines front start entry slot open_parties → (own : List ℕ) → (Contains (parties_in front) own → ⊥) → NoneOf open_parties own
      none_out all own never = none_of open_parties own (λ c. never (subst (λ (os : List (List ℕ)). Contains os own) all.owners_are c))

  -- the disks of all others stay, whatever is told
  pub strangers_stay : (own : List ℕ) → (Contains (parties_in lines) own → ⊥) → IsAlike (start own) (entry3 own)
  strangers_stay own never = other_stays own (none_of open_parties own (λ c. never (earlier c))) (λ same. never (mine same))
    where
      mine : own ≡ p.own → Contains (parties_in lines) own
      mine same = subst (λ (o : List ℕ). Contains (parties_in lines) o) (sym same) (subst (λ (os : List (List ℕ)). Contains os p.own) (sym (ap parties_in split)) (party_of_line front tail p))

      earlier : Contains (owners open_parties) own → Contains (parties_in lines) own
      earlier c =
          subst (λ (os : List (List ℕ)). Contains os own) (sym (ap parties_in split ∙ filter_map-append party_in front (line_of_party p ∷ tail)))
          (Contains-append_left (parties_in front) (parties_in (line_of_party p ∷ tail)) own (subst (λ (os : List (List ℕ)). Contains os own) so_far.owners_are c))

module _ {D : Type 0} (told : D → View) (lines : List Line) (start entry : List ℕ → View) (slot : List ℕ → Type 0) (open_parties : List (OpenParty D)) (rules : EachBehind may_follow lines) (i : ℕ) (l : Line) (lt : i < length lines) (is : l ≡ get_or lines i l)
    (so_far : AreSetUp told lines (take i lines) start entry slot open_parties) (entry2 entry3 : List ℕ → View) (why end : SetUpEnd) (failed_set_up : FailsSetUpNext lines (new_party l) entry entry2 why)
    (back : AllBack told entry2 entry3 open_parties) (others : OtherDisksStay entry2 entry3 open_parties) (ends : IsOrFails why end) where
  pub halts_only : AllTell start (parties_in lines) → (own : List ℕ) → SetsUpOnly lines own (start own) (entry3 own)
  halts_only tells own = go (new_party l) refl failed_set_up
    where
      go : (o : Option NewParty) → new_party l ≡ o → FailsSetUpNext lines o entry entry2 why → SetsUpOnly lines own (start own) (entry3 own)
      go None at u = absurd u
      go (Some p) at u = ends_only told lines start entry slot open_parties (take i lines) (drop (i + 1) lines) p (split_at_party lines i l p lt is at) (apart_at lines i l p open_parties rules lt is at so_far.owners_are) so_far entry2 entry3 why end u back others ends tells own

  pub halts : ((own : List ℕ) → IsSound (entry3 own)) → AllTell start (parties_in lines) → IsSetUpEnd lines start entry3 end
  halts sound tells = go (new_party l) refl failed_set_up
    where
      go : (o : Option NewParty) → new_party l ≡ o → FailsSetUpNext lines o entry entry2 why → IsSetUpEnd lines start entry3 end
      go None at u = absurd u
      go (Some p) at u = ends_early told lines start entry slot open_parties (take i lines) (drop (i + 1) lines) p (split_at_party lines i l p lt is at) (apart_at lines i l p open_parties rules lt is at so_far.owners_are) so_far entry2 entry3 why end u back others ends (sound p.own) tells

  pub halts_others : (own : List ℕ) → (Contains (parties_in lines) own → ⊥) → IsAlike (start own) (entry3 own)
  halts_others own never = go (new_party l) refl failed_set_up
    where
      go : (o : Option NewParty) → new_party l ≡ o → FailsSetUpNext lines o entry entry2 why → IsAlike (start own) (entry3 own)
      go None at u = absurd u
      go (Some p) at u = strangers_stay told lines start entry slot open_parties (take i lines) (drop (i + 1) lines) p (split_at_party lines i l p lt is at) (apart_at lines i l p open_parties rules lt is at so_far.owners_are) so_far entry2 entry3 why end u back others ends own never
