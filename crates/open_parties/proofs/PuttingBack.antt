-- The disks are put back, one after another.
use Rattle.x_base.specs.Edge.{Rose}
use Rattle.std.proofs.Common.{◌≡◌, inl, inr, ⊎_elim, ℕ, ◌≤◌, arith, List, [], ◌∷◌, ◌++◌, length, refl, sym, ◌∙◌, ap, subst, append_assoc, ◌<◌}
use mathlib.Core.Logic.{◌≢◌}
use Rattle.std.proofs.lemmas.List.{append-nil}
use Rattle.x_disk.specs.Disk.{View}
use Rattle.x_disk.specs.Shelf.{IsAlike, OthersStay, SlotsStay, alike_refl}
use Rattle.x_disk.proofs.Alike.{alike_trans}
use Rattle.key_store.specs.Store.{Stored}
use Rattle.open_parties.specs.OpenParties.{open_party, NoneOf, IsPlace, IsTakenOut, owners}
use Rattle.open_parties.specs.Closing.{IsBack, AllBack, OtherDisksStay, AllSlots, AreApart, IsFaulty, AnyFaulty, IsClosing}
use Rattle.open_parties.specs.declared.open_party.OpenParty.{OpenParty}
use Rattle.open_parties.specs.declared.open_party.PartyDisk.{PartyDisk}
use Rattle.open_parties.specs.declared.open_party.PartyDisk.TheVariants.{Open, Closed, Away}
use Rattle.open_parties.proofs.Owning.{none_alike}

pub rose_on : (a b e : ℕ) → a ≤ b → Rose b e → Rose a e
rose_on a b e le (inl less) = inl (omega (arith, le, less))
rose_on a b e le (inr most) = inr most

pub rose_then : (a b e : ℕ) → b ≤ e → Rose a b → Rose a e
rose_then a b e le (inl less) = inl (omega (arith, le, less))
rose_then a b e le (inr most) = inr (omega (arith, le, most))

module _ {D : Type 0} (told : D → View) where
  back_on : (start old new : List ℕ → View) (own other : List ℕ) (h : PartyDisk D) → OthersStay own old new → other ≢ own → IsBack told start old other h → IsBack told start new other h
  back_on start old new own other (Open node) others apart back = (alike_trans (told node.disk) (old other) (new other) back.0 (others other apart), back.1)
  back_on start old new own other (Closed disk) others apart back = alike_trans (told disk) (old other) (new other) back (others other apart)
  back_on start old new own other Away others apart back = alike_trans (start other) (old other) (new other) back (others other apart)

  all_on : (start old new : List ℕ → View) (own : List ℕ) (open_parties : List (OpenParty D)) → OthersStay own old new → NoneOf open_parties own → AllBack told start old open_parties → AllBack told start new open_parties
  all_on start old new own [] others none back = tt
  all_on start old new own (s ∷ open_parties) others none back = (back_on start old new own s.own s.held others none.0 back.0, all_on start old new own open_parties others none.1 back.1)

  -- a disk that stayed until it was put back
  back_since : (start old new : List ℕ → View) (own : List ℕ) (h : PartyDisk D) → IsAlike (start own) (old own) → IsBack told old new own h → IsBack told start new own h
  back_since start old new own (Open node) stayed back = back
  back_since start old new own (Closed disk) stayed back = back
  back_since start old new own Away stayed back = alike_trans (start own) (old own) (new own) stayed back

  apart_at : (left : List (OpenParty D)) (s : OpenParty D) (done : List (OpenParty D)) → AreApart (left ++ s ∷ done) → NoneOf done s.own
  apart_at [] s done apart = apart.0
  apart_at (l ∷ left) s done apart = apart_at left s done apart.1

  pub apart_other : (front : List (OpenParty D)) (s : OpenParty D) (back : List (OpenParty D)) (own : List ℕ) → NoneOf (front ++ s ∷ back) own → s.own ≢ own
  apart_other [] s back own none = none.0
  apart_other (f ∷ front) s back own none = apart_other front s back own none.1

  -- where the disk of one party was taken out and put back, those of no party here stay
  pub others_stay : (old new : List ℕ → View) (open_parties : List (OpenParty D)) (place : ℕ) (node : Stored D) (mid : List (OpenParty D)) (own : List ℕ) → IsPlace open_parties own place → IsTakenOut open_parties mid place node → OthersStay own old new → OtherDisksStay old new open_parties
  others_stay old new open_parties place node mid own is_place l stay = λ other none.
      stay other (λ same. apart_other l.front (open_party l.own (Open node)) l.back other (subst (λ (ss : List (OpenParty D)). NoneOf ss other) l.before none) ((is_place l.front (open_party l.own (Open node)) l.back l.before l.size).1 ∙ sym same))

  pub slots_at : (slot : List ℕ → Type 0) (left : List (OpenParty D)) (s : OpenParty D) → AllSlots slot (owners (left ++ s ∷ [])) → slot s.own
  slots_at slot [] s all = all.0
  slots_at slot (l ∷ left) s all = slots_at slot left s all.1

  pub slots_front : (old new : List ℕ → Type 0) (left : List (OpenParty D)) (s : OpenParty D) → SlotsStay old new → AllSlots old (owners (left ++ s ∷ [])) → AllSlots new (owners left)
  slots_front old new [] s stay all = tt
  slots_front old new (l ∷ left) s stay all = (stay l.own all.0, slots_front old new left s stay all.1)

  pub closes : (entry : List ℕ → View) (count : ℕ) (all : List (OpenParty D)) → IsClosing told entry entry count count all all
  closes entry count all = record { done = []; split = sym (append-nil all); back = tt; others = λ own none. alike_refl (entry own); seen = λ faulty. absurd faulty }

  pub closes_on : (start old new : List ℕ → View) (before mid after : ℕ) (all was left : List (OpenParty D)) (s : OpenParty D) → before ≤ mid → mid ≤ after → AreApart all → was ≡ left ++ s ∷ [] → IsClosing told start old before mid all was
      → IsBack told old new s.own s.held → (IsFaulty told s.held → Rose mid after) → OthersStay s.own old new → IsClosing told start new before after all left
  closes_on start old new before mid after all was left s first last apart is so_far back seen others =
      let split : all ≡ left ++ (s ∷ so_far.done) = so_far.split ∙ (ap (λ (l : List (OpenParty D)). l ++ so_far.done) is ∙ append_assoc left (s ∷ []) so_far.done) in
      let alone : NoneOf so_far.done s.own = apart_at left s so_far.done (subst AreApart split apart) in
      record {
        done = s ∷ so_far.done;
        split = split;
        back = (back_since start old new s.own s.held (so_far.others s.own alone) back, all_on start old new s.own so_far.done others alone so_far.back);
        others = λ own none. alike_trans (start own) (old own) (new own) (so_far.others own none.1) (others own (λ is_own. none.0 (sym is_own)));
        seen = λ faulty. ⊎_elim (λ one. rose_on before mid after first (seen one)) (λ more. rose_then before mid after last (so_far.seen more)) faulty;
      }

  pub none_left : (left : List (OpenParty D)) → length left ≡ 0 → left ≡ []
  none_left [] is = refl
  none_left (s ∷ left) is = absurd (omega (arith, is))

  pub closed : (start entry : List ℕ → View) (before after : ℕ) (all left : List (OpenParty D)) → left ≡ [] → IsClosing told start entry before after all left
      → AllBack told start entry all × (OtherDisksStay start entry all × (AnyFaulty told all → Rose before after))
  closed start entry before after all left none closing =
      let is : all ≡ closing.done = closing.split ∙ ap (λ (l : List (OpenParty D)). l ++ closing.done) none in (
        subst (AllBack told start entry) (sym is) closing.back,
        (λ own alone. closing.others own (subst (λ (ss : List (OpenParty D)). NoneOf ss own) is alone), λ faulty. closing.seen (subst (AnyFaulty told) is faulty)),
      )

-- the disks of all others stay from line to line
module _ {D : Type 0} where
  pub others_on : (old mid new : List ℕ → View) (open_parties now : List (OpenParty D)) → owners now ≡ owners open_parties → OtherDisksStay old mid open_parties → OtherDisksStay mid new now → OtherDisksStay old new open_parties
  others_on old mid new open_parties now same first more = λ own none. alike_trans (old own) (mid own) (new own) (first own none) (more own (none_alike open_parties now own (sym same) none))

-- a closed disk that failed
pub faulty_at : {D : Type 0} (told : D → View) (front : List (OpenParty D)) (own : List ℕ) (disk : D) (back : List (OpenParty D)) → 0 < (told disk).faults → AnyFaulty told (front ++ open_party own (Closed disk) ∷ back)
faulty_at told [] own disk back some = inl some
faulty_at told (f ∷ front) own disk back some = inr (faulty_at told front own disk back some)
