-- Where the disk of a party is: while it is taken out, while parties are added, and where all disks are put back.
use Rattle.std.proofs.Common.{◌≡◌, ℕ, Bool, true, false, cond, List, [], ◌∷◌, ◌++◌, bytes_eq, refl, sym, ◌∙◌, ap, subst, subst₂}
use mathlib.Core.Logic.{◌≢◌}
use Rattle.std.proofs.lemmas.Slice.Eq.{bytes_eq-Decides}
use Rattle.x_disk.specs.Disk.{View, LeavesOnly}
use Rattle.x_disk.specs.Shelf.{IsAlike, OthersStay, alike_refl}
use Rattle.x_disk.proofs.Runs.{weaker}
use Rattle.key_store.specs.Store.{Stored}
use Rattle.open_parties.specs.Crash.{held_view, held_of, disk_of, IsHeldStill, IsHeldAgain}
use Rattle.open_parties.specs.OpenParties.{open_party, Fills, IsTakenOut, IsPlace, NoneOf}
use Rattle.open_parties.specs.declared.open_party.OpenParty.{OpenParty}
use Rattle.open_parties.specs.declared.open_party.PartyDisk.{PartyDisk}
use Rattle.open_parties.specs.declared.open_party.PartyDisk.TheVariants.{Open, Closed, Away}
use Rattle.open_parties.proofs.Members.{cond_not, cond_yes, same_not, same_yes}
use Rattle.open_parties.specs.Closing.{IsBack, AllBack}

module _ {D : Type 0} where
  pub held_here : (front : List (OpenParty D)) (s : OpenParty D) (back : List (OpenParty D)) (own : List ℕ) → NoneOf front own → s.own ≡ own → held_of (front ++ s ∷ back) own ≡ s.held
  held_here [] s back own none is = cond_yes (bytes_eq s.own own) s.held (held_of back own) (same_yes s.own own is)
  held_here (f ∷ front) s back own none is = cond_not (bytes_eq f.own own) f.held (held_of (front ++ s ∷ back) own) (same_not f.own own none.0) ∙ held_here front s back own none.1 is

  pub held_elsewhere : (front : List (OpenParty D)) (name : List ℕ) (h k : PartyDisk D) (back : List (OpenParty D)) (own : List ℕ) → name ≢ own → held_of (front ++ open_party name h ∷ back) own ≡ held_of (front ++ open_party name k ∷ back) own
  held_elsewhere [] name h k back own apart = cond_not (bytes_eq name own) h (held_of back own) (same_not name own apart) ∙ sym (cond_not (bytes_eq name own) k (held_of back own) (same_not name own apart))
  held_elsewhere (f ∷ front) name h k back own apart = ap (λ (x : PartyDisk D). cond (bytes_eq f.own own) f.held x) (held_elsewhere front name h k back own apart)

  pub held_alike : (told : D → View) (v w : View) (h : PartyDisk D) → IsAlike v w → IsAlike (held_view told v h) (held_view told w h)
  held_alike told v w (Open node) alike = alike_refl (told node.disk)
  held_alike told v w (Closed disk) alike = alike_refl (told disk)
  held_alike told v w Away alike = alike

  -- what is held stays, and so does the disk on the shelf
  pub held_still : (told : D → View) (before after : List ℕ → View) (old new : List (OpenParty D)) (own : List ℕ) → held_of new own ≡ held_of old own → IsAlike (before own) (after own) → IsHeldStill told before after old new own
  held_still told before after old new own same alike = record {
    held = same;
    alike = subst (λ (h : PartyDisk D). IsAlike (held_view told (before own) (held_of old own)) (held_view told (after own) h)) (sym same) (held_alike told (before own) (after own) (held_of old own) alike);
  }

-- the party of a place was taken out
module _ {D : Type 0} (told : D → View) (before after : List ℕ → View) (old mid new : List (OpenParty D)) (place : ℕ) (node : Stored D) (l : IsTakenOut old mid place node) (own : List ℕ) (is_place : IsPlace old own place)
    (stay : OthersStay own before after) where
  here : NoneOf l.front own × (l.own ≡ own)
  here = is_place l.front (open_party l.own (Open node)) l.back l.before l.size

  was_held : held_of old own ≡ Open node
  was_held = ap (λ (ss : List (OpenParty D)). held_of ss own) l.before ∙ held_here l.front (open_party l.own (Open node)) l.back own here.0 here.1

  now_held : (held : PartyDisk D) → Fills mid new place held → held_of new own ≡ held
  now_held held fills = ap (λ (ss : List (OpenParty D)). held_of ss own) (fills l.front l.own l.back l.after l.size) ∙ held_here l.front (open_party l.own held) l.back own here.0 here.1

  -- nothing was done to the others
  pub others_still : (held : PartyDisk D) → Fills mid new place held → (other : List ℕ) → other ≢ own → IsHeldStill told before after old new other
  others_still held fills other apart = held_still told before after old new other
      (ap (λ (ss : List (OpenParty D)). held_of ss other) (fills l.front l.own l.back l.after l.size)
      ∙ (held_elsewhere l.front l.own held (Open node) l.back other (λ same. apart (sym same ∙ here.1)) ∙ sym (ap (λ (ss : List (OpenParty D)). held_of ss other) l.before)))
      (stay other apart)

  pub same_still : Fills mid new place (Open node) → IsHeldStill told before after old new own
  same_still fills = record {
    held = now_held (Open node) fills ∙ sym was_held;
    alike = subst₂ (λ (h k : PartyDisk D). IsAlike (held_view told (before own) h) (held_view told (after own) k)) (sym was_held) (sym (now_held (Open node) fills)) (alike_refl (told node.disk));
  }

  pub leaves_by : (P Q : List ℕ → Type 0) → IsHeldAgain told (after own) (told node.disk) P mid new place → ((image : List ℕ) → P image → Q image) → LeavesOnly (disk_of told before old own) (disk_of told after new own) Q
  leaves_by P Q r more =
      subst₂ (λ (h k : PartyDisk D). LeavesOnly (held_view told (before own) h) (held_view told (after own) k) Q) (sym was_held) (sym (now_held r.held r.fills))
      (weaker (told node.disk) (held_view told (after own) r.held) P Q r.leaves more)

pub apart_by : (a b : List ℕ) → bytes_eq a b ≡ false → a ≢ b
apart_by a b is same = let both : true ≡ false = sym ((bytes_eq-Decides a b).1 same) ∙ is in cc both

module _ {D : Type 0} where
  pub held_last : (open_parties : List (OpenParty D)) (own : List ℕ) (h : PartyDisk D) → NoneOf open_parties own → held_of (open_parties ++ open_party own h ∷ []) own ≡ h
  held_last open_parties own h none = held_here open_parties (open_party own h) [] own none refl

  pub held_front : (open_parties : List (OpenParty D)) (s : OpenParty D) (own : List ℕ) → s.own ≢ own → held_of (open_parties ++ s ∷ []) own ≡ held_of open_parties own
  held_front [] s own apart = cond_not (bytes_eq s.own own) s.held Away (same_not s.own own apart)
  held_front (f ∷ open_parties) s own apart = ap (λ (x : PartyDisk D). cond (bytes_eq f.own own) f.held x) (held_front open_parties s own apart)

  pub held_none : (open_parties : List (OpenParty D)) (own : List ℕ) → NoneOf open_parties own → held_of open_parties own ≡ Away
  held_none [] own none = refl
  held_none (s ∷ open_parties) own none = cond_not (bytes_eq s.own own) s.held (held_of open_parties own) (same_not s.own own none.0) ∙ held_none open_parties own none.1

module _ {D : Type 0} (told : D → View) where
  -- the disk of a party of which nothing is held is on the shelf
  pub on_shelf : (entry : List ℕ → View) (open_parties : List (OpenParty D)) (own : List ℕ) (P : View → Type 0) → NoneOf open_parties own → P (entry own) → P (disk_of told entry open_parties own)
  on_shelf entry open_parties own P none is = subst (λ (h : PartyDisk D). P (held_view told (entry own) h)) (sym (held_none open_parties own none)) is

  pub still_there : (before after : List ℕ → View) (open_parties : List (OpenParty D)) (own : List ℕ) → IsAlike (before own) (after own) → IsAlike (disk_of told before open_parties own) (disk_of told after open_parties own)
  still_there before after open_parties own alike = held_alike told (before own) (after own) (held_of open_parties own) alike

  module _ (old entry : List ℕ → View) where
    back_view : (own : List ℕ) (h : PartyDisk D) → IsBack told old entry own h → IsAlike (held_view told (old own) h) (entry own)
    back_view own (Open node) back = back.0
    back_view own (Closed disk) back = back
    back_view own Away back = back

    -- each disk is back on the shelf
    pub back_on_shelf : (open_parties : List (OpenParty D)) (own : List ℕ) → AllBack told old entry open_parties → (NoneOf open_parties own → IsAlike (old own) (entry own)) → IsAlike (disk_of told old open_parties own) (entry own)
    back_on_shelf [] own back stay = stay tt
    back_on_shelf (s ∷ open_parties) own back stay = go (bytes_eq s.own own) refl (λ (rest : NoneOf open_parties own → IsAlike (old own) (entry own)). back_on_shelf open_parties own back.1 rest)
      where
        go : (t : Bool) → bytes_eq s.own own ≡ t → ((NoneOf open_parties own → IsAlike (old own) (entry own)) → IsAlike (disk_of told old open_parties own) (entry own)) → IsAlike (disk_of told old (s ∷ open_parties) own) (entry own)
        go true is rest =
            subst (λ (h : PartyDisk D). IsAlike (held_view told (old own) h) (entry own)) (sym (cond_yes (bytes_eq s.own own) s.held (held_of open_parties own) is))
            (subst (λ (name : List ℕ). IsAlike (held_view told (old name) s.held) (entry name)) ((bytes_eq-Decides s.own own).0 is) (back_view s.own s.held back.0))
        go false is rest =
            subst (λ (h : PartyDisk D). IsAlike (held_view told (old own) h) (entry own)) (sym (cond_not (bytes_eq s.own own) s.held (held_of open_parties own) is))
            (rest (λ none. stay (apart_by s.own own is, none)))
