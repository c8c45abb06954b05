-- What a call over two disks leaves of each, by the member that is opened.
use Rattle.std.proofs.Common.{◌≡◌, ◌≢◌, inl, inr, ℕ, List, [], sym, ◌∙◌, ap, subst}
use Rattle.party_state.specs.declared.command.Input.{Input}
use Rattle.party_state.specs.State.{Party}
use Rattle.change_code.specs.Cost.{space_of_whole}
use Rattle.change_code.specs.declared.format.Format.TheVariants.{Two}
use Rattle.change_code.specs.declared.space.Space.{Space}
use Rattle.key_store.specs.Store.{Stands, StandsWith}
use Rattle.member.specs.Member.{Member, after}
use Rattle.mirror_store.specs.Pairs.{IsMadeAnew}
use Rattle.mirror_store.specs.Opening.{HasFirstSpace}
use Rattle.mirror_store.specs.Turns.{pair_plan_at}
use Rattle.x_pair.specs.Outcomes.{IsAfter, MayLeave, Opened, After, AsItWas, Before, left_on_first, left_on_second, Work}
use Rattle.mirror_laws.proofs.Images.{Known, stands_so, never_blank}
use Rattle.mirror_laws.proofs.Ways.{FirstLeft, OldFirst, NewFirst, BlankFirst, WasFirst, SecondLeft, OldSecond, NewSecond, BlankSecond, SameSecond, WasSecond}

-- the first image has one space for the member
pub same_space : Known → (x : Member) (was_first : List ℕ) (s : Space) → HasFirstSpace was_first x.party s → HasFirstSpace was_first x.party x.space → s ≡ x.space
same_space known x was_first s (inl a) (inl b) = (known.one_space was_first x.party x.party s x.space a b).1
same_space known x was_first s (inl a) (inr b) = never_blank known was_first x.party b.0 (stands_so was_first x.party s a)
same_space known x was_first s (inr a) (inl b) = never_blank known was_first x.party a.0 (stands_so was_first x.party x.space b)
same_space known x was_first s (inr a) (inr b) = a.1 ∙ sym b.1

-- the member after a turn is this one
pub turned_is : Known → (name : List ℕ) (i : Input) (moment : ℕ) (x : Member) (was_first : List ℕ) → HasFirstSpace was_first x.party x.space → (y : Member) → IsAfter name i moment was_first x.party y
    → (y ≡ after x (pair_plan_at x i moment).edits) × ((pair_plan_at x i moment).edits ≢ [])
turned_is known name i moment x was_first space y may =
    let same : may.space ≡ x.space = same_space known x was_first may.space may.left space in (
      may.is ∙ ap (λ (s : Space). after (record { party = x.party; space = s }) (pair_plan_at (record { party = x.party; space = s }) i moment).edits) same,
      subst (λ (s : Space). (pair_plan_at (record { party = x.party; space = s }) i moment).edits ≢ []) same may.changes,
    )

module _ (known : Known) (w : Work) (x : Member) (was_first was_second : List ℕ) (space : HasFirstSpace was_first x.party x.space) (next : Member) (Change : Type 0)
    (next_is : (y : Member) → w.May was_first x.party y → (y ≡ next) × Change) where
  made_first : (P : List ℕ → Type 0) (c : List ℕ) → IsMadeAnew was_first x.party c → HasFirstSpace was_first x.party x.space → FirstLeft x next Change P was_first c
  made_first P c made (inl stands) = absurd (made.0 (stands_so was_first x.party x.space stands))
  made_first P c made (inr whole) = OldFirst (subst (λ (s : Space). StandsWith c x.party s) (sym whole.1) made.1)

  same_first : (P : List ℕ → Type 0) (c : List ℕ) (p : Party) (s : Space) → StandsWith was_first p s → StandsWith c p s → HasFirstSpace was_first x.party x.space → FirstLeft x next Change P was_first c
  same_first P c p s was stands (inl here) =
      let same = known.one_space was_first p x.party s x.space was here in
      OldFirst (subst (λ (r : Space). StandsWith c x.party r) same.1 (subst (λ (q : Party). StandsWith c q s) same.0 stands))
  same_first P c p s was stands (inr blank) = never_blank known was_first p blank.0 (stands_so was_first p s was)

  pub first_left : (P : List ℕ → Type 0) (c : List ℕ) → MayLeave w left_on_first was_first was_second x.party was_first P c → FirstLeft x next Change P was_first c
  first_left P c (Opened made) = made_first P c made space
  first_left P c (After y changes stands) =
      let is = next_is y changes.may in
      NewFirst is.1 (subst (λ (z : Member). StandsWith c z.party z.space) is.0 stands)
  first_left P c (AsItWas (inl blank)) = BlankFirst blank.0 blank.1
  first_left P c (AsItWas (inr (p, s, was, stands))) = same_first P c p s was stands space
  first_left P c (Before before) = WasFirst before

  pub second_left : (Q : List ℕ → Type 0) (d : List ℕ) → MayLeave w left_on_second was_first was_second x.party was_second Q d → SecondLeft x next Change Q was_second d
  second_left Q d (Opened made) = OldSecond (stands_so d x.party (space_of_whole Two x.party) made.1)
  second_left Q d (After y changes stands) =
      let is = next_is y changes.may in
      NewSecond is.1 (subst (λ (z : Member). Stands d z.party) is.0 (stands_so d y.party (space_of_whole Two y.party) stands))
  second_left Q d (AsItWas (inl blank)) = BlankSecond blank.0 blank.1
  second_left Q d (AsItWas (inr (p, s, was, stands))) = SameSecond p (stands_so was_second p s was) (stands_so d p s stands)
  second_left Q d (Before before) = WasSecond before
