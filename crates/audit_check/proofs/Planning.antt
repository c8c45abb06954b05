-- What a party does with its plan.
use Rattle.std.proofs.Common.{◌≡◌, ◌⊎◌, inl, inr, ℕ, ◌++◌, Bool, true, false, cond, map, List, ◌∷◌, Option, Some, None, refl, sym, ◌∙◌, ap, ap₂, subst}
use Rattle.std.specs.Prelude.{option_to_list}
use Rattle.std.proofs.lemmas.List.{append-nil}
use Rattle.party_state.specs.declared.command.Input.{Input}
use Rattle.change_code.specs.Cost.{fits, is_change}
use Rattle.member.specs.Deciding.{decision}
use Rattle.member.specs.Leads.{lead_in}
use Rattle.fact_book.specs.Facts.{NamedText}
use Rattle.member.specs.Answers.{PlannedMember}
use Rattle.member.specs.Member.{Member, Plan, plan_at, as_decided, as_full, after}
use Rattle.world_laws.specs.World.{Fact}
use Rattle.world_laws.specs.Events.{Whole}
use Rattle.world_laws.specs.Honest.{named_text}
use Rattle.world_laws.specs.Noted.{noted}
use Rattle.course.specs.Forging.{HonestInput}
use Rattle.course.specs.Outcomes.{completion_of, outcome_of, IsOutcome}
use Rattle.course.specs.declared.progress.EventOutcome.{EventOutcome}
use Rattle.course.specs.declared.progress.EventOutcome.TheVariants.{Stopped}
use Rattle.course.specs.declared.progress.Progress.{Progress}
use Rattle.course.specs.declared.progress.Stop.{Stop}
use Rattle.audit_check.specs.Audits.{IsCompleted, IsCut, letter_old, letter_new}
use Rattle.audit_check.specs.Events.{IsNextLetter, TakesLetter, LacksLetter, IsCutBy, IsActedHeld, IsHonestStop, IsWrongInput, member_then, text_then, facts_then}
use Rattle.scenario.specs.declared.audit_fault.AuditFault.{AuditFault}
use Rattle.scenario.specs.declared.audit_fault.AuditFault.TheVariants as fault
use Rattle.audit_check.specs.declared.state.AuditState.{AuditState}

pub plan_lead : (x : Member) (i : Input) (moment : ℕ) → (plan_at x i moment).lead ≡ lead_in x.party i
plan_lead x i moment = go (fits x.space (decision x.party i moment).change)
  where
    go : (b : Bool) → (cond b (as_decided (lead_in x.party i) (decision x.party i moment)) (as_full (lead_in x.party i))).lead ≡ lead_in x.party i
    go true = refl
    go false = refl

-- what is planned fits
pub plan_fits : (x : Member) (i : Input) (moment : ℕ) → fits x.space (plan_at x i moment).edits ≡ true
plan_fits x i moment = go (fits x.space (decision x.party i moment).change) refl
  where
    go : (b : Bool) → fits x.space (decision x.party i moment).change ≡ b → fits x.space (cond b (as_decided (lead_in x.party i) (decision x.party i moment)) (as_full (lead_in x.party i))).edits ≡ true
    go true is = is
    go false is = refl

-- the next letter

pub old_taken : (letters left : List ℕ) (changes : Bool) → IsNextLetter letters left false → TakesLetter letters left changes false
old_taken letters left changes n = record { letter = n.letter; taken = n.taken; says = go n.says }
  where
    go : ((false ≡ false) × (n.letter ≡ letter_old)) ⊎ ((false ≡ true) × (n.letter ≡ letter_new)) → ((false ≡ false) × (n.letter ≡ letter_old)) ⊎ ((false ≡ true) × (n.letter ≡ letter_new) × (changes ≡ true))
    go (inl is) = inl is
    go (inr is) = let lie : false ≡ true = is.0 in absurd (cc lie)

new_letter : {letters left : List ℕ} (n : IsNextLetter letters left true) → n.letter ≡ letter_new
new_letter n = go n.says
  where
    go : ((true ≡ false) × (n.letter ≡ letter_old)) ⊎ ((true ≡ true) × (n.letter ≡ letter_new)) → n.letter ≡ letter_new
    go (inl is) = let lie : true ≡ false = is.0 in absurd (cc lie)
    go (inr is) = is.1

-- an event with the letter N changes nothing
pub lacks_change : (letters left : List ℕ) (changes : Bool) (number : ℕ) → IsNextLetter letters left true → changes ≡ false → LacksLetter letters changes number (fault.Impossible number)
lacks_change letters left changes number n none = (left, n.taken ∙ ap (λ (l : ℕ). l ∷ left) (new_letter n), none, refl)

-- the letter of a stopped event completes it
pub letter_completes : (stop : Stop) (letters left : List ℕ) (x : Member) (i : Input) (moment : ℕ) (next : Bool) → TakesLetter letters left (is_change (plan_at x i moment).edits) next
    → IsCompleted (Some stop) letters x (Some i) moment (completion_of next) left
letter_completes stop letters left x i moment next t = (t.letter, t.taken, go t.says)
  where
    go : ((next ≡ false) × (t.letter ≡ letter_old)) ⊎ ((next ≡ true) × (t.letter ≡ letter_new) × (is_change (plan_at x i moment).edits ≡ true)) → IsCut t.letter x (Some i) moment (completion_of next)
    go (inl old) = inl (old.1, ap completion_of old.0)
    go (inr new) = inr (new.1, new.2, ap completion_of new.0)

-- a stopped event without one has a fault
pub lacking_is_wrong : (now : Progress) (known : List Fact) (letters : List ℕ) (x : Member) (i : Input) (f : AuditFault) → IsHonestStop now known x (Some i) → LacksLetter letters (is_change (plan_at x i now.moment).edits) now.number f
    → IsWrongInput now known letters x (Some i) f
lacking_is_wrong now known letters x i (fault.Forged n) s lacks = absurd lacks
lacking_is_wrong now known letters x i (fault.Impossible n) s lacks = (s, (lacks.0, lacks.1), (λ keeps. let lie : true ≡ false = sym keeps ∙ lacks.2 in cc lie), lacks.3)
lacking_is_wrong now known letters x i (fault.Letters n) s lacks = (s, lacks.0, lacks.1)
lacking_is_wrong now known letters x i (fault.Differs n) s lacks = absurd lacks

-- ---- a party that took an input

module _ (held : Member) (i : Input) (old : AuditState) (p : PlannedMember) (planned : p ≡ record { member = held; plan = plan_at held i old.now.moment })
    (honest : (known : List Fact) → old.facts ≡ map named_text known → HonestInput known held.party (Some i)) where
  x_is : p.member ≡ held
  x_is = ap (λ (q : PlannedMember). q.member) planned

  plan_is : p.plan ≡ plan_at held i old.now.moment
  plan_is = ap (λ (q : PlannedMember). q.plan) planned

  pub cut_held : (stop : Stop) → old.now.stop ≡ Some stop → (y : Member) (left : List ℕ) (facts : List NamedText) → IsCutBy p y old.letters left old.facts facts
      → IsActedHeld held i old (record old { letters = left; facts = facts }) y Stopped
  cut_held stop waits y left facts cut = record {
    honest = honest;
    completion = completion_of cut.next;
    completes = subst (λ (s : Option Stop). IsCompleted s old.letters held (Some i) old.now.moment (completion_of cut.next) left) (sym waits)
        (letter_completes stop old.letters left held i old.now.moment cut.next (subst (λ (q : Plan). TakesLetter old.letters left (is_change q.edits) cut.next) plan_is cut.takes));
    becomes = subst (λ (s : Option Stop). IsOutcome s held old.now.moment (Some i) 0 Stopped) (sym waits) refl;
    member = cut.member ∙ ap₂ (λ (m : Member) (q : Plan). member_then m q (completion_of cut.next)) x_is plan_is;
    texts_are = no_text cut.next;
    facts_are = cut.facts_are ∙ ap (λ (q : Plan). old.facts ++ facts_then q (completion_of cut.next)) plan_is;
    parties = refl;
  }
    where
      no_text : (next : Bool) → old.texts ≡ old.texts ++ option_to_list (text_then (plan_at held i old.now.moment) (completion_of next))
      no_text true = sym (append-nil old.texts)
      no_text false = sym (append-nil old.texts)

  pub whole_held : old.now.stop ≡ None → (y : Member) (o : EventOutcome) (texts : List (List ℕ)) (facts : List NamedText) → y ≡ after p.member p.plan.edits → o ≡ outcome_of p.plan.verdict
      → texts ≡ old.texts ++ option_to_list p.plan.reply → facts ≡ old.facts ++ noted p.plan.under p.plan.reply → IsActedHeld held i old (record old { texts = texts; facts = facts }) y o
  whole_held waits y o texts facts next outcome texts_are facts_are = record {
    honest = honest;
    completion = Whole;
    completes = subst (λ (s : Option Stop). IsCompleted s old.letters held (Some i) old.now.moment Whole old.letters) (sym waits) (refl, refl);
    becomes = subst (λ (s : Option Stop). IsOutcome s held old.now.moment (Some i) 0 o) (sym waits) (outcome ∙ ap (λ (q : Plan). outcome_of q.verdict) plan_is);
    member = next ∙ ap₂ (λ (m : Member) (q : Plan). after m q.edits) x_is plan_is;
    texts_are = texts_are ∙ ap (λ (q : Plan). old.texts ++ option_to_list q.reply) plan_is;
    facts_are = facts_are ∙ ap (λ (q : Plan). old.facts ++ noted q.under q.reply) plan_is;
    parties = refl;
  }
