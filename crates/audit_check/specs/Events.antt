-- An event at a party in memory.
use Rattle.std.specs.Prelude.{◌≡◌, ◌⊎◌, ◌++◌, ℕ, Bool, true, false, List, [], ◌∷◌, Option, Some, None, map, option_to_list}
use Rattle.party_state.specs.declared.command.Input.{Input}
use Rattle.change_code.specs.Cost.{is_change}
use Rattle.fact_book.specs.Facts.{NamedText}
use Rattle.member.specs.Answers.{PlannedMember}
use Rattle.member.specs.Member.{Member, Plan, plan_at, after}
use Rattle.world_laws.specs.World.{Fact, World, member_at}
use Rattle.world_laws.specs.Events.{Completion, Whole, CutOld, CutNew}
use Rattle.world_laws.specs.Honest.{named_text}
use Rattle.world_laws.specs.Noted.{noted}
use Rattle.course.specs.Forging.{HonestInput}
use Rattle.course.specs.Outcomes.{IsOutcome, completion_of, world_after_given}
use Rattle.course.specs.Stops.{KeepsChange}
use Rattle.course.specs.declared.progress.EventOutcome.{EventOutcome}
use Rattle.course.specs.declared.progress.Progress.{Progress}
use Rattle.course.specs.declared.progress.Stop.{Stop}
use Rattle.audit_check.specs.Audits.{IsCompleted, letter_old, letter_new}
use Rattle.audit_check.specs.States.{IsPlaced, Shows}
use Rattle.scenario.specs.declared.audit_fault.AuditFault.{AuditFault}
use Rattle.audit_check.specs.declared.state.AuditState.{AuditState}
use Rattle.scenario.specs.declared.audit_fault.AuditFault.TheVariants as fault

-- the letter in front of these, and whether the new state stands after it
pub record IsNextLetter (letters left : List ℕ) (next : Bool) : Type 0 where
  pub letter : ℕ
  pub taken : letters ≡ letter ∷ left
  pub says : ((next ≡ false) × (letter ≡ letter_old)) ⊎ ((next ≡ true) × (letter ≡ letter_new))

-- the same, where only a change leaves a new one
pub record TakesLetter (letters left : List ℕ) (changes next : Bool) : Type 0 where
  pub letter : ℕ
  pub taken : letters ≡ letter ∷ left
  pub says : ((next ≡ false) × (letter ≡ letter_old)) ⊎ ((next ≡ true) × (letter ≡ letter_new) × (changes ≡ true))

-- a stopped event of this number has no letter; or its letter is N, and it changes nothing
abbrev pub LacksLetter : List ℕ → Bool → ℕ → AuditFault → Type 0
LacksLetter letters changes number (fault.Forged n) = ⊥
LacksLetter letters changes number (fault.Impossible n) = (left : List ℕ) × (letters ≡ letter_new ∷ left) × (changes ≡ false) × (n ≡ number)
LacksLetter letters changes number (fault.Letters n) = (letters ≡ []) × (n ≡ number)
LacksLetter letters changes number (fault.Differs n) = ⊥

-- the member after an event of this plan, and what is added to the texts and the facts

abbrev pub member_then : Member → Plan → Completion → Member
member_then x plan Whole = after x plan.edits
member_then x plan CutOld = x
member_then x plan CutNew = after x plan.edits

abbrev pub text_then : Plan → Completion → Option (List ℕ)
text_then plan Whole = plan.reply
text_then plan CutOld = None
text_then plan CutNew = None

abbrev pub facts_then : Plan → Completion → List NamedText
facts_then plan Whole = noted plan.under plan.reply
facts_then plan CutOld = []
facts_then plan CutNew = noted plan.under plan.reply

-- a planned event is cut as the next letter says
pub record IsCutBy (p : PlannedMember) (y : Member) (letters left : List ℕ) (facts later : List NamedText) : Type 0 where
  pub next : Bool
  pub takes : TakesLetter letters left (is_change p.plan.edits) next
  pub member : y ≡ member_then p.member p.plan (completion_of next)
  pub facts_are : later ≡ facts ++ facts_then p.plan (completion_of next)

-- the party x took the input and is y then
pub record IsActedHeld (x : Member) (i : Input) (old new : AuditState) (y : Member) (o : EventOutcome) : Type 0 where
  pub honest : (known : List Fact) → old.facts ≡ map named_text known → HonestInput known x.party (Some i)
  pub completion : Completion
  pub completes : IsCompleted old.now.stop old.letters x (Some i) old.now.moment completion new.letters
  pub becomes : IsOutcome old.now.stop x old.now.moment (Some i) 0 o
  pub member : y ≡ member_then x (plan_at x i old.now.moment) completion
  pub texts_are : new.texts ≡ old.texts ++ option_to_list (text_then (plan_at x i old.now.moment) completion)
  pub facts_are : new.facts ≡ old.facts ++ facts_then (plan_at x i old.now.moment) completion
  pub parties : new.parties ≡ old.parties

-- the event is honest, and a stop waits for it
pub record IsHonestStop (now : Progress) (known : List Fact) (x : Member) (i : Option Input) : Type 0 where
  pub honest : HonestInput known x.party i
  pub stop : Stop
  pub waits : now.stop ≡ Some stop

-- the fault of an input at a member, where these facts are known
abbrev pub IsWrongInput : Progress → List Fact → List ℕ → Member → Option Input → AuditFault → Type 0
IsWrongInput now known letters x i (fault.Forged n) = (HonestInput known x.party i → ⊥) × (n ≡ now.number)
IsWrongInput now known letters x i (fault.Impossible n) = IsHonestStop now known x i × ((left : List ℕ) × (letters ≡ letter_new ∷ left)) × (KeepsChange x i now.moment → ⊥) × (n ≡ now.number)
IsWrongInput now known letters x i (fault.Letters n) = IsHonestStop now known x i × (letters ≡ []) × (n ≡ now.number)
IsWrongInput now known letters x i (fault.Differs n) = ⊥

-- an event at the member of a place, in a network that the old state shows; the new one shows what it makes of it
pub record IsPlayedAt (w : World) (n : ℕ) (own letters : List ℕ) (old new : AuditState) (i : Option Input) (number : ℕ) (o : EventOutcome) : Type 0 where
  pub member : Member
  pub at : member_at own w.members ≡ Some member
  pub honest : HonestInput w.facts member.party i
  pub completion : Completion
  pub left : List ℕ
  pub completes : IsCompleted old.now.stop letters member i old.now.moment completion left
  pub becomes : IsOutcome old.now.stop member old.now.moment i number o
  pub shows : Shows new (world_after_given n w member i old.now.moment completion) left

abbrev pub PlaysAt : AuditState → AuditState → ℕ → Option Input → ℕ → EventOutcome → Type 0
PlaysAt old new place i number o = (w : World) (n : ℕ) (own letters : List ℕ) → IsPlaced own w.members place → Shows old w letters → IsPlayedAt w n own letters old new i number o

abbrev pub IsWrongAt : AuditState → ℕ → Option Input → AuditFault → Type 0
IsWrongAt old place i f = (w : World) (own letters : List ℕ) → IsPlaced own w.members place → Shows old w letters → (x : Member) × (member_at own w.members ≡ Some x) × IsWrongInput old.now w.facts letters x i f
