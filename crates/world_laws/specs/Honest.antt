-- Honest runs: each code that agrees was made by a holder of its key (this project's profile).
use Rattle.std.specs.Prelude.{◌≡◌, ℕ, zero, suc, Bool, true, not, ◌&&◌, ◌||◌, bytes_eq, Option, Some, None, List, [], ◌∷◌, map, Contains}
use Rattle.std.specs.List.{list_any}
use Rattle.x_base.specs.declared.key_name.FullName.{FullName}
use Rattle.csm_grammar.specs.declared.arrival.Arrival.{Arrival}
use Rattle.party_state.specs.declared.decision.Lead.{Lead}
use Rattle.party_state.specs.State.{Party}
use Rattle.csm_grammar.specs.Arrivals.{authenticated_text}
use Rattle.fact_book.specs.Facts.{NamedText, has_named, same_full_name}
use Rattle.member.specs.Member.{Member}
use Rattle.world_laws.specs.World.{Fact, World, member_at}
use Rattle.member.specs.Leads.{lead_at}
use Rattle.world_laws.specs.Events.{Action, Orders, Hears, Compacts, Migrates, Event}
use Rattle.world_laws.specs.Steps.{step}

-- a fact of this name and this authenticated text stands
pub record HasFact (facts : List Fact) (under : FullName) (text : List ℕ) : Type 0 where
  pub fact : Fact
  pub stands : Contains facts fact
  pub under_is : fact.under ≡ under
  pub text_is : fact.text ≡ text

-- where the code of a message agrees with the key under which it is tested, the fact stands already
abbrev pub HonestArrival : List Fact → Party → Arrival → Type 0
HonestArrival facts p a = (l : Lead) → lead_at p a ≡ Some l → l.verified ≡ true → HasFact facts l.under (authenticated_text a)

abbrev pub HonestAction : List Fact → Party → Action → Type 0
HonestAction facts p (Orders c) = Unit {0}
HonestAction facts p (Hears bytes (Some a)) = HonestArrival facts p a
HonestAction facts p (Hears bytes None) = Unit {0}
HonestAction facts p Compacts = Unit {0}
HonestAction facts p Migrates = Unit {0}

abbrev pub HonestAt : List Fact → Option Member → Action → Type 0
HonestAt facts None action = Unit {0}
HonestAt facts (Some x) action = HonestAction facts x.party action

-- each event is honest before it happens
abbrev pub HonestRun : ℕ → World → List Event → Type 0
HonestRun n w [] = Unit {0}
HonestRun n w (e ∷ es) = HonestAt w.facts (member_at e.party w.members) e.action × HonestRun (suc n) (step n w e) es

-- the forged event is the first that isn't: that with so many before it
abbrev pub IsForged : ℕ → World → List Event → ℕ → Type 0
IsForged n w [] k = ⊥
IsForged n w (e ∷ es) zero = ¬ (HonestAt w.facts (member_at e.party w.members) e.action)
IsForged n w (e ∷ es) (suc k) = HonestAt w.facts (member_at e.party w.members) e.action × IsForged (suc n) (step n w e) es k

-- the search that decides whether an event is honest

abbrev pub is_fact : FullName → List ℕ → Fact → Bool
is_fact under text f = same_full_name f.under under && bytes_eq f.text text

-- a fact without its maker, as a book has it
abbrev pub named_text : Fact → NamedText
named_text f = record { under = f.under; text = f.text }

abbrev pub has_fact : List Fact → FullName → List ℕ → Bool
has_fact facts under text = list_any (is_fact under text) facts

-- where the code of this authenticated text agrees with the key under which it is tested, a fact has it
abbrev pub is_honest_lead : List NamedText → List ℕ → Option Lead → Bool
is_honest_lead facts text None = true
is_honest_lead facts text (Some l) = not l.verified || has_named facts l.under text

abbrev pub is_honest_action : List Fact → Party → Action → Bool
is_honest_action facts p (Orders c) = true
is_honest_action facts p (Hears bytes (Some a)) = is_honest_lead (map named_text facts) (authenticated_text a) (lead_at p a)
is_honest_action facts p (Hears bytes None) = true
is_honest_action facts p Compacts = true
is_honest_action facts p Migrates = true

abbrev pub is_honest : List Fact → Option Member → Action → Bool
is_honest facts None action = true
is_honest facts (Some x) action = is_honest_action facts x.party action
