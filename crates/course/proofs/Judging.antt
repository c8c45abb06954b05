-- An input is honest exactly where a search among the facts says so.
use Rattle.std.proofs.Common.{◌≡◌, ◌↔◌, true, false, map, List, [], Option, Some, sym, ◌∙◌, ap₂}
use Rattle.party_state.specs.declared.command.Input.{Input}
use Rattle.party_state.specs.declared.command.Input.TheVariants as input
use Rattle.party_state.specs.declared.decision.Lead.{Lead}
use Rattle.party_state.specs.State.{Party}
use Rattle.csm_grammar.specs.Arrivals.{authenticated_text}
use Rattle.member.specs.Leads.{lead_in}
use Rattle.fact_book.specs.Facts.{NamedText}
use Rattle.change_code.specs.Cost.{whole_area}
use Rattle.change_code.specs.declared.format.Format.TheVariants.{Two}
use Rattle.member.specs.Member.{Member}
use Rattle.world_laws.specs.World.{Fact}
use Rattle.world_laws.specs.Events.{Action, Hears}
use Rattle.world_laws.specs.Honest.{HonestAt, is_honest_lead, is_honest, named_text}
use Rattle.course.specs.Forging.{HonestInput, is_honest_input}

module _ (test : (facts : List Fact) (o : Option Member) (d : Action) → (is_honest facts o d ≡ true) ↔ HonestAt facts o d) (facts : List NamedText) (known : List Fact) (facts_are : facts ≡ map named_text known) (p : Party) where
  pub honest_by : (i : Input) (lead : Option Lead) → lead ≡ lead_in p i → is_honest_input facts i lead ≡ true → HonestInput known p (Some i)
  honest_by (input.Ordered command) lead lead_is is = tt
  honest_by (input.Arrived a) lead lead_is is =
      (test known (Some (record { party = p; space = whole_area Two })) (Hears [] (Some a))).0 (sym (ap₂ (λ (fs : List NamedText) (l : Option Lead). is_honest_lead fs (authenticated_text a) l) facts_are lead_is) ∙ is)

  pub forged_by : (i : Input) (lead : Option Lead) → lead ≡ lead_in p i → is_honest_input facts i lead ≡ false → HonestInput known p (Some i) → ⊥
  forged_by (input.Ordered command) lead lead_is is honest = let lie : true ≡ false = is in cc lie
  forged_by (input.Arrived a) lead lead_is is honest =
      let lie : true ≡ false = sym ((test known (Some (record { party = p; space = whole_area Two })) (Hears [] (Some a))).1 honest) ∙ (sym (ap₂ (λ (fs : List NamedText) (l : Option Lead). is_honest_lead fs (authenticated_text a) l) facts_are lead_is) ∙ is) in
      cc lie
