-- Whether a holder of its key made the code of what arrives (this project's profile).
use Rattle.std.specs.Prelude.{Bool, true, List, Option, Some, None}
use Rattle.party_state.specs.declared.command.Input.{Input}
use Rattle.party_state.specs.declared.command.Input.TheVariants as input
use Rattle.party_state.specs.declared.decision.Lead.{Lead}
use Rattle.party_state.specs.State.{Party}
use Rattle.csm_grammar.specs.Arrivals.{authenticated_text}
use Rattle.fact_book.specs.Facts.{NamedText}
use Rattle.world_laws.specs.World.{Fact}
use Rattle.world_laws.specs.Honest.{HonestArrival, is_honest_lead}

-- a command has no code, nor have bytes of which nothing is heard
abbrev pub HonestInput : List Fact → Party → Option Input → Type 0
HonestInput facts p None = Unit {0}
HonestInput facts p (Some (input.Ordered command)) = Unit {0}
HonestInput facts p (Some (input.Arrived a)) = HonestArrival facts p a

-- the search that decides it, by the lead of the input
abbrev pub is_honest_input : List NamedText → Input → Option Lead → Bool
is_honest_input facts (input.Ordered command) lead = true
is_honest_input facts (input.Arrived a) lead = is_honest_lead facts (authenticated_text a) lead
