-- When a message that brings a key is accepted, at a party of any role: at a bank alone, exactly where its key can be
-- taken, or can go on (ANSI X9.17; the bounds are this project's profile).
use Rattle.std.specs.Prelude.{◌≡◌, ◌↔◌}
use Rattle.x_base.specs.declared.party.Role.TheVariants.{Bank}
use Rattle.x_base.specs.declared.verdict.Verdict.TheVariants.{Accept}
use Rattle.csm_grammar.specs.declared.message.Ksm.{Ksm}
use Rattle.csm_grammar.specs.declared.message.Rtr.{Rtr}
use Rattle.csm_grammar.specs.declared.arrival.Arrival.{Arrival}
use Rattle.party_state.specs.declared.command.Input.{Input}
use Rattle.party_state.specs.declared.decision.Decision.{Decision}
use Rattle.party_state.specs.State.{Party}
use Rattle.bank_keys.specs.Taking.{Brings, CanTake}
use Rattle.bank_keys.specs.Passing.{Responds, CanPassOn}

-- a key service message
abbrev pub TakesAsBank : Party → Input → Decision → Type 0
TakesAsBank p i d = (a : Arrival) (m : Ksm) → Brings i a m → (d.verdict ≡ Accept) ↔ ((p.role ≡ Bank) × CanTake p a m)

-- a centre's answer
abbrev pub PassesAsBank : Party → Input → Decision → Type 0
PassesAsBank p i d = (a : Arrival) (m : Rtr) → Responds i a m → (d.verdict ≡ Accept) ↔ ((p.role ≡ Bank) × CanPassOn p a m)
