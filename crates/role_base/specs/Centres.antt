-- What the two centres share (ANSI X9.17; the order of the tests, and what is refused, are this project's profile).
use Rattle.std.specs.Prelude.{ℕ, Bool, false, List, [], ◌∷◌, cond, bytes_eq}
use Rattle.x_base.specs.declared.verdict.Verdict.TheVariants.{NotForMe, UnknownPeer, WrongClass}
use Rattle.party_state.specs.declared.command.Command.{Command}
use Rattle.party_state.specs.declared.command.Command.TheVariants as command
use Rattle.party_state.specs.State.{Party, centre_label, knows}
use Rattle.party_state.specs.Verdicts.{Test, verdict_of}
use Rattle.party_state.specs.Rows.{Row, refused}
use Rattle.role_base.specs.Conditions.{is_for}
use Rattle.role_base.specs.Load.{load}

-- a request is for this centre, from a bank that it knows, and of its class
abbrev pub request_front : Party → List ℕ → List ℕ → Bool → List Test
request_front p receiver originator served = (is_for p receiver originator, NotForMe) ∷ (knows originator p, UnknownPeer) ∷ (served, WrongClass) ∷ []

-- a response, an error message or a disconnection, which no centre serves: it sends no key service message or disconnection
-- that they could answer, and has no key records
abbrev pub unserved : Party → List ℕ → List ℕ → Row
unserved p receiver originator = refused (verdict_of ((is_for p receiver originator, NotForMe) ∷ (false, WrongClass) ∷ []))

-- of commands a centre serves loading alone, of its own label
abbrev pub centre_command : Party → Command → Row
centre_command p (command.Load peer label side pair) = cond (bytes_eq label centre_label) (load p peer label side pair) (refused WrongClass)
centre_command p _ = refused WrongClass
