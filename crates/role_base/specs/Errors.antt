-- A refusal that is answered by an error message (ANSI X9.17).
use Rattle.std.specs.Prelude.{ℕ, Bool, true, false, List, [], Option, Some, None, option_map, codes}
use Rattle.x_base.specs.Count.{IsCount}
use Rattle.x_base.specs.declared.key_name.FullName.{FullName}
use Rattle.x_base.specs.declared.verdict.Verdict.{Verdict}
use Rattle.x_base.specs.declared.verdict.Verdict.TheVariants as verdict
use Rattle.csm_grammar.specs.declared.message.Message.{Message}
use Rattle.csm_grammar.specs.declared.message.Message.TheVariants as message
use Rattle.party_state.specs.declared.decision.Decision.{Decision}
use Rattle.party_state.specs.State.{Party}
use Rattle.party_state.specs.Rows.{Reply, Coded}
use Rattle.role_base.specs.declared.errors.ErrorCounts.{ErrorCounts}
use Rattle.role_base.specs.Texts.{text_of}
use Rattle.role_base.specs.Deciding.{name_of}

-- the expected count that a verdict names is a count
abbrev pub TellsCount : Verdict → Type 0
TellsCount (verdict.CountLow expected) = IsCount expected
TellsCount v = Unit {0}

-- refused, with this answer
abbrev pub answering : Verdict → Option Reply → Decision
answering v answer = record { change = []; reply = option_map text_of answer; under = name_of answer; verdict = v }

-- the error message, with the refused counts, and the expected one where it is named
abbrev pub error_message : Party → List ℕ → ErrorCounts → List ℕ → Option ℕ → Message
error_message p originator c erf ctr =
    message.Esm (record { receiver = originator; originator = p.own; erf = erf; ctp = c.ctp; cta = c.cta; ctb = c.ctb; ctr = ctr })

-- the letter of a refusal that is answered
abbrev pub error_letter : Verdict → Option (List ℕ)
error_letter (verdict.CountLow expected) = Some (codes "C")
error_letter verdict.CountSpent = Some (codes "S")
error_letter verdict.LabelTaken = Some (codes "L")
error_letter verdict.SameKey = Some (codes "K")
error_letter verdict.LinksFull = Some (codes "N")
error_letter verdict.KeysFull = Some (codes "F")
error_letter v = None

-- the expected count, where it is named
abbrev pub expected_count : Verdict → Option ℕ
expected_count (verdict.CountLow expected) = Some expected
expected_count v = None

-- the answer to a refusal, by its verdict
abbrev pub error_for : Party → List ℕ → ErrorCounts → Verdict → Option Message
error_for p originator c v = option_map (λ erf. error_message p originator c erf (expected_count v)) (error_letter v)

abbrev pub coded_under : FullName → ℕ → Option Message → Option Reply
coded_under under value None = None
coded_under under value (Some m) = Some (Coded m under value)

-- a refusal before the code is looked at
abbrev pub is_early : Verdict → Bool
is_early verdict.NotForMe = true
is_early verdict.UnknownPeer = true
is_early verdict.WrongClass = true
is_early verdict.NoExchange = true
is_early verdict.Outstanding = true
is_early verdict.UnknownKk = true
is_early verdict.UnknownKey = true
is_early _ = false
