-- From the row of an input to the decision: the edits that make a difference, and the text.
use Rattle.std.specs.Prelude.{◌≡◌, ◌++◌, true, false, cond, List, [], Option, Some, None, option_map, Result, IfOk}
use Rattle.x_base.specs.declared.key_name.FullName.{FullName}
use Rattle.x_base.specs.declared.text.NoMemory.{NoMemory}
use Rattle.x_base.specs.declared.verdict.Verdict.{Verdict}
use Rattle.x_base.specs.declared.verdict.Verdict.TheVariants.{Accept}
use Rattle.party_state.specs.declared.edit.Edit.{Edit}
use Rattle.party_state.specs.declared.decision.Decision.{Decision}
use Rattle.party_state.specs.State.{Party}
use Rattle.party_state.specs.Verdicts.{Test, verdict_of, tests_pass, all_refuse, is_accept}
use Rattle.party_state.specs.Rows.{Row, Reply}
use Rattle.role_base.specs.Texts.{text_of, name_under}
use Rattle.role_base.specs.Differing.{differing}
use Rattle.role_base.specs.Storable.{IsStorable}

-- the edits that make a difference, where the verdict is Accept
abbrev pub change_of : Party → Row → List Edit
change_of p r = cond (is_accept r.verdict) (differing p r.edits) []

-- the reply where the verdict is Accept, and otherwise the answer
abbrev pub reply_of : Row → Option Reply
reply_of r = cond (is_accept r.verdict) r.reply r.answer

abbrev pub name_of : Option Reply → Option FullName
name_of None = None
name_of (Some reply) = name_under reply

abbrev pub decision_of : Party → Row → Decision
decision_of p r = record {
  change = change_of p r;
  reply = option_map text_of (reply_of r);
  under = name_of (reply_of r);
  verdict = r.verdict;
}

-- a decision is the one of this row, and the store can keep its change
pub record IsDecision (p : Party) (r : Row) (d : Decision) : Type 0 where
  pub is : d ≡ decision_of p r
  pub kept : IsStorable p d.change

-- this row is decided, or no memory was left
abbrev pub Decides : Party → Row → Result Decision NoMemory → Type 0
Decides p r result = IfOk result (IsDecision p r)

-- refused, with nothing written
abbrev pub refusal_of : Verdict → Decision
refusal_of v = record { change = []; reply = None; under = None; verdict = v }

-- the refusal of each row that begins with these tests, one of which fails, and that isn't answered
abbrev pub RefusesEarly : List Test → Decision → Type 0
RefusesEarly tests_before_code d = (p : Party) (r : Row) (tests_after_code : List Test) → all_refuse tests_before_code ≡ true → tests_pass tests_before_code ≡ false → r.verdict ≡ verdict_of (tests_before_code ++ tests_after_code) → r.answer ≡ None → IsDecision p r d

-- accepted, with these edits and this reply
abbrev pub accepting : Party → List Edit → Option Reply → Decision
accepting p es reply = record {
  change = differing p es;
  reply = option_map text_of reply;
  under = name_of reply;
  verdict = Accept;
}

-- a decision accepts with these edits and this reply, and the store can keep its change
pub record IsAccepted (p : Party) (es : List Edit) (reply : Option Reply) (d : Decision) : Type 0 where
  pub is : d ≡ accepting p es reply
  pub kept : IsStorable p d.change

-- so it is decided, or no memory was left
abbrev pub AcceptsWith : Party → List Edit → Option Reply → Result Decision NoMemory → Type 0
AcceptsWith p es reply result = IfOk result (IsAccepted p es reply)
