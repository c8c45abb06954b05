-- Writing the text of an exchange again, as it is kept (this project's profile).
use Rattle.std.specs.Prelude.{ℕ, true, false, List, [], ◌∷◌, Option, Some, None}
use Rattle.x_base.specs.declared.verdict.Verdict.TheVariants.{NoExchange}
use Rattle.party_tables.specs.declared.exchange.Exchange.{Exchange}
use Rattle.party_state.specs.State.{Party, exchange_with}
use Rattle.party_state.specs.Verdicts.{verdict_of}
use Rattle.party_state.specs.Rows.{Row, Again, refused}

abbrev pub resend_of : Option Exchange → Row
resend_of None = refused (verdict_of ((false, NoExchange) ∷ []))
resend_of (Some e) = record {
  verdict = verdict_of ((true, NoExchange) ∷ []);
  edits = [];
  reply = Some (Again e.text);
  uses = [];
  makes = None;
  accepts = None;
  answer = None;
}

abbrev pub resend : Party → List ℕ → Row
resend p peer = resend_of (exchange_with peer p)
