-- Giving an exchange up (this project's profile): a key that was sent ends, and a new key-encrypting key
-- goes; a key that is being closed stays so.
use Rattle.std.specs.Prelude.{ℕ, is_some, List, [], ◌∷◌, ◌++◌, Option, Some, None}
use Rattle.x_base.specs.declared.verdict.Verdict.TheVariants.{NoExchange}
use Rattle.party_tables.specs.declared.exchange.Kind.{Kind}
use Rattle.party_tables.specs.declared.exchange.Kind.TheVariants as kind
use Rattle.party_tables.specs.declared.exchange.Exchange.{Exchange}
use Rattle.party_state.specs.declared.edit.Edit.{Edit}
use Rattle.party_state.specs.declared.edit.Edit.TheVariants.{DropExchange}
use Rattle.party_state.specs.State.{Party, exchange_with}
use Rattle.party_state.specs.Verdicts.{verdict_of}
use Rattle.party_state.specs.Rows.{Row}
use Rattle.party_tables.specs.Names.{name_behind}
use Rattle.role_base.specs.Exchanges.{record_of, new_link, dropped, ended}

-- what becomes of what the exchange names
abbrev pub given_up : Party → List ℕ → Kind → List Edit
given_up p peer (kind.KeySent name via) = dropped (new_link p peer via) ++ ended (record_of p peer name)
given_up p peer (kind.Asked ultimate) = []
given_up p peer (kind.Translating ultimate value cta) = []
given_up p peer (kind.Ending name) = []
given_up p peer (kind.PairSent name) = ended (record_of p peer name) ++ ended (record_of p peer (name_behind name))

abbrev pub given_up_in : Party → List ℕ → Option Exchange → List Edit
given_up_in p peer None = []
given_up_in p peer (Some e) = given_up p peer e.kind ++ DropExchange peer ∷ []

abbrev pub drop : Party → List ℕ → Row
drop p peer = record {
  verdict = verdict_of ((is_some (exchange_with peer p), NoExchange) ∷ []);
  edits = given_up_in p peer (exchange_with peer p);
  reply = None;
  uses = [];
  makes = None;
  accepts = None;
  answer = None;
}
