-- What a party decides of an input, row by row of the profile: the tests of the row give the verdict;
-- the rest tells what the row does where the verdict is Accept, and what it answers where it isn't.
use Rattle.std.specs.Prelude.{ℕ, List, [], Option, None}
use Rattle.x_base.specs.declared.key_name.FullName.{FullName}
use Rattle.x_base.specs.declared.verdict.Verdict.{Verdict}
use Rattle.x_mac.specs.declared.pair.Pair.{Pair}
use Rattle.csm_grammar.specs.declared.message.Message.{Message}
use Rattle.party_state.specs.declared.edit.Edit.{Edit}

-- a text that a row writes
pub data Reply : Type 0 where
  -- a new text, closed by the code under the key of this name and value
  Coded : Message → FullName → ℕ → Reply
  -- a new text, closed by the error detection code
  Plain : Message → Reply
  -- a text that is kept, as it is
  Again : List ℕ → Reply

-- what a key-encrypting key encrypts at a count: a key, or a pair as one key
pub data Sealed : Type 0 where
  OneKey : ℕ → Sealed
  OnePair : Pair → Sealed

-- the key-encrypting key that the party shares with this recipient under this label encrypts this at a count
pub record Use : Type 0 where
  pub recipient : List ℕ
  pub label : List ℕ
  pub count : ℕ
  pub sealed : Sealed

-- a key-encrypting key that a row makes, for this recipient under this label
pub record Made : Type 0 where
  pub recipient : List ℕ
  pub label : List ℕ

-- what was accepted; an answer is a response service message that names a key
pub data Class : Type 0 where
  OfRsi OfRfs OfRtr OfKsm OfRsm OfAnswer OfEsm OfErs OfDsm : Class

-- the class of an accepted arrival, and the keys that it makes held, live or ended; of a disconnection that of IDD alone
pub record Accepted : Type 0 where
  pub class : Class
  pub names : List FullName

pub record Row : Type 0 where
  pub verdict : Verdict
  pub edits : List Edit
  pub reply : Option Reply
  pub uses : List Use
  pub makes : Option Made
  pub accepts : Option Accepted
  -- where the verdict is a refusal that is answered
  pub answer : Option Reply

-- refused, and not answered
abbrev pub refused : Verdict → Row
refused v = record { verdict = v; edits = []; reply = None; uses = []; makes = None; accepts = None; answer = None }
