-- What a key service message carries: its keys, decrypted, with their counts and names (ANSI X9.17 / ISO 8732; two data keys
-- by this project's profile).
use Rattle.std.specs.Prelude.{ℕ, ◌+◌, List, [], ◌∷◌, Option, Some, None}
use Rattle.x_base.specs.declared.key_name.FullName.{FullName}
use Rattle.x_mac.specs.declared.pair.Pair.{Pair}
use Rattle.x_seal.specs.Wrapped.{unwrap_of, unwrap_pair_of, unseal_of}
use Rattle.csm_grammar.specs.declared.message.Ksm.{Ksm}
use Rattle.csm_grammar.specs.declared.message.KsmBody.{KsmBody}
use Rattle.csm_grammar.specs.declared.message.KsmBody.TheVariants as body
use Rattle.csm_grammar.specs.declared.message.NewKk.{NewKk}
use Rattle.csm_grammar.specs.declared.message.NewKk.TheVariants as new_kk
use Rattle.party_state.specs.State.{centre_label}
use Rattle.role_base.specs.Conditions.{body_issuer}
use Rattle.role_base.specs.Load.{odd_pair}

-- a data key, by its count and its value
pub record CarriedKey : Type 0 where
  pub count : ℕ
  pub value : ℕ

-- the new key-encrypting key that comes at a count, under the pair of another, with odd parity; a single key is both halves
abbrev pub carried_kk : Pair → ℕ → NewKk → Pair
carried_kk pair count (new_kk.Double left right) = odd_pair (unwrap_pair_of pair count (record { left = left; right = right }))
carried_kk pair count (new_kk.Single key) = odd_pair (unwrap_pair_of pair count (record { left = key; right = key }))

-- its data keys, in order, under the pair of the key-encrypting key: at their counts; one that comes with a new
-- key-encrypting key, under that at 1; a centre's, for the originator and the receiver
abbrev pub body_keys : Pair → List ℕ → List ℕ → KsmBody → List CarriedKey
body_keys pair originator receiver (body.Direct idk2 None kd ctp) = record { count = ctp; value = unwrap_of pair ctp kd } ∷ []
body_keys pair originator receiver (body.Direct idk2 (Some new) kd ctp) = record { count = ctp; value = unwrap_of (carried_kk pair ctp new.1) 1 kd } ∷ []
body_keys pair originator receiver (body.Centre centre kdu ctb) = record { count = ctb; value = unseal_of pair originator receiver ctb kdu } ∷ []
body_keys pair originator receiver (body.Twin idk2 first second ctp) =
    record { count = ctp; value = unwrap_of pair ctp first } ∷ record { count = ctp + 1; value = unwrap_of pair (ctp + 1) second } ∷ []

abbrev pub carried_keys : Pair → Ksm → List CarriedKey
carried_keys pair m = body_keys pair m.originator m.receiver m.body

-- the label that the message gives for the key-encrypting key
abbrev pub label_given : KsmBody → Option (List ℕ)
label_given (body.Direct idk2 new kd ctp) = idk2
label_given (body.Centre centre kdu ctb) = Some centre_label
label_given (body.Twin idk2 first second ctp) = idk2

-- the name of a data key of the message, by the label of the key-encrypting key and the count
abbrev pub carried_name : List ℕ → Ksm → ℕ → FullName
carried_name label m count = record {
  name = record { issuer = body_issuer m.originator m.body; originator = m.originator; label = label; count = count };
  recipient = m.receiver;
}

-- it carries two data keys
abbrev pub IsOfTwo : KsmBody → Type 0
IsOfTwo (body.Direct idk2 new kd ctp) = ⊥
IsOfTwo (body.Centre centre kdu ctb) = ⊥
IsOfTwo (body.Twin idk2 first second ctp) = Unit {0}
