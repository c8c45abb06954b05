-- The texts that a bank writes, and the codes of those that arrive (ANSI X9.17).
use Rattle.std.specs.Prelude.{ℕ, ◌==◌, Bool, false, true, List, Option, Some, None}
use Rattle.x_base.specs.declared.key_name.KeyName.{KeyName}
use Rattle.x_base.specs.declared.key_name.FullName.{FullName}
use Rattle.x_mac.specs.Code.{mac_of, edc_of}
use Rattle.csm_grammar.specs.declared.message.Extras.{Extras}
use Rattle.csm_grammar.specs.declared.parsed.Shut.{Shut}
use Rattle.csm_grammar.specs.declared.parsed.Shut.TheVariants as shut
use Rattle.csm_grammar.specs.declared.arrival.Arrival.{Arrival}
use Rattle.csm_grammar.specs.Arrivals.{authenticated_text}
use Rattle.csm_write.specs.declared.closing.Closing.TheVariants as closing
use Rattle.csm_write.specs.Canon.{canon}
use Rattle.party_state.specs.declared.decision.Lead.{Lead}
use Rattle.party_state.specs.Rows.{Reply, Coded, Plain, Again}

-- the text of a reply: canonical, but for one that is kept
unfoldable pub text_of : Reply → List ℕ
text_of (Coded message under value) = canon message (closing.Mac value)
text_of (Plain message) = canon message closing.Edc
text_of (Again text) = text

-- the name of the key under which its code is made
abbrev pub name_under : Reply → Option FullName
name_under (Coded message under value) = Some under
name_under (Plain message) = None
name_under (Again text) = None

abbrev pub no_extras : Extras
no_extras = record { iv = None; edk = None; p = None }

-- the name of a key that came without a centre
abbrev pub direct_name : List ℕ → List ℕ → ℕ → KeyName
direct_name originator label count = record { issuer = originator; originator = originator; label = label; count = count }

abbrev pub is_mac_of : ℕ → List ℕ → Shut → Bool
is_mac_of value auth (shut.Mac digits) = mac_of value auth == digits
is_mac_of value auth (shut.Edc digits) = false

abbrev pub is_edc_of : List ℕ → Shut → Bool
is_edc_of auth (shut.Mac digits) = false
is_edc_of auth (shut.Edc digits) = edc_of auth == digits

-- the arrival's authentication code is made under this key
unfoldable pub is_verified : Arrival → ℕ → Bool
is_verified a value = is_mac_of value (authenticated_text a) a.parsed.shut

-- a key, and whether the arrival's code is made under it; no key-encrypting key comes
abbrev pub lead_under : Arrival → FullName → ℕ → Lead
lead_under a under value = record { under = under; value = value; verified = is_verified a value; opened = None }

-- its error detection code is right
unfoldable pub is_right : Arrival → Bool
is_right a = is_edc_of (authenticated_text a) a.parsed.shut

abbrev pub is_plain : Shut → Bool
is_plain (shut.Mac digits) = false
is_plain (shut.Edc digits) = true
