-- A code of 32 bits that closes a text.
use Rattle.std.proofs.Common.{◌≡◌, ℕ, List, subst}
use Rattle.csm_grammar.specs.declared.parsed.Shut.{Shut}
use Rattle.csm_grammar.specs.Messages.{shut_field}
use Rattle.csm_write.specs.declared.closing.Closing.{Closing}
use Rattle.csm_write.specs.declared.closing.Closing.TheVariants as closings
use Rattle.csm_write.specs.Canon.{shut_over}
use Rattle.csm_write.specs.Writable.{IsTypedField, IsTypedClosing}

pub closing_typed : (auth : List ℕ) (c : Closing) (shut : Shut) → shut ≡ shut_over auth c → IsTypedField (shut_field shut) → IsTypedClosing c
closing_typed auth (closings.Mac key) shut e t = _
closing_typed auth closings.Edc shut e t = _
closing_typed auth (closings.Stated stated) shut e t = subst (λ (s : Shut). IsTypedField (shut_field s)) e t
