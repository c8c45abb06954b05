-- A text that was made, beside the reply that a row says.
use Rattle.std.specs.Prelude.{◌≡◌, Option, Some, None}
use Rattle.role_base.specs.declared.texts.Written.{Written}
use Rattle.party_state.specs.Rows.{Reply}
use Rattle.role_base.specs.Texts.{text_of, name_under}

-- the text of the reply, and the name of the key under which its code is made
pub record IsWritten (w : Written) (r : Reply) : Type 0 where
  pub text : w.text ≡ text_of r
  pub under : w.under ≡ name_under r

abbrev pub AreWritten : Option Written → Option Reply → Type 0
AreWritten None None = Unit {0}
AreWritten (Some w) (Some r) = IsWritten w r
AreWritten None (Some r) = ⊥
AreWritten (Some w) None = ⊥
