-- What a party decides of an input at a moment: the decision of its row.
use Rattle.std.specs.Prelude.{ℕ, ◌≡◌, ◌≤◌, List, length, IfSome}
use Rattle.party_tables.specs.Ranges.{longest_text}
use Rattle.party_state.specs.declared.command.Input.{Input}
use Rattle.party_state.specs.declared.decision.Decision.{Decision}
use Rattle.party_state.specs.State.{Party}
use Rattle.role_base.specs.Deciding.{decision_of}
use Rattle.role_base.specs.Storable.{IsStorable}
use Rattle.member.specs.Rows.{row_at}
use Rattle.member.specs.Taking.{TakesAsBank, PassesAsBank}

unfoldable pub decision : Party → Input → ℕ → Decision
decision p i moment = decision_of p (row_at p i moment)

-- a decision is the party's, the store can keep its change, and what is written has at most 1,024 bytes; a key that comes is
-- accepted exactly where the party is a bank and can take it, a centre's answer where its key can go on
pub record IsDecided (p : Party) (i : Input) (moment : ℕ) (d : Decision) : Type 0 where
  pub is : d ≡ decision p i moment
  pub kept : IsStorable p d.change
  pub short : IfSome d.reply (λ (text : List ℕ). length text ≤ longest_text)
  pub complete : TakesAsBank p i d
  pub passed_on : PassesAsBank p i d
