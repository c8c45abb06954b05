-- What is known of the rows of each role is known of every party's.
use Rattle.std.proofs.Common.{◌≡◌, ◌↔◌, ◌⊎◌, ℕ, true, Option, None}
use Rattle.x_base.specs.declared.party.Role.{Role}
use Rattle.x_base.specs.declared.party.Role.TheVariants.{Bank, Distribution, Translation}
use Rattle.csm_grammar.specs.declared.arrival.Arrival.{Arrival}
use Rattle.party_state.specs.declared.command.Input.{Input}
use Rattle.party_state.specs.declared.command.Input.TheVariants as input
use Rattle.party_state.specs.declared.decision.Lead.{Lead}
use Rattle.party_tables.specs.Keys.{link_key, same_link}
use Rattle.party_tables.specs.Tables.{Distinct}
use Rattle.party_state.specs.State.{Party}
use Rattle.party_state.specs.Verdicts.{is_accept}
use Rattle.party_state.specs.Rows.{Row}
use Rattle.party_state.specs.Ranges.{IsParty}
use Rattle.role_base.specs.Deciding.{decision_of}
use Rattle.role_base.specs.Ranged.{IsInput, IsRanged}
use Rattle.role_base.specs.Texts.{is_plain}
use Rattle.role_base.specs.Errors.{is_early}
use Rattle.role_base.specs.Beginning.{AllBeginFree}
use Rattle.role_base.specs.Apart.{AreApart}
use Rattle.member.specs.BankRows.{row_of}
use Rattle.member.specs.BankLeads.{lead_of}
use Rattle.member.specs.BankDeciding.{decided}
use Rattle.distribution_role.specs.Rows.{distribution_row, distribution_lead}
use Rattle.translation_role.specs.Rows.{translation_row, translation_lead}
use Rattle.member.specs.Rows.{row_by, row_at}
use Rattle.member.specs.Leads.{lead_by, lead_at}
use Rattle.member.specs.Deciding.{decision}

-- there is no key exactly where the arrival is closed by an error detection code, or is refused early
abbrev LedBy : Option Lead → Arrival → Row → Type 0
LedBy o a r = (o ≡ None) ↔ ((is_plain a.parsed.shut ≡ true) ⊎ (is_early r.verdict ≡ true))

pub led : ((p : Party) (a : Arrival) (moment : ℕ) → LedBy (lead_of p a) a (row_of p (input.Arrived a) moment))
    → ((p : Party) (a : Arrival) (moment : ℕ) → LedBy (distribution_lead p a a.parsed.message) a (distribution_row p (input.Arrived a) moment))
    → ((p : Party) (a : Arrival) → LedBy (translation_lead p a a.parsed.message) a (translation_row p (input.Arrived a)))
    → (p : Party) (a : Arrival) (moment : ℕ) → (lead_at p a ≡ None) ↔ ((is_plain a.parsed.shut ≡ true) ⊎ (is_early (decision p (input.Arrived a) moment).verdict ≡ true))
unfolding decision
led bank distribution translation p a moment = go p.role
  where
    go : (r : Role) → LedBy (lead_by r p a) a (row_by r p (input.Arrived a) moment)
    go Bank = bank p a moment
    go Distribution = distribution p a moment
    go Translation = translation p a

-- the edits of accepted rows are apart, and begin an exchange only with a peer with whom none stands
pub record RowsApart : Type 0 where
  pub bank : (p : Party) (i : Input) (moment : ℕ) → Distinct link_key same_link p.links → is_accept (row_of p i moment).verdict ≡ true → AreApart (row_of p i moment).edits
  pub distribution : (p : Party) (i : Input) (moment : ℕ) → is_accept (distribution_row p i moment).verdict ≡ true → AreApart (distribution_row p i moment).edits
  pub translation : (p : Party) (i : Input) → AreApart (translation_row p i).edits

pub record RowsBegin : Type 0 where
  pub bank : (p : Party) (i : Input) (moment : ℕ) → is_accept (row_of p i moment).verdict ≡ true → AllBeginFree p (row_of p i moment).edits
  pub distribution : (p : Party) (i : Input) (moment : ℕ) → AllBeginFree p (distribution_row p i moment).edits
  pub translation : (p : Party) (i : Input) → AllBeginFree p (translation_row p i).edits

pub row_apart : RowsApart → (p : Party) (i : Input) (moment : ℕ) → Distinct link_key same_link p.links → is_accept (row_at p i moment).verdict ≡ true → AreApart (row_at p i moment).edits
row_apart rows p i moment once accepted = go p.role accepted
  where
    go : (r : Role) → is_accept (row_by r p i moment).verdict ≡ true → AreApart (row_by r p i moment).edits
    go Bank e = rows.bank p i moment once e
    go Distribution e = rows.distribution p i moment e
    go Translation e = rows.translation p i

pub row_begins : RowsBegin → (p : Party) (i : Input) (moment : ℕ) → is_accept (row_at p i moment).verdict ≡ true → AllBeginFree p (row_at p i moment).edits
row_begins rows p i moment accepted = go p.role accepted
  where
    go : (r : Role) → is_accept (row_by r p i moment).verdict ≡ true → AllBeginFree p (row_by r p i moment).edits
    go Bank e = rows.bank p i moment e
    go Distribution e = rows.distribution p i moment
    go Translation e = rows.translation p i

-- a decision is in range
pub ranged : ((p : Party) (i : Input) (moment : ℕ) → IsParty p → IsInput i → IsRanged p (decided p i moment)) → ((p : Party) (i : Input) (moment : ℕ) → IsParty p → IsInput i → IsRanged p (decision_of p (distribution_row p i moment)))
    → ((p : Party) (i : Input) → IsParty p → IsInput i → IsRanged p (decision_of p (translation_row p i))) → (p : Party) (i : Input) (moment : ℕ) → IsParty p → IsInput i → IsRanged p (decision p i moment)
unfolding decision
ranged bank distribution translation p i moment w k = go p.role
  where
    go : (r : Role) → IsRanged p (decision_of p (row_by r p i moment))
    go Bank = bank p i moment w k
    go Distribution = distribution p i moment w k
    go Translation = translation p i w k
