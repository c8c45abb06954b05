-- The row of each input, by the party's role (ANSI X9.17).
use Rattle.std.specs.Prelude.{ℕ}
use Rattle.x_base.specs.declared.party.Role.{Role}
use Rattle.x_base.specs.declared.party.Role.TheVariants.{Bank, Distribution, Translation}
use Rattle.party_state.specs.declared.command.Input.{Input}
use Rattle.party_state.specs.State.{Party}
use Rattle.party_state.specs.Rows.{Row}
use Rattle.member.specs.BankRows.{row_of}
use Rattle.distribution_role.specs.Rows.{distribution_row}
use Rattle.translation_role.specs.Rows.{translation_row}

abbrev pub row_by : Role → Party → Input → ℕ → Row
row_by Bank p i moment = row_of p i moment
row_by Distribution p i moment = distribution_row p i moment
row_by Translation p i moment = translation_row p i

abbrev pub row_at : Party → Input → ℕ → Row
row_at p i moment = row_by p.role p i moment
