use Rattle.member.specs.Rows.{row_at}
use Rattle.member.proofs.ByRole.{RowsApart, row_apart}
use Rattle.member.proofs.laws.law_differing.Goals as goal

pub returns-clause-left_out : goal.returns-clause-left_out
returns-clause-left_out c =
    let rows : RowsApart = record { bank = c.law_bank_apart.ensures.apart; distribution = c.law_distribution_apart.ensures.apart; translation = c.law_translation_apart.ensures.apart } in
    λ p i moment once e. c.law_differing.ensures.left_out p (row_at p i moment).edits (row_apart rows p i moment once e)
