use Rattle.member.specs.Deciding.{decision}
use Rattle.member.proofs.ByRole.{RowsApart, RowsBegin}
use Rattle.member.proofs.Settling.{undone, done, none_there}
use Rattle.member.proofs.laws.law_settling.Goals as goal

pub returns-clause-undone : goal.returns-clause-undone
returns-clause-undone c =
    let rows : RowsBegin = record { bank = c.law_bank_apart.ensures.begins; distribution = c.law_distribution_apart.ensures.begins; translation = c.law_translation_apart.ensures.begins } in
    undone rows c.law_settling.ensures.undone

pub returns-clause-done : goal.returns-clause-done
returns-clause-done c =
    let rows : RowsApart = record { bank = c.law_bank_apart.ensures.apart; distribution = c.law_distribution_apart.ensures.apart; translation = c.law_translation_apart.ensures.apart } in
    done rows c.law_settling.ensures.done

pub returns-clause-changes : goal.returns-clause-changes
returns-clause-changes c =
    let apart : RowsApart = record { bank = c.law_bank_apart.ensures.apart; distribution = c.law_distribution_apart.ensures.apart; translation = c.law_translation_apart.ensures.apart } in
    let begins : RowsBegin = record { bank = c.law_bank_apart.ensures.begins; distribution = c.law_distribution_apart.ensures.begins; translation = c.law_translation_apart.ensures.begins } in
    λ p i moment once same. none_there p (decision p i moment).change (undone begins c.law_settling.ensures.undone p i moment) (done apart c.law_settling.ensures.done p p i moment once) same

pub returns-clause-twice : goal.returns-clause-twice
returns-clause-twice c =
    let rows : RowsApart = record { bank = c.law_bank_apart.ensures.apart; distribution = c.law_distribution_apart.ensures.apart; translation = c.law_translation_apart.ensures.apart } in
    λ p q i moment once. c.law_settling.ensures.together _ (decision p i moment).change (done rows c.law_settling.ensures.done p q i moment once)
