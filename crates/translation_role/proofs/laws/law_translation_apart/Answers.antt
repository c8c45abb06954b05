use Rattle.translation_role.proofs.TranslatedApart.{row_apart, row_begins}
use Rattle.translation_role.proofs.laws.law_translation_apart.Goals as goal

pub returns-clause-apart : goal.returns-clause-apart
returns-clause-apart c = row_apart (record { same = c.law_same.ensures.link; found = c.law_found.ensures.link; put = c.law_put.ensures.link }) c.law_commands.ensures.apart

pub returns-clause-begins : goal.returns-clause-begins
returns-clause-begins c = row_begins c.law_commands.ensures.begins
