use Rattle.scenario.proofs.Tabling.{drafted}
use Rattle.scenario.proofs.draft.Draft.append.Goals as goal

pub returns-clause-draft : goal.returns-clause-draft
returns-clause-draft c =
    drafted c.args.self.now (record { lines = c.push_line.new.lines; tables = c.note.new.self }) c.args.line c.requires.draft c.requires.rules
    c.in_ok-note.ensures c.in_ok-push_line.ensures
