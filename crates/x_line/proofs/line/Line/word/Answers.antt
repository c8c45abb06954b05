use Rattle.std.proofs.Common.{codes, ◌∙◌, ap}
use Rattle.clap.specs.Words.{first_of, found_of}
use Rattle.clap.proofs.WalkLemmas.{first_value-rows}
use Rattle.x_line.proofs.line.Line.word.Goals as goal

pub returns : goal.returns
returns c = c.get_str.ensures ∙ (first_value-rows (found_of c.self.inside.matches) (codes "command")
    ∙ ap (first_of (codes "command")) c.self.view_is)
