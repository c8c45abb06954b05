use Rattle.std.proofs.Common.{◌∙◌, ap₂}
use Rattle.clap.specs.Words.{first_of, found_of}
use Rattle.clap.proofs.WalkLemmas.{first_value-rows}
use Rattle.x_line.proofs.line.Line.text.Goals as goal

pub returns : goal.returns
returns c = c.get_str.ensures ∙ (first_value-rows (found_of c.self.inside.matches) c.name.result.now
    ∙ ap₂ first_of c.name.ensures c.self.view_is)
