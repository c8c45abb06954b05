use Rattle.x917.proofs.Drills.{drill_tells}
use Rattle.x917.proofs.Expected.{still_quiet}
use Rattle.x917.proofs.drilling.play_alone.Goals as goal

pub returns : goal.returns
returns c = record {
  old = c.new-shelf.result;
  new = c.play.new.shelf;
  empty = λ name. (c.new-shelf.ensures.entries name).now;
  play = c.play.ensures.played (drill_tells _ c.args.scenario.now c.new-shelf.ensures.entries);
  write = λ e. still_quiet (c.play.ensures.write e);
  fault = λ e. still_quiet (c.play.ensures.fault e);
}
