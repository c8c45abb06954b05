use Rattle.std.proofs.Common.{arith}
use Rattle.x_gen.specs.Parity.{odd_parity_of}
use Rattle.world_laws.specs.Exchanged.{weak_generator}
use Rattle.course.specs.Live.{live_lines, live_moment}
use Rattle.course.proofs.LiveText.{live_scenario, live_in_range, live_rules}
use Rattle.course.proofs.LiveCourse.{live_course, strong}
use Rattle.course.proofs.live.law_live_key.Goals as goal

pub returns-clause-text : goal.returns-clause-text
returns-clause-text c = live_scenario

pub returns-clause-start : goal.returns-clause-start
returns-clause-start c = c.law_starts.ensures.start live_lines live_in_range live_rules

pub returns-clause-live : goal.returns-clause-live
returns-clause-live c =
    let draws = c.law_exchanged.ensures.draws live_moment (omega arith) strong in
    live_course c.law_hearing.ensures (λ h pair s t roomy roomy'. c.law_exchanged.ensures.live weak_generator h pair s t live_moment (odd_parity_of live_moment, draws.after) draws.draws roomy roomy')
