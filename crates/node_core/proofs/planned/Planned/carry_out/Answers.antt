use Rattle.std.proofs.Common.{subst}
use Rattle.member.specs.Acts.{taking}
use Rattle.node_core.specs.Turns.{IsTurn}
use Rattle.node_core.specs.declared.node.Turn.TheVariants as turn
use Rattle.node_core.proofs.Turning.{kept_turn, cut_turn}
use Rattle.node_core.proofs.planned.Planned.carry_out.Goals as goal

pub returns-in-Ok-clause-turn : goal.returns-in-Ok-clause-turn
returns-in-Ok-clause-turn g c =
    let told = g.D.Disk.told in
    let answer = c.self.inside.answer in
    subst (λ p. IsTurn told p.node (taking p.plan) (turn.Done c.in-Ok.store answer.verdict answer.reply answer.under)) c.self.view_is
    (kept_turn told c.self.inside.changing.store answer.verdict answer.reply answer.under c.self.inside.changing.edits c.in-Ok.store c.self.invariant.1 c.in-Ok.ensures)

pub returns-in-Err-clause-turn : goal.returns-in-Err-clause-turn
returns-in-Err-clause-turn g c =
    let told = g.D.Disk.told in
    let answer = c.self.inside.answer in
    subst (λ p. IsTurn told p.node (taking p.plan) (turn.Broken c.in-Err.broken)) c.self.view_is
    (cut_turn told c.self.inside.changing.store answer.verdict answer.reply answer.under c.self.inside.changing.edits c.in-Err.broken c.in-Err.ensures)
