use Rattle.std.proofs.Common.{◌++◌, ◌+◌, ap, subst, sym, ◌∙◌}
use Rattle.scenario_drill.specs.Drill.{set_up}
use Rattle.scenario_drill.proofs.Drilling.{IsDrilled, none_drilled, one_drilled}
use Rattle.scenario_drill.proofs.drill_text.drill.Goals as goal

pub loop-number-init : goal.loop-number-init
loop-number-init c =
    none_drilled c.args.seed c.set_up.new.self.text c.new-draws.result.number
    (c.in_ok-set_up.ensures ∙ ap (λ t. t ++ set_up c.args.seed) c.new-script.ensures) c.new-draws.ensures

pub loop-number-preserved : goal.loop-number-preserved
loop-number-preserved c =
    subst (λ n. IsDrilled c.args.seed (c.loop-number.number + 1) c.event.new.self.text n) (sym c.three-a.ensures.number)
    (one_drilled c.args.seed c.loop-number.number c.loop-number.script.text c.event.new.self.text c.loop-number.draws.number
    c.three-a.result.0 c.three-a.result.1 c.three-a.result.2
    c.loop-number.invariant c.three-a.ensures.first c.three-a.ensures.second c.three-a.ensures.third c.in_ok-event.ensures)
