use Rattle.std.proofs.Common.{ap, ◌∙◌}
use Rattle.clap.specs.Words.{app_of, with_rule}
use Rattle.x_line.proofs.Declaring.{one_more}
use Rattle.x_line.proofs.declared.with_options.Goals as goal

pub loop-opt-preserved : goal.loop-opt-preserved
loop-opt-preserved c =
    one_more c.args.options.now c.loop-opt.opt-index _ (app_of c.args.command) (app_of c.loop-opt.command) (app_of c.in_ok-command.command)
    c.loop-opt-test.true c.loop-opt.invariant
    (c.in_ok-command.ensures.shape c.argument.ensures.local ∙ ap (with_rule (app_of c.loop-opt.command)) c.argument.ensures.rule)
