use Rattle.std.proofs.Common.{◌≡◌, take, fold}
use Rattle.clap.specs.Words.{app_of}
use Rattle.x_line.specs.Line.{with_option}
use Rattle.x_line.proofs.declared.with_options.Given as goal

abbrev pub invariant-loop-opt : goal.invariant-loop-opt
invariant-loop-opt l = app_of l.command ≡ fold with_option (app_of l.initial.command) (take l.opt-index l.options)
