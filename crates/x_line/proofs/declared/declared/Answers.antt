use Rattle.std.proofs.Common.{◌≡◌, rules, ap, ap₂, ◌∙◌, true}
use Rattle.clap.specs.Words.{app_of, rule_of, with_rule}
use Rattle.clap.specs.Simple.{app_of_fields, on_top}
use Rattle.x_line.specs.Line.{bare_app, command_rule}
use Rattle.x_line.proofs.Declaring.{declared_all}
use Rattle.x_line.proofs.declared.declared.Goals as goal

pub returns : goal.returns
returns c =
    let positional : rule_of c.action-positional.result ≡ command_rule = search rules in
    let start : app_of c.no_binary_name.result ≡ bare_app =
    ap app_of_fields c.no_binary_name.ensures ∙ ap (on_top (λ s. record s { no_binary_name = true })) c.new-2.ensures.app in
    declared_all c.with_options.result (app_of c.in_ok-bare.bare) c.as_slice.result.now
    (c.in_ok-bare.ensures.shape (search rules) ∙ ap₂ with_rule start positional) (search rules) c.with_options.ensures
