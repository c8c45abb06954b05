-- One more option.
use Rattle.std.proofs.Common.{◌≡◌, ◌<◌, ◌+◌, ℕ, List, length, take, fold, get_or, refl, ap₂, ◌∙◌, Result, Ok, Err}
use Rattle.std.specs.Result.{IfOk}
use Rattle.std.proofs.lemmas.List.Sums.{fold_more}
use Rattle.clap.specs.Words.{App, app_of, with_rule}
use Rattle.clap.specs.declared.builder.command.Command.{Command}
use Rattle.x_line.specs.declared.opt.Opt.{Opt}
use Rattle.x_line.specs.Line.{bare_app, command_rule, option_rule, with_option, x917_app}
use Rattle.x_line.specs.Options.{options}

pub one_more : (os : List Opt) (i : ℕ) (d : Opt) (start before after : App) → i < length os
    → before ≡ fold with_option start (take i os) → after ≡ with_rule before (option_rule (get_or os i d))
    → after ≡ fold with_option start (take (i + 1) os)
one_more os i d start before after lt b a = rw (a, b, fold_more with_option start os i d lt) refl

pub declared_all : {E : Type 0} (r : Result Command E) (bare : App) (os : List Opt) → bare ≡ with_rule bare_app command_rule → os ≡ options
    → IfOk r (λ c. app_of c ≡ fold with_option bare os) → IfOk r (λ c. app_of c ≡ x917_app)
unfolding x917_app
declared_all (Ok c) bare os b o h = h ∙ ap₂ (fold with_option) b o
declared_all (Err e) bare os b o h = tt
