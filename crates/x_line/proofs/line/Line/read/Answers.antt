use Rattle.std.proofs.Common.{◌≡◌, ◌∙◌, map, string_bytes}
use Rattle.clap.specs.Words.{app_of, kind_of, rows_of, found_of}
use Rattle.clap.specs.declared.error.kind.ErrorKind.TheVariants as kind
use Rattle.x_line.proofs.Parsing.{rows_are, line_refused, line_taken}
use Rattle.x_line.proofs.line.Line.read.Goals as goal

pub returns-in-Ok-try_get_matches_from-clause-rows : goal.returns-in-Ok-try_get_matches_from-clause-rows
returns-in-Ok-try_get_matches_from-clause-rows c =
    rows_are (app_of c.in-Ok.command) (map string_bytes c.texts.result.now) c.args.words.now
    (rows_of (found_of c.in-Ok-try_get_matches_from.matches)) c.in-Ok.ensures c.texts.ensures
    (λ s. (c.in-Ok-try_get_matches_from.ensures.matches s).0)

pub returns-in-Ok-try_get_matches_from-clause-taken : goal.returns-in-Ok-try_get_matches_from-clause-taken
returns-in-Ok-try_get_matches_from-clause-taken c =
    line_taken (app_of c.in-Ok.command) (map string_bytes c.texts.result.now) c.args.words.now
    c.in-Ok.ensures c.texts.ensures c.in-Ok-try_get_matches_from.ensures.kinds

pub returns : goal.returns
returns c = record {
  rows = tt;
  taken = tt;
  refused = λ _. line_refused (app_of c.in-Ok.command) (map string_bytes c.texts.result.now) c.args.words.now
      (kind_of c.in-Err.error ≡ kind.OutOfMemory) c.in-Ok.ensures c.texts.ensures c.in-Err.ensures.passes
      (λ e. c.in_default-kind.not-OutOfMemory (c.kind.ensures ∙ e));
}
