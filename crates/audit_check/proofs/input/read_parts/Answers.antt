use Rattle.std.proofs.Common.{◌+◌, ℕ, take, refl, ◌∙◌, sym, ap, subst, arith}
use Rattle.std.specs.Prelude.{count_by}
use Rattle.std.proofs.lemmas.List.{take_min}
use Rattle.audit_check.specs.Answers.{is_line_feed}
use Rattle.audit_check.specs.Inputs.{IsBadInput, most_bytes}
use Rattle.audit_check.proofs.Reading.{told, no_letters, too_long}
use Rattle.audit_check.proofs.input.read_parts.Goals as goal

pub returns-in_default : goal.returns-in_default
returns-in_default c =
    let bytes = c.args.bytes.now in
    let f = c.in-Ok.found in
    told bytes c.bad_behind-in_default.result (f.lines + 1) c.bad_behind-in_default.ensures
    (no_letters bytes f.line.now f.lines f.start f.end c.in-Ok.ensures.found (take f.start bytes) c.in-Ok-read-2.scenario refl c.in-Ok-read-2.ensures c.in_default.ensures.none)

pub returns-then-bytes-gt-MOST_BYTES : goal.returns-then-bytes-gt-MOST_BYTES
returns-then-bytes-gt-MOST_BYTES c =
    let bytes = c.args.bytes.now in
    let f = c.in-Ok.found in
    let front = c.split_at.ensures.front ∙ (ap (λ (n : ℕ). take n bytes) c.min.ensures ∙ take_min most_bytes bytes) in
    let count = ap (λ (n : ℕ). n + 1) (c.line_feeds.ensures ∙ ap (count_by is_line_feed) front) in
    told bytes c.bad_behind-then-bytes-gt-MOST_BYTES.result (c.line_feeds.result + 1) c.bad_behind-then-bytes-gt-MOST_BYTES.ensures
    (subst (IsBadInput bytes) (sym count)
    (too_long bytes f.line.now f.lines f.start f.end c.in-Ok.ensures.found (take f.start bytes) c.in-Ok-read-2.scenario refl c.in-Ok-read-2.ensures c.in-Some.letters.now c.in-Some.ensures.some (omega arith)))
