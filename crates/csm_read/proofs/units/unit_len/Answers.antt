use Rattle.std.proofs.Common.{◌≡◌, List, ℕ, sym, ◌∙◌, ap, subst, take, true}
use Rattle.std.specs.List.{list_all}
use Rattle.csm_grammar.specs.Values.{is_hex}
use Rattle.csm_read.specs.Judging.{is_plain}
use Rattle.csm_read.specs.Scanning.{IsRun}
use Rattle.csm_read.proofs.UnitLemmas.{runs_out, unit_alone, half_runs_out, half_alone, half_joined}
use Rattle.csm_read.proofs.units.unit_len.Goals as goal

pub returns-in_err-len : goal.returns-in_err-len
returns-in_err-len c = rw c.from_residual.ensures (runs_out c.args.bytes.now c.in_err-len.ensures)

pub returns-then-not-waits : goal.returns-then-not-waits
returns-then-not-waits c = unit_alone c.args.bytes.now c.in_ok-len.len c.in_ok-len.ensures (sym c.if-not-waits.ensures)

pub returns-in_err-more : goal.returns-in_err-more
returns-in_err-more c =
    rw c.from_residual-in_err-more.ensures (half_runs_out c.args.bytes.now c.in_ok-len.len c.in_ok-len.ensures (sym c.if-not-waits.ensures)
    (subst (λ (x : List ℕ). list_all is_plain x ≡ true) c.split_at.ensures.back c.in_err-more.ensures))

pub returns-then-are_four_digits : goal.returns-then-are_four_digits
returns-then-are_four_digits c =
    let e = c.split_at.ensures.back in
    half_joined c.args.bytes.now c.in_ok-len.len c.in_ok-more.more c.in_ok-len.ensures (sym c.if-not-waits.ensures)
    (subst (λ (x : List ℕ). IsRun x c.in_ok-more.more) e c.in_ok-more.ensures) (sym (ap (λ (x : List ℕ). is_hex 4 (take c.in_ok-more.more x)) e) ∙ sym c.if-are_four_digits.ensures)

pub returns-else-are_four_digits : goal.returns-else-are_four_digits
returns-else-are_four_digits c =
    let e = c.split_at.ensures.back in
    half_alone c.args.bytes.now c.in_ok-len.len c.in_ok-more.more c.in_ok-len.ensures (sym c.if-not-waits.ensures)
    (subst (λ (x : List ℕ). IsRun x c.in_ok-more.more) e c.in_ok-more.ensures) (sym (ap (λ (x : List ℕ). is_hex 4 (take c.in_ok-more.more x)) e) ∙ sym c.if-are_four_digits.ensures)
