use Rattle.std.proofs.Common.{◌++◌, List, ℕ, take, ◌∙◌, ap, arith}
use Rattle.std.proofs.lemmas.List.{take_all}
use Rattle.party_show.specs.Show.{shown}
use Rattle.course.specs.Transcript.{show_lines}
use Rattle.audit_check.specs.Compared.{compared}
use Rattle.audit_check.proofs.Closing.{shows_more}
use Rattle.audit_check.proofs.ending.compare_shows.Goals as goal

pub showing-preserved : goal.showing-preserved
showing-preserved c = λ members made given holds_each was.
    let x = c.view_at.ensures members holds_each in
    c.add.ensures (made ++ show_lines (take c.showing.place members)) given (c.showing.invariant members made given holds_each was)
    ∙ ap (λ (l : List ℕ). compared l given)
    (ap (λ (l : List ℕ). (made ++ show_lines (take c.showing.place members)) ++ l) (c.bytes.ensures ∙ (c.in_ok-text.ensures ∙ ap shown x.2)) ∙ shows_more members c.showing.place x.0 made x.1)

pub returns : goal.returns
returns c = λ members made given holds_each was.
    let size = c.len-place-end.ensures members holds_each in
    c.showing.invariant members made given holds_each was ∙ ap (λ (l : List _). compared (made ++ show_lines l) given) (take_all c.showing.place members (omega (arith, size)))
