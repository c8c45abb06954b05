use Rattle.std.proofs.Common.{◌≡◌, [], length, sym, ◌∙◌, subst}
use Rattle.std.proofs.lemmas.Bool.{eqb-true}
use Rattle.std.proofs.lemmas.List.{nil_from_length}
use Rattle.course.specs.Tallies.{IsTallied}
use Rattle.audit_check.specs.Answers.{transcript_of}
use Rattle.audit_check.proofs.auditing.end_of.Goals as goal

pub returns-in-Ok-line : goal.returns-in-Ok-line
returns-in-Ok-line c = λ a at.
    let none : a.letters ≡ [] = sym at.shows.letters_are ∙ nil_from_length c.args.state.now.letters (eqb-true (length c.args.state.now.letters) 0 (sym c.is_empty.ensures ∙ c.if-not-is_empty.false)) in
    let all = c.in-Ok.ensures a.course.world.members a.course.transcript c.args.transcript.now at.shows.holds_each at.compares in
    (none, c.is_same.ensures.differs c.if-not-is_same.true (transcript_of a.course) c.args.transcript.now all, c.in-Ok-line.ensures (transcript_of a.course) all)

pub returns-in-Ok-tally_of : goal.returns-in-Ok-tally_of
returns-in-Ok-tally_of c = λ a at.
    let none : a.letters ≡ [] = sym at.shows.letters_are ∙ nil_from_length c.args.state.now.letters (eqb-true (length c.args.state.now.letters) 0 (sym c.is_empty.ensures ∙ c.if-not-is_empty.false)) in
    let all = c.in-Ok.ensures a.course.world.members a.course.transcript c.args.transcript.now at.shows.holds_each at.compares in (
      none,
      c.is_same.ensures.same c.if-not-is_same.false (transcript_of a.course) c.args.transcript.now all,
      subst (λ p. IsTallied p a.course.world.members c.in-Ok-tally_of.tally) at.now (c.in-Ok-tally_of.ensures a.course.world.members at.shows.holds_each),
    )
