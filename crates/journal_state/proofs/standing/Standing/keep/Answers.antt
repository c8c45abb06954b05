use Rattle.std.proofs.Common.{sym, subst, length}
use Rattle.journal_state.specs.Keeping.{IsFrameOf, IsKept}
use Rattle.journal_state.proofs.standing.Standing.keep.Goals as goal

pub returns : goal.returns
returns g c =
    let told = g.D.Disk.told in
    let step = g.J.Judge.step in
    let start = g.J.Judge.start in
    let frame = c.args.frame.now in
    let is : IsFrameOf step frame c.self.inside.state c.args.next = subst (λ s. IsFrameOf step frame s.state c.args.next) (sym c.self.view_is) c.requires.frame in
    subst (λ s. IsKept step start told s (length frame) c.args.next c.keep_behind.result) c.self.view_is
    (c.keep_behind.ensures c.self.inside.state c.self.invariant is)
