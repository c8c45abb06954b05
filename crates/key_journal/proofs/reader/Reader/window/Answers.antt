use Rattle.std.proofs.Common.{◌≡◌, Some, ap, sym, subst, arith}
use Rattle.key_journal.proofs.OpenLemmas.{window_part}
use Rattle.key_journal.proofs.reader.Reader.window.Goals as goal

pub returns-clause-bytes : goal.returns-clause-bytes
returns-clause-bytes g c = λ b is.
    let i = c.self.inside in
    let told = subst (λ d. (g.D.Disk.told d).now ≡ Some b) (sym (ap (λ r. r.disk) c.self.view_is)) is in
    window_part i.buffer b i.from i.held c.args.at (c.self.invariant.same b told) (omega (arith, c.requires.from, ap (λ r. r.from) c.self.view_is)) (omega (arith, c.requires.held, ap (λ r. r.from) c.self.view_is, ap (λ r. r.held) c.self.view_is))
