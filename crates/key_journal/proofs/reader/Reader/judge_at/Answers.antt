use Rattle.std.proofs.Common.{◌≡◌, ◌≤◌, ◌<◌, ◌-◌, ◌∙◌, min, length, Some, ap, sym, subst, arith}
use Rattle.key_journal.proofs.ReadLemmas.{judged_same}
use Rattle.key_journal.proofs.reader.Reader.judge_at.Goals as goal

pub returns-clause-value : goal.returns-clause-value
returns-clause-value g c = λ b is.
    let now = c.hold.ensures.file.still.now ∙ is in
    let size = c.self-2.inside.size in
    let same : size ≡ c.args.self.now.size = ap (λ r. r.size) c.self-2.view_is ∙ c.hold.ensures.file.size in
    let long = c.self-2.invariant.long b (subst (λ d. (g.D.Disk.told d).now ≡ Some b) (sym (ap (λ r. r.disk) c.self-2.view_is)) now) in
    let within : c.args.gate < size = omega (arith, c.if-self-gate.false, same, ap (λ r. r.size) c.self.view_is) in
    let enough : min 5 (size - c.args.gate) ≤ length c.window.result.now = omega (arith, c.window.ensures.length, c.in_ok-hold.ensures.held, ap (λ r. r.size) c.self-2.view_is) in
    c.judge.ensures.value ∙ judged_same b c.window.result.now c.args.gate c.args.end size long within (c.window.ensures.bytes b now) enough
