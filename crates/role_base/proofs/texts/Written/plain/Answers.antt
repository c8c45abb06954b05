use Rattle.std.proofs.Common.{◌≡◌}
use Rattle.csm_write.specs.declared.closing.Closing.TheVariants as closing
use Rattle.csm_write.specs.Canon.{canon}
use Rattle.role_base.proofs.texts.Written.plain.Goals as goal

pub returns-clause-short : goal.returns-clause-short
returns-clause-short c = λ small.
    let e : c.in_ok-text.text ≡ canon c.args.message closing.Edc = c.in_ok-text.ensures.canonical in
    rw e (c.law_canon_short.ensures c.args.message closing.Edc c.in_ok-text.ensures.typed small)
