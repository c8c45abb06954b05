use Rattle.std.proofs.Common.{false, [], List, ◌∷◌, ◌++◌, ap, ◌∙◌}
use Rattle.x_base.specs.declared.verdict.Verdict.TheVariants.{CountSpent}
use Rattle.party_state.specs.Verdicts.{Test, verdict_of}
use Rattle.role_base.proofs.Spent.{not_counted}
use Rattle.role_base.proofs.Kept.{refuses_row}
use Rattle.bank_orders.proofs.CentresAsked.{translate_spent}
use Rattle.bank_orders.proofs.translate.translate_under.Goals as goal

pub returns-in-None : goal.returns-in-None
returns-in-None c =
    refuses_row c.args.state.now _ _ c.verdict_after.result c.refusal.ensures (translate_spent c.args.state.now c.args.centre.now c.args.ultimate.now c.args.link.now _ c.verdict_after.result
    (not_counted c.args.link.now c.requires.range.next c.in-None.ensures)
    (c.verdict_after.ensures ∙ ap (λ (ts : List Test). verdict_of (ts ++ (false, CountSpent) ∷ [])) c.centre_front-front.ensures))
