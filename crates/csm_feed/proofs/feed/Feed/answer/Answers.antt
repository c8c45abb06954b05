use Rattle.std.proofs.Common.{rules, ◌≡◌, subst}
use Rattle.csm_feed.specs.declared.next.Next.TheVariants.{Refused}
use Rattle.csm_feed.specs.HeldBytes.{Feeding}
use Rattle.csm_feed.specs.Feeding.{Answers}
use Rattle.csm_feed.proofs.Answering.{given_again}
use Rattle.csm_feed.proofs.feed.Feed.answer.Goals as goal

pub returns-in-Some-clause-answers : goal.returns-in-Some-clause-answers
returns-in-Some-clause-answers c =
    let was : Feeding = record { held = c.self.inside.held.items; before = c.self.inside.before; refusal = c.self.inside.refusal } in
    let same : was ≡ c.args.self.now = search rules in
    subst (λ (f : Feeding). Answers f (Refused c.in-Some.refusal) f) same (given_again was c.in-Some.refusal c.self.invariant.0 (search rules))
