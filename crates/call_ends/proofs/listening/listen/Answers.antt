use Rattle.std.proofs.Common.{rules, ◌≡◌, ◌≤◌, ◌<◌, ◌∙◌, Ok, Err, length, take, refl, ap, arith}
use Rattle.std.proofs.lemmas.Grind.{common_steps}
use Rattle.std.proofs.lemmas.List.{length-take-le}
use Rattle.call_ends.specs.Transfer.{IsAtEnd}
use Rattle.call_ends.proofs.Transfers.{front_of, took_into}
use Rattle.call_ends.proofs.Arrivals.{heard_was, unheard_was}
use Rattle.call_ends.proofs.listening.listen.Goals.{then-taking-test+else-count-lt-INPUT_LIMIT, else-taking-test}
use Rattle.call_ends.proofs.listening.listen.Goals as goal

pub taking-preserved : goal.taking-preserved
taking-preserved g c =
    let long : length c.taking.input ≡ 2049 = search rules in
    let size : length (take c.taking.count c.taking.input) ≡ c.taking.count = length-take-le c.taking.count c.taking.input (omega (arith, long, c.taking.invariant.bound)) in
    record {
      bound = grind (arith, common_steps, c.in-Ok.ensures.bound, c.taking.invariant.bound);
      took = took_into _ _ _ c.taking.count c.in-Ok.n (take c.taking.count c.taking.input) c.take.new.buf _ size c.taking.invariant.took c.in-Ok.ensures.front c.in-Ok.ensures.bound;
      end = λ none. search (rules, none);
      climbs = search (rules, arith);
    }

pub returns-in-Ok-Ok-clause-heard : goal.returns-in-Ok-Ok-clause-heard
returns-in-Ok-Ok-clause-heard g c =
    let e : c.in-Ok-Ok.field-0 ≡ Ok c.in-Ok-Ok.arrival = c.in-Ok-Ok.field-0-is in
    let before = g.S.Source.left c.args.source.now in
    let after = g.S.Source.left c.taking.source in
    let text = take c.taking.count c.taking.input in
    let size : length text ≡ c.taking.count = length-take-le c.taking.count c.taking.input (omega (arith, c.taking-test.array_long, c.taking.invariant.bound)) in
    let short : length text ≤ 2049 = omega (arith, size, c.taking.invariant.bound) in
    let end : length text < 2049 → IsAtEnd before after = λ lt. elim c.taking-test.branch [
      | then-taking-test+else-count-lt-INPUT_LIMIT w ↦ absurd (search (rules, arith, size, lt, w.if-count-lt-INPUT_LIMIT.false))
      | else-taking-test w ↦ c.taking.invariant.end (search (rules, w.taking-test.false))
    ] in
    heard_was before after text text (front_of 2049 before after text c.taking.invariant.took short end) short end refl c.in-Ok-Ok.field-0 c.in-Ok-Ok.ensures.heard
    c.in-Ok-Ok.arrival c.in-Ok-Ok.ensures.text e

pub returns-in-Ok-Err-clause-unheard : goal.returns-in-Ok-Err-clause-unheard
returns-in-Ok-Err-clause-unheard g c =
    let e : c.in-Ok-Err.field-0 ≡ Err c.in-Ok-Err.unheard = c.in-Ok-Err.field-0-is in
    let before = g.S.Source.left c.args.source.now in
    let after = g.S.Source.left c.taking.source in
    let text = take c.taking.count c.taking.input in
    let size : length text ≡ c.taking.count = length-take-le c.taking.count c.taking.input (omega (arith, c.taking-test.array_long, c.taking.invariant.bound)) in
    let short : length text ≤ 2049 = omega (arith, size, c.taking.invariant.bound) in
    let end : length text < 2049 → IsAtEnd before after = λ lt. elim c.taking-test.branch [
      | then-taking-test+else-count-lt-INPUT_LIMIT w ↦ absurd (search (rules, arith, size, lt, w.if-count-lt-INPUT_LIMIT.false))
      | else-taking-test w ↦ c.taking.invariant.end (search (rules, w.taking-test.false))
    ] in
    unheard_was before after text text (front_of 2049 before after text c.taking.invariant.took short end) short end refl c.in-Ok-Err.field-0 c.in-Ok-Err.ensures.heard
    c.in-Ok-Err.unheard e (λ is. c.in-Ok-Err.ensures.memory (ap Ok (e ∙ ap Err is)))
