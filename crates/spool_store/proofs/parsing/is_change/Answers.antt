use Rattle.std.proofs.Common.{◌≡◌, [], ap, length, arith, rules}
use Rattle.party_state.specs.Ranges.{HasNoBegin}
use Rattle.change_code.specs.declared.format.Format.TheVariants.{Two}
use Rattle.change_code.specs.Code.{IsCode}
use Rattle.spool_store.proofs.Changes.{never_begins, never_coded}
use Rattle.spool_store.proofs.parsing.is_change.Goals as goal

pub returns-in-Ok-Two-clause-no : goal.returns-in-Ok-Two-clause-no
returns-in-Ok-Two-clause-no c = λ is.
    let some : c.args.code.now ≡ [] → ⊥ = λ none. grind (arith, ap length none) in
    let code : IsCode Two c.args.code.now c.in-Ok-Two.field-0.change = search rules in
    let begins : HasNoBegin c.in-Ok-Two.field-0.change → ⊥ = λ go. grind (arith, c.goes_on.ensures.1 go) in
    never_begins c.args.code.now c.in-Ok-Two.field-0.change c.law_one_change.ensures some code begins

pub returns-in-Err-Bad-clause-no : goal.returns-in-Err-Bad-clause-no
returns-in-Err-Bad-clause-no c = λ is.
    let some : c.args.code.now ≡ [] → ⊥ = λ none. grind (arith, ap length none) in
    never_coded c.args.code.now some (c.in-Err-Bad.ensures.bad c.in-Err-Bad.field-0-is)
