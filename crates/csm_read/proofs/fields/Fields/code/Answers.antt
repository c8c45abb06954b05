use Rattle.std.proofs.Common.{◌<◌, ◌^◌, ℕ, refl, sym, subst, arith}
use Rattle.csm_grammar.specs.Values.Kind.{OfCode}
use Rattle.csm_read.proofs.Denoting.{value_kept, is_of_kind}
use Rattle.csm_read.proofs.fields.Fields.code.Goals as goal

pub overflow_cast-result : goal.overflow_cast-result
overflow_cast-result c =
    let small = is_of_kind c.args.self.now.slots c.args.self.now.numbers c.args.self.now.denoted c.args.tag c.requires.present OfCode refl c.requires.kind in
    let kept : c.number.result < 2 ^ 32 = subst (λ (n : ℕ). n < 2 ^ 32) (sym c.number.ensures) small in
    omega arith

pub returns : goal.returns
returns c = value_kept c.args.self.now.slots c.args.self.now.numbers c.args.self.now.denoted c.args.tag c.requires.present OfCode refl c.requires.kind c.number.result c.number.ensures
