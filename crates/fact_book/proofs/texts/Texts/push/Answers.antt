use Rattle.std.proofs.Common.{rules, arith, ◌≡◌, ◌+◌, ◌++◌, ◌∷◌, [], length, length-append}
use Rattle.fact_book.proofs.Ends.{ends_push, texts_push}
use Rattle.fact_book.proofs.texts.Texts.push.Goals as goal

pub invariant_of-self-2 : goal.invariant_of-self-2
invariant_of-self-2 c =
    let size = length-append c.self.inside.bytes.items c.args.text.now in
    let grown : c.extend_from_slice.new.self.items ≡ c.self.inside.bytes.items ++ c.args.text.now = search rules in
    let put : c.push.new.self.items ≡ c.self.inside.ends.items ++ length (c.self.inside.bytes.items ++ c.args.text.now) ∷ [] = search rules in
    rw (put, grown) (ends_push 0 c.self.inside.ends.items (length c.self.inside.bytes.items) _ c.self.invariant (omega (arith, size)))

pub returns-clause-appends : goal.returns-clause-appends
returns-clause-appends c =
    let grown : c.extend_from_slice.new.self.items ≡ c.self.inside.bytes.items ++ c.args.text.now = search rules in
    let put : c.push.new.self.items ≡ c.self.inside.ends.items ++ (length c.self.inside.bytes.items + length c.args.text.now) ∷ [] = search rules in
    rw (put, grown, ← c.self.view_is) (texts_push 0 c.self.inside.ends.items c.self.inside.bytes.items c.args.text.now c.self.invariant)
