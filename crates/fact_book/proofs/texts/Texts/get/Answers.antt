use Rattle.std.proofs.Common.{rules, ◌≡◌, ◌∷◌, Some, None, slice_get, slice_index}
use Rattle.fact_book.proofs.Ends.{text_at, end_within}
use Rattle.fact_book.proofs.texts.Texts.get.Goals as goal

pub returns-in_err-end : goal.returns-in_err-end
returns-in_err-end c =
    let none : slice_get c.self.inside.ends.items c.args.place ≡ None = search rules in
    rw (← c.self.view_is) (rw (text_at 0 c.self.inside.ends.items c.self.inside.bytes.items c.args.place) (rw none (search rules)))

pub between-requires-clause-rising : goal.between-requires-clause-rising
between-requires-clause-rising c =
    let end : slice_get c.self.inside.ends.items c.args.place ≡ Some c.in_ok-end.end = search rules in
    let begin : c.begin_of-begin.result ≡ slice_index (0 ∷ c.self.inside.ends.items) c.args.place = search rules in
    rw begin (end_within 0 c.self.inside.ends.items _ c.args.place c.in_ok-end.end c.self.invariant end).0

pub between-requires-clause-within : goal.between-requires-clause-within
between-requires-clause-within c =
    let end : slice_get c.self.inside.ends.items c.args.place ≡ Some c.in_ok-end.end = search rules in
    let l = (end_within 0 c.self.inside.ends.items _ c.args.place c.in_ok-end.end c.self.invariant end).1 in
    search rules

pub returns : goal.returns
returns c =
    let end : slice_get c.self.inside.ends.items c.args.place ≡ Some c.in_ok-end.end = search rules in
    let begin : c.begin_of-begin.result ≡ slice_index (0 ∷ c.self.inside.ends.items) c.args.place = search rules in
    rw (← c.self.view_is) (rw (text_at 0 c.self.inside.ends.items c.self.inside.bytes.items c.args.place) (rw (end, ← begin) (search rules)))
