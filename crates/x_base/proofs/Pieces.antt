-- One more piece put into a sink.
use Rattle.std.proofs.Common.{◌≡◌, ◌+◌, ◌++◌, ℕ, List, take, drop, refl, append_assoc, Option, Some, None}
use Rattle.std.proofs.Math.Seq.{take-add}
use Rattle.x_base.specs.Edge.{AppendsTo}

put_some : (xs : List ℕ) (mid after : Option (List ℕ)) (text : List ℕ) (at n : ℕ) → mid ≡ Some (xs ++ take at text) → AppendsTo mid after (take n (drop at text)) → after ≡ Some (xs ++ take (at + n) text)
put_some xs None after text at n was more = cc
put_some xs (Some ys) after text at n was more =
    let same : ys ≡ xs ++ take at text = cc in
    rw (more, same, append_assoc, ← take-add at n text) refl

pub put_more : (before mid after : Option (List ℕ)) (text : List ℕ) (at n : ℕ) → AppendsTo before mid (take at text) → AppendsTo mid after (take n (drop at text)) → AppendsTo before after (take (at + n) text)
put_more None mid after text at n first more = tt
put_more (Some xs) mid after text at n first more = put_some xs mid after text at n first more
