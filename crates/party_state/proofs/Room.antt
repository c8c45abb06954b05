-- The room for a list of edits.
use Rattle.std.proofs.Common.{◌≡◌, ℕ, ◌+◌, ◌≤◌, List, [], ◌∷◌, count_by, Bool, cond, arith}
use Rattle.std.proofs.lemmas.List.Sums.{sum_by-cons}
use Rattle.party_state.specs.declared.edit.Edit.{Edit}
use Rattle.party_state.specs.Rooms.{Rooms, puts_link, puts_key, puts_exchange, puts_answer, HasSpaceFor}

one_of : (p : Edit → Bool) (e : Edit) (es : List Edit) (n : ℕ) → count_by p (e ∷ es) ≤ n → count_by p (e ∷ []) ≤ n
one_of p e es n most =
    let all : count_by p (e ∷ es) ≡ cond (p e) 1 0 + count_by p es = sum_by-cons (λ x. cond (p x) 1 0) e es in
    omega (arith, all, most)

-- room for all of them is room for the first
pub first_room : (e : Edit) (es : List Edit) (r : Rooms) → HasSpaceFor (e ∷ es) r → HasSpaceFor (e ∷ []) r
first_room e es r has = record {
  links = one_of puts_link e es r.links has.links;
  keys = one_of puts_key e es r.keys has.keys;
  exchanges = one_of puts_exchange e es r.exchanges has.exchanges;
  answers = one_of puts_answer e es r.answers has.answers;
}
