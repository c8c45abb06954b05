-- What a few edits cost, at most.
use Rattle.std.proofs.Common.{arith, ◌≡◌, ◌≤◌, ◌+◌, ℕ, Bool, true, false, cond, List, [], ◌∷◌, ◌++◌, length, filter, lit≤, length-append}
use Rattle.party_tables.specs.declared.exchange.Exchange.{Exchange}
use Rattle.party_state.specs.declared.edit.Edit.{Edit}
use Rattle.party_state.specs.declared.edit.Edit.TheVariants.{PutExchange}
use Rattle.party_state.specs.State.{Party}
use Rattle.role_base.specs.Differing.{differs, differing}
use Rattle.change_code.specs.declared.format.Format.{Format}
use Rattle.change_code.specs.declared.format.Format.TheVariants.{One, Two}
use Rattle.change_code.specs.Code.{two, four, short, long, kind_code, edit_code, edits_code, change_text, number_of, closing, code_of_change}
use Rattle.change_code.specs.Cost.{cost}

more_edits : (e : Edit) (es : List Edit) → length (edits_code (e ∷ es)) ≡ length (edit_code e) + length (edits_code es)
more_edits e es = length-append (edit_code e) (edits_code es)

pub behind_edits : (es : List Edit) (e : Edit) → length (edits_code (es ++ e ∷ [])) ≡ length (edits_code es) + length (edit_code e)
behind_edits [] e = omega (arith, more_edits e [])
behind_edits (x ∷ es) e = omega (arith, more_edits x (es ++ e ∷ []), more_edits x es, behind_edits es e)

kept_short : (p : Party) (es : List Edit) → length (edits_code (differing p es)) ≤ length (edits_code es)
unfolding differing
kept_short p [] = omega arith
kept_short p (e ∷ es) = go (differs p e) (kept_short p es)
  where
    go : (b : Bool) → length (edits_code (filter (differs p) es)) ≤ length (edits_code es) → length (edits_code (cond b (e ∷ filter (differs p) es) (filter (differs p) es))) ≤ length (edits_code (e ∷ es))
    go true h = omega (arith, more_edits e es, more_edits e (filter (differs p) es), h)
    go false h = omega (arith, more_edits e es, h)

end_short : (f : Format) (text : List ℕ) → length (closing f text) ≤ 4
unfolding four
end_short One text = lit≤ tt
end_short Two text = lit≤ tt

two_long : (n : ℕ) → length (two n) ≡ 2
unfolding two
two_long n = λ i. 2

code_short : (f : Format) (es : List Edit) → length (code_of_change f es) ≤ length (edits_code es) + 7
code_short f es =
    let text = number_of f ∷ change_text es in
    omega (arith, length-append text (closing f text), length-append (two (length es)) (edits_code es), two_long (length es), end_short f text)

cost_code : (f : Format) (es : List Edit) → cost f es ≤ length (edits_code es) + 12
cost_code f [] = omega arith
cost_code f (e ∷ es) = omega (arith, code_short f (e ∷ es))

-- what differs costs no more than the codes of all edits and twelve bytes
pub cost_short : (f : Format) (p : Party) (es : List Edit) (n : ℕ) → length (edits_code es) ≤ n → cost f (differing p es) ≤ n + 12
cost_short f p es n h = omega (arith, cost_code f (differing p es), kept_short p es, h)

-- an exchange with a text of so many bytes
pub exchange_long : (e : Exchange) → length (edit_code (PutExchange e)) ≡ length (short e.peer) + (length (kind_code e.kind) + length e.text) + 3
exchange_long e = omega (arith, length-append (short e.peer) (kind_code e.kind ++ long e.text), length-append (kind_code e.kind) (long e.text), length-append (two (length e.text)) e.text, two_long (length e.text))
