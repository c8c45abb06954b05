-- Edits that are formed and fitting are in range; parties with equal parts are equal.
use Rattle.std.proofs.Common.{◌≡◌, List, [], ◌∷◌, ◌++◌}
use Rattle.std.proofs.lemmas.List.Elements.{All-push}
use Rattle.party_state.specs.declared.edit.Edit.{Edit}
use Rattle.party_state.specs.Ranges.{AreInRange, AreFitting}
use Rattle.party_state.specs.State.{Party}
use Rattle.party_state.specs.Formed.{IsFormed, AreFormed}

pub fitting_in_range : (es : List Edit) → AreFormed es → AreFitting es → AreInRange es
fitting_in_range es formed fitting = λ k d within. formed k d within (fitting k d within)

pub formed_more : (es : List Edit) (e : Edit) → AreFormed es → IsFormed e → AreFormed (es ++ e ∷ [])
formed_more es e formed last = All-push IsFormed es e formed last

pub same_party : (p q : Party) → p.own ≡ q.own → p.role ≡ q.role → p.generator ≡ q.generator → p.links ≡ q.links → p.keys ≡ q.keys → p.exchanges ≡ q.exchanges → p.answers ≡ q.answers → p ≡ q
same_party p q own role generator links keys exchanges answers = λ i. record { own = own i; role = role i; generator = generator i; links = links i; keys = keys i; exchanges = exchanges i; answers = answers i }
