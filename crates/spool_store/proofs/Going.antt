-- Changes of which no edit begins a party.
use Rattle.std.proofs.Common.{◌≡◌, ℕ, ◌+◌, ◌≤◌, List, length, take, slice_get, Some, sym, subst}
use Rattle.std.specs.List.{All}
use Rattle.std.proofs.lemmas.List.{take_all}
use Rattle.std.proofs.lemmas.List.Elements.{All-more}
use Rattle.std.proofs.lemmas.Option.{slice_get_within, get_or_from_slice_get}
use Rattle.party_state.specs.declared.edit.Edit.{Edit}
use Rattle.party_state.specs.Ranges.{IsNoBegin, HasNoBegin}

pub goes_more : (es : List Edit) (i : ℕ) (e : Edit) → slice_get es i ≡ Some e → All IsNoBegin (take i es) → IsNoBegin e → All IsNoBegin (take (i + 1) es)
goes_more es i e got front is = All-more IsNoBegin es i e (slice_get_within es i e got) front (subst IsNoBegin (sym (get_or_from_slice_get es i e e got)) is)

pub all_go : (es : List Edit) (n : ℕ) → length es ≤ n → All IsNoBegin (take n es) → HasNoBegin es
all_go es n few h = subst (All IsNoBegin) (take_all n es few) h
