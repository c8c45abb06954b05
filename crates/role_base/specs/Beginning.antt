-- An exchange is begun only with a peer with whom none stands, and no party begins (this project's profile).
use Rattle.std.specs.Prelude.{◌≡◌, List, None}
use Rattle.std.specs.List.{AllByRecursion}
use Rattle.party_state.specs.declared.edit.Edit.{Edit}
use Rattle.party_state.specs.declared.edit.Edit.TheVariants.{Begin, PutExchange}
use Rattle.party_state.specs.State.{Party, exchange_with}

abbrev pub BeginsFree : Party → Edit → Type 0
BeginsFree p (PutExchange e) = exchange_with e.peer p ≡ None
BeginsFree p (Begin own role generator) = ⊥
BeginsFree p _ = Unit {0}

-- each exchange that is put is begun so
abbrev pub AllBeginFree : Party → List Edit → Type 0
AllBeginFree p es = AllByRecursion (BeginsFree p) es
