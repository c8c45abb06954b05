-- What exchanges with centres wait for (this project's profile).
use Rattle.std.specs.Prelude.{ℕ, Bool, false, List, Option, Some, None, bytes_eq}
use Rattle.party_tables.specs.declared.exchange.Kind.{Kind}
use Rattle.party_tables.specs.declared.exchange.Kind.TheVariants as kind
use Rattle.party_tables.specs.declared.exchange.Exchange.{Exchange}
use Rattle.party_state.specs.State.{Party, exchange_with}
use Rattle.bank_keys.specs.declared.waits.KeyAtCentre.{KeyAtCentre}

-- a key that is with a translation centre: for whom, its value and its count there
abbrev pub waiting_by : Kind → Option KeyAtCentre
waiting_by (kind.Translating ultimate value cta) = Some (record { ultimate = ultimate; value = value; cta = cta })
waiting_by (kind.Asked ultimate) = None
waiting_by (kind.KeySent name via) = None
waiting_by (kind.Ending name) = None
waiting_by (kind.PairSent name) = None

abbrev pub waiting_in : Option Exchange → Option KeyAtCentre
waiting_in None = None
waiting_in (Some e) = waiting_by e.kind

abbrev pub waiting_with : Party → List ℕ → Option KeyAtCentre
waiting_with p peer = waiting_in (exchange_with peer p)

-- a key for this ultimate recipient was asked for
abbrev pub is_asked_by : Kind → List ℕ → Bool
is_asked_by (kind.Asked ultimate) u = bytes_eq ultimate u
is_asked_by (kind.Translating ultimate value cta) u = false
is_asked_by (kind.KeySent name via) u = false
is_asked_by (kind.Ending name) u = false
is_asked_by (kind.PairSent name) u = false

abbrev pub is_asked_in : Option Exchange → List ℕ → Bool
is_asked_in None u = false
is_asked_in (Some e) u = is_asked_by e.kind u
