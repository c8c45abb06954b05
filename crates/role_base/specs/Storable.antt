-- What the store asks of a change (this project's profile).
use Rattle.std.specs.Prelude.{◌≡◌, ◌≤◌, Bool, true, false, not, ◌&&◌, ◌||◌, ℕ, ◌+◌, ◌-◌, nat_lt, is_some, List, [], ◌∷◌, length}
use Rattle.std.specs.List.{list_any}
use Rattle.party_state.specs.declared.edit.Edit.{Edit}
use Rattle.party_state.specs.declared.edit.Edit.TheVariants.{Begin, PutLink, DropLink, PutKey, DropEnded, PutExchange, DropExchange, PutAnswer, SetGen}
use Rattle.party_tables.specs.declared.key.RecordKey.{RecordKey}
use Rattle.party_tables.specs.declared.link.LinkKey.{LinkKey}
use Rattle.party_tables.specs.Keys.{link_key, record_key}
use Rattle.party_state.specs.State.{Party, link_with, record_with}
use Rattle.party_tables.specs.Ranges.{IsNextCount, IsFittingExchange}
use Rattle.party_state.specs.Ranges.{AreFitting, HasNoBegin}
use Rattle.role_base.specs.Conditions.{one_more}
use Rattle.party_state.specs.Limits.{IsWithinLimits, StaysWithinLimits, most_links, most_keys}

-- it has nine edits at most, none of which begins a party; each fits, and none passes a limit
pub record IsStorable (p : Party) (es : List Edit) : Type 0 where
  pub few : length es ≤ 9
  pub goes_on : HasNoBegin es
  pub fitting : AreFitting es
  pub within : IsWithinLimits p → StaysWithinLimits es p

-- edits that the store can keep, however many of them make a difference

-- a put that replaces, or for which there is room; before a key so many new ones were put
abbrev pub can_put_link : Party → LinkKey → Bool
can_put_link p key = is_some (link_with key p) || nat_lt (length p.links) most_links

abbrev pub can_put_key_behind : ℕ → Party → RecordKey → Bool
can_put_key_behind new p key = is_some (record_with key p) || nat_lt (length p.keys) (most_keys - new)

abbrev pub can_put_key : Party → RecordKey → Bool
can_put_key p key = can_put_key_behind 0 p key

-- the store can keep the edit at this party, also where so many new keys were put before it and other tables were changed
abbrev pub IsKeepableBehind : ℕ → Party → Edit → Type 0
IsKeepableBehind new p (Begin own role generator) = ⊥
IsKeepableBehind new p (PutLink l) = IsNextCount l.next × (can_put_link p (link_key l) ≡ true)
IsKeepableBehind new p (PutKey k) = can_put_key_behind new p (record_key k) ≡ true
IsKeepableBehind new p (PutExchange e) = IsFittingExchange e
IsKeepableBehind new p (DropLink peer label side) = Unit {0}
IsKeepableBehind new p DropEnded = Unit {0}
IsKeepableBehind new p (DropExchange peer) = Unit {0}
IsKeepableBehind new p (PutAnswer a) = Unit {0}
IsKeepableBehind new p (SetGen v) = Unit {0}

abbrev pub IsKeepable : Party → Edit → Type 0
IsKeepable p e = IsKeepableBehind 0 p e

-- how many new keys stand after it
abbrev pub new_keys : Party → Edit → ℕ
new_keys p (PutKey k) = one_more (record_with (record_key k) p)
new_keys p _ = 0

abbrev pub AllKeepableBehind : ℕ → Party → List Edit → Type 0
AllKeepableBehind new p [] = Unit {0}
AllKeepableBehind new p (e ∷ es) = IsKeepableBehind new p e × AllKeepableBehind (new + new_keys p e) p es

abbrev pub puts_link : Edit → Bool
puts_link (PutLink l) = true
puts_link _ = false

abbrev pub puts_key : Edit → Bool
puts_key (PutKey k) = true
puts_key _ = false

-- fewer or more links may stand after it: all but a put that replaces
abbrev pub moves_links : Party → Edit → Bool
moves_links p (PutLink l) = not (is_some (link_with (link_key l) p))
moves_links p (DropLink peer label side) = true
moves_links p (Begin own role generator) = true
moves_links p _ = false

-- keys may go
abbrev pub drops_keys : Edit → Bool
drops_keys DropEnded = true
drops_keys (Begin own role generator) = true
drops_keys _ = false

-- no link is put behind an edit that moves the links, and no key behind one that drops keys
abbrev pub puts_first : Party → List Edit → Bool
puts_first p [] = true
puts_first p (e ∷ es) = not (list_any puts_link es && moves_links p e) && (not (drops_keys e && list_any puts_key es) && puts_first p es)

pub record AreKeepable (p : Party) (es : List Edit) : Type 0 where
  pub each : AllKeepableBehind 0 p es
  pub order : puts_first p es ≡ true

-- few edits, which the store can keep
pub record AreFew (p : Party) (es : List Edit) : Type 0 where
  pub keepable : AreKeepable p es
  pub few : length es ≤ 9
