-- The lines in which a party is shown (this project's profile).
use Rattle.std.specs.Prelude.{ℕ, List, [], ◌∷◌, ◌++◌, codes, map, Bool, cond}
use Rattle.std.specs.List.{concat}
use Rattle.std.specs.Fmt.{decimal}
use Rattle.x_base.specs.KeyName.{written}
use Rattle.x_base.specs.declared.party.Role.{Role}
use Rattle.x_base.specs.declared.party.Role.TheVariants as role
use Rattle.x_base.specs.declared.party.Side.{Side}
use Rattle.x_base.specs.declared.party.Side.TheVariants.{Sends, Takes}
use Rattle.party_tables.specs.declared.link.LinkRec.{LinkRec}
use Rattle.party_tables.specs.declared.key.KeyRec.{KeyRec}
use Rattle.party_tables.specs.declared.key.KeyStatus.{KeyStatus}
use Rattle.party_tables.specs.declared.key.KeyStatus.TheVariants.{Pending, Live, Held, Closing, Ended}
use Rattle.party_tables.specs.declared.exchange.Kind.{Kind}
use Rattle.party_tables.specs.declared.exchange.Kind.TheVariants as kind
use Rattle.party_tables.specs.declared.exchange.Exchange.{Exchange}
use Rattle.party_tables.specs.declared.answer.Answer.{Answer}
use Rattle.party_state.specs.State.{Party}

-- words with one blank between them, and a line feed
abbrev pub line : List (List ℕ) → List ℕ
line [] = 10 ∷ []
line (w ∷ []) = w ++ 10 ∷ []
line (w ∷ v ∷ ws) = w ++ 32 ∷ line (v ∷ ws)

abbrev pub role_word : Role → List ℕ
role_word role.Bank = codes "BANK"
role_word role.Distribution = codes "DISTRIBUTION"
role_word role.Translation = codes "TRANSLATION"

abbrev pub side_word : Side → List ℕ
side_word Sends = codes "OUT"
side_word Takes = codes "IN"

abbrev pub ready_word : Bool → List ℕ
ready_word ready = cond ready (codes "READY") (codes "PENDING")

abbrev pub status_word : KeyStatus → List ℕ
status_word Pending = codes "PENDING"
status_word Live = codes "LIVE"
status_word Held = codes "HELD"
status_word Closing = codes "CLOSING"
status_word Ended = codes "ENDED"

abbrev pub party_line : Party → List ℕ
party_line p = line (codes "PARTY" ∷ p.own ∷ role_word p.role ∷ [])

abbrev pub link_line : LinkRec → List ℕ
link_line l = line (codes "LINK" ∷ l.peer ∷ l.label ∷ side_word l.side ∷ decimal l.next ∷ ready_word l.ready ∷ [])

abbrev pub key_line : KeyRec → List ℕ
key_line k = line (codes "KEY" ∷ k.peer ∷ written k.name ∷ status_word k.status ∷ [])

abbrev pub kind_words : Kind → List (List ℕ)
kind_words (kind.Asked ultimate) = codes "ASKED" ∷ ultimate ∷ []
kind_words (kind.Translating ultimate value cta) = codes "TRANSLATING" ∷ ultimate ∷ decimal cta ∷ []
kind_words (kind.KeySent name via) = codes "KEYSENT" ∷ written name ∷ []
kind_words (kind.Ending name) = codes "ENDING" ∷ written name ∷ []
kind_words (kind.PairSent name) = codes "PAIRSENT" ∷ written name ∷ []

abbrev pub exchange_line : Exchange → List ℕ
exchange_line e = line (codes "EXCHANGE" ∷ e.peer ∷ kind_words e.kind)

abbrev pub answer_line : Answer → List ℕ
answer_line a = line (codes "ANSWER" ∷ a.requester ∷ a.ultimate ∷ decimal a.cta ∷ [])

-- the party, its links, keys, exchanges and answers, each list in its order
abbrev pub shown : Party → List ℕ
shown p = party_line p ++ (concat (map link_line p.links) ++ (concat (map key_line p.keys)
    ++ (concat (map exchange_line p.exchanges) ++ concat (map answer_line p.answers))))
