-- What the texts that are written show of the use of key-encrypting keys (ANSI X9.17's counts), without the rows by which a
-- party decides: read by the meaning of an authenticated text, and opened under the pair of the link for sending.
use Rattle.std.specs.Prelude.{◌≡◌, ℕ, ◌+◌, suc, Option, Some, None, List, [], ◌∷◌, ◌++◌, map}
use Rattle.x_mac.specs.declared.pair.Pair.{Pair}
use Rattle.x_seal.specs.Wrapped.{unwrap_of, unseal_of}
use Rattle.csm_grammar.specs.declared.message.KsmBody.{KsmBody}
use Rattle.csm_grammar.specs.declared.message.KsmBody.TheVariants as body
use Rattle.csm_grammar.specs.declared.message.Message.{Message}
use Rattle.csm_grammar.specs.declared.message.Message.TheVariants as message
use Rattle.csm_grammar.specs.Spelling.{Says}
use Rattle.party_tables.specs.declared.link.LinkRec.{LinkRec}
use Rattle.party_tables.specs.Keys.{sends}
use Rattle.party_state.specs.Rows.{OneKey, OnePair, Use, Made}
use Rattle.party_state.specs.State.{Party, centre_label, link_with}
use Rattle.member.specs.Member.{Member}
use Rattle.world_laws.specs.World.{Fact, Birth, KkUse, World, member_at}
use Rattle.world_laws.specs.Carried.{carried_kk}
use Rattle.world_laws.specs.Events.{Event}
use Rattle.world_laws.specs.Steps.{births_of, kk_use, step}

-- a key under the link with this recipient and label, at a count
abbrev pub one_use : List ℕ → List ℕ → ℕ → ℕ → Use
one_use recipient label count key = record { recipient = recipient; label = label; count = count; sealed = OneKey key }

abbrev pub under_pair : Option LinkRec → (Pair → List Use) → List Use
under_pair None f = []
under_pair (Some l) f = f l.pair

-- what is opened under the pair of the link for sending with this recipient and label
abbrev pub under_link : Party → List ℕ → List ℕ → (Pair → List Use) → List Use
under_link p recipient label f = under_pair (link_with (sends recipient label) p) f

-- of a key service message: its data keys at their counts; a new key-encrypting key at the count, and then its data key under
-- that at 1. One that was passed on from a centre shows none, nor does one that names no link
abbrev pub body_uses : Party → List ℕ → KsmBody → List Use
body_uses p recipient (body.Direct None new kd ctp) = []
body_uses p recipient (body.Direct (Some label) None kd ctp) = under_link p recipient label (λ pair. one_use recipient label ctp (unwrap_of pair ctp kd) ∷ [])
body_uses p recipient (body.Direct (Some label) (Some new) kd ctp) =
    under_link p recipient label (λ pair. record { recipient = recipient; label = label; count = ctp; sealed = OnePair (carried_kk pair ctp new.1) } ∷ one_use recipient new.0 1 (unwrap_of (carried_kk pair ctp new.1) 1 kd) ∷ [])
body_uses p recipient (body.Centre centre kdu ctb) = []
body_uses p recipient (body.Twin None first second ctp) = []
body_uses p recipient (body.Twin (Some label) first second ctp) =
    under_link p recipient label (λ pair. one_use recipient label ctp (unwrap_of pair ctp first) ∷ one_use recipient label (ctp + 1) (unwrap_of pair (ctp + 1) second) ∷ [])

-- of a centre's answer, the key for the bank that asked, where it has one
abbrev pub asker_uses : Party → List ℕ → Option (ℕ × ℕ) → List Use
asker_uses p asker None = []
asker_uses p asker (Some k) = under_link p asker centre_label (λ pair. one_use asker centre_label k.1 (unwrap_of pair k.1 k.0) ∷ [])

-- what a message that this party wrote shows: of a centre's answer also the key for the ultimate recipient
abbrev pub message_uses : Party → Message → List Use
message_uses p (message.Ksm m) = body_uses p m.receiver m.body
message_uses p (message.Rfs m) = under_link p m.receiver centre_label (λ pair. one_use m.receiver centre_label m.cta (unwrap_of pair m.cta m.kd) ∷ [])
message_uses p (message.Rtr m) =
    asker_uses p m.receiver m.kd ++ under_link p m.ultimate centre_label (λ pair. one_use m.ultimate centre_label m.ctb (unseal_of pair m.receiver m.ultimate m.ctb m.kdu) ∷ [])
message_uses p (message.Rsi m) = []
message_uses p (message.Rsm m) = []
message_uses p (message.Ers m) = []
message_uses p (message.Esm m) = []
message_uses p (message.Dsm m) = []

-- the key-encrypting key that a message makes: the new one that it carries
abbrev pub body_birth : List ℕ → KsmBody → Option Made
body_birth recipient (body.Direct idk2 None kd ctp) = None
body_birth recipient (body.Direct idk2 (Some new) kd ctp) = Some (record { recipient = recipient; label = new.0 })
body_birth recipient (body.Centre centre kdu ctb) = None
body_birth recipient (body.Twin idk2 first second ctp) = None

abbrev pub message_birth : Message → Option Made
message_birth (message.Ksm m) = body_birth m.receiver m.body
message_birth _ = None

-- these codes were made by the party, no more than one: the uses and births are those that its text shows
abbrev pub Shows : ℕ → Party → List Birth → List Fact → List KkUse → List Birth → Type 0
Shows n p births [] uses born = (uses ≡ []) × (born ≡ [])
Shows n p births (f ∷ []) uses born = (m : Message) × Says f.text m × (uses ≡ map (kk_use births p.own) (message_uses p m)) × (born ≡ births_of n p.own (message_birth m))
Shows n p births (f ∷ g ∷ fs) uses born = ⊥

-- an event adds the uses and births that the text shows of which a code was made at it, and no others
pub record AddsShown (n : ℕ) (w after : World) (x : Member) : Type 0 where
  pub facts : List Fact
  pub uses : List KkUse
  pub born : List Birth
  pub facts_are : after.facts ≡ w.facts ++ facts
  pub uses_are : after.uses ≡ w.uses ++ uses
  pub born_are : after.births ≡ w.births ++ born
  pub shown : Shows n x.party after.births facts uses born

abbrev pub AddsAt : ℕ → World → World → Option Member → Type 0
AddsAt n w after None = after ≡ w
AddsAt n w after (Some x) = AddsShown n w after x

-- so does each event of the run whose first event has this number
abbrev pub UsesShown : ℕ → World → List Event → Type 0
UsesShown n w [] = Unit {0}
UsesShown n w (e ∷ es) = AddsAt n w (step n w e) (member_at e.party w.members) × UsesShown (suc n) (step n w e) es
