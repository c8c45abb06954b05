-- What an answer of a key distribution centre gives to both banks, and what the centre keeps of it (ANSI X9.17).
use Rattle.std.specs.Prelude.{ℕ, ◌≡◌, ◌+◌, max, List, Some}
use Rattle.x_base.specs.declared.verdict.Verdict.TheVariants.{Accept}
use Rattle.x_gen.specs.declared.generator.Gen.{Gen}
use Rattle.x_gen.specs.Gen.{good_draw}
use Rattle.x_seal.specs.Wrapped.{unwrap_of, unseal_of}
use Rattle.csm_grammar.specs.declared.message.Message.TheVariants as message
use Rattle.csm_grammar.specs.declared.message.Rsi.{Rsi}
use Rattle.csm_grammar.specs.declared.message.Rtr.{Rtr}
use Rattle.csm_grammar.specs.declared.message.Ers.{Ers}
use Rattle.csm_grammar.specs.declared.arrival.Arrival.{Arrival}
use Rattle.party_tables.specs.declared.link.LinkRec.{LinkRec}
use Rattle.party_tables.specs.Keys.{sends}
use Rattle.party_state.specs.State.{Party, centre_label, link_with, answer_with, apply}
use Rattle.party_state.specs.Rows.{Row, Coded}
use Rattle.distribution_role.specs.Answering.{answer_under}
use Rattle.distribution_role.specs.Rows.{distribution_message}

-- the key that is drawn at this moment goes to both banks, under these links, at the requester's next count and at this
-- count
pub record GivesKey (p : Party) (r : Row) (moment : ℕ) (requester u : List ℕ) (from to : LinkRec) (ctb : ℕ) : Type 0 where
  pub key : ℕ
  pub after : Gen
  pub drawn : good_draw p.generator moment ≡ Some (key, after)
  -- the generator goes on
  pub goes_on : (apply r.edits p).generator.v ≡ after.v
  pub rtr : Rtr
  pub kd : ℕ
  -- the response is closed under the key
  pub reply : r.reply ≡ Some (Coded (message.Rtr rtr) (answer_under p requester from.next) key)
  pub receiver : rtr.receiver ≡ requester
  pub sender : rtr.originator ≡ p.own
  pub ultimate : rtr.ultimate ≡ u
  -- what the requester decrypts is the key
  pub carried : rtr.kd ≡ Some (kd, from.next)
  pub for_requester : unwrap_of from.pair from.next kd ≡ key
  -- and so is what the ultimate recipient decrypts, for these two banks
  pub count : rtr.ctb ≡ ctb
  pub for_ultimate : unseal_of to.pair requester u ctb rtr.kdu ≡ key
  -- both counts are used and nothing else of either link changes, and the key is kept
  pub from_used : link_with (sends requester centre_label) (apply r.edits p) ≡ Some (record from { next = from.next + 1 })
  pub to_used : link_with (sends u centre_label) (apply r.edits p) ≡ Some (record to { next = ctb + 1 })
  pub kept : answer_with (record { requester = requester; ultimate = u }) (apply r.edits p) ≡ Some (record { requester = requester; ultimate = u; cta = from.next; value = key })

-- an accepted request is answered at both next counts
abbrev pub GivesAsked : Type 0
GivesAsked = (p : Party) (a : Arrival) (m : Rsi) (u : List ℕ) (moment : ℕ) (from to : LinkRec) → a.parsed.message ≡ message.Rsi m → m.ultimate ≡ Some u
    → link_with (sends m.originator centre_label) p ≡ Some from → link_with (sends u centre_label) p ≡ Some to
    → (distribution_message p a a.parsed.message moment).verdict ≡ Accept → GivesKey p (distribution_message p a a.parsed.message moment) moment m.originator u from to to.next

-- one that comes again is answered at the count that the ultimate recipient expects, unless its link is further
abbrev pub GivesAgain : Type 0
GivesAgain = (p : Party) (a : Arrival) (m : Ers) (moment : ℕ) (from to : LinkRec) → a.parsed.message ≡ message.Ers m
    → link_with (sends m.originator centre_label) p ≡ Some from → link_with (sends m.ultimate centre_label) p ≡ Some to
    → (distribution_message p a a.parsed.message moment).verdict ≡ Accept → GivesKey p (distribution_message p a a.parsed.message moment) moment m.originator m.ultimate from to (max to.next m.ctr)
