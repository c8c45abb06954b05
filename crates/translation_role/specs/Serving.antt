-- Which requests for service a key translation centre answers, what its answer gives, and how it answers a refused
-- count (ANSI X9.17; the bounds are this project's profile).
use Rattle.std.specs.Prelude.{ℕ, ◌≡◌, ◌≢◌, ◌+◌, ◌≤◌, ◌↔◌, IsTrue, List, Option, Some, None, codes}
use Rattle.x_base.specs.Count.{count_limit}
use Rattle.x_base.specs.declared.verdict.Verdict.{Verdict}
use Rattle.x_base.specs.declared.verdict.Verdict.TheVariants.{Accept, CountLow, CountSpent}
use Rattle.x_seal.specs.Wrapped.{unwrap_of, unseal_of}
use Rattle.csm_grammar.specs.declared.message.Message.{Message}
use Rattle.csm_grammar.specs.declared.message.Message.TheVariants as message
use Rattle.csm_grammar.specs.declared.message.Rfs.{Rfs}
use Rattle.csm_grammar.specs.declared.message.Rtr.{Rtr}
use Rattle.csm_grammar.specs.declared.arrival.Arrival.{Arrival}
use Rattle.party_tables.specs.declared.link.LinkRec.{LinkRec}
use Rattle.party_tables.specs.Keys.{sends, takes}
use Rattle.party_state.specs.State.{Party, centre_label, link_with, knows, apply}
use Rattle.party_state.specs.Rows.{Row, Coded}
use Rattle.role_base.specs.Texts.{is_verified}
use Rattle.translation_role.specs.Service.{rfs_under}
use Rattle.translation_role.specs.Rows.{translation_message}

-- the key that a request carries, under this link
abbrev pub carried : Rfs → LinkRec → ℕ
carried m from = unwrap_of from.pair m.cta m.kd

-- the centre shares key-encrypting keys with both banks, the count that came is fresh, and one is left for the recipient
pub record CanTranslate (p : Party) (a : Arrival) (m : Rfs) : Type 0 where
  pub receiver : m.receiver ≡ p.own
  pub originator : m.originator ≢ p.own
  pub known : IsTrue (knows m.originator p)
  -- the key is for another bank
  pub other : m.ultimate ≢ m.originator
  pub from : LinkRec
  pub with_originator : link_with (takes m.originator centre_label) p ≡ Some from
  pub to : LinkRec
  pub with_ultimate : link_with (sends m.ultimate centre_label) p ≡ Some to
  -- the code is made under the key that came
  pub code : IsTrue (is_verified a (carried m from))
  pub fresh : from.next ≤ m.cta
  pub left : from.next ≤ count_limit
  pub to_left : to.next ≤ count_limit

-- the requests that are accepted are those
abbrev pub TranslatesExactly : Type 0
TranslatesExactly = (p : Party) (a : Arrival) (m : Rfs) → a.parsed.message ≡ message.Rfs m → ((translation_message p a a.parsed.message).verdict ≡ Accept) ↔ CanTranslate p a m

-- the key that came goes back for the ultimate recipient, under these links
pub record ReturnsKey (p : Party) (r : Row) (m : Rfs) (from to : LinkRec) : Type 0 where
  pub rtr : Rtr
  -- the response is closed under the key that came
  pub reply : r.reply ≡ Some (Coded (message.Rtr rtr) (rfs_under p m) (carried m from))
  pub receiver : rtr.receiver ≡ m.originator
  pub sender : rtr.originator ≡ p.own
  pub ultimate : rtr.ultimate ≡ m.ultimate
  pub no_key : rtr.kd ≡ None
  -- what the ultimate recipient decrypts, for these two banks, is that key
  pub count : rtr.ctb ≡ to.next
  pub for_ultimate : unseal_of to.pair m.originator m.ultimate to.next rtr.kdu ≡ carried m from
  -- both counts are used and nothing else of either link changes
  pub from_used : link_with (takes m.originator centre_label) (apply r.edits p) ≡ Some (record from { next = m.cta + 1 })
  pub to_used : link_with (sends m.ultimate centre_label) (apply r.edits p) ≡ Some (record to { next = to.next + 1 })

abbrev pub ReturnsKeys : Type 0
ReturnsKeys = (p : Party) (a : Arrival) (m : Rfs) (from to : LinkRec) → a.parsed.message ≡ message.Rfs m
    → link_with (takes m.originator centre_label) p ≡ Some from → link_with (sends m.ultimate centre_label) p ≡ Some to
    → (translation_message p a a.parsed.message).verdict ≡ Accept → ReturnsKey p (translation_message p a a.parsed.message) m from to

-- the error message for a refused count, and the expected one where it is told
abbrev pub count_error : Party → Rfs → List ℕ → Option ℕ → Message
count_error p m erf ctr = message.Esm (record { receiver = m.originator; originator = p.own; erf = erf; ctp = None; cta = Some m.cta; ctb = None; ctr = ctr })

-- a request that is refused with this verdict is answered by this error message, closed under the key that it carries
abbrev pub AnswersRefused : (ℕ → Verdict) → (ℕ → List ℕ) → (ℕ → Option ℕ) → Type 0
AnswersRefused v erf ctr = (p : Party) (a : Arrival) (m : Rfs) (from : LinkRec) (n : ℕ) → a.parsed.message ≡ message.Rfs m
    → link_with (takes m.originator centre_label) p ≡ Some from
    → (translation_message p a a.parsed.message).verdict ≡ v n → (translation_message p a a.parsed.message).answer ≡ Some (Coded (count_error p m (erf n) (ctr n)) (rfs_under p m) (carried m from))

abbrev pub AnswersLow : Type 0
AnswersLow = AnswersRefused (λ n. CountLow n) (λ n. codes "C") (λ n. Some n)

abbrev pub AnswersSpent : Type 0
AnswersSpent = AnswersRefused (λ n. CountSpent) (λ n. codes "S") (λ n. None)

-- no other refusal is answered
abbrev pub AnswersNoOther : Type 0
AnswersNoOther = (p : Party) (a : Arrival) (m : Rfs) → a.parsed.message ≡ message.Rfs m → ((n : ℕ) → (translation_message p a a.parsed.message).verdict ≢ CountLow n)
    → (translation_message p a a.parsed.message).verdict ≢ CountSpent → (translation_message p a a.parsed.message).answer ≡ None
