-- What is to be done at a line, and where a message arrives.
use Rattle.std.proofs.Common.{◌≡◌, inl, inr, ◌-◌, ℕ, slice_get, List, [], Option, Some, None, Result, Ok, Err, IfOk, take, refl, ap, sym, subst}
use Rattle.csm_grammar.specs.declared.arrival.Arrival.{Arrival}
use Rattle.csm_feed.specs.declared.unheard.Unheard.{Unheard}
use Rattle.csm_feed.specs.Heard.{Heard, after_leading, readings}
use Rattle.scenario.specs.declared.line.Line.{Line}
use Rattle.scenario.specs.declared.line.Line.TheVariants as line
use Rattle.world_laws.specs.Events.{Hears}
use Rattle.world_laws.specs.Hearing.{IsHeard, HeardOnce}
use Rattle.course.specs.LineEvents.{LineEvent, Nothing, At, Arrives, IsFormed, Returns, at_receiver, input_bytes, receiver_of, text_back}
use Rattle.csm_feed.specs.Numbers.{unheard_number}
use Rattle.course.specs.Parts.{HasLineEvent}
use Rattle.course.specs.Meanings.{HeardOf, IsLineAct, IsNoOrder, MeantBy, arriving}
use Rattle.course.specs.declared.act.LineAct.{LineAct}
use Rattle.course.specs.declared.act.LineAct.TheVariants as act

-- this is heard of the bytes
module _ (bytes : List ℕ) where
  pub arrives_heard : (a : Arrival) → HeardOf bytes (Ok a) → (party : List ℕ) → (h : LineEvent) × Arrives party (Some bytes) h × IsFormed h × ((read : List ℕ) × (h ≡ At party (Hears read (Some a))))
  arrives_heard a hears party = (
    At party (Hears (input_bytes bytes) (Some a)),
    (Some a, (hears.heard_is, hears.text), refl),
    (hears.heard_is, hears.text),
    (input_bytes bytes, refl),
  )

  pub returns_heard : (a : Arrival) → HeardOf bytes (Ok a) → (party : List ℕ) → party ≡ receiver_of a.parsed.message → (h : LineEvent) × Returns (Some bytes) h × IsFormed h × ((read : List ℕ) × (h ≡ At party (Hears read (Some a))))
  returns_heard a hears party party_is = (
    At party (Hears (input_bytes bytes) (Some a)),
    (Some a, (hears.heard_is, hears.text), ap (λ (p : List ℕ). At p (Hears (input_bytes bytes) (Some a))) party_is),
    (hears.heard_is, hears.text),
    (input_bytes bytes, refl),
  )

  pub arrives_unheard : (u : Unheard) → HeardOf bytes (Err u) → (party : List ℕ) (number : ℕ) → number ≡ unheard_number u → MeantBy (Arrives party (Some bytes)) (act.Refuse party number)
  arrives_unheard u hears party number number_is = (
    At party (Hears (input_bytes bytes) None),
    (None, (u, hears.heard_is), refl),
    (u, hears.heard_is),
    (input_bytes bytes, u, hears.heard_is, number_is, refl),
  )

  pub returns_unheard : (u : Unheard) → HeardOf bytes (Err u) → MeantBy (Returns (Some bytes)) act.Nothing
  returns_unheard u hears = (Nothing, (None, (u, hears.heard_is), refl), tt, refl)

abbrev named : Option (List ℕ) → List ℕ
named None = []
named (Some party) = party

-- the party at which the text of a line arrives, where the line names it
abbrev pub receives : Line → Option (List ℕ)
receives (line.Pass k party) = Some party
receives (line.Bytes party bytes) = Some party
receives l = None

-- the line makes this text arrive
pub meant_arrives : (l : Line) (party : List ℕ) (texts : List (List ℕ)) (bytes : List ℕ) (a : LineAct) → receives l ≡ Some party → arriving l texts ≡ Some bytes → MeantBy (Arrives party (Some bytes)) a → IsLineAct l texts a
meant_arrives (line.Pass k p) party texts bytes a at is meant =
    let same : p ≡ party = ap named at in
    subst (λ q. MeantBy (Arrives q (slice_get texts (k - 1))) a) (sym same) (subst (λ o. MeantBy (Arrives party o) a) (sym is) meant)
meant_arrives (line.Bytes p given) party texts bytes a at is meant =
    let same : p ≡ party = ap named at in
    subst (λ q. MeantBy (Arrives q (Some given)) a) (sym same) (subst (λ o. MeantBy (Arrives party o) a) (sym is) meant)
meant_arrives (line.Start p peer label) party texts bytes a at is meant = cc at
meant_arrives (line.StartKk p peer label new single) party texts bytes a at is meant = cc at
meant_arrives (line.Ask p peer ultimate) party texts bytes a at is meant = cc at
meant_arrives (line.Translate p centre ultimate) party texts bytes a at is meant = cc at
meant_arrives (line.Resend p peer) party texts bytes a at is meant = cc at
meant_arrives (line.End p peer name) party texts bytes a at is meant = cc at
meant_arrives (line.Drop p peer) party texts bytes a at is meant = cc at
meant_arrives (line.Purge p) party texts bytes a at is meant = cc at
meant_arrives (line.Party name role pair v) party texts bytes a at is meant = cc at
meant_arrives (line.Link origin recipient label pair) party texts bytes a at is meant = cc at
meant_arrives (line.Time moment) party texts bytes a at is meant = cc at
meant_arrives (line.Recent j) party texts bytes a at is meant = cc at
meant_arrives (line.Stop n choice) party texts bytes a at is meant = cc at

-- what the reader hears of the first bytes is heard of the bytes
pub heard_of : {E : Type 0} (bytes read : List ℕ) (r : Result (Result Arrival Unheard) E) → read ≡ input_bytes bytes → IfOk r (λ (h : Result Arrival Unheard). Heard read (readings h))
    → IfOk r (λ (h : Result Arrival Unheard). IfOk h (λ (a : Arrival). a.text ≡ take a.parsed.len (after_leading read))) → IfOk r (λ (h : Result Arrival Unheard). HeardOf bytes h)
heard_of bytes read (Err e) read_is hears text = tt
heard_of bytes read (Ok heard) read_is hears text = record {
  heard_is = subst (λ (b : List ℕ). Heard b (readings heard)) read_is hears;
  text = subst (λ (b : List ℕ). IfOk heard (λ (a : Arrival). a.text ≡ take a.parsed.len (after_leading b))) read_is text;
}

-- something happens at each line that gives no command
module _ (hearing : (bytes : List ℕ) → HeardOnce bytes) where
  arrives_some : (party : List ℕ) (o : Option (List ℕ)) → (h : LineEvent) × Arrives party o h × IsFormed h
  arrives_some party None = (Nothing, refl, tt)
  arrives_some party (Some text) =
      let x = hearing (input_bytes text) in
      (At party (Hears (input_bytes text) x.heard), (x.heard, x.holds, refl), x.holds)

  returned_formed : (bytes : List ℕ) (heard : Option Arrival) → IsHeard bytes heard → IsFormed (at_receiver bytes heard)
  returned_formed bytes None is = tt
  returned_formed bytes (Some a) is = is

  returns_some : (o : Option (List ℕ)) → (h : LineEvent) × Returns o h × IsFormed h
  returns_some None = (Nothing, refl, tt)
  returns_some (Some text) =
      let x = hearing (input_bytes text) in
      (at_receiver (input_bytes text) x.heard, (x.heard, x.holds, refl), returned_formed (input_bytes text) x.heard x.holds)

  pub makes_event_some : (l : Line) → IsNoOrder l → (texts : List (List ℕ)) → HasLineEvent l texts
  makes_event_some (line.Party name role pair v) none texts = (Nothing, inl (tt, refl))
  makes_event_some (line.Link origin recipient label pair) none texts = (Nothing, inl (tt, refl))
  makes_event_some (line.Time moment) none texts = (Nothing, inl (tt, refl))
  makes_event_some (line.Stop n choice) none texts = (Nothing, inl (tt, refl))
  makes_event_some (line.Pass k party) none texts = let x = arrives_some party (slice_get texts (k - 1)) in (x.0, inr (x.1, x.2))
  makes_event_some (line.Recent j) none texts = let x = returns_some (text_back j texts) in (x.0, inr (x.1, x.2))
  makes_event_some (line.Bytes party bytes) none texts = let x = arrives_some party (Some bytes) in (x.0, inr (x.1, x.2))
  makes_event_some l none texts = absurd none
