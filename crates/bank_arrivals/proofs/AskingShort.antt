-- The text with which a centre is asked again is short enough to be kept.
use Rattle.std.proofs.Common.{◌≡◌, ℕ, ◌+◌, ◌≤◌, Bool, true, false, cond, Option, Some, None, IfSome, List, [], ◌∷◌, ◌++◌, length, arith}
use Rattle.std.specs.Prelude.{is_none}
use Rattle.std.specs.List.{AllByRecursion}
use Rattle.std.proofs.lemmas.List.Elements.{All-from_recursion}
use Rattle.x_base.specs.Names.{IsIdent}
use Rattle.x_base.specs.Count.{IsCount}
use Rattle.csm_grammar.specs.declared.message.Message.TheVariants as message
use Rattle.csm_grammar.specs.declared.message.Esm.{Esm}
use Rattle.csm_grammar.specs.declared.tag.Tag.TheVariants.{Ctp, Cta, Ctb, Ctr, Erf}
use Rattle.csm_grammar.specs.declared.arrival.Arrival.{Arrival}
use Rattle.csm_grammar.specs.Values.{AText, ANumber}
use Rattle.csm_grammar.specs.Messages.{Valued, valued, if_any, fields_of}
use Rattle.csm_grammar.specs.Kinds.{IsReason, IsFieldOfKind}
use Rattle.csm_grammar.specs.Arrivals.{IsArrived}
use Rattle.csm_write.specs.declared.closing.Closing.TheVariants as closing
use Rattle.csm_write.specs.Shortness.{CanonShort, free_length}
use Rattle.csm_write.specs.Writable.{IsTypedField, AreTyped}
use Rattle.party_tables.specs.declared.exchange.Via.{Via}
use Rattle.party_tables.specs.declared.exchange.Via.TheVariants as vias
use Rattle.party_tables.specs.Ranges.{IsVia, longest_text}
use Rattle.party_state.specs.State.{Party, exchange_with}
use Rattle.role_base.specs.Texts.{text_of}
use Rattle.bank_arrivals.specs.declared.asking_again.Retry.{Retry}
use Rattle.bank_arrivals.specs.AskingAgain.{retry_by, ers_message, ers_reply}

-- what an error message gives to the text
pub record IsHeard (m : Esm) : Type 0 where
  pub originator : IsIdent m.originator
  pub reason : length m.erf ≤ 16

pub last_part : (xs ys : List Valued) → AllByRecursion IsFieldOfKind (xs ++ ys) → AllByRecursion IsFieldOfKind ys
last_part [] ys h = h
last_part (x ∷ xs) ys h = last_part xs ys h.1

-- it is so of each that is read
pub is_heard : (a : Arrival) (m : Esm) → IsArrived a → a.parsed.message ≡ message.Esm m → IsHeard m
is_heard a m i e = of (rw e at i.typed)
  where
    reason : AllByRecursion IsFieldOfKind (if_any Ctp ANumber m.ctp ++ (if_any Cta ANumber m.cta ++ (if_any Ctb ANumber m.ctb ++ (if_any Ctr ANumber m.ctr ++ (valued Erf (AText m.erf) ∷ []))))) → IsReason m.erf
    reason h = (last_part (if_any Ctr ANumber m.ctr) _ (last_part (if_any Ctb ANumber m.ctb) _ (last_part (if_any Cta ANumber m.cta) _ (last_part (if_any Ctp ANumber m.ctp) _ h)))).0

    of : AllByRecursion IsFieldOfKind (fields_of (message.Esm m)) → IsHeard m
    of h = record { originator = h.1.0; reason = (reason h.1.1).short }

-- what a centre is asked has values of its types
pub record IsRetry (t : Retry) : Type 0 where
  pub centre : IsIdent t.centre
  pub ctr : IsCount t.ctr

pub is_retry : (p : Party) (via : Via) (ctr : Option ℕ) → IsVia via → IfSome ctr IsCount → IfSome (retry_by p via ctr) IsRetry
is_retry p (vias.Distribution centre cta) (Some ctr) i c = go (is_none (exchange_with centre p))
  where
    go : (b : Bool) → IfSome (cond b (Some (record { centre = centre; cta = cta; ctr = ctr })) None) IsRetry
    go true = record { centre = i.0; ctr = c }
    go false = tt
is_retry p (vias.Distribution centre cta) None i c = tt
is_retry p (vias.Direct label new) ctr i c = tt
is_retry p (vias.Translation centre) ctr i c = tt

free_bytes_few : (m : Esm) (p : Party) (t : Retry) → length m.erf ≤ 16 → free_length (ers_message p m t) ≤ 64
free_bytes_few m p t h = few (length m.erf) h
  where
    few : (n : ℕ) → n ≤ 16 → 0 + n ≤ 64
    few n h = omega arith

pub ers_short : CanonShort → (p : Party) (m : Esm) (value : ℕ) (t : Retry) → IsIdent p.own → IsHeard m → IsRetry t → length (text_of (ers_reply p m value t)) ≤ longest_text
unfolding text_of
ers_short short p m value t own i r = short (ers_message p m t) (closing.Mac value) typed (free_bytes_few m p t i.reason)
  where
    typed : AreTyped (ers_message p m t) (closing.Mac value)
    typed = record { fields = All-from_recursion IsTypedField (fields_of (ers_message p m t)) (r.centre, (own, (i.originator, (r.ctr, (tt, tt))))); closing = tt }
