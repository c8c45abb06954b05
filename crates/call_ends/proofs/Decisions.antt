-- What is decided of an input in which a message was heard, or none.
use Rattle.std.proofs.Common.{◌≡◌, ◌⊎◌, inl, inr, ℕ, Bool, true, false, List, [], take, refl, sym, ap, ◌∙◌, subst, Option, Some, None, IfSome, Result, Ok, Err}
use Rattle.x_base.specs.Edge.{Rose, AppendsTo, WrotePrefix}
use Rattle.x_base.specs.declared.verdict.Verdict.TheVariants.{BadEdc}
use Rattle.csm_grammar.specs.declared.arrival.Arrival.{Arrival}
use Rattle.csm_grammar.specs.declared.parsed.Parsed.{Parsed}
use Rattle.csm_grammar.specs.Arrivals.{authenticated_text}
use Rattle.csm_feed.specs.declared.unheard.Unheard.{Unheard}
use Rattle.csm_feed.specs.Heard.{Heard}
use Rattle.csm_feed.specs.Laws.{OneHearing}
use Rattle.call_ends.specs.declared.status.Refusal.{Refusal}
use Rattle.call_ends.specs.declared.status.Refusal.TheVariants.{Decided}
use Rattle.call_ends.specs.declared.status.Refusal.TheVariants as refusal
use Rattle.call_ends.specs.declared.status.Status.{Status}
use Rattle.call_ends.specs.declared.status.Status.TheVariants as status
use Rattle.call_ends.specs.Transfer.{IsQuiet}
use Rattle.call_ends.specs.Listening.{IsHeard, IsUnheard, taken}
use Rattle.call_ends.specs.Check.{authenticated_text_in, decided_of, is_right, judged, reply_of, status_of, IsChecked, IsDecision, IsExact, IsReply}

decided_once : OneHearing → (text : List ℕ) (d e : Result Parsed Refusal) → IsDecision text d → IsDecision text e → d ≡ e
decided_once one text d e h k =
    let o = one (taken text) in
    h.follows ∙ ap (decided_of (taken text)) (o.alone h.arrival h.heard ∙ sym (o.alone k.arrival k.heard)) ∙ sym k.follows

-- ---- of a message that was heard

right_was : (all : List ℕ) (a : Arrival) (b : Bool) → IsHeard all a → b ≡ is_right (authenticated_text a) a.parsed.shut → b ≡ is_right (authenticated_text_in (taken all) a.parsed) a.parsed.shut
right_was all a b h e = e ∙ ap (λ (t : List ℕ). is_right (take a.parsed.auth_len t) a.parsed.shut) h.text

decided : (all : List ℕ) (a : Arrival) (b : Bool) → IsHeard all a → b ≡ is_right (authenticated_text a) a.parsed.shut → IsDecision all (judged b a.parsed)
decided all a b h e = record { arrival = Ok a.parsed; heard = h.heard; follows = ap (λ (c : Bool). judged c a.parsed) (right_was all a b h e) }

accepted : (all : List ℕ) (a : Arrival) → IsHeard all a → true ≡ is_right (authenticated_text a) a.parsed.shut → IsDecision all (Ok a.parsed)
accepted all a h e = decided all a true h e

refused_code : (all : List ℕ) (a : Arrival) → IsHeard all a → false ≡ is_right (authenticated_text a) a.parsed.shut → IsDecision all (Err (Decided BadEdc))
refused_code all a h e = decided all a false h e

replied : (all : List ℕ) (a : Arrival) → IsHeard all a → true ≡ is_right (authenticated_text a) a.parsed.shut → (reply : List ℕ) → reply ≡ reply_of a.parsed → IsReply all reply
replied all a h e reply is = record { parsed = a.parsed; accepted = accepted all a h e; spelled = is }

module _ (left rest : Option (List ℕ)) (a : Arrival) (heard : IfSome left (λ all. IsHeard all a × (rest ≡ Some []))) where
  pub done : true ≡ is_right (authenticated_text a) a.parsed.shut → (w v : Option (List ℕ)) (reply : List ℕ) → reply ≡ reply_of a.parsed → AppendsTo w v reply → IsChecked status.Done left rest w v
  done e w v reply is wrote = by left heard where
    by : (o : Option (List ℕ)) → IfSome o (λ all. IsHeard all a × (rest ≡ Some [])) → IsChecked status.Done o rest w v
    by None h = tt
    by (Some all) h = (h.1, (reply, replied all a h.0 e reply is, wrote))

  pub part : true ≡ is_right (authenticated_text a) a.parsed.shut → (w v : Option (List ℕ)) (reply : List ℕ) → reply ≡ reply_of a.parsed → WrotePrefix w v reply → IsChecked status.WriteFault left rest w v
  part e w v reply is wrote = by left heard where
    by : (o : Option (List ℕ)) → IfSome o (λ all. IsHeard all a × (rest ≡ Some [])) → IsChecked status.WriteFault o rest w v
    by None h = tt
    by (Some all) h = (reply, replied all a h.0 e reply is, wrote)

  wrong : false ≡ is_right (authenticated_text a) a.parsed.shut → (w : Option (List ℕ)) → IsChecked (status.Refused (Decided BadEdc)) left rest w w
  wrong e w = (refl, by left heard, refl) where
    by : (o : Option (List ℕ)) → IfSome o (λ all. IsHeard all a × (rest ≡ Some [])) → IfSome o (λ all. IsDecision all (Err (Decided BadEdc)))
    by None h = tt
    by (Some all) h = refused_code all a h.0 e

  exact : OneHearing → (b : Bool) → b ≡ is_right (authenticated_text a) a.parsed.shut → IsExact left (status_of (judged b a.parsed))
  exact one b e = by left heard where
    by : (o : Option (List ℕ)) → IfSome o (λ all. IsHeard all a × (rest ≡ Some [])) → IsExact o (status_of (judged b a.parsed))
    by None h = tt
    by (Some all) h = λ other is. inl (ap status_of (decided_once one all (judged b a.parsed) other (decided all a b h.0 e) is))

  pub exact_done : OneHearing → true ≡ is_right (authenticated_text a) a.parsed.shut → IsExact left status.Done
  exact_done one e = exact one true e

  exact_wrong : OneHearing → false ≡ is_right (authenticated_text a) a.parsed.shut → IsExact left (status.Refused (Decided BadEdc))
  exact_wrong one e = exact one false e

  pub unanswered : (w : Option (List ℕ)) (s : Status) → (s ≡ status.NoMemory) ⊎ ((s ≡ status.Refused (Decided BadEdc)) × (false ≡ is_right (authenticated_text a) a.parsed.shut)) → IsChecked s left rest w w
  unanswered w s (inl is) = subst (λ (x : Status). IsChecked x left rest w w) (sym is) refl
  unanswered w s (inr (is, e)) = subst (λ (x : Status). IsChecked x left rest w w) (sym is) (wrong e w)

  exact_memory : (s : Status) → s ≡ status.NoMemory → IsExact left s
  exact_memory s is = by left where
    by : (o : Option (List ℕ)) → IsExact o s
    by None = tt
    by (Some all) = λ other decision. inr is

  pub exact_unanswered : OneHearing → (s : Status) → (s ≡ status.NoMemory) ⊎ ((s ≡ status.Refused (Decided BadEdc)) × (false ≡ is_right (authenticated_text a) a.parsed.shut)) → IsExact left s
  exact_unanswered one s (inl is) = exact_memory s is
  exact_unanswered one s (inr (is, e)) = subst (λ (x : Status). IsExact left x) (sym is) (exact_wrong one e)

-- ---- where none was heard

refused_of : (all : List ℕ) (u : Unheard) → Heard (taken all) (Err u) → IsDecision all (Err (refusal.Unheard u))
refused_of all u h = record { arrival = Err u; heard = h; follows = refl }

pub unheard_checked : (left rest w : Option (List ℕ)) (s : Status) → IsUnheard left s → IsChecked s left rest w w
unheard_checked left rest w s (inl (inl is)) = subst (λ (x : Status). IsChecked x left rest w w) (sym is) refl
unheard_checked left rest w s (inl (inr is)) = subst (λ (x : Status). IsChecked x left rest w w) (sym is) refl
unheard_checked left rest w s (inr (u, is, possible, heard)) = subst (λ (x : Status). IsChecked x left rest w w) (sym is) (possible, by left heard, refl) where
  by : (o : Option (List ℕ)) → IfSome o (λ all. Heard (taken all) (Err u)) → IfSome o (λ all. IsDecision all (Err (refusal.Unheard u)))
  by None h = tt
  by (Some all) h = refused_of all u h

pub unheard_exact : OneHearing → (left : Option (List ℕ)) (s : Status) (read reads : ℕ) → IsUnheard left s → (s ≡ status.ReadFault → Rose read reads) → IsQuiet read reads → IsExact left s
unheard_exact one None s read reads is cause quiet = tt
unheard_exact one (Some all) s read reads (inl (inl fault)) cause quiet = absurd (quiet (cause fault))
unheard_exact one (Some all) s read reads (inl (inr memory)) cause quiet = λ other is. inr memory
unheard_exact one (Some all) s read reads (inr (u, same, possible, heard)) cause quiet =
    λ other is. inl (same ∙ ap status_of (decided_once one all (Err (refusal.Unheard u)) other (refused_of all u heard) is))
