-- Of any bytes exactly one thing is heard.
use Rattle.std.proofs.Common.{◌≡◌, ℕ, ◌+◌, List, Result, Ok, Err, Option, Some, None, refl, sym, ◌∙◌, ap, inl, inr}
use Rattle.std.specs.Prelude.{◌⊎◌}
use Rattle.csm_grammar.specs.declared.parsed.Parsed.{Parsed}
use Rattle.csm_grammar.specs.declared.refusal.ReadRefusal.{ReadRefusal}
use Rattle.csm_grammar.specs.Reading.{IsRead}
use Rattle.csm_grammar.specs.Places.{moved}
use Rattle.csm_read.specs.Laws.{OneSpelling, OneFault, OneAnswer}
use Rattle.csm_feed.specs.declared.unheard.Unheard.{Unheard}
use Rattle.csm_feed.specs.declared.unheard.Unheard.TheVariants.{Text, Trailing}
use Rattle.csm_feed.specs.Heard.{leading, after_leading, trailing, Heard, OneHeard}
use Rattle.csm_feed.specs.Laws.{OneHearing}

-- what is heard of a message, by what follows it
abbrev ended : Parsed → Option ℕ → Result Parsed Unheard
ended p None = Ok p
ended p (Some place) = Err (Trailing place)

ended_heard : (bytes : List ℕ) (p : Parsed) (o : Option ℕ) → IsRead (after_leading bytes) p → trailing bytes (leading bytes + p.len) ≡ o → Heard bytes (ended p o)
ended_heard bytes p None h e = (h, e)
ended_heard bytes p (Some place) h e = (p, h, e)

abbrev hearing : (bytes : List ℕ) → OneSpelling (after_leading bytes) ⊎ OneFault (after_leading bytes) → Result Parsed Unheard
hearing bytes (inl o) = ended o.parsed (trailing bytes (leading bytes + o.parsed.len))
hearing bytes (inr f) = Err (Text (moved (leading bytes) f.reason))

same_end : (bytes : List ℕ) (o : OneSpelling (after_leading bytes)) (p : Parsed) → IsRead (after_leading bytes) p
    → ended p (trailing bytes (leading bytes + p.len)) ≡ ended o.parsed (trailing bytes (leading bytes + o.parsed.len))
same_end bytes o p h = ap (λ (q : Parsed). ended q (trailing bytes (leading bytes + q.len))) (o.alone p h)

heard_is : (bytes : List ℕ) (one : OneSpelling (after_leading bytes) ⊎ OneFault (after_leading bytes)) (r : Result Parsed Unheard) → Heard bytes r → r ≡ hearing bytes one
heard_is bytes (inl o) (Ok p) h = ap (ended p) (sym h.1) ∙ same_end bytes o p h.0
heard_is bytes (inl o) (Err (Text f)) h = absurd (o.faultless h.0 h.1)
heard_is bytes (inl o) (Err (Trailing place)) h = ap (ended h.0) (sym h.2) ∙ same_end bytes o h.0 h.1
heard_is bytes (inr f) (Ok p) h = absurd (f.unread p h.0)
heard_is bytes (inr f) (Err (Text g)) h = ap (λ (r : ReadRefusal). Err (Text r)) (h.2 ∙ ap (moved (leading bytes)) (f.alone h.0 h.1))
heard_is bytes (inr f) (Err (Trailing place)) h = absurd (f.unread h.0 h.1)

pub one_hearing : OneAnswer → OneHearing
one_hearing one bytes = go (one (after_leading bytes)) where
  go : OneSpelling (after_leading bytes) ⊎ OneFault (after_leading bytes) → OneHeard bytes
  go (inl o) = record {
    heard = ended o.parsed (trailing bytes (leading bytes + o.parsed.len));
    holds = ended_heard bytes o.parsed (trailing bytes (leading bytes + o.parsed.len)) o.read refl;
    alone = λ other h. heard_is bytes (inl o) other h;
  }
  go (inr f) = record {
    heard = Err (Text (moved (leading bytes) f.reason));
    holds = (f.reason, f.fault, refl);
    alone = λ other h. heard_is bytes (inr f) other h;
  }
