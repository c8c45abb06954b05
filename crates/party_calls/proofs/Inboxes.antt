-- How messages become a batch, and what follows of it.
use Rattle.std.proofs.Common.{◌≡◌, ◌⊎◌, inl, inr, ℕ, zero, suc, ◌<◌, ◌≤◌, List, [], ◌∷◌, length, take, Option, Some, None, IfSome, refl, sym, ap, ◌∙◌, subst, arith}
use Rattle.x_base.specs.Edge.{Rose}
use Rattle.csm_grammar.specs.declared.arrival.Arrival.{Arrival}
use Rattle.csm_grammar.specs.declared.refusal.ReadRefusal.{ReadRefusal}
use Rattle.csm_feed.specs.Streams.{AreMessages}
use Rattle.x_spool.specs.Inbox.{IsInbox, IsRefusedStream, OneInbox}
use Rattle.call_ends.specs.Transfer.{IsAtEnd, IsFront, IsQuiet, Took}
use Rattle.call_ends.specs.Causes.{HasCause, IsSilent}
use Rattle.call_ends.specs.declared.status.Refusal.{Refusal}
use Rattle.csm_feed.specs.declared.unheard.Unheard.TheVariants.{Text, Trailing}
use Rattle.call_ends.specs.declared.status.Refusal.TheVariants.{Unheard}
use Rattle.call_ends.specs.declared.status.Status.{Status}
use Rattle.call_ends.specs.declared.status.Status.TheVariants as status
use Rattle.party_calls.specs.Batched.{FollowsInbox, IsMade, IsRefusedInbox, NoMessage, TooMany}
use Rattle.call_ends.specs.Puts.{Puts}
use Rattle.party_calls.specs.Spooled.{TakesBatch, batch_limit}
use Rattle.party_calls.proofs.BatchEnds.{all_taken}

few : (n : ℕ) (xs : List ℕ) → length (take n xs) ≤ length xs
few zero xs = omega arith
few (suc n) [] = omega arith
few (suc n) (x ∷ xs) = omega (arith, few n xs)

-- more bytes came than are taken
pub too_many : (left : Option (List ℕ)) (text : List ℕ) → IsFront batch_limit left text → length text ≡ batch_limit → IfSome left (λ all. IsRefusedInbox all (Unheard (Trailing 1048576)))
too_many None text front full = tt
too_many (Some all) text front full = TooMany (omega (arith, ap length front, few batch_limit all, full)) refl

-- the bytes that were taken are all
module _ (left rest : Option (List ℕ)) (text : List ℕ) (took : Took left rest text) (end : length text < batch_limit → IsAtEnd left rest) (bound : length text ≤ batch_limit) (other : length text ≡ batch_limit → ⊥) where
  pub short : length text ≤ 1048576
  short = omega (arith, bound, other)

  pub takes : TakesBatch left rest text
  takes = all_taken left rest text took end short

  pub refused_all : (r : ReadRefusal) → IsRefusedStream text r → IfSome left (λ all. IsRefusedInbox all (Unheard (Text r)))
  refused_all r is = go left takes
    where
      go : (o : Option (List ℕ)) → TakesBatch o rest text → IfSome o (λ all. IsRefusedInbox all (Unheard (Text r)))
      go None t = tt
      go (Some all) t = subst (λ (x : List ℕ). IsRefusedInbox x (Unheard (Text r))) (sym t.0) (NoMessage short r refl is)

  pub lines_all : (moment : ℕ) (lines : List ℕ) → IsInbox moment text lines → IfSome left (λ all. IsInbox moment all lines × (rest ≡ Some []))
  lines_all moment lines is = go left takes
    where
      go : (o : Option (List ℕ)) → TakesBatch o rest text → IfSome o (λ all. IsInbox moment all lines × (rest ≡ Some []))
      go None t = tt
      go (Some all) t = (subst (λ (x : List ℕ). IsInbox moment x lines) (sym t.0) is, t.1)

-- ---- the status that is due

module _ (one : OneInbox) (all : List ℕ) where
  no_memory : FollowsInbox all status.NoMemory
  no_memory = record { done = λ arrivals short messages. inr refl; refused = λ refusal is. inr refl }

  follows_refused : (refusal : Refusal) → IsRefusedInbox all refusal → FollowsInbox all (status.Refused refusal)
  follows_refused refusal is = record { done = λ arrivals short messages. absurd (never arrivals short messages is); refused = λ other also. inl (ap (λ (x : Refusal). status.Refused x) (same other is also)) }
    where
      never : (arrivals : List Arrival) → length all ≤ 1048576 → AreMessages all arrivals → IsRefusedInbox all refusal → ⊥
      never arrivals short messages (TooMany long is) = omega (arith, short, long)
      never arrivals short messages (NoMessage few r is stream) = one.never_both all arrivals r messages stream

      same : (other : Refusal) → IsRefusedInbox all refusal → IsRefusedInbox all other → refusal ≡ other
      same other (TooMany long is) (TooMany long-2 also) = is ∙ sym also
      same other (TooMany long is) (NoMessage few r also stream) = absurd (omega (arith, few, long))
      same other (NoMessage few r is stream) (TooMany long also) = absurd (omega (arith, few, long))
      same other (NoMessage few r is stream) (NoMessage few-2 s also stream-2) = is ∙ (ap (λ (x : ReadRefusal). Unheard (Text x)) (one.one_reason all r s stream stream-2) ∙ sym also)

  follows_done : (moment : ℕ) (lines : List ℕ) → length all ≤ 1048576 → IsInbox moment all lines → FollowsInbox all status.Done
  follows_done moment lines short is = record { done = λ arrivals short messages. inl refl; refused = λ refusal bad. absurd (never refusal bad) }
    where
      never : (refusal : Refusal) → IsRefusedInbox all refusal → ⊥
      never refusal (TooMany long is_so) = omega (arith, short, long)
      never refusal (NoMessage few r is_so stream) = one.never_both all is.0 r is.1 stream

pub forgets : OneInbox → (left : Option (List ℕ)) → IfSome left (λ all. FollowsInbox all status.NoMemory)
forgets one None = tt
forgets one (Some all) = no_memory one all

pub refuses : OneInbox → (left : Option (List ℕ)) (refusal : Refusal) → IfSome left (λ all. IsRefusedInbox all refusal) → IfSome left (λ all. FollowsInbox all (status.Refused refusal))
refuses one None refusal is = tt
refuses one (Some all) refusal is = follows_refused one all refusal is

pub ends : OneInbox → (left rest : Option (List ℕ)) (text : List ℕ) → TakesBatch left rest text → length text ≤ 1048576 → (moment : ℕ) (lines : List ℕ) → IsInbox moment text lines → (s : Status) → (s ≡ status.Done) → IfSome left (λ all. FollowsInbox all s)
ends one None rest text takes short moment lines is s done = tt
ends one (Some all) rest text takes short moment lines is s done =
    subst (λ (x : Status). FollowsInbox all x) (sym done)
    (follows_done one all moment lines (omega (arith, short, ap length takes.0)) (subst (λ (x : List ℕ). IsInbox moment x lines) (sym takes.0) is))

-- ---- the lines are put

lines_put : (lines : List ℕ) (s : Status) (before after : Option (List ℕ)) → Puts (Some lines) [] status.Done s before after → (s ≡ status.Done) ⊎ (s ≡ status.WriteFault)
lines_put lines s before after (inl puts) = inl puts.0
lines_put lines s before after (inr part) = inr part.0

pub lines_unread : (lines : List ℕ) (s : Status) (before after : Option (List ℕ)) → Puts (Some lines) [] status.Done s before after → s ≡ status.ReadFault → ⊥
lines_unread lines s before after puts is = go (lines_put lines s before after puts)
  where
    go : (s ≡ status.Done) ⊎ (s ≡ status.WriteFault) → ⊥
    go (inl done) = let no : status.ReadFault ≡ status.Done = sym is ∙ done in cc no
    go (inr fault) = let no : status.ReadFault ≡ status.WriteFault = sym is ∙ fault in cc no

pub lines_silent : (lines : List ℕ) (s : Status) (before after : Option (List ℕ)) → Puts (Some lines) [] status.Done s before after → IsSilent s → ⊥
lines_silent lines s before after puts silent = go (lines_put lines s before after puts)
  where
    go : (s ≡ status.Done) ⊎ (s ≡ status.WriteFault) → ⊥
    go (inl done) = subst IsSilent done silent
    go (inr fault) = subst IsSilent fault silent

pub lines_fault : (s : Status) (put puts : ℕ) → (s ≡ status.Done) ⊎ Rose put puts → s ≡ status.WriteFault → Rose put puts
lines_fault s put puts (inl done) fault = let no : status.Done ≡ status.WriteFault = sym done ∙ fault in absurd (cc no)
lines_fault s put puts (inr rose) fault = rose

pub lines_done : (s : Status) (put puts : ℕ) → (s ≡ status.Done) ⊎ Rose put puts → IsQuiet put puts → s ≡ status.Done
lines_done s put puts (inl done) quiet = done
lines_done s put puts (inr rose) quiet = absurd (quiet rose)

-- ---- among the orders

pub cause_made : (read reads put puts disk disks moment : ℕ) (left rest : Option (List ℕ)) (s : Status) (before after : Option (List ℕ)) → IsMade moment left rest s before after
    → (s ≡ status.ReadFault → Rose read reads) → (s ≡ status.WriteFault → Rose put puts) → HasCause s read reads put puts disk disks
cause_made read reads put puts disk disks moment left rest s before after (inl (inl is, same)) read_cause put_cause = subst (λ (x : Status). HasCause x read reads put puts disk disks) (sym is) (read_cause is)
cause_made read reads put puts disk disks moment left rest s before after (inl (inr is, same)) read_cause put_cause = subst (λ (x : Status). HasCause x read reads put puts disk disks) (sym is) tt
cause_made read reads put puts disk disks moment left rest s before after (inr (inl (refusal, is, bad, same))) read_cause put_cause = subst (λ (x : Status). HasCause x read reads put puts disk disks) (sym is) tt
cause_made read reads put puts disk disks moment left rest s before after (inr (inr (lines, is, inl puts_all))) read_cause put_cause = subst (λ (x : Status). HasCause x read reads put puts disk disks) (sym puts_all.0) tt
cause_made read reads put puts disk disks moment left rest s before after (inr (inr (lines, is, inr part))) read_cause put_cause = subst (λ (x : Status). HasCause x read reads put puts disk disks) (sym part.0) (put_cause part.0)
