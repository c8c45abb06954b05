-- A stream is messages in one way, or refused for one reason.
use Rattle.std.proofs.Common.{◌≡◌, inl, inr, ℕ, List, [], ◌++◌, length, length-append, Option, Some, None, refl, sym, ◌∙◌, ap, subst, arith}
use Rattle.std.proofs.lemmas.List.{append-nil}
use Rattle.csm_grammar.specs.declared.arrival.Arrival.{Arrival}
use Rattle.csm_grammar.specs.declared.refusal.ReadRefusal.{ReadRefusal}
use Rattle.csm_read.specs.Laws.{OneAnswer, ReadStays}
use Rattle.csm_feed.specs.Streams.{AreMessages, EndsWith}
use Rattle.csm_feed.proofs.Fronts.{IsUnread}
use Rattle.csm_feed.proofs.Cutting as cutting
use Rattle.x_spool.specs.Inbox.{IsReason, IsRefusedStream, OneInbox}

module _ (one : OneAnswer) (stays : ReadStays) where
  unread_rest : (stream front rest : List ℕ) (r : ReadRefusal) → IsReason stream front rest r → IsUnread rest
  unread_rest stream front rest r (inl ends) = cutting.ends_unread (length front) rest (Some r) one ends
  unread_rest stream front rest r (inr ends) = cutting.ends_unread (length front) rest None one ends.0

  unread_nothing : IsUnread []
  unread_nothing = cutting.ends_unread 0 [] None one (inl refl)

  same_list : (stream : List ℕ) (ms ns : List Arrival) → AreMessages stream ms → AreMessages stream ns → ms ≡ ns
  same_list stream ms ns first second = (cutting.one_list ms ns stream stream [] [] one stays first second refl tt tt unread_nothing unread_nothing).0

  never : (stream : List ℕ) (ms : List Arrival) (r : ReadRefusal) → AreMessages stream ms → IsRefusedStream stream r → ⊥
  never stream ms r messages is =
      let same = cutting.one_list ms is.arrivals stream is.front [] is.rest one stays messages is.messages (append-nil stream ∙ is.text) tt is.begun unread_nothing (unread_rest stream is.front is.rest r is.reason) in
      is.something (sym same.1)

  module _ (stream : List ℕ) (r s : ReadRefusal) (a : IsRefusedStream stream r) (b : IsRefusedStream stream s) where
    both : a.front ++ a.rest ≡ b.front ++ b.rest
    both = sym a.text ∙ b.text

    rests : a.rest ≡ b.rest
    rests = (cutting.one_list a.arrivals b.arrivals a.front b.front a.rest b.rest one stays a.messages b.messages both a.begun b.begun (unread_rest stream a.front a.rest r a.reason) (unread_rest stream b.front b.rest s b.reason)).1

    fronts : length a.front ≡ length b.front
    fronts = omega (arith, length-append a.front a.rest, length-append b.front b.rest, ap length both, ap length rests)

    moved : (end : Option ReadRefusal) → EndsWith (length b.front) b.rest end → EndsWith (length a.front) a.rest end
    moved end ends = subst (λ (n : ℕ). EndsWith n a.rest end) (sym fronts) (subst (λ (x : List ℕ). EndsWith (length b.front) x end) (sym rests) ends)

    same_reason : IsReason stream a.front a.rest r → IsReason stream b.front b.rest s → r ≡ s
    same_reason (inl x) (inl y) = let e : Some r ≡ Some s = cutting.one_end (length a.front) a.rest (Some r) (Some s) x (moved (Some s) y) in cc e
    same_reason (inl x) (inr y) = let e : Some r ≡ None = cutting.one_end (length a.front) a.rest (Some r) None x (moved None y.0) in absurd (cc e)
    same_reason (inr x) (inl y) = let e : None ≡ Some s = cutting.one_end (length a.front) a.rest None (Some s) x.0 (moved (Some s) y) in absurd (cc e)
    same_reason (inr x) (inr y) = x.1 ∙ sym y.1

  pub one_inbox : OneInbox
  one_inbox = record {
    one_list = same_list;
    one_reason = λ stream r s a b. same_reason stream r s a b a.reason b.reason;
    never_both = never;
  }
