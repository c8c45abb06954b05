-- What an answer of the feed says of the stream.
use Rattle.std.proofs.Common.{◌≡◌, ◌≢◌, ℕ, ◌+◌, ◌≤◌, List, [], ◌∷◌, ◌++◌, length, take, drop, Option, Some, None, refl, sym, ◌∙◌, ap, subst, append_assoc, arith, inl, inr, length-append}
use Rattle.std.specs.Prelude.{◌⊎◌}
use Rattle.std.specs.List.{prefix_len}
use Rattle.std.proofs.lemmas.List.{take-append-drop, length-take-le, take_all, append-nil}
use Rattle.csm_grammar.specs.declared.arrival.Arrival.{Arrival}
use Rattle.csm_grammar.specs.declared.parsed.Parsed.{Parsed}
use Rattle.csm_grammar.specs.declared.refusal.ReadRefusal.{ReadRefusal}
use Rattle.csm_grammar.specs.declared.refusal.ReadRefusal.TheVariants as refusal
use Rattle.csm_grammar.specs.Spelling.{is_separator, Spells}
use Rattle.csm_grammar.specs.Reading.{IsRead, IsArrival}
use Rattle.csm_read.specs.Laws.{OneAnswer, FaultEnds}
use Rattle.csm_feed.specs.declared.next.Next.{Next}
use Rattle.csm_feed.specs.declared.next.Next.TheVariants.{Message, NotYet, Refused, NoMemory}
use Rattle.csm_grammar.specs.Places.{moved}
use Rattle.csm_feed.specs.Streams.{Leads, IsWaiting, IsRefusedAfter, EndsWith, HoldsArrivals}
use Rattle.csm_feed.specs.HeldBytes.{Feeding, IsKept}
use Rattle.csm_feed.specs.Feeding.{with_refusal, Hands, Answers, ComesAs, Fed, HandsOut, Exhausts}
use Rattle.csm_feed.proofs.Fronts.{one_parsed}
use Rattle.csm_feed.proofs.Cutting.{ends_unread, one_end, messages_next}
use Rattle.csm_feed.proofs.Spans.{span_separators}

no_read : (old : Feeding) (end : Option ReadRefusal) (p : Parsed) → OneAnswer → EndsWith old.before old.held end → IsRead old.held p → ⊥
no_read old end p one h i = ends_unread old.before old.held end one h p i

comes_message : (old new : Feeding) (answer : Next) (p : Parsed) → OneAnswer → Answers old answer new → IsRead old.held p → (answer ≡ NoMemory) ⊎ ((a : Arrival) × (answer ≡ Message a) × (a.parsed ≡ p))
comes_message old new (Message a) p one h i = inr (a, refl, one_parsed old.held a.parsed p (one old.held) h.read i)
comes_message old new NotYet p one h i = absurd (no_read old None p one h.0 i)
comes_message old new (Refused r) p one h i = absurd (no_read old (Some r) p one h.0 i)
comes_message old new NoMemory p one h i = inl refl

comes_not_yet : (old new : Feeding) (answer : Next) → OneAnswer → Answers old answer new → IsWaiting old.held → (answer ≡ NoMemory) ⊎ (answer ≡ NotYet)
comes_not_yet old new (Message a) one h i = absurd (no_read old None a.parsed one i h.read)
comes_not_yet old new NotYet one h i = inr refl
comes_not_yet old new (Refused r) one h i = let e = one_end old.before old.held None (Some r) i h.0 in absurd cc
comes_not_yet old new NoMemory one h i = inl refl

comes_refused : (old new : Feeding) (answer : Next) (r : ReadRefusal) → OneAnswer → Answers old answer new → IsRefusedAfter old.before old.held r → (answer ≡ NoMemory) ⊎ (answer ≡ Refused r)
comes_refused old new (Message a) r one h i = absurd (no_read old (Some r) a.parsed one i h.read)
comes_refused old new NotYet r one h i = let e = one_end old.before old.held None (Some r) h.0 i in absurd cc
comes_refused old new (Refused s) r one h i = let e = one_end old.before old.held (Some s) (Some r) h.0 i in let k : s ≡ r = cc in inr (ap (λ (x : ReadRefusal). Refused x) k)
comes_refused old new NoMemory r one h i = inl refl

comes_again : (old new : Feeding) (answer : Next) (r : ReadRefusal) → OneAnswer → IsKept old → Answers old answer new → old.refusal ≡ Some r → answer ≡ Refused r
comes_again old new answer r one kept h e = go answer h (comes_refused old new answer r one h (kept.refused r e)) where
  go : (x : Next) → Answers old x new → (x ≡ NoMemory) ⊎ (x ≡ Refused r) → x ≡ Refused r
  go x k (inr i) = i
  go (Message a) k (inl i) = absurd cc
  go NotYet k (inl i) = absurd cc
  go (Refused s) k (inl i) = absurd cc
  go NoMemory k (inl i) = let n = k.1 in absurd cc

comes_nothing : (old new : Feeding) (answer : Next) → OneAnswer → Answers old answer new → old.held ≡ [] → answer ≡ NotYet
comes_nothing old new answer one h e = go answer h (comes_not_yet old new answer one h (inl e)) where
  go : (x : Next) → Answers old x new → (x ≡ NoMemory) ⊎ (x ≡ NotYet) → x ≡ NotYet
  go x k (inr i) = i
  go (Message a) k (inl i) = absurd cc
  go NotYet k (inl i) = refl
  go (Refused s) k (inl i) = absurd cc
  go NoMemory k (inl i) = absurd (k.0 e)

pub comes_as : (old new : Feeding) (answer : Next) → OneAnswer → IsKept old → Answers old answer new → ComesAs old answer
comes_as old new answer one kept h = record {
  message = λ p i. comes_message old new answer p one h i;
  not_yet = λ i. comes_not_yet old new answer one h i;
  refused = λ r i. comes_refused old new answer r one h i;
  again = λ r e. comes_again old new answer r one kept h e;
  nothing = λ e. comes_nothing old new answer one h e;
}

-- a refusal that was given comes again
pub given_again : (f : Feeding) (r : ReadRefusal) → IsKept f → f.refusal ≡ Some r → Answers f (Refused r) f
given_again f r kept e = (kept.refused r e, ap (λ (o : Option ReadRefusal). record { held = f.held; before = f.before; refusal = o }) e)

-- the spelling that is read arrives
arrives : (b : List ℕ) (a : Arrival) → IsRead b a.parsed → a.text ≡ take a.parsed.len b → IsArrival a.text a.parsed
arrives b a r e =
    let n : length a.text ≡ a.parsed.len = ap length e ∙ length-take-le a.parsed.len b r.within in
    let same : take a.parsed.len a.text ≡ take a.parsed.len b = take_all a.parsed.len a.text (omega arith) ∙ e in
    record {
      read = record { within = omega arith; spelled = subst (λ (x : List ℕ). Spells x a.parsed.message a.parsed.shut a.parsed.auth_len) (sym same) r.spelled };
      whole = sym n;
    }

-- what is released leads to the message, and separators are behind it
released_leads : (old : Feeding) (a : Arrival) → IsRead old.held a.parsed → a.text ≡ take a.parsed.len old.held
    → Leads (take (a.parsed.len + prefix_len is_separator (drop a.parsed.len old.held)) old.held) a (take (prefix_len is_separator (drop a.parsed.len old.held)) (drop a.parsed.len old.held))
released_leads old a r e = record {
  gap = [];
  separators = refl;
  arrived = arrives old.held a r e;
  text = take_plus a.parsed.len (prefix_len is_separator (drop a.parsed.len old.held)) old.held ∙ ap (λ (x : List ℕ). x ++ take (prefix_len is_separator (drop a.parsed.len old.held)) (drop a.parsed.len old.held)) (sym e);
} where
  take_plus : (m n : ℕ) (xs : List ℕ) → take (m + n) xs ≡ take m xs ++ take n (drop m xs)
  take_plus m n xs = Rattle.std.proofs.Math.Seq.take-add m n xs

fed_message : (old new : Feeding) (a : Arrival) (stream : List ℕ) (ms : List Arrival) → Hands old a new → Fed old stream ms → Fed new stream (ms ++ a ∷ [])
fed_message old new a stream ms h f =
    let gap = prefix_len is_separator (drop a.parsed.len old.held) in
    let gone = a.parsed.len + gap in
    let lead = released_leads old a h.read h.text in
    let whole : stream ≡ (f.front ++ take gone old.held) ++ drop gone old.held =
    f.text ∙ ap (λ (x : List ℕ). f.front ++ x) (sym (take-append-drop gone old.held)) ∙ sym (append_assoc f.front (take gone old.held) (drop gone old.held)) in
    let size : length (take gone old.held) ≡ gone = length-take-le gone old.held (span_room a.parsed.len old.held h.read.within) in
    let l = length-append f.front (take gone old.held) in
    let c = f.counted in
    subst (λ (x : Feeding). Fed x stream (ms ++ a ∷ [])) (sym h.released) (record {
      front = f.front ++ take gone old.held;
      text = whole;
      counted = omega (arith, l, c, size);
      messages = messages_next ms a f.front (take gone old.held) (take gap (drop a.parsed.len old.held)) f.messages lead (span_separators (drop a.parsed.len old.held));
    }) where
      span_room : (n : ℕ) (b : List ℕ) → n ≤ length b → n + prefix_len is_separator (drop n b) ≤ length b
      span_room n b i =
          let p = Rattle.std.proofs.lemmas.List.Sums.prefix_len-le-length is_separator (drop n b) in
          let d = Rattle.std.proofs.lemmas.List.length-drop n b in
          omega (arith, p, d, i)

-- what is handed out comes behind what was
pub hands_out : (old new : Feeding) (answer : Next) → Answers old answer new → HandsOut old answer new
hands_out old new (Message a) h stream ms f = fed_message old new a stream ms h f
hands_out old new NotYet h stream ms f = same_fed old new stream ms h.1 f where
  same_fed : (x y : Feeding) (s : List ℕ) (ns : List Arrival) → y ≡ x → Fed x s ns → Fed y s (ns ++ [])
  same_fed x y s ns e g = subst (λ (z : Feeding). Fed z s (ns ++ [])) (sym e) (subst (Fed x s) (sym (append-nil ns)) g)
hands_out old new (Refused r) h stream ms f =
    subst (λ (z : Feeding). Fed z stream (ms ++ [])) (sym h.1) (subst (Fed (with_refusal old r) stream) (sym (append-nil ms)) (record { front = f.front; text = f.text; counted = f.counted; messages = f.messages }))
hands_out old new NoMemory h stream ms f = subst (λ (z : Feeding). Fed z stream (ms ++ [])) (sym h.2) (subst (Fed old stream) (sym (append-nil ms)) f)

-- what is held is the rest of the stream
fed_holds : (old : Feeding) (stream : List ℕ) (ms : List Arrival) (end : Option ReadRefusal) → IsKept old → Fed old stream ms → EndsWith old.before old.held end → HoldsArrivals stream ms end
fed_holds old stream ms end kept f h = record {
  front = f.front;
  rest = old.held;
  text = f.text;
  messages = f.messages;
  begun = kept.begun;
  ends = subst (λ (n : ℕ). EndsWith n old.held end) f.counted h;
}

pub exhausts : (old new : Feeding) (answer : Next) → IsKept old → Answers old answer new → Exhausts old answer
exhausts old new answer kept h = record {
  not_yet = λ stream ms f e. fed_holds old stream ms None kept f (waiting e);
  refused = λ stream ms r f e. fed_holds old stream ms (Some r) kept f (refusing r e);
} where
  waiting : answer ≡ NotYet → IsWaiting old.held
  waiting e = (subst (λ (x : Next). Answers old x new) e h).0

  refusing : (r : ReadRefusal) → answer ≡ Refused r → IsRefusedAfter old.before old.held r
  refusing r e = (subst (λ (x : Next). Answers old x new) e h).0

pub moved_other : (n : ℕ) (r : ReadRefusal) → r ≢ refusal.NoMemory → moved n r ≢ refusal.NoMemory
moved_other n (refusal.NotCsm m) h = λ e. cc
moved_other n (refusal.TooLong m) h = λ e. cc
moved_other n (refusal.Unended m) h = λ e. cc
moved_other n (refusal.BadTag m) h = λ e. cc
moved_other n (refusal.UnknownTag m) h = λ e. cc
moved_other n (refusal.Repeated t m) h = λ e. cc
moved_other n (refusal.Missing t m) h = λ e. cc
moved_other n (refusal.Unwanted t m) h = λ e. cc
moved_other n (refusal.BadContents t m) h = λ e. cc
moved_other n (refusal.Unsupported t m) h = λ e. cc
moved_other n refusal.NoMemory h = h

-- want of memory is no refusal
pub refused_other : (n : ℕ) (held : List ℕ) (r : ReadRefusal) → FaultEnds → IsRefusedAfter n held r → r ≢ refusal.NoMemory
refused_other n held r ends h e = moved_other n h.reason (ends held h.reason h.fault).memory (sym h.place ∙ e)

pub answer_other : (old new : Feeding) (answer : Next) → FaultEnds → Answers old answer new → answer ≢ Refused refusal.NoMemory
answer_other old new answer ends h e = refused_other old.before old.held refusal.NoMemory ends (subst (λ (x : Next). Answers old x new) e h).0 refl
