-- The messages of a stream are taken one by one.
use Rattle.std.proofs.Common.{◌≡◌, ◌≢◌, inl, inr, ℕ, ◌+◌, ◌-◌, ◌*◌, ◌<◌, ◌≤◌, ◌^◌, Bool, true, false, List, [], ◌∷◌, ◌++◌, length, take, drop, length-append, append_assoc, None, refl, sym, ◌∙◌, ap, subst, arith, true≢false}
use Rattle.std.specs.Prelude.{nat_lt, codes}
use Rattle.std.specs.List.{prefix_len}
use Rattle.std.proofs.lemmas.Bool.{ltb-true, ltb-false}
use Rattle.std.proofs.lemmas.List.{append-nil, drop-drop, length-drop, take_all, take-append-drop}
use Rattle.std.proofs.Math.Seq.{take-add}
use Rattle.csm_grammar.specs.declared.arrival.Arrival.{Arrival}
use Rattle.csm_grammar.specs.declared.refusal.ReadRefusal.{ReadRefusal}
use Rattle.csm_grammar.specs.declared.refusal.ReadRefusal.TheVariants as refusal
use Rattle.csm_grammar.specs.Spelling.{is_separator}
use Rattle.csm_read.specs.Laws.{FaultEnds, FaultStays}
use Rattle.csm_feed.specs.declared.next.Next.TheVariants as next
use Rattle.csm_feed.specs.Streams.{AreMessages, IsBegun, IsRefusedAfter, IsWaiting}
use Rattle.csm_feed.specs.HeldBytes.{Feeding}
use Rattle.csm_feed.specs.Feeding.{Fed, Feeds, Hands, HandsOut, IsFull, gap_before, pushed, with_bytes, without}
use Rattle.csm_feed.proofs.Cutting.{begun_more, refused_more}
use Rattle.csm_feed.proofs.Spans.{span_begun}
use Rattle.csm_batch.specs.Lines.{line_text}
use Rattle.x_spool.specs.Inbox.{IsInbox, IsRefusedStream, arrival_lines}

-- so many bytes of the stream were pushed, and the messages that were handed out are written
pub record IsTaking (moment : ℕ) (stream lines : List ℕ) (at : ℕ) (goes_on : Bool) (f : Feeding) : Type 0 where
  pub within : at ≤ length stream
  pub arrivals : List Arrival
  pub fed : Fed f (take at stream) arrivals
  pub lines_are : lines ≡ arrival_lines moment arrivals
  pub begun : IsBegun f.held
  pub unrefused : f.refusal ≡ None
  pub ended : goes_on ≡ false → (at ≡ length stream) × IsWaiting f.held

-- one turn more
abbrev pub turn : Bool → ℕ
turn true = 1
turn false = 0

-- what falls with each turn
abbrev pub left_of : List ℕ → ℕ → Bool → Feeding → ℕ
left_of stream at goes_on f = 2 * (length stream - at) + (length f.held + turn goes_on)

pub starts : (moment : ℕ) (stream : List ℕ) (f : Feeding) → f ≡ record { held = []; before = 0; refusal = None } → Fed f [] [] → IsTaking moment stream [] 0 true f
starts moment stream f is fed = record {
  within = omega arith;
  arrivals = [];
  fed = fed;
  lines_are = refl;
  begun = subst (λ (g : Feeding). IsBegun g.held) (sym is) tt;
  unrefused = ap (λ (g : Feeding). g.refusal) is;
  ended = λ no. absurd (cc no);
}

lines_more : (moment : ℕ) (ms : List Arrival) (a : Arrival) → arrival_lines moment (ms ++ a ∷ []) ≡ arrival_lines moment ms ++ line_text moment a.text
lines_more moment [] a = append-nil (line_text moment a.text)
lines_more moment (b ∷ ms) a = ap (λ (l : List ℕ). line_text moment b.text ++ l) (lines_more moment ms a) ∙ sym (append_assoc (line_text moment b.text) (arrival_lines moment ms) (line_text moment a.text))

begun_without : (n : ℕ) (f : Feeding) → IsBegun (without n f).held
begun_without n f = subst IsBegun (drop-drop (prefix_len is_separator (drop n f.held)) n f.held) (span_begun (drop n f.held))

filled : (t m : List ℕ) → t ≡ codes "CSM(" ++ m → 1 ≤ length t
filled t m is = omega (arith, ap length is)

module _ (moment : ℕ) (stream lines : List ℕ) (at : ℕ) (goes_on : Bool) (on : goes_on ≡ true) (old : Feeding) (t : IsTaking moment stream lines at goes_on old) where
  pub message : (a : Arrival) (new : Feeding) (more : List ℕ) → Hands old a new → HandsOut old (next.Message a) new → more ≡ lines ++ line_text moment a.text → IsTaking moment stream more at goes_on new
  message a new more h out is = record {
    within = t.within;
    arrivals = t.arrivals ++ a ∷ [];
    fed = out (take at stream) t.arrivals t.fed;
    lines_are = is ∙ (ap (λ (l : List ℕ). l ++ line_text moment a.text) t.lines_are ∙ sym (lines_more moment t.arrivals a));
    begun = subst (λ (g : Feeding). IsBegun g.held) (sym h.released) (begun_without a.parsed.len old);
    unrefused = ap (λ (g : Feeding). g.refusal) h.released ∙ t.unrefused;
    ended = λ no. absurd (true≢false (sym on ∙ no));
  }

  -- where nothing more is handed out, the next bytes are pushed
  module _ (mid new : Feeding) (rest : List ℕ) (count at_new : ℕ) (goes_new : Bool) (waits : IsWaiting old.held) (same : mid ≡ old) (rest_is : rest ≡ drop at stream) (count_within : count ≤ length rest)
      (takes : new ≡ with_bytes mid (take count rest)) (feeds : Feeds mid (take count rest) new) (at_is : at_new ≡ at + count) (goes_is : goes_new ≡ nat_lt 0 count) where
    new_is : new ≡ with_bytes old (take count rest)
    new_is = takes ∙ ap (λ (g : Feeding). with_bytes g (take count rest)) same

    left_bytes : length rest ≡ length stream - at
    left_bytes = ap length rest_is ∙ length-drop at stream

    pushed_text : take at stream ++ take count rest ≡ take at_new stream
    pushed_text = ap (λ (x : List ℕ). take at stream ++ take count x) rest_is ∙ (sym (take-add at count stream) ∙ ap (λ (n : ℕ). take n stream) (sym at_is))

    begun_with : (held b : List ℕ) → IsBegun held → IsBegun (held ++ drop (gap_before held b) b)
    begun_with [] b begun = span_begun b
    begun_with (h ∷ hs) b begun = begun_more (h ∷ hs) b (λ none. absurd (cc none)) begun

    feeds_old : Feeds old (take count rest) new
    feeds_old = subst (λ (g : Feeding). Feeds g (take count rest) new) same feeds

    -- no more than the longest message waits
    waits_short : FaultEnds → length old.held ≤ 1024
    waits_short ends = go waits
      where
        go : IsWaiting old.held → length old.held ≤ 1024
        go (inl none) = omega (arith, ap length none)
        go (inr fault) = ((ends old.held (refusal.Unended (length old.held)) fault).unended (length old.held) refl).1

    none_pushed : count ≡ 0 → new ≡ old
    none_pushed none = new_is ∙ (ap (λ (n : ℕ). with_bytes old (take n rest)) none ∙ same_with old.held refl)
      where
        same_with : (held : List ℕ) → old.held ≡ held → with_bytes old [] ≡ old
        same_with [] is =
            let h : old.held ++ drop (gap_before old.held []) [] ≡ old.held = ap (λ (x : List ℕ). x ++ drop (gap_before x []) []) is ∙ sym is in
            let gap : gap_before old.held [] ≡ 0 = ap (λ (x : List ℕ). gap_before x []) is in
            let b : old.before + gap_before old.held [] ≡ old.before = omega (arith, gap) in
            rebuilt h b
          where
            rebuilt : old.held ++ drop (gap_before old.held []) [] ≡ old.held → old.before + gap_before old.held [] ≡ old.before → with_bytes old [] ≡ old
            rebuilt h b =
                ap (λ (x : List ℕ). let g : Feeding = record { held = x; before = old.before + gap_before old.held []; refusal = old.refusal } in g) h
                ∙ ap (λ (n : ℕ). let g : Feeding = record { held = old.held; before = n; refusal = old.refusal } in g) b
        same_with (k ∷ ks) is =
            let h : old.held ++ drop (gap_before old.held []) [] ≡ old.held = ap (λ (x : List ℕ). x ++ drop (gap_before x []) []) is ∙ (append-nil (k ∷ ks) ∙ sym is) in
            let gap : gap_before old.held [] ≡ 0 = ap (λ (x : List ℕ). gap_before x []) is in
            let b : old.before + gap_before old.held [] ≡ old.before = omega (arith, gap) in
            rebuilt h b
          where
            rebuilt : old.held ++ drop (gap_before old.held []) [] ≡ old.held → old.before + gap_before old.held [] ≡ old.before → with_bytes old [] ≡ old
            rebuilt h b =
                ap (λ (x : List ℕ). let g : Feeding = record { held = x; before = old.before + gap_before old.held []; refusal = old.refusal } in g) h
                ∙ ap (λ (n : ℕ). let g : Feeding = record { held = old.held; before = n; refusal = old.refusal } in g) b

    full_never : FaultEnds → length stream < 2 ^ 63 → count ≡ 0 → IsFull new → ⊥
    full_never ends short none (inl full) = omega (arith, waits_short ends, full, ap (λ (g : Feeding). length g.held) (none_pushed none))
    full_never ends short none (inr full) =
        let counted : pushed old ≡ length (take at stream) = ap (λ (n : ℕ). n + length old.held) t.fed.counted ∙ (sym (length-append t.fed.front old.held) ∙ ap length (sym t.fed.text)) in
        let few : length (take at stream) ≤ length stream = omega (arith, length-append (take at stream) (drop at stream), ap length (take-append-drop at stream)) in
        omega (arith, counted, few, short, full, ap pushed (none_pushed none))

    at_end : FaultEnds → length stream < 2 ^ 63 → (count < length rest → IsFull new) → count ≡ 0 → at_new ≡ length stream
    at_end ends short most none = by_test (nat_lt count (length rest)) refl
      where
        by_test : (b : Bool) → nat_lt count (length rest) ≡ b → at_new ≡ length stream
        by_test true less = absurd (full_never ends short none (most (ltb-true count (length rest) less)))
        by_test false all = omega (arith, ltb-false count (length rest) all, none, left_bytes, at_is, t.within)

    zero_of : goes_new ≡ false → count ≡ 0
    zero_of stops = omega (arith, ltb-false 0 count (sym goes_is ∙ stops))

    pub pushes : FaultEnds → length stream < 2 ^ 63 → (count < length rest → IsFull new) → IsTaking moment stream lines at_new goes_new new
    pushes ends short most = record {
      within = omega (arith, at_is, count_within, left_bytes, t.within);
      arrivals = t.arrivals;
      fed = subst (λ (x : List ℕ). Fed new x t.arrivals) pushed_text (feeds_old (take at stream) t.arrivals t.fed);
      lines_are = t.lines_are;
      begun = subst (λ (g : Feeding). IsBegun g.held) (sym new_is) (begun_with old.held (take count rest) t.begun);
      unrefused = ap (λ (g : Feeding). g.refusal) new_is ∙ t.unrefused;
      ended = λ no. (at_end ends short most (zero_of no), subst (λ (g : Feeding). IsWaiting g.held) (sym (none_pushed (zero_of no))) waits);
    }

  -- what stands behind the messages begins none
  pub refused : FaultStays → (r : ReadRefusal) → IsRefusedAfter old.before old.held r → IsRefusedStream stream r
  refused stays r is = record {
    arrivals = t.arrivals;
    front = t.fed.front;
    rest = old.held ++ drop at stream;
    text = sym (take-append-drop at stream) ∙ (ap (λ (x : List ℕ). x ++ drop at stream) t.fed.text ∙ append_assoc t.fed.front old.held (drop at stream));
    messages = t.fed.messages;
    begun = begun_more old.held (drop at stream) is.something t.begun;
    something = λ none. is.something (front_nil old.held (drop at stream) none);
    reason = inl (subst (λ (n : ℕ). IsRefusedAfter n (old.held ++ drop at stream) r) t.fed.counted (refused_more old.before old.held (drop at stream) r stays is));
  }
    where
      front_nil : (xs ys : List ℕ) → xs ++ ys ≡ [] → xs ≡ []
      front_nil [] ys none = refl
      front_nil (x ∷ xs) ys none = absurd (cc none)

-- at the end of the stream
module _ (moment : ℕ) (stream lines : List ℕ) (at : ℕ) (goes_on : Bool) (off : goes_on ≡ false) (f : Feeding) (t : IsTaking moment stream lines at goes_on f) where
  whole_text : take at stream ≡ stream
  whole_text = take_all at stream (omega (arith, (t.ended off).0))

  pub done : AreMessages (take at stream) t.arrivals → IsInbox moment stream lines
  done messages = (t.arrivals, subst (λ (x : List ℕ). AreMessages x t.arrivals) whole_text messages, t.lines_are)

  pub cut_off : f.held ≢ [] → (r : ReadRefusal) → r ≡ refusal.Unended (pushed f) → IsRefusedStream stream r
  cut_off something r is = record {
    arrivals = t.arrivals;
    front = t.fed.front;
    rest = f.held;
    text = sym whole_text ∙ t.fed.text;
    messages = t.fed.messages;
    begun = t.begun;
    something = something;
    reason = inr ((t.ended off).1, is ∙ ap refusal.Unended counted);
  }
    where
      counted : pushed f ≡ length stream
      counted = ap (λ (n : ℕ). n + length f.held) t.fed.counted ∙ (sym (length-append t.fed.front f.held) ∙ (ap length (sym t.fed.text) ∙ ap length whole_text))
