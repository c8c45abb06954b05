-- Bytes behind what a feed holds.
use Rattle.std.proofs.Common.{◌≡◌, ℕ, zero, suc, ◌+◌, ◌≤◌, ◌<◌, ◌^◌, List, [], ◌∷◌, ◌++◌, length, take, drop, refl, sym, ◌∙◌, ap, subst, append_assoc, arith, length-append}
use Rattle.std.specs.List.{prefix_len}
use Rattle.std.proofs.lemmas.List.{take-append-drop, length-take-le, length-take, length-drop, append-nil, take-take, drop-take}
use Rattle.std.proofs.lemmas.List.Sums.{prefix_len-le-length}
use Rattle.csm_grammar.specs.declared.refusal.ReadRefusal.{ReadRefusal}
use Rattle.csm_grammar.specs.Spelling.{is_separator, AreSeparators}
use Rattle.csm_read.specs.Laws.{FaultStays}
use Rattle.csm_feed.specs.Streams.{IsBegun, IsRefusedAfter}
use Rattle.csm_feed.specs.HeldBytes.{Feeding, IsKept}
use Rattle.csm_feed.specs.Feeding.{gap_before, with_bytes, Feeds}
use Rattle.csm_feed.proofs.Cutting.{messages_gap, refused_more}
use Rattle.csm_feed.proofs.Spans.{span_separators, span_begun, span_take}

gap_separators : (held b : List ℕ) → AreSeparators (take (gap_before held b) b)
gap_separators [] b = span_separators b
gap_separators (h ∷ hs) b = refl

pub gap_within : (held b : List ℕ) → gap_before held b ≤ length b
gap_within [] b = prefix_len-le-length is_separator b
gap_within (h ∷ hs) b = omega arith

-- a gap is all that comes before what is held
gap_only : (held front b : List ℕ) → (front ++ held) ++ take (gap_before held b) b ≡ (front ++ take (gap_before held b) b) ++ held
gap_only [] front b = ap (λ (x : List ℕ). x ++ take (prefix_len is_separator b) b) (append-nil front) ∙ sym (append-nil (front ++ take (prefix_len is_separator b) b))
gap_only (h ∷ hs) front b = append-nil (front ++ h ∷ hs) ∙ ap (λ (x : List ℕ). x ++ h ∷ hs) (sym (append-nil front))

feeds : (old : Feeding) (b : List ℕ) → Feeds old b (with_bytes old b)
feeds old b stream ms f =
    let gap = gap_before old.held b in
    let whole : stream ++ b ≡ (f.front ++ take gap b) ++ (old.held ++ drop gap b) =
    ap (λ (x : List ℕ). x ++ b) f.text
    ∙ ap (λ (x : List ℕ). (f.front ++ old.held) ++ x) (sym (take-append-drop gap b))
    ∙ sym (append_assoc (f.front ++ old.held) (take gap b) (drop gap b))
    ∙ ap (λ (x : List ℕ). x ++ drop gap b) (gap_only old.held f.front b)
    ∙ append_assoc (f.front ++ take gap b) old.held (drop gap b) in
    let size = length-take-le gap b (gap_within old.held b) in
    let l = length-append f.front (take gap b) in
    let c = f.counted in
    record {
      front = f.front ++ take gap b;
      text = whole;
      counted = omega (arith, l, c, size);
      messages = messages_gap ms f.front (take gap b) f.messages (gap_separators old.held b);
    }

gap_take : (held b : List ℕ) (n : ℕ) → gap_before held b ≤ n → gap_before held (take n b) ≡ gap_before held b
gap_take [] b n h = span_take n b h
gap_take (x ∷ xs) b n h = refl

-- what a push adds: a gap, and k bytes behind it
adds : (old : Feeding) (piece c : List ℕ) (left gap k : ℕ) → c ≡ take left piece → gap ≡ gap_before old.held c → k ≤ length (drop gap c)
    → record { held = old.held ++ take k (drop gap c); before = old.before + gap; refusal = old.refusal } ≡ with_bytes old (take (gap + k) piece)
adds old piece c left gap k e g h =
    let size = length-drop gap c in
    let most = ap length e ∙ length-take left piece in
    let within : gap ≤ length c = subst (λ (n : ℕ). n ≤ length c) (sym g) (gap_within old.held c) in
    let front : take (gap + k) c ≡ take (gap + k) piece = ap (take (gap + k)) e ∙ take-take (gap + k) left piece (omega (arith, size, most, within, h)) in
    let same : gap_before old.held (take (gap + k) c) ≡ gap = gap_take old.held c (gap + k) (omega (arith, g)) ∙ sym g in
    let text : drop gap (take (gap + k) c) ≡ take k (drop gap c) = drop-take gap k c in
    let there : Feeding = record { held = old.held ++ drop gap (take (gap + k) c); before = old.before + gap; refusal = old.refusal } in
    let counts : with_bytes old (take (gap + k) c) ≡ there = ap (λ (n : ℕ). record { held = old.held ++ drop n (take (gap + k) c); before = old.before + n; refusal = old.refusal }) same in
    let holds : there ≡ record { held = old.held ++ take k (drop gap c); before = old.before + gap; refusal = old.refusal } = ap (λ (x : List ℕ). record { held = old.held ++ x; before = old.before + gap; refusal = old.refusal }) text in
    sym (counts ∙ holds) ∙ ap (with_bytes old) front

gap_begun : (held b : List ℕ) → IsBegun held → IsBegun (held ++ drop (gap_before held b) b)
gap_begun [] b h = span_begun b
gap_begun (x ∷ xs) b h = h

refused_by : (n gap : ℕ) (held b : List ℕ) (r : ReadRefusal) → FaultStays → IsRefusedAfter n held r → IsRefusedAfter (n + gap_before held b) (held ++ drop (gap_before held b) b) r
refused_by n gap [] b r stays h = absurd (h.something refl)
refused_by n gap (x ∷ xs) b r stays h = let e : n ≡ n + 0 = omega arith in subst (λ (m : ℕ). IsRefusedAfter m (x ∷ xs ++ b) r) e (refused_more n (x ∷ xs) b r stays h)

kept_with : (old : Feeding) (b : List ℕ) → FaultStays → IsKept old → length (with_bytes old b).held ≤ 1025 → (with_bytes old b).before + length (with_bytes old b).held < 2 ^ 64 → IsKept (with_bytes old b)
kept_with old b stays k short counted = record {
  short = short;
  counted = counted;
  begun = gap_begun old.held b k.begun;
  refused = λ r e. refused_by old.before (gap_before old.held b) old.held b r stays (k.refused r e);
}

take_own : (n : ℕ) (xs : List ℕ) → take (length (take n xs)) xs ≡ take n xs
take_own zero xs = refl
take_own (suc n) [] = refl
take_own (suc n) (x ∷ xs) = ap (λ (ys : List ℕ). x ∷ ys) (take_own n xs)

length_own : (n : ℕ) (xs : List ℕ) → length (take n xs) ≤ length xs
length_own n xs = let t = length-take n xs in omega (arith, t)

-- separators of a piece, and the bytes behind them that fit
pub added : (old : Feeding) (piece c separators text fitting items : List ℕ) (left gap n : ℕ) → c ≡ take left piece → gap ≡ gap_before old.held c → length separators ≡ gap → text ≡ drop gap c → fitting ≡ take n text → items ≡ old.held ++ fitting
    → record { held = items; before = old.before + length separators; refusal = old.refusal } ≡ with_bytes old (take (length separators + length fitting) piece)
added old piece c separators text fitting items left gap n e g s t f i =
    let front : text ≡ drop (length separators) c = t ∙ ap (λ (m : ℕ). drop m c) (sym s) in
    let size : length fitting ≤ length (drop (length separators) c) = subst (λ (x : List ℕ). length x ≤ length (drop (length separators) c)) (sym (f ∙ ap (take n) front)) (length_own n (drop (length separators) c)) in
    let own : fitting ≡ take (length fitting) (drop (length separators) c) =
    f ∙ sym (take_own n text) ∙ ap (λ (x : List ℕ). take (length x) text) (sym f) ∙ ap (take (length fitting)) front in
    ap (λ (x : List ℕ). record { held = x; before = old.before + length separators; refusal = old.refusal }) (i ∙ ap (λ (x : List ℕ). old.held ++ x) own)
    ∙ adds old piece c left (length separators) (length fitting) e (s ∙ g) size

pub kept_as : (old new : Feeding) (b : List ℕ) → FaultStays → IsKept old → new ≡ with_bytes old b → length new.held ≤ 1025 → new.before + length new.held < 2 ^ 64 → IsKept new
kept_as old new b stays kept e short counted =
    subst IsKept (sym e) (kept_with old b stays kept (subst (λ (f : Feeding). length f.held ≤ 1025) e short) (subst (λ (f : Feeding). f.before + length f.held < 2 ^ 64) e counted))

pub feeds_as : (old new : Feeding) (b : List ℕ) → new ≡ with_bytes old b → Feeds old b new
feeds_as old new b e = subst (Feeds old b) (sym e) (feeds old b)
