-- Separators and a message in the front of bytes.
use Rattle.std.proofs.Common.{◌≡◌, ℕ, List, [], ◌∷◌, ◌++◌, length, take, refl, sym, ◌∙◌, ap, subst, append_assoc, arith, inl, inr}
use Rattle.std.specs.Prelude.{◌⊎◌, codes}
use Rattle.std.specs.List.{list_all}
use Rattle.std.proofs.lemmas.Bool.{false≢true, and_parts}
use Rattle.std.proofs.lemmas.List.{take_all}
use Rattle.std.proofs.Math.Logic.{∥∥₁_prop}
use Rattle.csm_grammar.specs.declared.arrival.Arrival.{Arrival}
use Rattle.csm_grammar.specs.declared.parsed.Parsed.{Parsed}
use Rattle.csm_grammar.specs.declared.refusal.ReadRefusal.{ReadRefusal}
use Rattle.csm_grammar.specs.Spelling.{is_separator, AreSeparators}
use Rattle.csm_grammar.specs.Reading.{IsRead, IsArrival}
use Rattle.csm_read.specs.Faults.{IsFault}
use Rattle.csm_read.specs.Laws.{OneAnswer, OneSpelling, OneFault, ReadStays}
use Rattle.csm_feed.specs.Streams.{Leads, IsBegun}

-- bytes in which no message begins
abbrev pub IsUnread : List ℕ → Type 0
IsUnread b = (p : Parsed) → ¬ (IsRead b p)

-- where no separator comes first, separators in front are told from what follows
pub same_front : (g h x y : List ℕ) → AreSeparators g → AreSeparators h → IsBegun x → IsBegun y → g ++ x ≡ h ++ y → (g ≡ h) × (x ≡ y)
same_front [] [] x y p q b c e = (refl, e)
same_front [] (k ∷ ks) [] y p q b c e = absurd cc
same_front [] (k ∷ ks) (a ∷ xs) y p q b c e =
    let i : a ≡ k = cc in
    absurd (false≢true (sym b ∙ ap is_separator i ∙ (and_parts (is_separator k) (list_all is_separator ks) q).0))
same_front (k ∷ ks) [] x [] p q b c e = absurd cc
same_front (k ∷ ks) [] x (a ∷ ys) p q b c e =
    let i : a ≡ k = cc in
    absurd (false≢true (sym c ∙ ap is_separator i ∙ (and_parts (is_separator k) (list_all is_separator ks) p).0))
same_front (k ∷ ks) (l ∷ ls) x y p q b c e =
    let i : k ≡ l = cc in
    let j : ks ++ x ≡ ls ++ y = cc in
    let more = same_front ks ls x y (and_parts (is_separator k) (list_all is_separator ks) p).1 (and_parts (is_separator l) (list_all is_separator ls) q).1 b c j in
    let m : ks ≡ ls = more.0 in
    (cc, more.1)

pub same_length : (s t x y : List ℕ) → length s ≡ length t → s ++ x ≡ t ++ y → (s ≡ t) × (x ≡ y)
same_length [] [] x y h e = (refl, e)
same_length [] (b ∷ t) x y h e = absurd (omega (arith, h))
same_length (a ∷ s) [] x y h e = absurd (omega (arith, h))
same_length (a ∷ s) (b ∷ t) x y h e =
    let i : a ≡ b = cc in
    let j : s ++ x ≡ t ++ y = cc in
    let more = same_length s t x y (omega (arith, h)) j in
    let m : s ≡ t = more.0 in
    (cc, more.1)

-- a message as it was received begins with a byte that is no separator
begun_from : (t rest : List ℕ) (m : List ℕ) → t ≡ codes "CSM(" ++ m → IsBegun (t ++ rest)
begun_from t rest m h = subst (λ (x : List ℕ). IsBegun (x ++ rest)) (sym h) refl

pub begun_arrival : (a : Arrival) (rest : List ℕ) → IsArrival a.text a.parsed → IsBegun (a.text ++ rest)
begun_arrival a rest i =
    let whole : take a.parsed.len a.text ≡ a.text = ap (λ (n : ℕ). take n a.text) i.whole ∙ take_all (length a.text) a.text (omega arith) in
    begun_from a.text rest _ (sym whole ∙ i.read.spelled.text)

same_arrival : (a b : Arrival) → a.text ≡ b.text → a.parsed ≡ b.parsed → a ≡ b
same_arrival a b e f =
    subst (λ (t : List ℕ). (y : ∥ IsArrival t b.parsed ∥₁) → a ≡ record { parsed = b.parsed; text = t; arrived = y }) e
    (subst (λ (p : Parsed). (y : ∥ IsArrival a.text p ∥₁) → a ≡ record { parsed = p; text = a.text; arrived = y }) f
    (λ y. ap (λ (z : ∥ IsArrival a.text a.parsed ∥₁). record { parsed = a.parsed; text = a.text; arrived = z }) (∥∥₁_prop a.arrived y))) b.arrived

pub one_parsed : (b : List ℕ) (p q : Parsed) → OneSpelling b ⊎ OneFault b → IsRead b p → IsRead b q → p ≡ q
one_parsed b p q (inl s) h k = s.alone p h ∙ sym (s.alone q k)
one_parsed b p q (inr f) h k = absurd (f.unread p h)

pub unread : (b : List ℕ) → OneAnswer → (r : ReadRefusal) → IsFault b r → IsUnread b
unread b one r h p i = go (one b) where
  go : OneSpelling b ⊎ OneFault b → ⊥
  go (inl s) = s.faultless r h
  go (inr f) = f.unread p i

-- bytes lead to one message, and to what is behind it
pub same_lead : (b : List ℕ) (a c : Arrival) (x y : List ℕ) → OneAnswer → ReadStays → Leads b a x → Leads b c y → (a ≡ c) × (x ≡ y)
same_lead b a c x y one stays l m =
    let fronts = same_front l.gap m.gap (a.text ++ x) (c.text ++ y) l.separators m.separators (begun_arrival a x l.arrived) (begun_arrival c y m.arrived) (sym l.text ∙ m.text) in
    let read = stays c.text y c.parsed m.arrived.read in
    let parsed = one_parsed (a.text ++ x) a.parsed c.parsed (one (a.text ++ x)) (stays a.text x a.parsed l.arrived.read) (subst (λ (t : List ℕ). IsRead t c.parsed) (sym fronts.1) read) in
    let size = sym l.arrived.whole ∙ ap (λ (p : Parsed). p.len) parsed ∙ m.arrived.whole in
    let texts = same_length a.text c.text x y size fronts.1 in
    (same_arrival a c texts.0 parsed, texts.1)

pub leads_more : (b more : List ℕ) (a : Arrival) (rest : List ℕ) → Leads b a rest → Leads (b ++ more) a (rest ++ more)
leads_more b more a rest l = record {
  gap = l.gap;
  separators = l.separators;
  arrived = l.arrived;
  text = ap (λ (x : List ℕ). x ++ more) l.text ∙ append_assoc l.gap (a.text ++ rest) more ∙ ap (λ (x : List ℕ). l.gap ++ x) (append_assoc a.text rest more);
}

-- where nothing is read behind separators, bytes lead to no message
pub no_lead : (g x rest : List ℕ) (a : Arrival) → ReadStays → AreSeparators g → IsBegun x → IsUnread x → Leads (g ++ x) a rest → ⊥
no_lead g x rest a stays p b n l =
    let fronts = same_front g l.gap x (a.text ++ rest) p l.separators b (begun_arrival a rest l.arrived) l.text in
    n a.parsed (subst (λ (t : List ℕ). IsRead t a.parsed) (sym fronts.1) (stays a.text rest a.parsed l.arrived.read))
