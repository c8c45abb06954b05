-- The tests of rows, and of lists of them.
use Rattle.std.proofs.Common.{◌≡◌, ◌↔◌, ℕ, suc, ◌<◌, ◌&&◌, ◌==◌, Bool, true, false, Option, Some, None, List, [], ◌∷◌, length, refl, ap, bytes_eq, Decides, arith}
use Rattle.std.specs.Prelude.{slice_get}
use Rattle.std.proofs.lemmas.Bool.Decides.{Decides-and, Decides-eqb, Decides-like}
use Rattle.std.specs.Cmp.Lexicographic.{bytes_decides}
use Rattle.x_mac.specs.declared.pair.Pair.{Pair}
use Rattle.party_tables.specs.declared.link.LinkRec.{LinkRec}
use Rattle.party_tables.specs.declared.key.KeyRec.{KeyRec}
use Rattle.party_tables.specs.declared.key.KeyStatus.{KeyStatus}
use Rattle.party_tables.specs.declared.key.KeyStatus.TheVariants.{Pending, Live, Held, Closing, Ended}
use Rattle.party_tables.specs.declared.exchange.Exchange.{Exchange}
use Rattle.party_tables.specs.declared.exchange.Kind.{Kind}
use Rattle.party_tables.specs.declared.exchange.Kind.TheVariants as kind
use Rattle.party_tables.specs.declared.exchange.Via.{Via}
use Rattle.party_tables.specs.declared.exchange.Via.TheVariants as via
use Rattle.party_tables.specs.declared.answer.Answer.{Answer}
use Rattle.party_tables.specs.Keys.{link_key, record_key, answer_key, same_name}
use Rattle.party_tables.proofs.Keys.{test_links, test_names, test_records, test_answers}
use Rattle.party_tables.specs.Same.{same_bool, same_status, same_link_rec, same_key_rec, same_answer_rec, same_label, same_via, same_kind, same_exchange}

decides_pair : (a b : Pair) → Decides ((a.left == b.left) && (a.right == b.right)) (a ≡ b)
decides_pair a b = Decides-like ((a.left == b.left) && (a.right == b.right)) (λ h. λ i. record { left = h.0 i; right = h.1 i }) (λ h. (ap (λ (p : Pair). p.left) h, ap (λ (p : Pair). p.right) h)) (Decides-and _ _ (Decides-eqb a.left b.left) (Decides-eqb a.right b.right))

decides_bool : (a b : Bool) → Decides (same_bool a b) (a ≡ b)
decides_bool true true = (λ _. refl, λ _. refl)
decides_bool true false = (λ h. cc, λ h. cc)
decides_bool false true = (λ h. cc, λ h. cc)
decides_bool false false = (λ _. refl, λ _. refl)

decides_status : (a b : KeyStatus) → Decides (same_status a b) (a ≡ b)
decides_status Pending Pending = (λ _. refl, λ _. refl)
decides_status Pending Live = (λ h. cc, λ h. cc)
decides_status Pending Held = (λ h. cc, λ h. cc)
decides_status Pending Closing = (λ h. cc, λ h. cc)
decides_status Pending Ended = (λ h. cc, λ h. cc)
decides_status Live Pending = (λ h. cc, λ h. cc)
decides_status Live Live = (λ _. refl, λ _. refl)
decides_status Live Held = (λ h. cc, λ h. cc)
decides_status Live Closing = (λ h. cc, λ h. cc)
decides_status Live Ended = (λ h. cc, λ h. cc)
decides_status Held Pending = (λ h. cc, λ h. cc)
decides_status Held Live = (λ h. cc, λ h. cc)
decides_status Held Held = (λ _. refl, λ _. refl)
decides_status Held Closing = (λ h. cc, λ h. cc)
decides_status Held Ended = (λ h. cc, λ h. cc)
decides_status Closing Pending = (λ h. cc, λ h. cc)
decides_status Closing Live = (λ h. cc, λ h. cc)
decides_status Closing Held = (λ h. cc, λ h. cc)
decides_status Closing Closing = (λ _. refl, λ _. refl)
decides_status Closing Ended = (λ h. cc, λ h. cc)
decides_status Ended Pending = (λ h. cc, λ h. cc)
decides_status Ended Live = (λ h. cc, λ h. cc)
decides_status Ended Held = (λ h. cc, λ h. cc)
decides_status Ended Closing = (λ h. cc, λ h. cc)
decides_status Ended Ended = (λ _. refl, λ _. refl)

pub decides_link : (a b : LinkRec) → Decides (same_link_rec a b) (a ≡ b)
decides_link a b = Decides-like (same_link_rec a b)
    (λ h i. record { peer = (h.0 i).peer; label = (h.0 i).label; side = (h.0 i).side; pair = h.1.0 i; next = h.1.1.0 i; ready = h.1.1.1 i })
    (λ h. (ap link_key h, (ap (λ (l : LinkRec). l.pair) h, (ap (λ (l : LinkRec). l.next) h, ap (λ (l : LinkRec). l.ready) h))))
    (Decides-and _ _ (test_links.decides (link_key a) (link_key b)) (Decides-and _ _ (decides_pair a.pair b.pair) (Decides-and _ _ (Decides-eqb a.next b.next) (decides_bool a.ready b.ready))))

pub decides_key : (a b : KeyRec) → Decides (same_key_rec a b) (a ≡ b)
decides_key a b = Decides-like (same_key_rec a b)
    (λ h i. record { peer = (h.0 i).peer; name = (h.0 i).name; value = h.1.0 i; status = h.1.1 i })
    (λ h. (ap record_key h, (ap (λ (k : KeyRec). k.value) h, ap (λ (k : KeyRec). k.status) h)))
    (Decides-and _ _ (test_records.decides (record_key a) (record_key b)) (Decides-and _ _ (Decides-eqb a.value b.value) (decides_status a.status b.status)))

pub decides_answer : (a b : Answer) → Decides (same_answer_rec a b) (a ≡ b)
decides_answer a b = Decides-like (same_answer_rec a b)
    (λ h i. record { requester = (h.0 i).requester; ultimate = (h.0 i).ultimate; cta = h.1.0 i; value = h.1.1 i })
    (λ h. (ap answer_key h, (ap (λ (k : Answer). k.cta) h, ap (λ (k : Answer). k.value) h)))
    (Decides-and _ _ (test_answers.decides (answer_key a) (answer_key b)) (Decides-and _ _ (Decides-eqb a.cta b.cta) (Decides-eqb a.value b.value)))

decides_label : (a b : Option (List ℕ)) → Decides (same_label a b) (a ≡ b)
decides_label None None = (λ _. refl, λ _. refl)
decides_label None (Some b) = (λ h. cc, λ h. cc)
decides_label (Some a) None = (λ h. cc, λ h. cc)
decides_label (Some a) (Some b) = Decides-like (bytes_eq a b) (λ h. ap Some h) (λ h. cc) (bytes_decides a b)

decides_via : (a b : Via) → Decides (same_via a b) (a ≡ b)
decides_via (via.Direct a new) (via.Direct b other) = Decides-like (bytes_eq a b && same_label new other) (λ h. cc) (λ h. (cc, cc)) (Decides-and _ _ (bytes_decides a b) (decides_label new other))
decides_via (via.Direct a new) (via.Distribution b m) = (λ h. cc, λ h. cc)
decides_via (via.Direct a new) (via.Translation b) = (λ h. cc, λ h. cc)
decides_via (via.Distribution a n) (via.Direct b other) = (λ h. cc, λ h. cc)
decides_via (via.Distribution a n) (via.Distribution b m) = Decides-like (bytes_eq a b && (n == m)) (λ h. cc) (λ h. (cc, cc)) (Decides-and _ _ (bytes_decides a b) (Decides-eqb n m))
decides_via (via.Distribution a n) (via.Translation b) = (λ h. cc, λ h. cc)
decides_via (via.Translation a) (via.Direct b other) = (λ h. cc, λ h. cc)
decides_via (via.Translation a) (via.Distribution b m) = (λ h. cc, λ h. cc)
decides_via (via.Translation a) (via.Translation b) = Decides-like (bytes_eq a b) (λ h. cc) (λ h. cc) (bytes_decides a b)

pub decides_kind : (a b : Kind) → Decides (same_kind a b) (a ≡ b)
decides_kind (kind.Asked a) (kind.Asked b) = Decides-like (bytes_eq a b) (λ h. cc) (λ h. cc) (bytes_decides a b)
decides_kind (kind.Asked a) (kind.Translating b w m) = (λ h. cc, λ h. cc)
decides_kind (kind.Asked a) (kind.KeySent b w) = (λ h. cc, λ h. cc)
decides_kind (kind.Asked a) (kind.Ending b) = (λ h. cc, λ h. cc)
decides_kind (kind.Asked a) (kind.PairSent b) = (λ h. cc, λ h. cc)
decides_kind (kind.Translating a v n) (kind.Asked b) = (λ h. cc, λ h. cc)
decides_kind (kind.Translating a v n) (kind.Translating b w m) = Decides-like (bytes_eq a b && ((v == w) && (n == m))) (λ h. cc) (λ h. (cc, (cc, cc))) (Decides-and _ _ (bytes_decides a b) (Decides-and _ _ (Decides-eqb v w) (Decides-eqb n m)))
decides_kind (kind.Translating a v n) (kind.KeySent b w) = (λ h. cc, λ h. cc)
decides_kind (kind.Translating a v n) (kind.Ending b) = (λ h. cc, λ h. cc)
decides_kind (kind.Translating a v n) (kind.PairSent b) = (λ h. cc, λ h. cc)
decides_kind (kind.KeySent a v) (kind.Asked b) = (λ h. cc, λ h. cc)
decides_kind (kind.KeySent a v) (kind.Translating b w m) = (λ h. cc, λ h. cc)
decides_kind (kind.KeySent a v) (kind.KeySent b w) = Decides-like (same_name a b && same_via v w) (λ h. cc) (λ h. (cc, cc)) (Decides-and _ _ (test_names.decides a b) (decides_via v w))
decides_kind (kind.KeySent a v) (kind.Ending b) = (λ h. cc, λ h. cc)
decides_kind (kind.KeySent a v) (kind.PairSent b) = (λ h. cc, λ h. cc)
decides_kind (kind.Ending a) (kind.Asked b) = (λ h. cc, λ h. cc)
decides_kind (kind.Ending a) (kind.Translating b w m) = (λ h. cc, λ h. cc)
decides_kind (kind.Ending a) (kind.KeySent b w) = (λ h. cc, λ h. cc)
decides_kind (kind.Ending a) (kind.Ending b) = Decides-like (same_name a b) (λ h. cc) (λ h. cc) (test_names.decides a b)
decides_kind (kind.Ending a) (kind.PairSent b) = (λ h. cc, λ h. cc)
decides_kind (kind.PairSent a) (kind.Asked b) = (λ h. cc, λ h. cc)
decides_kind (kind.PairSent a) (kind.Translating b w m) = (λ h. cc, λ h. cc)
decides_kind (kind.PairSent a) (kind.KeySent b w) = (λ h. cc, λ h. cc)
decides_kind (kind.PairSent a) (kind.Ending b) = (λ h. cc, λ h. cc)
decides_kind (kind.PairSent a) (kind.PairSent b) = Decides-like (same_name a b) (λ h. cc) (λ h. cc) (test_names.decides a b)

pub decides_exchange : (a b : Exchange) → Decides (same_exchange a b) (a ≡ b)
decides_exchange a b = Decides-like (same_exchange a b)
    (λ h i. record { peer = h.0 i; kind = h.1.0 i; text = h.1.1 i })
    (λ h. (ap (λ (e : Exchange). e.peer) h, (ap (λ (e : Exchange). e.kind) h, ap (λ (e : Exchange). e.text) h)))
    (Decides-and _ _ (bytes_decides a.peer b.peer) (Decides-and _ _ (decides_kind a.kind b.kind) (bytes_decides a.text b.text)))

-- what a test by fields says of two rows

pub link_alike : (a b : LinkRec) → (same_link_rec a b ≡ true) ↔ (a ≡ b)
link_alike a b = decides_link a b

pub key_alike : (a b : KeyRec) → (same_key_rec a b ≡ true) ↔ (a ≡ b)
key_alike a b = decides_key a b

pub exchange_alike : (a b : Exchange) → (same_exchange a b ≡ true) ↔ (a ≡ b)
exchange_alike a b = decides_exchange a b

pub answer_alike : (a b : Answer) → (same_answer_rec a b ≡ true) ↔ (a ≡ b)
answer_alike a b = decides_answer a b

-- two lists with the same rows
pub same_rows : {A : Type 0} (xs ys : List A) → length xs ≡ length ys → ((k : ℕ) → k < length xs → slice_get xs k ≡ slice_get ys k) → xs ≡ ys
same_rows [] [] long same = refl
same_rows [] (y ∷ ys) long same = absurd (omega (arith, long))
same_rows (x ∷ xs) [] long same = absurd (omega (arith, long))
same_rows (x ∷ xs) (y ∷ ys) long same =
    let first : Some x ≡ Some y = same 0 (omega arith) in
    let head : x ≡ y = cc first in
    let rest : xs ≡ ys = same_rows xs ys (omega (arith, long)) (λ k lt. same (suc k) (omega (arith, lt))) in
    cc
