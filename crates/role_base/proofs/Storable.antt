-- Changes that the store can keep: what holds of a row's edits holds of those that differ.
use Rattle.std.proofs.Common.{arith, ◌≡◌, ℕ, ◌+◌, ◌-◌, ◌≤◌, ◌<◌, nat_lt, nat_le, Bool, true, false, cond, not, ◌&&◌, ◌||◌, is_some, Option, Some, None, List, [], ◌∷◌, length, filter, refl, ◌∙◌}
use Rattle.std.proofs.lemmas.Bool.{leb-true, lt-ltb}
use Rattle.std.proofs.lemmas.Bool.Decides.{nat_tests}
use Rattle.std.specs.List.{AllByRecursion, list_any}
use Rattle.std.proofs.lemmas.List.Elements.{All-from_recursion, All-filter}
use Rattle.party_state.specs.declared.edit.Edit.{Edit}
use Rattle.party_state.specs.declared.edit.Edit.TheVariants.{Begin, PutLink, DropLink, PutKey, DropEnded, PutExchange, DropExchange, PutAnswer, SetGen}
use Rattle.party_tables.specs.declared.key.KeyRec.{KeyRec}
use Rattle.party_tables.specs.declared.key.RecordKey.{RecordKey}
use Rattle.party_tables.specs.declared.link.LinkKey.{LinkKey}
use Rattle.party_tables.specs.Tables.{find_row, put_row}
use Rattle.party_tables.specs.Keys.{same_link, same_record, link_key, record_key}
use Rattle.party_tables.specs.Statuses.{is_ended}
use Rattle.party_state.specs.State.{Party, apply_edit, link_with, record_with}
use Rattle.party_state.specs.Ranges.{IsFitting, IsNoBegin}
use Rattle.party_state.specs.Limits.{IsWithinLimits, StaysWithinLimits, most_links, most_keys}
use Rattle.party_tables.specs.declared.link.LinkRec.{LinkRec}
use Rattle.party_tables.proofs.Keys.{test_links, test_records}
use Rattle.party_tables.proofs.Tables.{find_put}
use Rattle.party_tables.proofs.Lengths.{length_put, length_put_found, length_put_absent, length_filter_most, length_drop_most}
use Rattle.role_base.specs.Conditions.{count_after, has_link_room, has_key_room, one_more, has_room_for_two}
use Rattle.role_base.specs.Differing.{differs, differing}
use Rattle.role_base.specs.Storable.{IsStorable, can_put_link, can_put_key_behind, can_put_key, IsKeepableBehind, AllKeepableBehind, new_keys, puts_link, puts_key, moves_links, drops_keys, puts_first, AreKeepable}

-- it is one where no more stand afterwards than the limit
replaces_or_fits : {R : Type 0} (o : Option R) (rows : List R) (n : ℕ) → nat_le (count_after o rows) n ≡ true → (is_some o || nat_lt (length rows) n) ≡ true
replaces_or_fits (Some old) rows n h = refl
replaces_or_fits None rows n h = let l : length rows + 1 ≤ n = leb-true (length rows + 1) n h in lt-ltb (length rows) n (omega arith)

pub link_fits : (p : Party) (key : LinkKey) → has_link_room p key ≡ true → can_put_link p key ≡ true
link_fits p key h = replaces_or_fits (link_with key p) p.links most_links h

pub key_fits : (p : Party) (key : RecordKey) → has_key_room p key ≡ true → can_put_key p key ≡ true
key_fits p key h = replaces_or_fits (record_with key p) p.keys most_keys h

-- two keys, one behind the other, of which each replaces or fits
pub keys_fit : (p : Party) (j k : RecordKey) → has_room_for_two p j k ≡ true → (can_put_key p j ≡ true) × (can_put_key_behind (0 + one_more (record_with j p)) p k ≡ true)
keys_fit p j k h = go (record_with j p) (record_with k p) (leb-true (length p.keys + (one_more (record_with j p) + one_more (record_with k p))) most_keys h)
  where
    go : (a b : Option KeyRec) → length p.keys + (one_more a + one_more b) ≤ most_keys → ((is_some a || nat_lt (length p.keys) most_keys) ≡ true) × ((is_some b || nat_lt (length p.keys) (most_keys - (0 + one_more a))) ≡ true)
    go None None l = (lt-ltb (length p.keys) most_keys (omega arith), lt-ltb (length p.keys) (most_keys - 1) (omega arith))
    go None (Some k) l = (lt-ltb (length p.keys) most_keys (omega arith), refl)
    go (Some j) None l = (refl, lt-ltb (length p.keys) most_keys (omega arith))
    go (Some j) (Some k) l = (refl, refl)

-- a table with room for one more row has none too many after a put
length_put_room : {R K : Type 0} (key : R → K) (same : K → K → Bool) (n : ℕ) (x : R) (rs : List R) → (is_some (find_row key same (key x) rs) || nat_lt (length rs) n) ≡ true → length rs ≤ n → length (put_row key same x rs) ≤ n
length_put_room {R} key same n x rs room within = go (find_row key same (key x) rs) refl room
  where
    go : (o : Option R) → find_row key same (key x) rs ≡ o → (is_some o || nat_lt (length rs) n) ≡ true → length (put_row key same x rs) ≤ n
    go (Some y) found room = let e : length (put_row key same x rs) ≡ length rs = length_put_found key same x y rs found in omega arith
    go None found room = let e : length (put_row key same x rs) ≡ length rs + 1 = length_put_absent key same x rs found in let l : length rs < n = grind (arith, nat_tests) in omega arith

shown : (b : Bool) → not b ≡ false → b ≡ true
shown true h = refl
shown false h = cc

behind : (a b : Bool) → b ≡ true → (a || b) ≡ true
behind true b h = refl
behind false b h = h

ahead : (a b : Bool) → a ≡ true → (a || b) ≡ true
ahead true b h = refl
ahead false b h = cc

-- as many links stand, and each that stood
record LinksAlike (p q : Party) : Type 0 where
  pub many : length q.links ≡ length p.links
  pub each : (k : LinkKey) → is_some (link_with k p) ≡ true → is_some (link_with k q) ≡ true

room_alike : (p q : Party) (k : LinkKey) → LinksAlike p q → can_put_link p k ≡ true → can_put_link q k ≡ true
room_alike p q k a h = go (is_some (link_with k p)) refl h
  where
    go : (b : Bool) → is_some (link_with k p) ≡ b → (b || nat_lt (length p.links) most_links) ≡ true → can_put_link q k ≡ true
    go true s h = ahead (is_some (link_with k q)) (nat_lt (length q.links) most_links) (a.each k s)
    go false s h = let e : length q.links ≡ length p.links = a.many in behind (is_some (link_with k q)) (nat_lt (length q.links) most_links) (rw e h)

-- each key that stood stands, and so many more at most
record KeysAlike (new : ℕ) (p q : Party) : Type 0 where
  pub many : length q.keys ≤ new + length p.keys
  pub each : (k : RecordKey) → is_some (record_with k p) ≡ true → is_some (record_with k q) ≡ true

key_room_alike : (new : ℕ) (p q : Party) (k : RecordKey) → KeysAlike new p q → can_put_key_behind new p k ≡ true → can_put_key q k ≡ true
key_room_alike new p q k a h = go (is_some (record_with k p)) refl h
  where
    go : (b : Bool) → is_some (record_with k p) ≡ b → (b || nat_lt (length p.keys) (most_keys - new)) ≡ true → can_put_key q k ≡ true
    go true s h = ahead (is_some (record_with k q)) (nat_lt (length q.keys) most_keys) (a.each k s)
    go false s h = let few : length q.keys ≤ new + length p.keys = a.many in let l : length p.keys < most_keys - new = grind (arith, nat_tests) in behind (is_some (record_with k q)) (nat_lt (length q.keys) most_keys) (lt-ltb (length q.keys) most_keys (omega arith))

-- an edit keeps to the limits
limits_edit : (new : ℕ) (p q : Party) (e : Edit) → IsKeepableBehind new p e → (puts_link e ≡ true → LinksAlike p q) → (puts_key e ≡ true → KeysAlike new p q) → IsWithinLimits q → IsWithinLimits (apply_edit e q)
limits_edit new p q (Begin own role generator) t ls ks w = absurd t
limits_edit new p q (PutLink l) t ls ks w = record { links = length_put_room link_key same_link most_links l q.links (room_alike p q (link_key l) (ls refl) t.1) w.links; keys = w.keys }
limits_edit new p q (PutKey k) t ls ks w = record { links = w.links; keys = length_put_room record_key same_record most_keys k q.keys (key_room_alike new p q (record_key k) (ks refl) t) w.keys }
limits_edit new p q (PutExchange e) t ls ks w = record { links = w.links; keys = w.keys }
limits_edit new p q (DropLink peer label side) t ls ks w = let l : length (apply_edit (DropLink peer label side) q).links ≤ length q.links = length_drop_most link_key same_link (record { peer = peer; label = label; side = side }) q.links in let m : length q.links ≤ most_links = w.links in record { links = omega arith; keys = w.keys }
limits_edit new p q DropEnded t ls ks w = let l : length (apply_edit DropEnded q).keys ≤ length q.keys = length_filter_most (λ (k : KeyRec). not (is_ended k.status)) q.keys in let m : length q.keys ≤ most_keys = w.keys in record { links = w.links; keys = omega arith }
limits_edit new p q (DropExchange peer) t ls ks w = record { links = w.links; keys = w.keys }
limits_edit new p q (PutAnswer a) t ls ks w = record { links = w.links; keys = w.keys }
limits_edit new p q (SetGen v) t ls ks w = record { links = w.links; keys = w.keys }

-- a link that is put in the place of one that stands
put_alike : (p q : Party) (l : LinkRec) → is_some (link_with (link_key l) p) ≡ true → LinksAlike p q → LinksAlike p (apply_edit (PutLink l) q)
put_alike p q l s a = record { many = length_put link_key same_link l q.links ∙ as_many; each = λ k h. rw (find_put link_key same_link test_links k l q.links) (stands k (same_link k (link_key l)) (a.each k h)) }
  where
    as_many : length q.links + cond (is_some (link_with (link_key l) q)) 0 1 ≡ length p.links
    as_many = let n : length q.links ≡ length p.links = a.many in rw (a.each (link_key l) s) (omega arith)

    stands : (k : LinkKey) (b : Bool) → is_some (link_with k q) ≡ true → is_some (cond b (Some l) (link_with k q)) ≡ true
    stands k true h = refl
    stands k false h = h

links_stay : (p : Party) (e : Edit) (q : Party) → moves_links p e ≡ false → LinksAlike p q → LinksAlike p (apply_edit e q)
links_stay p (Begin own role generator) q h a = cc
links_stay p (PutLink l) q h a = put_alike p q l (shown _ h) a
links_stay p (PutKey k) q h a = record { many = a.many; each = a.each }
links_stay p (PutExchange e) q h a = record { many = a.many; each = a.each }
links_stay p (DropLink peer label side) q h a = cc
links_stay p DropEnded q h a = record { many = a.many; each = a.each }
links_stay p (DropExchange peer) q h a = record { many = a.many; each = a.each }
links_stay p (PutAnswer x) q h a = record { many = a.many; each = a.each }
links_stay p (SetGen v) q h a = record { many = a.many; each = a.each }

-- a key that is put
put_key_alike : (new : ℕ) (p q : Party) (k : KeyRec) → KeysAlike new p q → KeysAlike (new + one_more (record_with (record_key k) p)) p (apply_edit (PutKey k) q)
put_key_alike new p q k a = record { many = by_record (record_with (record_key k) p) refl; each = λ j h. rw (find_put record_key same_record test_records j k q.keys) (stands j (same_record j (record_key k)) (a.each j h)) }
  where
    stands : (j : RecordKey) (b : Bool) → is_some (record_with j q) ≡ true → is_some (cond b (Some k) (record_with j q)) ≡ true
    stands j true h = refl
    stands j false h = h

    by_other : (o : Option KeyRec) → length (put_row record_key same_record k q.keys) ≡ length q.keys + cond (is_some o) 0 1 → length (put_row record_key same_record k q.keys) ≤ new + 1 + length p.keys
    by_other None e = let many : length q.keys ≤ new + length p.keys = a.many in omega arith
    by_other (Some old) e = let many : length q.keys ≤ new + length p.keys = a.many in omega arith

    by_record : (o : Option KeyRec) → record_with (record_key k) p ≡ o → length (apply_edit (PutKey k) q).keys ≤ new + one_more o + length p.keys
    by_record None f = by_other (record_with (record_key k) q) (length_put record_key same_record k q.keys)
    by_record (Some old) f =
        let there : is_some (record_with (record_key k) p) ≡ true = rw f refl in
        let many : length q.keys ≤ new + length p.keys = a.many in
        let e : length (put_row record_key same_record k q.keys) ≡ length q.keys + cond (is_some (record_with (record_key k) q)) 0 1 = length_put record_key same_record k q.keys in
        let same : length (put_row record_key same_record k q.keys) ≡ length q.keys + 0 = rw (a.each (record_key k) there) at e in
        omega arith

unchanged : (new : ℕ) (p q : Party) → KeysAlike new p q → length q.keys ≤ new + 0 + length p.keys
unchanged new p q a = let many : length q.keys ≤ new + length p.keys = a.many in omega arith

-- what is known behind an edit, and where it is left out
keys_stay : (new : ℕ) (p : Party) (e : Edit) (q : Party) → drops_keys e ≡ false → KeysAlike new p q → KeysAlike (new + new_keys p e) p (apply_edit e q)
keys_stay new p (Begin own role generator) q h a = cc
keys_stay new p (PutLink l) q h a = record { many = unchanged new p q a; each = a.each }
keys_stay new p (PutKey k) q h a = put_key_alike new p q k a
keys_stay new p (PutExchange e) q h a = record { many = unchanged new p q a; each = a.each }
keys_stay new p (DropLink peer label side) q h a = record { many = unchanged new p q a; each = a.each }
keys_stay new p DropEnded q h a = cc
keys_stay new p (DropExchange peer) q h a = record { many = unchanged new p q a; each = a.each }
keys_stay new p (PutAnswer x) q h a = record { many = unchanged new p q a; each = a.each }
keys_stay new p (SetGen v) q h a = record { many = unchanged new p q a; each = a.each }

keys_left : (new more : ℕ) (p q : Party) → KeysAlike new p q → KeysAlike (new + more) p q
keys_left new more p q a = let many : length q.keys ≤ new + length p.keys = a.many in record { many = omega arith; each = a.each }

links_unmoved : (a b c : Bool) → (not (b && a) && c) ≡ true → b ≡ true → a ≡ false
links_unmoved true true c h i = cc
links_unmoved false true c h i = refl
links_unmoved a false c h i = cc

not_moved : (a b c : Bool) → (not (a && b) && c) ≡ true → b ≡ true → a ≡ false
not_moved true true c h i = cc
not_moved true false c h i = cc
not_moved false b c h i = refl

second : (a b : Bool) → (a && b) ≡ true → b ≡ true
second true b h = h
second false b h = cc

stays : (new : ℕ) (p : Party) (f : Edit → Bool) (es : List Edit) (q : Party) → AllKeepableBehind new p es → puts_first p es ≡ true → (list_any puts_link es ≡ true → LinksAlike p q) → (list_any puts_key es ≡ true → KeysAlike new p q) → IsWithinLimits q → StaysWithinLimits (filter f es) q
stays new p f [] q t order ls ks w = tt
stays new p f (e ∷ es) q t order ls ks w =
    let more : ℕ = new + new_keys p e in
    let rest : puts_first p es ≡ true = second _ _ (second (not (list_any puts_link es && moves_links p e)) _ order) in
    let kept : IsWithinLimits (apply_edit e q) = limits_edit new p q e t.0 (λ h. ls (ahead (puts_link e) (list_any puts_link es) h)) (λ h. ks (ahead (puts_key e) (list_any puts_key es) h)) w in
    go (f e) kept
    (stays more p f es (apply_edit e q) t.1 rest
    (λ h. links_stay p e q (links_unmoved (moves_links p e) (list_any puts_link es) _ order h) (ls (behind (puts_link e) (list_any puts_link es) h)))
    (λ h. keys_stay new p e q (not_moved (drops_keys e) (list_any puts_key es) (puts_first p es) (second (not (list_any puts_link es && moves_links p e)) _ order) h) (ks (behind (puts_key e) (list_any puts_key es) h)))
    kept)
    (stays more p f es q t.1 rest (λ h. ls (behind (puts_link e) (list_any puts_link es) h)) (λ h. keys_left new (new_keys p e) p q (ks (behind (puts_key e) (list_any puts_key es) h))) w)
  where
    go : (b : Bool) → IsWithinLimits (apply_edit e q) → StaysWithinLimits (filter f es) (apply_edit e q) → StaysWithinLimits (filter f es) q → StaysWithinLimits (cond b (e ∷ filter f es) (filter f es)) q
    go true kept after without = (kept, after)
    go false kept after without = without

-- each edit that can be kept fits, and begins no party

fits : (new : ℕ) (p : Party) (e : Edit) → IsKeepableBehind new p e → IsFitting e
fits new p (Begin own role generator) t = absurd t
fits new p (PutLink l) t = t.0
fits new p (PutKey k) t = tt
fits new p (PutExchange e) t = t
fits new p (DropLink peer label side) t = tt
fits new p DropEnded t = tt
fits new p (DropExchange peer) t = tt
fits new p (PutAnswer a) t = tt
fits new p (SetGen v) t = tt

goes_on : (new : ℕ) (p : Party) (e : Edit) → IsKeepableBehind new p e → IsNoBegin e
goes_on new p (Begin own role generator) t = absurd t
goes_on new p (PutLink l) t = tt
goes_on new p (PutKey k) t = tt
goes_on new p (PutExchange e) t = tt
goes_on new p (DropLink peer label side) t = tt
goes_on new p DropEnded t = tt
goes_on new p (DropExchange peer) t = tt
goes_on new p (PutAnswer a) t = tt
goes_on new p (SetGen v) t = tt

all_fit : (new : ℕ) (p : Party) (es : List Edit) → AllKeepableBehind new p es → AllByRecursion IsFitting es
all_fit new p [] t = tt
all_fit new p (e ∷ es) t = (fits new p e t.0, all_fit (new + new_keys p e) p es t.1)

all_go_on : (new : ℕ) (p : Party) (es : List Edit) → AllKeepableBehind new p es → AllByRecursion IsNoBegin es
all_go_on new p [] t = tt
all_go_on new p (e ∷ es) t = (goes_on new p e t.0, all_go_on (new + new_keys p e) p es t.1)

-- the edits of a row that differ can be kept
pub storable : (p : Party) (es : List Edit) → AreKeepable p es → length es ≤ 9 → IsStorable p (differing p es)
unfolding differing
storable p es t few = record {
  few = omega (arith, length_filter_most (differs p) es);
  goes_on = All-filter (differs p) IsNoBegin es (All-from_recursion IsNoBegin es (all_go_on 0 p es t.each));
  fitting = All-filter (differs p) IsFitting es (All-from_recursion IsFitting es (all_fit 0 p es t.each));
  within = λ w. stays 0 p (differs p) es p t.each t.order (λ h. record { many = refl; each = λ k s. s }) (λ h. record { many = omega arith; each = λ k s. s }) w;
}
