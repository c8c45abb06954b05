-- The links that lines load at a party, in the order of the lines.
use Rattle.std.proofs.Common.{◌≡◌, ◌⊎◌, inl, inr, ℕ, ◌+◌, ◌<◌, ◌≤◌, Bool, true, false, cond, not, List, [], ◌∷◌, ◌++◌, length, get_or, take, drop, Option, Some, None, bytes_eq, refl, sym, ◌∙◌, ap, arith, append_assoc, take-append-drop}
use Rattle.std.specs.Prelude.{◌&&◌, ◌||◌, nat_lt, count_by, codes, option_to_list}
use Rattle.std.specs.List.{filter_map, cons_option, list_all, list_any}
use Rattle.std.proofs.lemmas.Bool.{and_parts, or_left, or_right, ltb-true}
use Rattle.std.proofs.lemmas.List.{take_at, take_more, drop_more, append-nil}
use Rattle.std.proofs.lemmas.List.Elements.{filter_map-append}
use Rattle.std.proofs.lemmas.List.Sums.{sum_by-cons}
use Rattle.std.proofs.lemmas.Slice.Eq.{bytes_eq-Decides}
use Rattle.x_mac.specs.declared.pair.Pair.{Pair}
use Rattle.party_tables.specs.declared.link.LinkRec.{LinkRec}
use Rattle.party_tables.specs.Keys.{same_link, link_key}
use Rattle.party_tables.specs.Tables.{put_row}
use Rattle.scenario.specs.declared.line.Line.{Line}
use Rattle.scenario.specs.declared.line.Line.TheVariants as line
use Rattle.scenario.specs.Behind.{EachBehind}
use Rattle.scenario.specs.Rules.{is_end, is_centre, is_declared, is_party_or_link, both_or_neither, ends, same_ends, loaded, odd_pair, same_two, may_load, may_follow}
use Rattle.member.specs.Member.{Member}
use Rattle.course.specs.Starts.{load_at, loads_of, with_load, with_loads}
use Rattle.open_parties.proofs.Members.{cond_yes, cond_not, same_yes}

pub own_stays : (x : Member) (ls : List LinkRec) → (with_loads x ls).party.own ≡ x.party.own
own_stays x [] = refl
own_stays x (l ∷ ls) = own_stays (with_load x l) ls

pub loads_append : (x : Member) (ls ks : List LinkRec) → with_loads x (ls ++ ks) ≡ with_loads (with_loads x ls) ks
loads_append x [] ks = refl
loads_append x (l ∷ ls) ks = loads_append (with_load x l) ls ks

pub put_longer : (l : LinkRec) (rows : List LinkRec) → length (put_row link_key same_link l rows) ≤ length rows + 1
put_longer l [] = omega arith
put_longer l (r ∷ rows) = go (same_link (link_key l) (link_key r)) refl (put_longer l rows)
  where
    go : (t : Bool) → same_link (link_key l) (link_key r) ≡ t → length (put_row link_key same_link l rows) ≤ length rows + 1 → length (put_row link_key same_link l (r ∷ rows)) ≤ length (r ∷ rows) + 1
    go true is rest = let e = ap length (cond_yes (same_link (link_key l) (link_key r)) (l ∷ rows) (r ∷ put_row link_key same_link l rows) is) in omega (arith, e)
    go false is rest = let e = ap length (cond_not (same_link (link_key l) (link_key r)) (l ∷ rows) (r ∷ put_row link_key same_link l rows) is) in omega (arith, e, rest)

-- ---- a list with one more line

split_at : {X : Type 0} (xs : List X) (i : ℕ) (x : X) → i < length xs → x ≡ get_or xs i x → xs ≡ take i xs ++ x ∷ drop (i + 1) xs
split_at xs i x lt is =
    sym (take-append-drop i xs) ∙ ap (λ (l : List _). take i xs ++ l) (drop_more xs i x lt ∙ ap (λ (y : _). y ∷ drop (i + 1) xs) (sym is))

pub split_lines : (lines : List Line) (i : ℕ) (l : Line) → i < length lines → l ≡ get_or lines i l → lines ≡ take i lines ++ l ∷ drop (i + 1) lines
split_lines lines i l lt is = split_at lines i l lt is

pub front_more : (lines : List Line) (i : ℕ) (l : Line) → i < length lines → l ≡ get_or lines i l → take (i + 1) lines ≡ take i lines ++ l ∷ []
front_more lines i l lt is = take_more lines i l lt ∙ ap (λ (y : Line). take i lines ++ y ∷ []) (sym is)

pub more_of : {Y : Type 0} (h : Line → Option Y) (lines : List Line) (i : ℕ) (l : Line) → i < length lines → l ≡ get_or lines i l → filter_map h (take (i + 1) lines) ≡ filter_map h (take i lines) ++ option_to_list (h l)
more_of h lines i l lt is =
    ap (filter_map h) (front_more lines i l lt is) ∙ (filter_map-append h (take i lines) (l ∷ []) ∙ ap (λ (ys : List _). filter_map h (take i lines) ++ ys) (one (h l)))
  where
    one : {Y : Type 0} (o : Option Y) → cons_option o [] ≡ option_to_list o
    one None = refl
    one (Some k) = refl

pub loads_more : (own : List ℕ) (lines : List Line) (i : ℕ) (l : Line) → i < length lines → l ≡ get_or lines i l → loads_of own (take (i + 1) lines) ≡ loads_of own (take i lines) ++ option_to_list (load_at own l)
loads_more own lines i l lt is = more_of (load_at own) lines i l lt is

-- the loads of the lines so far are the first of all
pub first_loads : (own : List ℕ) (lines : List Line) (i : ℕ) → take (length (loads_of own (take i lines))) (loads_of own lines) ≡ loads_of own (take i lines)
first_loads own lines i =
    ap (λ (ls : List LinkRec). take (length (loads_of own (take i lines))) ls) (ap (loads_of own) (sym (take-append-drop i lines)) ∙ filter_map-append (load_at own) (take i lines) (drop i lines))
    ∙ take_at (loads_of own (take i lines)) (loads_of own (drop i lines)) (length (loads_of own (take i lines))) refl

-- ---- how many there are

record LoadsAt (own origin recipient : List ℕ) (l : LinkRec) : Type 0 where
  at : (own ≡ origin) ⊎ (own ≡ recipient)
  next : l.next ≡ 1

-- a line that loads a link has the party at one end
loads_at : (own origin recipient label : List ℕ) (pair : Pair) (l : LinkRec) → load_at own (line.Link origin recipient label pair) ≡ Some l → LoadsAt own origin recipient l
loads_at own origin recipient label pair l is = go (bytes_eq own origin) (bytes_eq own recipient) refl refl
  where
    go : (s t : Bool) → bytes_eq own origin ≡ s → bytes_eq own recipient ≡ t → LoadsAt own origin recipient l
    go true t sends takes = record {
      at = inl ((bytes_eq-Decides own origin).0 sends);
      next = let e = sym (cond_yes (bytes_eq own origin) _ _ sends) ∙ is in cc e;
    }
    go false true sends takes = record {
      at = inr ((bytes_eq-Decides own recipient).0 takes);
      next = let e = sym (cond_not (bytes_eq own origin) _ _ sends ∙ cond_yes (bytes_eq own recipient) _ _ takes) ∙ is in cc e;
    }
    go false false sends takes = let e = sym (cond_not (bytes_eq own origin) _ _ sends ∙ cond_not (bytes_eq own recipient) _ _ takes) ∙ is in absurd (cc e)

is_end_of : (own origin recipient label : List ℕ) (pair : Pair) → (own ≡ origin) ⊎ (own ≡ recipient) → is_end own (line.Link origin recipient label pair) ≡ true
is_end_of own origin recipient label pair (inl same) = or_left (bytes_eq origin own) (bytes_eq recipient own) (same_yes origin own (sym same))
is_end_of own origin recipient label pair (inr same) = or_right (bytes_eq origin own) (bytes_eq recipient own) (same_yes recipient own (sym same))

load_ends : (own : List ℕ) (x : Line) (l : LinkRec) → load_at own x ≡ Some l → is_end own x ≡ true
load_ends own (line.Link origin recipient label pair) l is = is_end_of own origin recipient label pair (loads_at own origin recipient label pair l is).at
load_ends own x l is = absurd (cc is)

-- at most one for each line that has the party at one end
pub few_loads : (own : List ℕ) (lines : List Line) → length (loads_of own lines) ≤ count_by (is_end own) lines
few_loads own [] = omega arith
few_loads own (x ∷ lines) =
    let e = sum_by-cons (λ (y : Line). cond (is_end own y) 1 0) x lines in
    go (load_at own x) refl e (few_loads own lines)
  where
    go : (o : Option LinkRec) → load_at own x ≡ o → count_by (is_end own) (x ∷ lines) ≡ cond (is_end own x) 1 0 + count_by (is_end own) lines → length (loads_of own lines) ≤ count_by (is_end own) lines
        → length (loads_of own (x ∷ lines)) ≤ count_by (is_end own) (x ∷ lines)
    go None is e rest = let s = ap (λ (o : Option LinkRec). length (cons_option o (loads_of own lines))) is in omega (arith, s, e, rest)
    go (Some l) is e rest =
        let s = ap (λ (o : Option LinkRec). length (cons_option o (loads_of own lines))) is in
        let one = cond_yes {T = ℕ} (is_end own x) 1 0 (load_ends own x l is) in
        omega (arith, s, e, rest, one)

record HasFewLoads (before : List Line) (origin recipient : List ℕ) : Type 0 where
  origin_few : count_by (is_end origin) before < 64
  recipient_few : count_by (is_end recipient) before < 64

few_at : (before : List Line) (origin recipient label : List ℕ) (pair : Pair) → may_load before origin recipient label pair ≡ true → HasFewLoads before origin recipient
few_at before origin recipient label pair may =
    let a = (and_parts (list_all is_party_or_link before) _ may).1 in
    let b = (and_parts (is_declared before origin && is_declared before recipient) _ a).1 in
    let c = (and_parts (not (bytes_eq origin recipient)) _ b).1 in
    let d = (and_parts (both_or_neither (bytes_eq label (codes "C")) (is_centre before origin || is_centre before recipient)) _ c).1 in
    let e = (and_parts (not (list_any (same_two (odd_pair pair)) (filter_map loaded before))) _ d).1 in
    let f = (and_parts (not (list_any (same_ends (origin, recipient, label)) (filter_map ends before))) _ e).1 in
    let g = and_parts (nat_lt (count_by (is_end origin) before) 64) (nat_lt (count_by (is_end recipient) before) 64) f in
    record { origin_few = ltb-true _ _ g.0; recipient_few = ltb-true _ _ g.1 }

-- a line that loads a link finds fewer than 64 loaded before
pub few_before : (own : List ℕ) (before : List Line) (x : Line) (l : LinkRec) → may_follow before x ≡ true → load_at own x ≡ Some l → length (loads_of own before) < 64
few_before own before (line.Link origin recipient label pair) l may is = go (loads_at own origin recipient label pair l is).at (few_at before origin recipient label pair may) (few_loads own before)
  where
    go : (own ≡ origin) ⊎ (own ≡ recipient) → HasFewLoads before origin recipient → length (loads_of own before) ≤ count_by (is_end own) before → length (loads_of own before) < 64
    go (inl same) few most = let e = ap (λ (o : List ℕ). count_by (is_end o) before) same in omega (arith, e, few.origin_few, most)
    go (inr same) few most = let e = ap (λ (o : List ℕ). count_by (is_end o) before) same in omega (arith, e, few.recipient_few, most)
few_before own before x l may is = absurd (cc is)

-- a line that loads a link has parties and links alone before it
heads_before : (own : List ℕ) (before : List Line) (x : Line) (l : LinkRec) → may_follow before x ≡ true → load_at own x ≡ Some l → list_all is_party_or_link before ≡ true
heads_before own before (line.Link origin recipient label pair) l may is = (and_parts (list_all is_party_or_link before) _ may).0
heads_before own before x l may is = absurd (cc is)

head_of_load : (own : List ℕ) (x : Line) (l : LinkRec) → load_at own x ≡ Some l → is_party_or_link x ≡ true
head_of_load own (line.Link origin recipient label pair) l is = refl
head_of_load own x l is = absurd (cc is)

spoilt : (front back : List Line) (x : Line) → is_party_or_link x ≡ false → list_all is_party_or_link (front ++ x ∷ back) ≡ true → ⊥
spoilt [] back x event all = let both : true ≡ false = sym (and_parts (is_party_or_link x) _ all).0 ∙ event in cc both
spoilt (y ∷ front) back x event all = spoilt front back x event (and_parts (is_party_or_link y) _ all).1

-- behind a line that declares and loads nothing, nothing is loaded
none_behind : (own : List ℕ) (lines front : List Line) (x : Line) (mid rest : List Line) → EachBehind may_follow lines → lines ≡ (front ++ x ∷ mid) ++ rest → is_party_or_link x ≡ false → loads_of own rest ≡ []
none_behind own lines front x mid [] rules is event = refl
none_behind own lines front x mid (y ∷ rest) rules is event =
    go (load_at own y) refl (none_behind own lines front x (mid ++ y ∷ []) rest rules
    (is ∙ (sym (append_assoc (front ++ x ∷ mid) (y ∷ []) rest) ∙ ap (λ (ls : List Line). ls ++ rest) (append_assoc front (x ∷ mid) (y ∷ [])))) event)
  where
    go : (o : Option LinkRec) → load_at own y ≡ o → loads_of own rest ≡ [] → loads_of own (y ∷ rest) ≡ []
    go None at none = ap (λ (o : Option LinkRec). cons_option o (loads_of own rest)) at ∙ none
    go (Some l) at none = absurd (spoilt front mid x event (heads_before own (front ++ x ∷ mid) y l (rules (front ++ x ∷ mid) rest y is) at))

-- so all is loaded before the first such line
pub all_loaded : (own : List ℕ) (lines : List Line) (i : ℕ) (x : Line) → EachBehind may_follow lines → i < length lines → x ≡ get_or lines i x → is_party_or_link x ≡ false → loads_of own (take i lines) ≡ loads_of own lines
all_loaded own lines i x rules lt is event =
    let split = split_lines lines i x lt is in
    let behind = none_behind own lines (take i lines) x [] (drop (i + 1) lines) rules (split ∙ sym (append_assoc (take i lines) (x ∷ []) (drop (i + 1) lines))) event in
    sym (ap (loads_of own) split ∙ (filter_map-append (load_at own) (take i lines) (x ∷ drop (i + 1) lines) ∙ (ap (λ (ls : List LinkRec). loads_of own (take i lines) ++ ls) (here behind (load_at own x) refl) ∙ append-nil (loads_of own (take i lines)))))
  where
    here : loads_of own (drop (i + 1) lines) ≡ [] → (o : Option LinkRec) → load_at own x ≡ o → cons_option (load_at own x) (loads_of own (drop (i + 1) lines)) ≡ []
    here none None at = ap (λ (o : Option LinkRec). cons_option o (loads_of own (drop (i + 1) lines))) at ∙ none
    here none (Some l) at = let both : true ≡ false = sym (head_of_load own x l at) ∙ event in absurd (cc both)

pub follows : (lines : List Line) (i : ℕ) (l : Line) → EachBehind may_follow lines → i < length lines → l ≡ get_or lines i l → may_follow (take i lines) l ≡ true
follows lines i l rules lt is = rules (take i lines) (drop (i + 1) lines) l (split_lines lines i l lt is)
