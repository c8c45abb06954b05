-- The tables answer what the lines before say.
use Rattle.std.proofs.Common.{◌≡◌, ℕ, ◌+◌, Bool, true, false, List, [], ◌∷◌, ◌++◌, Option, Some, None, cond, not, count_by, refl, sym, ap, subst, ◌∙◌, arith, true≢false, eq-eqb, bytes_eq, option_map, append-nil}
use Rattle.std.specs.Prelude.{◌&&◌, ◌||◌, codes, nat_lt, unwrap_or}
use Rattle.std.specs.Cmp.Lexicographic.{bytes_decides}
use Rattle.std.specs.List.{filter_map, list_all, list_any, cons_option}
use Rattle.std.specs.Map.{lookup}
use Rattle.std.proofs.lemmas.Bool.{and_from, and_parts, not-true}
use Rattle.std.proofs.lemmas.List.Elements.{filter_map-append}
use Rattle.std.proofs.lemmas.List.Folds.{list_all-append}
use Rattle.std.proofs.lemmas.List.Sums.{sum_by_push}
use Rattle.indexmap.specs.IndexMap.{insert_entry}
use Rattle.indexmap.specs.IndexSet.{insert_key}
use Rattle.indexmap.proofs.CallerLemmas.{insert_entry-new}
use Rattle.x_base.specs.Ident.{expanded}
use Rattle.x_base.specs.declared.party.Role.{Role}
use Rattle.x_mac.specs.declared.pair.Pair.{Pair}
use Rattle.scenario.specs.declared.draft.Draft.{Draft}
use Rattle.scenario.specs.declared.line.Line.{Line}
use Rattle.scenario.specs.declared.line.Line.TheVariants as line
use Rattle.scenario.specs.declared.tables.Tables.{Tables}
use Rattle.scenario.specs.Behind.{EachBehind}
use Rattle.scenario.specs.Rules.{both_or_neither, declared, ends, expansion, is_centre, is_declared, is_end, is_party, is_party_or_link, loaded, may_declare, may_follow, may_load, odd_pair, same_ends, same_two}
use Rattle.scenario.specs.Tables.{IsDraft, IsNoted, Mirrors, NotesLink, NotesParty, lets_follow, loads_in}
use Rattle.scenario.proofs.Judging.{more_behind}

-- ---- what they tell

pub follows_alike : (t : Tables) (lines : List Line) (l : Line) → Mirrors t lines → lets_follow t l ≡ may_follow lines l
follows_alike t lines (line.Party name role pair v) m = rw (m.only_parties, m.parties, m.expansions) refl
follows_alike t lines (line.Link origin recipient label pair) m =
    rw (m.only_set_up, m.parties, m.pairs, m.ends, m.loads origin, m.loads recipient) refl
follows_alike t lines (line.Time moment) m = refl
follows_alike t lines (line.Start party peer label) m = rw m.parties refl
follows_alike t lines (line.StartKk party peer label new single) m = rw m.parties refl
follows_alike t lines (line.Ask party peer ultimate) m = rw m.parties refl
follows_alike t lines (line.Translate party centre ultimate) m = rw m.parties refl
follows_alike t lines (line.Resend party peer) m = rw m.parties refl
follows_alike t lines (line.End party peer name) m = rw m.parties refl
follows_alike t lines (line.Drop party peer) m = rw m.parties refl
follows_alike t lines (line.Purge party) m = rw m.parties refl
follows_alike t lines (line.Pass k party) m = rw m.parties refl
follows_alike t lines (line.Recent j) m = refl
follows_alike t lines (line.Bytes party bytes) m = rw m.parties refl
follows_alike t lines (line.Stop n choice) m = refl

-- ---- one more line

and_true : (b : Bool) → (b && true) ≡ b
and_true true = refl
and_true false = refl

and_false : (b : Bool) → (b && false) ≡ false
and_false true = refl
and_false false = refl

module _ {A : Type 0} (p : A → Bool) (xs : List A) (x : A) where
  all_more : p x ≡ true → list_all p (xs ++ x ∷ []) ≡ list_all p xs
  all_more h = list_all-append p xs (x ∷ []) ∙ rw h (and_true (list_all p xs))

  all_no_more : p x ≡ false → list_all p (xs ++ x ∷ []) ≡ false
  all_no_more h = list_all-append p xs (x ∷ []) ∙ rw h (and_false (list_all p xs))

  count_more : count_by p (xs ++ x ∷ []) ≡ count_by p xs + cond (p x) 1 0
  count_more = sum_by_push (λ y. cond (p y) 1 0) xs x

  count_no_more : p x ≡ false → count_by p (xs ++ x ∷ []) ≡ count_by p xs
  count_no_more h = count_more ∙ rw h (omega arith)

module _ {A B : Type 0} (f : A → Option B) (xs : List A) (x : A) where
  map_more : (y : B) → f x ≡ Some y → filter_map f (xs ++ x ∷ []) ≡ filter_map f xs ++ y ∷ []
  map_more y h = filter_map-append f xs (x ∷ []) ∙ ap (λ o. filter_map f xs ++ cons_option o []) h

  map_no_more : f x ≡ None → filter_map f (xs ++ x ∷ []) ≡ filter_map f xs
  map_no_more h = filter_map-append f xs (x ∷ []) ∙ ap (λ o. filter_map f xs ++ cons_option o []) h ∙ append-nil (filter_map f xs)

insert_new : {A : Type 0} (eq : A → A → Bool) (ks : List A) (k : A) → list_any (eq k) ks ≡ false → insert_key eq ks k ≡ ks ++ k ∷ []
insert_new eq ks k h = rw h refl

-- ---- counts by name

abbrev Counts : Type 0
Counts = List (List ℕ × ℕ)

abbrev count_in : Counts → List ℕ → ℕ
count_in es name = unwrap_or (lookup (bytes_eq name) es) 0

same : (x y : List ℕ) → bytes_eq x y ≡ true → x ≡ y
same x y h = (bytes_decides x y).0 h

apart : (x y : List ℕ) → bytes_eq x y ≡ false → ¬ (x ≡ y)
apart x y h e = true≢false (sym ((bytes_decides x y).1 e) ∙ h)

put_first : (k q : List ℕ) (v : ℕ) (b c : Bool) → bytes_eq q k ≡ b → bytes_eq k q ≡ c → count_in ((k, v) ∷ []) q ≡ cond (bytes_eq k q) v 0
put_first k q v true true eb ec = rw (eb, ec) refl
put_first k q v false false eb ec = rw (eb, ec) refl
put_first k q v true false eb ec = absurd (apart k q ec (sym (same q k eb)))
put_first k q v false true eb ec = absurd (apart q k eb (sym (same k q ec)))

put_step : (k q : List ℕ) (v : ℕ) (e : List ℕ × ℕ) (es : Counts) (a b c : Bool) → bytes_eq k e.0 ≡ a → bytes_eq q e.0 ≡ b → bytes_eq k q ≡ c
    → count_in (insert_entry bytes_eq es k v) q ≡ cond (bytes_eq k q) v (count_in es q)
    → count_in (insert_entry bytes_eq (e ∷ es) k v) q ≡ cond (bytes_eq k q) v (count_in (e ∷ es) q)
put_step k q v e es true true true ea eb ec next = rw (ea, eb, ec) refl
put_step k q v e es true true false ea eb ec next = absurd (apart k q ec (same k e.0 ea ∙ sym (same q e.0 eb)))
put_step k q v e es true false true ea eb ec next = absurd (apart q e.0 eb (sym (same k q ec) ∙ same k e.0 ea))
put_step k q v e es true false false ea eb ec next = rw (ea, eb, ec) refl
put_step k q v e es false true true ea eb ec next = absurd (apart k e.0 ea (same k q ec ∙ same q e.0 eb))
put_step k q v e es false true false ea eb ec next = rw (ea, eb, ec) refl
put_step k q v e es false false c ea eb ec next = rw (ea, eb) next

put : (es : Counts) (k q : List ℕ) (v : ℕ) → count_in (insert_entry bytes_eq es k v) q ≡ cond (bytes_eq k q) v (count_in es q)
put [] k q v = put_first k q v (bytes_eq q k) (bytes_eq k q) refl refl
put (e ∷ es) k q v = put_step k q v e es (bytes_eq k e.0) (bytes_eq q e.0) (bytes_eq k q) refl refl refl (put es k q v)

-- both are counted once more
counted : (es : Counts) (o r q : List ℕ) → count_in (insert_entry bytes_eq (insert_entry bytes_eq es o (count_in es o + 1)) r (count_in es r + 1)) q ≡ count_in es q + cond (bytes_eq o q || bytes_eq r q) 1 0
counted es o r q = put (insert_entry bytes_eq es o (count_in es o + 1)) r q (count_in es r + 1) ∙ by (bytes_eq o q) (bytes_eq r q) refl refl
  where
    by : (a b : Bool) → bytes_eq o q ≡ a → bytes_eq r q ≡ b
        → cond (bytes_eq r q) (count_in es r + 1) (count_in (insert_entry bytes_eq es o (count_in es o + 1)) q) ≡ count_in es q + cond (bytes_eq o q || bytes_eq r q) 1 0
    by true true ea eb = rw (ea, eb) (ap (λ n. count_in es n + 1) (same r q eb))
    by false true ea eb = rw (ea, eb) (ap (λ n. count_in es n + 1) (same r q eb))
    by true false ea eb = rw (ea, eb) (rw ea at (put es o q (count_in es o + 1)) ∙ ap (λ n. count_in es n + 1) (same o q ea))
    by false false ea eb = rw (ea, eb) (rw ea at (put es o q (count_in es o + 1)) ∙ omega arith)

-- ---- a party that expands like none has the name of none

same_two_same : (a : ℕ × ℕ) → same_two a a ≡ true
same_two_same a = and_from _ _ (eq-eqb a.0 a.0 refl) (eq-eqb a.1 a.1 refl)

absent_step : (name : List ℕ) (d : Option (List ℕ × Role)) (ps : List (List ℕ × Role)) (es : List (ℕ × ℕ))
    → (list_any (same_two (expanded name)) es ≡ false → lookup (bytes_eq name) ps ≡ None)
    → list_any (same_two (expanded name)) (cons_option (option_map (λ (p : List ℕ × Role). expanded p.0) d) es) ≡ false
    → lookup (bytes_eq name) (cons_option d ps) ≡ None
absent_step name None ps es next h = next h
absent_step name (Some p) ps es next h = by (same_two (expanded name) (expanded p.0)) (bytes_eq name p.0) refl refl
  where
    by : (s b : Bool) → same_two (expanded name) (expanded p.0) ≡ s → bytes_eq name p.0 ≡ b → lookup (bytes_eq name) (p ∷ ps) ≡ None
    by true b u w = absurd (true≢false (sym (rw u refl) ∙ h))
    by false true u w = absurd (
        let same : name ≡ p.0 = (bytes_decides name p.0).0 w in
        true≢false (sym (same_two_same (expanded name)) ∙ ap (λ n. same_two (expanded name) (expanded n)) same ∙ u))
    by false false u w = rw w (next (rw u at h))

pub absent : (name : List ℕ) (lines : List Line) → list_any (same_two (expanded name)) (filter_map expansion lines) ≡ false
    → lookup (bytes_eq name) (filter_map declared lines) ≡ None
absent name [] h = refl
absent name (l ∷ lines) h = absent_step name (declared l) (filter_map declared lines) (filter_map expansion lines) (absent name lines) h

-- ---- the tables behind one more line

noted_party : (old new : Tables) (lines : List Line) (name : List ℕ) (role : Role) (pair : Pair) (v : ℕ) → Mirrors old lines
    → may_declare lines name ≡ true → NotesParty old new name role → Mirrors new (lines ++ line.Party name role pair v ∷ [])
noted_party old new lines name role pair v m ok n =
    let l : Line = line.Party name role pair v in
    let alone : list_any (same_two (expanded name)) (filter_map expansion lines) ≡ false = not-true (list_any (same_two (expanded name)) (filter_map expansion lines)) (and_parts _ _ (and_parts _ _ ok).1).1 in
    let none : lookup (bytes_eq name) old.parties.entries ≡ None = rw m.parties (absent name lines alone) in
    let new_key : list_any (same_two (expanded name)) old.expansions.keys ≡ false = rw m.expansions alone in
    record {
      only_parties = ap (λ (t : Tables). t.only_parties) n.others ∙ m.only_parties ∙ sym (all_more is_party lines l refl);
      only_set_up = ap (λ (t : Tables). t.only_set_up) n.others ∙ m.only_set_up ∙ sym (all_more is_party_or_link lines l refl);
      parties = n.parties ∙ insert_entry-new bytes_eq old.parties name role none
          ∙ ap (λ es. es ++ (name, role) ∷ []) m.parties ∙ sym (map_more declared lines l (name, role) refl);
      expansions = n.expansions ∙ insert_new same_two old.expansions.keys (expanded name) new_key
          ∙ ap (λ ks. ks ++ expanded name ∷ []) m.expansions ∙ sym (map_more expansion lines l (expanded name) refl);
      pairs = ap (λ (t : Tables). t.pairs.keys) n.others ∙ m.pairs ∙ sym (map_no_more loaded lines l refl);
      ends = ap (λ (t : Tables). t.ends.keys) n.others ∙ m.ends ∙ sym (map_no_more ends lines l refl);
      loads = λ q. ap (λ (t : Tables). loads_in t q) n.others ∙ m.loads q ∙ sym (count_no_more (is_end q) lines l refl);
    }

-- of seven tests that hold, the last three
last_three : (a b c d e f g : Bool) → (a && (b && (c && (d && (e && (f && g)))))) ≡ true → (e ≡ true) × (f ≡ true) × (g ≡ true)
last_three a b c d e f g h =
    let last = (and_parts d (e && (f && g)) (and_parts c (d && (e && (f && g))) (and_parts b (c && (d && (e && (f && g)))) (and_parts a (b && (c && (d && (e && (f && g))))) h).1).1).1).1 in
    let two = (and_parts e (f && g) last).1 in
    ((and_parts e (f && g) last).0, (and_parts f g two).0, (and_parts f g two).1)

noted_link : (old new : Tables) (lines : List Line) (o r label : List ℕ) (pair : Pair) → Mirrors old lines
    → may_load lines o r label pair ≡ true → NotesLink old new o r label pair → Mirrors new (lines ++ line.Link o r label pair ∷ [])
noted_link old new lines o r label pair m ok n =
    let l : Line = line.Link o r label pair in
    let parts = last_three (list_all is_party_or_link lines) (is_declared lines o && is_declared lines r) (not (bytes_eq o r))
    (both_or_neither (bytes_eq label (codes "C")) (is_centre lines o || is_centre lines r))
    (not (list_any (same_two (odd_pair pair)) (filter_map loaded lines))) (not (list_any (same_ends (o, r, label)) (filter_map ends lines)))
    (nat_lt (count_by (is_end o) lines) 64 && nat_lt (count_by (is_end r) lines) 64) ok in
    let apart_pairs : list_any (same_two (odd_pair pair)) (filter_map loaded lines) ≡ false = not-true (list_any (same_two (odd_pair pair)) (filter_map loaded lines)) parts.0 in
    let apart_ends : list_any (same_ends (o, r, label)) (filter_map ends lines) ≡ false = not-true (list_any (same_ends (o, r, label)) (filter_map ends lines)) parts.1 in
    let new_pair : list_any (same_two (odd_pair pair)) old.pairs.keys ≡ false = rw m.pairs apart_pairs in
    let new_ends : list_any (same_ends (o, r, label)) old.ends.keys ≡ false = rw m.ends apart_ends in
    record {
      only_parties = n.only_parties ∙ sym (all_no_more is_party lines l refl);
      only_set_up = n.only_set_up ∙ m.only_set_up ∙ sym (all_more is_party_or_link lines l refl);
      parties = n.parties ∙ m.parties ∙ sym (map_no_more declared lines l refl);
      expansions = n.expansions ∙ m.expansions ∙ sym (map_no_more expansion lines l refl);
      pairs = n.pairs ∙ insert_new same_two old.pairs.keys (odd_pair pair) new_pair
          ∙ ap (λ ks. ks ++ odd_pair pair ∷ []) m.pairs ∙ sym (map_more loaded lines l (odd_pair pair) refl);
      ends = n.ends ∙ insert_new same_ends old.ends.keys (o, r, label) new_ends
          ∙ ap (λ ks. ks ++ (o, r, label) ∷ []) m.ends ∙ sym (map_more ends lines l (o, r, label) refl);
      loads = λ q. ap (λ (es : Counts). count_in es q) n.loads ∙ counted old.loads.entries o r q
          ∙ ap (λ c. c + cond (bytes_eq o q || bytes_eq r q) 1 0) (m.loads q) ∙ sym (count_more (is_end q) lines l);
    }

noted_other : (old new : Tables) (lines : List Line) (l : Line) → Mirrors old lines → new ≡ record old { only_parties = false; only_set_up = false }
    → is_party_or_link l ≡ false → is_party l ≡ false → declared l ≡ None → loaded l ≡ None → ends l ≡ None → ((q : List ℕ) → is_end q l ≡ false)
    → Mirrors new (lines ++ l ∷ [])
noted_other old new lines l m n other_kind other no_party no_pair no_ends no_end = record {
  only_parties = ap (λ (t : Tables). t.only_parties) n ∙ sym (all_no_more is_party lines l other);
  only_set_up = ap (λ (t : Tables). t.only_set_up) n ∙ sym (all_no_more is_party_or_link lines l other_kind);
  parties = ap (λ (t : Tables). t.parties.entries) n ∙ m.parties ∙ sym (map_no_more declared lines l no_party);
  expansions = ap (λ (t : Tables). t.expansions.keys) n ∙ m.expansions ∙ sym (map_no_more expansion lines l (ap (option_map (λ (p : List ℕ × Role). expanded p.0)) no_party));
  pairs = ap (λ (t : Tables). t.pairs.keys) n ∙ m.pairs ∙ sym (map_no_more loaded lines l no_pair);
  ends = ap (λ (t : Tables). t.ends.keys) n ∙ m.ends ∙ sym (map_no_more ends lines l no_ends);
  loads = λ q. ap (λ (t : Tables). loads_in t q) n ∙ m.loads q ∙ sym (count_no_more (is_end q) lines l (no_end q));
}

noted : (old new : Tables) (lines : List Line) (l : Line) → Mirrors old lines → may_follow lines l ≡ true → IsNoted old new l → Mirrors new (lines ++ l ∷ [])
noted old new lines (line.Party name role pair v) m ok n = noted_party old new lines name role pair v m ok n
noted old new lines (line.Link origin recipient label pair) m ok n = noted_link old new lines origin recipient label pair m ok n
noted old new lines (line.Time moment) m ok n = noted_other old new lines (line.Time moment) m n refl refl refl refl refl (λ q. refl)
noted old new lines (line.Start party peer label) m ok n = noted_other old new lines (line.Start party peer label) m n refl refl refl refl refl (λ q. refl)
noted old new lines (line.StartKk party peer label new_label single) m ok n = noted_other old new lines (line.StartKk party peer label new_label single) m n refl refl refl refl refl (λ q. refl)
noted old new lines (line.Ask party peer ultimate) m ok n = noted_other old new lines (line.Ask party peer ultimate) m n refl refl refl refl refl (λ q. refl)
noted old new lines (line.Translate party centre ultimate) m ok n = noted_other old new lines (line.Translate party centre ultimate) m n refl refl refl refl refl (λ q. refl)
noted old new lines (line.Resend party peer) m ok n = noted_other old new lines (line.Resend party peer) m n refl refl refl refl refl (λ q. refl)
noted old new lines (line.End party peer name) m ok n = noted_other old new lines (line.End party peer name) m n refl refl refl refl refl (λ q. refl)
noted old new lines (line.Drop party peer) m ok n = noted_other old new lines (line.Drop party peer) m n refl refl refl refl refl (λ q. refl)
noted old new lines (line.Purge party) m ok n = noted_other old new lines (line.Purge party) m n refl refl refl refl refl (λ q. refl)
noted old new lines (line.Pass k party) m ok n = noted_other old new lines (line.Pass k party) m n refl refl refl refl refl (λ q. refl)
noted old new lines (line.Recent j) m ok n = noted_other old new lines (line.Recent j) m n refl refl refl refl refl (λ q. refl)
noted old new lines (line.Bytes party bytes) m ok n = noted_other old new lines (line.Bytes party bytes) m n refl refl refl refl refl (λ q. refl)
noted old new lines (line.Stop k choice) m ok n = noted_other old new lines (line.Stop k choice) m n refl refl refl refl refl (λ q. refl)

-- the draft with one more line
pub drafted : (d e : Draft) (l : Line) → IsDraft d → true ≡ may_follow d.lines.items l → IsNoted d.tables e.tables l
    → e.lines.items ≡ d.lines.items ++ l ∷ [] → IsDraft e
drafted d e l h ok n q = record {
  tables = subst (Mirrors e.tables) (sym q) (noted d.tables e.tables d.lines.items l h.tables (sym ok) n);
  rules = subst (EachBehind may_follow) (sym q) (more_behind may_follow d.lines.items l h.rules (sym ok));
}
