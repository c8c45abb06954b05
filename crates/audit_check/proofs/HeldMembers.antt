-- Members in their order, each found by its identity.
use Rattle.std.proofs.Common.{◌≡◌, ℕ, zero, suc, ◌+◌, ◌<◌, Bool, true, false, not, cond, nat_lt, map, List, [], ◌∷◌, ◌++◌, length, get_or, take, drop, Option, Some, None, slice_get, bytes_eq, refl, sym, ◌∙◌, ap, subst, arith, take-append-drop}
use Rattle.std.specs.Prelude.{position}
use Rattle.std.specs.List.{position_or_len, list_any}
use Rattle.indexmap.specs.IndexSet.{insert_key}
use Rattle.std.proofs.lemmas.Bool.{ltb-true, ltb-false}
use Rattle.std.proofs.lemmas.Slice.Eq.{bytes_eq-Decides}
use Rattle.std.proofs.lemmas.List.{take_all, drop_more, length-take-le, length-map}
use Rattle.party_tables.specs.Tables.{put_row}
use Rattle.member.specs.Member.{Member}
use Rattle.world_laws.specs.World.{own_of, member_at}
use Rattle.audit_check.specs.States.{IsPlaced, HoldsMembers}
use Rattle.audit_check.specs.declared.parties.Parties.{Parties}

pub cond_yes : {T : Type 0} (a : Bool) (x y : T) → a ≡ true → cond a x y ≡ x
cond_yes a x y is = rw is refl

pub cond_not : {T : Type 0} (a : Bool) (x y : T) → a ≡ false → cond a x y ≡ y
cond_not a x y is = rw is refl

pub map_at : {A B : Type 0} (f : A → B) (front : List A) (x : A) (back : List A) → map f (front ++ x ∷ back) ≡ map f front ++ f x ∷ map f back
map_at f [] x back = refl
map_at f (a ∷ front) x back = ap (λ (l : List _). f a ∷ l) (map_at f front x back)

-- ---- the member of a place

pub found : (own : List ℕ) (front : List Member) (x : Member) (back : List Member) → member_at own front ≡ None → x.party.own ≡ own → member_at own (front ++ x ∷ back) ≡ Some x
found own [] x back none is = cond_yes (bytes_eq own (own_of x)) (Some x) (member_at own back) ((bytes_eq-Decides own (own_of x)).1 (sym is))
found own (m ∷ front) x back none is = go (bytes_eq own (own_of m)) refl (λ (e : member_at own front ≡ None). found own front x back e is)
  where
    go : (t : Bool) → bytes_eq own (own_of m) ≡ t → (member_at own front ≡ None → member_at own (front ++ x ∷ back) ≡ Some x) → member_at own (m ∷ (front ++ x ∷ back)) ≡ Some x
    go true same rest = let lie : Some m ≡ None = sym (cond_yes (bytes_eq own (own_of m)) (Some m) (member_at own front) same) ∙ none in absurd (cc lie)
    go false other rest = cond_not (bytes_eq own (own_of m)) (Some m) (member_at own (front ++ x ∷ back)) other
        ∙ rest (sym (cond_not (bytes_eq own (own_of m)) (Some m) (member_at own front) other) ∙ none)

-- and after it is another one
pub put : (own : List ℕ) (front : List Member) (x y : Member) (back : List Member) → member_at own front ≡ None → x.party.own ≡ own → y.party.own ≡ own
    → put_row own_of bytes_eq y (front ++ x ∷ back) ≡ front ++ y ∷ back
put own [] x y back none is next = cond_yes (bytes_eq (own_of y) (own_of x)) (y ∷ back) (x ∷ put_row own_of bytes_eq y back) ((bytes_eq-Decides (own_of y) (own_of x)).1 (next ∙ sym is))
put own (m ∷ front) x y back none is next = go (bytes_eq own (own_of m)) refl (λ (e : member_at own front ≡ None). put own front x y back e is next)
  where
    go : (t : Bool) → bytes_eq own (own_of m) ≡ t → (member_at own front ≡ None → put_row own_of bytes_eq y (front ++ x ∷ back) ≡ front ++ y ∷ back) → put_row own_of bytes_eq y (m ∷ (front ++ x ∷ back)) ≡ m ∷ (front ++ y ∷ back)
    go true same rest = let lie : Some m ≡ None = sym (cond_yes (bytes_eq own (own_of m)) (Some m) (member_at own front) same) ∙ none in absurd (cc lie)
    go false other rest = cond_not (bytes_eq (own_of y) (own_of m)) (y ∷ (front ++ x ∷ back)) (m ∷ put_row own_of bytes_eq y (front ++ x ∷ back)) (ap (λ (o : List ℕ). bytes_eq o (own_of m)) next ∙ other)
        ∙ ap (λ (ms : List Member). m ∷ ms) (rest (sym (cond_not (bytes_eq own (own_of m)) (Some m) (member_at own front) other) ∙ none))

-- ---- the place that a table of the identities gives

record IsFirst (ms : List Member) (own : List ℕ) (place : ℕ) : Type 0 where
  none : member_at own (take place ms) ≡ None
  here : place < length ms → (x : Member) × (x ≡ get_or ms place x) × (x.party.own ≡ own)

first_of : (ms : List Member) (own : List ℕ) → IsFirst ms own (position_or_len (bytes_eq own) (map own_of ms))
first_of [] own = record { none = refl; here = λ lt. absurd (omega (arith, lt)) }
first_of (t ∷ ms) own = go (bytes_eq own (own_of t)) refl (first_of ms own)
  where
    go : (b : Bool) → bytes_eq own (own_of t) ≡ b → IsFirst ms own (position_or_len (bytes_eq own) (map own_of ms)) → IsFirst (t ∷ ms) own (position_or_len (bytes_eq own) (map own_of (t ∷ ms)))
    go true is rest = subst (IsFirst (t ∷ ms) own) (sym (ap (λ (b : Bool). cond (not b) (1 + position_or_len (bytes_eq own) (map own_of ms)) 0) is)) (record {
      none = refl;
      here = λ lt. (t, refl, sym ((bytes_eq-Decides own (own_of t)).0 is));
    })
    go false is rest =
        let one_more : position_or_len (bytes_eq own) (map own_of (t ∷ ms)) ≡ suc (position_or_len (bytes_eq own) (map own_of ms)) = ap (λ (b : Bool). cond (not b) (1 + position_or_len (bytes_eq own) (map own_of ms)) 0) is ∙ omega arith in
        subst (IsFirst (t ∷ ms) own) (sym one_more) (record {
          none = cond_not (bytes_eq own (own_of t)) (Some t) (member_at own (take (position_or_len (bytes_eq own) (map own_of ms)) ms)) is ∙ rest.none;
          here = λ lt. rest.here (omega (arith, lt));
        })

split_at : (ms : List Member) (i : ℕ) (x : Member) → i < length ms → x ≡ get_or ms i x → ms ≡ take i ms ++ x ∷ drop (i + 1) ms
split_at ms i x lt is = sym (take-append-drop i ms) ∙ ap (λ (l : List Member). take i ms ++ l) (drop_more ms i x lt ∙ ap (λ (y : Member). y ∷ drop (i + 1) ms) (sym is))

pub placed : (own : List ℕ) (ms : List Member) (place : ℕ) → position (bytes_eq own) (map own_of ms) ≡ Some place → (place < length ms) × IsPlaced own ms place
placed own ms place is = go (nat_lt (position_or_len (bytes_eq own) (map own_of ms)) (length (map own_of ms))) refl is
  where
    go : (b : Bool) → nat_lt (position_or_len (bytes_eq own) (map own_of ms)) (length (map own_of ms)) ≡ b → cond b (Some (position_or_len (bytes_eq own) (map own_of ms))) None ≡ Some place → (place < length ms) × IsPlaced own ms place
    go true lt at =
        let same : position_or_len (bytes_eq own) (map own_of ms) ≡ place = cc at in
        let first : IsFirst ms own place = subst (IsFirst ms own) same (first_of ms own) in
        let within : place < length ms = omega (arith, ltb-true _ _ lt, same, length-map ms own_of) in
        let h = first.here within in (
          within,
          record {
            front = take place ms;
            member = h.0;
            back = drop (place + 1) ms;
            split = split_at ms place h.0 within h.1;
            size = length-take-le place ms (omega (arith, within));
            none = first.none;
            own_is = h.2;
          },
        )
    go false lt at = absurd (cc at)

pub nowhere : (own : List ℕ) (ms : List Member) → position (bytes_eq own) (map own_of ms) ≡ None → member_at own ms ≡ None
nowhere own ms is = go (nat_lt (position_or_len (bytes_eq own) (map own_of ms)) (length (map own_of ms))) refl is
  where
    go : (b : Bool) → nat_lt (position_or_len (bytes_eq own) (map own_of ms)) (length (map own_of ms)) ≡ b → cond b (Some (position_or_len (bytes_eq own) (map own_of ms))) None ≡ None → member_at own ms ≡ None
    go true lt at = absurd (cc at)
    go false lt at = subst (λ (l : List Member). member_at own l ≡ None) (take_all (position_or_len (bytes_eq own) (map own_of ms)) ms (omega (arith, ltb-false _ _ lt, length-map ms own_of))) (first_of ms own).none

-- what is held at a place
there : (ms : List Member) (place : ℕ) (o : Option Member) → place < length ms → o ≡ get_or (map Some ms) place o → (x : Member) × (o ≡ Some x) × (slice_get ms place ≡ Some x)
there [] place o lt read = absurd (omega (arith, lt))
there (m ∷ ms) zero o lt read = (m, read, refl)
there (m ∷ ms) (suc place) o lt read = there ms place o (omega (arith, lt)) read

pub read_at : (p : Parties) (ms : List Member) (place : ℕ) (o : Option Member) → HoldsMembers p ms → place < length p.members_held.items → o ≡ get_or p.members_held.items place o → (x : Member) × (o ≡ Some x) × (slice_get ms place ≡ Some x)
read_at p ms place o is lt read =
    let long = ap length is.holds_each ∙ length-map ms Some in
    there ms place o (omega (arith, lt, long)) (read ∙ ap (λ (l : List (Option Member)). get_or l place o) is.holds_each)

-- one more
never_named : (own : List ℕ) (ms : List Member) → member_at own ms ≡ None → list_any (bytes_eq own) (map own_of ms) ≡ false
never_named own [] none = refl
never_named own (m ∷ ms) none = go (bytes_eq own (own_of m)) refl (never_named own ms)
  where
    go : (t : Bool) → bytes_eq own (own_of m) ≡ t → (member_at own ms ≡ None → list_any (bytes_eq own) (map own_of ms) ≡ false) → list_any (bytes_eq own) (map own_of (m ∷ ms)) ≡ false
    go true same rest = let lie : Some m ≡ None = sym (cond_yes (bytes_eq own (own_of m)) (Some m) (member_at own ms) same) ∙ none in absurd (cc lie)
    go false other rest = rw (other, rest (sym (cond_not (bytes_eq own (own_of m)) (Some m) (member_at own ms) other) ∙ none)) refl

pub held_more : (p q : Parties) (ms : List Member) (x : Member) → HoldsMembers p ms → member_at x.party.own ms ≡ None → q.names.keys ≡ insert_key bytes_eq p.names.keys x.party.own → q.members_held.items ≡ p.members_held.items ++ Some x ∷ [] → HoldsMembers q (ms ++ x ∷ [])
held_more p q ms x is none names members_held = record {
  named = names ∙ (ap (λ (ns : List (List ℕ)). insert_key bytes_eq ns x.party.own) is.named
      ∙ (cond_not (list_any (bytes_eq x.party.own) (map own_of ms)) (map own_of ms) (map own_of ms ++ x.party.own ∷ []) (never_named x.party.own ms none) ∙ sym (map_at own_of ms x [])));
  holds_each = members_held ∙ (ap (λ (l : List (Option Member)). l ++ Some x ∷ []) is.holds_each ∙ sym (map_at Some ms x []));
}
