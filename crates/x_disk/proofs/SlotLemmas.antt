-- The slots of a shelf in memory, by identity.
use Rattle.std.proofs.Common.{◌≡◌, ◌⊎◌, inl, inr, ⊎_elim, ℕ, ◌+◌, ◌<◌, if◌then◌else◌, Bool, true, false, List, [], ◌∷◌, ◌++◌, length, get_or, set, take, drop, Option, None, unwrap_or, bytes_eq, refl, sym, ◌∙◌, ap, subst, arith, take-append-drop}
use mathlib.Core.Logic.{◌≢◌}
use Rattle.std.proofs.lemmas.List.{set_at, get_or_at, append-nil, take_more, drop_more, length-take-le}
use Rattle.std.proofs.lemmas.Slice.Eq.{bytes_eq-Decides}
use Rattle.x_disk.specs.History.{History}
use Rattle.x_disk.specs.Slots.{fresh, disk_at, HasSlot, NoneOf, IsFirst, OthersSame, AllSame}
use Rattle.x_disk.specs.declared.slot.Slot.{Slot}

if_same : (a b : List ℕ) (x y : History) → a ≡ b → (if bytes_eq a b then x else y) ≡ x
if_same a b x y is = let yes : bytes_eq a b ≡ true = (bytes_eq-Decides a b).1 is in ap (λ (t : Bool). if t then x else y) yes

names_differ : (a b : List ℕ) → a ≢ b → bytes_eq a b ≡ false
names_differ a b not = by_test (bytes_eq a b) refl
  where
    by_test : (t : Bool) → bytes_eq a b ≡ t → bytes_eq a b ≡ false
    by_test true is = absurd (not ((bytes_eq-Decides a b).0 is))
    by_test false is = is

if_other : (a b : List ℕ) (x y : History) → a ≢ b → (if bytes_eq a b then x else y) ≡ y
if_other a b x y not = ap (λ (t : Bool). if t then x else y) (names_differ a b not)

same_or_not : (a b : List ℕ) → (a ≡ b) ⊎ (a ≢ b)
same_or_not a b = by_test (bytes_eq a b) refl
  where
    by_test : (t : Bool) → bytes_eq a b ≡ t → (a ≡ b) ⊎ (a ≢ b)
    by_test true is = inl ((bytes_eq-Decides a b).0 is)
    by_test false is = inr (λ same. let both : true ≡ false = sym ((bytes_eq-Decides a b).1 same) ∙ is in absurd (cc both))

at_none : (slots : List Slot) (name : List ℕ) → NoneOf slots name → disk_at slots name ≡ fresh
at_none [] name none = refl
at_none (s ∷ slots) name none = if_other s.name name (unwrap_or s.disk fresh) (disk_at slots name) none.0 ∙ at_none slots name none.1

at_first : (front : List Slot) (slot : Slot) (back : List Slot) (name : List ℕ) → NoneOf front name → slot.name ≡ name → disk_at (front ++ slot ∷ back) name ≡ unwrap_or slot.disk fresh
at_first [] slot back name none named = if_same slot.name name (unwrap_or slot.disk fresh) (disk_at back name) named
at_first (s ∷ front) slot back name none named = if_other s.name name (unwrap_or s.disk fresh) (disk_at (front ++ slot ∷ back) name) none.0 ∙ at_first front slot back name none.1 named

at_other : (front : List Slot) (slot : Slot) (back : List Slot) (other : List ℕ) → slot.name ≢ other → disk_at (front ++ slot ∷ back) other ≡ disk_at (front ++ back) other
at_other [] slot back other not = if_other slot.name other (unwrap_or slot.disk fresh) (disk_at back other) not
at_other (s ∷ front) slot back other not = ap (λ (t : History). if bytes_eq s.name other then unwrap_or s.disk fresh else t) (at_other front slot back other not)

pub NoneOf-push : (slots : List Slot) (s : Slot) (name : List ℕ) → NoneOf slots name → s.name ≢ name → NoneOf (slots ++ s ∷ []) name
NoneOf-push [] s name none not = (not, tt)
NoneOf-push (t ∷ slots) s name none not = (none.0, NoneOf-push slots s name none.1 not)

module _ (slots : List Slot) (name : List ℕ) (place : ℕ) (f : IsFirst slots name place) where
  pub first_disk : disk_at slots name ≡ unwrap_or f.slot.disk fresh
  first_disk = ap (λ (l : List Slot). disk_at l name) f.split ∙ at_first f.front f.slot f.back name f.none f.named

  set_is : (s : Slot) → set slots place s ≡ f.front ++ s ∷ f.back
  set_is s = ap (λ (l : List Slot). set l place s) f.split ∙ set_at f.front f.slot f.back s place f.size

  pub set_disk : (s : Slot) → s.name ≡ name → disk_at (set slots place s) name ≡ unwrap_or s.disk fresh
  set_disk s named = ap (λ (l : List Slot). disk_at l name) (set_is s) ∙ at_first f.front s f.back name f.none named

  pub set_others : (s : Slot) → s.name ≡ name → OthersSame name slots (set slots place s)
  set_others s named = λ other not.
      ap (λ (l : List Slot). disk_at l other) (set_is s) ∙ at_other f.front s f.back other (λ is. not (sym is ∙ named))
      ∙ sym (ap (λ (l : List Slot). disk_at l other) f.split ∙ at_other f.front f.slot f.back other (λ is. not (sym is ∙ f.named)))

  pub read_is : (s : Slot) → s ≡ get_or slots place s → s ≡ f.slot
  read_is s read = read ∙ ap (λ (l : List Slot). get_or l place s) f.split ∙ get_or_at f.front f.slot f.back s place f.size

  pub set_none : (s : Slot) → s.name ≡ name → s.disk ≡ None → f.slot.disk ≡ None → AllSame slots (set slots place s)
  set_none s named empty was = λ n. elim (same_or_not n name) [
    | inl is ↦
        subst (λ (k : List ℕ). disk_at (set slots place s) k ≡ disk_at slots k) (sym is)
        (set_disk s named ∙ ap (λ (o : Option History). unwrap_or o fresh) (empty ∙ sym was) ∙ sym first_disk)
    | inr not ↦ set_others s named n not
  ]

pub push_disk : (slots : List Slot) (s : Slot) (name : List ℕ) → NoneOf slots name → s.name ≡ name → disk_at (slots ++ s ∷ []) name ≡ unwrap_or s.disk fresh
push_disk slots s name none named = at_first slots s [] name none named

pub push_others : (slots : List Slot) (s : Slot) (name : List ℕ) → s.name ≡ name → OthersSame name slots (slots ++ s ∷ [])
push_others slots s name named = λ other not. at_other slots s [] other (λ is. not (sym is ∙ named)) ∙ ap (λ (l : List Slot). disk_at l other) (append-nil slots)

pub none_disk : (slots : List Slot) (name : List ℕ) → NoneOf slots name → disk_at slots name ≡ fresh
none_disk slots name none = at_none slots name none

pub push_none : (slots : List Slot) (s : Slot) (name : List ℕ) → NoneOf slots name → s.name ≡ name → s.disk ≡ None → AllSame slots (slots ++ s ∷ [])
push_none slots s name none named empty = λ n. elim (same_or_not n name) [
  | inl is ↦
      subst (λ (k : List ℕ). disk_at (slots ++ s ∷ []) k ≡ disk_at slots k) (sym is)
      (push_disk slots s name none named ∙ ap (λ (o : Option History). unwrap_or o fresh) empty ∙ sym (none_disk slots name none))
  | inr not ↦ push_others slots s name named n not
]

pub found_first : (slots : List Slot) (name : List ℕ) (place : ℕ) (s : Slot) → place < length slots → s ≡ get_or slots place s → s.name ≡ name → NoneOf (take place slots) name → IsFirst slots name place
found_first slots name place s lt read named none = record {
  front = take place slots;
  slot = s;
  back = drop (place + 1) slots;
  split = sym (take-append-drop place slots) ∙ ap (λ (l : List Slot). take place slots ++ l) (drop_more slots place s lt ∙ ap (λ (x : Slot). x ∷ drop (place + 1) slots) (sym read));
  size = length-take-le place slots (omega (arith, lt));
  named = named;
  none = none;
}

pub none_more : (slots : List Slot) (name : List ℕ) (place : ℕ) (s : Slot) → place < length slots → s ≡ get_or slots place s → s.name ≢ name → NoneOf (take place slots) name → NoneOf (take (place + 1) slots) name
none_more slots name place s lt read not none =
    subst (λ (l : List Slot). NoneOf l name) (sym (take_more slots place s lt ∙ ap (λ (x : Slot). take place slots ++ x ∷ []) (sym read))) (NoneOf-push (take place slots) s name none not)

has_append : (front back : List Slot) (name : List ℕ) → HasSlot front name ⊎ HasSlot back name → HasSlot (front ++ back) name
has_append [] back name (inl none) = absurd none
has_append [] back name (inr has) = has
has_append (s ∷ front) back name (inl (inl is)) = inl is
has_append (s ∷ front) back name (inl (inr has)) = inr (has_append front back name (inl has))
has_append (s ∷ front) back name (inr has) = inr (has_append front back name (inr has))

has_parts : (front back : List Slot) (name : List ℕ) → HasSlot (front ++ back) name → HasSlot front name ⊎ HasSlot back name
has_parts [] back name has = inr has
has_parts (s ∷ front) back name (inl is) = inl (inl is)
has_parts (s ∷ front) back name (inr has) = ⊎_elim (λ h. inl (inr h)) (λ h. inr h) (has_parts front back name has)

pub push_slots : (slots : List Slot) (s : Slot) (name : List ℕ) → HasSlot slots name → HasSlot (slots ++ s ∷ []) name
push_slots slots s name has = has_append slots (s ∷ []) name (inl has)

pub push_slot : (slots : List Slot) (s : Slot) → HasSlot (slots ++ s ∷ []) s.name
push_slot slots s = has_append slots (s ∷ []) s.name (inr (inl refl))

pub no_slot : (slots : List Slot) (name : List ℕ) → NoneOf slots name → HasSlot slots name → ⊥
no_slot [] name none has = has
no_slot (s ∷ slots) name none (inl is) = none.0 is
no_slot (s ∷ slots) name none (inr has) = no_slot slots name none.1 has

module _ (slots : List Slot) (name : List ℕ) (place : ℕ) (f : IsFirst slots name place) where
  split_is : (s : Slot) → set slots place s ≡ f.front ++ s ∷ f.back
  split_is s = ap (λ (l : List Slot). set l place s) f.split ∙ set_at f.front f.slot f.back s place f.size

  pub set_slot : (s : Slot) → s.name ≡ name → HasSlot (set slots place s) name
  set_slot s named = subst (λ (l : List Slot). HasSlot l name) (sym (split_is s)) (has_append f.front (s ∷ f.back) name (inr (inl named)))

  pub set_slots : (s : Slot) → s.name ≡ name → (other : List ℕ) → HasSlot slots other → HasSlot (set slots place s) other
  set_slots s named other has =
      let parts = has_parts f.front (f.slot ∷ f.back) other (subst (λ (l : List Slot). HasSlot l other) f.split has) in
      subst (λ (l : List Slot). HasSlot l other) (sym (split_is s)) (has_append f.front (s ∷ f.back) other (moved other parts))
    where
      moved : (other : List ℕ) → HasSlot f.front other ⊎ HasSlot (f.slot ∷ f.back) other → HasSlot f.front other ⊎ HasSlot (s ∷ f.back) other
      moved other (inl has) = inl has
      moved other (inr (inl is)) = inr (inl (named ∙ sym f.named ∙ is))
      moved other (inr (inr has)) = inr (inr has)
