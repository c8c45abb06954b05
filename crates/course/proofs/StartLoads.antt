-- A party behind loads: what is found in it, and what stays.
use Rattle.std.proofs.Common.{◌≡◌, ◌↔◌, ℕ, ◌⊎◌, inl, inr, Bool, true, false, cond, List, [], ◌∷◌, Some, refl, sym, ◌∙◌, ap}
use Rattle.std.proofs.lemmas.List.Elements.{All-nil, All-cons}
use Rattle.x_base.specs.Names.{IsIdent}
use Rattle.x_base.specs.declared.party.Role.{Role}
use Rattle.x_gen.specs.Laws.{OddStays}
use Rattle.x_gen.specs.declared.generator.Gen.{Gen}
use Rattle.party_state.specs.declared.edit.Edit.{Edit}
use Rattle.party_state.specs.declared.edit.Edit.TheVariants.{PutLink}
use Rattle.party_tables.specs.declared.link.LinkKey.{LinkKey}
use Rattle.party_tables.specs.declared.link.LinkRec.{LinkRec}
use Rattle.party_tables.specs.Keys.{same_link, link_key}
use Rattle.party_tables.specs.Ranges.{IsLink}
use Rattle.party_state.specs.Ranges.{InRange, AreInRange, IsGen, IsParty}
use Rattle.party_state.specs.State.{Party, apply, apply_edit, begun, link_with}
use Rattle.member.specs.Member.{Member}
use Rattle.world_laws.specs.Starts.{HasOnlyLinks}
use Rattle.course.specs.Starts.{first_member, with_load, with_loads}
use Rattle.course.proofs.StartLists.{Among}

-- what is known of parties and of parity
pub record Known : Type 0 where
  pub put : (k : LinkKey) (l : LinkRec) (p : Party) → link_with k (apply_edit (PutLink l) p) ≡ cond (same_link k (link_key l)) (Some l) (link_with k p)
  pub same : (a b : LinkKey) → (same_link a b ≡ true) ↔ (a ≡ b)
  pub found : (k : LinkKey) (l : LinkRec) (p : Party) → link_with k p ≡ Some l → k ≡ link_key l
  pub begins : (own : List ℕ) (role : Role) (g : Gen) → IsIdent own → IsGen g → IsParty (begun own role g)
  pub stays : (es : List Edit) (p : Party) → AreInRange es → IsParty p → IsParty (apply es p)
  pub odd : OddStays

pub own_stays : (x : Member) (ls : List LinkRec) → (with_loads x ls).party.own ≡ x.party.own
own_stays x [] = refl
own_stays x (l ∷ ls) = own_stays (with_load x l) ls

pub only_links : (x : Member) (ls : List LinkRec) → HasOnlyLinks x.party → HasOnlyLinks (with_loads x ls).party
only_links x [] h = h
only_links x (l ∷ ls) h = only_links (with_load x l) ls (record { keys = h.keys; exchanges = h.exchanges; answers = h.answers })

module _ (known : Known) where
  pub party_stays : (x : Member) (ls : List LinkRec) → IsParty x.party → ((l : LinkRec) → Among ls l → IsLink l) → IsParty (with_loads x ls).party
  party_stays x [] p links = p
  party_stays x (l ∷ ls) p links = party_stays (with_load x l) ls (known.stays (PutLink l ∷ []) x.party (All-cons InRange (PutLink l) [] (links l (inl refl)) (All-nil InRange)) p) (λ m a. links m (inr a))

  -- a link that is found was loaded, or stood before
  load_found : (k : LinkKey) (l : LinkRec) (x : Member) (ls : List LinkRec) → link_with k (with_loads x ls).party ≡ Some l → Among ls l ⊎ (link_with k x.party ≡ Some l)
  load_found k l x [] h = inr h
  load_found k l x (m ∷ ls) h = later (load_found k l (with_load x m) ls h)
    where
      last : (b : Bool) → cond b (Some m) (link_with k x.party) ≡ Some l → Among (m ∷ ls) l ⊎ (link_with k x.party ≡ Some l)
      last true e = inl (inl (cc))
      last false e = inr e

      later : Among ls l ⊎ (link_with k (with_load x m).party ≡ Some l) → Among (m ∷ ls) l ⊎ (link_with k x.party ≡ Some l)
      later (inl a) = inl (inr a)
      later (inr e) = last (same_link k (link_key m)) (sym (known.put k m x.party) ∙ e)

  pub first_found : (own : List ℕ) (role : Role) (g : Gen) (k : LinkKey) (l : LinkRec) (ls : List LinkRec) → link_with k (with_loads (first_member own role g) ls).party ≡ Some l → Among ls l
  first_found own role g k l ls h = only (load_found k l (first_member own role g) ls h)
    where
      only : Among ls l ⊎ (link_with k (begun own role g) ≡ Some l) → Among ls l
      only (inl a) = a
      only (inr e) = absurd (cc (e))

  -- a link is found as long as each later one under its key is the same
  still_found : (k : LinkKey) (l : LinkRec) (x : Member) (ls : List LinkRec) → ((m : LinkRec) → Among ls m → link_key m ≡ k → m ≡ l) → link_with k x.party ≡ Some l → link_with k (with_loads x ls).party ≡ Some l
  still_found k l x [] one h = h
  still_found k l x (m ∷ ls) one h = still_found k l (with_load x m) ls (λ n a. one n (inr a)) (known.put k m x.party ∙ go (same_link k (link_key m)) refl)
    where
      go : (b : Bool) → same_link k (link_key m) ≡ b → cond b (Some m) (link_with k x.party) ≡ Some l
      go true is = ap (λ (n : LinkRec). Some n) (one m (inl refl) (sym ((known.same k (link_key m)).0 is)))
      go false is = h

  pub stands_loaded : (k : LinkKey) (l : LinkRec) (x : Member) (ls : List LinkRec) → ((m : LinkRec) → Among ls m → link_key m ≡ k → m ≡ l) → link_key l ≡ k → Among ls l → link_with k (with_loads x ls).party ≡ Some l
  stands_loaded k l x [] one key a = absurd a
  stands_loaded k l x (m ∷ ls) one key (inl e) = still_found k l (with_load x m) ls (λ n a. one n (inr a)) (known.put k m x.party ∙ go (same_link k (link_key m)) ((known.same k (link_key m)).1 (sym key ∙ ap link_key (sym e))))
    where
      go : (b : Bool) → b ≡ true → cond b (Some m) (link_with k x.party) ≡ Some l
      go true is = ap (λ (n : LinkRec). Some n) e
      go false is = absurd (cc)
  stands_loaded k l x (m ∷ ls) one key (inr a) = stands_loaded k l (with_load x m) ls (λ n b. one n (inr b)) key a
