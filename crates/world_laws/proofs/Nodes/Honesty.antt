-- Whether an event is honest is decided by a search among the facts; so a run is honest, or has a forged event.
use Rattle.std.proofs.Common.{arith, ◌≡◌, ◌⊎◌, inl, inr, ℕ, zero, suc, ◌<◌, Bool, true, false, not, ◌||◌, Option, Some, None, List, [], ◌∷◌, length, map, slice_index_or, refl, sym, ◌∙◌, ap, subst, Contains, Decides}
use Rattle.std.specs.List.{list_any}
use Rattle.std.proofs.lemmas.Bool.Decides.{Decides-and, Decides-like}
use Rattle.x_base.specs.declared.key_name.FullName.{FullName}
use Rattle.party_state.specs.declared.decision.Lead.{Lead}
use Rattle.party_state.specs.State.{Party}
use Rattle.party_tables.proofs.Keys.{test_idents, test_names}
use Rattle.csm_grammar.specs.Arrivals.{authenticated_text}
use Rattle.member.specs.Member.{Member}
use Rattle.world_laws.specs.World.{World, Fact, member_at}
use Rattle.member.specs.Leads.{lead_at}
use Rattle.world_laws.specs.Events.{Action, Orders, Hears, Compacts, Migrates, Event}
use Rattle.world_laws.specs.Steps.{step}
use Rattle.fact_book.specs.Facts.{has_named, same_full_name}
use Rattle.world_laws.specs.Honest.{HasFact, is_fact, named_text, has_fact, HonestAction, HonestAt, HonestRun, IsForged, is_honest_lead, is_honest_action, is_honest}
use Rattle.world_laws.proofs.Nodes.Named.{named_facts}

-- an entry that passes a test

any_has : {X : Type 0} (p : X → Bool) (xs : List X) → list_any p xs ≡ true → (x : X) × Contains xs x × (p x ≡ true)
any_has p [] h = absurd (cc)
any_has {X} p (x ∷ xs) h = go (p x) refl h (any_has p xs)
  where
    go : (b : Bool) → p x ≡ b → (b || list_any p xs) ≡ true → (list_any p xs ≡ true → (y : X) × Contains xs y × (p y ≡ true)) → (y : X) × Contains (x ∷ xs) y × (p y ≡ true)
    go true i h more = (x, (0, (omega arith), refl), i)
    go false i h more = let r = more h in (r.0, (suc r.1.0, (let l = r.1.1 in omega (arith, l)), r.1.2), r.2)

has_any : {X : Type 0} (p : X → Bool) (xs : List X) (x : X) (k : ℕ) → k < length xs → slice_index_or xs k x ≡ x → p x ≡ true → list_any p xs ≡ true
has_any p [] x k l e h = absurd (omega arith)
has_any p (y ∷ ys) x zero l e h = let i : p y ≡ true = ap p e ∙ h in rw i refl
has_any p (y ∷ ys) x (suc k) l e h = either (p y) (has_any p ys x k (omega arith) e h)
  where
    either : (b : Bool) → list_any p ys ≡ true → (b || list_any p ys) ≡ true
    either true h = refl
    either false h = h

decides_full : (a b : FullName) → Decides (same_full_name a b) (a ≡ b)
decides_full a b = Decides-like (same_full_name a b) (λ h i. record { name = h.0 i; recipient = h.1 i }) (λ h. (ap (λ (u : FullName). u.name) h, ap (λ (u : FullName). u.recipient) h)) (Decides-and _ _ (test_names.decides a.name b.name) (test_idents.decides a.recipient b.recipient))

decides_fact : (under : FullName) (text : List ℕ) (f : Fact) → Decides (is_fact under text f) ((f.under ≡ under) × (f.text ≡ text))
decides_fact under text f = Decides-and _ _ (decides_full f.under under) (test_idents.decides f.text text)

pub fact_decides : (facts : List Fact) (under : FullName) (text : List ℕ) → Decides (has_fact facts under text) (HasFact facts under text)
fact_decides facts under text = (
  λ h. (let r = any_has (is_fact under text) facts h in let e = (decides_fact under text r.0).0 r.2 in record { fact = r.0; stands = r.1; under_is = e.0; text_is = e.1 }),
  λ h. has_any (is_fact under text) facts h.fact h.stands.0 h.stands.1 h.stands.2 ((decides_fact under text h.fact).1 (h.under_is, h.text_is)),
)

lead_decides : (facts : List Fact) (text : List ℕ) (o : Option Lead) → Decides (is_honest_lead (map named_text facts) text o) ((l : Lead) → o ≡ Some l → l.verified ≡ true → HasFact facts l.under text)
lead_decides facts text None = (λ h l e v. absurd (cc), λ h. refl)
lead_decides facts text (Some k) = (yes, back)
  where
    same : has_named (map named_text facts) k.under text ≡ has_fact facts k.under text
    same = named_facts facts k.under text

    verified : (b : Bool) → k.verified ≡ b → (not b || has_named (map named_text facts) k.under text) ≡ true → k.verified ≡ true → HasFact facts k.under text
    verified true i h v = (fact_decides facts k.under text).0 (sym same ∙ h)
    verified false i h v = absurd (let both : true ≡ false = sym v ∙ i in cc)

    yes : is_honest_lead (map named_text facts) text (Some k) ≡ true → (l : Lead) → Some k ≡ Some l → l.verified ≡ true → HasFact facts l.under text
    yes h l e v = (let is : k ≡ l = cc in let m : k.verified ≡ true = ap (λ (z : Lead). z.verified) is ∙ v in subst (λ (z : Lead). HasFact facts z.under text) is (verified k.verified refl h m))

    unverified : (b : Bool) → k.verified ≡ b → (k.verified ≡ true → has_named (map named_text facts) k.under text ≡ true) → (not b || has_named (map named_text facts) k.under text) ≡ true
    unverified true i h = h i
    unverified false i h = refl

    back : ((l : Lead) → Some k ≡ Some l → l.verified ≡ true → HasFact facts l.under text) → is_honest_lead (map named_text facts) text (Some k) ≡ true
    back h = unverified k.verified refl (λ v. same ∙ (fact_decides facts k.under text).1 (h k refl v))

deed_decides : (facts : List Fact) (p : Party) (d : Action) → Decides (is_honest_action facts p d) (HonestAction facts p d)
deed_decides facts p (Orders c) = (λ h. tt, λ h. refl)
deed_decides facts p (Hears bytes (Some a)) = lead_decides facts (authenticated_text a) (lead_at p a)
deed_decides facts p (Hears bytes None) = (λ h. tt, λ h. refl)
deed_decides facts p Compacts = (λ h. tt, λ h. refl)
deed_decides facts p Migrates = (λ h. tt, λ h. refl)

pub honest_decides : (facts : List Fact) (o : Option Member) (d : Action) → Decides (is_honest facts o d) (HonestAt facts o d)
honest_decides facts None d = (λ h. tt, λ h. refl)
honest_decides facts (Some x) d = deed_decides facts x.party d

pub honest_or_forged : (es : List Event) (n : ℕ) (w : World) → HonestRun n w es ⊎ ((k : ℕ) × IsForged n w es k)
honest_or_forged [] n w = inl tt
honest_or_forged (e ∷ es) n w = go (is_honest w.facts (member_at e.party w.members) e.action) refl (honest_or_forged es (suc n) (step n w e))
  where
    test : Decides (is_honest w.facts (member_at e.party w.members) e.action) (HonestAt w.facts (member_at e.party w.members) e.action)
    test = honest_decides w.facts (member_at e.party w.members) e.action

    go : (b : Bool) → is_honest w.facts (member_at e.party w.members) e.action ≡ b → HonestRun (suc n) (step n w e) es ⊎ ((k : ℕ) × IsForged (suc n) (step n w e) es k) → HonestRun n w (e ∷ es) ⊎ ((k : ℕ) × IsForged n w (e ∷ es) k)
    go true i (inl h) = inl (test.0 i, h)
    go true i (inr f) = inr (suc f.0, (test.0 i, f.1))
    go false i rest = inr (0, λ h. (let t = test.1 h in let both : true ≡ false = sym t ∙ i in cc))
