-- The link, the count and the name under which a key service message brings its key.
use Rattle.bank_keys.specs.Ksm.{link_in_use, body_link, body_count, body_twin, body_name, next_behind, body_next, key_names}
use Rattle.std.proofs.Common.{arith, ◌≡◌, ◌⊎◌, ◌≤◌, ◌<◌, ◌+◌, ℕ, Bool, true, false, cond, Option, Some, None, List, Contains, refl, sym, ap, subst, inl, inr}
use Rattle.std.specs.Prelude.{nat_lt}
use Rattle.party_tables.specs.Names.{full_behind}
use Rattle.world_laws.proofs.Lists.Among.{of_one, of_two}
use Rattle.x_base.specs.declared.key_name.FullName.{FullName}
use Rattle.csm_grammar.specs.declared.message.KsmBody.{KsmBody}
use Rattle.csm_grammar.specs.declared.message.KsmBody.TheVariants as body
use Rattle.csm_grammar.specs.declared.message.Ksm.{Ksm}
use Rattle.party_tables.specs.declared.link.LinkKey.{LinkKey}
use Rattle.party_tables.specs.declared.link.LinkRec.{LinkRec}
use Rattle.party_tables.specs.Keys.{takes}
use Rattle.party_state.specs.State.{Party, centre_label, link_with}
use Rattle.world_laws.proofs.Links.Growth.{LinkGrows}
use Rattle.world_laws.proofs.Links.Taking.{TakesGrow}
use Rattle.world_laws.proofs.Links.Found.{HasLinks, LinkAt, in_use_at, in_use_grows}

abbrev pub ksm_link : Party → Ksm → Option LinkRec
ksm_link p m = body_link p m.originator m.body

abbrev pub ksm_count : Ksm → ℕ
ksm_count m = body_count m.body

abbrev pub ksm_name : Party → Ksm → LinkRec → FullName
ksm_name p m l = body_name p m.originator m.body l

abbrev pub ksm_names : Party → Ksm → LinkRec → List FullName
ksm_names p m l = key_names (ksm_name p m l) (body_twin m.body)

-- the count behind those of its keys
abbrev pub ksm_next : Ksm → ℕ
ksm_next m = body_next m.body

pub count_less : (count : ℕ) (o : Option ℕ) → count < next_behind count o
count_less count None = omega arith
count_less count (Some kd) = omega arith

-- a name among those of a message is the first, or the one behind it
pub name_among : (u v : FullName) (o : Option ℕ) → Contains (key_names u o) v → (v ≡ u) ⊎ ((kd : ℕ) × (o ≡ Some kd) × (v ≡ full_behind u))
name_among u v None h = inl (sym (of_one u v h))
name_among u v (Some kd) h = elim (of_two u (full_behind u) v h) [
  | inl e ↦ inl (sym e)
  | inr e ↦ inr (kd, refl, sym e)
]

-- its link is that of the first, and its count is one of theirs
pub among_tells : (u v : FullName) (o : Option ℕ) → Contains (key_names u o) v → (v.name.issuer ≡ u.name.issuer) × (v.name.label ≡ u.name.label) × (u.name.count ≤ v.name.count) × (v.name.count < next_behind u.name.count o)
among_tells u v o h = elim (name_among u v o h) [
  | inl e ↦ (let count : v.name.count ≡ u.name.count = ap (λ (z : FullName). z.name.count) e in
      let less : u.name.count < next_behind u.name.count o = count_less u.name.count o in
      (ap (λ (z : FullName). z.name.issuer) e, ap (λ (z : FullName). z.name.label) e, omega (arith, count), omega (arith, count, less)))
  | inr e ↦ (let count : v.name.count ≡ u.name.count + 1 = ap (λ (z : FullName). z.name.count) e.2 in
      let next : next_behind u.name.count o ≡ u.name.count + 2 = ap (next_behind u.name.count) e.1 in
      (ap (λ (z : FullName). z.name.issuer) e.2, ap (λ (z : FullName). z.name.label) e.2, omega (arith, count), omega (arith, count, next)))
]

-- two keys have a link in use below the last count
pub twin_link : (p : Party) (originator : List ℕ) (idk2 : Option (List ℕ)) (ctp : ℕ) (l : LinkRec) → cond (nat_lt ctp 99999999999999) (link_in_use p originator idk2) None ≡ Some l → (nat_lt ctp 99999999999999 ≡ true) × (link_in_use p originator idk2 ≡ Some l)
twin_link p originator idk2 ctp l h = go (nat_lt ctp 99999999999999) refl h
  where
    go : (b : Bool) → nat_lt ctp 99999999999999 ≡ b → cond b (link_in_use p originator idk2) None ≡ Some l → (nat_lt ctp 99999999999999 ≡ true) × (link_in_use p originator idk2 ≡ Some l)
    go true e h = (e, h)
    go false e h = absurd (cc)

-- the name tells the link and the count

pub name_count : (p : Party) (originator : List ℕ) (b : KsmBody) (l : LinkRec) → (body_name p originator b l).name.count ≡ body_count b
name_count p originator (body.Direct idk2 new kd ctp) l = refl
name_count p originator (body.Centre centre kdu ctb) l = refl
name_count p originator (body.Twin idk2 first second ctp) l = refl

pub name_link : (p : Party) (originator : List ℕ) (b : KsmBody) (l : LinkRec) → HasLinks p → body_link p originator b ≡ Some l → link_with (takes (body_name p originator b l).name.issuer (body_name p originator b l).name.label) p ≡ Some l
name_link p originator (body.Direct idk2 new kd ctp) l d h =
    let at : LinkAt p (takes originator l.label) l = in_use_at p originator idk2 l d h in
    let peer : l.peer ≡ originator = ap (λ (k : LinkKey). k.peer) at.key in
    subst (λ (o : List ℕ). link_with (takes o l.label) p ≡ Some l) (sym peer) at.found
name_link p originator (body.Centre centre kdu ctb) l d h = h
name_link p originator (body.Twin idk2 first second ctp) l d h =
    let at : LinkAt p (takes originator l.label) l = in_use_at p originator idk2 l d (twin_link p originator idk2 ctp l h).1 in
    let peer : l.peer ≡ originator = ap (λ (k : LinkKey). k.peer) at.key in
    subst (λ (o : List ℕ). link_with (takes o l.label) p ≡ Some l) (sym peer) at.found

-- as the party goes on, the link does, and the name stays

pub ksm_link_grows : (s t : Party) (originator : List ℕ) (b : KsmBody) (l : LinkRec) → TakesGrow s t → body_link s originator b ≡ Some l → (m : LinkRec) × (body_link t originator b ≡ Some m) × LinkGrows l m
ksm_link_grows s t originator (body.Direct idk2 new kd ctp) l g h = in_use_grows s t originator idk2 l g h
ksm_link_grows s t originator (body.Centre centre kdu ctb) l g h = g.link (takes centre centre_label) l refl h
ksm_link_grows s t originator (body.Twin idk2 first second ctp) l g h = go (nat_lt ctp 99999999999999) h
  where
    go : (b : Bool) → cond b (link_in_use s originator idk2) None ≡ Some l → (m : LinkRec) × (cond b (link_in_use t originator idk2) None ≡ Some m) × LinkGrows l m
    go true h = in_use_grows s t originator idk2 l g h
    go false h = absurd (cc)

pub ksm_name_stays : (s t : Party) (originator : List ℕ) (b : KsmBody) (l m : LinkRec) → t.own ≡ s.own → LinkGrows l m → body_name s originator b l ≡ body_name t originator b m
ksm_name_stays s t originator (body.Direct idk2 new kd ctp) l m own g i = record { name = record { issuer = (sym g.peer) i; originator = (sym g.peer) i; label = (sym g.label) i; count = ctp }; recipient = (sym own) i }
ksm_name_stays s t originator (body.Twin idk2 first second ctp) l m own g i = record { name = record { issuer = (sym g.peer) i; originator = (sym g.peer) i; label = (sym g.label) i; count = ctp }; recipient = (sym own) i }
ksm_name_stays s t originator (body.Centre centre kdu ctb) l m own g i = record { name = record { issuer = centre; originator = originator; label = centre_label; count = ctb }; recipient = (sym own) i }
