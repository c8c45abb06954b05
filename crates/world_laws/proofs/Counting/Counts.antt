-- No count offsets two keys under one key-encrypting key, and each key service message takes effect at most
-- once: what each moment of each run keeps, and the row that stands.
use Rattle.std.proofs.Common.{arith, ◌≡◌, ℕ, suc, ◌<◌, ◌⊎◌, inl, inr, Option, Some, List, ◌++◌, map, refl, sym, ◌∙◌, ap, subst, AllPairs, All}
use Rattle.std.proofs.lemmas.List.Elements.{All-append, All-weaker, All-from_recursion, All-map, recursion_from_All}
use Rattle.party_tables.specs.declared.link.LinkKey.{LinkKey}
use Rattle.party_tables.specs.declared.link.LinkRec.{LinkRec}
use Rattle.party_tables.specs.Keys.{sends}
use Rattle.party_state.specs.State.{link_with}
use Rattle.party_state.specs.Rows.{Row, Use}
use Rattle.party_tables.proofs.Tables.{one_found}
use Rattle.member.specs.Member.{Member}
use Rattle.world_laws.specs.World.{World, Kk, Birth, KkUse, Acceptance, member_at}
use Rattle.world_laws.specs.Steps.{last_birth, births_of, current_kk, kk_use, world_after_row}
use Rattle.world_laws.specs.Starts.{Each}
use Rattle.world_laws.specs.Laws.{SameCount, AcceptedApart}
use Rattle.world_laws.proofs.Lists.Pairs.{AllPairs-append, AllPairs-map}
use Rattle.world_laws.proofs.Lists.Births.{last_below, born_now, born_cases, births_on}
use Rattle.world_laws.proofs.Lists.Members.{own_is, after_at, member_back, each_on}
use Rattle.world_laws.proofs.Links.Found.{HasLinks}
use Rattle.world_laws.proofs.Links.Waiting.{Waits}
use Rattle.world_laws.proofs.Links.Taking.{grown_takes}
use Rattle.world_laws.proofs.Counting.Sound.{UseFine, Moves}
use Rattle.world_laws.proofs.Counting.Accepting.{AcceptedBelow, kept_accepted, kept_once}

-- a use's count is below the next of its link, as long as that stands
pub record UseBelow (n : ℕ) (bs : List Birth) (ms : List Member) (u : KkUse) : Type 0 where
  pub born : u.kk.birth < n
  pub below : (x : Member) (l : LinkRec) → member_at u.kk.originator ms ≡ Some x → u.kk ≡ current_kk bs u.kk.originator u.kk.recipient u.kk.label → link_with (sends u.kk.recipient u.kk.label) x.party ≡ Some l → u.count < l.next

abbrev pub UsesApart : List KkUse → Type 0
UsesApart us = AllPairs (λ a b. ¬ (SameCount a b)) us

-- what each moment of each run keeps, before the event of this number
pub record Counted (n : ℕ) (ms : List Member) (bs : List Birth) (us : List KkUse) (accs : List Acceptance) : Type 0 where
  pub positive : 0 < n
  pub links : Each (λ x. HasLinks x.party) ms
  pub waits : Each (λ x. Waits x.party) ms
  pub births : All (λ b. b.event < n) bs
  pub below : All (UseBelow n bs ms) us
  pub apart : UsesApart us
  pub accepted : All (AcceptedBelow ms) accs
  pub once : AllPairs AcceptedApart accs

abbrev pub CountedAt : ℕ → World → Type 0
CountedAt n w = Counted n w.members w.births w.uses w.acceptances

-- One row that stands
module _ (o : Option LinkKey) (n : ℕ) (w : World) (p : List ℕ) (x y : Member) (text : List ℕ) (r : Row) (found : member_at p w.members ≡ Some x) (m : Moves o x.party y.party text r) where
  abbrev after : World
  after = world_after_row n w x.party.own text r y

  at_own : p ≡ x.party.own
  at_own = own_is w.members p x y found m.grown.own

  at_after : member_at x.party.own (world_after_row n w x.party.own text r y).members ≡ Some y
  at_after = after_at w.members p x y found m.grown.own

  back : (q : List ℕ) (z : Member) → member_at q (world_after_row n w x.party.own text r y).members ≡ Some z → ((q ≡ x.party.own) × (z ≡ y)) ⊎ (member_at q w.members ≡ Some z)
  back = member_back w.members p x y found m.grown.own

  -- a use from before
  old_use : (u : KkUse) → UseBelow n w.births w.members u → UseBelow (suc n) (world_after_row n w x.party.own text r y).births (world_after_row n w x.party.own text r y).members u
  old_use u b = record { born = omega (arith, b.born); below = λ z l h now i. still z l h now i (back u.kk.originator z h) }
    where
      still : (z : Member) (l : LinkRec) → member_at u.kk.originator (world_after_row n w x.party.own text r y).members ≡ Some z → u.kk ≡ current_kk (world_after_row n w x.party.own text r y).births u.kk.originator u.kk.recipient u.kk.label → link_with (sends u.kk.recipient u.kk.label) z.party ≡ Some l → ((u.kk.originator ≡ x.party.own) × (z ≡ y)) ⊎ (member_at u.kk.originator w.members ≡ Some z) → u.count < l.next
      still z l h now i at = elim (born_cases n x.party.own u.kk.originator u.kk.recipient u.kk.label w.births r.makes) [
        | inr is ↦ absurd (let e : u.kk.birth ≡ n = ap (λ (k : Kk). k.birth) now ∙ is in omega (arith, e, b.born))
        | inl is ↦ (let old : u.kk ≡ current_kk w.births u.kk.originator u.kk.recipient u.kk.label = now ∙ (λ j. record { originator = u.kk.originator; recipient = u.kk.recipient; label = u.kk.label; birth = is j }) in
            elim at [
              | inr t ↦ b.below z l t old i
              | inl t ↦ (let j : link_with (sends u.kk.recipient u.kk.label) y.party ≡ Some l = subst (λ (v : Member). link_with (sends u.kk.recipient u.kk.label) v.party ≡ Some l) t.1 i in
                  elim (m.grown.back (sends u.kk.recipient u.kk.label) l j) [
                    | inl g ↦ (let at_x : member_at u.kk.originator w.members ≡ Some x = subst (λ (a : List ℕ). member_at a w.members ≡ Some x) (at_own ∙ sym t.0) found in let k = b.below x g.0 at_x old g.1 in omega (arith, k, g.2.next))
                    | inr new ↦ absurd (let made = m.made (sends u.kk.recipient u.kk.label) new refl in
                        let now_n : last_birth 0 u.kk.originator u.kk.recipient u.kk.label (w.births ++ births_of n x.party.own r.makes) ≡ n = rw t.0 (born_now n x.party.own u.kk.recipient u.kk.label w.births r.makes made) in
                        let e : u.kk.birth ≡ n = ap (λ (k : Kk). k.birth) now ∙ now_n in omega (arith, e, b.born))
                  ])
            ])
      ]

  -- a new one
  new_use : 0 < n → All (λ b. b.event < n) w.births → (u : Use) → UseFine x.party y.party r.makes u → UseBelow (suc n) (world_after_row n w x.party.own text r y).births (world_after_row n w x.party.own text r y).members (kk_use (world_after_row n w x.party.own text r y).births x.party.own u)
  new_use positive births u f = record {
    born = last_below (suc n) 0 x.party.own u.recipient u.label (world_after_row n w x.party.own text r y).births (omega arith) (recursion_from_All (λ b. b.event < suc n) (world_after_row n w x.party.own text r y).births (births_on n x.party.own w.births r.makes births));
    below = λ z l h now i. (let same : z ≡ y = one_found z y h at_after in
        let j : link_with (sends u.recipient u.label) y.party ≡ Some l = subst (λ (v : Member). link_with (sends u.recipient u.label) v.party ≡ Some l) same i in
        let is : f.after.0 ≡ l = one_found f.after.0 l f.after.1 j in
        subst (λ (k : LinkRec). u.count < k.next) is f.after.2);
  }

  use_apart : (u : KkUse) (v : Use) → UseBelow n w.births w.members u → UseFine x.party y.party r.makes v → ¬ (SameCount u (kk_use (world_after_row n w x.party.own text r y).births x.party.own v))
  use_apart u v b f h = elim f.before [
    | inr made ↦ (let e : u.kk.birth ≡ n = ap (λ (k : Kk). k.birth) h.0 ∙ born_now n x.party.own v.recipient v.label w.births r.makes made in omega (arith, e, b.born))
    | inl l ↦ (let o : u.kk.originator ≡ x.party.own = ap (λ (k : Kk). k.originator) h.0 in
        let recipient : u.kk.recipient ≡ v.recipient = ap (λ (k : Kk). k.recipient) h.0 in
        let label : u.kk.label ≡ v.label = ap (λ (k : Kk). k.label) h.0 in
        elim (born_cases n x.party.own x.party.own v.recipient v.label w.births r.makes) [
          | inr is ↦ (let e : u.kk.birth ≡ n = ap (λ (k : Kk). k.birth) h.0 ∙ is in omega (arith, e, b.born))
          | inl is ↦ (let now : u.kk ≡ current_kk w.births x.party.own v.recipient v.label = h.0 ∙ (λ j. record { originator = x.party.own; recipient = v.recipient; label = v.label; birth = is j }) in
              let names : current_kk w.births x.party.own v.recipient v.label ≡ current_kk w.births u.kk.originator u.kk.recipient u.kk.label = (λ j. current_kk w.births ((sym o) j) ((sym recipient) j) ((sym label) j)) in
              let at : member_at u.kk.originator w.members ≡ Some x = subst (λ (a : List ℕ). member_at a w.members ≡ Some x) (at_own ∙ sym o) found in
              let key : sends v.recipient v.label ≡ sends u.kk.recipient u.kk.label = (λ j. sends ((sym recipient) j) ((sym label) j)) in
              let i : link_with (sends u.kk.recipient u.kk.label) x.party ≡ Some l.0 = subst (λ (k : LinkKey). link_with k x.party ≡ Some l.0) key l.1 in
              let k = b.below x l.0 at (now ∙ names) i in
              omega (arith, k, l.2, h.1))
        ])
  ]

  kept_below : CountedAt n w → All (UseBelow (suc n) (world_after_row n w x.party.own text r y).births (world_after_row n w x.party.own text r y).members) (w.uses ++ map (kk_use (w.births ++ births_of n x.party.own r.makes) x.party.own) r.uses)
  kept_below i =
      let After : KkUse → Type 0 = UseBelow (suc n) (world_after_row n w x.party.own text r y).births (world_after_row n w x.party.own text r y).members in
      let f : Use → KkUse = kk_use (w.births ++ births_of n x.party.own r.makes) x.party.own in
      let old : All After w.uses = All-weaker (UseBelow n w.births w.members) After old_use w.uses i.below in
      let fine : All (UseFine x.party y.party r.makes) r.uses = All-from_recursion (UseFine x.party y.party r.makes) r.uses m.uses in
      let new : All (λ u. After (kk_use (w.births ++ births_of n x.party.own r.makes) x.party.own u)) r.uses = All-weaker (UseFine x.party y.party r.makes) (λ u. After (kk_use (w.births ++ births_of n x.party.own r.makes) x.party.own u)) (new_use i.positive i.births) r.uses fine in
      All-append After w.uses (map (kk_use (w.births ++ births_of n x.party.own r.makes) x.party.own) r.uses) old (All-map After (kk_use (w.births ++ births_of n x.party.own r.makes) x.party.own) r.uses new)

  kept_apart : CountedAt n w → UsesApart (w.uses ++ map (kk_use (w.births ++ births_of n x.party.own r.makes) x.party.own) r.uses)
  kept_apart i =
      let NotSame : KkUse → KkUse → Type 0 = λ u v. ¬ (SameCount u v) in
      let IsNew : Use → Type 0 = UseFine x.party y.party r.makes in
      let f : Use → KkUse = kk_use (w.births ++ births_of n x.party.own r.makes) x.party.own in
      let fine : All IsNew r.uses = All-from_recursion IsNew r.uses m.uses in
      AllPairs-append NotSame w.uses (map f r.uses) i.apart
      (AllPairs-map NotSame f r.uses (λ a b d l k h. m.apart a b d l k (ap (λ (z : Kk). z.recipient) h.0, ap (λ (z : Kk). z.label) h.0, h.1)))
      (All-weaker (UseBelow n w.births w.members) (λ u. All (NotSame u) (map f r.uses)) (λ u ub. All-map (NotSame u) f r.uses (All-weaker IsNew (λ v. NotSame u (f v)) (λ v vf. use_apart u v ub vf) r.uses fine)) w.uses i.below)

  pub kept_counted : CountedAt n w → CountedAt (suc n) (world_after_row n w x.party.own text r y)
  kept_counted i = record {
    positive = omega arith;
    links = each_on w.members p x y found m.grown.own (λ v. HasLinks v.party) i.links m.links;
    waits = each_on w.members p x y found m.grown.own (λ v. Waits v.party) i.waits m.waits;
    births = births_on n x.party.own w.births r.makes i.births;
    below = kept_below i;
    apart = kept_apart i;
    accepted = kept_accepted w.members p x y text found (grown_takes o x.party y.party m.grown) w.acceptances r.accepts m.accepts i.accepted;
    once = kept_once w.members p x y text found (grown_takes o x.party y.party m.grown) w.acceptances i.links r.accepts m.accepts i.accepted i.once;
  }
