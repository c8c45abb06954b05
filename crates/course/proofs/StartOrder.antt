-- The links of a member of a start are the loads of its lines, in their order.
use Rattle.std.proofs.Common.{◌≡◌, ℕ, ◌⊎◌, inl, inr, true, false, List, [], ◌∷◌, ◌++◌, Some, refl, sym, ◌∙◌, ap, subst, append_assoc, append-nil}
use Rattle.std.proofs.lemmas.Bool.{both_ways, false_from_ne_true}
use Rattle.x_base.specs.declared.party.Side.{Side}
use Rattle.x_base.specs.declared.party.Side.TheVariants.{Sends, Takes}
use Rattle.party_tables.specs.declared.link.LinkKey.{LinkKey}
use Rattle.party_tables.specs.declared.link.LinkRec.{LinkRec}
use Rattle.party_tables.specs.Keys.{same_link, link_key}
use Rattle.party_tables.specs.Tables.{put_row}
use Rattle.scenario.specs.declared.line.Line.{Line}
use Rattle.scenario.specs.Behind.{EachBehind}
use Rattle.scenario.specs.Rules.{ends, may_follow, same_ends}
use Rattle.member.specs.Member.{Member}
use Rattle.course.specs.Starts.{HaveTheirLoads, first_member, generator_of, load_at, loads_of, with_load, with_loads}
use Rattle.course.proofs.StartLists.{Among, Ordered, map_ordered}
use Rattle.course.proofs.StartLines.{AreApart, each_apart, ends_same}
use Rattle.course.proofs.StartLoads.{Known, own_stays}
use Rattle.course.proofs.StartMembers.{IsMember, SentBy, TakenBy, is_member, loaded_by}

-- the later of two links has another key
abbrev KeysDiffer : LinkRec → LinkRec → Type 0
KeysDiffer l m = same_link (link_key m) (link_key l) ≡ false

put_new : (l : LinkRec) (rows : List LinkRec) → ((r : LinkRec) → Among rows r → KeysDiffer r l) → put_row link_key same_link l rows ≡ rows ++ l ∷ []
put_new l [] apart = refl
put_new l (r ∷ rows) apart = rw (apart r (inl refl)) (ap (λ (rs : List LinkRec). r ∷ rs) (put_new l rows (λ s m. apart s (inr m))))

among_push : (rows : List LinkRec) (l r : LinkRec) → Among (rows ++ l ∷ []) r → Among rows r ⊎ (l ≡ r)
among_push [] l r (inl e) = inr e
among_push [] l r (inr m) = absurd m
among_push (x ∷ rows) l r (inl e) = inl (inl e)
among_push (x ∷ rows) l r (inr m) = go (among_push rows l r m)
  where
    go : Among rows r ⊎ (l ≡ r) → Among (x ∷ rows) r ⊎ (l ≡ r)
    go (inl n) = inl (inr n)
    go (inr e) = inr e

links_after : (x : Member) (rows ls : List LinkRec) → x.party.links ≡ rows → ((r l : LinkRec) → Among rows r → Among ls l → KeysDiffer r l) → Ordered KeysDiffer ls → (with_loads x ls).party.links ≡ rows ++ ls
links_after x rows [] is apart ordered = is ∙ sym (append-nil rows)
links_after x rows (l ∷ ls) is apart ordered = links_after (with_load x l) (rows ++ l ∷ []) ls (ap (put_row link_key same_link l) is ∙ put_new l rows (λ r m. apart r l m (inl refl))) apart_now ordered.1 ∙ append_assoc rows (l ∷ []) ls
  where
    apart_now : (r m : LinkRec) → Among (rows ++ l ∷ []) r → Among ls m → KeysDiffer r m
    apart_now r m a b = go (among_push rows l r a)
      where
        go : Among rows r ⊎ (l ≡ r) → KeysDiffer r m
        go (inl n) = apart r m n (inr b)
        go (inr e) = subst (λ (k : LinkRec). KeysDiffer k m) e (ordered.0 m b)

-- ---- the links of one key come from lines with the same ends

-- origin, recipient and label of the line that loads a link at this party
ends_at : List ℕ → LinkKey → List ℕ × List ℕ × List ℕ
ends_at own k = go k.side
  where
    go : Side → List ℕ × List ℕ × List ℕ
    go Sends = (own, k.peer, k.label)
    go Takes = (k.peer, own, k.label)

loaded_ends : (own : List ℕ) (l : LinkRec) (x : Line) → load_at own x ≡ Some l → ends x ≡ Some (ends_at own (link_key l))
unfolding ends_at
loaded_ends own l x h = go (loaded_by own l x h)
  where
    go : SentBy own x l ⊎ TakenBy own x l → ends x ≡ Some (ends_at own (link_key l))
    go (inl s) = ap ends s.line_is ∙ rw (ap (λ (k : LinkRec). k.side) s.is) refl
    go (inr t) = ap ends t.line_is ∙ rw (ap (λ (k : LinkRec). k.side) t.is) refl

module _ (known : Known) (lines : List Line) (rules : EachBehind may_follow lines) where
  keys_differ : (own : List ℕ) (x y : Line) (l m : LinkRec) → AreApart x y → load_at own x ≡ Some l → load_at own y ≡ Some m → KeysDiffer l m
  keys_differ own x y l m apart e f = false_from_ne_true (same_link (link_key m) (link_key l)) same_not
    where
      same_not : same_link (link_key m) (link_key l) ≡ true → ⊥
      same_not same =
          let key : link_key m ≡ link_key l = (known.same (link_key m) (link_key l)).0 same in
          let of_y : ends y ≡ Some (ends_at own (link_key l)) = loaded_ends own m y f ∙ ap (λ (k : LinkKey). Some (ends_at own k)) key in
          both_ways (same_ends (ends_at own (link_key l)) (ends_at own (link_key l))) (apart.ends_apart (ends_at own (link_key l)) (ends_at own (link_key l)) (loaded_ends own l x e) of_y) (ends_same (ends_at own (link_key l)))

  pub loads_differ : (own : List ℕ) → Ordered KeysDiffer (loads_of own lines)
  loads_differ own = map_ordered (load_at own) AreApart KeysDiffer (keys_differ own) lines (each_apart lines rules)

  pub have_loads : HaveTheirLoads lines
  have_loads p x at =
      let m : IsMember lines p x = is_member lines p x at in
      let first : Member = first_member p m.role (generator_of m.pair m.v) in
      let links : (with_loads first (loads_of p lines)).party.links ≡ loads_of p lines = links_after first [] (loads_of p lines) refl (λ r l a b. absurd a) (loads_differ p) in
      let own : x.party.own ≡ p = ap (λ (y : Member). y.party.own) m.is ∙ own_stays first (loads_of p lines) in
      ap (λ (y : Member). y.party.links) m.is ∙ (links ∙ ap (λ (o : List ℕ). loads_of o lines) (sym own))
