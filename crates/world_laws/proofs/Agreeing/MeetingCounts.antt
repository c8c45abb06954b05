-- The counts at both ends of a key-encrypting key: what a link that takes expects is no more than the next count where it sends.
use Rattle.std.proofs.Common.{arith, ◌≡◌, ◌⊎◌, inl, inr, ℕ, ◌≤◌, Bool, true, false, cond, Option, Some, None, List, [], ◌∷◌, refl, sym, ◌∙◌, ap, subst}
use Rattle.std.specs.List.{AllByRecursion}
use Rattle.x_base.specs.declared.party.Side.TheVariants.{Sends, Takes}
use Rattle.party_state.specs.declared.edit.Edit.{Edit}
use Rattle.party_state.specs.declared.edit.Edit.TheVariants.{Begin, PutLink, DropLink, PutKey, DropEnded, PutExchange, DropExchange, PutAnswer, SetGen}
use Rattle.party_tables.specs.declared.link.LinkKey.{LinkKey}
use Rattle.party_tables.specs.declared.link.LinkRec.{LinkRec}
use Rattle.party_tables.specs.Tables.{find_row, put_row}
use Rattle.party_tables.specs.Keys.{same_link, link_key, sends, takes}
use Rattle.party_state.specs.State.{Party, apply_edit, apply, link_with}
use Rattle.party_state.specs.Rows.{Row, Made}
use Rattle.party_tables.proofs.Keys.{test_links}
use Rattle.party_tables.proofs.Tables.{one_found, find_put, find_drop}
use Rattle.member.specs.Member.{Member}
use Rattle.world_laws.specs.World.{member_at}
use Rattle.world_laws.proofs.Links.Growth.{PartyGrows, not_ready, change_grows}
use Rattle.world_laws.proofs.Links.Found.{link_at}
use Rattle.world_laws.proofs.Counting.Sound.{IsSound}
use Rattle.world_laws.proofs.Lists.Members.{own_is, member_back}
use Rattle.world_laws.proofs.Agreeing.Lists.{Lists, after, members_after}
use Rattle.world_laws.proofs.Agreeing.Agreed.{Agreed}
use Rattle.world_laws.proofs.Agreeing.Moves.{OwnText, Agreeing}
use Rattle.world_laws.proofs.Agreeing.Members.{forward}
use Rattle.change_code.specs.declared.space.Space.{Space}

-- the sending end is ready, and its next count is no lower
pub record IsReached (ms : List Member) (peer : List ℕ) (k : LinkKey) (n : ℕ) : Type 0 where
  pub member : Member
  pub at : member_at peer ms ≡ Some member
  pub link : LinkRec
  pub found : link_with k member.party ≡ Some link
  pub ready : link.ready ≡ true
  pub next : n ≤ link.next

-- where the sending end stands, it isn't ready
abbrev pub IsUnready : List Member → List ℕ → LinkKey → Type 0
IsUnready ms peer k = (y : Member) (l : LinkRec) → member_at peer ms ≡ Some y → link_with k y.party ≡ Some l → l.ready ≡ false

abbrev pub IsMet : List Member → List ℕ → LinkKey → ℕ → Type 0
IsMet ms peer k n = IsReached ms peer k n ⊎ ((n ≤ 2) × IsUnready ms peer k)

-- each link that takes
abbrev pub AllMet : List Member → Type 0
AllMet ms = (q : List ℕ) (y : Member) (peer label : List ℕ) (m : LinkRec) → member_at q ms ≡ Some y → link_with (takes peer label) y.party ≡ Some m → IsMet ms peer (sends q label) m.next

-- each link for sending that isn't ready yet
abbrev pub AllBegun : List Member → Type 0
AllBegun ms = (q : List ℕ) (y : Member) (peer label : List ℕ) (l : LinkRec) → member_at q ms ≡ Some y → link_with (sends peer label) y.party ≡ Some l → l.ready ≡ false → 2 ≤ l.next

-- how a row moves the counts that are expected, and the next of the link that it makes
pub record CountsMove (ms : List Member) (s : Party) (r : Row) : Type 0 where
  pub takes_on : (peer label : List ℕ) (m : LinkRec) → link_with (takes peer label) (apply r.edits s) ≡ Some m → ((l : LinkRec) × (link_with (takes peer label) s ≡ Some l) × (m.next ≡ l.next)) ⊎ IsMet ms peer (sends s.own label) m.next
  pub begun : (mk : Made) → r.makes ≡ Some mk → (m : LinkRec) → link_with (sends mk.recipient mk.label) (apply r.edits s) ≡ Some m → 2 ≤ m.next

pub side_of : (p : Party) (k : LinkKey) (l : LinkRec) → link_with k p ≡ Some l → l.side ≡ k.side
side_of p k l h = ap (λ (j : LinkKey). j.side) (link_at p k l h).key

-- edits that put links for sending alone
abbrev pub PutsSends : Edit → Type 0
PutsSends (Begin own role generator) = ⊥
PutsSends (PutLink l) = l.side ≡ Sends
PutsSends (DropLink peer label side) = Unit {0}
PutsSends (PutKey k) = Unit {0}
PutsSends DropEnded = Unit {0}
PutsSends (PutExchange x) = Unit {0}
PutsSends (DropExchange peer) = Unit {0}
PutsSends (PutAnswer a) = Unit {0}
PutsSends (SetGen v) = Unit {0}

-- a link after one was put
pub put_cases : (y : LinkRec) (ls : List LinkRec) (k : LinkKey) (m : LinkRec) → find_row link_key same_link k (put_row link_key same_link y ls) ≡ Some m → ((k ≡ link_key y) × (y ≡ m)) ⊎ (find_row link_key same_link k ls ≡ Some m)
put_cases y ls k m h = go (same_link k (link_key y)) refl (sym (find_put link_key same_link test_links k y ls) ∙ h)
  where
    go : (b : Bool) → same_link k (link_key y) ≡ b → cond b (Some y) (find_row link_key same_link k ls) ≡ Some m → ((k ≡ link_key y) × (y ≡ m)) ⊎ (find_row link_key same_link k ls ≡ Some m)
    go true i h = inl ((test_links.decides k (link_key y)).0 i, (cc))
    go false i h = inr h

edit_takes : (e : Edit) (s : Party) (peer label : List ℕ) (m : LinkRec) → PutsSends e → link_with (takes peer label) (apply_edit e s) ≡ Some m → link_with (takes peer label) s ≡ Some m
edit_takes (Begin own role generator) s peer label m t h = absurd t
edit_takes (PutLink l) s peer label m t h = elim (put_cases l s.links (takes peer label) m h) [
  | inl a ↦ absurd (let side : Takes ≡ l.side = ap (λ (k : LinkKey). k.side) a.0 in cc)
  | inr a ↦ a
]
edit_takes (DropLink p l side) s peer label m t h = go (same_link (takes peer label) (record { peer = p; label = l; side = side })) (sym (find_drop link_key same_link test_links (takes peer label) (record { peer = p; label = l; side = side }) s.links) ∙ h)
  where
    go : (b : Bool) → cond b None (link_with (takes peer label) s) ≡ Some m → link_with (takes peer label) s ≡ Some m
    go true h = absurd (cc)
    go false h = h
edit_takes (PutKey k) s peer label m t h = h
edit_takes DropEnded s peer label m t h = h
edit_takes (PutExchange x) s peer label m t h = h
edit_takes (DropExchange p) s peer label m t h = h
edit_takes (PutAnswer a) s peer label m t h = h
edit_takes (SetGen v) s peer label m t h = h

pub change_takes : (es : List Edit) (s : Party) (peer label : List ℕ) (m : LinkRec) → AllByRecursion PutsSends es → link_with (takes peer label) (apply es s) ≡ Some m → link_with (takes peer label) s ≡ Some m
change_takes [] s peer label m t h = h
change_takes (e ∷ es) s peer label m t h = edit_takes e s peer label m t.0 (change_takes es (apply_edit e s) peer label m t.1 h)

pub sending_counts : (ms : List Member) (s : Party) (r : Row) → AllByRecursion PutsSends r.edits → r.makes ≡ None → CountsMove ms s r
sending_counts ms s r t none = record { takes_on = λ peer label m h. inl (m, change_takes r.edits s peer label m t h, refl); begun = λ mk e m h. absurd (cc) }

module _ (o : Option LinkKey) (v : Lists) (p : List ℕ) (x : Member) (space : Space) (text : List ℕ) (r : Row) (found : member_at p v.members ≡ Some x) (sound : IsSound o x.party text r) (own_reply : OwnText x.party.own r.reply) (row : Agreeing v x space text r) (i : Agreed v) (move : CountsMove v.members x.party r) (met : AllMet v.members) (began : AllBegun v.members) where
  grown : PartyGrows o x.party (apply r.edits x.party)
  grown = change_grows o r.edits x.party sound.edits

  at_own : (q : List ℕ) → q ≡ x.party.own → member_at q v.members ≡ Some x
  at_own q e = subst (λ (a : List ℕ). member_at a v.members ≡ Some x) (own_is v.members p x (after x space r) found grown.own ∙ sym e) found

  back : (q : List ℕ) (y : Member) → member_at q (members_after v.members x space r) ≡ Some y → ((q ≡ x.party.own) × (y ≡ after x space r)) ⊎ (member_at q v.members ≡ Some y)
  back = member_back v.members p x (after x space r) found grown.own

  reached_on : (peer : List ℕ) (k : LinkKey) (n : ℕ) → IsReached v.members peer k n → IsReached (members_after v.members x space r) peer k n
  reached_on peer k n e =
      let f = forward o v p x space text r found sound own_reply row i peer e.member e.at in
      let l = f.2.goes.ready k e.link e.found e.ready in
      record { member = f.0; at = f.1; link = l.0; found = l.1; ready = l.2.ready e.ready; next = omega (arith, e.next, l.2.next) }

  -- a new link, or one that wasn't ready, is past its first count
  own_past : (peer label : List ℕ) (l : LinkRec) → ((j : LinkRec) → link_with (sends peer label) x.party ≡ Some j → j.ready ≡ false) → link_with (sends peer label) (apply r.edits x.party) ≡ Some l → 2 ≤ l.next
  own_past peer label l unready h = elim (grown.back (sends peer label) l h) [
    | inl b ↦ (let low : 2 ≤ b.0.next = began p x peer label b.0 found b.1 (unready b.0 b.1) in omega (arith, low, b.2.next))
    | inr n ↦ move.begun (record { recipient = peer; label = label }) (sound.made (sends peer label) n refl) l h
  ]

  settled : (peer q label : List ℕ) (n : ℕ) → n ≤ 2 → IsUnready v.members peer (sends q label) → IsMet (members_after v.members x space r) peer (sends q label) n
  settled peer q label n low unready = by_member (member_at peer (members_after v.members x space r)) refl
    where
      past : (y : Member) (l : LinkRec) → member_at peer (members_after v.members x space r) ≡ Some y → link_with (sends q label) y.party ≡ Some l → l.ready ≡ true → 2 ≤ l.next
      past y l at h ready = elim (back peer y at) [
        | inl t ↦ own_past q label l (λ j f. unready x j (at_own peer t.0) f) (subst (λ (z : Member). link_with (sends q label) z.party ≡ Some l) t.1 h)
        | inr t ↦ absurd (let no : l.ready ≡ false = unready y l t h in cc)
      ]

      by_ready : (y : Member) (l : LinkRec) (b : Bool) → member_at peer (members_after v.members x space r) ≡ Some y → link_with (sends q label) y.party ≡ Some l → l.ready ≡ b → IsMet (members_after v.members x space r) peer (sends q label) n
      by_ready y l true at h e = inl (record { member = y; at = at; link = l; found = h; ready = e; next = (let two : 2 ≤ l.next = past y l at h e in omega (arith, low, two)) })
      by_ready y l false at h e = inr (
        low,
        λ z j at_z f. (let same : z ≡ y = one_found z y at_z at in
            let is : j ≡ l = one_found j l (subst (λ (u : Member). link_with (sends q label) u.party ≡ Some j) same f) h in
            ap (λ (u : LinkRec). u.ready) is ∙ e),
      )

      by_link : (y : Member) (f : Option LinkRec) → member_at peer (members_after v.members x space r) ≡ Some y → link_with (sends q label) y.party ≡ f → IsMet (members_after v.members x space r) peer (sends q label) n
      by_link y None at h = inr (
        low,
        λ z j at_z f. absurd (let same : z ≡ y = one_found z y at_z at in
            let g : link_with (sends q label) y.party ≡ Some j = subst (λ (u : Member). link_with (sends q label) u.party ≡ Some j) same f in cc),
      )
      by_link y (Some l) at h = by_ready y l l.ready at h refl

      by_member : (f : Option Member) → member_at peer (members_after v.members x space r) ≡ f → IsMet (members_after v.members x space r) peer (sends q label) n
      by_member None at = inr (low, λ z j at_z f. absurd (cc))
      by_member (Some y) at = by_link y (link_with (sends q label) y.party) at refl

  still_met : (peer q label : List ℕ) (n : ℕ) → IsMet v.members peer (sends q label) n → IsMet (members_after v.members x space r) peer (sends q label) n
  still_met peer q label n (inl e) = inl (reached_on peer (sends q label) n e)
  still_met peer q label n (inr e) = settled peer q label n e.0 e.1

  pub met_on : AllMet (members_after v.members x space r)
  met_on q y peer label m at h = elim (back q y at) [
    | inl t ↦ own_met t.0 (subst (λ (z : Member). link_with (takes peer label) z.party ≡ Some m) t.1 h)
    | inr t ↦ still_met peer q label m.next (met q y peer label m t h)
  ]
    where
      own_met : q ≡ x.party.own → link_with (takes peer label) (apply r.edits x.party) ≡ Some m → IsMet (members_after v.members x space r) peer (sends q label) m.next
      own_met is j = still_met peer q label m.next (elim (move.takes_on peer label m j) [
        | inl b ↦ subst (λ (n : ℕ). IsMet v.members peer (sends q label) n) (sym b.2) (met q x peer label b.0 (at_own q is) b.1)
        | inr b ↦ subst (λ (z : List ℕ). IsMet v.members peer (sends z label) m.next) (sym is) b
      ])

  pub begun_on : AllBegun (members_after v.members x space r)
  begun_on q y peer label l at h unready = elim (back q y at) [
    | inl t ↦ own_begun (subst (λ (z : Member). link_with (sends peer label) z.party ≡ Some l) t.1 h)
    | inr t ↦ began q y peer label l t h unready
  ]
    where
      own_begun : link_with (sends peer label) (apply r.edits x.party) ≡ Some l → 2 ≤ l.next
      own_begun j = elim (grown.back (sends peer label) l j) [
        | inl b ↦ (let low : 2 ≤ b.0.next = began p x peer label b.0 found b.1 (not_ready b.0 l b.2 unready) in omega (arith, low, b.2.next))
        | inr n ↦ move.begun (record { recipient = peer; label = label }) (sound.made (sends peer label) n refl) l j
      ]
