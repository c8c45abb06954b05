-- Each key service message takes effect at most once: what is kept of those that were accepted, and the row that stands.
use Rattle.std.proofs.Common.{Contains}
use Rattle.std.proofs.Common.{arith, ◌≡◌, ◌≢◌, ℕ, ◌≤◌, ◌<◌, ◌⊎◌, inl, inr, Option, Some, None, List, ◌++◌, sym, ◌∙◌, ap, subst, AllPairs, All, get_or, append-nil, bytes_eq}
use Rattle.std.proofs.lemmas.List.Elements.{All-weaker, All-push}
use Rattle.std.proofs.lemmas.List.Quantifiers.{all_pairs_push}
use Rattle.csm_grammar.specs.declared.message.Ksm.{Ksm}
use Rattle.csm_grammar.specs.declared.message.Message.TheVariants as message
use Rattle.csm_grammar.specs.Spelling.{Says}
use Rattle.csm_read.proofs.Lawful.{one_meaning}
use Rattle.x_base.specs.declared.key_name.FullName.{FullName}
use Rattle.party_tables.specs.declared.link.LinkKey.{LinkKey}
use Rattle.party_tables.specs.declared.link.LinkRec.{LinkRec}
use Rattle.party_tables.specs.Tables.{put_row}
use Rattle.party_tables.specs.Keys.{takes}
use Rattle.party_state.specs.State.{link_with}
use Rattle.party_state.specs.Rows.{Accepted, OfKsm}
use Rattle.party_tables.proofs.Tables.{one_found}
use Rattle.member.specs.Member.{Member}
use Rattle.world_laws.specs.World.{Acceptance, own_of, member_at}
use Rattle.world_laws.specs.Steps.{acceptances_of}
use Rattle.world_laws.specs.Starts.{Each}
use Rattle.bank_keys.specs.Ksm.{body_twin, next_behind, key_names}
use Rattle.world_laws.specs.Laws.{AcceptedApart}
use Rattle.world_laws.proofs.Lists.Members.{own_is, after_at, member_cases}
use Rattle.world_laws.proofs.Links.Growth.{LinkGrows}
use Rattle.world_laws.proofs.Links.Taking.{TakesGrow}
use Rattle.world_laws.proofs.Links.Found.{HasLinks}
use Rattle.world_laws.proofs.Links.Taken.{ksm_link, ksm_count, ksm_name, ksm_names, ksm_next, count_less, among_tells, name_count, name_link, ksm_link_grows, ksm_name_stays}
use Rattle.world_laws.proofs.Counting.Sound.{KsmFine, AcceptsFine}

-- an accepted key service message's count is below what its link expects
pub record KsmBelow (ms : List Member) (a : Acceptance) : Type 0 where
  pub member : Member
  pub at : member_at a.party ms ≡ Some member
  pub ksm : Ksm
  pub said : Says a.text (message.Ksm ksm)
  pub link : LinkRec
  pub found : ksm_link member.party ksm ≡ Some link
  pub names : a.names ≡ ksm_names member.party ksm link
  pub below : ksm_next ksm ≤ link.next

abbrev pub AcceptedBelow : List Member → Acceptance → Type 0
AcceptedBelow ms a = a.class ≡ OfKsm → KsmBelow ms a

-- a party whose links go on takes the place of the member
module _ (ms : List Member) (p : List ℕ) (x y : Member) (text : List ℕ) (found : member_at p ms ≡ Some x) (g : TakesGrow x.party y.party) where
  at_own : p ≡ x.party.own
  at_own = own_is ms p x y found g.own

  at_after : member_at x.party.own (put_row own_of bytes_eq y ms) ≡ Some y
  at_after = after_at ms p x y found g.own

  cases : (q : List ℕ) (z : Member) → member_at q ms ≡ Some z → ((q ≡ x.party.own) × (z ≡ x) × (member_at q (put_row own_of bytes_eq y ms) ≡ Some y)) ⊎ (member_at q (put_row own_of bytes_eq y ms) ≡ Some z)
  cases = member_cases ms p x y found g.own

  -- an acceptance from before, and the row's

  pub ksm_on : (a : Acceptance) → AcceptedBelow ms a → AcceptedBelow (put_row own_of bytes_eq y ms) a
  ksm_on a f is =
      let b : KsmBelow ms a = f is in
      elim (cases a.party b.member b.at) [
        | inl t ↦ (let i : ksm_link x.party b.ksm ≡ Some b.link = subst (λ (v : Member). ksm_link v.party b.ksm ≡ Some b.link) t.1 b.found in
            let u : a.names ≡ ksm_names x.party b.ksm b.link = subst (λ (v : Member). a.names ≡ ksm_names v.party b.ksm b.link) t.1 b.names in
            let k = ksm_link_grows x.party y.party b.ksm.originator b.ksm.body b.link g i in
            record { member = y; at = t.2; ksm = b.ksm; said = b.said; link = k.0; found = k.1; names = u ∙ ap (λ (z : FullName). key_names z (body_twin b.ksm.body)) (ksm_name_stays x.party y.party b.ksm.originator b.ksm.body b.link k.0 g.own k.2); below = omega (arith, b.below, k.2.next) })
        | inr t ↦ record { member = b.member; at = t; ksm = b.ksm; said = b.said; link = b.link; found = b.found; names = b.names; below = b.below }
      ]

  -- a message that was accepted has another name and another text than the one that is
  pub ksm_apart : Each (λ v. HasLinks v.party) ms → (a : Acceptance) (k : Accepted) → AcceptedBelow ms a → AcceptsFine x.party y.party text (Some k) → AcceptedApart a (record { party = x.party.own; text = text; class = k.class; names = k.names })
  ksm_apart links a k below fine ca ck same_party = (by_name, by_text)
    where
      b : KsmBelow ms a
      b = below ca

      f : KsmFine x.party y.party text k
      f = fine ck

      same : b.member ≡ x
      same = one_found b.member x b.at (subst (λ (q : List ℕ). member_at q ms ≡ Some x) (at_own ∙ sym same_party) found)

      found_b : ksm_link x.party b.ksm ≡ Some b.link
      found_b = subst (λ (v : Member). ksm_link v.party b.ksm ≡ Some b.link) same b.found

      names_b : a.names ≡ ksm_names x.party b.ksm b.link
      names_b = subst (λ (v : Member). a.names ≡ ksm_names v.party b.ksm b.link) same b.names

      by_name : (u : FullName) → Contains a.names u → Contains k.names u → ⊥
      by_name u in_a in_k =
          let i = among_tells (ksm_name x.party b.ksm b.link) u (body_twin b.ksm.body) (subst (λ (z : List FullName). Contains z u) names_b in_a) in
          let j = among_tells (ksm_name x.party f.ksm f.link) u (body_twin f.ksm.body) (subst (λ (z : List FullName). Contains z u) f.names in_k) in
          let issuer : (ksm_name x.party b.ksm b.link).name.issuer ≡ (ksm_name x.party f.ksm f.link).name.issuer = sym i.0 ∙ j.0 in
          let label : (ksm_name x.party b.ksm b.link).name.label ≡ (ksm_name x.party f.ksm f.link).name.label = sym i.1 ∙ j.1 in
          let count_b : (ksm_name x.party b.ksm b.link).name.count ≡ ksm_count b.ksm = name_count x.party b.ksm.originator b.ksm.body b.link in
          let count_f : (ksm_name x.party f.ksm f.link).name.count ≡ ksm_count f.ksm = name_count x.party f.ksm.originator f.ksm.body f.link in
          let next_b : next_behind (ksm_name x.party b.ksm b.link).name.count (body_twin b.ksm.body) ≡ ksm_next b.ksm = ap (λ (c : ℕ). next_behind c (body_twin b.ksm.body)) count_b in
          let at_b = name_link x.party b.ksm.originator b.ksm.body b.link (links p x found) found_b in
          let at_f : link_with (takes (ksm_name x.party f.ksm f.link).name.issuer (ksm_name x.party f.ksm f.link).name.label) x.party ≡ Some f.link = name_link x.party f.ksm.originator f.ksm.body f.link (links p x found) f.before in
          let key : takes (ksm_name x.party b.ksm b.link).name.issuer (ksm_name x.party b.ksm b.link).name.label ≡ takes (ksm_name x.party f.ksm f.link).name.issuer (ksm_name x.party f.ksm f.link).name.label = (λ h. takes (issuer h) (label h)) in
          let at_c : link_with (takes (ksm_name x.party f.ksm f.link).name.issuer (ksm_name x.party f.ksm f.link).name.label) x.party ≡ Some b.link = subst (λ (z : LinkKey). link_with z x.party ≡ Some b.link) key at_b in
          let next : b.link.next ≡ f.link.next = ap (λ (z : LinkRec). z.next) (one_found b.link f.link at_c at_f) in
          omega (arith, b.below, f.low, next, next_b, count_f, i.3, j.2)

      by_text : a.text ≢ text
      by_text e =
          let said_b : Says text (message.Ksm b.ksm) = subst (λ (z : List ℕ). Says z (message.Ksm b.ksm)) e b.said in
          let one : message.Ksm b.ksm ≡ message.Ksm f.ksm = one_meaning text (message.Ksm b.ksm) (message.Ksm f.ksm) said_b f.said in
          let is : b.ksm ≡ f.ksm = cc in
          let at_c : ksm_link x.party f.ksm ≡ Some b.link = subst (λ (z : Ksm). ksm_link x.party z ≡ Some b.link) is found_b in
          let next : b.link.next ≡ f.link.next = ap (λ (z : LinkRec). z.next) (one_found b.link f.link at_c f.before) in
          let count : ksm_count b.ksm ≡ ksm_count f.ksm = ap ksm_count is in
          let less : ksm_count b.ksm < ksm_next b.ksm = count_less (ksm_count b.ksm) (body_twin b.ksm.body) in
          omega (arith, b.below, f.low, next, count, less)

  new_accepted : (k : Accepted) → AcceptsFine x.party y.party text (Some k) → AcceptedBelow (put_row own_of bytes_eq y ms) (record { party = x.party.own; text = text; class = k.class; names = k.names })
  new_accepted a fine ck =
      let f : KsmFine x.party y.party text a = fine ck in
      let k = ksm_link_grows x.party y.party f.ksm.originator f.ksm.body f.link g f.before in
      let same : k.0 ≡ f.later = one_found k.0 f.later k.1 f.after in
      let u : ksm_name x.party f.ksm f.link ≡ ksm_name y.party f.ksm f.later = ksm_name_stays x.party y.party f.ksm.originator f.ksm.body f.link f.later g.own (subst (LinkGrows f.link) same k.2) in
      record { member = y; at = at_after; ksm = f.ksm; said = f.said; link = f.later; found = f.after; names = f.names ∙ ap (λ (z : FullName). key_names z (body_twin f.ksm.body)) u; below = f.past }

  pub kept_accepted : (accs : List Acceptance) (o : Option Accepted) → AcceptsFine x.party y.party text o → All (AcceptedBelow ms) accs → All (AcceptedBelow (put_row own_of bytes_eq y ms)) (accs ++ acceptances_of x.party.own text o)
  kept_accepted accs o f a = go o f
    where
      old : All (AcceptedBelow (put_row own_of bytes_eq y ms)) accs
      old = All-weaker (AcceptedBelow ms) (AcceptedBelow (put_row own_of bytes_eq y ms)) ksm_on accs a

      go : (o : Option Accepted) → AcceptsFine x.party y.party text o → All (AcceptedBelow (put_row own_of bytes_eq y ms)) (accs ++ acceptances_of x.party.own text o)
      go None f = rw append-nil old
      go (Some k) f = All-push (AcceptedBelow (put_row own_of bytes_eq y ms)) accs (record { party = x.party.own; text = text; class = k.class; names = k.names }) old (new_accepted k f)

  pub kept_once : (accs : List Acceptance) → Each (λ v. HasLinks v.party) ms → (o : Option Accepted) → AcceptsFine x.party y.party text o → All (AcceptedBelow ms) accs → AllPairs AcceptedApart accs → AllPairs AcceptedApart (accs ++ acceptances_of x.party.own text o)
  kept_once accs links None f a once = rw append-nil once
  kept_once accs links (Some k) f a once = all_pairs_push AcceptedApart accs (record { party = x.party.own; text = text; class = k.class; names = k.names }) once (λ i d l. ksm_apart links (get_or accs i d) k (a i d l) f)
