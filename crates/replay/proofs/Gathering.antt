-- The parties of open disks, one after another: their lines and their records.
use Rattle.std.proofs.Common.{◌≡◌, ℕ, ◌+◌, ◌<◌, ◌≤◌, List, [], ◌∷◌, ◌++◌, length, get_or, take, drop, Option, Some, None, refl, sym, ◌∙◌, ap, subst, arith, append_assoc, length-append, take-append-drop}
use Rattle.std.proofs.Math.Seq.{take-append-add}
use Rattle.std.proofs.lemmas.List.{append-nil, take_more, take-append-le}
use Rattle.std.proofs.lemmas.List.Sums.{sum_by-append}
use Rattle.x_base.specs.Edge.{AppendsTo, WrotePrefix}
use Rattle.party_tables.specs.declared.key.KeyStatus.{KeyStatus}
use Rattle.party_state.specs.State.{Party}
use Rattle.party_show.specs.Show.{shown}
use Rattle.member.specs.Member.{Member}
use Rattle.node_core.specs.Turns.{member_of}
use Rattle.course.specs.Tallies.{one_with, count_status, records_of}
use Rattle.open_parties.specs.OpenParties.{with_held, members, HoldsParty}
use Rattle.course.specs.Transcript.{show_lines}
use Rattle.open_parties.specs.declared.open_party.OpenParty.{OpenParty}
use Rattle.open_parties.specs.declared.open_party.PartyDisk.{PartyDisk}
use Rattle.open_parties.specs.declared.open_party.PartyDisk.TheVariants.{Open, Closed, Away}
use Rattle.replay.proofs.Leading.{appends_more}

-- what is gathered of one member after another
module _ {A : Type 0} (of : Member → List A) (all : List Member → List A) (none : all [] ≡ []) (one : (x : Member) (ms : List Member) → all (x ∷ ms) ≡ of x ++ all ms) where
  gather-append : (a b : List Member) → all (a ++ b) ≡ all a ++ all b
  gather-append [] b = ap (λ (l : List A). l ++ all b) (sym none)
  gather-append (x ∷ a) b =
      one x (a ++ b)
      ∙ (ap (λ (l : List A). of x ++ l) (gather-append a b) ∙ (sym (append_assoc (of x) (all a) (all b)) ∙ ap (λ (l : List A). l ++ all b) (sym (one x a))))

  gather-push : (a : List Member) (x : Member) → all (a ++ x ∷ []) ≡ all a ++ of x
  gather-push a x = gather-append a (x ∷ []) ∙ ap (λ (l : List A). all a ++ l) (one x [] ∙ (ap (λ (l : List A). of x ++ l) none ∙ append-nil (of x)))

members-append : {D : Type 0} (a b : List (OpenParty D)) → members (a ++ b) ≡ members a ++ members b
members-append [] b = refl
members-append {D = D} (s ∷ a) b = go s.held (members-append a b)
  where
    go : (h : PartyDisk D) → members (a ++ b) ≡ members a ++ members b → with_held h (members (a ++ b)) ≡ with_held h (members a) ++ members b
    go (Open node) is = ap (λ (l : List Member). member_of node ∷ l) is
    go (Closed disk) is = is
    go Away is = is

-- the member of an open disk, whose party this is
record MemberIn {D : Type 0} (h : PartyDisk D) (p : Party) : Type 0 where
  member : Member
  is : with_held h [] ≡ member ∷ []
  party_is : member.party ≡ p

member_in : {D : Type 0} (h : PartyDisk D) (p : Party) → HoldsParty h p → MemberIn h p
member_in (Open node) p is = record { member = member_of node; is = refl; party_is = sym is }
member_in (Closed disk) p is = absurd is
member_in Away p is = absurd is

-- what is gathered of one party more
module _ {A D : Type 0} (of : Member → List A) (all : List Member → List A) (none : all [] ≡ []) (one : (x : Member) (ms : List Member) → all (x ∷ ms) ≡ of x ++ all ms) where
  open_more : (open_parties : List (OpenParty D)) (place : ℕ) (s : OpenParty D) (p : Party) → place < length open_parties → s ≡ get_or open_parties place s → HoldsParty s.held p
      → (x : Member) × (x.party ≡ p) × (all (members (take (place + 1) open_parties)) ≡ all (members (take place open_parties)) ++ of x)
  open_more open_parties place s p lt read holds =
      let m : MemberIn s.held p = member_in s.held p holds in
      let cut : take (place + 1) open_parties ≡ take place open_parties ++ s ∷ [] = take_more open_parties place s lt ∙ ap (λ (y : OpenParty D). take place open_parties ++ y ∷ []) (sym read) in
      let split : members (take (place + 1) open_parties) ≡ members (take place open_parties) ++ m.member ∷ [] =
      ap members cut ∙ (members-append (take place open_parties) (s ∷ []) ∙ ap (λ (l : List Member). members (take place open_parties) ++ l) m.is) in
      (m.member, m.party_is, ap all split ∙ gather-push of all none one (members (take place open_parties)) m.member)

-- the show lines

abbrev lines_of : Member → List ℕ
lines_of x = shown x.party

wrote_some : (xs : List ℕ) (mid after : Option (List ℕ)) (a b rest : List ℕ) → mid ≡ Some (xs ++ a) → WrotePrefix mid after b → (n : ℕ) × (n ≤ length (a ++ (b ++ rest))) × (after ≡ Some (xs ++ take n (a ++ (b ++ rest))))
wrote_some xs None after a b rest is more = absurd (cc is)
wrote_some xs (Some ys) after a b rest is more =
    let y : ys ≡ xs ++ a = cc is in
    let n = more.0 in
    let within : n ≤ length b = more.1 in
    let cut : take (length a + n) (a ++ (b ++ rest)) ≡ a ++ take n b = take-append-add a (b ++ rest) n ∙ ap (λ (l : List ℕ). a ++ l) (take-append-le n b rest within) in (
      length a + n,
      omega (arith, within, length-append a (b ++ rest), length-append b rest),
      more.2 ∙ (ap (λ (l : List ℕ). Some (l ++ take n b)) y ∙ (ap Some (append_assoc xs a (take n b)) ∙ ap (λ (l : List ℕ). Some (xs ++ l)) (sym cut))),
    )

wrote_more : (before mid after : Option (List ℕ)) (a b rest : List ℕ) → AppendsTo before mid a → WrotePrefix mid after b → WrotePrefix before after (a ++ (b ++ rest))
wrote_more None mid after a b rest first more = tt
wrote_more (Some xs) mid after a b rest first more = wrote_some xs mid after a b rest first more

module _ {D : Type 0} (open_parties : List (OpenParty D)) (place : ℕ) (s : OpenParty D) (p : Party) (lt : place < length open_parties) (read : s ≡ get_or open_parties place s) (holds : HoldsParty s.held p) where
  lines_more : show_lines (members (take (place + 1) open_parties)) ≡ show_lines (members (take place open_parties)) ++ shown p
  lines_more =
      let m = open_more lines_of show_lines refl (λ x ms. refl) open_parties place s p lt read holds in
      m.2 ∙ ap (λ (q : Party). show_lines (members (take place open_parties)) ++ shown q) m.1

  pub shows_more : (before mid after : Option (List ℕ)) → AppendsTo before mid (show_lines (members (take place open_parties))) → AppendsTo mid after (shown p) → AppendsTo before after (show_lines (members (take (place + 1) open_parties)))
  shows_more before mid after first more = subst (AppendsTo before after) (sym lines_more) (appends_more before mid after (show_lines (members (take place open_parties))) (shown p) first more)

  pub shows_part : (before mid after : Option (List ℕ)) → AppendsTo before mid (show_lines (members (take place open_parties))) → WrotePrefix mid after (shown p) → WrotePrefix before after (show_lines (members open_parties))
  shows_part before mid after first more =
      let rest = show_lines (members (drop (place + 1) open_parties)) in
      let whole : show_lines (members open_parties) ≡ show_lines (members (take place open_parties)) ++ (shown p ++ rest) =
      ap (λ (l : List (OpenParty D)). show_lines (members l)) (sym (take-append-drop (place + 1) open_parties))
      ∙ (ap show_lines (members-append (take (place + 1) open_parties) (drop (place + 1) open_parties))
      ∙ (gather-append lines_of show_lines refl (λ x ms. refl) (members (take (place + 1) open_parties)) (members (drop (place + 1) open_parties))
      ∙ (ap (λ (l : List ℕ). l ++ rest) lines_more ∙ append_assoc (show_lines (members (take place open_parties))) (shown p) rest))) in
      subst (WrotePrefix before after) (sym whole) (wrote_more before mid after (show_lines (members (take place open_parties))) (shown p) rest first more)

  -- the records
  keys_more : (status : KeyStatus) → count_status status (records_of (members (take (place + 1) open_parties))) ≡ count_status status (records_of (members (take place open_parties))) + count_status status p.keys
  keys_more status =
      let m = open_more (λ (x : Member). x.party.keys) records_of refl (λ x ms. refl) open_parties place s p lt read holds in
      ap (count_status status) (m.2 ∙ ap (λ (q : Party). records_of (members (take place open_parties)) ++ q.keys) m.1)
      ∙ sum_by-append (one_with status) (records_of (members (take place open_parties))) p.keys

  pub keys_counted : (status : KeyStatus) (count here : ℕ) → count ≡ count_status status (records_of (members (take place open_parties))) → here ≡ count_status status p.keys
      → count + here ≡ count_status status (records_of (members (take (place + 1) open_parties)))
  keys_counted status count here so_far is =
      ap (λ (n : ℕ). n + here) so_far ∙ (ap (λ (n : ℕ). count_status status (records_of (members (take place open_parties))) + n) is ∙ sym (keys_more status))
