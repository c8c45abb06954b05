-- Members, where one is put, and what is known of the party's tables.
use Rattle.std.proofs.Common.{◌≡◌, ◌≢◌, ◌↔◌, ◌⊎◌, ℕ, inl, inr, Bool, true, false, cond, List, Some, refl, sym, ◌∙◌, bytes_eq}
use Rattle.x_base.specs.Names.{IsIdent}
use Rattle.x_base.specs.declared.party.Role.{Role}
use Rattle.x_gen.specs.Laws.{OddStays}
use Rattle.x_gen.specs.declared.generator.Gen.{Gen}
use Rattle.party_tables.specs.declared.link.LinkKey.{LinkKey}
use Rattle.party_tables.specs.declared.link.LinkRec.{LinkRec}
use Rattle.party_tables.specs.Keys.{same_link, link_key}
use Rattle.party_tables.specs.Tables.{put_row}
use Rattle.party_tables.proofs.Keys.{test_idents}
use Rattle.party_tables.proofs.Tables.{one_found, find_put}
use Rattle.party_state.specs.declared.edit.Edit.{Edit}
use Rattle.party_state.specs.declared.edit.Edit.TheVariants.{PutLink}
use Rattle.party_state.specs.Ranges.{AreInRange, IsGen, IsParty}
use Rattle.party_state.specs.State.{Party, apply, apply_edit, begun, link_with}
use Rattle.member.specs.Member.{Member}
use Rattle.world_laws.specs.World.{own_of, member_at}

-- what is known of parties and of parity
pub record Known : Type 0 where
  pub put : (k : LinkKey) (l : LinkRec) (p : Party) → link_with k (apply_edit (PutLink l) p) ≡ cond (same_link k (link_key l)) (Some l) (link_with k p)
  pub same : (a b : LinkKey) → (same_link a b ≡ true) ↔ (a ≡ b)
  pub found : (k : LinkKey) (l : LinkRec) (p : Party) → link_with k p ≡ Some l → k ≡ link_key l
  pub begins : (own : List ℕ) (role : Role) (g : Gen) → IsIdent own → IsGen g → IsParty (begun own role g)
  pub stays : (es : List Edit) (p : Party) → AreInRange es → IsParty p → IsParty (apply es p)
  pub odd : OddStays

-- two names are one, or not
pub names_differ : (p q : List ℕ) → (p ≡ q) ⊎ (p ≢ q)
names_differ p q = go (bytes_eq p q) refl
  where
    go : (b : Bool) → bytes_eq p q ≡ b → (p ≡ q) ⊎ (p ≢ q)
    go true e = inl ((test_idents.decides p q).0 e)
    go false e = inr (λ is. (let t : bytes_eq p q ≡ true = (test_idents.decides p q).1 is in absurd (cc)))

module _ (y : Member) (ms : List Member) where
  at_put : (q : List ℕ) (b : Bool) → bytes_eq q y.party.own ≡ b → member_at q (put_row own_of bytes_eq y ms) ≡ cond b (Some y) (member_at q ms)
  at_put q b e = rw (← e) (find_put own_of bytes_eq test_idents q y ms)

  pub put_here : (q : List ℕ) → q ≡ y.party.own → member_at q (put_row own_of bytes_eq y ms) ≡ Some y
  put_here q is = at_put q true ((test_idents.decides q y.party.own).1 is)

  pub put_there : (q : List ℕ) → q ≢ y.party.own → member_at q (put_row own_of bytes_eq y ms) ≡ member_at q ms
  put_there q ne = go (bytes_eq q y.party.own) refl
    where
      go : (b : Bool) → bytes_eq q y.party.own ≡ b → member_at q (put_row own_of bytes_eq y ms) ≡ member_at q ms
      go true e = absurd (ne ((test_idents.decides q y.party.own).0 e))
      go false e = at_put q false e

  -- who is found is the one that was put, or was there before
  pub put_cases : (q : List ℕ) (z : Member) → member_at q (put_row own_of bytes_eq y ms) ≡ Some z → ((q ≡ y.party.own) × (z ≡ y)) ⊎ ((q ≢ y.party.own) × (member_at q ms ≡ Some z))
  put_cases q z h = elim (names_differ q y.party.own) [
    | inl is ↦ inl (is, one_found z y h (put_here q is))
    | inr ne ↦ inr (ne, sym (put_there q ne) ∙ h)
  ]
