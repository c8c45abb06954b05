-- What a session may have come to: whichever images a crash may leave, there is a run that they stand for.
use Rattle.std.proofs.Common.{◌≡◌, ◌≢◌, ℕ, Bool, true, false, Option, Some, None, List, ◌++◌, refl, sym, ◌∙◌, ap, subst, bytes_eq, append_assoc}
use Rattle.std.specs.Prelude.{is_some}
use Rattle.x_disk.specs.Disk.{View}
use Rattle.party_tables.proofs.Keys.{test_idents}
use Rattle.party_tables.proofs.Tables.{one_found}
use Rattle.key_store.specs.Store.{StandsWith}
use Rattle.member.specs.Member.{Member}
use Rattle.world_laws.specs.World.{World, HasMember, member_at}

-- the images stand for a network with the names of the start, which has written these texts
pub record IsAt (start : World) (texts : List (List ℕ)) (image : List ℕ → List ℕ) (v : World) : Type 0 where
  pub stands : (q : List ℕ) (x : Member) → member_at q v.members ≡ Some x → StandsWith (image q) x.party x.space
  pub there : (q : List ℕ) → is_some (member_at q v.members) ≡ is_some (member_at q start.members)
  pub texts_are : v.texts ≡ start.texts ++ texts

-- each is an image that a crash may leave
abbrev pub IsPossible : World → (List ℕ → View) → (List ℕ → List ℕ) → Type 0
IsPossible start disks image = (q : List ℕ) (x : Member) → member_at q start.members ≡ Some x → (disks q).may_leave (image q)

pub some_is : {A : Type 0} (o : Option A) → is_some o ≡ true → (a : A) × (o ≡ Some a)
some_is None h = absurd (cc)
some_is (Some a) h = (a, refl)

-- one event more, at the member of this name
module _ (start : World) (texts more : List (List ℕ)) (image new : List ℕ → List ℕ) (name : List ℕ) (w : World) (i : IsAt start texts image w)
    (x : Member) (at : member_at name w.members ≡ Some x) (own : name ≡ x.party.own) (others : (q : List ℕ) → q ≢ name → new q ≡ image q)
    (after : World) (beside : (q : List ℕ) → q ≢ x.party.own → member_at q after.members ≡ member_at q w.members)
    (stood : HasMember after x.party.own (StandsWith (new name))) (wrote : after.texts ≡ w.texts ++ more) where
  stands : (q : List ℕ) (b : Bool) → bytes_eq q name ≡ b → (z : Member) → member_at q after.members ≡ Some z → StandsWith (new q) z.party z.space
  stands q true e z h =
      let is : q ≡ name = (test_idents.decides q name).0 e in
      let at_z : member_at x.party.own after.members ≡ Some z = subst (λ (a : List ℕ). member_at a after.members ≡ Some z) (is ∙ own) h in
      let same : stood.member ≡ z = one_found stood.member z stood.at at_z in
      let here : StandsWith (new name) z.party z.space = subst (λ (m : Member). StandsWith (new name) m.party m.space) same stood.holds in
      subst (λ (a : List ℕ). StandsWith (new a) z.party z.space) (sym is) here
  stands q false e z h =
      let ne : q ≢ name = λ is. (let t : bytes_eq q name ≡ true = (test_idents.decides q name).1 is in cc) in
      let before : member_at q w.members ≡ Some z = sym (beside q (λ is. ne (is ∙ sym own))) ∙ h in
      subst (λ (a : List ℕ). StandsWith a z.party z.space) (sym (others q ne)) (i.stands q z before)

  there : (q : List ℕ) (b : Bool) → bytes_eq q name ≡ b → is_some (member_at q after.members) ≡ is_some (member_at q start.members)
  there q true e =
      let is : q ≡ name = (test_idents.decides q name).0 e in
      let now : is_some (member_at q after.members) ≡ true = ap is_some (ap (λ (a : List ℕ). member_at a after.members) (is ∙ own) ∙ stood.at) in
      let was : is_some (member_at q w.members) ≡ true = ap is_some (ap (λ (a : List ℕ). member_at a w.members) is ∙ at) in
      now ∙ (sym was ∙ i.there q)
  there q false e =
      let ne : q ≢ name = λ is. (let t : bytes_eq q name ≡ true = (test_idents.decides q name).1 is in cc) in
      ap is_some (beside q (λ is. ne (is ∙ sym own))) ∙ i.there q

  pub one_more : IsAt start (texts ++ more) new after
  one_more = record {
    stands = λ q z h. stands q (bytes_eq q name) refl z h;
    there = λ q. there q (bytes_eq q name) refl;
    texts_are = wrote ∙ (ap (λ (ts : List (List ℕ)). ts ++ more) i.texts_are ∙ append_assoc start.texts texts more);
  }
