use Rattle.std.proofs.Common.{◌≡◌, ◌∙◌, ℕ, List, Bool, true, false, Ok, Err, refl, sym, ap, subst, bytes_eq}
use Rattle.std.specs.Cmp.Lexicographic.{bytes_decides}
use Rattle.party_state.specs.State.{Party}
use Rattle.key_store.specs.Store.{StandsWith, space}
use Rattle.mirror_store.specs.Framing.{IsSettled, IsCopying}
use Rattle.mirror_store.specs.declared.pair.PairCause.TheVariants.{Second, OtherParty, TooLarge}
use Rattle.mirror_store.specs.declared.uncopied.Uncopied.TheVariants as uncopied
use Rattle.mirror_store.proofs.Opened.{unmade_is, settled_other, settled_same, settled_switched, settled_large, settled_failed}
use Rattle.mirror_store.proofs.opening.settle.Goals as goal

apart_by : (a b : List ℕ) (r : Bool) → r ≡ bytes_eq a b → r ≡ false → a ≡ b → ⊥
apart_by a b r is isnt same = let never : true ≡ false = sym ((bytes_decides a b).1 same) ∙ (sym is ∙ isnt) in cc never

-- two identities are one, and so are those that they are
one_by : (a b one two : List ℕ) (r : Bool) → r ≡ bytes_eq a b → r ≡ true → a ≡ one → b ≡ two → two ≡ one
one_by a b one two r is are a_is b_is = sym b_is ∙ (sym ((bytes_decides a b).0 (sym is ∙ are)) ∙ a_is)

pub returns-then-not-same_identity : goal.returns-then-not-same_identity
returns-then-not-same_identity g c =
    let told = g.D.Disk.told in
    let a = c.own-own.result in
    let b = c.own-other.result in
    let apart : a ≡ b → ⊥ = apart_by a b c.same_identity.result c.same_identity.ensures c.if-not-same_identity.true in
    subst (λ u. IsSettled told c.args.first c.args.second (Err u)) (unmade_is c.unmade.result _ _ c.args.first.disk c.args.second.disk (OtherParty a b) c.unmade.ensures.disks c.unmade.ensures.cause c.into_disk.ensures.disk c.into_disk-then-not-same_identity.ensures.disk)
    (settled_other told c.args.first c.args.second c.view.ensures.stands c.view-2.ensures.stands (g.met.D.Disk.sound c.args.second.disk) a b
    (c.own-own.ensures.own ∙ ap (λ (p : Party). p.own) c.view.ensures.party) (c.own-other.ensures.own ∙ ap (λ (p : Party). p.own) c.view-2.ensures.party) apart)

pub returns-then-same : goal.returns-then-same
returns-then-same g c =
    let told = g.D.Disk.told in
    subst (λ f. IsSettled told c.args.first c.args.second (Ok (record { first = f; second = c.args.second }))) (sym c.of.ensures)
    (settled_same told c.args.first c.args.second c.view.ensures.stands c.view-2.ensures.stands (g.met.D.Disk.sound c.args.second.disk)
    (sym c.view-4.ensures.party ∙ (sym (c.same.ensures.0 c.if-same.true) ∙ c.view-3.ensures.party)))

pub returns-in-Ok : goal.returns-in-Ok
returns-in-Ok g c =
    let told = g.D.Disk.told in
    let s = c.in-Ok.second in
    let own : c.args.second.party.own ≡ c.args.first.party.own = one_by _ _ _ _ c.same_identity.result c.same_identity.ensures c.if-not-same_identity.false (c.own-own.ensures.own ∙ ap (λ (p : Party). p.own) c.view.ensures.party) (c.own-other.ensures.own ∙ ap (λ (p : Party). p.own) c.view-2.ensures.party) in
    let apart : c.args.second.party ≡ c.args.first.party → ⊥ = (λ same. let no : true ≡ false = sym (c.same.ensures.1 (c.view-3.ensures.party ∙ (sym same ∙ sym c.view-4.ensures.party))) ∙ c.if-same.false in cc no) in
    subst (λ f. IsSettled told c.args.first c.args.second (Ok (record { first = f; second = s }))) (sym c.of-in-Ok.ensures)
    (settled_switched told c.args.first c.args.second c.view.ensures.stands c.view-2.ensures.stands (g.met.D.Disk.sound c.args.second.disk) s own apart
    (subst (λ (p : Party). IsCopying told c.args.second.disk (λ image. StandsWith image c.args.second.party (space c.args.second)) p (Ok s)) c.view-5.ensures.party c.in-Ok.ensures))

pub returns-in-Err-TooLarge : goal.returns-in-Err-TooLarge
returns-in-Err-TooLarge g c =
    let told = g.D.Disk.told in
    let new = c.in-Err-TooLarge.second in
    let own : c.args.second.party.own ≡ c.args.first.party.own = one_by _ _ _ _ c.same_identity.result c.same_identity.ensures c.if-not-same_identity.false (c.own-own.ensures.own ∙ ap (λ (p : Party). p.own) c.view.ensures.party) (c.own-other.ensures.own ∙ ap (λ (p : Party). p.own) c.view-2.ensures.party) in
    let apart : c.args.second.party ≡ c.args.first.party → ⊥ = (λ same. let no : true ≡ false = sym (c.same.ensures.1 (c.view-3.ensures.party ∙ (sym same ∙ sym c.view-4.ensures.party))) ∙ c.if-same.false in cc no) in
    let copied : IsCopying told c.args.second.disk (λ image. StandsWith image c.args.second.party (space c.args.second)) c.view-5.result.now (Err (uncopied.TooLarge new)) = subst (λ e. IsCopying told c.args.second.disk (λ image. StandsWith image c.args.second.party (space c.args.second)) c.view-5.result.now (Err e)) c.in-Err-TooLarge.field-0-is c.in-Err-TooLarge.ensures in
    subst (λ v. IsSettled told c.args.first c.args.second (Err v)) (unmade_is c.unmade-in-Err-TooLarge.result _ _ c.args.first.disk new TooLarge c.unmade-in-Err-TooLarge.ensures.disks c.unmade-in-Err-TooLarge.ensures.cause c.into_disk-in-Err-TooLarge.ensures.disk refl)
    (settled_large told c.args.first c.args.second c.view.ensures.stands c.view-2.ensures.stands (g.met.D.Disk.sound c.args.second.disk) new own apart
    (subst (λ (p : Party). IsCopying told c.args.second.disk (λ image. StandsWith image c.args.second.party (space c.args.second)) p (Err (uncopied.TooLarge new))) c.view-5.ensures.party copied))

pub returns-in-Err-Failed : goal.returns-in-Err-Failed
returns-in-Err-Failed g c =
    let told = g.D.Disk.told in
    let u = c.in-Err-Failed.field-0-0 in
    let own : c.args.second.party.own ≡ c.args.first.party.own = one_by _ _ _ _ c.same_identity.result c.same_identity.ensures c.if-not-same_identity.false (c.own-own.ensures.own ∙ ap (λ (p : Party). p.own) c.view.ensures.party) (c.own-other.ensures.own ∙ ap (λ (p : Party). p.own) c.view-2.ensures.party) in
    let apart : c.args.second.party ≡ c.args.first.party → ⊥ = (λ same. let no : true ≡ false = sym (c.same.ensures.1 (c.view-3.ensures.party ∙ (sym same ∙ sym c.view-4.ensures.party))) ∙ c.if-same.false in cc no) in
    let copied : IsCopying told c.args.second.disk (λ image. StandsWith image c.args.second.party (space c.args.second)) c.view-5.result.now (Err (uncopied.Failed u)) = subst (λ e. IsCopying told c.args.second.disk (λ image. StandsWith image c.args.second.party (space c.args.second)) c.view-5.result.now (Err e)) c.in-Err-Failed.field-0-is c.in-Err-Failed.ensures in
    subst (λ v. IsSettled told c.args.first c.args.second (Err v)) (unmade_is c.unmade-in-Err-Failed.result _ _ c.args.first.disk u.disk (Second u.cause) c.unmade-in-Err-Failed.ensures.disks c.unmade-in-Err-Failed.ensures.cause c.into_disk-in-Err-Failed.ensures.disk refl)
    (settled_failed told c.args.first c.args.second c.view.ensures.stands c.view-2.ensures.stands (g.met.D.Disk.sound c.args.second.disk) u own apart
    (subst (λ (p : Party). IsCopying told c.args.second.disk (λ image. StandsWith image c.args.second.party (space c.args.second)) p (Err (uncopied.Failed u))) c.view-5.ensures.party copied))
