-- What the disk of a store gives.
use Rattle.std.proofs.Common.{◌≡◌, ℕ, List, true, Option, Some, None, is_some, refl, sym, subst, arith}
use Rattle.x_disk.specs.Disk.{View, Tells}
use Rattle.party_state.specs.State.{Party}
use Rattle.change_code.specs.declared.format.Format.{Format}
use Rattle.key_store.specs.Store.{StandsWith, IsStore, space_between}

told_image : (now : Option (List ℕ)) → is_some now ≡ true → (image : List ℕ) × (now ≡ Some image)
told_image (Some image) is = (image, refl)
told_image None is = absurd (cc is)

-- each image of a store that a crash may leave now stands for its party, with its space
pub store_left : (v : View) (gate end : ℕ) (f : Format) (party : Party) → IsStore v gate end f party → Tells v → (c : List ℕ) → v.may_leave c → StandsWith c party (space_between gate end f)
store_left v gate end f party store tells c left =
    let image = told_image v.now tells in
    let s = store.stands image.0 image.1 in
    let stands : StandsWith image.0 party (space_between gate end f) =
    record { bodies = s.bodies; holds = s.holds; fold = s.fold; left = omega (arith, store.room s.bodies (record { image = image.0; now = image.1; holds = s.holds })) } in
    subst (λ (l : List ℕ). StandsWith l party (space_between gate end f)) (sym (store.durable.only image.0 c image.1 left)) stands
