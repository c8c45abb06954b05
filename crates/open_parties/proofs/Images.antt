-- What a read gives of a party's disk.
use Rattle.std.proofs.Common.{◌≡◌, ℕ, ◌+◌, ◌-◌, List, Some, arith}
use Rattle.x_disk.specs.Disk.{View, LeavesOnly, IsSound}
use Rattle.key_journal.specs.States.{room_of}
use Rattle.party_state.specs.State.{Party}
use Rattle.change_code.specs.declared.format.Format.{Format}
use Rattle.key_store.specs.Store.{StandsWith, IsStore, space_between}

left_over : (gate end room : ℕ) → end ≡ gate + room → room ≡ end - gate
left_over gate end room is = omega (arith, is)

-- what a read gives of a store
pub image_of : (v : View) (gate end : ℕ) (format : Format) (party : Party) → IsStore v gate end format party → (image : List ℕ) → v.now ≡ Some image → StandsWith image party (space_between gate end format)
image_of v gate end format party store image now =
    let s = store.stands image now in
    record { bodies = s.bodies; holds = s.holds; fold = s.fold; left = left_over gate end (room_of s.bodies) (store.room s.bodies (record { image = image; now = now; holds = s.holds })) }

-- what a read gives is among what a run left
pub read_left : (v w : View) (P : List ℕ → Type 0) → IsSound w → LeavesOnly v w P → (image : List ℕ) → w.now ≡ Some image → P image
read_left v w P sound run image now = run.each image (sound.counts_now v.moment image run.later (sound.now_among image now))
