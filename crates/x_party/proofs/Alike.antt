-- What a party's disk tells, fetched and put back.
use Rattle.std.proofs.Common.{◌≡◌, ℕ, ◌+◌, ◌-◌, sym, ◌∙◌, subst, arith}
use Rattle.x_disk.specs.Disk.{View, LeavesOnly, LeavesNoMore, IsSound, IsUntouched}
use Rattle.x_disk.specs.Shelf.{IsAlike}
use Rattle.x_disk.proofs.Alike.{durable_alike, untouched_self, untouched_then}
use Rattle.x_disk.proofs.Runs.{weaker, begins_alike, ends_alike}
use Rattle.party_state.specs.State.{Party}
use Rattle.key_journal.specs.States.{room_of}
use Rattle.change_code.specs.declared.format.Format.{Format}
use Rattle.change_code.specs.declared.space.Space.{Space}
use Rattle.key_store.specs.Store.{Stored, IsStore, space, space_between}
use Rattle.x_party.specs.Images.{DiskStandsFor}

-- between a fetch and a put back nothing was written
pub untouched_between : (old v w new : View) → IsAlike old v → w.now ≡ v.now → LeavesNoMore v w → LeavesOnly v w v.may_leave → IsAlike w new → IsUntouched old new
untouched_between old v w new out same images run back = record {
  now = back.now ∙ (same ∙ out.now);
  images = λ c left. out.images c (images c (back.images c left));
  any_moment = weaker old new v.may_leave old.may_leave (begins_alike old v new v.may_leave out (ends_alike v w new v.may_leave run back)) out.images;
}

-- nor before it, and then the disk was put back
pub untouched_on : (old v w new : View) → IsUntouched old v → IsUntouched v w → IsAlike w new → IsUntouched old new
untouched_on old v w new first second back =
    let both = untouched_then old v w first second in
    record {
      now = back.now ∙ both.now;
      images = λ c left. both.images c (back.images c left);
      any_moment = ends_alike old w new old.may_leave both.any_moment back;
    }

pub stands_alike : (v w : View) (party : Party) (left : Space) → DiskStandsFor v party left → IsAlike v w → DiskStandsFor w party left
stands_alike v w party left stands alike = record {
  durable = durable_alike v w stands.durable alike;
  reads = λ image now. stands.reads image (sym alike.now ∙ now);
}

left_over : (end gate room : ℕ) → end ≡ gate + room → room ≡ end - gate
left_over end gate room is = omega (arith, is)

pub store_stands : (v : View) (gate end : ℕ) (f : Format) (party : Party) → IsStore v gate end f party → DiskStandsFor v party (space_between gate end f)
store_stands v gate end f party store = record {
  durable = store.durable;
  reads = λ image now.
      let s = store.stands image now in
      record {
        bodies = s.bodies;
        holds = s.holds;
        fold = s.fold;
        left = left_over end gate (room_of s.bodies) (store.room s.bodies (record { image = image; now = now; holds = s.holds }));
      };
}

-- a store that stayed: no call was made over its disk, and it stands for the same party with the same space
module _ {D : Type 0} (told : D → View) (old new : Stored D) (is : new ≡ old) where
  pub same_disk : IsSound (told old.disk) → IsUntouched (told old.disk) (told new.disk)
  same_disk sound = subst (λ (s : Stored D). IsUntouched (told old.disk) (told s.disk)) (sym is) (untouched_self (told old.disk) sound)

  pub old_stands : IsStore (told new.disk) new.gate new.end new.format new.party → DiskStandsFor (told new.disk) old.party (space old)
  old_stands store = subst (λ (s : Stored D). DiskStandsFor (told new.disk) s.party (space s)) is (store_stands (told new.disk) new.gate new.end new.format new.party store)
