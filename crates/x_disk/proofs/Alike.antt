-- What a read gives, a disk that isn't written, and one that tells what another does, step after step.
use Rattle.std.proofs.Common.{◌≡◌, ℕ, List, true, Option, Some, None, is_some, refl, sym, ◌∙◌, ap}
use Rattle.x_disk.specs.Disk.{View, IsDurable, LeavesOnly, IsSound, IsUntouched}
use Rattle.x_disk.specs.Shelf.{IsAlike, OthersStay}
use Rattle.x_disk.proofs.Runs.{began, joined, weaker, begins_alike, ends_alike}

pub told_now : (now : Option (List ℕ)) → is_some now ≡ true → (image : List ℕ) × (now ≡ Some image)
told_now (Some image) is = (image, refl)
told_now None is = absurd (cc is)

pub tells_by : (now : Option (List ℕ)) (image : List ℕ) → now ≡ Some image → is_some now ≡ true
tells_by now image is = ap is_some is

pub alike_trans : (u v w : View) → IsAlike u v → IsAlike v w → IsAlike u w
alike_trans u v w first second = record {
  now = second.now ∙ first.now;
  stable = second.stable ∙ first.stable;
  moment = second.moment ∙ first.moment;
  images = λ c left. first.images c (second.images c left);
  images_stay = λ c left. second.images_stay c (first.images_stay c left);
  since = λ t c left. first.since t c (second.since t c left);
  since_stays = λ t c left. second.since_stays t c (first.since_stays t c left);
  covers = λ end bytes calls is. second.covers end bytes calls (first.covers end bytes calls is);
}

pub others_on : (name : List ℕ) (old mid new : List ℕ → View) → OthersStay name old mid → OthersStay name mid new → OthersStay name old new
others_on name old mid new first second = λ other apart. alike_trans (old other) (mid other) (new other) (first other apart) (second other apart)

pub durable_alike : (v w : View) → IsDurable v → IsAlike v w → IsDurable w
durable_alike v w durable alike = record {
  only = λ b c now left. durable.only b c (sym alike.now ∙ now) (alike.images c left);
  stable = alike.stable ∙ (durable.stable ∙ sym alike.now);
}

-- no call was made
pub untouched_self : (v : View) → IsSound v → IsUntouched v v
untouched_self v sound = record { now = refl; images = λ c left. left; any_moment = began v v.may_leave sound (λ c left. left) }

-- two runs that write nothing
pub untouched_then : (old mid new : View) → IsUntouched old mid → IsUntouched mid new → IsUntouched old new
untouched_then old mid new first second = record {
  now = second.now ∙ first.now;
  images = λ c left. first.images c (second.images c left);
  any_moment = joined old mid new old.may_leave first.any_moment (weaker mid new mid.may_leave old.may_leave second.any_moment first.images);
}

pub untouched_alike : (old new : View) → IsSound old → IsAlike old new → IsUntouched old new
untouched_alike old new sound alike = record {
  now = alike.now;
  images = λ c left. alike.images c left;
  any_moment = ends_alike old old new old.may_leave (untouched_self old sound).any_moment alike;
}

-- a run between a fetch and a put back
module _ (old v w new : View) (out : IsAlike old v) (back : IsAlike w new) where
  pub leaves_around : (P : List ℕ → Type 0) → LeavesOnly v w P → LeavesOnly old new P
  leaves_around P run = begins_alike old v new P out (ends_alike v w new P run back)

  pub untouched_around : IsUntouched v w → IsUntouched old new
  untouched_around still = record {
    now = back.now ∙ (still.now ∙ out.now);
    images = λ c left. out.images c (still.images c (back.images c left));
    any_moment = weaker old new v.may_leave old.may_leave (leaves_around v.may_leave still.any_moment) out.images;
  }
