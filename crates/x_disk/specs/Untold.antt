-- A disk that tells nothing but its faults.
use Rattle.std.specs.Prelude.{ℕ, None, refl}
use Rattle.x_disk.specs.Disk.{View, IsSound}

abbrev pub untold : ℕ → View
untold faults = record {
  now = None;
  stable = None;
  may_leave = λ c. ⊥;
  moment = 0;
  left_since = λ t c. ⊥;
  faults = faults;
  covers = λ end bytes calls. ⊥;
  calls_left = None;
}

pub untold_sound : (faults : ℕ) → IsSound (untold faults)
untold_sound faults = record {
  tells = refl;
  now_among = λ b is. absurd (cc is);
  stable_among = λ b is. absurd (cc is);
  counts_now = λ t c le is. is;
  only_now = λ c is. is;
  covers_less = λ end bytes calls less fewer covers le few. covers;
}
