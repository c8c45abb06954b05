-- The course of a scenario: line after line, what happens in the network and what is written (this project's profile).
use Rattle.std.specs.Prelude.{◌≡◌, ℕ, Bool, List, Option}
use Rattle.x_base.specs.Edge.{AppendsTo}
use Rattle.x_disk.specs.Disk.{View}
use Rattle.replay.specs.PlayState.{Shows}
use Rattle.course.specs.declared.progress.Progress.{Progress}
use Rattle.replay.specs.declared.play_state.PlayState.{PlayState}
use Rattle.course.specs.Course.{Course}

-- the state shows the course, and its transcript was written since the sink told this
pub record IsAt {D : Type 0} (tell : Bool) (told : D → View) (start : Option (List ℕ)) (c : Course) (s : PlayState D) (now : Progress) (written : Option (List ℕ)) : Type 0 where
  pub shows : Shows tell told c.world s
  pub now_is : c.now ≡ now
  pub out : AppendsTo start written c.transcript
