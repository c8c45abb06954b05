-- What is to be done, and the event for which it is done (this project's profile).
use Rattle.std.specs.Prelude.{◌≡◌, ℕ, List, Some, None, Err}
use Rattle.csm_feed.specs.declared.unheard.Unheard.{Unheard}
use Rattle.csm_feed.specs.Heard.{Heard}
use Rattle.world_laws.specs.Events.{Orders, Hears}
use Rattle.course.specs.LineEvents.{LineEvent, Nothing, At}
use Rattle.csm_feed.specs.Numbers.{unheard_number}
use Rattle.course.specs.declared.act.LineAct.{LineAct}
use Rattle.course.specs.declared.act.LineAct.TheVariants as act
use Rattle.party_state.specs.declared.command.Input.TheVariants as input

-- what is to be done is this event
abbrev pub Means : LineAct → LineEvent → Type 0
Means act.Nothing h = h ≡ Nothing
Means (act.Give party (input.Ordered command)) h = h ≡ At party (Orders command)
Means (act.Give party (input.Arrived a)) h = (bytes : List ℕ) × (h ≡ At party (Hears bytes (Some a)))
Means (act.Refuse party number) h = (bytes : List ℕ) × (u : Unheard) × Heard bytes (Err u) × (number ≡ unheard_number u) × (h ≡ At party (Hears bytes None))
