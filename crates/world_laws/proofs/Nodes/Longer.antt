-- Runs with one event more, and runs up to the forged event.
use Rattle.std.proofs.Common.{◌≡◌, ℕ, zero, suc, ◌+◌, List, [], ◌∷◌, ◌++◌, take, refl}
use Rattle.world_laws.specs.World.{World, member_at}
use Rattle.world_laws.specs.Events.{Event, IsAction, AreEvents}
use Rattle.world_laws.specs.Steps.{step, run, number_after}
use Rattle.world_laws.specs.Honest.{HonestAt, HonestRun, IsForged}

pub run_more : (n : ℕ) (w : World) (es : List Event) (e : Event) → run n w (es ++ e ∷ []) ≡ step (number_after n es) (run n w es) e
run_more n w [] e = refl
run_more n w (x ∷ xs) e = run_more (suc n) (step n w x) xs e

pub events_more : (es : List Event) (e : Event) → AreEvents es → IsAction e.action → AreEvents (es ++ e ∷ [])
events_more [] e d i = (i, tt)
events_more (x ∷ xs) e d i = (d.0, events_more xs e d.1 i)

pub honest_more : (n : ℕ) (w : World) (es : List Event) (e : Event) → HonestRun n w es → HonestAt (run n w es).facts (member_at e.party (run n w es).members) e.action → HonestRun n w (es ++ e ∷ [])
honest_more n w [] e h i = (i, tt)
honest_more n w (x ∷ xs) e h i = (h.0, honest_more (suc n) (step n w x) xs e h.1 i)

pub forged_front : (n : ℕ) (w : World) (es : List Event) (k : ℕ) → IsForged n w es k → HonestRun n w (take k es)
forged_front n w [] k f = absurd f
forged_front n w (x ∷ xs) zero f = tt
forged_front n w (x ∷ xs) (suc k) f = (f.0, forged_front (suc n) (step n w x) xs k f.1)

-- a run is honest, or has no forged event: not both
pub honest_unforged : (n : ℕ) (w : World) (es : List Event) (k : ℕ) → HonestRun n w es → IsForged n w es k → ⊥
honest_unforged n w [] k h f = f
honest_unforged n w (x ∷ xs) zero h f = f h.0
honest_unforged n w (x ∷ xs) (suc k) h f = honest_unforged (suc n) (step n w x) xs k h.1 f.1
