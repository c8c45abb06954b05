use Rattle.std.proofs.Common.{◌≡◌, ℕ, List, ◌++◌, length}
use Rattle.x_mac.specs.Running.{Holds}
use Rattle.x_mac.proofs.running.Running.push.Given as goal

-- what stands before the rest is taken in
abbrev pub invariant-loop-first : goal.invariant-loop-first
invariant-loop-first l = (front : List ℕ) × ((front ++ l.rest ≡ l.piece) × ((key : ℕ) (text : List ℕ) → Holds l.fn.self key text → Holds l.self key (text ++ front)))

abbrev pub decreases-loop-first : goal.decreases-loop-first
decreases-loop-first l = length l.rest
