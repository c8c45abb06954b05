-- The text of each drill is a scenario.
use Rattle.std.proofs.Common.{◌≡◌, ℕ, zero, suc, ◌+◌, ◌*◌, ◌<◌, ◌≤◌, ◌^◌, List, [], ◌++◌, sym, subst, arith, append-nil}
use Rattle.scenario.specs.declared.line.Line.{Line}
use Rattle.scenario_drill.specs.Drill.{draw, number_after, event, events, set_up, drill_text}
use Rattle.scenario_drill.specs.Laws.{DrillsRead}
use Rattle.scenario_drill.proofs.Gathered.{Sets, none, both, is_scenario}
use Rattle.scenario_drill.proofs.Beginning.{set_lines, begins}
use Rattle.scenario_drill.proofs.Events.{Reads, reads_both, event_reads}

-- a draw is small
low_number : (seed n : ℕ) → number_after seed (suc n) < 2 ^ 64
unfolding number_after
low_number seed n = omega arith

low_draw : (seed n m : ℕ) → n ≡ suc m → draw seed n < 2 ^ 64
low_draw seed n m is = let low = low_number seed m in subst (λ (k : ℕ). draw seed k < 2 ^ 64) (sym is) (omega (arith, low))

events_read : (seed n : ℕ) → n ≤ 10000 → Reads seed (events seed n) (3 * n)
unfolding events
events_read seed zero few = ([], λ more. none (set_lines seed ++ more))
events_read seed (suc n) few =
    let count : 3 * n + 3 ≡ 3 * suc n = omega arith in
    subst (Reads seed (events seed n ++ event seed n)) count
    (reads_both seed (events seed n) (event seed n) (3 * n) 3 (events_read seed n (omega (arith, few)))
    (event_reads seed n (draw seed (3 * n + 1)) (draw seed (3 * n + 2)) (draw seed (3 * n + 3)) (omega (arith, few)) (low_draw seed (3 * n + 2) (3 * n + 1) (omega arith))))

pub drills_read : DrillsRead
drills_read seed n few =
    let r : Reads seed (events seed n) (3 * n) = events_read seed n few in
    let behind : Sets (set_lines seed) (events seed n) r.0 (3 * n) = subst (λ (ls : List Line). Sets ls (events seed n) r.0 (3 * n)) (append-nil (set_lines seed)) (r.1 []) in
    let all : Sets [] (drill_text seed n) (set_lines seed ++ r.0) (20 + 3 * n) = both [] (set_up seed) (events seed n) (set_lines seed) r.0 20 (3 * n) (begins seed) behind in
    (set_lines seed ++ r.0, is_scenario (drill_text seed n) (set_lines seed ++ r.0) (20 + 3 * n) (omega (arith, few)) all)
