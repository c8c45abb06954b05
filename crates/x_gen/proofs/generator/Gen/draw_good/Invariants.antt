use Rattle.std.proofs.Common.{◌≡◌, ◌-◌}
use Rattle.x_gen.proofs.DrawLemmas.{good_of}
use Rattle.x_gen.proofs.generator.Gen.draw_good.Given as goal

-- the draws to come give what all the draws give
abbrev pub invariant-loop-i : goal.invariant-loop-i
invariant-loop-i l = good_of (16 - l.i) l.generator l.moment ≡ good_of 16 l.fn.self l.moment
