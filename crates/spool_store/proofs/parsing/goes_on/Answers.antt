use Rattle.std.proofs.Common.{rules, refl, sym, arith}
use Rattle.party_state.specs.Ranges.{IsNoBegin}
use Rattle.spool_store.proofs.Going.{goes_more, all_go}
use Rattle.spool_store.proofs.parsing.goes_on.Goals as goal

pub loop-i-preserved : goal.loop-i-preserved
loop-i-preserved c =
    let is : IsNoBegin c.in-Some.edit.now = search rules in
    goes_more c.args.change.now c.loop-i.i c.in-Some.edit.now (sym c.in-Some.ensures) c.loop-i.invariant is

pub returns : goal.returns
returns c = (
  λ yes. all_go c.args.change.now c.loop-i.i (omega (arith, c.loop-i-test.false, c.len-i-end.ensures)) c.loop-i.invariant,
  λ all. refl,
)
