use Rattle.std.proofs.Common.{arith, ◌≡◌, true, sym, subst}
use Rattle.x_disk.specs.Disk.{Tells, LeavesOnly}
use Rattle.change_code.specs.Cost.{is_change}
use Rattle.member.specs.Member.{after}
use Rattle.node_core.specs.Turns.{member_of}
use Rattle.node_core.specs.declared.node.Turn.TheVariants as turn
use Rattle.open_parties.specs.Crash.{IsEither}
use Rattle.open_parties.specs.Failing.{ReadsEither}
use Rattle.open_parties.specs.Stops.{IsDiskAtStop}
use Rattle.open_parties.proofs.Carrying.{done_at_stop, broken_reads, turn_leaves}
use Rattle.open_parties.proofs.stopped.carry_out_to_call.Goals as goal

pub returns-in-Done-clause-at_stop : goal.returns-in-Done-clause-at_stop
returns-in-Done-clause-at_stop g c =
    let told = g.D.Disk.told in
    let p = c.args.planned in
    subst (λ k. IsDiskAtStop (told p.node.disk) (told k) (member_of p.node) (after (member_of p.node) p.plan.edits) (is_change p.plan.edits ≡ true) c.args.n) (sym c.into_disk.ensures.disk) (done_at_stop told p.node p.plan c.in-Done.node c.in-Done.verdict c.in-Done.reply c.in-Done.under c.in-Done.ensures.turn c.args.n (omega (arith, c.if-n-le4.false)))

pub returns-in-Broken-clause-left : goal.returns-in-Broken-clause-left
returns-in-Broken-clause-left g c =
    let told = g.D.Disk.told in
    let p = c.args.planned in
    let b = c.in-Broken.broken in
    subst (λ k. Tells (told p.node.disk) → ReadsEither (told k) (member_of p.node) (after (member_of p.node) p.plan.edits) (is_change p.plan.edits ≡ true)) (sym c.give_up-disk.ensures.disk) (broken_reads told p.node p.plan b (g.met.D.Disk.sound b.disk) c.in-Broken.ensures.turn)

pub returns-in-Done-clause-crash : goal.returns-in-Done-clause-crash
returns-in-Done-clause-crash g c = λ tells.
    let told = g.D.Disk.told in
    let p = c.args.planned in
    subst (λ k. LeavesOnly (told p.node.disk) (told k) (IsEither (member_of p.node) (after (member_of p.node) p.plan.edits) (is_change p.plan.edits ≡ true))) (sym c.into_disk.ensures.disk) (turn_leaves told p.node p.plan (turn.Done c.in-Done.node c.in-Done.verdict c.in-Done.reply c.in-Done.under) c.in-Done.ensures.turn tells)

pub returns-in-Broken-clause-crash : goal.returns-in-Broken-clause-crash
returns-in-Broken-clause-crash g c = λ tells.
    let told = g.D.Disk.told in
    let p = c.args.planned in
    subst (λ k. LeavesOnly (told p.node.disk) (told k) (IsEither (member_of p.node) (after (member_of p.node) p.plan.edits) (is_change p.plan.edits ≡ true))) (sym c.give_up-disk.ensures.disk) (turn_leaves told p.node p.plan (turn.Broken c.in-Broken.broken) c.in-Broken.ensures.turn tells)

pub returns-clause-crash : goal.returns-clause-crash
returns-clause-crash g c = λ tells.
    let told = g.D.Disk.told in
    let p = c.args.planned in
    subst (λ k. LeavesOnly (told p.node.disk) (told k) (IsEither (member_of p.node) (after (member_of p.node) p.plan.edits) (is_change p.plan.edits ≡ true))) (sym c.into_disk-in-NoMemory.ensures.disk) (turn_leaves told p.node p.plan (turn.NoMemory c.in-NoMemory.node) c.in-NoMemory.ensures.turn tells)
