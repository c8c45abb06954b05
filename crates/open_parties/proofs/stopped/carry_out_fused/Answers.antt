use Rattle.std.proofs.Common.{arith, ◌≡◌, ℕ, ◌-◌, true, sym, ◌∙◌, ap, ap₂, subst}
use Rattle.x_disk.specs.Disk.{LeavesOnly}
use Rattle.x_disk.specs.declared.disk.DiskErr.TheVariants as disk
use Rattle.change_code.specs.Cost.{is_change}
use Rattle.member.specs.Member.{after}
use Rattle.node_core.specs.Turns.{member_of}
use Rattle.node_core.specs.declared.node.Turn.TheVariants as turn
use Rattle.open_parties.specs.Crash.{IsEither}
use Rattle.open_parties.specs.Stops.{IsDiskAtStop}
use Rattle.open_parties.proofs.Carrying.{is_fault, fused_done, fused_cut, fused_leaves}
use Rattle.open_parties.proofs.stopped.carry_out_fused.Goals as goal

pub returns-in-Done-clause-at_stop : goal.returns-in-Done-clause-at_stop
returns-in-Done-clause-at_stop g c =
    let told = g.D.Disk.told in
    let p = c.args.planned in
    let f = c.fuse.result in
    let same : member_of f.node ≡ member_of p.node = λ i. record { party = c.fuse.ensures.party i; space = record { format = c.fuse.ensures.format i; room = ap₂ (λ (e s : ℕ). e - s) c.fuse.ensures.place.1 c.fuse.ensures.place.0 i } } in
    let count : c.saturating_sub.result ≡ c.args.n - 1 = omega (arith, c.saturating_sub.ensures) in
    subst (λ k. IsDiskAtStop (told p.node.disk) (told k) (member_of p.node) (after (member_of p.node) p.plan.edits) (is_change p.plan.edits ≡ true) c.args.n) (sym (c.into_inner.ensures ∙ ap (λ k. k.disk) c.into_disk.ensures.disk))
    (fused_done told p.node f.node p.plan f.plan c.saturating_sub.result c.args.n c.fuse.ensures.plan same count c.requires c.fuse.ensures.fused c.in-Done.node c.in-Done.verdict c.in-Done.reply c.in-Done.under c.in-Done.ensures.turn)

pub returns-in-Fault-clause-at_stop : goal.returns-in-Fault-clause-at_stop
returns-in-Fault-clause-at_stop g c =
    let told = g.D.Disk.told in
    let p = c.args.planned in
    let f = c.fuse.result in
    let same : member_of f.node ≡ member_of p.node = λ i. record { party = c.fuse.ensures.party i; space = record { format = c.fuse.ensures.format i; room = ap₂ (λ (e s : ℕ). e - s) c.fuse.ensures.place.1 c.fuse.ensures.place.0 i } } in
    let count : c.saturating_sub.result ≡ c.args.n - 1 = omega (arith, c.saturating_sub.ensures) in
    let b = c.in-Broken.broken in
    let fault : b.cause ≡ disk.Fault = is_fault b.cause (sym c.give_up-disk.ensures.cause ∙ c.in-Fault.is) in
    subst (λ k. IsDiskAtStop (told p.node.disk) (told k) (member_of p.node) (after (member_of p.node) p.plan.edits) (is_change p.plan.edits ≡ true) c.args.n) (sym (c.into_inner-in-Fault.ensures ∙ ap (λ k. k.disk) c.give_up-disk.ensures.disk))
    (fused_cut told p.node f.node p.plan f.plan c.saturating_sub.result c.args.n c.fuse.ensures.plan same count c.requires c.fuse.ensures.fused b (g.met.D.Disk.sound b.disk.disk) fault c.in-Broken.ensures.turn)

pub returns-in-Done-clause-crash : goal.returns-in-Done-clause-crash
returns-in-Done-clause-crash g c = λ tells.
    let told = g.D.Disk.told in
    let p = c.args.planned in
    let f = c.fuse.result in
    let same : member_of f.node ≡ member_of p.node = λ i. record { party = c.fuse.ensures.party i; space = record { format = c.fuse.ensures.format i; room = ap₂ (λ (e s : ℕ). e - s) c.fuse.ensures.place.1 c.fuse.ensures.place.0 i } } in
    let count : c.saturating_sub.result ≡ c.args.n - 1 = omega (arith, c.saturating_sub.ensures) in
    subst (λ k. LeavesOnly (told p.node.disk) (told k) (IsEither (member_of p.node) (after (member_of p.node) p.plan.edits) (is_change p.plan.edits ≡ true))) (sym (c.into_inner.ensures ∙ ap (λ k. k.disk) c.into_disk.ensures.disk))
    (fused_leaves told p.node f.node p.plan f.plan c.saturating_sub.result c.args.n c.fuse.ensures.plan same count c.requires c.fuse.ensures.fused (turn.Done c.in-Done.node c.in-Done.verdict c.in-Done.reply c.in-Done.under) c.in-Done.ensures.turn tells)

pub returns-in-Fault-clause-crash : goal.returns-in-Fault-clause-crash
returns-in-Fault-clause-crash g c = λ tells.
    let told = g.D.Disk.told in
    let p = c.args.planned in
    let f = c.fuse.result in
    let same : member_of f.node ≡ member_of p.node = λ i. record { party = c.fuse.ensures.party i; space = record { format = c.fuse.ensures.format i; room = ap₂ (λ (e s : ℕ). e - s) c.fuse.ensures.place.1 c.fuse.ensures.place.0 i } } in
    let count : c.saturating_sub.result ≡ c.args.n - 1 = omega (arith, c.saturating_sub.ensures) in
    subst (λ k. LeavesOnly (told p.node.disk) (told k) (IsEither (member_of p.node) (after (member_of p.node) p.plan.edits) (is_change p.plan.edits ≡ true))) (sym (c.into_inner-in-Fault.ensures ∙ ap (λ k. k.disk) c.give_up-disk.ensures.disk))
    (fused_leaves told p.node f.node p.plan f.plan c.saturating_sub.result c.args.n c.fuse.ensures.plan same count c.requires c.fuse.ensures.fused (turn.Broken c.in-Broken.broken) c.in-Broken.ensures.turn tells)

pub returns-in-Broken-clause-crash : goal.returns-in-Broken-clause-crash
returns-in-Broken-clause-crash g c = λ tells.
    let told = g.D.Disk.told in
    let p = c.args.planned in
    let f = c.fuse.result in
    let same : member_of f.node ≡ member_of p.node = λ i. record { party = c.fuse.ensures.party i; space = record { format = c.fuse.ensures.format i; room = ap₂ (λ (e s : ℕ). e - s) c.fuse.ensures.place.1 c.fuse.ensures.place.0 i } } in
    let count : c.saturating_sub.result ≡ c.args.n - 1 = omega (arith, c.saturating_sub.ensures) in
    subst (λ k. LeavesOnly (told p.node.disk) (told k) (IsEither (member_of p.node) (after (member_of p.node) p.plan.edits) (is_change p.plan.edits ≡ true))) (sym (c.into_inner-in_default.ensures ∙ ap (λ k. k.disk) c.give_up-disk.ensures.disk))
    (fused_leaves told p.node f.node p.plan f.plan c.saturating_sub.result c.args.n c.fuse.ensures.plan same count c.requires c.fuse.ensures.fused (turn.Broken c.in-Broken.broken) c.in-Broken.ensures.turn tells)

pub returns-clause-crash : goal.returns-clause-crash
returns-clause-crash g c = λ tells.
    let told = g.D.Disk.told in
    let p = c.args.planned in
    let f = c.fuse.result in
    let same : member_of f.node ≡ member_of p.node = λ i. record { party = c.fuse.ensures.party i; space = record { format = c.fuse.ensures.format i; room = ap₂ (λ (e s : ℕ). e - s) c.fuse.ensures.place.1 c.fuse.ensures.place.0 i } } in
    let count : c.saturating_sub.result ≡ c.args.n - 1 = omega (arith, c.saturating_sub.ensures) in
    subst (λ k. LeavesOnly (told p.node.disk) (told k) (IsEither (member_of p.node) (after (member_of p.node) p.plan.edits) (is_change p.plan.edits ≡ true))) (sym (c.into_inner-in-NoMemory.ensures ∙ ap (λ k. k.disk) c.into_disk-in-NoMemory.ensures.disk))
    (fused_leaves told p.node f.node p.plan f.plan c.saturating_sub.result c.args.n c.fuse.ensures.plan same count c.requires c.fuse.ensures.fused (turn.NoMemory c.in-NoMemory.node) c.in-NoMemory.ensures.turn tells)
