use Rattle.std.proofs.Common.{sym, ◌∙◌}
use Rattle.mirror_store.proofs.Turned.{accept_is, refuse_is, never_cut, twin_answered, accepted_unchanged, refused_unchanged}
use Rattle.mirror_store.proofs.turning.answer.Goals as goal

pub returns-then-is_accepted : goal.returns-then-is_accepted
returns-then-is_accepted g c =
    accepted_unchanged g.D.Disk.told c.args.planned.node c.args.second (g.met.D.Disk.sound c.args.second.disk) c.view.ensures.stands c.requires.same c.args.planned.plan c.requires.none
    c.in-Done.node c.in-Done.verdict c.in-Done.reply c.in-Done.under c.in-Done.ensures.turn (accept_is c.in-Done.verdict (sym c.is_accepted.ensures ∙ c.if-is_accepted.true))

pub returns-else-is_accepted : goal.returns-else-is_accepted
returns-else-is_accepted g c =
    refused_unchanged g.D.Disk.told c.args.planned.node c.args.second (g.met.D.Disk.sound c.args.second.disk) c.view.ensures.stands c.requires.same c.args.planned.plan c.requires.none
    c.in-Done.node c.in-Done.verdict c.in-Done.reply c.in-Done.under c.in-Done.ensures.turn (refuse_is c.in-Done.verdict (sym c.is_accepted.ensures ∙ c.if-is_accepted.false))

pub invariant_of-mirror : goal.invariant_of-mirror
invariant_of-mirror g c =
    twin_answered g.D.Disk.told c.args.planned.node c.args.second (g.met.D.Disk.sound c.args.second.disk) c.view.ensures.stands c.requires.same c.args.planned.plan c.requires.none
    c.in-Done.node c.in-Done.verdict c.in-Done.reply c.in-Done.under c.in-Done.ensures.turn

pub unreachable-requires : goal.unreachable-requires
unreachable-requires g c = never_cut g.D.Disk.told c.args.planned.node c.args.planned.plan _ c.requires.none c.in-Broken.ensures.turn
