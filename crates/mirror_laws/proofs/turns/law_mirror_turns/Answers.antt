use Rattle.node_core.specs.Turns.{member_of, IsOldOrNext}
use Rattle.member.specs.Member.{after}
use Rattle.change_code.specs.declared.format.Format.TheVariants.{Two}
use Rattle.key_store.specs.Store.{space}
use Rattle.key_store.specs.Replacing.{IsOldOrOther}
use Rattle.mirror_store.specs.Turns.{pair_plan_at}
use Rattle.mirror_laws.proofs.Turned.{is_turn}
use Rattle.mirror_laws.proofs.Left.{between, left_again, to_old, to_next, cut_left, fewer_left}
use Rattle.mirror_laws.proofs.turns.law_mirror_turns.Goals as goal

pub returns-clause-turn : goal.returns-clause-turn
returns-clause-turn g c = is_turn c.law_inputs.ensures c.law_refusal.ensures g.D.Disk.told

pub returns-clause-cut : goal.returns-clause-cut
returns-clause-cut g c = λ old bytes i moment t is tells_first tells_second lost first second left.
    let told = g.D.Disk.told in
    let x = member_of old.first in
    let y = after x (pair_plan_at x i moment).edits in
    let event = c.law_inputs.ensures x i moment in
    cut_left c.law_one_finding.ensures.not_blank c.law_one_space.ensures c.law_recovers.ensures.one_party c.law_can_compact.ensures.too_large told x y _ (space old.second)
    (to_old x bytes i moment event) (to_next x bytes i moment event) lost first second
    (fewer_left _ _ (IsOldOrNext x y) (IsOldOrOther x.party (space old.second) Two y.party) (is.first_moments tells_first).each (is.second_moments tells_second).each lost first second left)

pub returns-clause-between : goal.returns-clause-between
returns-clause-between g c = λ old lost first second twin left.
    between c.law_one_finding.ensures.not_blank c.law_one_space.ensures c.law_recovers.ensures.one_party c.law_can_compact.ensures.too_large g.D.Disk.told old twin lost first second left

pub returns-clause-again : goal.returns-clause-again
returns-clause-again g c = λ x events first second disks result left isnt first_now second_now read is.
    left_again c.law_one_finding.ensures.not_blank c.law_one_space.ensures c.law_recovers.ensures.one_party c.law_can_compact.ensures.too_large g.D.Disk.told c.law_recovers.ensures.opened
    x events first second disks result left isnt first_now second_now read is
