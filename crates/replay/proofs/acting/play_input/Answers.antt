use Rattle.std.proofs.Common.{◌≡◌, inr, Ok, Err, Some, refl, sym, ◌∙◌, ap, subst, true}
use Rattle.std.proofs.lemmas.Result.{err_from_is_err_and}
use Rattle.change_code.specs.Cost.{is_change}
use Rattle.member.specs.Member.{Plan, after}
use Rattle.node_core.specs.Turns.{member_of}
use Rattle.member.specs.Leads.{lead_in}
use Rattle.course.specs.declared.act.LineAct.TheVariants as act
use Rattle.course.specs.declared.progress.EventOutcome.TheVariants as outcome
use Rattle.replay.specs.Breaks.{BreaksAct}
use Rattle.open_parties.specs.declared.failure.Ending.TheVariants as ending
use Rattle.open_parties.specs.declared.failure.Failure.TheVariants as failure
use Rattle.replay.specs.declared.play_state.PlayState.{PlayState}
use Rattle.open_parties.specs.declared.open_party.PartyDisk.TheVariants.{Open}
use Rattle.replay.proofs.Eventing.{planned_of, taken_out_of, taken_out_again, stopped_plan, input_whole, input_cut, input_breaks, left_so}
use Rattle.replay.proofs.Happened.{plays_whole, plays_stopped}
use Rattle.replay.proofs.Judging.{honest_there, forged_there}
use Rattle.replay.proofs.Planning.{plan_lead}
use Rattle.open_parties.proofs.Results.{one_err}
use Rattle.open_parties.proofs.Surrounding.{around_place, shelf_same, refilled, filled_open, slot_at}
use Rattle.replay.proofs.Unfinished.{breaks_honest, given_act, unplanned}
use Rattle.replay.proofs.Crossing.{input_crosses, planned_holds_again, still_crosses, told_crosses}
use Rattle.open_parties.proofs.HoldingAgain.{holds_since}
use Rattle.x_disk.specs.Shelf.{alike_refl}
use Rattle.replay.proofs.acting.play_input.Goals as goal

pub returns-in-Err-clause-broken : goal.returns-in-Err-clause-broken
returns-in-Err-clause-broken g c = λ why is.
    let told = g.H.Disk.Disk.told in
    let entry = g.H.Shelf.entry c.args.shelf.now in
    let old = c.args.play_state.now in
    let new : PlayState _ = record { parties = c.put_in.new.self; texts = old.texts; facts = old.facts } in
    let tell = act.Give c.args.own.now c.args.input.now in
    let same : failure.NoMemory ≡ why = cc is in
    subst (λ f. BreaksAct told entry tell old new c.args.now.now f) same
    (unplanned told entry old new tell c.args.now.now (refilled old.parties c.take_out-node.new.self c.put_in.new.self c.args.place c.take_out-node.result c.in-Err.node c.take_out-node.ensures c.in-Err.ensures.same c.put_in.ensures))

pub returns-then-not-is_honest-clause-forged : goal.returns-then-not-is_honest-clause-forged
returns-then-not-is_honest-clause-forged g c = λ n is.
    let told = g.H.Disk.Disk.told in
    let old = c.args.play_state.now in
    let mid : PlayState _ = record { parties = c.take_out-node.new.self; texts = old.texts; facts = old.facts } in
    let input = c.args.input.now in
    let moment = c.args.now.now.moment in
    let p = c.in-Ok.planned in
    let is_planned = c.in-Ok.ensures.planned in
    let l = taken_out_of p c.take_out-node.result input moment is_planned old.parties mid.parties c.args.place c.take_out-node.ensures in
    let plan = planned_of p c.take_out-node.result input moment is_planned in
    let lead = c.plan-2.result.now.lead in
    let lead_is : lead ≡ lead_in p.node.party input = ap (λ a. a.lead) c.plan-2.ensures ∙ (ap (λ (q : Plan). q.lead) plan ∙ plan_lead (member_of p.node) input moment) in
    let number : c.args.now.now.number ≡ n = cc is in
    let same = refilled old.parties mid.parties c.put_in-then-not-is_honest.new.self c.args.place p.node c.cancel.result l c.cancel.ensures c.put_in-then-not-is_honest.ensures in (
      sym number,
      λ k. record { parties = same k; texts = old.texts; facts = old.facts },
      forged_there told old mid c.args.place p.node l refl input lead lead_is c.is_honest.result c.is_honest.ensures.forged c.if-not-is_honest.true,
    )

pub play_stopped-requires-clause-slot : goal.play_stopped-requires-clause-slot
play_stopped-requires-clause-slot g c =
    slot_at (g.H.Shelf.has_slot c.args.shelf.now) c.args.play_state.now.parties c.args.place c.args.own.now c.take_out-node.new.self c.take_out-node.result c.requires.slots c.requires.placed c.take_out-node.ensures

pub returns-in_err-play_stopped-in-Some-clause-broken : goal.returns-in_err-play_stopped-in-Some-clause-broken
returns-in_err-play_stopped-in-Some-clause-broken g c = λ why is.
    let told = g.H.Disk.Disk.told in
    let entry = g.H.Shelf.entry in
    let old = c.args.play_state.now in
    let mid : PlayState _ = record { parties = c.take_out-node.new.self; texts = old.texts; facts = old.facts } in
    let input = c.args.input.now in
    let moment = c.args.now.now.moment in
    let p = c.in-Ok.planned in
    let is_planned = c.in-Ok.ensures.planned in
    let l = taken_out_of p c.take_out-node.result input moment is_planned old.parties mid.parties c.args.place c.take_out-node.ensures in
    let plan = planned_of p c.take_out-node.result input moment is_planned in
    let lead = c.plan-2.result.now.lead in
    let lead_is : lead ≡ lead_in p.node.party input = ap (λ a. a.lead) c.plan-2.ensures ∙ (ap (λ (q : Plan). q.lead) plan ∙ plan_lead (member_of p.node) input moment) in
    let honest = honest_there told old mid c.args.place p.node l refl input lead lead_is c.is_honest.result c.is_honest.ensures.honest c.if-not-is_honest.false in
    let new = c.play_stopped.new.play_state in
    let q = stopped_plan c.cancel-node.result input moment in
    let k = taken_out_again p c.take_out-node.result c.cancel-node.result input moment is_planned c.cancel-node.ensures old.parties mid.parties c.args.place c.take_out-node.ensures in
    let e = err_from_is_err_and c.from_residual.result c.from_residual.ensures.1 in
    let failed = c.in_err-play_stopped-in-Some.field-0.0 in
    let one : ending.Failed failed ≡ ending.Failed why = sym e.2 ∙ one_err c.from_residual.result e.0 (ending.Failed why) e.1 is in
    let same : failed ≡ why = cc one in
    subst (λ f. BreaksAct told (entry c.play_stopped.new.shelf) (act.Give c.args.own.now input) old new c.args.now.now f) same
    (given_act told (entry c.play_stopped.new.shelf) old new c.args.now.now failed c.args.own.now c.args.place input c.requires.placed
    (breaks_honest told (entry c.play_stopped.new.shelf) old new c.args.place (Some input) moment failed honest
    (input_breaks told c.law_inputs.ensures old mid new c.args.place q k refl refl input moment refl (entry c.play_stopped.new.shelf) c.args.own.now failed c.requires.placed c.in_err-play_stopped-in-Some.ensures.left)))

pub returns-in_err-play_stopped-in-Some-clause-around : goal.returns-in_err-play_stopped-in-Some-clause-around
returns-in_err-play_stopped-in-Some-clause-around g c =
    let told = g.H.Disk.Disk.told in
    let entry = g.H.Shelf.entry in
    let slot = g.H.Shelf.has_slot in
    let faults = g.H.Shelf.faults in
    let old = c.args.play_state.now in
    let mid : PlayState _ = record { parties = c.take_out-node.new.self; texts = old.texts; facts = old.facts } in
    let input = c.args.input.now in
    let moment = c.args.now.now.moment in
    let p = c.in-Ok.planned in
    let is_planned = c.in-Ok.ensures.planned in
    let k = taken_out_again p c.take_out-node.result c.cancel-node.result input moment is_planned c.cancel-node.ensures old.parties mid.parties c.args.place c.take_out-node.ensures in
    let e = err_from_is_err_and c.from_residual.result c.from_residual.ensures.1 in
    let failed = c.in_err-play_stopped-in-Some.field-0.0 in
    let left = c.in_err-play_stopped-in-Some.ensures.left in
    rw (e.1, e.2) (around_place old.parties mid.parties c.play_stopped.new.play_state.parties c.args.place c.cancel-node.result k left.held left.fills told c.args.own.now c.requires.placed
    (entry c.args.shelf.now) (entry c.play_stopped.new.shelf) (slot c.args.shelf.now) (slot c.play_stopped.new.shelf) (faults c.args.shelf.now) (faults c.play_stopped.new.shelf) (Err (ending.Failed failed)) c.play_stopped.ensures.shelf tt
    (λ is. (let same : failed ≡ failure.Fault = cc is in c.in_err-play_stopped-in-Some.ensures.fault (ap Err same))))

pub returns-in_err-verdict-in-None-clause-broken : goal.returns-in_err-verdict-in-None-clause-broken
returns-in_err-verdict-in-None-clause-broken g c = λ why is.
    let told = g.H.Disk.Disk.told in
    let entry = g.H.Shelf.entry in
    let old = c.args.play_state.now in
    let mid : PlayState _ = record { parties = c.take_out-node.new.self; texts = old.texts; facts = old.facts } in
    let input = c.args.input.now in
    let moment = c.args.now.now.moment in
    let p = c.in-Ok.planned in
    let is_planned = c.in-Ok.ensures.planned in
    let l = taken_out_of p c.take_out-node.result input moment is_planned old.parties mid.parties c.args.place c.take_out-node.ensures in
    let plan = planned_of p c.take_out-node.result input moment is_planned in
    let lead = c.plan-2.result.now.lead in
    let lead_is : lead ≡ lead_in p.node.party input = ap (λ a. a.lead) c.plan-2.ensures ∙ (ap (λ (q : Plan). q.lead) plan ∙ plan_lead (member_of p.node) input moment) in
    let honest = honest_there told old mid c.args.place p.node l refl input lead lead_is c.is_honest.result c.is_honest.ensures.honest c.if-not-is_honest.false in
    let new = c.play_whole.new.play_state in
    let shelved = entry c.args.shelf.now in
    let e = err_from_is_err_and c.from_residual-in_err-verdict-in-None.result c.from_residual-in_err-verdict-in-None.ensures.1 in
    let failed = c.in_err-verdict-in-None.field-0.0 in
    let one : ending.Failed failed ≡ ending.Failed why = sym e.2 ∙ one_err c.from_residual-in_err-verdict-in-None.result e.0 (ending.Failed why) e.1 is in
    let same : failed ≡ why = cc one in
    let left = left_so told c.law_inputs.ensures old mid new c.args.place p l refl refl input moment plan (shelved c.args.own.now) failed c.in_err-verdict-in-None.ensures.left in
    subst (λ f. BreaksAct told shelved (act.Give c.args.own.now input) old new c.args.now.now f) same
    (given_act told shelved old new c.args.now.now failed c.args.own.now c.args.place input c.requires.placed
    (breaks_honest told shelved old new c.args.place (Some input) moment failed honest
    (input_breaks told c.law_inputs.ensures old mid new c.args.place p l refl refl input moment plan shelved c.args.own.now failed c.requires.placed left)))

pub returns-in_err-verdict-in-None-clause-around : goal.returns-in_err-verdict-in-None-clause-around
returns-in_err-verdict-in-None-clause-around g c =
    let told = g.H.Disk.Disk.told in
    let entry = g.H.Shelf.entry in
    let slot = g.H.Shelf.has_slot in
    let faults = g.H.Shelf.faults in
    let old = c.args.play_state.now in
    let mid : PlayState _ = record { parties = c.take_out-node.new.self; texts = old.texts; facts = old.facts } in
    let input = c.args.input.now in
    let moment = c.args.now.now.moment in
    let p = c.in-Ok.planned in
    let is_planned = c.in-Ok.ensures.planned in
    let l = taken_out_of p c.take_out-node.result input moment is_planned old.parties mid.parties c.args.place c.take_out-node.ensures in
    let e = err_from_is_err_and c.from_residual-in_err-verdict-in-None.result c.from_residual-in_err-verdict-in-None.ensures.1 in
    let failed = c.in_err-verdict-in-None.field-0.0 in
    let left = c.in_err-verdict-in-None.ensures.left in
    rw (e.1, e.2) (around_place old.parties mid.parties c.play_whole.new.play_state.parties c.args.place p.node l left.held left.fills told c.args.own.now c.requires.placed
    (entry c.args.shelf.now) (entry c.args.shelf.now) (slot c.args.shelf.now) (slot c.args.shelf.now) (faults c.args.shelf.now) (faults c.args.shelf.now) (Err (ending.Failed failed)) (shelf_same c.args.own.now (entry c.args.shelf.now) (slot c.args.shelf.now) (faults c.args.shelf.now)) tt
    (λ is. (let same : failed ≡ failure.Fault = cc is in inr (c.in_err-verdict-in-None.ensures.fault (ap Err same)))))

pub returns-in_ok-play_stopped-in-Some-clause-played : goal.returns-in_ok-play_stopped-in-Some-clause-played
returns-in_ok-play_stopped-in-Some-clause-played g c =
    let told = g.H.Disk.Disk.told in
    let faults = g.H.Shelf.faults in
    let old = c.args.play_state.now in
    let mid : PlayState _ = record { parties = c.take_out-node.new.self; texts = old.texts; facts = old.facts } in
    let input = c.args.input.now in
    let moment = c.args.now.now.moment in
    let p = c.in-Ok.planned in
    let is_planned = c.in-Ok.ensures.planned in
    let l = taken_out_of p c.take_out-node.result input moment is_planned old.parties mid.parties c.args.place c.take_out-node.ensures in
    let plan = planned_of p c.take_out-node.result input moment is_planned in
    let lead = c.plan-2.result.now.lead in
    let lead_is : lead ≡ lead_in p.node.party input = ap (λ a. a.lead) c.plan-2.ensures ∙ (ap (λ (q : Plan). q.lead) plan ∙ plan_lead (member_of p.node) input moment) in
    let honest = honest_there told old mid c.args.place p.node l refl input lead lead_is c.is_honest.result c.is_honest.ensures.honest c.if-not-is_honest.false in
    let q = stopped_plan c.cancel-node.result input moment in
    let k = taken_out_again p c.take_out-node.result c.cancel-node.result input moment is_planned c.cancel-node.ensures old.parties mid.parties c.args.place c.take_out-node.ensures in
    let next = c.in_ok-play_stopped-in-Some.field-0 in
    plays_stopped told (faults c.args.shelf.now) (faults c.play_stopped.new.shelf) old c.play_stopped.new.play_state c.args.place (Some input) 0 c.args.now.now c.in-Some.stop next c.in-Some.is honest
    (input_cut told c.law_inputs.ensures old mid c.play_stopped.new.play_state c.args.place q k refl refl input moment refl c.in-Some.stop (faults c.args.shelf.now) (faults c.play_stopped.new.shelf) next
    c.in_ok-play_stopped-in-Some.ensures.stopped c.play_stopped.ensures.texts c.in_ok-play_stopped-in-Some.ensures.noted)

pub returns-in_ok-play_stopped-in-Some-clause-around : goal.returns-in_ok-play_stopped-in-Some-clause-around
returns-in_ok-play_stopped-in-Some-clause-around g c =
    let told = g.H.Disk.Disk.told in
    let entry = g.H.Shelf.entry in
    let slot = g.H.Shelf.has_slot in
    let faults = g.H.Shelf.faults in
    let old = c.args.play_state.now in
    let mid : PlayState _ = record { parties = c.take_out-node.new.self; texts = old.texts; facts = old.facts } in
    let input = c.args.input.now in
    let moment = c.args.now.now.moment in
    let p = c.in-Ok.planned in
    let is_planned = c.in-Ok.ensures.planned in
    let k = taken_out_again p c.take_out-node.result c.cancel-node.result input moment is_planned c.cancel-node.ensures old.parties mid.parties c.args.place c.take_out-node.ensures in
    let s = c.in_ok-play_stopped-in-Some.ensures.stopped in
    around_place old.parties mid.parties c.play_stopped.new.play_state.parties c.args.place c.cancel-node.result k (Open s.opened) s.fills told c.args.own.now c.requires.placed
    (entry c.args.shelf.now) (entry c.play_stopped.new.shelf) (slot c.args.shelf.now) (slot c.play_stopped.new.shelf) (faults c.args.shelf.now) (faults c.play_stopped.new.shelf) (Ok outcome.Stopped) c.play_stopped.ensures.shelf
    (filled_open old.parties mid.parties c.play_stopped.new.play_state.parties c.args.place c.cancel-node.result s.opened k s.fills c.requires.all_open) (λ is. absurd (cc is))

pub returns-in_ok-verdict-in-None-clause-played : goal.returns-in_ok-verdict-in-None-clause-played
returns-in_ok-verdict-in-None-clause-played g c =
    let told = g.H.Disk.Disk.told in
    let faults = g.H.Shelf.faults in
    let old = c.args.play_state.now in
    let mid : PlayState _ = record { parties = c.take_out-node.new.self; texts = old.texts; facts = old.facts } in
    let input = c.args.input.now in
    let moment = c.args.now.now.moment in
    let p = c.in-Ok.planned in
    let is_planned = c.in-Ok.ensures.planned in
    let l = taken_out_of p c.take_out-node.result input moment is_planned old.parties mid.parties c.args.place c.take_out-node.ensures in
    let plan = planned_of p c.take_out-node.result input moment is_planned in
    let lead = c.plan-2.result.now.lead in
    let lead_is : lead ≡ lead_in p.node.party input = ap (λ a. a.lead) c.plan-2.ensures ∙ (ap (λ (q : Plan). q.lead) plan ∙ plan_lead (member_of p.node) input moment) in
    let honest = honest_there told old mid c.args.place p.node l refl input lead lead_is c.is_honest.result c.is_honest.ensures.honest c.if-not-is_honest.false in
    let verdict = c.in_ok-verdict-in-None.verdict in
    plays_whole told (faults c.args.shelf.now) (faults c.args.shelf.now) old c.play_whole.new.play_state c.args.place input 0 c.args.now.now verdict c.outcome_of.result c.in-None.is c.outcome_of.ensures honest
    (input_whole told c.law_inputs.ensures old mid c.play_whole.new.play_state c.args.place p l refl refl input moment plan verdict c.in_ok-verdict-in-None.ensures.whole)

pub returns-in_ok-verdict-in-None-clause-around : goal.returns-in_ok-verdict-in-None-clause-around
returns-in_ok-verdict-in-None-clause-around g c =
    let told = g.H.Disk.Disk.told in
    let entry = g.H.Shelf.entry in
    let slot = g.H.Shelf.has_slot in
    let faults = g.H.Shelf.faults in
    let old = c.args.play_state.now in
    let mid : PlayState _ = record { parties = c.take_out-node.new.self; texts = old.texts; facts = old.facts } in
    let input = c.args.input.now in
    let moment = c.args.now.now.moment in
    let p = c.in-Ok.planned in
    let is_planned = c.in-Ok.ensures.planned in
    let l = taken_out_of p c.take_out-node.result input moment is_planned old.parties mid.parties c.args.place c.take_out-node.ensures in
    let w = c.in_ok-verdict-in-None.ensures.whole in
    around_place old.parties mid.parties c.play_whole.new.play_state.parties c.args.place p.node l (Open w.node) w.fills told c.args.own.now c.requires.placed
    (entry c.args.shelf.now) (entry c.args.shelf.now) (slot c.args.shelf.now) (slot c.args.shelf.now) (faults c.args.shelf.now) (faults c.args.shelf.now) (Ok c.outcome_of.result) (shelf_same c.args.own.now (entry c.args.shelf.now) (slot c.args.shelf.now) (faults c.args.shelf.now))
    (filled_open old.parties mid.parties c.play_whole.new.play_state.parties c.args.place p.node w.node l w.fills c.requires.all_open) (λ is. absurd (cc is))

-- what a crash leaves

pub returns-in-Err-clause-crash : goal.returns-in-Err-clause-crash
returns-in-Err-clause-crash g c =
    let old = c.args.play_state.now in
    let new : PlayState _ = record { parties = c.put_in.new.self; texts = old.texts; facts = old.facts } in
    still_crosses g.H.Disk.Disk.told (g.H.Shelf.entry c.args.shelf.now) (act.Give c.args.own.now c.args.input.now) old new c.args.now.now
    (refilled old.parties c.take_out-node.new.self c.put_in.new.self c.args.place c.take_out-node.result c.in-Err.node c.take_out-node.ensures c.in-Err.ensures.same c.put_in.ensures)

pub returns-then-not-is_honest-clause-crash : goal.returns-then-not-is_honest-clause-crash
returns-then-not-is_honest-clause-crash g c =
    let old = c.args.play_state.now in
    let new : PlayState _ = record { parties = c.put_in-then-not-is_honest.new.self; texts = old.texts; facts = old.facts } in
    let p = c.in-Ok.planned in
    let l = taken_out_of p c.take_out-node.result c.args.input.now c.args.now.now.moment c.in-Ok.ensures.planned old.parties c.take_out-node.new.self c.args.place c.take_out-node.ensures in
    still_crosses g.H.Disk.Disk.told (g.H.Shelf.entry c.args.shelf.now) (act.Give c.args.own.now c.args.input.now) old new c.args.now.now
    (refilled old.parties c.take_out-node.new.self c.put_in-then-not-is_honest.new.self c.args.place p.node c.cancel.result l c.cancel.ensures c.put_in-then-not-is_honest.ensures)

pub returns-in_err-play_stopped-in-Some-clause-crash : goal.returns-in_err-play_stopped-in-Some-clause-crash
returns-in_err-play_stopped-in-Some-clause-crash g c =
    let told = g.H.Disk.Disk.told in
    let entry = g.H.Shelf.entry in
    let old = c.args.play_state.now in
    let mid : PlayState _ = record { parties = c.take_out-node.new.self; texts = old.texts; facts = old.facts } in
    let input = c.args.input.now in
    let moment = c.args.now.now.moment in
    let p = c.in-Ok.planned in
    let is_planned = c.in-Ok.ensures.planned in
    let l = taken_out_of p c.take_out-node.result input moment is_planned old.parties mid.parties c.args.place c.take_out-node.ensures in
    let plan = planned_of p c.take_out-node.result input moment is_planned in
    let lead = c.plan-2.result.now.lead in
    let lead_is : lead ≡ lead_in p.node.party input = ap (λ a. a.lead) c.plan-2.ensures ∙ (ap (λ (q : Plan). q.lead) plan ∙ plan_lead (member_of p.node) input moment) in
    let honest = honest_there told old mid c.args.place p.node l refl input lead lead_is c.is_honest.result c.is_honest.ensures.honest c.if-not-is_honest.false in
    let k = taken_out_again p c.take_out-node.result c.cancel-node.result input moment is_planned c.cancel-node.ensures old.parties mid.parties c.args.place c.take_out-node.ensures in
    let new = c.play_stopped.new.play_state in
    told_crosses told (entry c.args.shelf.now) (entry c.play_stopped.new.shelf) old new c.args.now.now c.args.own.now c.args.place input c.requires.placed
    (input_crosses told c.law_inputs.ensures (entry c.args.shelf.now) (entry c.play_stopped.new.shelf) old mid new c.args.place c.cancel-node.result k input moment honest c.args.own.now c.requires.placed c.play_stopped.ensures.shelf.others c.play_stopped.ensures.crash)

pub returns-in_ok-play_stopped-in-Some-clause-crash : goal.returns-in_ok-play_stopped-in-Some-clause-crash
returns-in_ok-play_stopped-in-Some-clause-crash g c =
    let told = g.H.Disk.Disk.told in
    let entry = g.H.Shelf.entry in
    let old = c.args.play_state.now in
    let mid : PlayState _ = record { parties = c.take_out-node.new.self; texts = old.texts; facts = old.facts } in
    let input = c.args.input.now in
    let moment = c.args.now.now.moment in
    let p = c.in-Ok.planned in
    let is_planned = c.in-Ok.ensures.planned in
    let l = taken_out_of p c.take_out-node.result input moment is_planned old.parties mid.parties c.args.place c.take_out-node.ensures in
    let plan = planned_of p c.take_out-node.result input moment is_planned in
    let lead = c.plan-2.result.now.lead in
    let lead_is : lead ≡ lead_in p.node.party input = ap (λ a. a.lead) c.plan-2.ensures ∙ (ap (λ (q : Plan). q.lead) plan ∙ plan_lead (member_of p.node) input moment) in
    let honest = honest_there told old mid c.args.place p.node l refl input lead lead_is c.is_honest.result c.is_honest.ensures.honest c.if-not-is_honest.false in
    let k = taken_out_again p c.take_out-node.result c.cancel-node.result input moment is_planned c.cancel-node.ensures old.parties mid.parties c.args.place c.take_out-node.ensures in
    let new = c.play_stopped.new.play_state in
    told_crosses told (entry c.args.shelf.now) (entry c.play_stopped.new.shelf) old new c.args.now.now c.args.own.now c.args.place input c.requires.placed
    (input_crosses told c.law_inputs.ensures (entry c.args.shelf.now) (entry c.play_stopped.new.shelf) old mid new c.args.place c.cancel-node.result k input moment honest c.args.own.now c.requires.placed c.play_stopped.ensures.shelf.others c.play_stopped.ensures.crash)

pub returns-in_err-verdict-in-None-clause-crash : goal.returns-in_err-verdict-in-None-clause-crash
returns-in_err-verdict-in-None-clause-crash g c =
    let told = g.H.Disk.Disk.told in
    let entry = g.H.Shelf.entry in
    let old = c.args.play_state.now in
    let mid : PlayState _ = record { parties = c.take_out-node.new.self; texts = old.texts; facts = old.facts } in
    let input = c.args.input.now in
    let moment = c.args.now.now.moment in
    let p = c.in-Ok.planned in
    let is_planned = c.in-Ok.ensures.planned in
    let l = taken_out_of p c.take_out-node.result input moment is_planned old.parties mid.parties c.args.place c.take_out-node.ensures in
    let plan = planned_of p c.take_out-node.result input moment is_planned in
    let lead = c.plan-2.result.now.lead in
    let lead_is : lead ≡ lead_in p.node.party input = ap (λ a. a.lead) c.plan-2.ensures ∙ (ap (λ (q : Plan). q.lead) plan ∙ plan_lead (member_of p.node) input moment) in
    let honest = honest_there told old mid c.args.place p.node l refl input lead lead_is c.is_honest.result c.is_honest.ensures.honest c.if-not-is_honest.false in
    let new = c.play_whole.new.play_state in
    let shelf = entry c.args.shelf.now in
    told_crosses told shelf shelf old new c.args.now.now c.args.own.now c.args.place input c.requires.placed
    (input_crosses told c.law_inputs.ensures shelf shelf old mid new c.args.place p.node l input moment honest c.args.own.now c.requires.placed (λ other apart. alike_refl (shelf other))
    (planned_holds_again told (shelf c.args.own.now) p input moment plan mid.parties new.parties c.args.place (holds_since told mid.parties new.parties c.args.place (shelf c.args.own.now) p.node (member_of p.node) (after (member_of p.node) p.plan.edits) (is_change p.plan.edits ≡ true) c.play_whole.ensures.crash)))

pub returns-in_ok-verdict-in-None-clause-crash : goal.returns-in_ok-verdict-in-None-clause-crash
returns-in_ok-verdict-in-None-clause-crash g c =
    let told = g.H.Disk.Disk.told in
    let entry = g.H.Shelf.entry in
    let old = c.args.play_state.now in
    let mid : PlayState _ = record { parties = c.take_out-node.new.self; texts = old.texts; facts = old.facts } in
    let input = c.args.input.now in
    let moment = c.args.now.now.moment in
    let p = c.in-Ok.planned in
    let is_planned = c.in-Ok.ensures.planned in
    let l = taken_out_of p c.take_out-node.result input moment is_planned old.parties mid.parties c.args.place c.take_out-node.ensures in
    let plan = planned_of p c.take_out-node.result input moment is_planned in
    let lead = c.plan-2.result.now.lead in
    let lead_is : lead ≡ lead_in p.node.party input = ap (λ a. a.lead) c.plan-2.ensures ∙ (ap (λ (q : Plan). q.lead) plan ∙ plan_lead (member_of p.node) input moment) in
    let honest = honest_there told old mid c.args.place p.node l refl input lead lead_is c.is_honest.result c.is_honest.ensures.honest c.if-not-is_honest.false in
    let new = c.play_whole.new.play_state in
    let shelf = entry c.args.shelf.now in
    told_crosses told shelf shelf old new c.args.now.now c.args.own.now c.args.place input c.requires.placed
    (input_crosses told c.law_inputs.ensures shelf shelf old mid new c.args.place p.node l input moment honest c.args.own.now c.requires.placed (λ other apart. alike_refl (shelf other))
    (planned_holds_again told (shelf c.args.own.now) p input moment plan mid.parties new.parties c.args.place (holds_since told mid.parties new.parties c.args.place (shelf c.args.own.now) p.node (member_of p.node) (after (member_of p.node) p.plan.edits) (is_change p.plan.edits ≡ true) c.play_whole.ensures.crash)))
