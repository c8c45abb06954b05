use Rattle.std.proofs.Common.{◌≡◌, IfOk, Some, None, refl, sym, subst, subst₂}
use Rattle.course.specs.declared.act.LineAct.TheVariants as act
use Rattle.course.specs.declared.progress.EventOutcome.TheVariants as outcome
use Rattle.replay.specs.Acting.{PlaysAt, Acts, Forges}
use Rattle.replay.specs.Breaks.{BreaksAct}
use Rattle.open_parties.specs.declared.failure.Ending.TheVariants as ending
use Rattle.replay.proofs.Happened.{acts_nothing, acts_nobody, acts_given, acts_unheard, acts_unheard_nobody, forges_given}
use Rattle.open_parties.proofs.Results.{if_ok, of_if_err}
use Rattle.replay.proofs.Unfinished.{refused_act}
use Rattle.replay.specs.Crash.{Crosses}
use Rattle.replay.proofs.Crossing.{still_crosses}
use Rattle.replay.proofs.acting.play_act.Goals as goal

pub returns-in-Nothing-clause-acted : goal.returns-in-Nothing-clause-acted
returns-in-Nothing-clause-acted g c =
    let told = g.H.Disk.Disk.told in
    let faults = g.H.Shelf.faults c.args.shelf.now in
    subst (λ a. Acts told faults faults a c.args.play_state.now c.args.play_state.now c.args.now.now outcome.Nothing) (sym c.in-Nothing.is) (acts_nothing told faults faults c.args.play_state.now c.args.now.now)

pub returns-in_default-clause-acted : goal.returns-in_default-clause-acted
returns-in_default-clause-acted g c =
    let told = g.H.Disk.Disk.told in
    let faults = g.H.Shelf.faults c.args.shelf.now in
    let old = c.args.play_state.now in
    subst (λ a. Acts told faults faults a old old c.args.now.now outcome.Nothing) (sym c.in-Give.is) (acts_nobody told faults faults old c.args.now.now c.in-Give.party c.in-Give.input c.in_default.ensures.none)

pub returns-in_default-place_of-clause-acted : goal.returns-in_default-place_of-clause-acted
returns-in_default-place_of-clause-acted g c =
    let told = g.H.Disk.Disk.told in
    let faults = g.H.Shelf.faults c.args.shelf.now in
    let old = c.args.play_state.now in
    subst (λ a. Acts told faults faults a old old c.args.now.now outcome.Nothing) (sym c.in-Refuse.is) (acts_unheard_nobody told faults faults old c.args.now.now c.in-Refuse.party c.in-Refuse.number c.in_default-place_of.ensures.none)

pub returns-in-Some-clause-acted : goal.returns-in-Some-clause-acted
returns-in-Some-clause-acted g c =
    let told = g.H.Disk.Disk.told in
    let low = g.H.Shelf.faults c.args.shelf.now in
    let high = g.H.Shelf.faults c.play_input.new.shelf in
    let old = c.args.play_state.now in
    let new = c.play_input.new.play_state in
    let now = c.args.now.now in
    subst (λ a. IfOk c.play_input.result (λ o. Acts told low high a old new now o)) (sym c.in-Give.is)
    (if_ok c.play_input.result (λ o. PlaysAt told low high old new c.in-Some.place (Some c.in-Give.input) 0 now o) (λ o. Acts told low high (act.Give c.in-Give.party c.in-Give.input) old new now o)
    (λ o played. acts_given told low high old new now o c.in-Give.party c.in-Some.place c.in-Give.input c.in-Some.ensures.placed played) c.play_input.ensures.played)

pub returns-in-Some-clause-forged : goal.returns-in-Some-clause-forged
returns-in-Some-clause-forged g c = λ n is.
    let told = g.H.Disk.Disk.told in
    let old = c.args.play_state.now in
    let f = c.play_input.ensures.forged n is in
    (f.0, f.1, subst (λ a. Forges told a old) (sym c.in-Give.is) (forges_given told old c.in-Give.party c.in-Some.place c.in-Give.input c.in-Some.ensures.placed f.2))

pub returns-in-Some-clause-broken : goal.returns-in-Some-clause-broken
returns-in-Some-clause-broken g c = λ why is.
    subst (λ a. BreaksAct g.H.Disk.Disk.told (g.H.Shelf.entry c.play_input.new.shelf) a c.args.play_state.now c.play_input.new.play_state c.args.now.now why) (sym c.in-Give.is) (c.play_input.ensures.broken why is)

pub returns-in-Some-place_of-clause-acted : goal.returns-in-Some-place_of-clause-acted
returns-in-Some-place_of-clause-acted g c =
    let told = g.H.Disk.Disk.told in
    let low = g.H.Shelf.faults c.args.shelf.now in
    let high = g.H.Shelf.faults c.play_unheard.new.shelf in
    let old = c.args.play_state.now in
    let new = c.play_unheard.new.play_state in
    let now = c.args.now.now in
    subst (λ a. IfOk c.play_unheard.result (λ o. Acts told low high a old new now o)) (sym c.in-Refuse.is)
    (if_ok c.play_unheard.result (λ o. PlaysAt told low high old new c.in-Some-place_of.place None c.in-Refuse.number now o) (λ o. Acts told low high (act.Refuse c.in-Refuse.party c.in-Refuse.number) old new now o)
    (λ o played. acts_unheard told low high old new now o c.in-Refuse.party c.in-Some-place_of.place c.in-Refuse.number c.in-Some-place_of.ensures.placed played) c.play_unheard.ensures.played)

pub returns-in-Some-place_of-clause-forged : goal.returns-in-Some-place_of-clause-forged
returns-in-Some-place_of-clause-forged g c = λ n is. absurd (let b = of_if_err c.play_unheard.result _ (ending.Forged n) c.play_unheard.ensures.broken is in cc b.1)

pub returns-in-Some-place_of-clause-write : goal.returns-in-Some-place_of-clause-write
returns-in-Some-place_of-clause-write g c = λ is. (let b = of_if_err c.play_unheard.result _ ending.Write c.play_unheard.ensures.broken is in cc b.1)

pub returns-in-Some-place_of-clause-broken : goal.returns-in-Some-place_of-clause-broken
returns-in-Some-place_of-clause-broken g c = λ why is.
    let told = g.H.Disk.Disk.told in
    let entry = g.H.Shelf.entry c.play_unheard.new.shelf in
    let old = c.args.play_state.now in
    let new = c.play_unheard.new.play_state in
    let b = of_if_err c.play_unheard.result _ (ending.Failed why) c.play_unheard.ensures.broken is in
    let same : b.0 ≡ why = cc b.1 in
    subst₂ (λ a f. BreaksAct told entry a old new c.args.now.now f) (sym c.in-Refuse.is) same
    (refused_act told entry old new c.args.now.now b.0 c.in-Refuse.party c.in-Some-place_of.place c.in-Refuse.number c.in-Some-place_of.ensures.placed b.2)

-- what a crash leaves

pub returns-in-Nothing-clause-crash : goal.returns-in-Nothing-clause-crash
returns-in-Nothing-clause-crash g c = still_crosses g.H.Disk.Disk.told (g.H.Shelf.entry c.args.shelf.now) c.args.act.now c.args.play_state.now c.args.play_state.now c.args.now.now refl

pub returns-in_default-clause-crash : goal.returns-in_default-clause-crash
returns-in_default-clause-crash g c = still_crosses g.H.Disk.Disk.told (g.H.Shelf.entry c.args.shelf.now) c.args.act.now c.args.play_state.now c.args.play_state.now c.args.now.now refl

pub returns-in_default-place_of-clause-crash : goal.returns-in_default-place_of-clause-crash
returns-in_default-place_of-clause-crash g c = still_crosses g.H.Disk.Disk.told (g.H.Shelf.entry c.args.shelf.now) c.args.act.now c.args.play_state.now c.args.play_state.now c.args.now.now refl

pub returns-in-Some-clause-crash : goal.returns-in-Some-clause-crash
returns-in-Some-clause-crash g c =
    let entry = g.H.Shelf.entry in
    subst (λ a. Crosses g.H.Disk.Disk.told (entry c.args.shelf.now) (entry c.play_input.new.shelf) a c.args.play_state.now c.play_input.new.play_state c.args.now.now) (sym c.in-Give.is) c.play_input.ensures.crash

pub returns-in-Some-place_of-clause-crash : goal.returns-in-Some-place_of-clause-crash
returns-in-Some-place_of-clause-crash g c =
    let entry = g.H.Shelf.entry in
    subst (λ a. Crosses g.H.Disk.Disk.told (entry c.args.shelf.now) (entry c.play_unheard.new.shelf) a c.args.play_state.now c.play_unheard.new.play_state c.args.now.now) (sym c.in-Refuse.is) c.play_unheard.ensures.crash
