use Rattle.std.proofs.Common.{List, ℕ, subst}
use Rattle.std.proofs.lemmas.Result.{err_from_is_err_and}
use Rattle.key_store.specs.Store.{Lead}
use Rattle.key_store.specs.Ahead.{StopsAmong}
use Rattle.key_store.proofs.Following.{among_stops, ahead_read, ahead_all, ahead_stops, ahead_within}
use Rattle.key_store.proofs.ahead.read_frames.Goals as goal

pub returns-in_err-follow_all-clause-stops : goal.returns-in_err-follow_all-clause-stops
returns-in_err-follow_all-clause-stops g c =
    let p = err_from_is_err_and c.from_residual.result c.from_residual.ensures.1 in
    let reason = c.in_err-follow_all.field-0.0 in
    let bodies = c.read_ahead-more.new.bodies.items in
    rw (p.1, p.2)
    (among_stops g.D.Disk.told c.args.opened.now c.read_ahead-more.new.opened bodies c.read_ahead-more.result c.read_ahead-more.ensures c.args.format c.args.state.now c.requires c.law_gates.ensures.front c.law_gates.ensures.next reason
    (subst (λ (n : ℕ). StopsAmong c.args.format c.args.state.now n bodies reason) c.gate-gate.ensures
    (subst (λ (l : List (List ℕ)). StopsAmong c.args.format c.args.state.now c.gate-gate.result l reason) c.as_slice.ensures.value c.in_err-follow_all.ensures.stops)))

pub returns-clause-read : goal.returns-clause-read
returns-clause-read g c =
    ahead_read g.D.Disk.told c.args.opened.now c.read_ahead-more.new.opened c.read_ahead-more.new.bodies.items c.read_ahead-more.result c.read_ahead-more.ensures c.args.format c.args.state.now c.requires c.follow_all.new.state
    (subst (λ (l : List (List ℕ)). Lead c.args.format c.args.state.now l c.follow_all.new.state) c.as_slice.ensures.value c.in_ok-follow_all.ensures.lead)

pub returns-clause-within : goal.returns-clause-within
returns-clause-within g c =
    ahead_within g.D.Disk.told c.args.opened.now c.read_ahead-more.new.opened c.read_ahead-more.new.bodies.items c.read_ahead-more.result c.read_ahead-more.ensures c.args.format c.args.state.now c.requires c.follow_all.new.state
    (subst (λ (l : List (List ℕ)). Lead c.args.format c.args.state.now l c.follow_all.new.state) c.as_slice.ensures.value c.in_ok-follow_all.ensures.lead)

pub returns-clause-all : goal.returns-clause-all
returns-clause-all g c =
    ahead_all g.D.Disk.told c.args.opened.now c.read_ahead-more.new.opened c.read_ahead-more.new.bodies.items c.read_ahead-more.result c.read_ahead-more.ensures c.args.format c.args.state.now c.requires c.follow_all.new.state
    (subst (λ (l : List (List ℕ)). Lead c.args.format c.args.state.now l c.follow_all.new.state) c.as_slice.ensures.value c.in_ok-follow_all.ensures.lead) c.law_one_list.ensures

pub returns-clause-stops : goal.returns-clause-stops
returns-clause-stops g c =
    ahead_stops g.D.Disk.told c.args.opened.now c.read_ahead-more.new.opened c.read_ahead-more.new.bodies.items c.read_ahead-more.result c.read_ahead-more.ensures c.args.format c.args.state.now c.requires c.follow_all.new.state
    (subst (λ (l : List (List ℕ)). Lead c.args.format c.args.state.now l c.follow_all.new.state) c.as_slice.ensures.value c.in_ok-follow_all.ensures.lead)
