use Rattle.std.proofs.Common.{◌≡◌, true, None, refl, lit≤, arith}
use Rattle.party_state.specs.Verdicts.{verdict_of, is_accept}
use Rattle.role_base.specs.Load.{load, load_tests}
use Rattle.role_base.specs.Conditions.{has_link_room}
use Rattle.role_base.proofs.Decided.{accepts_with, decides_with}
use Rattle.role_base.proofs.Loaded.{loaded_keepable, load_room}
use Rattle.role_base.proofs.loading.load.Goals as goal

pub returns : goal.returns
returns c =
    let p = c.args.state.now in
    let v : c.verdict_of-verdict.result ≡ verdict_of (load_tests p (record { peer = c.args.peer.now; label = c.args.label.now; side = c.args.side }) c.args.pair) = cc in
    let t : is_accept c.verdict_of-verdict.result ≡ true = grind arith in
    let room : has_link_room p (record { peer = c.args.peer.now; label = c.args.label.now; side = c.args.side }) ≡ true = load_room c.law_accept.ensures.tested p _ c.args.pair c.verdict_of-verdict.result v t in
    let row = load p c.args.peer.now c.args.label.now c.args.side c.args.pair in
    decides_with c.accept.result p row c.verdict_of-verdict.result
    (accepts_with c.accept.result p c.in_ok-list_of.field-0.items row.edits None None c.accept.ensures (grind arith) tt (loaded_keepable p _ refl room) (lit≤ tt)) v t
