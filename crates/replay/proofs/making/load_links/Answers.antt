use Rattle.std.proofs.lemmas.Result.{err_from_is_err_and}
use Rattle.replay.proofs.Completed.{can_load, loaded_none, loaded_more, partly_more}
use Rattle.std.proofs.Common.{◌∙◌, List, sym, subst}
use Rattle.party_tables.specs.declared.link.LinkRec.{LinkRec}
use Rattle.replay.specs.SettingUp.{IsLoadedTo}
use Rattle.replay.proofs.Loads.{all_loaded}
use Rattle.replay.proofs.making.load_links.Goals as goal

pub loop-line-init : goal.loop-line-init
loop-line-init g c = loaded_none g.D.Disk.told c.args.store (g.met.D.Disk.sound c.args.store.disk) c.view.ensures.stands c.requires.none

pub load_line-requires : goal.load_line-requires
load_line-requires g c =
    can_load g.D.Disk.told c.args.store c.args.own.now c.args.lines.now c.loop-line.line-index c.line-item.result c.loop-line-test.true c.line-item.is c.loop-line.loaded c.loop-line.invariant c.requires.rules c.requires.room

pub loop-line-preserved : goal.loop-line-preserved
loop-line-preserved g c =
    loaded_more g.D.Disk.told c.args.store c.args.own.now c.args.lines.now c.loop-line.line-index c.line-item.result c.loop-line-test.true c.line-item.is c.loop-line.loaded c.loop-line.invariant c.in_ok-loaded.loaded c.in_ok-loaded.ensures.load

pub returns-in_err-loaded-clause-failed_disk : goal.returns-in_err-loaded-clause-failed_disk
returns-in_err-loaded-clause-failed_disk g c =
    let p = err_from_is_err_and c.from_residual.result c.from_residual.ensures.1 in
    rw (p.1, p.2) (partly_more g.D.Disk.told c.args.store c.args.own.now c.args.lines.now c.loop-line.line-index c.line-item.result c.loop-line-test.true c.line-item.is c.loop-line.loaded c.loop-line.invariant (g.D.Disk.told c.in_err-loaded.field-0.0.disk) c.in_err-loaded.field-0.0.why c.in_err-loaded.ensures.failed_disk)

pub returns-then-not-is_head-clause-loaded : goal.returns-then-not-is_head-clause-loaded
returns-then-not-is_head-clause-loaded g c =
    let x = c.line-item.result in
    subst (λ (ls : List LinkRec). IsLoadedTo g.D.Disk.told c.args.store c.loop-line.loaded ls)
    (all_loaded c.args.own.now c.args.lines.now c.loop-line.line-index x c.requires.rules c.loop-line-test.true c.line-item.is (sym c.is_head.ensures ∙ c.if-not-is_head.true))
    c.loop-line.invariant
