use Rattle.std.proofs.Common.{◌≡◌, true, false, ◌++◌, ◌∷◌, [], List, ap, sym, ◌∙◌, subst, refl}
use Rattle.party_state.specs.declared.edit.Edit.{Edit}
use Rattle.party_state.specs.declared.edit.Edit.TheVariants.{PutLink}
use Rattle.change_code.specs.Cost.{fits}
use Rattle.party_state.specs.Limits.{GoOn}
use Rattle.key_store.specs.Store.{space}
use Rattle.key_store.specs.Keeping.{IsKeeping}
use Rattle.key_store.specs.declared.store.Kept.TheVariants as kept
use Rattle.replay.proofs.Begun.{goes_on_load, load_fits, stays_within, loads_one, failed_broken, failed_memory}
use Rattle.replay.proofs.Lengths.{load_few}
use Rattle.replay.proofs.making.load_link.Goals as goal

pub returns-in-Err-clause-failed_disk : goal.returns-in-Err-clause-failed_disk
returns-in-Err-clause-failed_disk g c =
    failed_memory g.D.Disk.told c.args.store (g.met.D.Disk.sound c.args.store.disk) c.view.ensures.stands (c.args.link ∷ []) c.args.store c.into_disk.result refl c.into_disk.ensures.disk

pub keep-requires-clause-go_on : goal.keep-requires-clause-go_on
keep-requires-clause-go_on g c =
    let is = c.in-Ok.ensures.appends ∙ ap (λ (es : List Edit). es ++ PutLink c.args.link ∷ []) c.new-change.ensures in
    subst (λ (es : List Edit). GoOn es c.args.store.party) (sym is) (record { goes_on = goes_on_load c.args.link; within = stays_within g.D.Disk.told c.args.store c.args.link c.view.ensures.stands.within c.requires.place })

pub unreachable-requires : goal.unreachable-requires
unreachable-requires g c =
    let is = c.in-Ok.ensures.appends ∙ ap (λ (es : List Edit). es ++ PutLink c.args.link ∷ []) c.new-change.ensures in
    let fit = load_fits g.D.Disk.told c.args.store c.args.link c.requires.place (load_few c.args.store.format c.args.link c.bytes.ensures.ident c.bytes-2.ensures.label) in
    let full = subst (λ (es : List Edit). fits (space c.args.store) es ≡ false) is c.in-Full.ensures.1 in
    let lie : true ≡ false = sym fit ∙ full in cc lie

pub returns-in-Done-clause-load : goal.returns-in-Done-clause-load
returns-in-Done-clause-load g c =
    let told = g.D.Disk.told in
    let is = c.in-Ok.ensures.appends ∙ ap (λ (es : List Edit). es ++ PutLink c.args.link ∷ []) c.new-change.ensures in
    loads_one told c.args.store c.args.link c.in-Done.store (load_few c.args.store.format c.args.link c.bytes.ensures.ident c.bytes-2.ensures.label)
    (subst (λ (es : List Edit). IsKeeping told c.args.store es (kept.Done c.in-Done.store)) is c.in-Done.ensures)

pub returns-in-NoMemory-clause-failed_disk : goal.returns-in-NoMemory-clause-failed_disk
returns-in-NoMemory-clause-failed_disk g c =
    let s = c.in-NoMemory.store in
    failed_memory g.D.Disk.told c.args.store (g.met.D.Disk.sound c.args.store.disk) c.view.ensures.stands (c.args.link ∷ []) s c.into_disk-in-NoMemory.result c.in-NoMemory.ensures c.into_disk-in-NoMemory.ensures.disk

pub returns-in-Broken-clause-failed_disk : goal.returns-in-Broken-clause-failed_disk
returns-in-Broken-clause-failed_disk g c =
    let told = g.D.Disk.told in
    let b = c.in-Broken.broken in
    let is = c.in-Ok.ensures.appends ∙ ap (λ (es : List Edit). es ++ PutLink c.args.link ∷ []) c.new-change.ensures in
    failed_broken told c.args.store c.args.link b c.give_up-disk.result.disk c.give_up-disk.result.cause c.failure_by.result c.give_up-disk.ensures.disk c.give_up-disk.ensures.cause c.failure_by.ensures.fault c.failure_by.ensures.failing (g.met.D.Disk.sound b.disk)
    (subst (λ (es : List Edit). IsKeeping told c.args.store es (kept.Broken b)) is c.in-Broken.ensures)
