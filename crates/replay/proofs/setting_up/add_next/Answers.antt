use Rattle.std.proofs.Common.{◌≡◌, ◌∙◌, ◌∷◌, [], length, length-append, Option, Some, arith, sym, ap, subst}
use Rattle.course.specs.Parties.{new_party}
use Rattle.course.specs.declared.declaring.NewParty.{NewParty}
use Rattle.open_parties.specs.OpenParties.{open_party}
use Rattle.replay.specs.SettingUp.{AddsNext, FailsSetUpNext}
use Rattle.open_parties.specs.declared.failure.Failure.TheVariants as failure
use Rattle.replay.specs.declared.making.SetUpEnd.TheVariants.{Failed}
use Rattle.replay.proofs.Joining.{none_made}
use Rattle.open_parties.specs.declared.open_party.PartyDisk.TheVariants.{Away}
use Rattle.replay.proofs.setting_up.add_next.Goals as goal

pub put_in-requires : goal.put_in-requires
put_in-requires g c = omega (arith, ap length c.in-Ok.ensures.added, length-append c.args.parties.now (open_party c.in-Some.party.own Away ∷ []), c.len-place.ensures)

pub returns-in-Ok-make_at-clause-all_open : goal.returns-in-Ok-make_at-clause-all_open
returns-in-Ok-make_at-clause-all_open g c =
    let told = g.H.Disk.Disk.told in
    let p = c.in-Some.party in
    let is : new_party c.args.line.now ≡ Some p = sym c.new_party.ensures ∙ c.in-Some.is in
    subst (λ (o : Option NewParty). AddsNext told c.args.lines.now o (g.H.Shelf.entry c.args.shelf.now) (g.H.Shelf.entry c.make_at.new.shelf) (g.H.Shelf.has_slot c.make_at.new.shelf) c.args.parties.now c.put_in.new.self) (sym is) (record {
      node = c.in-Ok-make_at.node;
      behind = c.put_in.ensures c.args.parties.now p.own [] c.in-Ok.ensures.added (sym c.len-place.ensures);
      made = c.in-Ok-make_at.ensures.made;
      any_moment = c.in-Ok-make_at.ensures.any_moment;
      placed = c.in-Ok-make_at.ensures.slot;
      others = c.in-Ok-make_at.ensures.shelf.others;
    })

pub returns-in-Err-clause-failed_set_up : goal.returns-in-Err-clause-failed_set_up
returns-in-Err-clause-failed_set_up g c =
    let entry = g.H.Shelf.entry c.args.shelf.now in
    let is : new_party c.args.line.now ≡ Some c.in-Some.party = sym c.new_party.ensures ∙ c.in-Some.is in
    subst (λ (o : Option NewParty). FailsSetUpNext c.args.lines.now o entry entry (Failed failure.NoMemory)) (sym is) (none_made c.args.lines.now c.in-Some.party entry (g.met.H.Shelf.sound c.args.shelf.now c.in-Some.party.own))

pub returns-in-Err-make_at-clause-failed_set_up : goal.returns-in-Err-make_at-clause-failed_set_up
returns-in-Err-make_at-clause-failed_set_up g c =
    let entry = g.H.Shelf.entry in
    let is : new_party c.args.line.now ≡ Some c.in-Some.party = sym c.new_party.ensures ∙ c.in-Some.is in
    subst (λ (o : Option NewParty). FailsSetUpNext c.args.lines.now o (entry c.args.shelf.now) (entry c.make_at.new.shelf) c.in-Err-make_at.why) (sym is) (record {
      failed_set_up = c.in-Err-make_at.ensures.failed_set_up;
      any_moment = c.in-Err-make_at.ensures.left;
      others = c.make_at.ensures.shelf.others;
    })

pub returns-in-Err-make_at-clause-same : goal.returns-in-Err-make_at-clause-same
returns-in-Err-make_at-clause-same g c = c.drop_last.ensures c.args.parties.now (open_party c.in-Some.party.own Away) c.in-Ok.ensures.added
