use Rattle.std.proofs.Common.{◌≡◌, ◌∙◌, ℕ, List, take, Err, ⊎_elim, sym, ap, subst, arith}
use Rattle.std.specs.Prelude.{Contains}
use Rattle.std.proofs.lemmas.List.{take_all}
use Rattle.scenario.specs.declared.line.Line.{Line}
use Rattle.scenario.specs.Behind.{EachBehind}
use Rattle.scenario.specs.Rules.{may_follow}
use Rattle.open_parties.specs.Closing.{AllBack, AllSlots, OtherDisksStay}
use Rattle.open_parties.specs.OpenParties.{owners}
use Rattle.course.specs.Parties.{parties_in}
use Rattle.replay.specs.SettingUp.{AllTell, SetsUpOnly, IsSetUpEnd}
use Rattle.open_parties.specs.declared.failure.Failure.TheVariants as failure
use Rattle.replay.specs.declared.making.SetUpEnd.TheVariants.{Failed}
use Rattle.open_parties.specs.declared.open_party.OpenParty.{OpenParty}
use Rattle.replay.proofs.Halting.{halts, halts_only, halts_others}
use Rattle.replay.proofs.Joining.{none_set_up, set_up_more, strangers, apart_next}
use Rattle.open_parties.proofs.Owning.{slots_stay}
use Rattle.open_parties.proofs.PuttingBack.{rose_on, rose_then}
use Rattle.replay.proofs.setting_up.set_up.Goals as goal

pub loop-line-init : goal.loop-line-init
loop-line-init g c = record {
  set_up = rw c.new-parties.ensures (none_set_up g.H.Disk.Disk.told c.lines-lines.result.now (g.H.Shelf.entry c.args.shelf.now) (g.H.Shelf.has_slot c.args.shelf.now) (g.met.H.Shelf.sound c.args.shelf.now));
  later = omega arith;
}

pub add_next-requires : goal.add_next-requires
add_next-requires g c =
    let rules = subst (λ (ls : List Line). EachBehind may_follow ls) (sym c.lines-lines.ensures.lines) c.lines-lines.ensures.rules in
    record {
      rules = rules;
      apart = apart_next c.lines-lines.result.now c.loop-line.line-index c.line-item.result c.loop-line.parties rules c.loop-line-test.true c.line-item.is c.loop-line.invariant.set_up.owners_are;
    }

pub end_all-requires-clause-slots : goal.end_all-requires-clause-slots
end_all-requires-clause-slots g c =
    subst (λ (l : List (OpenParty _)). AllSlots (g.H.Shelf.has_slot c.add_next.new.shelf) (owners l)) (sym c.in-Err.ensures.same)
    (slots_stay (g.H.Shelf.has_slot c.loop-line.shelf) (g.H.Shelf.has_slot c.add_next.new.shelf) (owners c.loop-line.parties) c.in-Err.ensures.slots c.loop-line.invariant.set_up.slots)

pub loop-line-preserved : goal.loop-line-preserved
loop-line-preserved g c =
    let told = g.H.Disk.Disk.told in
    let entry = g.H.Shelf.entry in
    let slot = g.H.Shelf.has_slot in
    let lines = c.lines-lines.result.now in
    let rules = subst (λ (ls : List Line). EachBehind may_follow ls) (sym c.lines-lines.ensures.lines) c.lines-lines.ensures.rules in
    let more = set_up_more told lines (entry c.args.shelf.now) (entry c.loop-line.shelf) (slot c.loop-line.shelf) c.loop-line.parties rules c.loop-line.line-index c.line-item.result c.loop-line-test.true c.line-item.is
    c.loop-line.invariant.set_up (entry c.add_next.new.shelf) (slot c.add_next.new.shelf) c.in-Ok.ensures.slots c.add_next.new.parties c.in-Ok.ensures.all_open in
    record {
      set_up = more;
      later = omega (arith, c.loop-line.invariant.later, c.in-Ok.ensures.later);
    }

pub returns-in-Err-clause-ended : goal.returns-in-Err-clause-ended
returns-in-Err-clause-ended g c =
    let told = g.H.Disk.Disk.told in
    let entry = g.H.Shelf.entry in
    let slot = g.H.Shelf.has_slot in
    let lines = c.lines-lines.result.now in
    let rules = subst (λ (ls : List Line). EachBehind may_follow ls) (sym c.lines-lines.ensures.lines) c.lines-lines.ensures.rules in
    let same = c.in-Err.ensures.same in
    let back = subst (λ (l : List (OpenParty _)). AllBack told (entry c.add_next.new.shelf) (entry c.end_all.new.shelf) l) same c.end_all.ensures.back in
    let others = subst (λ (l : List (OpenParty _)). OtherDisksStay (entry c.add_next.new.shelf) (entry c.end_all.new.shelf) l) same c.end_all.ensures.others in
    subst (λ (ls : List Line). AllTell (entry c.args.shelf.now) (parties_in ls) → IsSetUpEnd ls (entry c.args.shelf.now) (entry c.end_all.new.shelf) c.end_all.result) c.lines-lines.ensures.lines
    (halts told lines (entry c.args.shelf.now) (entry c.loop-line.shelf) (slot c.loop-line.shelf) c.loop-line.parties rules c.loop-line.line-index c.line-item.result c.loop-line-test.true c.line-item.is
    c.loop-line.invariant.set_up (entry c.add_next.new.shelf) (entry c.end_all.new.shelf) c.in-Err.why c.end_all.result c.in-Err.ensures.failed_set_up back others c.end_all.ensures.end (g.met.H.Shelf.sound c.end_all.new.shelf))

pub returns-in-Err-clause-any_moment : goal.returns-in-Err-clause-any_moment
returns-in-Err-clause-any_moment g c =
    let told = g.H.Disk.Disk.told in
    let entry = g.H.Shelf.entry in
    let slot = g.H.Shelf.has_slot in
    let lines = c.lines-lines.result.now in
    let rules = subst (λ (ls : List Line). EachBehind may_follow ls) (sym c.lines-lines.ensures.lines) c.lines-lines.ensures.rules in
    let same = c.in-Err.ensures.same in
    let back = subst (λ (l : List (OpenParty _)). AllBack told (entry c.add_next.new.shelf) (entry c.end_all.new.shelf) l) same c.end_all.ensures.back in
    let others = subst (λ (l : List (OpenParty _)). OtherDisksStay (entry c.add_next.new.shelf) (entry c.end_all.new.shelf) l) same c.end_all.ensures.others in
    subst (λ (ls : List Line). AllTell (entry c.args.shelf.now) (parties_in ls) → (own : List ℕ) → SetsUpOnly ls own (entry c.args.shelf.now own) (entry c.end_all.new.shelf own)) c.lines-lines.ensures.lines
    (halts_only told lines (entry c.args.shelf.now) (entry c.loop-line.shelf) (slot c.loop-line.shelf) c.loop-line.parties rules c.loop-line.line-index c.line-item.result c.loop-line-test.true c.line-item.is
    c.loop-line.invariant.set_up (entry c.add_next.new.shelf) (entry c.end_all.new.shelf) c.in-Err.why c.end_all.result c.in-Err.ensures.failed_set_up back others c.end_all.ensures.end)

pub returns-in-Err-clause-others : goal.returns-in-Err-clause-others
returns-in-Err-clause-others g c = λ own never.
    let told = g.H.Disk.Disk.told in
    let entry = g.H.Shelf.entry in
    let slot = g.H.Shelf.has_slot in
    let lines = c.lines-lines.result.now in
    let rules = subst (λ (ls : List Line). EachBehind may_follow ls) (sym c.lines-lines.ensures.lines) c.lines-lines.ensures.rules in
    let same = c.in-Err.ensures.same in
    let back = subst (λ (l : List (OpenParty _)). AllBack told (entry c.add_next.new.shelf) (entry c.end_all.new.shelf) l) same c.end_all.ensures.back in
    let others = subst (λ (l : List (OpenParty _)). OtherDisksStay (entry c.add_next.new.shelf) (entry c.end_all.new.shelf) l) same c.end_all.ensures.others in
    halts_others told lines (entry c.args.shelf.now) (entry c.loop-line.shelf) (slot c.loop-line.shelf) c.loop-line.parties rules c.loop-line.line-index c.line-item.result c.loop-line-test.true c.line-item.is
    c.loop-line.invariant.set_up (entry c.add_next.new.shelf) (entry c.end_all.new.shelf) c.in-Err.why c.end_all.result c.in-Err.ensures.failed_set_up back others c.end_all.ensures.end
    own (λ k. never (subst (λ (ls : List Line). Contains (parties_in ls) own) c.lines-lines.ensures.lines k))

pub returns-in-Err-clause-fault : goal.returns-in-Err-clause-fault
returns-in-Err-clause-fault g c = λ is.
    let faults = g.H.Shelf.faults in
    let e : c.end_all.result ≡ Failed failure.Fault = cc is in
    ⊎_elim
    (λ same. rose_on (faults c.args.shelf.now) (faults c.loop-line.shelf) (faults c.end_all.new.shelf) c.loop-line.invariant.later
    (rose_then (faults c.loop-line.shelf) (faults c.add_next.new.shelf) (faults c.end_all.new.shelf) c.end_all.ensures.later (c.in-Err.ensures.fault (ap Err same))))
    (λ rose. rose_on (faults c.args.shelf.now) (faults c.add_next.new.shelf) (faults c.end_all.new.shelf) (omega (arith, c.loop-line.invariant.later, c.in-Err.ensures.later)) rose)
    (c.end_all.ensures.fault e)

pub returns-clause-others : goal.returns-clause-others
returns-clause-others g c = λ own never.
    let told = g.H.Disk.Disk.told in
    let lines = c.lines-lines.result.now in
    let all : take c.loop-line.line-index lines ≡ c.args.scenario.now = take_all c.loop-line.line-index lines c.loop-line-test.false ∙ c.lines-lines.ensures.lines in
    strangers told lines (g.H.Shelf.entry c.args.shelf.now) (g.H.Shelf.entry c.loop-line.shelf) (g.H.Shelf.has_slot c.loop-line.shelf) c.loop-line.parties (take c.loop-line.line-index lines) c.loop-line.invariant.set_up own
    (λ k. never (subst (λ (ls : List Line). Contains (parties_in ls) own) all k))
