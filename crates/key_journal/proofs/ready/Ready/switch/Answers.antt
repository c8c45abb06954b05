use Rattle.std.proofs.Common.{rules, ◌≡◌, ◌∙◌, ◌∷◌, [], ℕ, List, Some, ap, subst, sym}
use Rattle.x_disk.specs.Disk.{LeavesOnly, Tells, IsWritten, overwrite}
use Rattle.key_journal.specs.States.{HasBodies, IsOldOrAlone, other_start, selector_of}
use Rattle.x_disk.proofs.Runs.{weaker}
use Rattle.key_journal.proofs.StepLemmas.{room_is}
use Rattle.key_journal.proofs.SwitchLemmas.{beside, stable_has, beside_moment, switch_moment, switched, switch_ready, switch_written}
use Rattle.std.proofs.Common.{inl}
use Rattle.key_journal.specs.Journal.{HoldsBodies}
use Rattle.key_journal.proofs.ready.Ready.switch.Goals as goal

pub returns-in-Err : goal.returns-in-Err
returns-in-Err g c = record {
  switched = tt;
  written = tt;
  room = tt;
  place = tt;
  durable = tt;
  any_moment = λ bodies body has is_body is.
      let told = g.D.Disk.told in
      let i = c.self.inside in
      let same = ap (λ s. s.disk) c.self.view_is in
      subst (λ d. LeavesOnly (told d) (told c.lay_alone.new.disk) (IsOldOrAlone bodies body)) same
      (weaker (told i.disk) (told c.lay_alone.new.disk) (λ image. HoldsBodies image bodies) (IsOldOrAlone bodies body)
      (beside_moment (told i.disk) (told c.lay_alone.new.disk) (told c.lay_alone.new.disk) i.gate i.end c.other_start-start.result c.other_start-start.ensures c.args.frame.now body c.self.invariant is_body is c.lay_alone.ensures.any_moment bodies
      (subst (λ d. HasBodies (told d) bodies) (sym same) has)) (λ image holds. inl holds));
  cause = search rules;
  faults = search rules;
  tells = search rules;
  calls_left = tt;
  blows = search rules;
  covered = search rules;
  covered_then = tt;
  stable = λ bodies has image is.
      let told = g.D.Disk.told in
      let i = c.self.inside in
      let mid = told c.lay_alone.new.disk in
      stable_has (told i.disk) mid (λ image. HoldsBodies image bodies) (g.met.D.Disk.sound c.lay_alone.new.disk)
      (beside_moment (told i.disk) mid mid i.gate i.end c.other_start-start.result c.other_start-start.ensures c.args.frame.now c.requires.body c.self.invariant c.requires.is_body c.requires.is c.lay_alone.ensures.any_moment bodies
      (subst (λ d. HasBodies (told d) bodies) (sym (ap (λ s. s.disk) c.self.view_is)) has)) image is;
}

pub invariant_of-result : goal.invariant_of-result
invariant_of-result g c =
    let told = g.D.Disk.told in
    let i = c.self.inside in
    let mid = told c.lay_alone.new.disk in
    let new = told c.put.new.disk in
    switch_ready (told i.disk) mid new i.gate i.end c.other_start-start.result c.other_start-start.ensures c.args.frame.now c.requires.body c.self.invariant (g.met.D.Disk.sound c.lay_alone.new.disk) c.requires.is_body c.requires.is
    c.lay_alone.ensures.any_moment c.in-Ok.ensures.written (subst (λ (byte : ℕ). IsWritten 1 (byte ∷ []) mid new) c.selector_of.ensures c.in-Ok-put.ensures.written) c.lay_alone.ensures.tells c.put.ensures.tells c.in-Ok-put.ensures.durable

pub returns-in-Ok-put : goal.returns-in-Ok-put
returns-in-Ok-put g c = record {
  switched = λ body is_body is tells.
      let told = g.D.Disk.told in
      let i = c.self.inside in
      let mid = told c.lay_alone.new.disk in
      let new = told c.put.new.disk in
      switched (told i.disk) mid new i.gate i.end c.other_start-start.result c.other_start-start.ensures c.args.frame.now body c.self.invariant (g.met.D.Disk.sound c.lay_alone.new.disk) is_body is c.lay_alone.ensures.any_moment
      c.in-Ok.ensures.written (subst (λ (byte : ℕ). IsWritten 1 (byte ∷ []) mid new) c.selector_of.ensures c.in-Ok-put.ensures.written) (subst (λ d. Tells (told d)) (sym (ap (λ s. s.disk) c.self.view_is)) tells);
  written =
      let told = g.D.Disk.told in
      let i = c.self.inside in
      let mid = told c.lay_alone.new.disk in
      let new = told c.put.new.disk in
      let frame = c.args.frame.now in
      subst (λ s. (b : List ℕ) → (told s.disk).now ≡ Some b → new.now ≡ Some (overwrite 1 (selector_of (other_start s.end) ∷ []) (beside (other_start s.end) frame b))) c.self.view_is
      (switch_written (told i.disk) mid new i.gate i.end c.other_start-start.result c.other_start-start.ensures frame c.requires.body c.in-Ok.ensures.written
      (subst (λ (byte : ℕ). IsWritten 1 (byte ∷ []) mid new) c.selector_of.ensures c.in-Ok-put.ensures.written));
  room = room_is (g.D.Disk.told c.put.new.disk) _ _ (invariant_of-result g c);
  place = search rules;
  durable = search rules;
  any_moment = λ bodies body has is_body is.
      let told = g.D.Disk.told in
      let i = c.self.inside in
      let same = ap (λ s. s.disk) c.self.view_is in
      subst (λ d. LeavesOnly (told d) (told c.put.new.disk) (IsOldOrAlone bodies body)) same
      (switch_moment (told i.disk) (told c.lay_alone.new.disk) (told c.put.new.disk) i.gate i.end c.other_start-start.result c.other_start-start.ensures c.args.frame.now body c.self.invariant (g.met.D.Disk.sound c.lay_alone.new.disk) is_body is
      c.lay_alone.ensures.any_moment c.in-Ok.ensures.written c.in-Ok.ensures.durable c.put.ensures.any_moment bodies (subst (λ d. HasBodies (told d) bodies) (sym same) has));
  cause = tt;
  faults = search rules;
  tells = search rules;
  calls_left = search rules;
  blows = search rules;
  covered = tt;
  covered_then = search rules;
  stable = tt;
}

pub returns-in-Err-put : goal.returns-in-Err-put
returns-in-Err-put g c = record {
  switched = tt;
  written = tt;
  room = tt;
  place = tt;
  durable = tt;
  any_moment = λ bodies body has is_body is.
      let told = g.D.Disk.told in
      let i = c.self.inside in
      let same = ap (λ s. s.disk) c.self.view_is in
      subst (λ d. LeavesOnly (told d) (told c.put.new.disk) (IsOldOrAlone bodies body)) same
      (switch_moment (told i.disk) (told c.lay_alone.new.disk) (told c.put.new.disk) i.gate i.end c.other_start-start.result c.other_start-start.ensures c.args.frame.now body c.self.invariant (g.met.D.Disk.sound c.lay_alone.new.disk) is_body is
      c.lay_alone.ensures.any_moment c.in-Ok.ensures.written c.in-Ok.ensures.durable c.put.ensures.any_moment bodies (subst (λ d. HasBodies (told d) bodies) (sym same) has));
  cause = search rules;
  faults = search rules;
  tells = search rules;
  calls_left = tt;
  blows = search rules;
  covered = search rules;
  covered_then = tt;
  stable = λ bodies has image is.
      let told = g.D.Disk.told in
      let i = c.self.inside in
      let mid = told c.lay_alone.new.disk in
      stable_has (told i.disk) mid (λ image. HoldsBodies image bodies) (g.met.D.Disk.sound c.lay_alone.new.disk)
      (beside_moment (told i.disk) mid mid i.gate i.end c.other_start-start.result c.other_start-start.ensures c.args.frame.now c.requires.body c.self.invariant c.requires.is_body c.requires.is c.lay_alone.ensures.any_moment bodies
      (subst (λ d. HasBodies (told d) bodies) (sym (ap (λ s. s.disk) c.self.view_is)) has)) image (sym c.in-Err-put.ensures.stable ∙ is);
}
