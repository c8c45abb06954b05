use Rattle.std.proofs.Common.{rules, ◌≡◌, ℕ, List, [], ◌∷◌, Some, ap, sym, subst}
use Rattle.x_disk.specs.Disk.{LeavesOnly, Tells, overwrite}
use Rattle.key_journal.specs.States.{HasBodies, IsBlankOrFirst}
use Rattle.key_journal.proofs.MakeLemmas.{laid, made_ready, made_bodies, lay_moment, made_moment}
use Rattle.key_journal.proofs.blank.Blank.create.Goals as goal

pub returns-in-Err : goal.returns-in-Err
returns-in-Err g c = record {
  created = tt;
  written = tt;
  room = tt;
  place = tt;
  durable = tt;
  any_moment = λ body is_body is tells.
      let told = g.D.Disk.told in
      let same = ap (λ s. s.disk) c.self.view_is in
      subst (λ d. LeavesOnly (told d) (told c.lay.new.disk) (IsBlankOrFirst body)) same
      (lay_moment (told c.self.inside.disk) (told c.lay.new.disk) (told c.lay.new.disk) c.args.frame.now body c.self.invariant (subst (λ d. Tells (told d)) (sym same) tells) c.lay.ensures.any_moment);
  cause = search rules;
  faults = search rules;
  tells = search rules;
}

pub new-requires : goal.new-requires
new-requires g c =
    let told = g.D.Disk.told in
    made_ready (told c.self.inside.disk) (told c.lay.new.disk) (told c.put.new.disk) c.args.frame.now c.requires.body c.self.invariant c.in-Ok.ensures.written c.in-Ok-put.ensures.written c.lay.ensures.tells c.put.ensures.tells c.requires.is c.requires.is_body c.in-Ok-put.ensures.durable

pub returns-in-Ok-put : goal.returns-in-Ok-put
returns-in-Ok-put g c = record {
  created = λ body is_body is tells.
      let told = g.D.Disk.told in
      let same = ap (λ s. s.disk) c.self.view_is in
      subst (λ d. HasBodies (told d) (body ∷ [])) (sym (ap (λ s. s.disk) c.new.ensures.made))
      (made_bodies (told c.self.inside.disk) (told c.lay.new.disk) (told c.put.new.disk) c.args.frame.now body c.self.invariant (subst (λ d. Tells (told d)) (sym same) tells) c.in-Ok.ensures.written c.in-Ok-put.ensures.written is is_body);
  written =
      let told = g.D.Disk.told in
      let frame = c.args.frame.now in
      subst (λ d. (b : List ℕ) → (told d).now ≡ Some b → (told c.new.result.disk).now ≡ Some (overwrite 0 (1 ∷ []) (laid frame b))) (ap (λ s. s.disk) c.self.view_is)
      (subst (λ d. (b : List ℕ) → (told c.self.inside.disk).now ≡ Some b → (told d).now ≡ Some (overwrite 0 (1 ∷ []) (laid frame b))) (sym (ap (λ s. s.disk) c.new.ensures.made))
      (λ b now. c.in-Ok-put.ensures.written (laid frame b) (c.in-Ok.ensures.written b now)));
  room = search rules;
  place = search rules;
  durable = search rules;
  any_moment = λ body is_body is tells.
      let told = g.D.Disk.told in
      let same = ap (λ s. s.disk) c.self.view_is in
      let tells_here = subst (λ d. Tells (told d)) (sym same) tells in
      let first = lay_moment (told c.self.inside.disk) (told c.lay.new.disk) (told c.put.new.disk) c.args.frame.now body c.self.invariant tells_here c.lay.ensures.any_moment in
      let run = made_moment (told c.self.inside.disk) (told c.lay.new.disk) (told c.put.new.disk) c.args.frame.now body c.self.invariant tells_here first c.in-Ok.ensures.durable c.in-Ok.ensures.written c.put.ensures.any_moment is is_body in
      subst (λ d. LeavesOnly (told d) (told c.new.result.disk) (IsBlankOrFirst body)) same (subst (λ d. LeavesOnly (told c.self.inside.disk) (told d) (IsBlankOrFirst body)) (sym (ap (λ s. s.disk) c.new.ensures.made)) run);
  cause = tt;
  faults = search rules;
  tells = search rules;
}

pub returns-in-Err-put : goal.returns-in-Err-put
returns-in-Err-put g c = record {
  created = tt;
  written = tt;
  room = tt;
  place = tt;
  durable = tt;
  any_moment = λ body is_body is tells.
      let told = g.D.Disk.told in
      let same = ap (λ s. s.disk) c.self.view_is in
      let tells_here = subst (λ d. Tells (told d)) (sym same) tells in
      let first = lay_moment (told c.self.inside.disk) (told c.lay.new.disk) (told c.put.new.disk) c.args.frame.now body c.self.invariant tells_here c.lay.ensures.any_moment in
      let run = made_moment (told c.self.inside.disk) (told c.lay.new.disk) (told c.put.new.disk) c.args.frame.now body c.self.invariant tells_here first c.in-Ok.ensures.durable c.in-Ok.ensures.written c.put.ensures.any_moment is is_body in
      subst (λ d. LeavesOnly (told d) (told c.put.new.disk) (IsBlankOrFirst body)) same run;
  cause = search rules;
  faults = search rules;
  tells = search rules;
}
