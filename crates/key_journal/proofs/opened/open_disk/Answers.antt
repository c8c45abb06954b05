use Rattle.std.proofs.Common.{rules, ◌≡◌, inr, ◌∙◌, ◌+◌, ℕ, List, Some, None, sym, ap, subst, refl, false}
use Rattle.key_journal.specs.Layout.{area_size}
use Rattle.key_journal.specs.Opening.{IsOpen, IsOpened, refusal_of}
use Rattle.key_journal.specs.declared.cause.Cause.{Cause}
use Rattle.key_journal.proofs.OpenLemmas.{opened_state, opened_is, refused_is, long_enough, none_of, undamaged_header, damaged_header}
use Rattle.key_journal.proofs.DamageLemmas.{first_refusal}
use Rattle.key_journal.proofs.opened.open_disk.Goals as goal

pub returns-in-Some : goal.returns-in-Some
returns-in-Some g c = record {
  opened = tt;
  refused = refused_is (g.D.Disk.told c.args.disk) (g.D.Disk.told c.look.new.disk) c.in-Some.cause c.look.ensures.now c.in-Some.ensures.names
      (λ b is. sym (c.refusal.ensures.value b (c.in-Ok.ensures.header b is)) ∙ c.in-Some.is);
  undamaged = λ bodies has.
      absurd (undamaged_header (g.D.Disk.told c.args.disk) bodies c.in-Some.cause has (λ b is. sym (c.refusal.ensures.value b (c.in-Ok.ensures.header b is)) ∙ c.in-Some.is));
  damaged = λ place is b now.
      damaged_header b place (sym (c.refusal.ensures.value b (c.in-Ok.ensures.header b now)) ∙ c.in-Some.is ∙ ap (λ (x : Cause). Some x) is);
  first_damage = λ place b now damage.
      inr (first_refusal b place c.in-Some.cause damage (sym (c.refusal.ensures.value b (c.in-Ok.ensures.header b now)) ∙ c.in-Some.is));
  any_moment = search rules;
  images = search rules;
  faults = search rules;
}

pub invariant_of-result : goal.invariant_of-result
invariant_of-result g c =
    let told = g.D.Disk.told in
    let fine : (b : List ℕ) → (told c.args.disk).now ≡ Some b → refusal_of b ≡ None = λ b is. sym (c.refusal.ensures.value b (c.in-Ok.ensures.header b is)) ∙ none_of c.refusal.result c.in_default.not-Some in
    let was : (b : List ℕ) → (told c.look.new.disk).now ≡ Some b → (told c.args.disk).now ≡ Some b = λ b is. sym c.look.ensures.now ∙ is in
    subst (λ d. IsOpen (told d) c.new.result.size c.start-gate.result (c.start-gate.result + area_size) false) (sym c.new.ensures.disk)
    (opened_state (told c.look.new.disk) c.new.result.size c.start-gate.result (c.start-gate.result + area_size) c.in-Ok.ensures.durable c.start-gate.ensures.bounds refl
    (λ b is. c.new.ensures.size ∙ (c.in-Ok.ensures.header b (was b is)).long) (λ b is. fine b (was b is)) (λ b is. c.start-gate.ensures.start b (c.in-Ok.ensures.header b (was b is)) (long_enough b (fine b (was b is)))))

pub returns : goal.returns
returns g c = record {
  opened = let told = g.D.Disk.told in
      let fine : (b : List ℕ) → (told c.args.disk).now ≡ Some b → refusal_of b ≡ None = λ b is. sym (c.refusal.ensures.value b (c.in-Ok.ensures.header b is)) ∙ none_of c.refusal.result c.in_default.not-Some in
      let was : (b : List ℕ) → (told c.look.new.disk).now ≡ Some b → (told c.args.disk).now ≡ Some b = λ b is. sym c.look.ensures.now ∙ is in
      let state = opened_state (told c.look.new.disk) c.new.result.size c.start-gate.result (c.start-gate.result + area_size) c.in-Ok.ensures.durable c.start-gate.ensures.bounds refl
      (λ b is. c.new.ensures.size ∙ (c.in-Ok.ensures.header b (was b is)).long) (λ b is. fine b (was b is)) (λ b is. c.start-gate.ensures.start b (c.in-Ok.ensures.header b (was b is)) (long_enough b (fine b (was b is)))) in
      subst (λ d. IsOpened (told c.args.disk) (told d) c.start-gate.result (c.start-gate.result + area_size) false) (sym c.new.ensures.disk)
      (opened_is (told c.args.disk) (told c.look.new.disk) c.new.result.size c.start-gate.result (c.start-gate.result + area_size) c.look.ensures.now c.in-Ok.ensures.durable state fine (λ b is. c.start-gate.ensures.start b (c.in-Ok.ensures.header b is) (long_enough b (fine b is))));
  refused = tt;
  undamaged = search rules;
  damaged = tt;
  first_damage = tt;
  any_moment = search rules;
  images = search rules;
  faults = search rules;
}
