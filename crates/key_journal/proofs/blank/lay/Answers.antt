use Rattle.std.proofs.Common.{◌≡◌, ◌∙◌, ℕ, List, length, take, ap, subst, arith}
use Rattle.x_disk.specs.Disk.{IsTornAt}
use Rattle.x_disk.proofs.Runs.{began, goes_on, joined, weaker}
use Rattle.key_journal.specs.States.{MayTear}
use Rattle.key_journal.proofs.MakeLemmas.{gate_stays, some_gate}
use Rattle.key_journal.proofs.blank.lay.Goals as goal

pub returns-in_err-write_at-clause-any_moment : goal.returns-in_err-write_at-clause-any_moment
returns-in_err-write_at-clause-any_moment g c = λ b is durable some.
    let old = g.D.Disk.told c.args.disk.now in
    let P : List ℕ → Type 0 = λ image. take 1 image ≡ take 1 b in
    let at_start = began old P (g.met.D.Disk.sound c.args.disk.now) (λ image left. ap (λ (l : List ℕ). take 1 l) (durable.only b image is left)) in
    goes_on old old (g.D.Disk.told c.write_at.new.self) P at_start c.write_at.ensures.time
    (λ image left.
    let from = c.write_at.ensures.crash image left in
    let same = durable.only b from.0 is from.1 in
    gate_stays 1 _ b image (omega arith) some (subst (λ (l : List ℕ). IsTornAt 1 16 l image) same from.2))

pub returns-clause-any_moment : goal.returns-clause-any_moment
returns-clause-any_moment g c = λ b is durable some.
    let old = g.D.Disk.told c.args.disk.now in
    let mid = g.D.Disk.told c.write_at.new.self in
    let P : List ℕ → Type 0 = λ image. take 1 image ≡ take 1 b in
    let at_start = began old P (g.met.D.Disk.sound c.args.disk.now) (λ image left. ap (λ (l : List ℕ). take 1 l) (durable.only b image is left)) in
    let torn : (image : List ℕ) → mid.may_leave image → P image = λ image left.
    let from = c.write_at.ensures.crash image left in
    gate_stays 1 _ b image (omega arith) some (subst (λ (l : List ℕ). IsTornAt 1 16 l image) (durable.only b from.0 is from.1) from.2) in
    let first = goes_on old old mid P at_start c.write_at.ensures.time torn in
    joined old mid (g.D.Disk.told c.put.new.disk) P first
    (weaker mid (g.D.Disk.told c.put.new.disk) (MayTear mid 17 (length c.args.frame.now)) P c.put.ensures.any_moment
    (λ image may.
    let before = torn may.0 may.1 in
    gate_stays 17 (length c.args.frame.now) may.0 image (omega arith) (some_gate may.0 b some before) may.2 ∙ before))
