use Rattle.std.proofs.Common.{true, ◌≡◌, ap, ◌∙◌, ◌+◌, ℕ, List, ◌∷◌, take, drop, Some, None, Ok, Err, sym, subst, refl, arith}
use Rattle.key_journal.specs.Journal.{four_bytes}
use Rattle.key_journal.specs.Judged.{IfBody, IsSized}
use Rattle.key_journal.specs.declared.cause.Cause.TheVariants as cause
use Rattle.key_journal.specs.Reading.{IsReadOn}
use Rattle.key_journal.proofs.NextLemmas.{body_read, damage_told, failed, none_left, reading, rose_later, still_same}
use Rattle.key_journal.proofs.OpenLemmas.{ended_at, more_state, still_both, closed_is, closed_state, first_gate, later_gate, found_first, found_damage}
use Rattle.key_journal.proofs.opened.Opened.next.Goals as goal

pub invariant_of-self-in-Frame : goal.invariant_of-self-in-Frame
invariant_of-self-in-Frame g c =
    let i = c.self.inside in
    let told = g.D.Disk.told in
    let sized = subst (λ j. IfBody j (λ m. IsSized i.gate i.end i.reader.size m)) c.in-Frame.is c.in_ok-n.ensures.sized in
    let front = subst (λ j. IfBody j (λ m. (b : List ℕ) → (told i.reader.disk).now ≡ Some b → take 5 (drop i.gate b) ≡ 1 ∷ four_bytes m)) c.in-Frame.is c.in_ok-n.ensures.bytes in
    more_state (told i.reader.disk) i.reader.size i.gate i.end i.ended c.self.invariant (told c.body.new.self.disk) c.body.new.self.size (i.gate + (5 + c.in-Frame.n)) c.in-Frame.n c.in_ok-body-in-Frame.body
    (still_both (told i.reader.disk) (told c.judge_at.new.self.disk) (told c.body.new.self.disk) c.judge_at.ensures.file.still c.body.ensures.file.still) (c.body.ensures.file.size ∙ c.judge_at.ensures.file.size) c.if-self.false refl sized front
    (λ b is. c.in_ok-body-in-Frame.ensures.bytes b (c.judge_at.ensures.file.still.now ∙ is))

pub invariant_of-self-in-Closed : goal.invariant_of-self-in-Closed
invariant_of-self-in-Closed g c =
    let i = c.self.inside in
    let told = g.D.Disk.told in
    closed_state (told i.reader.disk) i.reader.size i.gate i.end i.ended c.self.invariant (told c.judge_at.new.self.disk) c.judge_at.new.self.size c.judge_at.ensures.file.still c.judge_at.ensures.file.size
    (λ b is. closed_is b i.gate i.end (sym c.in-Closed.is ∙ c.in_ok-n.ensures.value b is)) c.if-self-2.false

pub returns-then-self : goal.returns-then-self
returns-then-self g c =
    let i = c.self.inside in
    let told = g.D.Disk.told in
    let at = reading i.reader.disk i.gate i.end i.ended in
    subst (λ s. IsReadOn told s s (Ok None)) c.self.view_is
    (none_left told at at i.reader.size c.self.invariant (still_same (told i.reader.disk)) (omega arith) refl refl c.if-self.true
    (ended_at (told i.reader.disk) i.reader.size i.gate i.end i.ended c.self.invariant c.if-self.true))

pub returns-in_err-n : goal.returns-in_err-n
returns-in_err-n g c =
    let i = c.self.inside in
    let told = g.D.Disk.told in
    let file = c.judge_at.ensures.file in
    subst (λ s. IsReadOn told s (reading c.judge_at.new.self.disk i.gate i.end i.ended) c.from_residual.result) c.self.view_is
    (failed told (reading i.reader.disk i.gate i.end i.ended) (reading c.judge_at.new.self.disk i.gate i.end i.ended) c.in_err-n.field-0.0 c.from_residual.result c.from_residual.ensures
    file.still (record { later = file.cause.later; fault = λ is. file.cause.fault (c.in_err-n.was ∙ ap (λ x. Err x) is) }) refl refl refl)

pub returns-in_err-body-in-Frame : goal.returns-in_err-body-in-Frame
returns-in_err-body-in-Frame g c =
    let i = c.self.inside in
    let told = g.D.Disk.told in
    let first = c.judge_at.ensures.file in
    let file = c.body.ensures.file in
    subst (λ s. IsReadOn told s (reading c.body.new.self.disk i.gate i.end i.ended) c.from_residual-in_err-body-in-Frame.result) c.self.view_is
    (failed told (reading i.reader.disk i.gate i.end i.ended) (reading c.body.new.self.disk i.gate i.end i.ended) c.in_err-body-in-Frame.field-0.0 c.from_residual-in_err-body-in-Frame.result c.from_residual-in_err-body-in-Frame.ensures
    (still_both (told i.reader.disk) (told c.judge_at.new.self.disk) (told c.body.new.self.disk) first.still file.still) (record { later = omega (arith, first.cause.later, file.cause.later); fault = λ is. rose_later _ _ _ first.cause.later (file.cause.fault (c.in_err-body-in-Frame.was ∙ ap (λ x. Err x) is)) }) refl refl refl)

pub returns-then-self-2 : goal.returns-then-self-2
returns-then-self-2 g c =
    let i = c.self.inside in
    let told = g.D.Disk.told in
    let file = c.judge_at.ensures.file in
    let old = reading i.reader.disk i.gate i.end i.ended in
    let new = reading c.judge_at.new.self.disk i.gate i.end i.ended in
    subst (λ s. IsReadOn told s new (Err (cause.Damaged i.gate))) c.self.view_is
    (damage_told told old new i.reader.size c.self.invariant file.still file.cause.later refl refl refl
    (λ b is. found_first b i.gate i.end (closed_is b i.gate i.end (sym c.in-Closed.is ∙ c.in_ok-n.ensures.value b is)) (first_gate (told i.reader.disk) i.reader.size i.gate i.end i.ended c.self.invariant b is c.if-self-2.true)))

pub returns-in-Damaged : goal.returns-in-Damaged
returns-in-Damaged g c =
    let i = c.self.inside in
    let told = g.D.Disk.told in
    let file = c.judge_at.ensures.file in
    let old = reading i.reader.disk i.gate i.end i.ended in
    let new = reading c.judge_at.new.self.disk i.gate i.end i.ended in
    subst (λ s. IsReadOn told s new (Err (cause.Damaged i.gate))) c.self.view_is
    (damage_told told old new i.reader.size c.self.invariant file.still file.cause.later refl refl refl
    (λ b is. found_damage b i.gate i.end (sym c.in-Damaged.is ∙ c.in_ok-n.ensures.value b is)))

pub returns-else-self-2 : goal.returns-else-self-2
returns-else-self-2 g c =
    let i = c.self.inside in
    let told = g.D.Disk.told in
    let file = c.judge_at.ensures.file in
    let old = reading i.reader.disk i.gate i.end i.ended in
    let new = reading c.judge_at.new.self.disk i.gate i.end true in
    subst (λ s. IsReadOn told s new (Ok None)) c.self.view_is
    (none_left told old new i.reader.size c.self.invariant file.still file.cause.later refl refl refl
    (λ b is. (closed_is b i.gate i.end (sym c.in-Closed.is ∙ c.in_ok-n.ensures.value b is), later_gate (told i.reader.disk) i.reader.size i.gate i.end i.ended c.self.invariant b is c.if-self-2.false)))

pub returns-in_ok-body-in-Frame : goal.returns-in_ok-body-in-Frame
returns-in_ok-body-in-Frame g c =
    let i = c.self.inside in
    let told = g.D.Disk.told in
    let first = c.judge_at.ensures.file in
    let file = c.body.ensures.file in
    let body = c.in_ok-body-in-Frame.body in
    let old = reading i.reader.disk i.gate i.end i.ended in
    let new = reading c.body.new.self.disk (i.gate + (5 + c.in-Frame.n)) i.end i.ended in
    let still = still_both (told i.reader.disk) (told c.judge_at.new.self.disk) (told c.body.new.self.disk) first.still file.still in
    subst (λ s. IsReadOn told s new (Ok (Some body))) c.self.view_is
    (body_read told old new i.reader.size c.self.invariant still (omega (arith, first.cause.later, file.cause.later)) refl c.in-Frame.n body c.if-self.false refl (invariant_of-self-in-Frame g c).room c.in_ok-body-in-Frame.ensures.length
    (subst (λ j. IfBody j (λ m. IsSized i.gate i.end i.reader.size m)) c.in-Frame.is c.in_ok-n.ensures.sized)
    (λ b is. sym c.in-Frame.is ∙ c.in_ok-n.ensures.value b is)
    (subst (λ j. IfBody j (λ m. (b : List ℕ) → (told i.reader.disk).now ≡ Some b → take 5 (drop i.gate b) ≡ 1 ∷ four_bytes m)) c.in-Frame.is c.in_ok-n.ensures.bytes)
    (λ b is. c.in_ok-body-in-Frame.ensures.bytes b (first.still.now ∙ is)))
