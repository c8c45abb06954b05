use Rattle.std.proofs.Common.{◌≡◌, ◌<◌, ℕ, List, length, get_or, take, drop, Some, sym, ◌∙◌, ap, subst, arith, inl}
use Rattle.std.proofs.lemmas.List.{length-take, length-drop}
use Rattle.csm_grammar.specs.declared.refusal.ReadRefusal.{ReadRefusal}
use Rattle.csm_read.specs.Faults.{fields_from}
use Rattle.csm_read.specs.Scanning.{RunsOut}
use Rattle.csm_read.proofs.Judging.{front_refused}
use Rattle.csm_read.proofs.ReadSteps.{unit_there, unit_next, unit_end, gap_here, token_fault, token_taken, gap_taken, sound_here, end_answer, endless_answer, short_answer}
use Rattle.csm_read.proofs.reading.answer.Goals as goal

pub returns-in-Some : goal.returns-in-Some
returns-in-Some c = inl (front_refused c.args.bytes.now c.in-Some.fault (sym c.in-Some.ensures))

pub returns-then-judged-lt4 : goal.returns-then-judged-lt4
returns-then-judged-lt4 c =
    let k = short_answer c.args.bytes.now (sym c.in_default.ensures) (subst (λ (x : List ℕ). length x < 4) c.judged-judged.ensures c.if-judged-lt4.true) in
    inl (k ∙ ap (λ (r : ReadRefusal). Some r) (sym c.endless.ensures))

pub take-requires : goal.take-requires
take-requires c = let w = c.loop-len.invariant.within in omega (arith, w, length-take 1024 c.args.bytes.now)

pub returns-in-Err : goal.returns-in-Err
returns-in-Err c =
    let u = unit_there c.args.bytes.now c.judged-judged.result.now c.bytes_from.result.now c.loop-len.place c.in-Some-unit_len.len c.judged-judged.ensures c.bytes_from.ensures c.in-Some-unit_len.ensures in
    let x = unit_next c.args.bytes.now c.loop-len.place c.in-Some-unit_len.len c.token.result.now u c.if-len-gt0.true (c.token.ensures ∙ ap (λ (y : List ℕ). take c.in-Some-unit_len.len (drop c.loop-len.place y)) c.judged-judged.ensures) in
    inl (token_fault c.args.bytes.now c.loop-len.place c.loop-len.last c.in-Some-unit_len.len c.token.result.now c.loop-len.fields.slots c.loop-len.fields.left.bits c.in-Err.fault c.loop-len.invariant x (c.in-Err.ensures (fields_from c.loop-len.invariant.done) c.loop-len.invariant.keeps))

pub loop-len-preserved-then-len-gt0 : goal.loop-len-preserved-then-len-gt0
loop-len-preserved-then-len-gt0 c =
    let u = unit_there c.args.bytes.now c.judged-judged.result.now c.bytes_from.result.now c.loop-len.place c.in-Some-unit_len.len c.judged-judged.ensures c.bytes_from.ensures c.in-Some-unit_len.ensures in
    let x = unit_next c.args.bytes.now c.loop-len.place c.in-Some-unit_len.len c.token.result.now u c.if-len-gt0.true (c.token.ensures ∙ ap (λ (y : List ℕ). take c.in-Some-unit_len.len (drop c.loop-len.place y)) c.judged-judged.ensures) in
    let h = c.in_default-take.ensures (fields_from c.loop-len.invariant.done) c.loop-len.invariant.keeps in
    token_taken c.args.bytes.now c.loop-len.place c.loop-len.last c.in-Some-unit_len.len c.token.result.now c.loop-len.fields.slots c.take.new.self.slots c.loop-len.fields.left.bits c.take.new.self.left.bits c.loop-len.invariant x (unit_end c.args.bytes.now c.loop-len.place c.in-Some-unit_len.len u) h.0 h.1

pub end-requires-clause-sound : goal.end-requires-clause-sound
end-requires-clause-sound c =
    let u = unit_there c.args.bytes.now c.judged-judged.result.now c.bytes_from.result.now c.loop-len.place c.in-Some-unit_len.len c.judged-judged.ensures c.bytes_from.ensures c.in-Some-unit_len.ensures in
    let g = gap_here c.args.bytes.now c.loop-len.place c.in-Some-unit_len.len u c.if-len-gt0.false in
    (fields_from c.loop-len.invariant.done, sound_here c.args.bytes.now c.loop-len.place c.loop-len.last c.loop-len.fields.slots c.loop-len.fields.left.bits c.loop-len.invariant g.within (subst (λ (y : List ℕ). get_or y c.loop-len.place 0 ≡ 41) c.judged-judged.ensures c.if-judged-place-eq41.true))

pub end-requires-clause-place : goal.end-requires-clause-place
end-requires-clause-place c =
    let u = unit_there c.args.bytes.now c.judged-judged.result.now c.bytes_from.result.now c.loop-len.place c.in-Some-unit_len.len c.judged-judged.ensures c.bytes_from.ensures c.in-Some-unit_len.ensures in
    let g = gap_here c.args.bytes.now c.loop-len.place c.in-Some-unit_len.len u c.if-len-gt0.false in
    let k = g.within in omega (arith, k, length-take 1024 c.args.bytes.now)

pub returns-then-judged-place-eq41 : goal.returns-then-judged-place-eq41
returns-then-judged-place-eq41 c =
    let u = unit_there c.args.bytes.now c.judged-judged.result.now c.bytes_from.result.now c.loop-len.place c.in-Some-unit_len.len c.judged-judged.ensures c.bytes_from.ensures c.in-Some-unit_len.ensures in
    let g = gap_here c.args.bytes.now c.loop-len.place c.in-Some-unit_len.len u c.if-len-gt0.false in
    let e = subst (λ (y : List ℕ). get_or y c.loop-len.place 0 ≡ 41) c.judged-judged.ensures c.if-judged-place-eq41.true in
    end_answer c.args.bytes.now c.loop-len.place c.loop-len.last c.loop-len.fields.slots c.loop-len.fields.left.bits c.loop-len.invariant c.end.result g.within e (c.end.ensures (fields_from c.loop-len.invariant.done) (sound_here c.args.bytes.now c.loop-len.place c.loop-len.last c.loop-len.fields.slots c.loop-len.fields.left.bits c.loop-len.invariant g.within e))

pub loop-len-preserved : goal.loop-len-preserved
loop-len-preserved c =
    let u = unit_there c.args.bytes.now c.judged-judged.result.now c.bytes_from.result.now c.loop-len.place c.in-Some-unit_len.len c.judged-judged.ensures c.bytes_from.ensures c.in-Some-unit_len.ensures in
    let g = gap_here c.args.bytes.now c.loop-len.place c.in-Some-unit_len.len u c.if-len-gt0.false in
    gap_taken c.args.bytes.now c.loop-len.place c.loop-len.last c.loop-len.fields.slots c.loop-len.fields.left.bits c.loop-len.invariant g.within g.ended (subst (λ (y : List ℕ). get_or y c.loop-len.place 0 ≡ 41 → ⊥) c.judged-judged.ensures c.if-judged-place-eq41.false)

pub returns : goal.returns
returns c =
    let k = endless_answer c.args.bytes.now c.loop-len.place c.loop-len.last c.loop-len.fields.slots c.loop-len.fields.left.bits c.loop-len.invariant (subst RunsOut (c.bytes_from.ensures ∙ ap (drop c.loop-len.place) c.judged-judged.ensures) c.in_default-unit_len.ensures) in
    inl (k ∙ ap (λ (r : ReadRefusal). Some r) (sym c.endless-2.ensures))

pub bytes_from-requires : goal.bytes_from-requires
bytes_from-requires c =
    let e = ap length c.judged-judged.ensures in
    omega (arith, e, c.loop-len.invariant.within)

pub token-requires : goal.token-requires
token-requires c =
    let u = unit_there c.args.bytes.now c.judged-judged.result.now c.bytes_from.result.now c.loop-len.place c.in-Some-unit_len.len c.judged-judged.ensures c.bytes_from.ensures c.in-Some-unit_len.ensures in
    let w = u.within in
    let e = ap length c.judged-judged.ensures in
    let n = length-drop c.loop-len.place (take 1024 c.args.bytes.now) in
    omega (arith, e, n, w, c.loop-len.invariant.within)

pub overflow_add-place : goal.overflow_add-place
overflow_add-place c =
    let u = unit_there c.args.bytes.now c.judged-judged.result.now c.bytes_from.result.now c.loop-len.place c.in-Some-unit_len.len c.judged-judged.ensures c.bytes_from.ensures c.in-Some-unit_len.ensures in
    let w = u.within in
    let n = length-drop c.loop-len.place (take 1024 c.args.bytes.now) in
    omega (arith, n, w, length-take 1024 c.args.bytes.now, c.loop-len.invariant.within)

pub loop-len-smaller-then-len-gt0 : goal.loop-len-smaller-then-len-gt0
loop-len-smaller-then-len-gt0 c =
    let u = unit_there c.args.bytes.now c.judged-judged.result.now c.bytes_from.result.now c.loop-len.place c.in-Some-unit_len.len c.judged-judged.ensures c.bytes_from.ensures c.in-Some-unit_len.ensures in
    let w = u.within in
    let e = ap length c.judged-judged.ensures in
    let n = length-drop c.loop-len.place (take 1024 c.args.bytes.now) in
    omega (arith, e, n, w, c.loop-len.invariant.within)

pub bounds-judged-place : goal.bounds-judged-place
bounds-judged-place c =
    let u = unit_there c.args.bytes.now c.judged-judged.result.now c.bytes_from.result.now c.loop-len.place c.in-Some-unit_len.len c.judged-judged.ensures c.bytes_from.ensures c.in-Some-unit_len.ensures in
    let w = u.within in
    let e = ap length c.judged-judged.ensures in
    let n = length-drop c.loop-len.place (take 1024 c.args.bytes.now) in
    omega (arith, e, n, w, c.loop-len.invariant.within)

pub overflow_add-place-else-judged-place-eq41 : goal.overflow_add-place-else-judged-place-eq41
overflow_add-place-else-judged-place-eq41 c =
    omega (arith, length-take 1024 c.args.bytes.now, c.loop-len.invariant.within)

pub loop-len-smaller : goal.loop-len-smaller
loop-len-smaller c =
    let u = unit_there c.args.bytes.now c.judged-judged.result.now c.bytes_from.result.now c.loop-len.place c.in-Some-unit_len.len c.judged-judged.ensures c.bytes_from.ensures c.in-Some-unit_len.ensures in
    let w = u.within in
    let e = ap length c.judged-judged.ensures in
    let n = length-drop c.loop-len.place (take 1024 c.args.bytes.now) in
    omega (arith, e, n, w, c.loop-len.invariant.within)
