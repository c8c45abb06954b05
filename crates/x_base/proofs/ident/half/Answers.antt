use Rattle.std.proofs.Common.{◌≡◌, ℕ, ◌+◌, ◌%◌, ◌<◌, length, length-set, take, drop, get_or, arith, ap, ◌∙◌}
use Rattle.std.specs.Int.{w64, from_be_bytes}
use Rattle.std.proofs.lemmas.List.Edits.{fill_by_more}
use Rattle.x_base.specs.Ident.{repeated}
use Rattle.x_base.proofs.Expanding.{eight_bytes}
use Rattle.x_base.proofs.ident.half.Goals as goal

pub loop-place-preserved : goal.loop-place-preserved
loop-place-preserved c = record {
  sized = omega (arith, length-set {A = ℕ});
  repeats = fill_by_more (λ (k : ℕ). get_or c.args.name.now ((c.args.start + k) % length c.args.name.now) 0) c.loop-place.half c.loop-place.place 0 (omega (arith, c.loop-place.invariant.sized)) c.loop-place.invariant.repeats;
}

pub returns : goal.returns
returns c =
    let repeats = c.loop-place.invariant.repeats in
    let bytes : c.loop-place.half ≡ take 8 (drop c.args.start (repeated c.args.name.now)) = eight_bytes c.args.name.now c.loop-place.half c.args.start c.requires.filled c.requires.within c.loop-place.invariant.sized (λ (k : ℕ) (h : k < 8). repeats k (omega arith)) in
    c.from_be_bytes.ensures ∙ ap (from_be_bytes w64) bytes
