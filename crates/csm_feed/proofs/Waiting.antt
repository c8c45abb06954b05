-- Bytes that are known to be only not ended.
use Rattle.std.proofs.Common.{◌≡◌, ℕ, ◌≤◌, ◌<◌, true, List, ◌++◌, length, take, drop, refl, sym, ap, subst, arith, inl, inr, length-append}
use Rattle.std.specs.List.{list_all}
use Rattle.std.proofs.lemmas.List.{take-append-drop, take-append-le, take_all, length-take-le}
use Rattle.csm_grammar.specs.declared.refusal.ReadRefusal.TheVariants as refusal
use Rattle.csm_read.specs.Faults.{IsFault}
use Rattle.csm_read.specs.Judging.{is_plain}
use Rattle.csm_read.specs.Laws.{UnendedStays}
use Rattle.csm_feed.specs.Streams.{IsWaiting}
use Rattle.csm_feed.specs.HeldBytes.{IsKnown}

pub known_none : (held : List ℕ) → IsKnown 0 held
known_none held = record { within = omega arith; waiting = inl refl }

pub known_all : (held : List ℕ) → IsWaiting held → IsKnown (length held) held
known_all held h = record { within = omega arith; waiting = subst IsWaiting (sym (take_all (length held) held (omega arith))) h }

pub known_more : (n : ℕ) (held more : List ℕ) → IsKnown n held → IsKnown n (held ++ more)
known_more n held more k =
    let l = length-append held more in
    let w = k.within in
    record { within = omega (arith, l, w); waiting = subst IsWaiting (sym (take-append-le n held more w)) k.waiting }

-- bytes behind them that end nothing change nothing
pub known_waiting : (n : ℕ) (held : List ℕ) → UnendedStays → IsKnown n held → 4 ≤ n → length held < 1025 → list_all is_plain (drop n held) ≡ true → IsWaiting held
known_waiting n held stays k four short plain = go k.waiting where
  size : length (take n held) ≡ n
  size = length-take-le n held k.within

  whole : take n held ++ drop n held ≡ held
  whole = take-append-drop n held

  go : IsWaiting (take n held) → IsWaiting held
  go (inl e) = let l = ap length e in let s = size in absurd (omega (arith, l, s, four))
  go (inr f) =
      let s = size in
      let l = ap length whole in
      inr (subst (λ (x : List ℕ). IsFault x (refusal.Unended (length x))) whole (stays (take n held) (drop n held) (omega (arith, s, four)) plain (omega (arith, l, short)) f))
