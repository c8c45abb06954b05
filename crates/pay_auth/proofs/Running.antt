-- Runs of bytes, and the byte that ends each.
use Rattle.std.proofs.Common.{◌≡◌, ℕ, zero, suc, ◌+◌, ◌-◌, ◌<◌, ◌≤◌, nat_lt, Bool, true, false, List, [], ◌∷◌, ◌++◌, length, take, drop, replicate, refl, sym, ap, ◌∙◌, subst, arith, append_assoc, append-nil, add-one, length-append}
use Rattle.std.specs.Prelude.{slice_index}
use Rattle.std.proofs.lemmas.Bool.{and_parts, and_from, lt-ltb}
use Rattle.std.proofs.lemmas.List.{take-append-drop, length-take-le}
use Rattle.change_code.specs.Reading.{Lacks, StartsWith}
use Rattle.change_code.proofs.Joining.{Apart}
use Rattle.pay_auth.specs.declared.scanner.Run.{Run}
use Rattle.pay_auth.specs.declared.scanner.Run.TheVariants as run
use Rattle.pay_auth.specs.Scanning.{least, most, is_of, allows, AreAllowed, IsRun, IsEnd, IsLongest, IsRunTaken, Stops, run_form}

never : (b : Bool) → b ≡ true → b ≡ false → ⊥
never b set clear = let both : true ≡ false = sym set ∙ clear in cc both

-- a byte that ends a run is nowhere in it
end_out : (r : Run) (last p : ℕ) → IsEnd r last → allows r p last ≡ true → ⊥
end_out r last p end allowed = never (is_of r p last) (and_parts (nat_lt p (most r)) (is_of r p last) allowed).1 (end p)

next_place : (r : Run) (p b n : ℕ) (v : Bool) → allows r (p + suc n) b ≡ v → allows r (p + 1 + n) b ≡ v
next_place r p b n v is = let same : p + suc n ≡ p + 1 + n = omega arith in subst (λ (k : ℕ). allows r k b ≡ v) same is

at_front : (r : Run) (n b : ℕ) → allows r n b ≡ false → allows r (0 + n) b ≡ false
at_front r n b bad = let same : n ≡ 0 + n = omega arith in subst (λ (k : ℕ). allows r k b ≡ false) same bad

module _ (r : Run) (last : ℕ) (end : IsEnd r last) where
  -- two runs with their ends in front of two lists, which are one
  same_runs : (p : ℕ) (u v x y : List ℕ) → AreAllowed r p u → AreAllowed r p v → u ++ last ∷ x ≡ v ++ last ∷ y → (u ≡ v) × (x ≡ y)
  same_runs p [] [] x y au av is = (refl, cc is)
  same_runs p [] (d ∷ v) x y au av is = let same : last ≡ d = cc is in absurd (end_out r last p end (subst (λ (b : ℕ). allows r p b ≡ true) (sym same) av.0))
  same_runs p (c ∷ u) [] x y au av is = let same : c ≡ last = cc is in absurd (end_out r last p end (subst (λ (b : ℕ). allows r p b ≡ true) same au.0))
  same_runs p (c ∷ u) (d ∷ v) x y au av is =
      let head : c ≡ d = cc is in
      let tail : u ++ last ∷ x ≡ v ++ last ∷ y = cc is in
      let rest = same_runs (p + 1) u v x y au.1 av.1 tail in
      (cc (head, rest.0), rest.1)

  -- a run up to a byte that it doesn't allow there, and a run with its end
  same_end : (p : ℕ) (front u : List ℕ) (b : ℕ) (x y : List ℕ) → AreAllowed r p front → AreAllowed r p u → allows r (p + length front) b ≡ false → front ++ b ∷ x ≡ u ++ last ∷ y → (front ≡ u) × (b ≡ last)
  same_end p [] [] b x y af au bad is = (refl, cc is)
  same_end p [] (d ∷ u) b x y af au bad is =
      let same : b ≡ d = cc is in
      let here : p + 0 ≡ p = omega arith in
      absurd (never (allows r p d) au.0 (subst (λ (k : ℕ). allows r k d ≡ false) here (subst (λ (z : ℕ). allows r (p + 0) z ≡ false) same bad)))
  same_end p (c ∷ front) [] b x y af au bad is = let same : c ≡ last = cc is in absurd (end_out r last p end (subst (λ (z : ℕ). allows r p z ≡ true) same af.0))
  same_end p (c ∷ front) (d ∷ u) b x y af au bad is =
      let head : c ≡ d = cc is in
      let tail : front ++ b ∷ x ≡ u ++ last ∷ y = cc is in
      let rest = same_end (p + 1) front u b x y af.1 au.1 (next_place r p b (length front) false bad) tail in
      (cc (head, rest.0), rest.1)

  -- a run that goes to the end has no end in it
  no_end : (p : ℕ) (front u y : List ℕ) → AreAllowed r p front → AreAllowed r p u → front ≡ u ++ last ∷ y → ⊥
  no_end p [] [] y af au is = cc is
  no_end p [] (d ∷ u) y af au is = cc is
  no_end p (c ∷ front) [] y af au is = let same : c ≡ last = cc is in end_out r last p end (subst (λ (z : ℕ). allows r p z ≡ true) same af.0)
  no_end p (c ∷ front) (d ∷ u) y af au is = let tail : front ≡ u ++ last ∷ y = cc is in no_end (p + 1) front u y af.1 au.1 tail

  ended : (u y : List ℕ) → (u ++ last ∷ []) ++ y ≡ u ++ last ∷ y
  ended u y = append_assoc u (last ∷ []) y

  pub run_apart : Apart (run_form r last)
  run_apart = record { same = λ x y a b fx fy is. same_runs 0 x y a b fx.allowed fy.allowed (sym (ended x a) ∙ (is ∙ ended y b)) }

-- what fills a run up
filler_of : (r : Run) (p : ℕ) → is_of r p 49 ≡ true
filler_of run.Ident p = refl
filler_of run.Label p = refl
filler_of run.Count p = refl
filler_of run.Code p = refl

fillers : (r : Run) (p k : ℕ) → p + k ≤ most r → AreAllowed r p (replicate k 49)
fillers r p zero few = tt
fillers r p (suc k) few = (and_from (nat_lt p (most r)) (is_of r p 49) (lt-ltb p (most r) (omega (arith, few))) (filler_of r p), fillers r (p + 1) k (omega (arith, few)))

both_allowed : (r : Run) (p : ℕ) (u v : List ℕ) → AreAllowed r p u → AreAllowed r (p + length u) v → AreAllowed r p (u ++ v)
both_allowed r p [] v au av = let here : p + 0 ≡ p = omega arith in subst (λ (k : ℕ). AreAllowed r k v) here av
both_allowed r p (c ∷ u) v au av =
    let same : p + suc (length u) ≡ p + 1 + length u = omega arith in
    (au.0, both_allowed r (p + 1) u v au.1 (subst (λ (k : ℕ). AreAllowed r k v) same av))

least_most : (r : Run) → least r ≤ most r
least_most run.Ident = omega arith
least_most run.Label = omega arith
least_most run.Count = omega arith
least_most run.Code = omega arith

long_filler : (k b : ℕ) → length (replicate k b) ≡ k
long_filler zero b = refl
long_filler (suc k) b = ap suc (long_filler k b)

-- a run that is filled up to its least length
filled_run : (r : Run) (front : List ℕ) → AreAllowed r 0 front → length front < least r → IsRun r (front ++ replicate (least r - length front) 49)
filled_run r front allowed short =
    let k = least r - length front in
    let most_is = least_most r in
    record {
      long = omega (arith, length-append front (replicate k 49), long_filler k 49, short);
      allowed = both_allowed r 0 front (replicate k 49) allowed (fillers r (0 + length front) k (omega (arith, short, most_is)));
    }

module _ (r : Run) (last : ℕ) (end : IsEnd r last) (bytes rest front : List ℕ) (taken : IsRunTaken r bytes rest front) where
  -- no run with its end is there
  lacks_run : ((b : ℕ) (after : List ℕ) → rest ≡ b ∷ after → (least r ≤ length front) → b ≡ last → ⊥) → Lacks (run_form r last) bytes
  lacks_run other = record { none = λ u more fits is. at_rest u more fits rest taken.longest other (sym taken.is ∙ (is ∙ append_assoc u (last ∷ []) more)) }
    where
      at_rest : (u more : List ℕ) → IsRun r u → (rest : List ℕ) → ((b : ℕ) (after : List ℕ) → rest ≡ b ∷ after → allows r (length front) b ≡ false)
          → ((b : ℕ) (after : List ℕ) → rest ≡ b ∷ after → least r ≤ length front → b ≡ last → ⊥) → front ++ rest ≡ u ++ last ∷ more → ⊥
      at_rest u more fits [] longest other is = no_end r last end 0 front u more taken.allowed fits.allowed (sym (append-nil front) ∙ is)
      at_rest u more fits (b ∷ after) longest other is =
          let same = same_end r last end 0 front u b after more taken.allowed fits.allowed (at_front r (length front) b (longest b after refl)) is in
          other b after refl (subst (λ (l : List ℕ). least r ≤ length l) (sym same.0) fits.long) same.1

  longest_run : ((b : ℕ) (after : List ℕ) → rest ≡ b ∷ after → (least r ≤ length front) → b ≡ last → ⊥) → (b : ℕ) (after : List ℕ) → rest ≡ b ∷ after → (u more : List ℕ) → IsRun r u → (front ++ b ∷ []) ++ more ≡ u ++ last ∷ [] → ⊥
  longest_run other b after is u more fits whole =
      let same = same_end r last end 0 front u b more [] taken.allowed fits.allowed (at_front r (length front) b (taken.longest b after is)) (sym (append_assoc front (b ∷ []) more) ∙ whole) in
      other b after is (subst (λ (l : List ℕ). least r ≤ length l) (sym same.0) fits.long) same.1

  -- too short
  pub run_short : length front < least r → Stops (run_form r last) bytes rest
  run_short short =
      let other : (b : ℕ) (after : List ℕ) → rest ≡ b ∷ after → least r ≤ length front → b ≡ last → ⊥ = λ b after is long same. omega (arith, short, long) in
      let k = least r - length front in
      record {
        lacks = lacks_run other;
        front = front;
        is = taken.is;
        begins = record { value = front ++ replicate k 49; rest = replicate k 49 ++ last ∷ []; fits = filled_run r front taken.allowed short; is = sym (append_assoc front (replicate k 49) (last ∷ [])) };
        longest = λ b after is e. longest_run other b after is e.value e.rest e.fits e.is;
      }

  -- ended by another byte, or by none
  pub run_unended : least r ≤ length front → ((after : List ℕ) → rest ≡ last ∷ after → ⊥) → Stops (run_form r last) bytes rest
  run_unended long not =
      let other : (b : ℕ) (after : List ℕ) → rest ≡ b ∷ after → least r ≤ length front → b ≡ last → ⊥ = λ b after is enough same. not after (is ∙ ap (λ (x : ℕ). x ∷ after) same) in
      record {
        lacks = lacks_run other;
        front = front;
        is = taken.is;
        begins = record { value = front; rest = last ∷ []; fits = record { long = long; allowed = taken.allowed }; is = refl };
        longest = λ b after is e. longest_run other b after is e.value e.rest e.fits e.is;
      }

  -- ended by its byte
  pub run_starts : (more : List ℕ) → least r ≤ length front → rest ≡ last ∷ more → StartsWith (run_form r last) bytes more front
  run_starts more long is = record {
    fits = record { long = long; allowed = taken.allowed };
    is = taken.is ∙ (ap (λ (l : List ℕ). front ++ l) is ∙ sym (append_assoc front (last ∷ []) more));
  }

-- one byte more of the longest run
pub allowed_more : (r : Run) (p n : ℕ) (bytes : List ℕ) → n < length bytes → AreAllowed r p (take n bytes) → allows r (p + n) (slice_index bytes n) ≡ true → AreAllowed r p (take (suc n) bytes)
allowed_more r p n [] few allowed is = absurd (omega (arith, few))
allowed_more r p zero (c ∷ bytes) few allowed is = let here : p + 0 ≡ p = omega arith in (subst (λ (k : ℕ). allows r k c ≡ true) here is, tt)
allowed_more r p (suc n) (c ∷ bytes) few allowed is =
    (allowed.0, allowed_more r (p + 1) n bytes (omega (arith, few)) allowed.1 (next_place r p (slice_index bytes n) n true is))

-- the bytes are cut behind the longest run
pub taken_of : (r : Run) (n : ℕ) (bytes front rest : List ℕ) → IsLongest r bytes n → front ≡ take n bytes → rest ≡ drop n bytes → IsRunTaken r bytes rest front
taken_of r n bytes front rest l front_is rest_is = record {
  is = sym (take-append-drop n bytes) ∙ cc (front_is, rest_is);
  allowed = subst (λ (x : List ℕ). AreAllowed r 0 x) (sym front_is) l.allowed;
  longest = λ b after is.
      let there = head_behind n bytes b after (sym rest_is ∙ is) in
      let size : length front ≡ n = ap length front_is ∙ length-take-le n bytes l.within in
      subst (λ (k : ℕ). allows r k b ≡ false) (sym size) (subst (λ (x : ℕ). allows r n x ≡ false) there.1 (l.ends there.0));
}
  where
    head_behind : (n : ℕ) (bytes : List ℕ) (b : ℕ) (after : List ℕ) → drop n bytes ≡ b ∷ after → (n < length bytes) × (slice_index bytes n ≡ b)
    head_behind zero [] b after is = absurd (cc is)
    head_behind zero (c ∷ bytes) b after is = (omega arith, cc is)
    head_behind (suc n) [] b after is = absurd (cc is)
    head_behind (suc n) (c ∷ bytes) b after is = let rest = head_behind n bytes b after is in (omega (arith, rest.0), rest.1)

pub longest_more : (r : Run) (n : ℕ) (bytes : List ℕ) → n < length bytes → AreAllowed r 0 (take n bytes) → allows r n (slice_index bytes n) ≡ true → AreAllowed r 0 (take (n + 1) bytes)
longest_more r n bytes few allowed is =
    let here : n ≡ 0 + n = omega arith in
    rw add-one (allowed_more r 0 n bytes few allowed (subst (λ (k : ℕ). allows r k (slice_index bytes n) ≡ true) here is))
