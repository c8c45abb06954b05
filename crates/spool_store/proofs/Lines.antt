-- The lines of plans, one plan more.
use Rattle.std.proofs.Common.{◌≡◌, ℕ, zero, suc, ◌+◌, ◌<◌, List, [], ◌∷◌, ◌++◌, length, take, get_or, slice_get, Some, refl, sym, ap, subst, ◌∙◌, arith, append_assoc, add-one}
use Rattle.std.proofs.lemmas.Option.{slice_get_read}
use Rattle.spool_store.specs.declared.entry_plan.EntryPlan.{EntryPlan}
use Rattle.spool_store.specs.Spools.{outbox_from, reply_line, verdict_line}

one_step : (e k : ℕ) (plans : List EntryPlan) (i : ℕ) (p : EntryPlan) → k ≡ e + i → slice_get plans i ≡ Some p → outbox_from e (take (suc i) plans) ≡ outbox_from e (take i plans) ++ outbox_from k (p ∷ [])
one_step e k [] i p place got = cc
one_step e k (x ∷ plans) zero p place got =
    let same : x ≡ p = cc in
    let here : e ≡ k = omega (arith, place) in
    ap (λ (q : EntryPlan). outbox_from e (q ∷ [])) same ∙ ap (λ (n : ℕ). outbox_from n (p ∷ [])) here
one_step e k (x ∷ plans) (suc i) p place got =
    let there : k ≡ (e + 1) + i = omega (arith, place) in
    let head : List ℕ = verdict_line e x.number in
    let reply : List ℕ = reply_line x.reply in
    let front : List ℕ = outbox_from (e + 1) (take i plans) in
    let last : List ℕ = outbox_from k (p ∷ []) in
    ap (λ (l : List ℕ). head ++ (reply ++ l)) (one_step (e + 1) k plans i p there got)
    ∙ sym (append_assoc head (reply ++ front) last ∙ ap (λ (l : List ℕ). head ++ l) (append_assoc reply front last))

pub line_more : (plans : List EntryPlan) (i : ℕ) (p : EntryPlan) → i < length plans → p ≡ get_or plans i p → outbox_from 1 (take (i + 1) plans) ≡ outbox_from 1 (take i plans) ++ outbox_from (i + 1) (p ∷ [])
line_more plans i p less is = subst (λ (n : ℕ). outbox_from 1 (take n plans) ≡ outbox_from 1 (take i plans) ++ outbox_from (i + 1) (p ∷ [])) (sym (add-one i)) (one_step 1 (i + 1) plans i p (omega arith) (slice_get_read plans (length plans) i p refl less is))
