-- What calls add, one after another, to what a crash could leave at first.
use Rattle.std.proofs.Common.{◌⊎◌, inl, inr, ⊎_elim, ℕ, List}
use Rattle.x_disk.specs.Disk.{View, IsSound, Elapses, LeavesNoMore, LeavesOnly}
use Rattle.x_disk.specs.Shelf.{IsAlike}
use Rattle.x_disk.proofs.Runs.{began, goes_on, joined, weaker, ends_alike, begins_alike}
use Rattle.replay.specs.Crash.{AddsOnly}

-- an image that has P, or that could be left at first
abbrev pub OrBefore : View → (List ℕ → Type 0) → List ℕ → Type 0
OrBefore v P image = P image ⊎ v.may_leave image

-- each image that may be left at the end
pub adds_now : (v w : View) (P : List ℕ → Type 0) → IsSound w → AddsOnly v w P → (image : List ℕ) → w.may_leave image → OrBefore v P image
adds_now v w P sound run image is = run.each image (sound.counts_now v.moment image run.later is)

-- nothing is added
pub adds_none : (v w : View) (P : List ℕ → Type 0) → IsSound v → IsAlike v w → AddsOnly v w P
adds_none v w P sound alike = ends_alike v v w (OrBefore v P) (began v (OrBefore v P) sound (λ c is. inr is)) alike

-- what has P at each moment is all that is added
pub adds_all : (v w : View) (P : List ℕ → Type 0) → LeavesOnly v w P → AddsOnly v w P
adds_all v w P run = weaker v w P (OrBefore v P) run (λ c p. inl p)

pub adds_weaker : (v w : View) (P Q : List ℕ → Type 0) → AddsOnly v w P → ((image : List ℕ) → P image → Q image) → AddsOnly v w Q
adds_weaker v w P Q run more = weaker v w (OrBefore v P) (OrBefore v Q) run (λ c. ⊎_elim (λ p. inl (more c p)) (λ was. inr was))

-- two runs, one after the other
pub adds_on : (u v w : View) (P : List ℕ → Type 0) → IsSound v → AddsOnly u v P → AddsOnly v w P → AddsOnly u w P
adds_on u v w P sound first second =
    joined u v w (OrBefore u P) first (weaker v w (OrBefore v P) (OrBefore u P) second (λ c. ⊎_elim (λ p. inl p) (λ was. adds_now u v P sound first c was)))

-- a call that adds no image
pub adds_call : (v w : View) (P : List ℕ → Type 0) → IsSound v → Elapses v w → LeavesNoMore v w → AddsOnly v w P
adds_call v w P sound time crash = goes_on v v w (OrBefore v P) (began v (OrBefore v P) sound (λ c is. inr is)) time (λ c is. inr (crash c is))

-- the disk is put back, or fetched
pub adds_end : (u v w : View) (P : List ℕ → Type 0) → AddsOnly u v P → IsAlike v w → AddsOnly u w P
adds_end u v w P run alike = ends_alike u v w (OrBefore u P) run alike

pub adds_begin : (u v w : View) (P : List ℕ → Type 0) → IsAlike u v → AddsOnly v w P → AddsOnly u w P
adds_begin u v w P alike run =
    begins_alike u v w (OrBefore u P) alike (weaker v w (OrBefore v P) (OrBefore u P) run (λ c. ⊎_elim (λ p. inl p) (λ was. inr (alike.images c was))))
