-- How a run of disk calls goes on. A layer above proves what a crash may leave by these alone.
use Rattle.std.proofs.Common.{inl, inr, ⊎_elim, ℕ, List, length, take, ap, sym, subst, refl, arith}
use Rattle.std.proofs.lemmas.List.{take_all}
use Rattle.x_disk.specs.Disk.{View, IsTornAt, Elapses, LeavesOnly, IsSound, IsStill}
use Rattle.x_disk.specs.Shelf.{IsAlike}

-- before the first call
pub began : (v : View) (P : List ℕ → Type 0) → IsSound v → ((c : List ℕ) → v.may_leave c → P c) → LeavesOnly v v P
began v P sound here = record { later = omega arith; each = λ c left. here c (sound.only_now c left); before = λ t c le left. inl left }

-- one call more, after which a crash leaves what has P
pub goes_on : (old mid new : View) (P : List ℕ → Type 0) → LeavesOnly old mid P → Elapses mid new → ((c : List ℕ) → new.may_leave c → P c) → LeavesOnly old new P
goes_on old mid new P so_far time here = record {
  later = omega (arith, so_far.later, time.later);
  each = λ c left. ⊎_elim (so_far.each c) (here c) (time.nothing_else old.moment c so_far.later left);
  before = λ t c le left. ⊎_elim (so_far.before t c le) (λ now. inr (here c now)) (time.nothing_else t c (omega (arith, le, so_far.later)) left);
}

-- two runs, one after the other
pub joined : (old mid new : View) (P : List ℕ → Type 0) → LeavesOnly old mid P → LeavesOnly mid new P → LeavesOnly old new P
joined old mid new P first second = record {
  later = omega (arith, first.later, second.later);
  each = λ c left. ⊎_elim (first.each c) (λ p. p) (second.before old.moment c first.later left);
  before = λ t c le left. ⊎_elim (first.before t c le) (λ p. inr p) (second.before t c (omega (arith, le, first.later)) left);
}

pub weaker : (old new : View) (P Q : List ℕ → Type 0) → LeavesOnly old new P → ((c : List ℕ) → P c → Q c) → LeavesOnly old new Q
weaker old new P Q run more = record {
  later = run.later;
  each = λ c left. more c (run.each c left);
  before = λ t c le left. ⊎_elim (λ was. inl was) (λ p. inr (more c p)) (run.before t c le left);
}

-- a call that leaves all as it was
pub stays : (old mid new : View) (P : List ℕ → Type 0) → LeavesOnly old mid P → IsStill mid new → LeavesOnly old new P
stays old mid new P so_far still = record {
  later = omega (arith, so_far.later, still.moment);
  each = λ c left. so_far.each c (still.since old.moment c left);
  before = λ t c le left. so_far.before t c le (still.since t c left);
}

-- a run that ends at a disk that tells the same, as where it was put back
pub ends_alike : (old mid new : View) (P : List ℕ → Type 0) → LeavesOnly old mid P → IsAlike mid new → LeavesOnly old new P
ends_alike old mid new P so_far alike = record {
  later = omega (arith, so_far.later, alike.moment);
  each = λ c left. so_far.each c (alike.since old.moment c left);
  before = λ t c le left. so_far.before t c le (alike.since t c left);
}

-- a run that began at a disk that tells the same, as where it was taken out
pub begins_alike : (old mid new : View) (P : List ℕ → Type 0) → IsAlike old mid → LeavesOnly mid new P → LeavesOnly old new P
begins_alike old mid new P alike run = record {
  later = omega (arith, run.later, alike.moment);
  each = λ c left. run.each c (subst (λ (t : ℕ). new.left_since t c) (sym alike.moment) left);
  before = λ t c le left. ⊎_elim (λ was. inl (alike.since t c was)) (λ p. inr p) (run.before t c (omega (arith, le, alike.moment)) left);
}

-- a write that did nothing
pub torn_same : (at n : ℕ) (c : List ℕ) → IsTornAt at n c c
torn_same at n c = record {
  before = ap (λ (l : List ℕ). take at l) (take_all (length c) c (omega arith));
  after = refl;
  no_shorter = omega arith;
  no_longer = omega arith;
}
