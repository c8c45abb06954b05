-- Rows that touch no link.
use Rattle.std.proofs.Common.{zero, suc}
use Rattle.world_laws.proofs.Counting.Sound.{NewFree}
use Rattle.std.proofs.Common.{arith, ◌≡◌, ℕ, Option, Some, None, List, [], ◌∷◌, refl, sym, subst, AllPairs}
use Rattle.std.specs.List.{AllByRecursion}
use Rattle.x_base.specs.declared.verdict.Verdict.{Verdict}
use Rattle.party_state.specs.declared.edit.Edit.{Edit}
use Rattle.party_state.specs.declared.edit.Edit.TheVariants.{Begin, PutLink, DropLink, PutKey, DropEnded, PutExchange, DropExchange, PutAnswer, SetGen}
use Rattle.party_state.specs.State.{Party, apply_edit, apply}
use Rattle.party_state.specs.Rows.{Row, Use, Made, Accepted, OfKsm, refused}
use Rattle.world_laws.proofs.Links.Growth.{Fine, AllFine}
use Rattle.world_laws.proofs.Links.Waiting.{new_of, Calm, AllCalm, change_waits}
use Rattle.world_laws.proofs.Counting.Sound.{UseFine, UsesMeet, AcceptsFine, NewMade, IsSound}

abbrev pub IsQuiet : Edit → Type 0
IsQuiet (Begin own role generator) = ⊥
IsQuiet (PutLink l) = ⊥
IsQuiet (DropLink peer label side) = ⊥
IsQuiet (PutKey k) = Unit {0}
IsQuiet DropEnded = Unit {0}
IsQuiet (PutExchange e) = new_of e.kind ≡ None
IsQuiet (DropExchange peer) = Unit {0}
IsQuiet (PutAnswer a) = Unit {0}
IsQuiet (SetGen v) = Unit {0}

quiet_fine : (p : Party) (e : Edit) → IsQuiet e → Fine None p e
quiet_fine p (Begin own role generator) q = q
quiet_fine p (PutLink l) q = absurd q
quiet_fine p (DropLink peer label side) q = absurd q
quiet_fine p (PutKey k) q = tt
quiet_fine p DropEnded q = tt
quiet_fine p (PutExchange e) q = tt
quiet_fine p (DropExchange peer) q = tt
quiet_fine p (PutAnswer a) q = tt
quiet_fine p (SetGen v) q = tt

quiet_calm : (p : Party) (e : Edit) → IsQuiet e → Calm p e
quiet_calm p (Begin own role generator) q = q
quiet_calm p (PutLink l) q = absurd q
quiet_calm p (DropLink peer label side) q = tt
quiet_calm p (PutKey k) q = tt
quiet_calm p DropEnded q = tt
quiet_calm p (PutExchange e) q = q
quiet_calm p (DropExchange peer) q = tt
quiet_calm p (PutAnswer a) q = tt
quiet_calm p (SetGen v) q = tt

pub all_fine : (es : List Edit) (p : Party) → AllByRecursion IsQuiet es → AllFine None p es
all_fine [] p q = tt
all_fine (e ∷ es) p q = (quiet_fine p e q.0, all_fine es (apply_edit e p) q.1)

pub all_calm : (es : List Edit) (p : Party) → AllByRecursion IsQuiet es → AllCalm p es
all_calm [] p q = tt
all_calm (e ∷ es) p q = (quiet_calm p e q.0, all_calm es (apply_edit e p) q.1)

pub pairs_none : AllPairs (λ a b. ¬ (UsesMeet a b)) []
pairs_none i j d less more = absurd (omega arith)

pub pairs_one : (u : Use) → AllPairs (λ a b. ¬ (UsesMeet a b)) (u ∷ [])
pairs_one u i j d less more = absurd (omega arith)

pub pairs_two : (u v : Use) → ¬ (UsesMeet u v) → AllPairs (λ a b. ¬ (UsesMeet a b)) (u ∷ v ∷ [])
pairs_two u v ne zero zero d less more h = absurd (omega arith)
pairs_two u v ne zero (suc zero) d less more h = ne h
pairs_two u v ne zero (suc (suc j)) d less more h = absurd (omega arith)
pairs_two u v ne (suc i) zero d less more h = absurd (omega arith)
pairs_two u v ne (suc i) (suc zero) d less more h = absurd (omega arith)
pairs_two u v ne (suc i) (suc (suc j)) d less more h = absurd (omega arith)

pub no_new : (made : Option Made) → NewMade None made
no_new made k e s = absurd (cc)

pub no_free : (s : Party) → NewFree None s
no_free s k e side = absurd (cc)

-- the row accepts no key service message
abbrev pub NoKsm : Option Accepted → Type 0
NoKsm o = (a : Accepted) → o ≡ Some a → a.class ≡ OfKsm → ⊥

pub no_ksm : (s t : Party) (text : List ℕ) (o : Option Accepted) → NoKsm o → AcceptsFine s t text o
no_ksm s t text None n = tt
no_ksm s t text (Some a) n = λ class. absurd (n a refl class)

-- links go on, and what waits still does
abbrev pub Passes : Party → List Edit → Type 0
Passes p es = AllFine None p es × AllCalm p es

pub quiet_passes : (es : List Edit) (p : Party) → AllByRecursion IsQuiet es → Passes p es
quiet_passes es p q = (all_fine es p q, all_calm es p q)

pub passes_sound : (p : Party) (text : List ℕ) (r : Row) → Passes p r.edits → r.uses ≡ [] → NoKsm r.accepts → IsSound None p text r
passes_sound p text r q u n = record {
  made = no_new r.makes;
  free = no_free p;
  edits = q.0;
  waits = change_waits r.edits p q.1;
  uses = subst (AllByRecursion (UseFine p (apply r.edits p) r.makes)) (sym u) tt;
  apart = subst (AllPairs (λ a b. ¬ (UsesMeet a b))) (sym u) pairs_none;
  accepts = no_ksm p (apply r.edits p) text r.accepts n;
}

pub quiet_sound : (p : Party) (text : List ℕ) (r : Row) → AllByRecursion IsQuiet r.edits → r.uses ≡ [] → NoKsm r.accepts → IsSound None p text r
quiet_sound p text r q u n = passes_sound p text r (quiet_passes r.edits p q) u n

pub refused_sound : (p : Party) (text : List ℕ) (v : Verdict) → IsSound None p text (refused v)
refused_sound p text v = quiet_sound p text (refused v) tt refl (λ a e. absurd (cc))
