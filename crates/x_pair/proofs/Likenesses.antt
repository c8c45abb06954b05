-- Two disks are compared: what is told, and that no other answer is due.
use Rattle.std.proofs.Common.{◌≡◌, ◌⊎◌, inl, inr, ℕ, true, List, Ok, Err, refl, sym, ◌∙◌, subst}
use Rattle.x_base.specs.Edge.{Rose}
use Rattle.x_disk.specs.Disk.{View}
use Rattle.key_journal.specs.Journal.{is_blank}
use Rattle.key_journal.specs.declared.cause.Cause.{Cause}
use Rattle.key_journal.specs.declared.cause.Cause.TheVariants as cause
use Rattle.key_journal.specs.declared.cause.Unmade.{Unmade}
use Rattle.party_state.specs.State.{Party}
use Rattle.key_store.specs.Store.{Stored, Stands, IsRefusal}
use Rattle.key_store.specs.Loaded.{IsLoaded}
use Rattle.mirror_store.specs.Comparing.{IsComparison}
use Rattle.mirror_store.specs.Opening.{AreRead}
use Rattle.mirror_store.specs.declared.comparing.Comparison.{Comparison}
use Rattle.mirror_store.specs.declared.comparing.Comparison.TheVariants as comparison
use Rattle.x_pair.specs.Comparisons.{IsLikeness, TellsLikeness}
use Rattle.x_pair.specs.Looking.{Finds, HasFailed, IsFound, IsLikenessOf, IsBesideBlank, IsBesideParty, IsTold, found_with, like_of}
use Rattle.x_pair.specs.declared.found.Found.{Found}
use Rattle.x_pair.specs.declared.found.Found.TheVariants as found
use Rattle.x_pair.specs.declared.likeness.Compared.{Compared}
use Rattle.x_pair.specs.declared.likeness.Compared.TheVariants as compared
use Rattle.x_pair.specs.declared.likeness.Likeness.{Likeness}

-- ---- a disk is looked at

module _ {D : Type 0} (told : D → View) (old : D) where
  pub party_found : (node : Stored D) → IsLoaded told old (Ok node) → IsFound told old (found.Party node)
  party_found node loaded = record {
    finds = λ image now. record { format = node.format; stands = loaded.stands.stands image (loaded.now ∙ now) };
    untouched = record { now = loaded.now; images = loaded.images; any_moment = loaded.any_moment };
    fault = tt;
    later = loaded.faults;
  }

  none_found : (u : Unmade D) → IsLoaded told old (Err u) → (reason : Cause) → u.cause ≡ reason → IsFound told old (found_with u.disk reason)
  none_found u loaded cause.Blank is = record {
    finds = λ image now. subst (IsRefusal image) is (loaded.refused image now);
    untouched = record { now = loaded.now; images = loaded.images; any_moment = loaded.any_moment };
    fault = tt;
    later = loaded.faults;
  }
  none_found u loaded cause.NotEmpty is = absurd (loaded.names is)
  none_found u loaded (cause.Damaged place) is = record {
    finds = λ image now. subst (IsRefusal image) is (loaded.refused image now);
    untouched = record { now = loaded.now; images = loaded.images; any_moment = loaded.any_moment };
    fault = tt;
    later = loaded.faults;
  }
  none_found u loaded cause.Fault is = record {
    finds = λ image now. tt;
    untouched = record { now = loaded.now; images = loaded.images; any_moment = loaded.any_moment };
    fault = loaded.fault is;
    later = loaded.faults;
  }
  none_found u loaded cause.NoMemory is = record {
    finds = λ image now. tt;
    untouched = record { now = loaded.now; images = loaded.images; any_moment = loaded.any_moment };
    fault = tt;
    later = loaded.faults;
  }

  pub nothing_found : (u : Unmade D) → IsLoaded told old (Err u) → IsFound told old (found_with u.disk u.cause)
  nothing_found u loaded = none_found u loaded u.cause refl

-- ---- what is told of two disks

abbrev IsToldOf : List ℕ → List ℕ → Compared → Type 0
IsToldOf i j (compared.Done l) = IsLikeness i j l
IsToldOf i j compared.Fault = Unit {0}
IsToldOf i j compared.NoMemory = Unit {0}

alike : (i j : List ℕ) (one two : Party) (c : Comparison) → Stands i one → Stands j two → one.own ≡ two.own → IsComparison one two c → IsLikeness i j (like_of c)
alike i j one two comparison.Same first second own is = record { one = one; two = two; first_is = first; second_is = second; own = own; comparison = is }
alike i j one two comparison.FirstAhead first second own is = record { one = one; two = two; first_is = first; second_is = second; own = own; comparison = is }
alike i j one two comparison.SecondAhead first second own is = record { one = one; two = two; first_is = first; second_is = second; own = own; comparison = is }
alike i j one two comparison.Neither first second own is = record { one = one; two = two; first_is = first; second_is = second; own = own; comparison = is }

of_parties : (i j : List ℕ) (one two : Party) (l : Likeness) → Stands i one → Stands j two → IsLikenessOf one two l → IsLikeness i j l
of_parties i j one two l first second (inl is) = subst (IsLikeness i j) (sym is.1) (record { one = one; two = two; first_is = first; second_is = second; differ = is.0 })
of_parties i j one two l first second (inr is) = subst (IsLikeness i j) (sym is.3) (alike i j one two is.0 first second is.1 is.2)

beside_blank : {D : Type 0} (i j : List ℕ) (g : Found D) (c : Compared) → is_blank i ≡ true → Finds j g → IsBesideBlank g c → IsToldOf i j c
beside_blank i j (found.Party two) c blank finds is = subst (IsToldOf i j) (sym is) (blank, (two.party, finds))
beside_blank i j (found.Blank disk) c blank finds is = subst (IsToldOf i j) (sym is) (blank, finds)
beside_blank i j (found.Damaged disk place) c blank finds is = subst (IsToldOf i j) (sym is) (inl blank, finds)
beside_blank i j (found.Fault disk) c blank finds is = subst (IsToldOf i j) (sym is) tt
beside_blank i j (found.NoMemory disk) c blank finds is = subst (IsToldOf i j) (sym is) tt

beside_party : {D : Type 0} (i j : List ℕ) (one : Party) (g : Found D) (c : Compared) → Stands i one → Finds j g → IsBesideParty one g c → IsToldOf i j c
beside_party i j one (found.Party two) c stands finds is = subst (IsToldOf i j) (sym is.2) (of_parties i j one two.party is.0 stands finds is.1)
beside_party i j one (found.Blank disk) c stands finds is = subst (IsToldOf i j) (sym is) ((one, stands), finds)
beside_party i j one (found.Damaged disk place) c stands finds is = subst (IsToldOf i j) (sym is) (inr (one, stands), finds)
beside_party i j one (found.Fault disk) c stands finds is = subst (IsToldOf i j) (sym is) tt
beside_party i j one (found.NoMemory disk) c stands finds is = subst (IsToldOf i j) (sym is) tt

told_of : {D : Type 0} (i j : List ℕ) (f g : Found D) (c : Compared) → Finds i f → Finds j g → IsTold f g c → IsToldOf i j c
told_of i j (found.Party one) g c first second is = beside_party i j one.party g c first second is
told_of i j (found.Blank disk) g c first second is = beside_blank i j g c first second is
told_of i j (found.Damaged disk place) g c first second is = subst (IsToldOf i j) (sym is) first
told_of i j (found.Fault disk) g c first second is = subst (IsToldOf i j) (sym is) tt
told_of i j (found.NoMemory disk) g c first second is = subst (IsToldOf i j) (sym is) tt

as_told : (first second : View) (c : Compared) → ((i j : List ℕ) → AreRead first second i j → IsToldOf i j c) → TellsLikeness first second c
as_told first second (compared.Done l) is = is
as_told first second compared.Fault is = tt
as_told first second compared.NoMemory is = tt

pub tells : {D : Type 0} (told : D → View) (one two : D) (f g : Found D) (c : Compared) → IsFound told one f → IsFound told two g → IsTold f g c → TellsLikeness (told one) (told two) c
tells told one two f g c first second is = as_told (told one) (told two) c (λ i j read. told_of i j f g c (first.finds i read.first) (second.finds j read.second) is)

-- a fault is told only where one was found
never : (c d : Compared) → c ≡ d → c ≡ compared.Fault → d ≡ compared.Fault
never c d is fault = sym is ∙ fault

second_fault : {D : Type 0} (before after : ℕ) (g : Found D) (c : Compared) → IsBesideBlank g c → HasFailed before after g → c ≡ compared.Fault → Rose before after
second_fault before after (found.Party two) c is failed fault = absurd (cc (never c _ is fault))
second_fault before after (found.Blank disk) c is failed fault = absurd (cc (never c _ is fault))
second_fault before after (found.Damaged disk place) c is failed fault = absurd (cc (never c _ is fault))
second_fault before after (found.Fault disk) c is failed fault = failed
second_fault before after (found.NoMemory disk) c is failed fault = absurd (cc (never c _ is fault))

party_fault : {D : Type 0} (before after : ℕ) (one : Party) (g : Found D) (c : Compared) → IsBesideParty one g c → HasFailed before after g → c ≡ compared.Fault → Rose before after
party_fault before after one (found.Party two) c is failed fault = absurd (cc (never c _ is.2 fault))
party_fault before after one (found.Blank disk) c is failed fault = absurd (cc (never c _ is fault))
party_fault before after one (found.Damaged disk place) c is failed fault = absurd (cc (never c _ is fault))
party_fault before after one (found.Fault disk) c is failed fault = failed
party_fault before after one (found.NoMemory disk) c is failed fault = absurd (cc (never c _ is fault))

pub told_fault : {D : Type 0} (a b x y : ℕ) (f g : Found D) (c : Compared) → IsTold f g c → HasFailed a b f → HasFailed x y g → c ≡ compared.Fault → Rose a b ⊎ Rose x y
told_fault a b x y (found.Party one) g c is first second fault = inr (party_fault x y one.party g c is second fault)
told_fault a b x y (found.Blank disk) g c is first second fault = inr (second_fault x y g c is second fault)
told_fault a b x y (found.Damaged disk place) g c is first second fault = absurd (cc (never c _ is fault))
told_fault a b x y (found.Fault disk) g c is first second fault = inl first
told_fault a b x y (found.NoMemory disk) g c is first second fault = absurd (cc (never c _ is fault))
