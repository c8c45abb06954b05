-- The rules can be kept: two banks and one key.
use Rattle.std.proofs.Common.{arith, ◌≡◌, ◌≢◌, ℕ, inl, inr, false, List, [], ◌∷◌, refl, sym, subst, codes, Contains, AllPairs}
use Rattle.std.specs.List.{All}
use Rattle.std.proofs.lemmas.List.Elements.{All-nil, All-cons}
use Rattle.std.proofs.lemmas.List.Kept.{AllPairs-cons}
use Rattle.x_base.specs.Ident.{repeated, expanded}
use Rattle.x_base.specs.declared.party.Role.TheVariants.{Bank}
use Rattle.x_gen.specs.declared.generator.Gen.{Gen}
use Rattle.party_state.specs.State.{expands_alike}
use Rattle.role_base.specs.Load.{odd_pair}
use Rattle.call_laws.specs.SetUp.{End, SetUp, Creates, Loads, ends_in}
use Rattle.call_laws.specs.Rules.{SharedKey, sending_end, taking_end, IsEndOf, IsInRange, KeepsRules}
use Rattle.world_laws.proofs.Lists.Among.{first_in, of_one, of_two}

abbrev banka : List ℕ
banka = codes "BANKA"

abbrev bankb : List ℕ
bankb = codes "BANKB"

abbrev generator : Gen
generator = record { key = record { left = 1; right = 2 }; v = 3 }

abbrev key : SharedKey
key = record { originator = banka; recipient = bankb; label = codes "K1"; pair = record { left = 1; right = 2 } }

abbrev taking : List SetUp
taking = Loads (taking_end key) 0 ∷ []

abbrev loading : List SetUp
loading = Loads (sending_end key) 0 ∷ taking

abbrev second : List SetUp
second = Creates bankb Bank generator ∷ loading

abbrev calls : List SetUp
calls = Creates banka Bank generator ∷ second

apart : expands_alike banka bankb ≡ false
unfolding expanded repeated
apart = refl

no_pairs : {X : Type 0} (R : X → X → Type 0) → AllPairs R []
no_pairs R i j d low high = absurd (omega (arith, high))

one_apart : {X : Type 0} (R : X → X → Type 0) (x : X) → AllPairs R (x ∷ [])
one_apart R x = AllPairs-cons R x [] (All-nil (R x)) (no_pairs R)

only : (e : End) → Contains (ends_in calls) e → IsEndOf (key ∷ []) e
only e among = elim (of_two (sending_end key) (taking_end key) e among) [
  | inl is ↦ record { shared = key; stands = first_in key []; end = inl (sym is) }
  | inr is ↦ record { shared = key; stands = first_in key []; end = inr (sym is) }
]

in_range : All IsInRange calls
in_range =
    All-cons IsInRange (Creates banka Bank generator) second (refl, record { key = record { left = omega arith; right = omega arith }; v = omega arith })
    (All-cons IsInRange (Creates bankb Bank generator) loading (refl, record { key = record { left = omega arith; right = omega arith }; v = omega arith })
    (All-cons IsInRange (Loads (sending_end key) 0) taking (refl, refl)
    (All-cons IsInRange (Loads (taking_end key) 0) [] (refl, refl) (All-nil IsInRange))))

pub rules_kept : (k : SharedKey) × (ss : List SetUp) × KeepsRules (k ∷ []) ss
rules_kept = (
  key,
  calls,
  record {
    names = AllPairs-cons (λ p q. expands_alike p q ≡ false) banka (bankb ∷ []) (All-cons (λ q. expands_alike banka q ≡ false) bankb [] apart (All-nil (λ q. expands_alike banka q ≡ false))) (one_apart (λ p q. expands_alike p q ≡ false) bankb);
    pairs = one_apart (λ j k. odd_pair j.pair ≢ odd_pair k.pair) key;
    both = λ k stands. go k (of_one key k stands);
    only = only;
    ranges = in_range;
  },
)
  where
    go : (k : SharedKey) → key ≡ k → Contains (ends_in calls) (sending_end k) × Contains (ends_in calls) (taking_end k)
    go k is = subst (λ (j : SharedKey). Contains (ends_in calls) (sending_end j) × Contains (ends_in calls) (taking_end j)) is ((0, omega arith, refl), (1, omega arith, refl))
