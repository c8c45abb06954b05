-- The number of a drill's events lies within its limits, and neither a ledger nor a second disk has the party's name.
use Rattle.std.proofs.Common.{◌≡◌, ◌≢◌, ◌∙◌, ◌≤◌, ◌&&◌, ℕ, Bool, true, false, List, Option, Some, None, refl, sym, subst, true≢false}
use Rattle.std.specs.Prelude.{nat_le, if◌then◌else◌, option_and_then}
use Rattle.std.proofs.lemmas.Bool.{leb-true}
use Rattle.std.proofs.lemmas.Slice.Eq.{bytes_eq-Decides}
use Rattle.std.specs.Str.{bytes_eq}
use Rattle.clap.specs.Words.{first_of}
use Rattle.x_line.specs.declared.opt.Opt.TheVariants as opt
use Rattle.x_line.specs.Laws.{AcceptsApart, ComparesApart, FewEvents, PaysApart, SpoolsApart}
use Rattle.x_line.specs.Line.{rows_of_line}
use Rattle.x_line.specs.LineValues.{given}
use Rattle.x_line.specs.Options.{name_of}
use Rattle.x_line.specs.Values.{events_of, other_than}
use Rattle.x_values.specs.Words.{ident_of, plain_number_of, within}

within_is : (low high n m : ℕ) → within low high n ≡ Some m → (low ≤ m) × (m ≤ high)
within_is low high n m h = go (nat_le low n) (nat_le n high) refl refl h
  where
    go : (a b : Bool) → nat_le low n ≡ a → nat_le n high ≡ b → (if a && b then Some n else None) ≡ Some m → (low ≤ m) × (m ≤ high)
    go true true a b h = let same : n ≡ m = cc in (subst (λ (k : ℕ). low ≤ k) same (leb-true low n a), subst (λ (k : ℕ). k ≤ high) same (leb-true n high b))
    go true false a b h = absurd cc
    go false true a b h = absurd cc
    go false false a b h = absurd cc

number_is : (low high m : ℕ) (o : Option ℕ) → option_and_then (within low high) o ≡ Some m → (low ≤ m) × (m ≤ high)
number_is low high m None h = absurd cc
number_is low high m (Some n) h = within_is low high n m h

given_is : (m : ℕ) (o : Option (List ℕ)) → option_and_then events_of o ≡ Some m → (1 ≤ m) × (m ≤ 10000)
given_is m None h = absurd cc
given_is m (Some text) h = number_is 1 10000 m (plain_number_of text) h

pub few_events : FewEvents
few_events words seed events is = given_is events (first_of (name_of opt.Events) (rows_of_line words)) is.1.1.1

other_is : (party name ledger : List ℕ) → other_than (Some party) name ≡ Some ledger → party ≢ ledger
other_is party name ledger is same = go (bytes_eq party name) refl is
  where
    go : (b : Bool) → bytes_eq party name ≡ b → (if b then None else Some name) ≡ Some ledger → ⊥
    go true e is = absurd cc
    go false e is = let other : name ≡ ledger = cc in true≢false (sym ((bytes_eq-Decides party name).1 (same ∙ sym other)) ∙ e)

pub apart : (party ledger : List ℕ) (p l : Option (List ℕ)) → p ≡ Some party → option_and_then (other_than p) l ≡ Some ledger → party ≢ ledger
apart party ledger p None given is = absurd cc
apart party ledger p (Some name) given is = other_is party name ledger (subst (λ (x : Option (List ℕ)). other_than x name ≡ Some ledger) given is)

pub pays_apart : PaysApart
pays_apart words party peer name ledger amount is =
    apart party ledger (given ident_of opt.Party (rows_of_line words)) (given ident_of opt.Ledger (rows_of_line words)) is.1.1.0 is.1.1.3

pub accepts_apart : AcceptsApart
accepts_apart words party ledger is =
    apart party ledger (given ident_of opt.Party (rows_of_line words)) (given ident_of opt.Ledger (rows_of_line words)) is.1.1.0 is.1.1.1

pub spools_apart : SpoolsApart
spools_apart words party spool is =
    apart party spool (given ident_of opt.Party (rows_of_line words)) (given ident_of opt.Spool (rows_of_line words)) is.1.1.0 is.1.1.1

pub compares_apart : ComparesApart
compares_apart words party mirror is =
    apart party mirror (given ident_of opt.Party (rows_of_line words)) (given ident_of opt.Mirror (rows_of_line words)) is.1.1.0 is.1.1.1
