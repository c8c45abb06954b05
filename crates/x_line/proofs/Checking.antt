-- Nothing is missing where no required option is absent and none has a bad value.
use Rattle.std.proofs.Common.{◌≡◌, Bool, true, false, List, [], ◌∷◌, Option, Some, None, refl}
use Rattle.std.proofs.lemmas.Bool.{and_from}
use Rattle.std.specs.Prelude.{◌&&◌, ◌||◌, not, find, if◌then◌else◌}
use Rattle.std.specs.List.{list_all}
use Rattle.clap.specs.Words.{Row}
use Rattle.x_line.specs.declared.order_kind.OrderKind.{OrderKind}
use Rattle.x_line.specs.declared.opt.Opt.{Opt}
use Rattle.x_line.specs.LineValues.{is_given, is_valid}
use Rattle.x_line.specs.Needs.{is_required, need_of}
use Rattle.x_line.specs.Options.{options}
use Rattle.x_line.specs.Orders.{is_whole}
use Rattle.x_line.specs.Usage.{bad_of, first_fault, missing_of, options_fault, rows_fault}
use Rattle.x_line.specs.declared.usage.UsageKind.TheVariants as kind
use Rattle.x_line.specs.LineValues.{named_kind}
use Rattle.x_line.specs.Usage.{unwanted_of}

none_found : (t : Bool) (x : Opt) (o : Option Opt) → (if t then Some x else o) ≡ None → (t ≡ false) × (o ≡ None)
none_found true x o h = absurd cc
none_found false x o h = (refl, h)

one : (g r v : Bool) → (not g && r) ≡ false → (g && not v) ≡ false → (not r || v) ≡ true
one g false v m b = refl
one true true true m b = refl
one true true false m b = absurd cc
one false true v m b = absurd cc

all_whole : (g r v : Opt → Bool) (xs : List Opt) → find (λ o. not (g o) && r o) xs ≡ None → find (λ o. g o && not (v o)) xs ≡ None
    → list_all (λ o. not (r o) || v o) xs ≡ true
all_whole g r v [] m b = refl
all_whole g r v (x ∷ xs) m b =
    let p = none_found (not (g x) && r x) x _ m in
    let q = none_found (g x && not (v x)) x _ b in
    and_from (not (r x) || v x) _ (one (g x) (r x) (v x) p.0 q.0) (all_whole g r v xs p.1 q.1)

pub whole : (c : OrderKind) (rows : List Row) → missing_of c rows ≡ None → bad_of rows ≡ None → is_whole c rows ≡ true
whole c rows m b = all_whole (λ o. is_given o rows) (λ o. is_required (need_of c o)) (λ o. is_valid o rows) options m b

options_not_line : (u m b : Option Opt) → first_fault u m b ≡ Some kind.Line → ⊥
options_not_line (Some o) m b h = cc
options_not_line None (Some o) b h = cc
options_not_line None None (Some o) h = cc
options_not_line None None None h = cc

-- what clap takes is never answered as no command line
pub not_line : (rows : List Row) → rows_fault rows ≡ Some kind.Line → ⊥
not_line rows h = go (named_kind rows) h
  where
    go : (o : Option OrderKind) → options_fault o rows ≡ Some kind.Line → ⊥
    go None h = cc
    go (Some c) h = options_not_line (unwanted_of c rows) (missing_of c rows) (bad_of rows) h
