-- What a parse of the declared command says.
use Rattle.std.proofs.Common.{◌≡◌, ◌∙◌, Bool, true, false, List, [], refl, ap, ap₂, sym}
use Rattle.clap.specs.Words.{App, Row, Text, fault_of, is_simple, is_simple_and_free, matches_of, takes}
use Rattle.x_line.specs.Line.{is_line, rows_of_line, x917_app}
use Rattle.x_line.proofs.Taking.{takes_all}

is_simple_app : is_simple x917_app ≡ true
unfolding x917_app
is_simple_app = refl

is_free_app : is_simple_and_free x917_app ≡ true
unfolding x917_app
is_free_app = refl

pub rows_are : (a : App) (ts ws : List Text) (rows : List Row) → a ≡ x917_app → ts ≡ ws
    → (is_simple a ≡ true → rows ≡ matches_of a ts) → rows ≡ rows_of_line ws
unfolding rows_of_line
rows_are a ts ws rows e t h = h (ap is_simple e ∙ is_simple_app) ∙ ap₂ matches_of e t

pub line_taken : (a : App) (ts ws : List Text) → a ≡ x917_app → ts ≡ ws
    → (is_simple_and_free a ≡ true → fault_of a ts ≡ []) → is_line ws ≡ true
unfolding is_line
line_taken a ts ws e t h = takes_all ws (sym (ap₂ fault_of e t) ∙ h (ap is_simple_and_free e ∙ is_free_app))

pub line_refused : (a : App) (ts ws : List Text) (M : Type 0) → a ≡ x917_app → ts ≡ ws
    → (takes a ts ≡ true → M) → (M → ⊥) → is_line ws ≡ false
unfolding is_line
line_refused a ts ws M e t h never = go (is_line ws) refl
  where
    takes_is : takes a ts ≡ is_line ws
    takes_is = ap₂ takes e t

    go : (b : Bool) → is_line ws ≡ b → is_line ws ≡ false
    go false q = q
    go true q = absurd (never (h (takes_is ∙ q)))
