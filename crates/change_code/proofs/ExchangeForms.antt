-- Exchanges: what they wait for, and how a key was sent.
use Rattle.std.proofs.Common.{◌≡◌, ℕ, List, ◌∷◌, ◌++◌, Option, refl}
use Rattle.x_base.specs.declared.key_name.KeyName.{KeyName}
use Rattle.party_tables.specs.declared.exchange.Via.{Via}
use Rattle.party_tables.specs.declared.exchange.Via.TheVariants as via
use Rattle.party_tables.specs.declared.exchange.Kind.{Kind}
use Rattle.party_tables.specs.declared.exchange.Kind.TheVariants as kind
use Rattle.change_code.specs.Reading.{ident_form, label_form, word_form, count_form, text_form, name_form, first_name_form, maybe_form, via_form, kind_form, exchange_form}
use Rattle.change_code.proofs.Joining.{Apart, Shape, both, apart_both, apart_as}
use Rattle.change_code.proofs.Numbers.{word_apart, count_apart}
use Rattle.change_code.proofs.Names.{ident_apart, label_apart, name_apart, first_name_apart, text_apart}
use Rattle.change_code.proofs.RowForms.{maybe_apart}
use Rattle.change_code.proofs.Tags.{Tagged, apart_tagged}

abbrev pub direct : List ℕ × Option (List ℕ) → Via
direct p = via.Direct p.0 p.1

abbrev pub distribution : List ℕ × ℕ → Via
distribution p = via.Distribution p.0 p.1

direct_only : (y : Via) (rest more : List ℕ) → via_form.Fits y → 1 ∷ rest ≡ via_form.code y ++ more
    → (u : List ℕ × Option (List ℕ)) × (both label_form maybe_form).Fits u × (y ≡ direct u) × (rest ≡ (both label_form maybe_form).code u ++ more)
unfolding both
direct_only (via.Direct label new) rest more fits is = ((label, new), fits, refl, cc is)
direct_only y rest more fits is = absurd (cc is)

pub direct_tagged : Tagged via_form 1 (both label_form maybe_form) direct
direct_tagged = record { only = direct_only }

distribution_only : (y : Via) (rest more : List ℕ) → via_form.Fits y → 2 ∷ rest ≡ via_form.code y ++ more
    → (u : List ℕ × ℕ) × (both ident_form count_form).Fits u × (y ≡ distribution u) × (rest ≡ (both ident_form count_form).code u ++ more)
unfolding both
distribution_only (via.Distribution centre cta) rest more fits is = ((centre, cta), fits, refl, cc is)
distribution_only y rest more fits is = absurd (cc is)

pub distribution_tagged : Tagged via_form 2 (both ident_form count_form) distribution
distribution_tagged = record { only = distribution_only }

translation_only : (y : Via) (rest more : List ℕ) → via_form.Fits y → 3 ∷ rest ≡ via_form.code y ++ more
    → (u : List ℕ) × ident_form.Fits u × (y ≡ via.Translation u) × (rest ≡ ident_form.code u ++ more)
translation_only (via.Translation centre) rest more fits is = (centre, fits, refl, cc is)
translation_only y rest more fits is = absurd (cc is)

pub translation_tagged : Tagged via_form 3 ident_form (λ u. via.Translation u)
translation_tagged = record { only = translation_only }

via_same : (x y : Via) (r s : List ℕ) → via_form.Fits x → via_form.Fits y → via_form.code x ++ r ≡ via_form.code y ++ s → (x ≡ y) × (r ≡ s)
unfolding both
via_same (via.Direct label new) y r s fx fy is =
    apart_tagged via_form 1 (both label_form maybe_form) direct direct_tagged (apart_both label_form maybe_form label_apart maybe_apart) (label, new) y r s fx fy is
via_same (via.Distribution centre cta) y r s fx fy is =
    apart_tagged via_form 2 (both ident_form count_form) distribution distribution_tagged (apart_both ident_form count_form ident_apart count_apart) (centre, cta) y r s fx fy is
via_same (via.Translation centre) y r s fx fy is = apart_tagged via_form 3 ident_form (λ u. via.Translation u) translation_tagged ident_apart centre y r s fx fy is

pub via_apart : Apart via_form
via_apart = record { same = via_same }

abbrev pub translating : List ℕ × (ℕ × ℕ) → Kind
translating p = kind.Translating p.0 p.1.0 p.1.1

abbrev pub key_sent : KeyName × Via → Kind
key_sent p = kind.KeySent p.0 p.1

asked_only : (y : Kind) (rest more : List ℕ) → kind_form.Fits y → 1 ∷ rest ≡ kind_form.code y ++ more
    → (u : List ℕ) × ident_form.Fits u × (y ≡ kind.Asked u) × (rest ≡ ident_form.code u ++ more)
asked_only (kind.Asked ultimate) rest more fits is = (ultimate, fits, refl, cc is)
asked_only y rest more fits is = absurd (cc is)

pub asked_tagged : Tagged kind_form 1 ident_form (λ u. kind.Asked u)
asked_tagged = record { only = asked_only }

translating_only : (y : Kind) (rest more : List ℕ) → kind_form.Fits y → 2 ∷ rest ≡ kind_form.code y ++ more
    → (u : List ℕ × (ℕ × ℕ)) × (both ident_form (both word_form count_form)).Fits u × (y ≡ translating u) × (rest ≡ (both ident_form (both word_form count_form)).code u ++ more)
unfolding both
translating_only (kind.Translating ultimate value cta) rest more fits is = ((ultimate, (value, cta)), (fits.0, (fits.1, fits.2)), refl, cc is)
translating_only y rest more fits is = absurd (cc is)

pub translating_tagged : Tagged kind_form 2 (both ident_form (both word_form count_form)) translating
translating_tagged = record { only = translating_only }

key_sent_only : (y : Kind) (rest more : List ℕ) → kind_form.Fits y → 3 ∷ rest ≡ kind_form.code y ++ more
    → (u : KeyName × Via) × (both name_form via_form).Fits u × (y ≡ key_sent u) × (rest ≡ (both name_form via_form).code u ++ more)
unfolding both
key_sent_only (kind.KeySent name via) rest more fits is = ((name, via), fits, refl, cc is)
key_sent_only y rest more fits is = absurd (cc is)

pub key_sent_tagged : Tagged kind_form 3 (both name_form via_form) key_sent
key_sent_tagged = record { only = key_sent_only }

ending_only : (y : Kind) (rest more : List ℕ) → kind_form.Fits y → 4 ∷ rest ≡ kind_form.code y ++ more
    → (u : KeyName) × name_form.Fits u × (y ≡ kind.Ending u) × (rest ≡ name_form.code u ++ more)
ending_only (kind.Ending name) rest more fits is = (name, fits, refl, cc is)
ending_only y rest more fits is = absurd (cc is)

pub ending_tagged : Tagged kind_form 4 name_form (λ u. kind.Ending u)
ending_tagged = record { only = ending_only }

pair_sent_only : (y : Kind) (rest more : List ℕ) → kind_form.Fits y → 5 ∷ rest ≡ kind_form.code y ++ more
    → (u : KeyName) × first_name_form.Fits u × (y ≡ kind.PairSent u) × (rest ≡ first_name_form.code u ++ more)
pair_sent_only (kind.PairSent name) rest more fits is = (name, fits, refl, cc is)
pair_sent_only y rest more fits is = absurd (cc is)

pub pair_sent_tagged : Tagged kind_form 5 first_name_form (λ u. kind.PairSent u)
pair_sent_tagged = record { only = pair_sent_only }

kind_same : (x y : Kind) (r s : List ℕ) → kind_form.Fits x → kind_form.Fits y → kind_form.code x ++ r ≡ kind_form.code y ++ s → (x ≡ y) × (r ≡ s)
unfolding both
kind_same (kind.Asked ultimate) y r s fx fy is = apart_tagged kind_form 1 ident_form (λ u. kind.Asked u) asked_tagged ident_apart ultimate y r s fx fy is
kind_same (kind.Translating ultimate value cta) y r s fx fy is =
    apart_tagged kind_form 2 (both ident_form (both word_form count_form)) translating translating_tagged
    (apart_both ident_form (both word_form count_form) ident_apart (apart_both word_form count_form word_apart count_apart))
    (ultimate, (value, cta)) y r s (fx.0, (fx.1, fx.2)) fy is
kind_same (kind.KeySent name via) y r s fx fy is =
    apart_tagged kind_form 3 (both name_form via_form) key_sent key_sent_tagged (apart_both name_form via_form name_apart via_apart) (name, via) y r s fx fy is
kind_same (kind.Ending name) y r s fx fy is = apart_tagged kind_form 4 name_form (λ u. kind.Ending u) ending_tagged name_apart name y r s fx fy is
kind_same (kind.PairSent name) y r s fx fy is =
    apart_tagged kind_form 5 first_name_form (λ u. kind.PairSent u) pair_sent_tagged first_name_apart name y r s fx fy is

pub kind_apart : Apart kind_form
kind_apart = record { same = kind_same }

pub exchange_shape : Shape exchange_form (both ident_form (both kind_form text_form))
unfolding both
exchange_shape = record {
  parts = λ e. (e.peer, (e.kind, e.text));
  whole = λ p. record { peer = p.0; kind = p.1.0; text = p.1.1 };
  back = λ e. refl;
  code = λ e. refl;
  fits = λ e is. (is.peer, (is.kind, is.text));
}

pub exchange_apart : Apart exchange_form
exchange_apart = apart_as exchange_form _ exchange_shape
    (apart_both ident_form (both kind_form text_form) ident_apart (apart_both kind_form text_form kind_apart text_apart))
