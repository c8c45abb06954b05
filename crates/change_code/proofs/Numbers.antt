-- Numbers of two and of eight bytes.
use Rattle.std.proofs.Common.{◌≡◌, ℕ, ◌<◌, ◌^◌, List, ◌++◌, length, take, drop, Option, Some, None, refl, sym, ap, ◌∙◌, subst, arith, length-append}
use Rattle.std.proofs.Math.Seq.{take-append_seam, drop-append_seam}
use Rattle.std.specs.Int.{w16, w64, from_be_bytes}
use Rattle.std.proofs.lemmas.Nat.{from_be_bytes-to_be_bytes_2, from_be_bytes-to_be_bytes_8}
use Rattle.std.proofs.lemmas.List.{take-append-drop}
use Rattle.std.specs.Option.{SomeIff}
use Rattle.x_base.specs.Count.{IsCount}
use Rattle.party_tables.specs.Ranges.{IsWord, IsNextCount}
use Rattle.change_code.specs.Code.{two, eight}
use Rattle.change_code.specs.Reading.{Form, Lacks, StartsWith, IsPieceRead, word_form, count_form, next_form}
use Rattle.change_code.proofs.Joining.{Apart}

pub two_long : (n : ℕ) → length (two n) ≡ 2
unfolding two
two_long n = refl

pub eight_long : (n : ℕ) → length (eight n) ≡ 8
unfolding eight
eight_long n = refl

-- equal lists with fronts of one length
pub same_fronts : (a b r s : List ℕ) → length a ≡ length b → a ++ r ≡ b ++ s → (a ≡ b) × (r ≡ s)
same_fronts a b r s long is = (
  sym (take-append_seam a r) ∙ (ap (λ (l : List ℕ). take (length a) l) is ∙ (ap (λ (n : ℕ). take n (b ++ s)) long ∙ take-append_seam b s)),
  sym (drop-append_seam a r) ∙ (ap (λ (l : List ℕ). drop (length a) l) is ∙ (ap (λ (n : ℕ). drop n (b ++ s)) long ∙ drop-append_seam b s)),
)

pub two_apart : (m n : ℕ) (r s : List ℕ) → m < 2 ^ 16 → n < 2 ^ 16 → two m ++ r ≡ two n ++ s → (m ≡ n) × (r ≡ s)
unfolding two
two_apart m n r s small small' is =
    let same = same_fronts (two m) (two n) r s refl is in
    (sym (from_be_bytes-to_be_bytes_2 m small) ∙ (ap (from_be_bytes w16) same.0 ∙ from_be_bytes-to_be_bytes_2 n small'), same.1)

pub eight_apart : (m n : ℕ) (r s : List ℕ) → IsWord m → IsWord n → eight m ++ r ≡ eight n ++ s → (m ≡ n) × (r ≡ s)
unfolding eight
eight_apart m n r s small small' is =
    let same = same_fronts (eight m) (eight n) r s refl is in
    (sym (from_be_bytes-to_be_bytes_8 m small) ∙ (ap (from_be_bytes w64) same.0 ∙ from_be_bytes-to_be_bytes_8 n small'), same.1)

pub count_word : (n : ℕ) → IsCount n → IsWord n
count_word n is = omega (arith, is.high)

pub next_word : (n : ℕ) → IsNextCount n → IsWord n
next_word n is = omega (arith, is.high)

pub word_apart : Apart word_form
word_apart = record { same = λ x y r s fx fy is. eight_apart x y r s fx fy is }

pub count_apart : Apart count_form
count_apart = record { same = λ x y r s fx fy is. eight_apart x y r s (count_word x fx) (count_word y fy) is }

pub next_apart : Apart next_form
next_apart = record { same = λ x y r s fx fy is. eight_apart x y r s (next_word x fx) (next_word y fy) is }

-- too few bytes for a number
pub lacks_word : (bytes : List ℕ) → length bytes < 8 → Lacks word_form bytes
lacks_word bytes few = record { none = λ x rest fits is. omega (arith, few, ap length is, length-append (eight x) rest, eight_long x) }

-- a word that is out of a narrower range
pub lacks_within : (form : Form ℕ) (bytes rest : List ℕ) (n : ℕ) → ((x : ℕ) → form.code x ≡ eight x) → ((x : ℕ) → form.Fits x → IsWord x) → StartsWith word_form bytes rest n → (form.Fits n → ⊥) → Lacks form bytes
lacks_within form bytes rest n code word begins out = record {
  none = λ x more fits is.
      let same = eight_apart n x rest more begins.fits (word x fits) (sym begins.is ∙ (is ∙ ap (λ (l : List ℕ). l ++ more) (code x))) in
      out (subst form.Fits (sym same.0) fits);
}

pub begins_word : (old front rest : List ℕ) (n : ℕ) → front ≡ take 8 old → rest ≡ drop 8 old → n < 2 ^ 64 → eight n ≡ front → StartsWith word_form old rest n
begins_word old front rest n is_front is_rest small is = record {
  fits = small;
  is = sym (take-append-drop 8 old) ∙ (ap (λ (l : List ℕ). l ++ drop 8 old) (sym is_front ∙ sym is) ∙ ap (λ (l : List ℕ). eight n ++ l) (sym is_rest));
}

pub begins_two : (old front rest : List ℕ) (n : ℕ) → front ≡ take 2 old → rest ≡ drop 2 old → two n ≡ front → old ≡ two n ++ rest
begins_two old front rest n is_front is_rest is =
    sym (take-append-drop 2 old) ∙ (ap (λ (l : List ℕ). l ++ drop 2 old) (sym is_front ∙ sym is) ∙ ap (λ (l : List ℕ). two n ++ l) (sym is_rest))

-- a word that is a count, and one that isn't
pub read_count : (bytes rest : List ℕ) (n : ℕ) (result : Option ℕ) → StartsWith word_form bytes rest n → SomeIff result (IsCount n) n → IsPieceRead count_form bytes rest result
read_count bytes rest n None begins never = lacks_within count_form bytes rest n (λ x. refl) count_word begins never
read_count bytes rest n (Some m) begins found = record {
  fits = subst IsCount (sym found.1) found.0;
  is = begins.is ∙ ap (λ (k : ℕ). eight k ++ rest) (sym found.1);
}
