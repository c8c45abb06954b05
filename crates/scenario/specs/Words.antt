-- The words of a line: this project's profile.
use Rattle.std.specs.Prelude.{ℕ, ◌==◌, Bool, List, [], ◌∷◌, Option, Some, None, option_map}
use Rattle.std.specs.List.{slice_split}

abbrev pub Word : Type 0
Word = List ℕ

abbrev pub is_blank : ℕ → Bool
is_blank byte = byte == 32

-- what stands between blanks: a blank at an end of the line, or a second one, parts an empty word
abbrev pub words_of : List ℕ → List Word
words_of line = slice_split is_blank line

-- the words behind the blank at which these bytes begin; none where there is no byte
abbrev pub words_behind : List ℕ → List Word
words_behind [] = []
words_behind (blank ∷ bytes) = words_of bytes

-- a first word, and what these give of the words behind it
abbrev pub behind_first : {A B : Type 0} → (List Word → Option A) → (Word → A → B) → List Word → Option B
behind_first rest join [] = None
behind_first rest join (word ∷ words) = option_map (join word) (rest words)

-- the words, where there are exactly so many
abbrev pub one_of : List Word → Option Word
one_of (word ∷ []) = Some word
one_of words = None

abbrev pub two_of : List Word → Option (Word × Word)
two_of words = behind_first one_of (λ word others. (word, others)) words

abbrev pub three_of : List Word → Option (Word × Word × Word)
three_of words = behind_first two_of (λ word others. (word, others.0, others.1)) words

abbrev pub four_of : List Word → Option (Word × Word × Word × Word)
four_of words = behind_first three_of (λ word others. (word, others.0, others.1, others.2)) words

abbrev pub five_of : List Word → Option (Word × Word × Word × Word × Word)
five_of words = behind_first four_of (λ word others. (word, others.0, others.1, others.2, others.3)) words

-- one word or two, and two words or three: the last may be left out
abbrev pub one_or_two_of : List Word → Option (Word × Option Word)
one_or_two_of (word ∷ []) = Some (word, None)
one_or_two_of (word ∷ second ∷ []) = Some (word, Some second)
one_or_two_of words = None

abbrev pub two_or_three_of : List Word → Option (Word × Word × Option Word)
two_or_three_of words = behind_first one_or_two_of (λ word others. (word, others.0, others.1)) words
