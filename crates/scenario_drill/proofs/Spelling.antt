-- A line that is spelled in words: its row, and its words again.
use Rattle.std.proofs.Common.{◌≡◌, ℕ, ◌==◌, ◌&&◌, not, Bool, true, false, List, [], ◌∷◌, ◌++◌, refl, sym, ap, subst, ◌∙◌, append_assoc, append-nil}
use Rattle.std.specs.List.{onto_first}
use Rattle.std.proofs.lemmas.Bool.{and_from, and_parts, not-true}
use Rattle.scenario.specs.Rows.{put_before, rows_of}
use Rattle.scenario.specs.Words.{words_of}
use Rattle.scenario_drill.specs.Drill.{word, last}

-- bytes that are neither a blank nor a line feed
abbrev pub is_plain : ℕ → Bool
is_plain b = not (b == 32) && not (b == 10)

abbrev pub are_plain : List ℕ → Bool
are_plain [] = true
are_plain (b ∷ bs) = is_plain b && are_plain bs

abbrev pub all_plain : List ℕ → List (List ℕ) → Bool
all_plain w [] = are_plain w
all_plain w (v ∷ ws) = are_plain w && all_plain v ws

-- the line of these words, without and with its line feed
abbrev pub joined : List ℕ → List (List ℕ) → List ℕ
joined w [] = w
joined w (v ∷ ws) = w ++ 32 ∷ joined v ws

abbrev pub spelled : List ℕ → List (List ℕ) → List ℕ
spelled w [] = last w
spelled w (v ∷ ws) = word w ++ spelled v ws

spelled_joined : (w : List ℕ) (ws : List (List ℕ)) (rest : List ℕ) → spelled w ws ++ rest ≡ joined w ws ++ 10 ∷ rest
spelled_joined w [] rest = append_assoc w (10 ∷ []) rest
spelled_joined w (v ∷ ws) rest =
    append_assoc (word w) (spelled v ws) rest
    ∙ (append_assoc w (32 ∷ []) (spelled v ws ++ rest)
    ∙ (ap (λ (t : List ℕ). w ++ 32 ∷ t) (spelled_joined v ws rest) ∙ sym (append_assoc w (32 ∷ joined v ws) (10 ∷ rest))))

-- ---- the row

abbrev no_feed : List ℕ → Bool
no_feed [] = true
no_feed (b ∷ bs) = not (b == 10) && no_feed bs

plain_feed : (w rest : List ℕ) → are_plain w ≡ true → no_feed rest ≡ true → no_feed (w ++ rest) ≡ true
plain_feed [] rest plain none = none
plain_feed (b ∷ bs) rest plain none =
    let p = and_parts (is_plain b) (are_plain bs) plain in
    let q = and_parts (not (b == 32)) (not (b == 10)) p.0 in
    and_from (not (b == 10)) (no_feed (bs ++ rest)) q.1 (plain_feed bs rest p.1 none)

feedless : (w : List ℕ) (ws : List (List ℕ)) → all_plain w ws ≡ true → no_feed (joined w ws) ≡ true
feedless w [] plain = subst (λ (t : List ℕ). no_feed t ≡ true) (append-nil w) (plain_feed w [] plain refl)
feedless w (v ∷ ws) plain =
    let p = and_parts (are_plain w) (all_plain v ws) plain in
    plain_feed w (32 ∷ joined v ws) p.0 (feedless v ws p.1)

fed_step : (b : ℕ) (bs rest : List ℕ) → (b == 10) ≡ false → rows_of (bs ++ 10 ∷ rest) ≡ record { line = bs; ended = true } ∷ rows_of rest
    → rows_of (b ∷ (bs ++ 10 ∷ rest)) ≡ record { line = b ∷ bs; ended = true } ∷ rows_of rest
fed_step b bs rest e next = rw e (ap (put_before b) next)

fed : (bs rest : List ℕ) → no_feed bs ≡ true → rows_of (bs ++ 10 ∷ rest) ≡ record { line = bs; ended = true } ∷ rows_of rest
fed [] rest none = refl
fed (b ∷ bs) rest none = let p = and_parts (not (b == 10)) (no_feed bs) none in fed_step b bs rest (not-true _ p.0) (fed bs rest p.1)

pub row_spelled : (w : List ℕ) (ws : List (List ℕ)) (rest : List ℕ) → all_plain w ws ≡ true → rows_of (spelled w ws ++ rest) ≡ record { line = joined w ws; ended = true } ∷ rows_of rest
row_spelled w ws rest plain = ap rows_of (spelled_joined w ws rest) ∙ fed (joined w ws) rest (feedless w ws plain)

-- ---- the words

part_step : (b : ℕ) (bytes : List ℕ) (ws : List (List ℕ)) → (b == 32) ≡ false → words_of bytes ≡ ws → words_of (b ∷ bytes) ≡ onto_first b ws
part_step b bytes ws e next = rw e (ap (onto_first b) next)

unblank : (b : ℕ) → is_plain b ≡ true → (b == 32) ≡ false
unblank b plain = not-true _ (and_parts (not (b == 32)) (not (b == 10)) plain).0

parted : (w rest : List ℕ) → are_plain w ≡ true → words_of (w ++ 32 ∷ rest) ≡ w ∷ words_of rest
parted [] rest plain = refl
parted (b ∷ bs) rest plain = let p = and_parts (is_plain b) (are_plain bs) plain in part_step b (bs ++ 32 ∷ rest) (bs ∷ words_of rest) (unblank b p.0) (parted bs rest p.1)

alone : (w : List ℕ) → are_plain w ≡ true → words_of w ≡ w ∷ []
alone [] plain = refl
alone (b ∷ bs) plain = let p = and_parts (is_plain b) (are_plain bs) plain in part_step b bs (bs ∷ []) (unblank b p.0) (alone bs p.1)

pub words_spelled : (w : List ℕ) (ws : List (List ℕ)) → all_plain w ws ≡ true → words_of (joined w ws) ≡ w ∷ ws
words_spelled w [] plain = alone w plain
words_spelled w (v ∷ ws) plain =
    let p = and_parts (are_plain w) (all_plain v ws) plain in
    parted w (joined v ws) p.0 ∙ ap (λ (l : List (List ℕ)). w ∷ l) (words_spelled v ws p.1)

-- ---- pieces, one behind the other

pub four_pieces : (a b c d : List ℕ) → a ++ b ++ c ++ d ≡ a ++ (b ++ (c ++ d))
four_pieces a b c d = simp append_assoc

pub five_pieces : (a b c d e : List ℕ) → a ++ b ++ c ++ d ++ e ≡ a ++ (b ++ (c ++ (d ++ e)))
five_pieces a b c d e = simp append_assoc

pub six_pieces : (a b c d e f : List ℕ) → a ++ b ++ c ++ d ++ e ++ f ≡ a ++ (b ++ (c ++ (d ++ (e ++ f))))
six_pieces a b c d e f = simp append_assoc
