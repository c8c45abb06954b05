-- The lines of a drill's events.
use Rattle.std.proofs.Common.{◌≡◌, ℕ, zero, suc, ◌+◌, ◌%◌, ◌<◌, ◌≤◌, ◌^◌, ◌==◌, ◌&&◌, Bool, true, false, List, [], ◌∷◌, ◌++◌, length, Some, None, refl, sym, subst, arith, append_assoc, length-append}
use Rattle.std.specs.Prelude.{codes, nat_lt, nat_le, if◌then◌else◌}
use Rattle.std.specs.Fmt.{decimal, digits}
use Rattle.std.proofs.lemmas.Bool.{and_from, le-leb, leb-true}
use Rattle.x_base.specs.declared.key_name.KeyName.{KeyName}
use Rattle.x_values.specs.Words.{ident_of, key_name_of, label_of, number_of, plain_number_of, plain_number_within}
use Rattle.scenario.specs.declared.line.Line.{Line}
use Rattle.scenario.specs.declared.line.Line.TheVariants as line
use Rattle.scenario.specs.Kinds.{line_of_words}
use Rattle.scenario.specs.Reading.{is_skipped}
use Rattle.scenario.specs.Rules.{may_follow, is_declared}
use Rattle.scenario_drill.specs.Drill.{bank, word, last, end_of_key, start_kk, recent, stop, for_two, through_centre, purge, act, event_with}
use Rattle.scenario_drill.proofs.Spelling.{are_plain, joined, four_pieces, six_pieces}
use Rattle.scenario_drill.proofs.Numbers.{number_read, number_short, number_plain, plain_read}
use Rattle.scenario_drill.proofs.Gathered.{Sets, not_skipped, one, one_as, both, fewer}
use Rattle.scenario_drill.proofs.Beginning.{set_lines}

-- behind the set-up and whatever lines, the text is so many lines at most
abbrev pub Reads : ℕ → List ℕ → ℕ → Type 0
Reads seed text n = (lines : List Line) × ((more : List Line) → Sets (set_lines seed ++ more) text lines n)

pub reads_both : (seed : ℕ) (a b : List ℕ) (m n : ℕ) → Reads seed a m → Reads seed b n → Reads seed (a ++ b) (m + n)
reads_both seed a b m n first second = (
  first.0 ++ second.0,
  λ more. both (set_lines seed ++ more) a b first.0 second.0 m n (first.1 more)
      (subst (λ (ls : List Line). Sets ls b second.0 n) (sym (append_assoc (set_lines seed) more first.0)) (second.1 (more ++ first.0))),
)

reads_fewer : (seed : ℕ) (a : List ℕ) (m n : ℕ) → m ≤ n → Reads seed a m → Reads seed a n
reads_fewer seed a m n le r = (r.0, λ more. fewer (set_lines seed ++ more) a r.0 m n le (r.1 more))

reads_either : (seed : ℕ) (t : Bool) (a b : List ℕ) (n : ℕ) → Reads seed a n → Reads seed b n → Reads seed (if t then a else b) n
reads_either seed true a b n first second = first
reads_either seed false a b n first second = second

-- an identity that the set-up declares
record Known (seed : ℕ) (w : List ℕ) : Type 0 where
  plain : are_plain w ≡ true
  ident : ident_of w ≡ Some w
  declared : (more : List Line) → is_declared (set_lines seed ++ more) w ≡ true
  short : length w ≤ 5

bank_known : (seed n : ℕ) → Known seed (bank n)
bank_known seed zero = record { plain = refl; ident = refl; declared = λ more. refl; short = omega arith }
bank_known seed (suc zero) = record { plain = refl; ident = refl; declared = λ more. refl; short = omega arith }
bank_known seed (suc (suc n)) = record { plain = refl; ident = refl; declared = λ more. refl; short = omega arith }

distribution_known : (seed : ℕ) → Known seed (codes "CKDX")
distribution_known seed = record { plain = refl; ident = refl; declared = λ more. refl; short = omega arith }

translation_known : (seed : ℕ) → Known seed (codes "CKTX")
translation_known seed = record { plain = refl; ident = refl; declared = λ more. refl; short = omega arith }

-- a line with the word of its kind
module _ (seed : ℕ) (b : ℕ) (bs : List ℕ) (other : (b == 35) ≡ false) (kind_plain : are_plain (b ∷ bs) ≡ true) (kind_short : length (b ∷ bs) ≤ 9) where
  kept : (v : List ℕ) (ws : List (List ℕ)) → is_skipped (joined (b ∷ bs) (v ∷ ws)) ≡ false
  kept v ws = not_skipped b (bs ++ 32 ∷ joined v ws) other

  of_one : (p : List ℕ) (l : Line) → are_plain p ≡ true → length p ≤ 20 → line_of_words ((b ∷ bs) ∷ p ∷ []) ≡ Some l → ((more : List Line) → may_follow (set_lines seed ++ more) l ≡ true)
      → Reads seed (word (b ∷ bs) ++ last p) 1
  of_one p l plain short reads follows = (
    l ∷ [],
    λ more. one (set_lines seed ++ more) (b ∷ bs) (p ∷ []) l (record {
      plain = and_from (are_plain (b ∷ bs)) (are_plain p) kind_plain plain;
      kept = kept p [];
      reads = reads;
      follows = follows more;
      size = omega (arith, length-append (b ∷ bs) (32 ∷ p), kind_short, short);
    }),
  )

  of_two : (p q : List ℕ) (l : Line) → are_plain p ≡ true → are_plain q ≡ true → length p ≤ 20 → length q ≤ 20 → line_of_words ((b ∷ bs) ∷ p ∷ q ∷ []) ≡ Some l
      → ((more : List Line) → may_follow (set_lines seed ++ more) l ≡ true) → Reads seed (for_two (b ∷ bs) p q) 1
  of_two p q l plain_p plain_q short_p short_q reads follows = (
    l ∷ [],
    λ more. one_as (set_lines seed ++ more) (for_two (b ∷ bs) p q) (b ∷ bs) (p ∷ q ∷ []) l (append_assoc (word (b ∷ bs)) (word p) (last q)) (record {
      plain = and_from (are_plain (b ∷ bs)) (are_plain p && are_plain q) kind_plain (and_from (are_plain p) (are_plain q) plain_p plain_q);
      kept = kept p (q ∷ []);
      reads = reads;
      follows = follows more;
      size = omega (arith, length-append (b ∷ bs) (32 ∷ (p ++ 32 ∷ q)), length-append p (32 ∷ q), kind_short, short_p, short_q);
    }),
  )

  of_three : (p q r : List ℕ) (l : Line) → are_plain p ≡ true → are_plain q ≡ true → are_plain r ≡ true → length p ≤ 20 → length q ≤ 20 → length r ≤ 20 → line_of_words ((b ∷ bs) ∷ p ∷ q ∷ r ∷ []) ≡ Some l
      → ((more : List Line) → may_follow (set_lines seed ++ more) l ≡ true) → Reads seed (through_centre (b ∷ bs) p q r) 1
  of_three p q r l plain_p plain_q plain_r short_p short_q short_r reads follows = (
    l ∷ [],
    λ more. one_as (set_lines seed ++ more) (through_centre (b ∷ bs) p q r) (b ∷ bs) (p ∷ q ∷ r ∷ []) l (four_pieces (word (b ∷ bs)) (word p) (word q) (last r)) (record {
      plain = and_from (are_plain (b ∷ bs)) _ kind_plain (and_from (are_plain p) _ plain_p (and_from (are_plain q) (are_plain r) plain_q plain_r));
      kept = kept p (q ∷ r ∷ []);
      reads = reads;
      follows = follows more;
      size = omega (arith, length-append (b ∷ bs) (32 ∷ (p ++ 32 ∷ (q ++ 32 ∷ r))), length-append p (32 ∷ (q ++ 32 ∷ r)), length-append q (32 ∷ r), kind_short, short_p, short_q, short_r);
    }),
  )

-- ---- what the words of each kind write

start_by : (p q : List ℕ) → ident_of p ≡ Some p → ident_of q ≡ Some q → line_of_words (codes "START" ∷ p ∷ q ∷ []) ≡ Some (line.Start p q None)
start_by p q a b = rw (a, b) refl

resend_by : (p q : List ℕ) → ident_of p ≡ Some p → ident_of q ≡ Some q → line_of_words (codes "RESEND" ∷ p ∷ q ∷ []) ≡ Some (line.Resend p q)
resend_by p q a b = rw (a, b) refl

drop_by : (p q : List ℕ) → ident_of p ≡ Some p → ident_of q ≡ Some q → line_of_words (codes "DROP" ∷ p ∷ q ∷ []) ≡ Some (line.Drop p q)
drop_by p q a b = rw (a, b) refl

ask_by : (p q r : List ℕ) → ident_of p ≡ Some p → ident_of q ≡ Some q → ident_of r ≡ Some r → line_of_words (codes "ASK" ∷ p ∷ q ∷ r ∷ []) ≡ Some (line.Ask p q (Some r))
ask_by p q r a b c = rw (a, b, c) refl

translate_by : (p q r : List ℕ) → ident_of p ≡ Some p → ident_of q ≡ Some q → ident_of r ≡ Some r → line_of_words (codes "TRANSLATE" ∷ p ∷ q ∷ r ∷ []) ≡ Some (line.Translate p q r)
translate_by p q r a b c = rw (a, b, c) refl

purge_by : (p : List ℕ) → ident_of p ≡ Some p → line_of_words (codes "PURGE" ∷ p ∷ []) ≡ Some (line.Purge p)
purge_by p a = rw a refl

end_by : (p q w : List ℕ) (name : KeyName) → ident_of p ≡ Some p → ident_of q ≡ Some q → key_name_of w ≡ Some name → line_of_words (codes "END" ∷ p ∷ q ∷ w ∷ []) ≡ Some (line.End p q name)
end_by p q w name a b c = rw (a, b, c) refl

start_kk_by : (p q w : List ℕ) → ident_of p ≡ Some p → ident_of q ≡ Some q → label_of w ≡ Some w → line_of_words (codes "STARTKK" ∷ p ∷ q ∷ codes "K1" ∷ w ∷ codes "DOUBLE" ∷ []) ≡ Some (line.StartKk p q (codes "K1") w false)
start_kk_by p q w a b c = rw (a, b, c) refl

time_by : (w : List ℕ) (n : ℕ) → number_of w ≡ Some n → line_of_words (codes "TIME" ∷ w ∷ []) ≡ Some (line.Time n)
time_by w n a = rw a refl

recent_by : (w : List ℕ) (n : ℕ) → plain_number_within 1 65536 w ≡ Some n → line_of_words (codes "RECENT" ∷ w ∷ []) ≡ Some (line.Recent n)
recent_by w n a = rw a refl

stop_by : (v w : List ℕ) (n choice : ℕ) → plain_number_within 1 5 v ≡ Some n → plain_number_of w ≡ Some choice → line_of_words (codes "STOP" ∷ v ∷ w ∷ []) ≡ Some (line.Stop n choice)
stop_by v w n choice a b = rw (a, b) refl

within_by : (low high n : ℕ) (w : List ℕ) → plain_number_of w ≡ Some n → (nat_le low n && nat_le n high) ≡ true → plain_number_within low high w ≡ Some n
within_by low high n w is test = rw is (rw test refl)

-- ---- the lines

module _ (seed : ℕ) (p q : List ℕ) (k : Known seed p) (h : Known seed q) where
  five : (w : List ℕ) → length w ≤ 5 → length w ≤ 20
  five w le = omega (arith, le)

  starts : Reads seed (for_two (codes "START") p q) 1
  starts = of_two seed 83 (codes "TART") refl refl (omega arith) p q (line.Start p q None) k.plain h.plain (five p k.short) (five q h.short) (start_by p q k.ident h.ident) k.declared

  resends : Reads seed (for_two (codes "RESEND") p q) 1
  resends = of_two seed 82 (codes "ESEND") refl refl (omega arith) p q (line.Resend p q) k.plain h.plain (five p k.short) (five q h.short) (resend_by p q k.ident h.ident) k.declared

  drops : Reads seed (for_two (codes "DROP") p q) 1
  drops = of_two seed 68 (codes "ROP") refl refl (omega arith) p q (line.Drop p q) k.plain h.plain (five p k.short) (five q h.short) (drop_by p q k.ident h.ident) k.declared

  asks : Reads seed (through_centre (codes "ASK") p (codes "CKDX") q) 1
  asks = of_three seed 65 (codes "SK") refl refl (omega arith) p (codes "CKDX") q (line.Ask p (codes "CKDX") (Some q)) k.plain refl h.plain (five p k.short) (omega arith) (five q h.short)
      (ask_by p (codes "CKDX") q k.ident (distribution_known seed).ident h.ident) k.declared

  translates : Reads seed (through_centre (codes "TRANSLATE") p (codes "CKTX") q) 1
  translates = of_three seed 84 (codes "RANSLATE") refl refl (omega arith) p (codes "CKTX") q (line.Translate p (codes "CKTX") q) k.plain refl h.plain (five p k.short) (omega arith) (five q h.short)
      (translate_by p (codes "CKTX") q k.ident (translation_known seed).ident h.ident) k.declared

  purges : Reads seed (purge p) 1
  purges = of_one seed 80 (codes "URGE") refl refl (omega arith) p (line.Purge p) k.plain (five p k.short) (purge_by p k.ident) k.declared

  -- with the name of a key, or the label of a new one
  ends : (w : List ℕ) (name : KeyName) → are_plain w ≡ true → length w ≤ 20 → key_name_of w ≡ Some name → Reads seed (through_centre (codes "END") p q w) 1
  ends w name plain short named = of_three seed 69 (codes "ND") refl refl (omega arith) p q w (line.End p q name) k.plain h.plain plain (five p k.short) (five q h.short) short (end_by p q w name k.ident h.ident named) k.declared

  starts_kk : (w : List ℕ) → are_plain w ≡ true → length w ≤ 20 → label_of w ≡ Some w → Reads seed (word (codes "STARTKK") ++ word p ++ word q ++ word (codes "K1") ++ word w ++ last (codes "DOUBLE")) 1
  starts_kk w plain short labelled = (
    line.StartKk p q (codes "K1") w false ∷ [],
    λ more. one_as (set_lines seed ++ more) (word (codes "STARTKK") ++ word p ++ word q ++ word (codes "K1") ++ word w ++ last (codes "DOUBLE")) (codes "STARTKK") (p ∷ q ∷ codes "K1" ∷ w ∷ codes "DOUBLE" ∷ []) (line.StartKk p q (codes "K1") w false)
        (six_pieces (word (codes "STARTKK")) (word p) (word q) (word (codes "K1")) (word w) (last (codes "DOUBLE"))) (record {
          plain = and_from (are_plain p) _ k.plain (and_from (are_plain q) _ h.plain (and_from (are_plain w) _ plain refl));
          kept = not_skipped 83 (codes "TARTKK" ++ 32 ∷ joined p (q ∷ codes "K1" ∷ w ∷ codes "DOUBLE" ∷ [])) refl;
          reads = start_kk_by p q w k.ident h.ident labelled;
          follows = k.declared more;
          size = omega (arith, length-append p (32 ∷ joined q (codes "K1" ∷ w ∷ codes "DOUBLE" ∷ [])), length-append q (32 ∷ joined (codes "K1") (w ∷ codes "DOUBLE" ∷ [])), length-append w (32 ∷ codes "DOUBLE"), k.short, h.short, short);
        }),
  )

module _ (seed : ℕ) where
  times : (n : ℕ) → n < 2 ^ 64 → Reads seed (word (codes "TIME") ++ last (decimal n)) 1
  times n low = of_one seed 84 (codes "IME") refl refl (omega arith) (decimal n) (line.Time n) (number_plain n low) (number_short n low) (time_by (decimal n) n (number_read n low)) (λ more. refl)

  recents : (n : ℕ) → 1 ≤ n → n ≤ 4 → Reads seed (recent n) 1
  recents n low high = of_one seed 82 (codes "ECENT") refl refl (omega arith) (decimal n) (line.Recent n) (number_plain n (omega (arith, high))) (number_short n (omega (arith, high)))
      (recent_by (decimal n) n (within_by 1 65536 n (decimal n) (plain_read n (omega (arith, high))) (and_from _ _ (le-leb 1 n low) (le-leb n 65536 (omega (arith, high)))))) (λ more. refl)

  stops : (n choice : ℕ) → 1 ≤ n → n ≤ 5 → choice < 2 ^ 64 → Reads seed (for_two (codes "STOP") (decimal n) (decimal choice)) 1
  stops n choice low high small = of_two seed 83 (codes "TOP") refl refl (omega arith) (decimal n) (decimal choice) (line.Stop n choice) (number_plain n (omega (arith, high))) (number_plain choice small)
      (number_short n (omega (arith, high))) (number_short choice small)
      (stop_by (decimal n) (decimal choice) n choice (within_by 1 5 n (decimal n) (plain_read n (omega (arith, high))) (and_from _ _ (le-leb 1 n low) (le-leb n 5 high))) (plain_read choice small)) (λ more. refl)

  stop_reads : (b c : ℕ) → b < 2 ^ 64 → Reads seed (stop b c) 2
  stop_reads b c small =
      reads_both seed (for_two (codes "STOP") (decimal (1 + c % 5)) (decimal b)) (recent 1) 1 1 (stops (1 + c % 5) b (omega arith) (omega arith) small) (recents 1 (omega arith) (omega arith))

-- ---- names and labels with a digit

record IsName (w : List ℕ) : Type 0 where
  name : KeyName
  named : key_name_of w ≡ Some name
  plain : are_plain w ≡ true
  short : length w ≤ 20

abbrev name_with : List ℕ → ℕ → List ℕ
name_with p n = p ++ codes "." ++ p ++ codes ".K1." ++ decimal n

record IsLabelled (w : List ℕ) : Type 0 where
  labelled : label_of w ≡ Some w
  plain : are_plain w ≡ true
  short : length w ≤ 20

label_at : (n : ℕ) → n < 10 → IsLabelled (codes "N" ++ decimal n)
unfolding digits
label_at zero low = record { labelled = refl; plain = refl; short = leb-true _ 20 refl }
label_at (suc zero) low = record { labelled = refl; plain = refl; short = leb-true _ 20 refl }
label_at (suc (suc zero)) low = record { labelled = refl; plain = refl; short = leb-true _ 20 refl }
label_at (suc (suc (suc zero))) low = record { labelled = refl; plain = refl; short = leb-true _ 20 refl }
label_at (suc (suc (suc (suc zero)))) low = record { labelled = refl; plain = refl; short = leb-true _ 20 refl }
label_at (suc (suc (suc (suc (suc zero))))) low = record { labelled = refl; plain = refl; short = leb-true _ 20 refl }
label_at (suc (suc (suc (suc (suc (suc zero)))))) low = record { labelled = refl; plain = refl; short = leb-true _ 20 refl }
label_at (suc (suc (suc (suc (suc (suc (suc zero))))))) low = record { labelled = refl; plain = refl; short = leb-true _ 20 refl }
label_at (suc (suc (suc (suc (suc (suc (suc (suc zero)))))))) low = record { labelled = refl; plain = refl; short = leb-true _ 20 refl }
label_at (suc (suc (suc (suc (suc (suc (suc (suc (suc zero))))))))) low = record { labelled = refl; plain = refl; short = leb-true _ 20 refl }
label_at (suc (suc (suc (suc (suc (suc (suc (suc (suc (suc n)))))))))) low = absurd (omega (arith, low))

-- the banks' names, and the counts from 1 to 8
name_at_a : (n : ℕ) → n < 8 → IsName (name_with (codes "BANKA") (1 + n))
unfolding digits
name_at_a zero low = record { name = _; named = refl; plain = refl; short = leb-true _ 20 refl }
name_at_a (suc zero) low = record { name = _; named = refl; plain = refl; short = leb-true _ 20 refl }
name_at_a (suc (suc zero)) low = record { name = _; named = refl; plain = refl; short = leb-true _ 20 refl }
name_at_a (suc (suc (suc zero))) low = record { name = _; named = refl; plain = refl; short = leb-true _ 20 refl }
name_at_a (suc (suc (suc (suc zero)))) low = record { name = _; named = refl; plain = refl; short = leb-true _ 20 refl }
name_at_a (suc (suc (suc (suc (suc zero))))) low = record { name = _; named = refl; plain = refl; short = leb-true _ 20 refl }
name_at_a (suc (suc (suc (suc (suc (suc zero)))))) low = record { name = _; named = refl; plain = refl; short = leb-true _ 20 refl }
name_at_a (suc (suc (suc (suc (suc (suc (suc zero))))))) low = record { name = _; named = refl; plain = refl; short = leb-true _ 20 refl }
name_at_a (suc (suc (suc (suc (suc (suc (suc (suc n)))))))) low = absurd (omega (arith, low))

name_at_b : (n : ℕ) → n < 8 → IsName (name_with (codes "BANKB") (1 + n))
unfolding digits
name_at_b zero low = record { name = _; named = refl; plain = refl; short = leb-true _ 20 refl }
name_at_b (suc zero) low = record { name = _; named = refl; plain = refl; short = leb-true _ 20 refl }
name_at_b (suc (suc zero)) low = record { name = _; named = refl; plain = refl; short = leb-true _ 20 refl }
name_at_b (suc (suc (suc zero))) low = record { name = _; named = refl; plain = refl; short = leb-true _ 20 refl }
name_at_b (suc (suc (suc (suc zero)))) low = record { name = _; named = refl; plain = refl; short = leb-true _ 20 refl }
name_at_b (suc (suc (suc (suc (suc zero))))) low = record { name = _; named = refl; plain = refl; short = leb-true _ 20 refl }
name_at_b (suc (suc (suc (suc (suc (suc zero)))))) low = record { name = _; named = refl; plain = refl; short = leb-true _ 20 refl }
name_at_b (suc (suc (suc (suc (suc (suc (suc zero))))))) low = record { name = _; named = refl; plain = refl; short = leb-true _ 20 refl }
name_at_b (suc (suc (suc (suc (suc (suc (suc (suc n)))))))) low = absurd (omega (arith, low))

name_at_c : (n : ℕ) → n < 8 → IsName (name_with (codes "BANKC") (1 + n))
unfolding digits
name_at_c zero low = record { name = _; named = refl; plain = refl; short = leb-true _ 20 refl }
name_at_c (suc zero) low = record { name = _; named = refl; plain = refl; short = leb-true _ 20 refl }
name_at_c (suc (suc zero)) low = record { name = _; named = refl; plain = refl; short = leb-true _ 20 refl }
name_at_c (suc (suc (suc zero))) low = record { name = _; named = refl; plain = refl; short = leb-true _ 20 refl }
name_at_c (suc (suc (suc (suc zero)))) low = record { name = _; named = refl; plain = refl; short = leb-true _ 20 refl }
name_at_c (suc (suc (suc (suc (suc zero))))) low = record { name = _; named = refl; plain = refl; short = leb-true _ 20 refl }
name_at_c (suc (suc (suc (suc (suc (suc zero)))))) low = record { name = _; named = refl; plain = refl; short = leb-true _ 20 refl }
name_at_c (suc (suc (suc (suc (suc (suc (suc zero))))))) low = record { name = _; named = refl; plain = refl; short = leb-true _ 20 refl }
name_at_c (suc (suc (suc (suc (suc (suc (suc (suc n)))))))) low = absurd (omega (arith, low))

name_at : (b n : ℕ) → n < 8 → IsName (name_with (bank b) (1 + n))
name_at zero n low = name_at_a n low
name_at (suc zero) n low = name_at_b n low
name_at (suc (suc b)) n low = name_at_c n low

-- ---- an event

module _ (seed : ℕ) where
  end_reads : (b : ℕ) (q : List ℕ) (c : ℕ) → Known seed q → Reads seed (end_of_key (bank b) q c) 1
  end_reads b q c h =
      let n = name_at b (c % 8) (omega arith) in
      subst (λ (t : List ℕ). Reads seed t 1) (pieces (word (codes "END")) (word (bank b)) (word q) (bank b) (codes ".") (codes ".K1.") (decimal (1 + c % 8)) (10 ∷ []))
      (ends seed (bank b) q (bank_known seed b) h (name_with (bank b) (1 + c % 8)) n.name n.plain n.short n.named)
    where
      pieces : (x y z p dot k d feed : List ℕ) → x ++ y ++ z ++ ((p ++ dot ++ p ++ k ++ d) ++ feed) ≡ x ++ y ++ z ++ p ++ dot ++ p ++ k ++ (d ++ feed)
      pieces x y z p dot k d feed = simp append_assoc

  start_kk_reads : (p q : List ℕ) (c : ℕ) → Known seed p → Known seed q → Reads seed (start_kk p q c) 1
  start_kk_reads p q c k h =
      let n = label_at (c % 10) (omega arith) in
      subst (λ (t : List ℕ). Reads seed t 1) (pieces (word (codes "STARTKK")) (word p) (word q) (word (codes "K1")) (codes "N") (decimal (c % 10)) (32 ∷ []) (last (codes "DOUBLE")))
      (starts_kk seed p q k h (codes "N" ++ decimal (c % 10)) n.plain n.short n.labelled)
    where
      pieces : (x y z u n d blank l : List ℕ) → x ++ y ++ z ++ u ++ ((n ++ d) ++ blank) ++ l ≡ x ++ y ++ z ++ u ++ n ++ (d ++ blank) ++ l
      pieces x y z u n d blank l = simp append_assoc

  act_reads : (a b c : ℕ) → b < 2 ^ 64 → Reads seed (act a b c) 2
  act_reads a b c small =
      let p = bank (b % 3) in
      let q = bank ((b + 1 + c % 2) % 3) in
      let k : Known seed p = bank_known seed (b % 3) in
      let h : Known seed q = bank_known seed ((b + 1 + c % 2) % 3) in
      let more = λ (t : List ℕ) (r : Reads seed t 1). reads_fewer seed t 1 2 (omega arith) r in
      reads_either seed (nat_lt (a % 16) 2) _ _ 2 (more _ (starts seed p q k h))
      (reads_either seed (a % 16 == 2) _ _ 2 (more _ (asks seed p q k h))
      (reads_either seed (a % 16 == 3) _ _ 2 (more _ (translates seed p q k h))
      (reads_either seed (a % 16 == 4) _ _ 2 (more _ (resends seed p q k h))
      (reads_either seed (a % 16 == 5) _ _ 2 (more _ (drops seed p q k h))
      (reads_either seed (a % 16 == 6) _ _ 2 (more _ (end_reads (b % 3) q c h))
      (reads_either seed (a % 16 == 7) _ _ 2 (more _ (purges seed p q k h))
      (reads_either seed (a % 16 == 8) _ _ 2 (more _ (start_kk_reads p q c k h))
      (reads_either seed (nat_lt (a % 16) 13) _ _ 2 (more _ (recents seed 1 (omega arith) (omega arith)))
      (reads_either seed (nat_lt (a % 16) 15) _ _ 2 (more _ (recents seed (1 + c % 4) (omega arith) (omega arith)))
      (stop_reads seed b c small))))))))))

  pub event_reads : (n a b c : ℕ) → n + 1 < 2 ^ 64 → b < 2 ^ 64 → Reads seed (event_with n a b c) 3
  unfolding event_with
  event_reads n a b c low small = reads_both seed (word (codes "TIME") ++ last (decimal (n + 1))) (act a b c) 1 2 (times seed (n + 1) low) (act_reads a b c small)
