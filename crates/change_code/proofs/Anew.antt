-- A party is made anew by the puts of its rows.
use Rattle.std.proofs.Common.{arith, ◌≡◌, ◌≤◌, ℕ, ◌+◌, Bool, true, false, cond, Some, None, List, [], ◌∷◌, ◌++◌, length, map, refl, sym, ap, subst, ◌∙◌, append_assoc, length-append, lit≤}
use Rattle.std.specs.Prelude.{bytes_eq}
use Rattle.std.specs.List.{All}
use Rattle.std.proofs.lemmas.List.{append-nil}
use Rattle.std.proofs.Math.Nat.{le_refl}
use Rattle.std.proofs.lemmas.List.Elements.{All-map, All-append, All-nil, All-cons}
use Rattle.party_tables.specs.declared.link.LinkRec.{LinkRec}
use Rattle.party_tables.specs.declared.key.KeyRec.{KeyRec}
use Rattle.party_tables.specs.declared.exchange.Exchange.{Exchange}
use Rattle.party_tables.specs.declared.answer.Answer.{Answer}
use Rattle.party_state.specs.declared.edit.Edit.{Edit}
use Rattle.party_state.specs.declared.edit.Edit.TheVariants.{PutLink, PutKey, PutExchange, PutAnswer}
use Rattle.party_tables.specs.Tables.{find_row, put_row, Distinct}
use Rattle.party_tables.specs.Keys.{same_link, same_record, same_answer, link_key, record_key, exchange_key, answer_key}
use Rattle.party_state.specs.Ranges.{InRange, AreInRange, IsNoBegin, HasNoBegin, IsParty}
use Rattle.party_state.specs.Limits.{most_links, most_keys, IsWithinLimits, StaysWithinLimits}
use Rattle.party_state.specs.State.{Party, begun, apply, apply_edit}
use Rattle.party_tables.proofs.Tables.{IsTest}
use Rattle.party_tables.proofs.Keys.{test_idents, test_links, test_records, test_answers}
use Rattle.party_state.proofs.Editing.{apply_append}
use Rattle.change_code.specs.declared.format.Format.{Format}
use Rattle.change_code.specs.Code.{IsCode, most_edits}
use Rattle.change_code.specs.Whole.{row_edits, whole_edits, whole_of}

-- a key that isn't found among rows is none of theirs
none_of : {R K : Type 0} (key : R → K) (same : K → K → Bool) (k : K) (front : List R) (x : R) (rest : List R) → find_row key same k (front ++ x ∷ rest) ≡ None → same k (key x) ≡ false
none_of {R} key same k [] x rest absent = go (same k (key x)) refl absent
  where
    go : (b : Bool) → same k (key x) ≡ b → cond b (Some x) (find_row key same k rest) ≡ None → b ≡ false
    go true b= h = absurd (cc)
    go false b= h = refl
none_of {R} key same k (r ∷ front) x rest absent = go (same k (key r)) absent (none_of key same k front x rest)
  where
    go : (b : Bool) → cond b (Some r) (find_row key same k (front ++ x ∷ rest)) ≡ None → (find_row key same k (front ++ x ∷ rest) ≡ None → same k (key x) ≡ false) → same k (key x) ≡ false
    go true h ih = absurd (cc)
    go false h ih = ih h

-- a row whose key the rows before don't have is put behind them
pub put_behind : {R K : Type 0} (key : R → K) (same : K → K → Bool) → IsTest same → (front : List R) (x : R) (rest : List R) → Distinct key same (front ++ x ∷ rest) → put_row key same x front ≡ front ++ x ∷ []
put_behind key same law [] x rest d = refl
put_behind {R} {K} key same law (r ∷ front) x rest d = go (same (key x) (key r)) refl (put_behind key same law front x rest d.1)
  where
    go : (b : Bool) → same (key x) (key r) ≡ b → put_row key same x front ≡ front ++ x ∷ [] → cond b (x ∷ front) (r ∷ put_row key same x front) ≡ r ∷ (front ++ x ∷ [])
    go true b= ih = let i : key x ≡ key r = (law.decides (key x) (key r)).0 b= in let m : same (key r) (key x) ≡ true = (law.decides (key r) (key x)).1 (sym i) in let n : same (key r) (key x) ≡ false = none_of key same (key r) front x rest d.0 in absurd (cc)
    go false b= ih = ap (λ (l : List R). r ∷ l) ih

-- a table of a party, and the edit that puts a row of it
record Column {R K : Type 0} (key : R → K) (same : K → K → Bool) (put : R → Edit) (at : List R → Party) : Type 0 where
  law : IsTest same
  puts : (x : R) (rows : List R) → apply_edit (put x) (at rows) ≡ at (put_row key same x rows)

-- the row goes behind those before it
behind : {R K : Type 0} (key : R → K) (same : K → K → Bool) (put : R → Edit) (at : List R → Party) → Column key same put at
    → (front : List R) (x : R) (rest : List R) → Distinct key same (front ++ x ∷ rest) → apply_edit (put x) (at front) ≡ at (front ++ x ∷ [])
behind key same put at c front x rest d = c.puts x front ∙ ap at (put_behind key same c.law front x rest d)

-- the puts of the rows give the table
column : {R K : Type 0} (key : R → K) (same : K → K → Bool) (put : R → Edit) (at : List R → Party) → Column key same put at
    → (front rows : List R) → Distinct key same (front ++ rows) → apply (map put rows) (at front) ≡ at (front ++ rows)
column key same put at c front [] d = ap at (sym (append-nil front))
column {R} key same put at c front (x ∷ rows) d =
    let same_rows : (front ++ x ∷ []) ++ rows ≡ front ++ x ∷ rows = append_assoc front (x ∷ []) rows in
    ap (apply (map put rows)) (behind key same put at c front x rows d)
    ∙ (column key same put at c (front ++ x ∷ []) rows (subst (Distinct key same) (sym same_rows) d) ∙ ap at same_rows)

-- and pass no limit
column_stays : {R K : Type 0} (key : R → K) (same : K → K → Bool) (put : R → Edit) (at : List R → Party) → Column key same put at
    → (most : ℕ) → ((rows : List R) → length rows ≤ most → IsWithinLimits (at rows)) → (front rows : List R) → Distinct key same (front ++ rows) → length (front ++ rows) ≤ most → StaysWithinLimits (map put rows) (at front)
column_stays key same put at c most within front [] d few = tt
column_stays {R} key same put at c most within front (x ∷ rows) d few =
    let same_rows : (front ++ x ∷ []) ++ rows ≡ front ++ x ∷ rows = append_assoc front (x ∷ []) rows in
    let one : apply_edit (put x) (at front) ≡ at (front ++ x ∷ []) = behind key same put at c front x rows d in
    let more : length (front ++ x ∷ []) ≤ most = fewer same_rows in (
      subst IsWithinLimits (sym one) (within (front ++ x ∷ []) more),
      subst (StaysWithinLimits (map put rows)) (sym one) (column_stays key same put at c most within (front ++ x ∷ []) rows (subst (Distinct key same) (sym same_rows) d) (subst (λ (l : List R). length l ≤ most) (sym same_rows) few)),
    )
  where
    fewer : (front ++ x ∷ []) ++ rows ≡ front ++ x ∷ rows → length (front ++ x ∷ []) ≤ most
    fewer is = let all : length ((front ++ x ∷ []) ++ rows) ≡ length (front ++ x ∷ []) + length rows = length-append (front ++ x ∷ []) rows in let e : length ((front ++ x ∷ []) ++ rows) ≡ length (front ++ x ∷ rows) = ap length is in omega (arith, all, e, few)

pub stays_on : (es fs : List Edit) (p : Party) → StaysWithinLimits es p → StaysWithinLimits fs (apply es p) → StaysWithinLimits (es ++ fs) p
stays_on [] fs p first second = second
stays_on (e ∷ es) fs p first second = (first.0, stays_on es fs (apply_edit e p) first.1 second)

-- what holds of every value holds of each element
every : {A : Type 0} {P : A → Type 0} → ((x : A) → P x) → (xs : List A) → All P xs
every {A} {P} h [] = All-nil P
every {A} {P} h (x ∷ xs) = All-cons P x xs (h x) (every h xs)

-- the four tables of a party, each filled behind those before it
module _ (p : Party) where
  abbrev linked : List LinkRec → Party
  linked rows = record { own = p.own; role = p.role; generator = p.generator; links = rows; keys = []; exchanges = []; answers = [] }

  abbrev keyed : List KeyRec → Party
  keyed rows = record { own = p.own; role = p.role; generator = p.generator; links = p.links; keys = rows; exchanges = []; answers = [] }

  abbrev exchanging : List Exchange → Party
  exchanging rows = record { own = p.own; role = p.role; generator = p.generator; links = p.links; keys = p.keys; exchanges = rows; answers = [] }

  abbrev answering : List Answer → Party
  answering rows = record { own = p.own; role = p.role; generator = p.generator; links = p.links; keys = p.keys; exchanges = p.exchanges; answers = rows }

  link_column : Column link_key same_link (λ x. PutLink x) linked
  link_column = record { law = test_links; puts = λ x rows. refl }

  key_column : Column record_key same_record (λ x. PutKey x) keyed
  key_column = record { law = test_records; puts = λ x rows. refl }

  exchange_column : Column exchange_key bytes_eq (λ x. PutExchange x) exchanging
  exchange_column = record { law = test_idents; puts = λ x rows. refl }

  answer_column : Column answer_key same_answer (λ x. PutAnswer x) answering
  answer_column = record { law = test_answers; puts = λ x rows. refl }

  after_links : IsParty p → apply (map (λ x. PutLink x) p.links) (linked []) ≡ keyed []
  after_links is = column link_key same_link (λ x. PutLink x) linked link_column [] p.links is.links_once

  after_keys : IsParty p → apply (map (λ x. PutKey x) p.keys) (keyed []) ≡ exchanging []
  after_keys is = column record_key same_record (λ x. PutKey x) keyed key_column [] p.keys is.keys_once

  after_exchanges : IsParty p → apply (map (λ x. PutExchange x) p.exchanges) (exchanging []) ≡ answering []
  after_exchanges is = column exchange_key bytes_eq (λ x. PutExchange x) exchanging exchange_column [] p.exchanges is.exchanges_once

  after_answers : IsParty p → apply (map (λ x. PutAnswer x) p.answers) (answering []) ≡ p
  after_answers is = column answer_key same_answer (λ x. PutAnswer x) answering answer_column [] p.answers is.answers_once

  -- the puts of the rows make the party
  pub anew : IsParty p → apply (row_edits p) (begun p.own p.role p.generator) ≡ p
  anew is =
      apply_append (map (λ x. PutLink x) p.links) _ (linked [])
      ∙ (ap (apply (map (λ x. PutKey x) p.keys ++ (map (λ x. PutExchange x) p.exchanges ++ map (λ x. PutAnswer x) p.answers))) (after_links is)
      ∙ (apply_append (map (λ x. PutKey x) p.keys) _ (keyed [])
      ∙ (ap (apply (map (λ x. PutExchange x) p.exchanges ++ map (λ x. PutAnswer x) p.answers)) (after_keys is)
      ∙ (apply_append (map (λ x. PutExchange x) p.exchanges) _ (exchanging [])
      ∙ (ap (apply (map (λ x. PutAnswer x) p.answers)) (after_exchanges is) ∙ after_answers is)))))

  -- and they pass no limit where the party doesn't
  pub rows_stay : IsParty p → IsWithinLimits p → StaysWithinLimits (row_edits p) (begun p.own p.role p.generator)
  rows_stay is within =
      stays_on (map (λ x. PutLink x) p.links) _ (linked [])
      (column_stays link_key same_link (λ x. PutLink x) linked link_column most_links (λ rows few. record { links = few; keys = lit≤ tt }) [] p.links is.links_once within.links)
      (subst (StaysWithinLimits (map (λ x. PutKey x) p.keys ++ (map (λ x. PutExchange x) p.exchanges ++ map (λ x. PutAnswer x) p.answers))) (sym (after_links is))
      (stays_on (map (λ x. PutKey x) p.keys) _ (keyed [])
      (column_stays record_key same_record (λ x. PutKey x) keyed key_column most_keys (λ rows few. record { links = within.links; keys = few }) [] p.keys is.keys_once within.keys)
      (subst (StaysWithinLimits (map (λ x. PutExchange x) p.exchanges ++ map (λ x. PutAnswer x) p.answers)) (sym (after_keys is))
      (stays_on (map (λ x. PutExchange x) p.exchanges) _ (exchanging [])
      (column_stays exchange_key bytes_eq (λ x. PutExchange x) exchanging exchange_column (length p.exchanges) (λ rows few. record { links = within.links; keys = within.keys }) [] p.exchanges is.exchanges_once (le_refl _))
      (subst (StaysWithinLimits (map (λ x. PutAnswer x) p.answers)) (sym (after_exchanges is))
      (column_stays answer_key same_answer (λ x. PutAnswer x) answering answer_column (length p.answers) (λ rows few. record { links = within.links; keys = within.keys }) [] p.answers is.answers_once (le_refl _)))))))

  -- none of them begins another party
  pub rows_go_on : HasNoBegin (row_edits p)
  rows_go_on =
      All-append IsNoBegin _ _ (All-map IsNoBegin (λ x. PutLink x) p.links (every (λ x. tt) p.links))
      (All-append IsNoBegin _ _ (All-map IsNoBegin (λ x. PutKey x) p.keys (every (λ x. tt) p.keys))
      (All-append IsNoBegin _ _ (All-map IsNoBegin (λ x. PutExchange x) p.exchanges (every (λ x. tt) p.exchanges))
      (All-map IsNoBegin (λ x. PutAnswer x) p.answers (every (λ x. tt) p.answers))))

  -- each part of the change is in its range
  pub whole_in_range : IsParty p → AreInRange (whole_edits p)
  whole_in_range is =
      All-cons InRange _ _ (is.own, is.generator)
      (All-append InRange _ _ (All-map InRange (λ x. PutLink x) p.links is.links)
      (All-append InRange _ _ (All-map InRange (λ x. PutKey x) p.keys is.keys)
      (All-append InRange _ _ (All-map InRange (λ x. PutExchange x) p.exchanges is.exchanges)
      (All-map InRange (λ x. PutAnswer x) p.answers is.answers))))

-- and it is a code where it has few enough edits
pub whole_is_code : (format : Format) (p : Party) (edits : ℕ) → IsParty p → edits ≡ length (whole_edits p) → (edits ≤ most_edits) → IsCode format (whole_of format p) (whole_edits p)
whole_is_code format p edits is count few = record { few = subst (λ (n : ℕ). n ≤ most_edits) count few; in_range = whole_in_range p is; is = refl }
