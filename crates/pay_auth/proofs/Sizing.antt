-- The length of a body, and how many entries there are after a put.
use Rattle.std.proofs.Common.{◌≡◌, ℕ, suc, ◌+◌, ◌*◌, ◌≤◌, ◌<◌, nat_le, ◌&&◌, Bool, true, false, List, [], ◌∷◌, ◌++◌, length, Some, Result, Ok, Err, IfOk, OnOk, OnErr, refl, sym, ap, ◌∙◌, subst, arith, length-append, lit≤, zero, drop, get_or, add-one}
use Rattle.std.specs.Prelude.{cond, is_none, IsTrue}
use Rattle.std.specs.List.{All}
use Rattle.std.proofs.lemmas.List.Elements.{All-nil, All-cons, All-head, All-tail}
use Rattle.std.proofs.lemmas.Bool.{and_parts, leb-true}
use Rattle.x_base.specs.Names.{is_name}
use Rattle.x_base.specs.declared.party.Side.{Side}
use Rattle.x_base.specs.declared.party.Side.TheVariants.{Sends, Takes}
use Rattle.key_journal.specs.Journal.{IsBody}
use Rattle.change_code.specs.Code.{two, eight, short, name_code, side_code}
use Rattle.change_code.proofs.Numbers.{two_long, eight_long}
use Rattle.party_tables.specs.Tables.{put_row}
use Rattle.pay_auth.specs.declared.entry.Entry.{Entry}
use Rattle.pay_auth.specs.declared.entry.EntryKey.{EntryKey}
use Rattle.pay_auth.specs.Entries.{entry_key, same_entry, put_entry, put_entries, entry_with, is_full_for, most_entries, IsEntry}
use Rattle.pay_auth.specs.Bodies.{entry_code, entries_code, body_of, IsLedgerBody, PutsBody}
use Rattle.pay_auth.specs.EntryLaws.{one_list}

name_short : (low : ℕ) (bytes : List ℕ) → IsTrue (is_name low 16 bytes) → length bytes ≤ 16
name_short low bytes h = grind arith

side_one : (s : Side) → length (side_code s) ≡ 1
side_one Sends = refl
side_one Takes = refl

entry_short : (e : Entry) → IsEntry e → length (entry_code e) ≤ 85
entry_short e is =
    let peer = name_short 4 e.peer is.peer in
    let issuer = name_short 4 e.name.issuer is.name.issuer in
    let originator = name_short 4 e.name.originator is.name.originator in
    let label = name_short 1 e.name.label is.name.label in
    omega (
      arith,
      peer,
      issuer,
      originator,
      label,
      eight_long e.name.count,
      eight_long e.last,
      side_one e.side,
      length-append e.peer (name_code e.name ++ (side_code e.side ++ eight e.last)),
      length-append (name_code e.name) (side_code e.side ++ eight e.last),
      length-append (side_code e.side) (eight e.last),
      length-append e.name.issuer (short e.name.originator ++ (short e.name.label ++ eight e.name.count)),
      length-append e.name.originator (short e.name.label ++ eight e.name.count),
      length-append e.name.label (eight e.name.count),
    )

entries_short : (es : List Entry) → All IsEntry es → length (entries_code es) ≤ 85 * length es
entries_short [] all = omega arith
entries_short (e ∷ es) all =
    omega (arith, length-append (entry_code e) (entries_code es), entry_short e (All-head IsEntry e es all), entries_short es (All-tail IsEntry e es all))

body_long : (es : List Entry) → length (body_of es) ≡ 3 + length (entries_code es)
body_long es = omega (arith, length-append (two (length es)) (entries_code es), two_long (length es))

pub body_small : (es : List Entry) → All IsEntry es → length es ≤ most_entries → IsBody (body_of es)
body_small es all few = record { some = omega (arith, body_long es); small = omega (arith, body_long es, entries_short es all, few) }

pub one_small : (e : Entry) → IsEntry e → IsBody (body_of (e ∷ []))
one_small e is = body_small (e ∷ []) (All-cons IsEntry e [] is (All-nil IsEntry)) (lit≤ tt)

-- an entry that is put in place of another, or behind the others
found_by : (b : Bool) (e f : Entry) (entries : List Entry) → (is_none (entry_with (entry_key e) entries) ≡ false → length (put_entry e entries) ≡ length entries)
    → is_none (cond b (Some f) (entry_with (entry_key e) entries)) ≡ false → length (cond b (e ∷ entries) (f ∷ put_entry e entries)) ≡ suc (length entries)
found_by true e f entries on found = refl
found_by false e f entries on found = ap suc (on found)

put_found : (e : Entry) (entries : List Entry) → is_none (entry_with (entry_key e) entries) ≡ false → length (put_entry e entries) ≡ length entries
put_found e [] found = let both : true ≡ false = found in absurd (cc both)
put_found e (f ∷ entries) found = found_by (same_entry (entry_key e) (entry_key f)) e f entries (put_found e entries) found

new_by : (b : Bool) (e f : Entry) (entries : List Entry) → (is_none (entry_with (entry_key e) entries) ≡ true → length (put_entry e entries) ≡ suc (length entries))
    → is_none (cond b (Some f) (entry_with (entry_key e) entries)) ≡ true → length (cond b (e ∷ entries) (f ∷ put_entry e entries)) ≡ suc (suc (length entries))
new_by true e f entries on none = let both : false ≡ true = none in absurd (cc both)
new_by false e f entries on none = ap suc (on none)

put_new : (e : Entry) (entries : List Entry) → is_none (entry_with (entry_key e) entries) ≡ true → length (put_entry e entries) ≡ suc (length entries)
put_new e [] none = refl
put_new e (f ∷ entries) none = new_by (same_entry (entry_key e) (entry_key f)) e f entries (put_new e entries) none

not_le : (a b : ℕ) → nat_le a b ≡ false → b < a
not_le a b is = grind arith

pub put_within : (e : Entry) (entries : List Entry) → is_full_for (entry_key e) entries ≡ false → length entries ≤ most_entries → length (put_entry e entries) ≤ most_entries
put_within e entries place few = by_test (is_none (entry_with (entry_key e) entries)) refl place
  where
    by_test : (b : Bool) → is_none (entry_with (entry_key e) entries) ≡ b → (b && nat_le most_entries (length entries)) ≡ false → length (put_entry e entries) ≤ most_entries
    by_test false found bad = omega (arith, put_found e entries found, few)
    by_test true none bad = omega (arith, put_new e entries none, few, not_le most_entries (length entries) bad)

put_grows : (e : Entry) (entries : List Entry) → length entries ≤ length (put_entry e entries)
put_grows e entries = by_test (is_none (entry_with (entry_key e) entries)) refl
  where
    by_test : (b : Bool) → is_none (entry_with (entry_key e) entries) ≡ b → length entries ≤ length (put_entry e entries)
    by_test false found = omega (arith, put_found e entries found)
    by_test true none = omega (arith, put_new e entries none)

pub puts_grow : (es entries : List Entry) → length entries ≤ length (put_entries es entries)
puts_grow [] entries = omega arith
puts_grow (e ∷ es) entries = omega (arith, put_grows e entries, puts_grow es (put_entry e entries))

-- an entry without a place passes the limit
pub put_beyond : (e : Entry) (es entries : List Entry) → is_full_for (entry_key e) entries ≡ true → most_entries < length (put_entries (e ∷ es) entries)
put_beyond e es entries full =
    let parts = and_parts (is_none (entry_with (entry_key e) entries)) (nat_le most_entries (length entries)) full in
    omega (arith, leb-true most_entries (length entries) parts.1, put_new e entries parts.0, puts_grow es (put_entry e entries))

-- how many entries there are behind a put by an equal test, or where memory was wanting
pub put_sized : {E : Type 0} (test : EntryKey → EntryKey → Bool) → ((a b : EntryKey) → test a b ≡ same_entry a b) → (e : Entry) (old new : List Entry) (result : Result Unit E)
    → OnOk result (new ≡ put_row entry_key test e old) → OnErr result (new ≡ old) → is_full_for (entry_key e) old ≡ false → length old ≤ most_entries → length new ≤ most_entries
put_sized test alike e old new (Ok u) put kept place few = subst (λ (l : List Entry). length l ≤ most_entries) (sym (put ∙ (λ i. put_row entry_key (λ a b. alike a b i) e old))) (put_within e old place few)
put_sized test alike e old new (Err f) put kept place few = subst (λ (l : List Entry). length l ≤ most_entries) (sym kept) few

-- an entry of a list, and those behind it
pub drop_at : (es : List Entry) (i : ℕ) (e : Entry) → i < length es → e ≡ get_or es i e → drop i es ≡ e ∷ drop (i + 1) es
drop_at es i e few is = rw add-one (go es i few is)
  where
    go : (es : List Entry) (i : ℕ) → i < length es → e ≡ get_or es i e → drop i es ≡ e ∷ drop (suc i) es
    go [] i few is = absurd (omega (arith, few))
    go (f ∷ es) zero few is = ap (λ (x : Entry). x ∷ es) (sym is)
    go (f ∷ es) (suc i) few is = go es i (omega (arith, few)) is

pub puts_beyond : (all es now : List Entry) (i : ℕ) (e : Entry) (key : EntryKey) (full : Bool) → put_entries (drop i es) now ≡ all → i < length es → e ≡ get_or es i e
    → key ≡ entry_key e → full ≡ is_full_for key now → full ≡ true → most_entries < length all
puts_beyond all es now i e key full whole few is key_is test set =
    let at = drop_at es i e few is in
    let beyond = put_beyond e (drop (i + 1) es) now (ap (λ (k : EntryKey). is_full_for k now) (sym key_is) ∙ (sym test ∙ set)) in
    subst (λ (l : List Entry). most_entries < length l) (ap (λ (l : List Entry). put_entries l now) (sym at) ∙ whole) beyond

-- what became of the entries of a body that were put
pub goes_no : {E : Type 0} (body : List ℕ) (entries items old : List Entry) (result : Result Bool E) → IsLedgerBody body items → entries ≡ items → IfOk result (λ goes. goes ≡ false → most_entries < length (put_entries entries old))
    → IfOk result (λ goes. goes ≡ false → (next : List Entry) → PutsBody body old next → ⊥)
goes_no body entries items old (Ok goes) is same put = λ stops next puts.
    let one : items ≡ puts.entries = one_list body items puts.entries is puts.body in
    let size : length (put_entries entries old) ≡ length next = ap length (ap (λ (l : List Entry). put_entries l old) (same ∙ one) ∙ sym puts.after) in
    omega (arith, put stops, puts.within, size)
goes_no body entries items old (Err e) is same put = tt
