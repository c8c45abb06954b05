-- Entries are made anew by their puts, and what a put leaves under each key.
use Rattle.std.proofs.Common.{◌≡◌, ◌≤◌, Bool, true, false, cond, Some, List, [], ◌∷◌, ◌++◌, refl, sym, ap, ◌∙◌, subst, arith, append_assoc, append-nil}
use Rattle.std.specs.Cmp.Lexicographic.{bytes_decides}
use Rattle.std.proofs.lemmas.Bool.Decides.{Decides-and, Decides-like}
use Rattle.party_tables.specs.Tables.{Distinct}
use Rattle.party_tables.proofs.Tables.{IsTest, find_put}
use Rattle.party_tables.proofs.Keys.{test_names, test_sides}
use Rattle.change_code.proofs.Anew.{put_behind}
use Rattle.pay_auth.specs.declared.entry.Entry.{Entry}
use Rattle.pay_auth.specs.declared.entry.EntryKey.{EntryKey}
use Rattle.pay_auth.specs.Entries.{entry_key, same_entry, put_entry, put_entries, entry_with, number_in, last_number}

pub test_entries : IsTest same_entry
test_entries = record { decides = λ a b. Decides-like (same_entry a b) (λ h i. record { peer = h.0 i; name = h.1.0 i; side = h.1.1 i }) (λ h. (ap (λ (k : EntryKey). k.peer) h, (ap (λ (k : EntryKey). k.name) h, ap (λ (k : EntryKey). k.side) h))) (Decides-and _ _ (bytes_decides a.peer b.peer) (Decides-and _ _ (test_names.decides a.name b.name) (test_sides.decides a.side b.side))) }

puts_behind : (front entries : List Entry) → Distinct entry_key same_entry (front ++ entries) → put_entries entries front ≡ front ++ entries
puts_behind front [] d = sym (append-nil front)
puts_behind front (e ∷ entries) d =
    let same : (front ++ e ∷ []) ++ entries ≡ front ++ e ∷ entries = append_assoc front (e ∷ []) entries in
    ap (put_entries entries) (put_behind entry_key same_entry test_entries front e entries d)
    ∙ (puts_behind (front ++ e ∷ []) entries (subst (Distinct entry_key same_entry) (sym same) d) ∙ same)

pub puts_anew : (entries : List Entry) → Distinct entry_key same_entry entries → entries ≡ put_entries entries []
puts_anew entries d = sym (puts_behind [] entries d)

-- a number that isn't below the last one under its own key lowers none
pub last_grows : (k : EntryKey) (e : Entry) (entries : List Entry) → last_number (entry_key e) entries ≤ e.last → last_number k entries ≤ last_number k (put_entry e entries)
last_grows k e entries low = by_test (same_entry k (entry_key e)) refl (find_put entry_key same_entry test_entries k e entries)
  where
    by_test : (b : Bool) → same_entry k (entry_key e) ≡ b → entry_with k (put_entry e entries) ≡ cond b (Some e) (entry_with k entries) → last_number k entries ≤ last_number k (put_entry e entries)
    by_test true same found =
        let is : k ≡ entry_key e = (test_entries.decides k (entry_key e)).0 same in
        let now : last_number k (put_entry e entries) ≡ e.last = ap number_in found in
        let was : last_number k entries ≡ last_number (entry_key e) entries = ap (λ (j : EntryKey). last_number j entries) is in
        omega (arith, low, now, was)
    by_test false other found = let now : last_number k (put_entry e entries) ≡ last_number k entries = ap number_in found in omega (arith, now)

-- under its own key it is the last
pub last_put : (e : Entry) (entries : List Entry) → last_number (entry_key e) (put_entry e entries) ≡ e.last
last_put e entries =
    ap number_in
    (find_put entry_key same_entry test_entries (entry_key e) e entries
    ∙ ap (λ (b : Bool). cond b (Some e) (entry_with (entry_key e) entries)) ((test_entries.decides (entry_key e) (entry_key e)).1 refl))
