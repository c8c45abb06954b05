-- The length of the code of a change.
use Rattle.std.proofs.Common.{◌≡◌, ℕ, suc, ◌+◌, ◌*◌, ◌≤◌, ◌∷◌, ◌++◌, List, [], length, Some, None, Bool, true, false, arith, length-append, lit≤}
use Rattle.std.proofs.lemmas.List.Elements.{All-head, All-tail}
use Rattle.x_base.specs.Names.{is_name}
use Rattle.x_base.specs.KeyName.{IsKeyName}
use Rattle.x_base.specs.declared.key_name.KeyName.{KeyName}
use Rattle.x_base.specs.declared.party.Role.{Role}
use Rattle.x_base.specs.declared.party.Role.TheVariants as role
use Rattle.x_base.specs.declared.party.Side.{Side}
use Rattle.x_base.specs.declared.party.Side.TheVariants.{Sends, Takes}
use Rattle.x_mac.specs.declared.pair.Pair.{Pair}
use Rattle.party_tables.specs.declared.link.LinkRec.{LinkRec}
use Rattle.party_tables.specs.declared.key.KeyRec.{KeyRec}
use Rattle.party_tables.specs.declared.key.KeyStatus.{KeyStatus}
use Rattle.party_tables.specs.declared.key.KeyStatus.TheVariants.{Pending, Live, Held, Closing, Ended}
use Rattle.party_tables.specs.declared.exchange.Via.{Via}
use Rattle.party_tables.specs.declared.exchange.Via.TheVariants as via
use Rattle.party_tables.specs.declared.exchange.Kind.{Kind}
use Rattle.party_tables.specs.declared.exchange.Kind.TheVariants as kind
use Rattle.party_tables.specs.declared.exchange.Exchange.{Exchange}
use Rattle.party_tables.specs.declared.answer.Answer.{Answer}
use Rattle.party_state.specs.declared.edit.Edit.{Edit}
use Rattle.party_state.specs.declared.edit.Edit.TheVariants.{Begin, PutLink, DropLink, PutKey, DropEnded, PutExchange, DropExchange, PutAnswer, SetGen}
use Rattle.party_tables.specs.Ranges.{IsLink, IsRecord, IsVia, IsKind, IsExchange, IsCentreAnswer, longest_text}
use Rattle.party_state.specs.Ranges.{InRange, AreInRange}
use Rattle.change_code.specs.declared.format.Format.{Format}
use Rattle.change_code.specs.Code.{two, eight, short, name_code, pair_code, role_code, side_code, status_code, flag_code, link_code, key_code, via_code, kind_code, exchange_code, answer_code, edit_code, edits_code, change_text, number_of, closing, code_of_change, head_length, end_length, longest_edit}
use Rattle.change_code.proofs.Numbers.{two_long, eight_long}
use Rattle.change_code.proofs.Closings.{closing_long}

-- so many bytes at most
record Within (n : ℕ) (bytes : List ℕ) : Type 0 where
  most : length bytes ≤ n

join : (m n : ℕ) (a b : List ℕ) → Within m a → Within n b → Within (m + n) (a ++ b)
join m n a b h k = record { most = let both = length-append a b in omega (arith, both, h.most, k.most) }

tagged : (n byte : ℕ) (a : List ℕ) → Within n a → Within (1 + n) (byte ∷ a)
tagged n byte a h = record { most = omega (arith, h.most) }

more : (m n : ℕ) (a : List ℕ) → Within m a → m ≤ n → Within n a
more m n a h le = record { most = omega (arith, h.most, le) }

name_bytes : (low : ℕ) (bytes : List ℕ) → is_name low 16 bytes ≡ true → length bytes ≤ 16
name_bytes low bytes h = grind arith

short_name : (low : ℕ) (bytes : List ℕ) → is_name low 16 bytes ≡ true → Within 17 (short bytes)
short_name low bytes h = record { most = let k = name_bytes low bytes h in omega (arith, k) }

two_bytes : (n : ℕ) → Within 2 (two n)
two_bytes n = record { most = let e = two_long n in omega (arith, e) }

eight_bytes : (n : ℕ) → Within 8 (eight n)
eight_bytes n = record { most = let e = eight_long n in omega (arith, e) }

name_short : (n : KeyName) → IsKeyName n → Within 59 (name_code n)
name_short n h = join 17 42 _ _ (short_name 4 n.issuer h.issuer) (join 17 25 _ _ (short_name 4 n.originator h.originator) (join 17 8 _ _ (short_name 1 n.label h.label) (eight_bytes n.count)))

pair_short : (p : Pair) → Within 16 (pair_code p)
pair_short p = join 8 8 _ _ (eight_bytes p.left) (eight_bytes p.right)

role_short : (r : Role) → Within 1 (role_code r)
role_short role.Bank = record { most = lit≤ tt }
role_short role.Distribution = record { most = lit≤ tt }
role_short role.Translation = record { most = lit≤ tt }

side_short : (s : Side) → Within 1 (side_code s)
side_short Sends = record { most = lit≤ tt }
side_short Takes = record { most = lit≤ tt }

status_short : (s : KeyStatus) → Within 1 (status_code s)
status_short Pending = record { most = lit≤ tt }
status_short Live = record { most = lit≤ tt }
status_short Held = record { most = lit≤ tt }
status_short Closing = record { most = lit≤ tt }
status_short Ended = record { most = lit≤ tt }

flag_short : (b : Bool) → Within 1 (flag_code b)
flag_short true = record { most = lit≤ tt }
flag_short false = record { most = lit≤ tt }

link_short : (l : LinkRec) → IsLink l → Within 60 (link_code l)
link_short l h = join 17 43 _ _ (short_name 4 l.peer h.peer) (join 17 26 _ _ (short_name 1 l.label h.label) (join 1 25 _ _ (side_short l.side) (join 16 9 _ _ (pair_short l.pair) (join 8 1 _ _ (eight_bytes l.next) (flag_short l.ready)))))

key_short : (k : KeyRec) → IsRecord k → Within 85 (key_code k)
key_short k h = join 17 68 _ _ (short_name 4 k.peer h.peer) (join 59 9 _ _ (name_short k.name h.name) (join 8 1 _ _ (eight_bytes k.value) (status_short k.status)))

via_short : (v : Via) → IsVia v → Within 36 (via_code v)
via_short (via.Direct label None) h = more 19 36 _ (tagged 18 1 _ (join 17 1 _ _ (short_name 1 label h.0) (record { most = lit≤ tt }))) (lit≤ tt)
via_short (via.Direct label (Some new)) h = tagged 35 1 _ (join 17 18 _ _ (short_name 1 label h.0) (tagged 17 1 _ (short_name 1 new h.1)))
via_short (via.Distribution centre cta) h = more 26 36 _ (tagged 25 2 _ (join 17 8 _ _ (short_name 4 centre h.0) (eight_bytes cta))) (lit≤ tt)
via_short (via.Translation centre) h = more 18 36 _ (tagged 17 3 _ (short_name 4 centre h)) (lit≤ tt)

kind_short : (k : Kind) → IsKind k → Within 96 (kind_code k)
kind_short (kind.Asked ultimate) h = more 18 96 _ (tagged 17 1 _ (short_name 4 ultimate h)) (lit≤ tt)
kind_short (kind.Translating ultimate value cta) h = more 34 96 _ (tagged 33 2 _ (join 17 16 _ _ (short_name 4 ultimate h.0) (join 8 8 _ _ (eight_bytes value) (eight_bytes cta)))) (lit≤ tt)
kind_short (kind.KeySent name v) h = tagged 95 3 _ (join 59 36 _ _ (name_short name h.0) (via_short v h.1))
kind_short (kind.Ending name) h = more 60 96 _ (tagged 59 4 _ (name_short name h)) (lit≤ tt)
kind_short (kind.PairSent name) h = more 60 96 _ (tagged 59 5 _ (name_short name h.0)) (lit≤ tt)

exchange_short : (e : Exchange) → IsExchange e → Within 1139 (exchange_code e)
exchange_short e h = join 17 1122 _ _ (short_name 4 e.peer h.peer) (join 96 1026 _ _ (kind_short e.kind h.kind) (join 2 longest_text _ _ (two_bytes (length e.text)) (record { most = h.text })))

answer_short : (a : Answer) → IsCentreAnswer a → Within 50 (answer_code a)
answer_short a h = join 17 33 _ _ (short_name 4 a.requester h.requester) (join 17 16 _ _ (short_name 4 a.ultimate h.ultimate) (join 8 8 _ _ (eight_bytes a.cta) (eight_bytes a.value)))

edit_short : (e : Edit) → InRange e → Within longest_edit (edit_code e)
edit_short (Begin own r g) h = more 43 longest_edit _ (tagged 42 1 _ (join 17 25 _ _ (short_name 4 own h.0) (join 1 24 _ _ (role_short r) (join 16 8 _ _ (pair_short g.key) (eight_bytes g.v))))) (lit≤ tt)
edit_short (PutLink l) h = more 61 longest_edit _ (tagged 60 2 _ (link_short l h)) (lit≤ tt)
edit_short (DropLink peer label side) h = more 36 longest_edit _ (tagged 35 3 _ (join 17 18 _ _ (short_name 4 peer h.0) (join 17 1 _ _ (short_name 1 label h.1) (side_short side)))) (lit≤ tt)
edit_short (PutKey k) h = more 86 longest_edit _ (tagged 85 4 _ (key_short k h)) (lit≤ tt)
edit_short DropEnded h = record { most = lit≤ tt }
edit_short (PutExchange e) h = more 1140 longest_edit _ (tagged 1139 6 _ (exchange_short e h)) (lit≤ tt)
edit_short (DropExchange peer) h = more 18 longest_edit _ (tagged 17 7 _ (short_name 4 peer h)) (lit≤ tt)
edit_short (PutAnswer a) h = more 51 longest_edit _ (tagged 50 8 _ (answer_short a h)) (lit≤ tt)
edit_short (SetGen v) h = more 9 longest_edit _ (tagged 8 9 _ (eight_bytes v)) (lit≤ tt)

edits_short : (es : List Edit) → AreInRange es → Within (longest_edit * length es) (edits_code es)
edits_short [] h = record { most = omega arith }
edits_short (e ∷ es) h = grown (length es) _ (join longest_edit (longest_edit * length es) _ _ (edit_short e (All-head InRange e es h)) (edits_short es (All-tail InRange e es h)))
  where
    grown : (n : ℕ) (bytes : List ℕ) → Within (longest_edit + longest_edit * n) bytes → Within (longest_edit * suc n) bytes
    grown n bytes h = record { most = omega (arith, h.most) }

pub short_code : (format : Format) (es : List Edit) → AreInRange es → length (code_of_change format es) ≤ head_length + longest_edit * length es + end_length format
short_code format es h =
    let text = number_of format ∷ change_text es in
    let all = (tagged (2 + longest_edit * length es) (number_of format) _ (join 2 (longest_edit * length es) _ _ (two_bytes (length es)) (edits_short es h))).most in
    let both = length-append text (closing format text) in
    let last = closing_long format text in
    omega (arith, all, both, last)
