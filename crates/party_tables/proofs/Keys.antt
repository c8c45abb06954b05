-- The tests of the keys of a party's tables.
use Rattle.std.proofs.Common.{◌≡◌, refl, ap, bytes_eq, Decides}
use Rattle.std.proofs.lemmas.Bool.Decides.{Decides-and, Decides-eqb, Decides-like}
use Rattle.std.specs.Cmp.Lexicographic.{bytes_decides}
use Rattle.x_base.specs.declared.key_name.KeyName.{KeyName}
use Rattle.x_base.specs.declared.party.Side.{Side}
use Rattle.x_base.specs.declared.party.Side.TheVariants.{Sends, Takes}
use Rattle.party_tables.specs.declared.link.LinkKey.{LinkKey}
use Rattle.party_tables.specs.declared.key.RecordKey.{RecordKey}
use Rattle.party_tables.specs.declared.answer.AnswerKey.{AnswerKey}
use Rattle.party_tables.specs.Keys.{same_side, same_link, same_name, same_record, same_answer}
use Rattle.party_tables.proofs.Tables.{IsTest}

pub test_idents : IsTest bytes_eq
test_idents = record { decides = bytes_decides }

pub test_sides : IsTest same_side
test_sides = record { decides = go }
  where
    go : (a b : Side) → Decides (same_side a b) (a ≡ b)
    go Sends Sends = (λ _. refl, λ _. refl)
    go Sends Takes = (λ h. cc, λ h. cc)
    go Takes Sends = (λ h. cc, λ h. cc)
    go Takes Takes = (λ _. refl, λ _. refl)

pub test_links : IsTest same_link
test_links = record { decides = λ a b. Decides-like (same_link a b) (λ h i. record { peer = h.0 i; label = h.1.0 i; side = h.1.1 i }) (λ h. (ap (λ (k : LinkKey). k.peer) h, (ap (λ (k : LinkKey). k.label) h, ap (λ (k : LinkKey). k.side) h))) (Decides-and _ _ (bytes_decides a.peer b.peer) (Decides-and _ _ (bytes_decides a.label b.label) (test_sides.decides a.side b.side))) }

pub test_names : IsTest same_name
test_names = record { decides = λ a b. Decides-like (same_name a b) (λ h i. record { issuer = h.0 i; originator = h.1.0 i; label = h.1.1.0 i; count = h.1.1.1 i }) (λ h. (ap (λ (k : KeyName). k.issuer) h, (ap (λ (k : KeyName). k.originator) h, (ap (λ (k : KeyName). k.label) h, ap (λ (k : KeyName). k.count) h)))) (Decides-and _ _ (bytes_decides a.issuer b.issuer) (Decides-and _ _ (bytes_decides a.originator b.originator) (Decides-and _ _ (bytes_decides a.label b.label) (Decides-eqb a.count b.count)))) }

pub test_records : IsTest same_record
test_records = record { decides = λ a b. Decides-like (same_record a b) (λ h i. record { peer = h.0 i; name = h.1 i }) (λ h. (ap (λ (k : RecordKey). k.peer) h, ap (λ (k : RecordKey). k.name) h)) (Decides-and _ _ (bytes_decides a.peer b.peer) (test_names.decides a.name b.name)) }

pub test_answers : IsTest same_answer
test_answers = record { decides = λ a b. Decides-like (same_answer a b) (λ h i. record { requester = h.0 i; ultimate = h.1 i }) (λ h. (ap (λ (k : AnswerKey). k.requester) h, ap (λ (k : AnswerKey). k.ultimate) h)) (Decides-and _ _ (bytes_decides a.requester b.requester) (bytes_decides a.ultimate b.ultimate)) }
