-- The expected count that a refusal names is a count.
use Rattle.std.proofs.Common.{ℕ, Bool, Option, Some, None, List, [], ◌∷◌, ◌++◌}
use Rattle.x_base.specs.declared.verdict.Verdict.TheVariants.{BadMac, KeysFull}
use Rattle.csm_grammar.specs.declared.message.Ksm.{Ksm}
use Rattle.csm_grammar.specs.declared.message.KsmBody.{KsmBody}
use Rattle.csm_grammar.specs.declared.message.NewKk.{NewKk}
use Rattle.party_tables.specs.declared.link.LinkRec.{LinkRec}
use Rattle.party_tables.specs.Ranges.{IsLink}
use Rattle.party_state.specs.State.{Party}
use Rattle.party_state.specs.Verdicts.{verdict_of}
use Rattle.role_base.specs.Conditions.{count_tests}
use Rattle.role_base.specs.Errors.{TellsCount}
use Rattle.role_base.proofs.Counted.{tells_by, expected_is_count}
use Rattle.bank_keys.specs.Ksm.{body_count, body_new, body_front, body_rest, new_tests}

pub key_tells_count : (p : Party) (m : Ksm) (b : KsmBody) (l : LinkRec) (code : Bool) → IsLink l → TellsCount (verdict_of (body_front p m b (Some l) ++ (code, BadMac) ∷ body_rest p m b l))
key_tells_count p m b l code i = by_new (body_new b) _
  where
    by_new : (n : Option (List ℕ × NewKk)) (room : Bool) → TellsCount (verdict_of (body_front p m b (Some l) ++ (code, BadMac) ∷ (count_tests l (body_count b) ++ (new_tests p m.originator l (body_count b) n ++ (room, KeysFull) ∷ []))))
    by_new None room = tells_by (body_front p m b (Some l) ++ (code, BadMac) ∷ (count_tests l (body_count b) ++ (room, KeysFull) ∷ []))
        (λ _. tt, (λ _. tt, (λ _. tt, (λ _. tt, (λ h. expected_is_count l (body_count b) i.next h, (λ _. tt, (λ _. tt, tt)))))))
    by_new (Some n) room = tells_by (body_front p m b (Some l) ++ (code, BadMac) ∷ (count_tests l (body_count b) ++ (new_tests p m.originator l (body_count b) (Some n) ++ (room, KeysFull) ∷ [])))
        (λ _. tt, (λ _. tt, (λ _. tt, (λ _. tt, (λ h. expected_is_count l (body_count b) i.next h, (λ _. tt, (λ _. tt, (λ _. tt, (λ _. tt, (λ _. tt, tt))))))))))
