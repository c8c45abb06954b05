-- The authenticated text of a writable message says it.
use Rattle.std.proofs.Common.{◌≡◌, ℕ, List, [], ◌++◌, length, take, ◌∙◌, ap, subst, append-nil}
use Rattle.std.proofs.Math.Seq.{take-append_seam}
use Rattle.std.specs.Prelude.{codes}
use Rattle.csm_grammar.specs.declared.message.Message.{Message}
use Rattle.csm_read.specs.Laws.{OneMeaning, ReadSays}
use Rattle.csm_grammar.specs.Messages.{shut_field}
use Rattle.csm_grammar.specs.Spelling.{Says, field_text}
use Rattle.csm_write.specs.declared.closing.Closing.{Closing}
use Rattle.csm_write.specs.Canon.{auth_of, shut_of, canon, field_for}
use Rattle.canon_laws.specs.Laws.{read_of, AuthSays, CanonReadsBack}

front : (m : Message) (c : Closing) → take (length (auth_of m)) (canon m c ++ []) ≡ auth_of m
front m c =
    let code : List ℕ = field_text (field_for (shut_field (shut_of m c))) ++ codes ")" in
    ap (take (length (auth_of m))) (append-nil (canon m c)) ∙ take-append_seam (auth_of m) code

pub auth_says : CanonReadsBack → ReadSays → OneMeaning → AuthSays
auth_says back read one m c t w =
    let says : Says (auth_of m) m = subst (λ (x : List ℕ). Says x m) (front m c) (read (canon m c ++ []) (read_of m c) (back m c t w [])) in
    record { says = says; alone = λ n other. one (auth_of m) m n says other }
