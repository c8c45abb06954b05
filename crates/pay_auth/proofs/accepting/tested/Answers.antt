use Rattle.std.proofs.Common.{◌++◌, codes, sym}
use Rattle.std.proofs.lemmas.List.{length-take-le}
use Rattle.csm_write.specs.Canon.{code_digits}
use Rattle.pay_auth.specs.Texts.{pay_auth_text}
use Rattle.pay_auth.proofs.LineEnds.{front_taken}
use Rattle.pay_auth.proofs.accepting.tested.Goals as goal

pub slice_bounds-test_pay-end : goal.slice_bounds-test_pay-end
slice_bounds-test_pay-end c =
    let p = c.in-Ok.parsed in
    let front = front_taken c.args.bytes.now (pay_auth_text p.pay) (codes "MAC/" ++ (code_digits p.mac ++ codes ")")) p.auth_len c.in-Ok.ensures.spells.text c.in-Ok.ensures.auth in
    sym (length-take-le p.auth_len c.args.bytes.now front.0)

pub test_pay-requires : goal.test_pay-requires
test_pay-requires c =
    let p = c.in-Ok.parsed in
    (front_taken c.args.bytes.now (pay_auth_text p.pay) (codes "MAC/" ++ (code_digits p.mac ++ codes ")")) p.auth_len c.in-Ok.ensures.spells.text c.in-Ok.ensures.auth).1
