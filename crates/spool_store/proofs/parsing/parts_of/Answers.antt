use Rattle.std.proofs.Common.{◌<◌, ◌^◌, rules, length, ap, arith, length-append, ◌∙◌}
use Rattle.change_code.specs.Code.{two}
use Rattle.change_code.proofs.Numbers.{two_long}
use Rattle.spool_store.proofs.Bytes.{no_fewer, no_reply, parted, read_apart, cut_at}
use Rattle.spool_store.proofs.parsing.parts_of.Goals as goal

pub returns-in_err-number-clause-none : goal.returns-in_err-number-clause-none
returns-in_err-number-clause-none c = λ is p plan. no_fewer c.args.body.now p (omega (arith, ap length c.new-reader.ensures, ap length c.in_ok-byte.ensures, c.in_err-number.ensures)) plan

pub returns-in_err-half_word-clause-none : goal.returns-in_err-half_word-clause-none
returns-in_err-half_word-clause-none c = λ is p plan. no_fewer c.args.body.now p (omega (arith, ap length c.new-reader.ensures, ap length c.in_ok-byte.ensures, ap length c.in_ok-number.ensures, length-append (two c.in_ok-number.number) c.half_word.new.self, two_long c.in_ok-number.number, c.in_err-half_word.ensures)) plan

pub split_at-requires : goal.split_at-requires
split_at-requires c = omega (arith, ap length c.new-reader.ensures, ap length c.in_ok-byte.ensures, ap length c.in_ok-number.ensures, ap length c.in_ok-half_word.ensures, length-append (two c.in_ok-number.number) c.half_word.new.self, two_long c.in_ok-number.number, length-append (two c.in_ok-half_word.field-0) c.half_word-2.new.self, two_long c.in_ok-half_word.field-0)

pub returns-then-rest-long-clause-none : goal.returns-then-rest-long-clause-none
returns-then-rest-long-clause-none c = λ is p plan.
    let read = read_apart c.args.body.now c.new-reader.result c.byte.new.self c.half_word.new.self c.half_word-2.new.self c.in_ok-byte.field-0 c.in_ok-number.number c.in_ok-half_word.field-0 c.new-reader.ensures c.in_ok-byte.ensures c.if-branch-ne-PLAN.false c.in_ok-number.ensures c.in_ok-half_word.ensures in
    let cut = cut_at 5 c.args.body.now c.split_at.result.0.now c.split_at.result.1.now c.split_at.ensures.front c.split_at.ensures.back in
    let small : c.in_ok-number.number < 2 ^ 16 = search rules in
    let short : c.in_ok-half_word.field-0 < 2 ^ 16 = search rules in
    no_reply c.args.body.now c.half_word-2.new.self c.split_at.result.0.now c.split_at.result.1.now c.in_ok-number.number c.in_ok-half_word.field-0 p small short read cut c.split_at.ensures.front_len (omega (arith, c.if-rest-long.true, c.from-long.ensures)) plan

pub returns-clause-some : goal.returns-clause-some
returns-clause-some c =
    let read = read_apart c.args.body.now c.new-reader.result c.byte.new.self c.half_word.new.self c.half_word-2.new.self c.in_ok-byte.field-0 c.in_ok-number.number c.in_ok-half_word.field-0 c.new-reader.ensures c.in_ok-byte.ensures c.if-branch-ne-PLAN.false c.in_ok-number.ensures c.in_ok-half_word.ensures in
    let cut = cut_at 5 c.args.body.now c.split_at.result.0.now c.split_at.result.1.now c.split_at.ensures.front c.split_at.ensures.back in
    let parts = cut_at c.from-long.result c.split_at.result.1.now c.split_at-2.result.0.now c.split_at-2.result.1.now c.split_at-2.ensures.front c.split_at-2.ensures.back in
    parted c.args.body.now c.half_word-2.new.self c.split_at.result.0.now c.split_at.result.1.now c.split_at-2.result.0.now c.split_at-2.result.1.now c.in_ok-number.number c.in_ok-half_word.field-0 read cut c.split_at.ensures.front_len parts (c.split_at-2.ensures.front_len ∙ c.from-long.ensures)
