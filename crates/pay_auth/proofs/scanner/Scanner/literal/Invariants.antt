use Rattle.std.proofs.Common.{◌≡◌, ◌++◌, take}
use Rattle.pay_auth.proofs.scanner.Scanner.literal.Given as goal

abbrev pub invariant-loop-byte : goal.invariant-loop-byte
invariant-loop-byte l = l.initial.self ≡ take l.byte-index l.text ++ l.self
