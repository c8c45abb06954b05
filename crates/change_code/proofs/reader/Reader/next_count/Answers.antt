use Rattle.std.proofs.Common.{refl, arith}
use Rattle.change_code.specs.Reading.{next_form}
use Rattle.change_code.proofs.Numbers.{lacks_within, next_word}
use Rattle.change_code.proofs.reader.Reader.next_count.Goals as goal

pub returns-else-next-ge1 : goal.returns-else-next-ge1
returns-else-next-ge1 c =
    lacks_within next_form _ _ c.in_ok-next.next (λ x. refl) next_word c.in_ok-next.ensures (λ fits. omega (arith, c.else-next-ge1.either, fits.low, fits.high))
