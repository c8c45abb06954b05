use Rattle.change_code.specs.Reading.{word_form, pair_form}
use Rattle.change_code.proofs.Joining.{both, lacks_second, lacks_as}
use Rattle.change_code.proofs.Numbers.{word_apart}
use Rattle.change_code.proofs.Names.{pair_shape}
use Rattle.change_code.proofs.reader.Reader.pair.Goals as goal

pub returns-in_err-right : goal.returns-in_err-right
returns-in_err-right c =
    rw c.from_residual-in_err-right.ensures
    (lacks_as pair_form (both word_form word_form) _ pair_shape (lacks_second word_form word_form _ _ _ word_apart c.in_ok-left.ensures c.in_err-right.ensures))
