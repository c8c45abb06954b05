use Rattle.change_code.specs.Reading.{word_form, pair_form, gen_form}
use Rattle.change_code.proofs.Joining.{both, lacks_second, lacks_as}
use Rattle.change_code.proofs.Names.{gen_shape, pair_apart}
use Rattle.change_code.proofs.reader.Reader.generator.Goals as goal

pub returns-in_err-v : goal.returns-in_err-v
returns-in_err-v c =
    rw c.from_residual-in_err-v.ensures
    (lacks_as gen_form (both pair_form word_form) _ gen_shape (lacks_second pair_form word_form _ _ _ pair_apart c.in_ok-key.ensures c.in_err-v.ensures))
