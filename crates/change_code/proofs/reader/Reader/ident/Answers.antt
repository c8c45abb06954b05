use Rattle.std.proofs.Common.{refl}
use Rattle.change_code.specs.Reading.{ident_form}
use Rattle.change_code.proofs.Names.{read_name}
use Rattle.change_code.proofs.reader.Reader.ident.Goals as goal

pub returns : goal.returns
returns c = rw c.ok.ensures.value (read_name ident_form _ _ c.in_ok-short.field-0.now c.read.result (λ x. refl) c.in_ok-short.ensures c.read.ensures.value c.read.ensures.found)
