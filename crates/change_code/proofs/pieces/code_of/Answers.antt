use Rattle.change_code.specs.Code.{four}
use Rattle.std.proofs.lemmas.Nat.{be_bytes_4}
use Rattle.change_code.proofs.pieces.code_of.Goals as goal

pub returns : goal.returns
unfolding four
returns c = be_bytes_4 c.args.bytes.now c.from_be_bytes.result c.told-bytes c.fits-bytes c.from_be_bytes.ensures
