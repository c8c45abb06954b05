use Rattle.change_code.specs.Code.{two}
use Rattle.std.proofs.lemmas.Nat.{be_bytes_2}
use Rattle.change_code.proofs.pieces.half_word_of.Goals as goal

pub returns : goal.returns
unfolding two
returns c = be_bytes_2 c.args.bytes.now c.from_be_bytes.result c.told-bytes c.fits-bytes c.from_be_bytes.ensures
