use Rattle.des_slices.proofs.Exchanging.{exchanged_is}
use Rattle.des_slices.proofs.exchanges.exchanged.Goals as goal

pub returns : goal.returns
returns c = exchanged_is c.args.a c.args.b c.args.distance c.args.mask c.fits-a.0 c.fits-b.0 c.requires.mask c.ranges.mask.fits
