use Rattle.csm_spool.proofs.Codes.{anew, fits_all}
use Rattle.csm_spool.proofs.planning.code_anew.Goals as goal

pub encode_behind-requires-clause-few : goal.encode_behind-requires-clause-few
encode_behind-requires-clause-few c = c.in-Ok.ensures.code.few

pub encode_behind-requires-clause-fitting : goal.encode_behind-requires-clause-fitting
encode_behind-requires-clause-fitting c = fits_all c.in-Ok.coded.change c.in-Ok.ensures.code.in_range

pub returns-in-Ok : goal.returns-in-Ok
returns-in-Ok c =
    anew c.law_one_change.ensures c.in-Ok.coded.format c.args.code.now c.in-Ok.coded.change c.in-Ok.ensures.code c.encode_behind.ensures.is_code c.encode_behind.result c.encode_behind.ensures.code
