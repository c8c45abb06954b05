-- A tag is short.
use Rattle.std.proofs.Common.{◌≤◌, length, lit≤}
use Rattle.csm_grammar.specs.declared.tag.Tag.{Tag}
use Rattle.csm_grammar.specs.declared.tag.Tag.TheVariants.{Mcl, Rcv, Org, Svr, Idu, Idc, Idd, Ida, Idk1, Idk2, DoubleKk, Kk, Kd, Kdu, Ctp, Cta, Ctb, Ctr, Erf, Iv, Edk, P, Mac, Edc, Kku, DoubleKku, Nos}
use Rattle.csm_grammar.specs.Tags.{tag_name}

pub tag_short : (t : Tag) → length (tag_name t) ≤ 4
tag_short Mcl = lit≤ tt
tag_short Rcv = lit≤ tt
tag_short Org = lit≤ tt
tag_short Svr = lit≤ tt
tag_short Idu = lit≤ tt
tag_short Idc = lit≤ tt
tag_short Idd = lit≤ tt
tag_short Ida = lit≤ tt
tag_short Idk1 = lit≤ tt
tag_short Idk2 = lit≤ tt
tag_short DoubleKk = lit≤ tt
tag_short Kk = lit≤ tt
tag_short Kd = lit≤ tt
tag_short Kdu = lit≤ tt
tag_short Ctp = lit≤ tt
tag_short Cta = lit≤ tt
tag_short Ctb = lit≤ tt
tag_short Ctr = lit≤ tt
tag_short Erf = lit≤ tt
tag_short Iv = lit≤ tt
tag_short Edk = lit≤ tt
tag_short P = lit≤ tt
tag_short Mac = lit≤ tt
tag_short Edc = lit≤ tt
tag_short Kku = lit≤ tt
tag_short DoubleKku = lit≤ tt
tag_short Nos = lit≤ tt
