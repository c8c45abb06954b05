-- The tags, as they are written and in the writer's order (ANSI X9.17; P is this project's profile).
use Rattle.std.specs.Prelude.{ℕ, ◌==◌, Bool, List, [], ◌∷◌, length, Option, codes, bytes_eq}
use Rattle.std.specs.List.{list_any, filter, find}
use Rattle.csm_grammar.specs.declared.tag.Tag.{Tag}
use Rattle.csm_grammar.specs.declared.tag.Tag.TheVariants.{Mcl, Rcv, Org, Svr, Idu, Idc, Idd, Ida, Idk1, Idk2, DoubleKk, Kk, Kd, Kdu, Ctp, Cta, Ctb, Ctr, Erf, Iv, Edk, P, Mac, Edc, Kku, DoubleKku, Nos}

abbrev pub tag_name : Tag → List ℕ
tag_name Mcl = codes "MCL"
tag_name Rcv = codes "RCV"
tag_name Org = codes "ORG"
tag_name Svr = codes "SVR"
tag_name Idu = codes "IDU"
tag_name Idc = codes "IDC"
tag_name Idd = codes "IDD"
tag_name Ida = codes "IDA"
tag_name Idk1 = codes "IDK1"
tag_name Idk2 = codes "IDK2"
tag_name DoubleKk = codes "*KK"
tag_name Kk = codes "KK"
tag_name Kd = codes "KD"
tag_name Kdu = codes "KDU"
tag_name Ctp = codes "CTP"
tag_name Cta = codes "CTA"
tag_name Ctb = codes "CTB"
tag_name Ctr = codes "CTR"
tag_name Erf = codes "ERF"
tag_name Iv = codes "IV"
tag_name Edk = codes "EDK"
tag_name P = codes "P"
tag_name Mac = codes "MAC"
tag_name Edc = codes "EDC"
tag_name Kku = codes "KKU"
tag_name DoubleKku = codes "*KKU"
tag_name Nos = codes "NOS"

-- all tags: the writer's order, and behind it the unsupported ones
abbrev pub tags : List Tag
tags = Mcl ∷ Rcv ∷ Org ∷ Svr ∷ Idu ∷ Idc ∷ Idd ∷ Ida ∷ Idk1 ∷ Idk2 ∷ DoubleKk ∷ Kk ∷ Kd ∷ Kdu ∷ Ctp ∷ Cta ∷ Ctb ∷ Ctr ∷ Erf ∷ Iv ∷ Edk ∷ P ∷ Mac ∷ Edc ∷ Kku ∷ DoubleKku ∷ Nos ∷ []

-- how many stand before a tag there
abbrev pub tag_place : Tag → ℕ
tag_place Mcl = 0
tag_place Rcv = 1
tag_place Org = 2
tag_place Svr = 3
tag_place Idu = 4
tag_place Idc = 5
tag_place Idd = 6
tag_place Ida = 7
tag_place Idk1 = 8
tag_place Idk2 = 9
tag_place DoubleKk = 10
tag_place Kk = 11
tag_place Kd = 12
tag_place Kdu = 13
tag_place Ctp = 14
tag_place Cta = 15
tag_place Ctb = 16
tag_place Ctr = 17
tag_place Erf = 18
tag_place Iv = 19
tag_place Edk = 20
tag_place P = 21
tag_place Mac = 22
tag_place Edc = 23
tag_place Kku = 24
tag_place DoubleKku = 25
tag_place Nos = 26

abbrev pub same_tag : Tag → Tag → Bool
same_tag s t = tag_place s == tag_place t

abbrev pub has_tag : Tag → List Tag → Bool
has_tag t ts = list_any (λ s. same_tag s t) ts

abbrev pub count_tag : Tag → List Tag → ℕ
count_tag t ts = length (filter (λ s. same_tag s t) ts)

-- the tag with this name
abbrev pub tag_of : List ℕ → Option Tag
tag_of name = find (λ t. bytes_eq (tag_name t) name) tags

abbrev pub is_closing : Tag → Bool
is_closing t = has_tag t (Mac ∷ Edc ∷ [])

abbrev pub is_unsupported : Tag → Bool
is_unsupported t = has_tag t (Kku ∷ DoubleKku ∷ Nos ∷ [])
