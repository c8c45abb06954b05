use Rattle.std.proofs.Common.{sym, subst}
use Rattle.world_laws.specs.Laws.{Agreement, OneKeyPerCount, Once, EndedBoth}
use Rattle.course.proofs.lawful.law_lawful.Goals as goal

pub returns : goal.returns
returns c = λ start w events begins are is honest. record {
  begins = begins;
  are = are;
  ran = is;
  honest = honest;
  agreement = subst Agreement (sym is) (c.law_agreement.ensures start events begins are honest);
  counts = subst OneKeyPerCount (sym is) (c.law_one_key_per_count.ensures start events (c.law_start.ensures start begins) are);
  once = subst Once (sym is) (c.law_once.ensures start events (c.law_start.ensures start begins).accepted are);
  ended = subst EndedBoth (sym is) (c.law_ended.ensures start events begins are honest);
}
