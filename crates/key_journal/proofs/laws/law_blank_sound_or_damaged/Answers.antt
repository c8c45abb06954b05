use Rattle.key_journal.proofs.DamageLemmas.{judged_image, sound_or_blank, sound_or_damaged}
use Rattle.key_journal.proofs.laws.law_blank_sound_or_damaged.Goals as goal

pub returns-clause-one_of : goal.returns-clause-one_of
returns-clause-one_of c = λ image bytes. judged_image image bytes

pub returns-clause-not_blank : goal.returns-clause-not_blank
returns-clause-not_blank c = λ image bodies blank holds. sound_or_blank image bodies blank holds

pub returns-clause-not_damaged : goal.returns-clause-not_damaged
returns-clause-not_damaged c = λ image bodies place holds damaged. sound_or_damaged image bodies place holds damaged
