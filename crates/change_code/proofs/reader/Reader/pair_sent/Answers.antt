use Rattle.std.proofs.Common.{arith}
use Rattle.party_tables.specs.declared.exchange.Kind.TheVariants as kind
use Rattle.change_code.specs.Reading.{kind_form, first_name_form}
use Rattle.change_code.proofs.ExchangeForms.{pair_sent_tagged}
use Rattle.change_code.proofs.Names.{lacks_last_count}
use Rattle.change_code.proofs.Tags.{lacks_tagged}
use Rattle.change_code.proofs.reader.Reader.pair_sent.Goals as goal

pub returns-else-value-lt-LIMIT : goal.returns-else-value-lt-LIMIT
returns-else-value-lt-LIMIT c =
    lacks_tagged kind_form 5 first_name_form (λ u. kind.PairSent u) _ pair_sent_tagged
    (lacks_last_count _ _ c.in_ok-name.name c.in_ok-name.ensures (omega (arith, c.if-value-lt-LIMIT.false, c.value.ensures.value)))
