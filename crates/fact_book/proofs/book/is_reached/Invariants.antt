use Rattle.fact_book.proofs.Walking.{Seen, left}
use Rattle.fact_book.proofs.book.is_reached.Given as goal

abbrev pub invariant-earlier : goal.invariant-earlier
invariant-earlier l = Seen l.entries l.texts l.under l.text l.at

abbrev pub decreases-earlier : goal.decreases-earlier
decreases-earlier l = left l.at
