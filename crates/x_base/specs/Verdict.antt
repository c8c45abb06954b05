-- The numbers of the verdicts: this project's profile.
use Rattle.std.specs.Prelude.{ℕ}
use Rattle.x_base.specs.declared.verdict.Verdict.{Verdict}
use Rattle.x_base.specs.declared.verdict.Verdict.TheVariants.{Accept, WeakDraws, JournalFull, NotEmpty, LinksFull, KeysFull, NotForMe, UnknownPeer, WrongClass, NoExchange, Outstanding, UnknownKk, UnknownKey, BadMac, BadEdc, CountLow, CountSpent, LabelTaken, SameKey, Alias, Blank}

abbrev pub number_of : Verdict → ℕ
number_of Accept = 0
number_of WeakDraws = 4
number_of JournalFull = 15
number_of NotEmpty = 18
number_of LinksFull = 19
number_of KeysFull = 20
number_of NotForMe = 21
number_of UnknownPeer = 22
number_of WrongClass = 23
number_of NoExchange = 24
number_of Outstanding = 25
number_of UnknownKk = 26
number_of UnknownKey = 27
number_of BadMac = 28
number_of BadEdc = 29
number_of (CountLow expected) = 30
number_of CountSpent = 31
number_of LabelTaken = 32
number_of SameKey = 33
number_of Alias = 34
number_of Blank = 37
