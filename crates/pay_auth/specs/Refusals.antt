-- The numbers of the refusals of payments (this project's profile).
use Rattle.std.specs.Prelude.{ℕ}
use Rattle.pay_auth.specs.declared.refusal.PayRefusal.{PayRefusal}
use Rattle.pay_auth.specs.declared.refusal.PayRefusal.TheVariants.{BadPay, NotForMe, UnknownKey, BadMac, CountSpent, PayLow, LedgerFull}

abbrev pub pay_number : PayRefusal → ℕ
pay_number (BadPay place) = 46
pay_number NotForMe = 21
pay_number UnknownKey = 27
pay_number BadMac = 28
pay_number CountSpent = 31
pay_number (PayLow expected) = 47
pay_number LedgerFull = 48
