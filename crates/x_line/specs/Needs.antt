-- Which options each command requires, may have and refuses: this project's profile.
use Rattle.std.specs.Prelude.{Bool, true, false}
use Rattle.x_line.specs.declared.order_kind.OrderKind.{OrderKind}
use Rattle.x_line.specs.declared.order_kind.OrderKind.TheVariants as kinds
use Rattle.x_line.specs.declared.need.Need.{Need}
use Rattle.x_line.specs.declared.need.Need.TheVariants as need
use Rattle.x_line.specs.declared.opt.Opt.{Opt}
use Rattle.x_line.specs.declared.opt.Opt.TheVariants as opt

abbrev pub need_of : OrderKind → Opt → Need
need_of kinds.Check o = need.Refused
need_of kinds.Replay o = need.Refused
need_of kinds.Audit o = need.Refused
need_of kinds.Batch o = need.Refused
need_of kinds.Init opt.Party = need.Required
need_of kinds.Init opt.Role = need.Required
need_of kinds.Init opt.Genkey = need.Required
need_of kinds.Init opt.Genseed = need.Required
need_of kinds.Init opt.Mirror = need.Optional
need_of kinds.Init o = need.Refused
need_of kinds.Create opt.Party = need.Required
need_of kinds.Create opt.Role = need.Required
need_of kinds.Create opt.Mirror = need.Optional
need_of kinds.Create o = need.Refused
need_of kinds.Load opt.Party = need.Required
need_of kinds.Load opt.Peer = need.Required
need_of kinds.Load opt.Label = need.Required
need_of kinds.Load opt.Side = need.Required
need_of kinds.Load opt.Key = need.Required
need_of kinds.Load opt.Mirror = need.Optional
need_of kinds.Load o = need.Refused
need_of kinds.Enter opt.Party = need.Required
need_of kinds.Enter opt.Peer = need.Required
need_of kinds.Enter opt.Label = need.Required
need_of kinds.Enter opt.Side = need.Required
need_of kinds.Enter opt.Mirror = need.Optional
need_of kinds.Enter o = need.Refused
need_of kinds.Start opt.Party = need.Required
need_of kinds.Start opt.Peer = need.Required
need_of kinds.Start opt.Label = need.Optional
need_of kinds.Start opt.Mirror = need.Optional
need_of kinds.Start o = need.Refused
need_of kinds.StartKk opt.Party = need.Required
need_of kinds.StartKk opt.Peer = need.Required
need_of kinds.StartKk opt.New = need.Required
need_of kinds.StartKk opt.Label = need.Optional
need_of kinds.StartKk opt.Single = need.Optional
need_of kinds.StartKk opt.Mirror = need.Optional
need_of kinds.StartKk o = need.Refused
need_of kinds.Ask opt.Party = need.Required
need_of kinds.Ask opt.Peer = need.Required
need_of kinds.Ask opt.Ultimate = need.Optional
need_of kinds.Ask opt.Mirror = need.Optional
need_of kinds.Ask o = need.Refused
need_of kinds.Translate opt.Party = need.Required
need_of kinds.Translate opt.Peer = need.Required
need_of kinds.Translate opt.Ultimate = need.Required
need_of kinds.Translate opt.Mirror = need.Optional
need_of kinds.Translate o = need.Refused
need_of kinds.Take opt.Party = need.Required
need_of kinds.Take opt.Mirror = need.Optional
need_of kinds.Take opt.Tell = need.Optional
need_of kinds.Take o = need.Refused
need_of kinds.Purge opt.Party = need.Required
need_of kinds.Purge opt.Mirror = need.Optional
need_of kinds.Purge o = need.Refused
need_of kinds.Show opt.Party = need.Required
need_of kinds.Show opt.Mirror = need.Optional
need_of kinds.Show o = need.Refused
need_of kinds.Value opt.Party = need.Required
need_of kinds.Value opt.Peer = need.Required
need_of kinds.Value opt.Label = need.Required
need_of kinds.Value opt.Side = need.Required
need_of kinds.Value o = need.Refused
need_of kinds.Compact opt.Party = need.Required
need_of kinds.Compact o = need.Refused
need_of kinds.Migrate opt.Party = need.Required
need_of kinds.Migrate o = need.Refused
need_of kinds.Wipe opt.Party = need.Required
need_of kinds.Wipe o = need.Refused
need_of kinds.Compare opt.Party = need.Required
need_of kinds.Compare opt.Mirror = need.Required
need_of kinds.Compare o = need.Refused
need_of kinds.Resend opt.Party = need.Required
need_of kinds.Resend opt.Peer = need.Required
need_of kinds.Resend opt.Mirror = need.Optional
need_of kinds.Resend o = need.Refused
need_of kinds.Drop opt.Party = need.Required
need_of kinds.Drop opt.Peer = need.Required
need_of kinds.Drop opt.Mirror = need.Optional
need_of kinds.Drop o = need.Refused
need_of kinds.End opt.Party = need.Required
need_of kinds.End opt.Peer = need.Required
need_of kinds.End opt.Name = need.Required
need_of kinds.End opt.Mirror = need.Optional
need_of kinds.End o = need.Refused
need_of kinds.Pay opt.Party = need.Required
need_of kinds.Pay opt.Peer = need.Required
need_of kinds.Pay opt.Name = need.Required
need_of kinds.Pay opt.Ledger = need.Required
need_of kinds.Pay opt.Amount = need.Required
need_of kinds.Pay o = need.Refused
need_of kinds.Accept opt.Party = need.Required
need_of kinds.Accept opt.Ledger = need.Required
need_of kinds.Accept o = need.Refused
need_of kinds.Spool opt.Party = need.Required
need_of kinds.Spool opt.Spool = need.Required
need_of kinds.Spool o = need.Refused
need_of kinds.Outbox opt.Spool = need.Required
need_of kinds.Outbox o = need.Refused
need_of kinds.Drill opt.Seed = need.Required
need_of kinds.Drill opt.Events = need.Required
need_of kinds.Drill o = need.Refused

abbrev pub is_refused : Need → Bool
is_refused need.Refused = true
is_refused n = false

abbrev pub is_required : Need → Bool
is_required need.Required = true
is_required n = false
