-- The kinds of order: this project's profile.
use Rattle.std.specs.Prelude.{ℕ, List, [], ◌∷◌, Option, find, codes}
use Rattle.std.specs.Str.{bytes_eq}
use Rattle.x_line.specs.declared.order_kind.OrderKind.{OrderKind}
use Rattle.x_line.specs.declared.order_kind.OrderKind.TheVariants as kinds

abbrev pub order_kinds : List OrderKind
order_kinds = kinds.Check ∷ kinds.Replay ∷ kinds.Audit ∷ kinds.Batch ∷ kinds.Init ∷ kinds.Create
    ∷ kinds.Load ∷ kinds.Enter ∷ kinds.Start ∷ kinds.StartKk ∷ kinds.Ask ∷ kinds.Translate
    ∷ kinds.Take ∷ kinds.Purge ∷ kinds.Show ∷ kinds.Value ∷ kinds.Compact ∷ kinds.Migrate
    ∷ kinds.Wipe ∷ kinds.Compare ∷ kinds.Resend ∷ kinds.Drop ∷ kinds.End ∷ kinds.Pay
    ∷ kinds.Accept ∷ kinds.Spool ∷ kinds.Outbox ∷ kinds.Drill ∷ []

abbrev pub name_of_kind : OrderKind → List ℕ
name_of_kind kinds.Check = codes "check"
name_of_kind kinds.Replay = codes "replay"
name_of_kind kinds.Audit = codes "audit"
name_of_kind kinds.Batch = codes "batch"
name_of_kind kinds.Init = codes "init"
name_of_kind kinds.Create = codes "create"
name_of_kind kinds.Load = codes "load"
name_of_kind kinds.Enter = codes "enter"
name_of_kind kinds.Start = codes "start"
name_of_kind kinds.StartKk = codes "startkk"
name_of_kind kinds.Ask = codes "ask"
name_of_kind kinds.Translate = codes "translate"
name_of_kind kinds.Take = codes "take"
name_of_kind kinds.Purge = codes "purge"
name_of_kind kinds.Show = codes "show"
name_of_kind kinds.Value = codes "value"
name_of_kind kinds.Compact = codes "compact"
name_of_kind kinds.Migrate = codes "migrate"
name_of_kind kinds.Wipe = codes "wipe"
name_of_kind kinds.Compare = codes "compare"
name_of_kind kinds.Resend = codes "resend"
name_of_kind kinds.Drop = codes "drop"
name_of_kind kinds.End = codes "end"
name_of_kind kinds.Pay = codes "pay"
name_of_kind kinds.Accept = codes "accept"
name_of_kind kinds.Spool = codes "spool"
name_of_kind kinds.Outbox = codes "outbox"
name_of_kind kinds.Drill = codes "drill"

-- the kind that a command line names so
abbrev pub named : List ℕ → Option OrderKind
named name = find (λ k. bytes_eq (name_of_kind k) name) order_kinds
