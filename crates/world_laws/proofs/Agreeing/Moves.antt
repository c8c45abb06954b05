-- What agreement asks of an accepted row.
use Rattle.std.proofs.Common.{◌≡◌, ◌≢◌, ◌⊎◌, ℕ, ◌≤◌, true, Option, Some, None, List}
use Rattle.x_base.specs.declared.key_name.FullName.{FullName}
use Rattle.csm_grammar.specs.declared.message.Message.{Message}
use Rattle.csm_grammar.specs.declared.message.Message.TheVariants as message
use Rattle.csm_write.specs.Canon.{auth_of}
use Rattle.party_tables.specs.declared.link.LinkRec.{LinkRec}
use Rattle.party_tables.specs.Keys.{sends, takes}
use Rattle.party_state.specs.State.{Party, centre_label, link_with, apply}
use Rattle.party_state.specs.Rows.{Row, Reply, Coded, Plain, Again, Accepted}
use Rattle.member.specs.Member.{Member}
use Rattle.world_laws.specs.World.{Fact}
use Rattle.world_laws.specs.Facts.{sender_of}
use Rattle.world_laws.specs.Starts.{HasOtherEnd}
use Rattle.world_laws.proofs.Texts.Own.{IsOwn}
use Rattle.world_laws.proofs.Agreeing.Lists.{Lists, lists_after, WaitsMove}
use Rattle.world_laws.proofs.Agreeing.KeyRecords.{KeysMove}
use Rattle.world_laws.proofs.Agreeing.Waiting.{AllSent, NewSent, NewsMove}
use Rattle.world_laws.proofs.Agreeing.Known.{Issued}
use Rattle.world_laws.proofs.Agreeing.Facts.{MessageOk, AcceptedOk}
use Rattle.change_code.specs.declared.space.Space.{Space}

abbrev pub RepliesOk : Lists → List ℕ → Option Reply → Type 0
RepliesOk w own None = Unit {0}
RepliesOk w own (Some (Coded m under value)) = MessageOk w (record { under = under; text = auth_of m; maker = own }) m
RepliesOk w own (Some (Plain m)) = Unit {0}
RepliesOk w own (Some (Again text)) = Unit {0}

-- a name that no fact has: its count is one that a link had not reached, or no answer of a centre for it was taken
abbrev pub NewName : List Fact → Party → FullName → Type 0
NewName fs s u = NewSent s u.recipient u.name ⊎ ((u.name.issuer ≢ s.own) × (Issued fs s (record { peer = u.recipient; name = u.name }) → ⊥))

-- an RTR's count is one that its link had not reached, and a KSM's name is new
abbrev pub FreshMessage : List Fact → Party → FullName → Message → Type 0
FreshMessage fs s u (message.Ksm m) = (u.name.originator ≡ s.own) × NewName fs s u
FreshMessage fs s u (message.Rtr m) = (m.originator ≡ s.own) × ((l : LinkRec) × (link_with (sends m.ultimate centre_label) s ≡ Some l) × (l.next ≤ m.ctb))
FreshMessage fs s u m = Unit {0}

abbrev pub FreshReply : List Fact → Party → Option Reply → Type 0
FreshReply fs s None = Unit {0}
FreshReply fs s (Some (Coded m under value)) = FreshMessage fs s under m
FreshReply fs s (Some (Plain m)) = Unit {0}
FreshReply fs s (Some (Again text)) = Unit {0}

abbrev pub AcceptsOk : Lists → List ℕ → List ℕ → Option Accepted → Type 0
AcceptsOk w own text None = Unit {0}
AcceptsOk w own text (Some k) = AcceptedOk w (record { party = own; text = text; class = k.class; names = k.names })

-- each ready link for sending was ready before, or has its other end
abbrev pub Backed : List Member → Party → Party → Type 0
Backed ms s t = (peer label : List ℕ) (m : LinkRec) → link_with (sends peer label) t ≡ Some m → m.ready ≡ true
    → ((l : LinkRec) × (link_with (sends peer label) s ≡ Some l) × (l.ready ≡ true) × (m.pair ≡ l.pair)) ⊎ HasOtherEnd ms peer (takes s.own label) m

pub record Agreeing (v : Lists) (x : Member) (space : Space) (text : List ℕ) (r : Row) : Type 0 where
  pub back : Backed v.members x.party (apply r.edits x.party)
  pub news : NewsMove x.party (apply r.edits x.party)
  pub keys : KeysMove v (lists_after v x space text r) x.party (apply r.edits x.party)
  pub exchanges : AllSent (apply r.edits x.party)
  pub waits : WaitsMove x.party (apply r.edits x.party)
  pub replies : RepliesOk (lists_after v x space text r) x.party.own r.reply
  pub new : FreshReply v.facts x.party r.reply
  pub accepts : AcceptsOk (lists_after v x space text r) x.party.own text r.accepts

-- a text that a row writes under a key says its message, and nothing else
abbrev pub OwnReply : Option Reply → Type 0
OwnReply None = Unit {0}
OwnReply (Some (Coded m under value)) = IsOwn m
OwnReply (Some (Plain m)) = Unit {0}
OwnReply (Some (Again text)) = Unit {0}

-- and that names this party as its originator
abbrev pub OwnText : List ℕ → Option Reply → Type 0
OwnText own None = Unit {0}
OwnText own (Some (Coded m under value)) = IsOwn m × (sender_of m ≡ own)
OwnText own (Some (Plain m)) = Unit {0}
OwnText own (Some (Again text)) = Unit {0}
