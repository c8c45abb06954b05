-- Whether rows of tables are equal, told by their fields (this project's profile).
use Rattle.std.specs.Prelude.{ℕ, ◌==◌, Bool, true, false, not, ◌&&◌, Option, Some, None, List, bytes_eq}
use Rattle.party_tables.specs.declared.link.LinkRec.{LinkRec}
use Rattle.party_tables.specs.declared.key.KeyRec.{KeyRec}
use Rattle.party_tables.specs.declared.key.KeyStatus.{KeyStatus}
use Rattle.party_tables.specs.declared.key.KeyStatus.TheVariants.{Pending, Live, Held, Closing, Ended}
use Rattle.party_tables.specs.declared.exchange.Exchange.{Exchange}
use Rattle.party_tables.specs.declared.exchange.Kind.{Kind}
use Rattle.party_tables.specs.declared.exchange.Kind.TheVariants as kind
use Rattle.party_tables.specs.declared.exchange.Via.{Via}
use Rattle.party_tables.specs.declared.exchange.Via.TheVariants as via
use Rattle.party_tables.specs.declared.answer.Answer.{Answer}
use Rattle.party_tables.specs.Keys.{same_link, same_name, same_record, same_answer, link_key, record_key, answer_key}

abbrev pub same_bool : Bool → Bool → Bool
same_bool true b = b
same_bool false b = not b

abbrev pub same_status : KeyStatus → KeyStatus → Bool
same_status Pending Pending = true
same_status Live Live = true
same_status Held Held = true
same_status Closing Closing = true
same_status Ended Ended = true
same_status _ _ = false

abbrev pub same_link_rec : LinkRec → LinkRec → Bool
same_link_rec a b = same_link (link_key a) (link_key b) && (((a.pair.left == b.pair.left) && (a.pair.right == b.pair.right)) && ((a.next == b.next) && same_bool a.ready b.ready))

abbrev pub same_key_rec : KeyRec → KeyRec → Bool
same_key_rec a b = same_record (record_key a) (record_key b) && ((a.value == b.value) && same_status a.status b.status)

abbrev pub same_answer_rec : Answer → Answer → Bool
same_answer_rec a b = same_answer (answer_key a) (answer_key b) && ((a.cta == b.cta) && (a.value == b.value))

abbrev pub same_label : Option (List ℕ) → Option (List ℕ) → Bool
same_label None None = true
same_label (Some a) (Some b) = bytes_eq a b
same_label _ _ = false

abbrev pub same_via : Via → Via → Bool
same_via (via.Direct a new) (via.Direct b other) = bytes_eq a b && same_label new other
same_via (via.Distribution a n) (via.Distribution b m) = bytes_eq a b && (n == m)
same_via (via.Translation a) (via.Translation b) = bytes_eq a b
same_via _ _ = false

abbrev pub same_kind : Kind → Kind → Bool
same_kind (kind.Asked a) (kind.Asked b) = bytes_eq a b
same_kind (kind.Translating a v n) (kind.Translating b w m) = bytes_eq a b && ((v == w) && (n == m))
same_kind (kind.KeySent a v) (kind.KeySent b w) = same_name a b && same_via v w
same_kind (kind.Ending a) (kind.Ending b) = same_name a b
same_kind (kind.PairSent a) (kind.PairSent b) = same_name a b
same_kind _ _ = false

abbrev pub same_exchange : Exchange → Exchange → Bool
same_exchange a b = bytes_eq a.peer b.peer && (same_kind a.kind b.kind && bytes_eq a.text b.text)
