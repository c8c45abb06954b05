-- An exchange that stands with these contents.
use Rattle.std.specs.Prelude.{ℕ, ◌==◌, Bool, true, false, ◌&&◌, bytes_eq, List, Option, Some, None}
use Rattle.party_tables.specs.declared.exchange.Exchange.{Exchange}
use Rattle.party_tables.specs.declared.exchange.Kind.{Kind}
use Rattle.party_tables.specs.declared.exchange.Kind.TheVariants as kind
use Rattle.party_tables.specs.declared.exchange.Via.{Via}
use Rattle.party_tables.specs.declared.exchange.Via.TheVariants as vias
use Rattle.party_tables.specs.Keys.{same_name}

abbrev pub same_label : Option (List ℕ) → Option (List ℕ) → Bool
same_label None None = true
same_label (Some a) (Some b) = bytes_eq a b
same_label _ _ = false

abbrev pub same_via : Via → Via → Bool
same_via (vias.Direct label new) (vias.Direct other fresh) = bytes_eq label other && same_label new fresh
same_via (vias.Distribution centre cta) (vias.Distribution other count) = bytes_eq centre other && (cta == count)
same_via (vias.Translation centre) (vias.Translation other) = bytes_eq centre other
same_via _ _ = false

abbrev pub same_kind : Kind → Kind → Bool
same_kind (kind.Asked ultimate) (kind.Asked other) = bytes_eq ultimate other
same_kind (kind.Translating ultimate value cta) (kind.Translating other key count) = bytes_eq ultimate other && ((value == key) && (cta == count))
same_kind (kind.KeySent name v) (kind.KeySent other w) = same_name name other && same_via v w
same_kind (kind.Ending name) (kind.Ending other) = same_name name other
same_kind (kind.PairSent name) (kind.PairSent other) = same_name name other
same_kind _ _ = false

-- an exchange that stands with this peer has these contents
abbrev pub has_exchange : Option Exchange → Exchange → Bool
has_exchange None e = false
has_exchange (Some old) e = same_kind old.kind e.kind && bytes_eq old.text e.text
