-- The party of a name is opened, or not.
use Rattle.std.proofs.Common.{◌≡◌, ◌≢◌, ℕ, Bool, true, false, not, bytes_eq, List, Ok, Err, refl, sym, ◌∙◌, ap, subst}
use Rattle.std.proofs.lemmas.Slice.Eq.{bytes_eq-Decides}
use Rattle.x_disk.specs.Disk.{View}
use Rattle.key_journal.specs.declared.cause.Unmade.{Unmade}
use Rattle.party_state.specs.State.{Party}
use Rattle.key_store.specs.Store.{Stored}
use Rattle.key_store.specs.Loaded.{IsLoaded}
use Rattle.node_core.specs.Named.{IsOpenedNamed, IsNotOpenedNamed}
use Rattle.node_core.specs.declared.named.WhyNotOpened.TheVariants as why

-- what a comparison of names says
pub same_name : (own name : List ℕ) (differ : Bool) → differ ≡ not (bytes_eq own name) → differ ≡ false → own ≡ name
same_name own name differ is none = go (bytes_eq own name) refl where
  go : (b : Bool) → bytes_eq own name ≡ b → own ≡ name
  go true same = (bytes_eq-Decides own name).0 same
  go false other = let no : false ≡ true = sym none ∙ (is ∙ ap not other) in absurd cc

pub other_name : (own name : List ℕ) (differ : Bool) → differ ≡ not (bytes_eq own name) → differ ≡ true → own ≢ name
other_name own name differ is some = go (bytes_eq own name) refl where
  go : (b : Bool) → bytes_eq own name ≡ b → own ≢ name
  go true same = let no : true ≡ false = sym some ∙ (is ∙ ap not same) in absurd cc
  go false other = λ equal. let no : false ≡ true = sym other ∙ (bytes_eq-Decides own name).1 equal in absurd cc

module _ {D : Type 0} (told : D → View) (name : List ℕ) (old : D) where
  pub opened : (node : Stored D) → IsLoaded told old (Ok node) → node.party.own ≡ name → IsOpenedNamed told name old node
  opened node loaded own = record {
    store = loaded.stands;
    untouched = record { now = loaded.now; images = loaded.images; any_moment = loaded.any_moment };
    exact = loaded.exact;
    own = own;
    faults = loaded.faults;
  }

  pub not_opened : (u : Unmade D) → IsLoaded told old (Err u) → IsNotOpenedNamed told name old u.disk (why.Unmade u.cause)
  not_opened u loaded = record {
    reason = record { refused = loaded.refused; names = loaded.names; fault = loaded.fault };
    untouched = record { now = loaded.now; images = loaded.images; any_moment = loaded.any_moment };
    faults = loaded.faults;
    never = loaded.never_refused;
  }

  pub other_party : (node : Stored D) (own : List ℕ) (disk : D) → IsLoaded told old (Ok node) → own ≡ node.party.own → own ≢ name → disk ≡ node.disk
      → IsNotOpenedNamed told name old disk (why.OtherParty own)
  other_party node own disk loaded is differs same = subst (λ (d : D). IsNotOpenedNamed told name old d (why.OtherParty own)) (sym same) (record {
    reason = record {
      p = node.party;
      reads = λ image now. record { format = node.format; stands = loaded.stands.stands image (loaded.now ∙ now) };
      own = is;
      differs = differs;
    };
    untouched = record { now = loaded.now; images = loaded.images; any_moment = loaded.any_moment };
    faults = loaded.faults;
    never = λ image p now stands. let same : own ≡ p.own = is ∙ ap (λ (q : Party). q.own) (loaded.exact image p now stands) in (same, λ own_is. differs (same ∙ own_is));
  })
