-- What a member does at a compaction or a migration is that event.
use Rattle.std.proofs.Common.{◌≡◌, Bool, true, false, cond, Option, Some, None, [], map, refl, sym}
use Rattle.std.proofs.lemmas.List.{append-nil}
use Rattle.x_base.specs.declared.verdict.Verdict.TheVariants.{Accept, JournalFull}
use Rattle.change_code.specs.Cost.{can_compact, space_of_whole}
use Rattle.change_code.specs.declared.format.Format.{Format}
use Rattle.member.specs.Member.{Member}
use Rattle.member.specs.Acts.{Act, Keeps, WritesWhole, verdict_alone, whole_act, rewriting, compacted_in, migrated_in, compacting, migrating, member_after}
use Rattle.world_laws.specs.World.{World, member_at}
use Rattle.world_laws.specs.Honest.{named_text}
use Rattle.world_laws.specs.Noted.{noted}
use Rattle.world_laws.specs.Steps.{world_with_space, world_rewritten, world_after_compaction, world_after_migration}
use Rattle.world_laws.specs.Nodes.{IsAfter, IsEventOf, changes}
use Rattle.world_laws.proofs.Nodes.Binding.{nothing_after}

module _ (x : Member) (f : Format) where
  abbrev act : Bool → Act
  act c = cond c (verdict_alone (WritesWhole f) Accept) (verdict_alone (Keeps []) JournalFull)

  abbrev done : Bool → World → World
  done c w = cond c (world_with_space w x (space_of_whole f x.party)) w

  after_it : (c : Bool) (w : World) → member_at x.party.own w.members ≡ Some x → IsAfter w (done c w) (member_after x (act c).work) None (noted (act c).under (act c).reply)
  after_it true w at = record { members = refl; texts = sym (append-nil w.texts); facts_are = sym (append-nil (map named_text w.facts)) }
  after_it false w at = nothing_after x w at

  own_after : (c : Bool) → (member_after x (act c).work).party.own ≡ x.party.own
  own_after true = refl
  own_after false = refl

  whole : (c : Bool) (w : World) → member_at x.party.own w.members ≡ Some x → IsAfter w (done c w) (member_after x (act c).work) (act c).reply (noted (act c).under (act c).reply)
  whole true w at = after_it true w at
  whole false w at = after_it false w at

  none : (c : Bool) (w : World) → changes (act c).work ≡ false → done c w ≡ w
  none true w is = absurd (cc is)
  none false w is = refl

  whole_is : IsEventOf x (whole_act f x.party) (λ n w completion. world_rewritten (Some f) w x completion)
  whole_is = record {
    own = own_after (can_compact f x.party);
    whole = λ n w at. whole (can_compact f x.party) w at;
    old = λ n w. refl;
    new = λ n w at some. after_it (can_compact f x.party) w at;
    none = λ n w is. none (can_compact f x.party) w is;
  }

pub rewriting_is : (o : Option Format) (x : Member) → IsEventOf x (rewriting o x.party) (λ n w completion. world_rewritten o w x completion)
rewriting_is None x = record {
  own = refl;
  whole = λ n w at. nothing_after x w at;
  old = λ n w. refl;
  new = λ n w at some. absurd (cc some);
  none = λ n w is. refl;
}
rewriting_is (Some f) x = whole_is x f

pub compaction_is : (x : Member) → IsEventOf x (compacting x) (λ n w completion. world_after_compaction w x completion)
compaction_is x = rewriting_is (compacted_in x.space.format) x

pub migration_is : (x : Member) → IsEventOf x (migrating x) (λ n w completion. world_after_migration w x completion)
migration_is x = rewriting_is (migrated_in x.space.format) x
