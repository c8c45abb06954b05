-- A turn of a node is the event that its member does.
use Rattle.std.proofs.Common.{◌≡◌, inl, inr, ℕ, Bool, true, false, Option, List, [], ◌∷◌, refl, sym, ◌∙◌, ap, subst}
use Rattle.x_base.specs.declared.key_name.FullName.{FullName}
use Rattle.x_disk.specs.Disk.{View}
use Rattle.key_store.specs.Store.{Stored, StandsWith}
use Rattle.member.specs.Member.{Member}
use Rattle.member.specs.Acts.{Work, Keeps, WritesWhole, ClearsRest, Act, member_after}
use Rattle.node_core.specs.Turns.{IsTurn, IsOldOrNext, IsImageOf, member_of}
use Rattle.node_core.specs.declared.node.Turn.{Turn}
use Rattle.node_core.specs.declared.node.Turn.TheVariants as turn
use Rattle.world_laws.specs.World.{World, HasMember, member_at}
use Rattle.world_laws.specs.Events.{Completion, Whole, CutOld, CutNew}
use Rattle.world_laws.specs.Noted.{noted}
use Rattle.world_laws.specs.Nodes.{IsAfter, IsEventOf, changes}
use Rattle.call_laws.specs.Turns.{IsTurnEvent, IsCutEvent}
use Rattle.world_laws.proofs.Lists.Members.{after_at}
use Rattle.world_laws.proofs.Nodes.Binding.{same_member}

pub turn_is : {D : Type 0} (told : D → View) (old : Stored D) (act : Act) (event : ℕ → World → Completion → World) (t : Turn D)
    → IsEventOf (member_of old) act event → IsTurn told old act t → IsTurnEvent old event t
turn_is told old act event (turn.Done node verdict reply under) e is = λ n w at.
    let done = is.answer in
    subst (λ (y : Member). IsAfter w (event n w Whole) y reply (noted under reply)) (sym done.next)
    (subst (λ (u : Option FullName). IsAfter w (event n w Whole) (member_after (member_of old) act.work) reply (noted u reply)) (sym done.under)
    (subst (λ (o : Option (List ℕ)). IsAfter w (event n w Whole) (member_after (member_of old) act.work) o (noted act.under o)) (sym done.reply) (e.whole n w at)))
turn_is told old act event (turn.Broken b) e is = tt
turn_is told old act event (turn.NoMemory node) e is = is.answer.0

-- where nothing changes, the member is the one before
same_work : (x : Member) (work : Work) → changes work ≡ false → member_after x work ≡ x
same_work x (Keeps []) is = same_member x
same_work x (Keeps (e ∷ es)) is = absurd (cc is)
same_work x (WritesWhole f) is = absurd (cc is)
same_work x ClearsRest is = refl

module _ (x : Member) (act : Act) (event : ℕ → World → Completion → World) (image : List ℕ) (e : IsEventOf x act event) where
  stays : IsImageOf x image → IsCutEvent x event image
  stays stands = record {
    completion = CutOld;
    cut = tt;
    stands = λ n w at. subst (λ (v : World). HasMember v x.party.own (StandsWith image)) (sym (e.old n w)) (record { member = x; at = at; holds = stands });
  }

  moves : changes act.work ≡ true → IsImageOf (member_after x act.work) image → IsCutEvent x event image
  moves some stands = record {
    completion = CutNew;
    cut = tt;
    stands = λ n w at. record {
      member = member_after x act.work;
      at = ap (λ ms. member_at x.party.own ms) (e.new n w at some).members ∙ after_at w.members x.party.own x (member_after x act.work) at e.own;
      holds = stands;
    };
  }

  pub cut_is : IsOldOrNext x (member_after x act.work) image → IsCutEvent x event image
  cut_is (inl stands) = stays stands
  cut_is (inr stands) = by_change (changes act.work) refl
    where
      by_change : (b : Bool) → changes act.work ≡ b → IsCutEvent x event image
      by_change true is = moves is stands
      by_change false is = stays (subst (λ (y : Member). IsImageOf y image) (same_work x act.work is) stands)
