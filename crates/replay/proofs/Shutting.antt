-- Disks that are open, and what a crash leaves of one that isn't.
use Rattle.std.proofs.Common.{◌≡◌, ⊎_elim, ℕ, Bool, true, false, cond, List, [], ◌∷◌, Some, bytes_eq, refl, sym, ◌∙◌, ap, subst}
use mathlib.Core.Logic.{◌≢◌}
use Rattle.std.proofs.lemmas.Slice.Eq.{bytes_eq-Decides}
use Rattle.x_disk.specs.Disk.{View, IsSound}
use Rattle.member.specs.Member.{Member}
use Rattle.node_core.specs.Turns.{member_of}
use Rattle.world_laws.specs.World.{member_at}
use Rattle.course.specs.Acts.{Means}
use Rattle.course.specs.Course.{Course}
use Rattle.course.specs.LineEvents.{LineEvent}
use Rattle.course.specs.declared.act.LineAct.{LineAct}
use Rattle.course.specs.declared.progress.Progress.{Progress}
use Rattle.replay.specs.Breaking.{IsShut, LeavesShut}
use Rattle.replay.specs.Crash.{Crosses}
use Rattle.open_parties.specs.Crash.{held_of, disk_of}
use Rattle.replay.specs.PlayState.{Shows}
use Rattle.open_parties.specs.OpenParties.{members, with_held, AreIn, AreOpen, IsIn, IsOpen}
use Rattle.replay.specs.declared.play_state.PlayState.{PlayState}
use Rattle.open_parties.specs.declared.open_party.OpenParty.{OpenParty}
use Rattle.open_parties.specs.declared.open_party.PartyDisk.{PartyDisk}
use Rattle.open_parties.specs.declared.open_party.PartyDisk.TheVariants.{Open, Closed, Away}
use Rattle.replay.proofs.LineByLine.{disk_sound}
use Rattle.open_parties.proofs.Members.{cond_not, cond_yes, same_not}

-- disks that stand for members are open
pub all_open : {D : Type 0} (tell : Bool) (told : D → View) (open_parties : List (OpenParty D)) → AreIn tell told open_parties → AreOpen open_parties
all_open tell told [] all = tt
all_open tell told (s ∷ open_parties) all = (go s.held all.0, all_open tell told open_parties all.1)
  where
    go : (h : PartyDisk _) → IsIn tell told s.own h → IsOpen h
    go (Open node) is = tt
    go (Closed disk) is = absurd is
    go Away is = absurd is

-- and so is the one of each of them
pub none_shut : {D : Type 0} (tell : Bool) (told : D → View) (open_parties : List (OpenParty D)) → AreIn tell told open_parties → (own : List ℕ) (x : Member) → member_at own (members open_parties) ≡ Some x → IsShut (held_of open_parties own) → ⊥
none_shut tell told [] all own x at shut = absurd (cc at)
none_shut {D = D} tell told (s ∷ open_parties) all own x at shut = go s.held all.0 at shut (bytes_eq s.own own) refl (none_shut tell told open_parties all.1 own x)
  where
    apart : bytes_eq s.own own ≡ false → own ≢ s.own
    apart is = λ same. let both : true ≡ false = sym ((bytes_eq-Decides s.own own).1 (sym same)) ∙ is in cc both

    go : (h : PartyDisk D) → IsIn tell told s.own h → member_at own (with_held h (members open_parties)) ≡ Some x → IsShut (cond (bytes_eq s.own own) h (held_of open_parties own)) → (b : Bool) → bytes_eq s.own own ≡ b → (member_at own (members open_parties) ≡ Some x → IsShut (held_of open_parties own) → ⊥) → ⊥
    go (Open node) is there closed true yes_is rest = subst IsShut (cond_yes (bytes_eq s.own own) (Open node) (held_of open_parties own) yes_is) closed
    go (Open node) is there closed false not_is rest =
        rest
        (sym (cond_not (bytes_eq own node.party.own) (Some (member_of node)) (member_at own (members open_parties)) (same_not own node.party.own (λ same. apart not_is (same ∙ is.named)))) ∙ there)
        (subst IsShut (cond_not (bytes_eq s.own own) (Open node) (held_of open_parties own) not_is) closed)
    go (Closed disk) is there closed b decided rest = absurd is
    go Away is there closed b decided rest = absurd is

-- what is held in an event that broke off
pub leaves_shut : {D : Type 0} (told : D → View) (begin entry : List ℕ → View) (a : LineAct) (old new : PlayState D) (now : Progress) → ((disk : D) → IsSound (told disk)) → ((name : List ℕ) → IsSound (entry name)) → Crosses told begin entry a old new now
    → (c : Course) (h : LineEvent) → c.now ≡ now → Shows true told c.world old → Means a h → LeavesShut told entry c h new.parties
leaves_shut told begin entry a old new now sound shelved crosses c h is shows means = λ own x at shut image left.
    ⊎_elim
    (λ still. absurd (none_shut true told old.parties shows.all_open own x (ap (λ (ms : List Member). member_at own ms) shows.members_are ∙ at) (subst IsShut still.held shut)))
    (λ run. run.each image ((disk_sound told entry new.parties own sound shelved).counts_now (disk_of told begin old.parties own).moment image run.later left))
    (crosses c h is shows means own)

-- nothing was begun
pub none_leaves : {D : Type 0} (told : D → View) (entry : List ℕ → View) (s : PlayState D) (c : Course) (h : LineEvent) → Shows true told c.world s → LeavesShut told entry c h s.parties
none_leaves told entry s c h shows = λ own x at shut image left.
    absurd (none_shut true told s.parties shows.all_open own x (ap (λ (ms : List Member). member_at own ms) shows.members_are ∙ at) shut)
