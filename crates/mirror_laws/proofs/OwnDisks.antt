-- What is told of the second disk of a party: where it has none, what is told of a disk that is blank and stays so.
use Rattle.std.proofs.Common.{◌≡◌, ◌≢◌, ℕ, Option, Some, None, List, [], refl, sym, ◌∙◌, ap, subst}
use Rattle.x_disk.specs.Disk.{View, IsSound, IsUntouched, Tells}
use Rattle.x_disk.specs.Shelf.{IsAlike, alike_refl}
use Rattle.x_disk.proofs.Alike.{untouched_self}
use Rattle.member.specs.Member.{Member}
use Rattle.disk_pair.specs.Pairs.{ThirdsStay}
use Rattle.world_laws.specs.World.{World, member_at}
use Rattle.call_laws.specs.Sessions.{IsOff}
use Rattle.mirror_laws.specs.Sessions.{AllButOwnStay, HaveOwnDisks, IsNobodys}

abbrev pub no_disk : View
no_disk = record {
  now = Some [];
  stable = Some [];
  may_leave = λ c. c ≡ [];
  moment = 0;
  left_since = λ t c. c ≡ [];
  faults = 0;
  covers = λ end bytes calls. ⊥;
  calls_left = None;
}

abbrev pub second_view : Option (List ℕ) → (List ℕ → View) → View
second_view None disks = no_disk
second_view (Some second) disks = disks second

pub no_disk_sound : IsSound no_disk
no_disk_sound = record {
  tells = refl;
  now_among = λ b e. sym (cc e);
  stable_among = λ b e. sym (cc e);
  counts_now = λ t c early left. left;
  only_now = λ c left. left;
  covers_less = λ end bytes calls less fewer covered few some. absurd covered;
}

pub second_sound : (m : Option (List ℕ)) (disks : List ℕ → View) → ((q : List ℕ) → IsSound (disks q)) → IsSound (second_view m disks)
second_sound None disks sound = no_disk_sound
second_sound (Some second) disks sound = sound second

pub second_told : (m : Option (List ℕ)) (disks : List ℕ → View) → ((s : List ℕ) → m ≡ Some s → Tells (disks s)) → Tells (second_view m disks)
second_told None disks tells = refl
second_told (Some second) disks tells = tells second refl

pub second_alike : (m : Option (List ℕ)) (old new : List ℕ → View) → ((s : List ℕ) → m ≡ Some s → IsAlike (old s) (new s)) → IsAlike (second_view m old) (second_view m new)
second_alike None old new stays = alike_refl no_disk
second_alike (Some second) old new stays = stays second refl

pub second_off : (m : Option (List ℕ)) (old new : List ℕ → View) → ((s : List ℕ) → m ≡ Some s → IsOff (old s).may_leave (new s)) → IsOff (second_view m old).may_leave (second_view m new)
second_off None old new off = record { image = []; reads = refl; left = refl; durable = record { only = λ b c e left. left ∙ cc e; stable = refl } }
second_off (Some second) old new off = off second refl

pub second_off_since : (m : Option (List ℕ)) (old mid new : List ℕ → View) → ((s : List ℕ) → m ≡ Some s → IsOff ((mid s).left_since (old s).moment) (new s)) → IsOff ((second_view m mid).left_since (second_view m old).moment) (second_view m new)
second_off_since None old mid new off = record { image = []; reads = refl; left = refl; durable = record { only = λ b c e left. left ∙ cc e; stable = refl } }
second_off_since (Some second) old mid new off = off second refl

pub second_untouched : (m : Option (List ℕ)) (old new : List ℕ → View) → ((s : List ℕ) → m ≡ Some s → IsUntouched (old s) (new s)) → IsUntouched (second_view m old) (second_view m new)
second_untouched None old new untouched = untouched_self no_disk no_disk_sound
second_untouched (Some second) old new untouched = untouched second refl

-- the disks of the other members stay
pub record ButOwn (start : World) (mirror : List ℕ → Option (List ℕ)) (name : List ℕ) (old new : List ℕ → View) : Type 0 where
  pub firsts : (q : List ℕ) (x : Member) → member_at q start.members ≡ Some x → q ≢ name → IsAlike (old q) (new q)
  pub seconds : (q s : List ℕ) (x : Member) → member_at q start.members ≡ Some x → q ≢ name → mirror q ≡ Some s → IsAlike (old s) (new s)

-- they are others
module _ (start : World) (mirror : List ℕ → Option (List ℕ)) (apart : HaveOwnDisks mirror start) (name : List ℕ) (x0 : Member) (at0 : member_at name start.members ≡ Some x0) where
  pub not_second : (q : List ℕ) (x : Member) → member_at q start.members ≡ Some x → mirror name ≢ Some q
  not_second q x h = apart.firsts q name x x0 h at0

  pub not_first : (q : List ℕ) (x : Member) → member_at q start.members ≡ Some x → (s : List ℕ) → mirror q ≡ Some s → s ≢ name
  not_first q x h s e is = apart.firsts name q x0 x at0 h (e ∙ ap (λ (a : List ℕ). Some a) is)

  pub not_mirror : (q : List ℕ) (x : Member) → member_at q start.members ≡ Some x → q ≢ name → (s : List ℕ) → mirror q ≡ Some s → mirror name ≢ Some s
  not_mirror q x h ne s e = apart.seconds q name s x x0 h at0 ne e

  module _ (old new : List ℕ → View) where
    -- where all stay that aren't the party's
    pub others_stay : ((other : List ℕ) → other ≢ name → mirror name ≢ Some other → IsAlike (old other) (new other)) → ButOwn start mirror name old new
    others_stay thirds = record {
      firsts = λ q x h ne. thirds q ne (not_second q x h);
      seconds = λ q s x h ne e. thirds s (not_first q x h s e) (not_mirror q x h ne s e);
    }

    pub but_own : AllButOwnStay (mirror name) name old new → ButOwn start mirror name old new
    but_own stay = others_stay (go (mirror name) refl stay)
      where
        go : (m : Option (List ℕ)) → mirror name ≡ m → AllButOwnStay m name old new → (other : List ℕ) → other ≢ name → mirror name ≢ Some other → IsAlike (old other) (new other)
        go None none others other ne away = others other ne
        go (Some second) has thirds other ne away = thirds other ne (λ is. away (has ∙ ap (λ (a : List ℕ). Some a) (sym is)))

    -- where all stay but the party's and a file that is no disk of a member
    pub but_nobodys : (file : List ℕ) → IsNobodys start mirror file → ThirdsStay name file old new → ButOwn start mirror name old new
    but_nobodys file nobodys thirds = record {
      firsts = λ q x h ne. thirds q ne (λ is. nobodys.no_first x (subst (λ (a : List ℕ). member_at a start.members ≡ Some x) is h));
      seconds = λ q s x h ne e. thirds s (not_first q x h s e) (λ is. nobodys.no_second q x h (e ∙ ap (λ (a : List ℕ). Some a) is));
    }
