-- What writes no party's disk: all disks stay, or all but one or two, each of which wasn't written or is no member's.
use Rattle.std.proofs.Common.{◌≡◌, ◌≢◌, ◌⊎◌, inl, inr, ℕ, Option, Some, List, sym, subst}
use Rattle.x_disk.specs.Disk.{View, IsSound, IsUntouched}
use Rattle.x_disk.specs.Shelf.{OthersStay, AllStay}
use Rattle.x_disk.proofs.Alike.{untouched_alike}
use Rattle.member.specs.Member.{Member}
use Rattle.disk_pair.specs.Pairs.{ThirdsStay}
use Rattle.world_laws.specs.World.{World, member_at}
use Rattle.call_laws.proofs.Members.{names_differ}
use Rattle.mirror_laws.specs.Sessions.{IsAside, IsNobodys}

module _ (start : World) (mirror : List ℕ → Option (List ℕ)) (old new : List ℕ → View) (sound : (name : List ℕ) → IsSound (old name)) where
  -- the disk of this name wasn't written, or is no member's
  abbrev pub StaysOrNobodys : List ℕ → Type 0
  StaysOrNobodys name = IsUntouched (old name) (new name) ⊎ IsNobodys start mirror name

  pub aside_of_each : ((name : List ℕ) → StaysOrNobodys name) → IsAside start mirror old new
  aside_of_each each = record { firsts = λ q x h. first q x h (each q); seconds = λ q s x h e. second q s x h e (each s) }
    where
      first : (q : List ℕ) (x : Member) → member_at q start.members ≡ Some x → StaysOrNobodys q → IsUntouched (old q) (new q)
      first q x h (inl untouched) = untouched
      first q x h (inr nobodys) = absurd (nobodys.no_first x h)

      second : (q s : List ℕ) (x : Member) → member_at q start.members ≡ Some x → mirror q ≡ Some s → StaysOrNobodys s → IsUntouched (old s) (new s)
      second q s x h e (inl untouched) = untouched
      second q s x h e (inr nobodys) = absurd (nobodys.no_second q x h e)

  pub aside_of_all : AllStay old new → IsAside start mirror old new
  aside_of_all stay = aside_of_each (λ q. inl (untouched_alike (old q) (new q) (sound q) (stay q)))

  pub aside_but_one : (file : List ℕ) → StaysOrNobodys file → OthersStay file old new → IsAside start mirror old new
  aside_but_one file is others = aside_of_each each
    where
      each : (q : List ℕ) → StaysOrNobodys q
      each q = elim (names_differ q file) [
        | inl same ↦ subst StaysOrNobodys (sym same) is
        | inr ne ↦ inl (untouched_alike (old q) (new q) (sound q) (others q ne))
      ]

  pub aside_but_two : (one two : List ℕ) → StaysOrNobodys one → StaysOrNobodys two → ThirdsStay one two old new → IsAside start mirror old new
  aside_but_two one two one_is two_is thirds = aside_of_each each
    where
      but_one : (q : List ℕ) → q ≢ one → StaysOrNobodys q
      but_one q ne = elim (names_differ q two) [
        | inl is ↦ subst StaysOrNobodys (sym is) two_is
        | inr apart ↦ inl (untouched_alike (old q) (new q) (sound q) (thirds q ne apart))
      ]

      each : (q : List ℕ) → StaysOrNobodys q
      each q = elim (names_differ q one) [
        | inl is ↦ subst StaysOrNobodys (sym is) one_is
        | inr ne ↦ but_one q ne
      ]
