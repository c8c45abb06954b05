-- A start: two banks that share one key-encrypting key, whatever their rooms.
use Rattle.std.proofs.Common.{arith, ◌≡◌, ℕ, false, List, [], ◌∷◌, refl, codes, AllPairs}
use Rattle.std.specs.List.{All}
use Rattle.std.proofs.lemmas.List.Elements.{All-nil, All-from_recursion}
use Rattle.x_base.specs.declared.party.Role.TheVariants.{Bank}
use Rattle.x_base.specs.declared.party.Side.TheVariants.{Sends, Takes}
use Rattle.party_tables.specs.declared.link.LinkRec.{LinkRec}
use Rattle.party_tables.specs.Keys.{sends}
use Rattle.party_state.specs.State.{Party, expands_alike}
use Rattle.member.specs.Member.{Member}
use Rattle.world_laws.specs.World.{World}
use Rattle.world_laws.specs.Starts.{IsStart}
use Rattle.world_laws.proofs.LiveKeys.Networks.{Origin, StartLink, StartMember, pairs_more, beginning, is_start}
use Rattle.world_laws.proofs.LiveKeys.Parties.{banka, bankb, first_pair, loaded, party_with, member_with, first_pair_fits, apart_ab, sending_start, taking_start, member_start}

abbrev pub label : List ℕ
label = codes "K1"

abbrev pub out : LinkRec
out = loaded bankb label Sends first_pair

abbrev pub in' : LinkRec
in' = loaded banka label Takes first_pair

abbrev pub first : Party
first = party_with Bank banka (out ∷ [])

abbrev pub second : Party
second = party_with Bank bankb (in' ∷ [])

module _ (room : ℕ) where
  abbrev members : List Member
  members = member_with room first ∷ member_with room second ∷ []

  abbrev origin : ℕ → Origin
  origin n = record { own = banka; key = sends bankb label }

  abbrev pub two_banks : World
  two_banks = beginning (member_with room first ∷ member_with room second ∷ [])

  all_start : All (StartMember members origin) members
  all_start = All-from_recursion (StartMember members origin) members (
    member_start members origin room Bank banka (out ∷ []) refl
        (All-from_recursion (StartLink members origin banka) (out ∷ []) (sending_start members origin banka bankb label first_pair refl refl first_pair_fits (record { member = member_with room second; at = refl; link = in'; found = refl; pair = refl }) refl, tt))
        (refl, tt),
    (
      member_start members origin room Bank bankb (in' ∷ []) refl
          (All-from_recursion (StartLink members origin bankb) (in' ∷ []) (taking_start members origin bankb banka label first_pair refl refl first_pair_fits (record { member = member_with room first; at = refl; link = out; found = refl; pair = refl }), tt))
          (refl, tt),
      tt,
    ),
  )

  apart : AllPairs (λ (x y : Member). expands_alike x.party.own y.party.own ≡ false) members
  apart = pairs_more (λ (x y : Member). expands_alike x.party.own y.party.own ≡ false) (member_with room first) (member_with room second ∷ [])
      (All-from_recursion (λ (y : Member). expands_alike banka y.party.own ≡ false) (member_with room second ∷ []) (apart_ab, tt))
      (pairs_more (λ (x y : Member). expands_alike x.party.own y.party.own ≡ false) (member_with room second) [] (All-nil (λ (y : Member). expands_alike bankb y.party.own ≡ false)) (λ i j d l m. absurd (omega arith)))

  pub two_banks_start : IsStart two_banks
  two_banks_start = is_start members origin all_start (refl, (refl, tt)) apart
