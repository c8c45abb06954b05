-- A start: two banks, each of which shares a key-encrypting key with a key translation centre.
use Rattle.std.proofs.Common.{arith, ◌≡◌, ℕ, false, List, [], ◌∷◌, refl, AllPairs}
use Rattle.std.specs.Prelude.{◌==◌, cond}
use Rattle.std.specs.List.{All}
use Rattle.std.proofs.lemmas.List.Elements.{All-nil, All-from_recursion}
use Rattle.x_base.specs.declared.party.Role.TheVariants.{Bank, Translation}
use Rattle.x_base.specs.declared.party.Side.TheVariants.{Sends, Takes}
use Rattle.party_tables.specs.declared.link.LinkRec.{LinkRec}
use Rattle.party_tables.specs.Keys.{sends}
use Rattle.party_state.specs.State.{Party, centre_label, expands_alike}
use Rattle.member.specs.Member.{Member}
use Rattle.world_laws.specs.Starts.{IsStart}
use Rattle.world_laws.proofs.LiveKeys.Networks.{Origin, StartLink, StartMember, pairs_more, beginning, is_start}
use Rattle.world_laws.proofs.LiveKeys.Parties.{banka, bankb, centre, first_pair, second_pair, loaded, party_with, member_with, first_pair_fits, second_pair_fits, apart_ab, apart_ac, apart_bc, sending_start, taking_start, member_start}

-- the centre shares a key-encrypting key with each bank

abbrev pub in_a : LinkRec
in_a = loaded centre centre_label Sends first_pair

abbrev pub in_b : LinkRec
in_b = loaded centre centre_label Takes second_pair

abbrev pub with_a : LinkRec
with_a = loaded banka centre_label Takes first_pair

abbrev pub with_b : LinkRec
with_b = loaded bankb centre_label Sends second_pair

abbrev pub first : Party
first = party_with Bank banka (in_a ∷ [])

abbrev pub second : Party
second = party_with Bank bankb (in_b ∷ [])

abbrev pub middle : Party
middle = party_with Translation centre (with_a ∷ with_b ∷ [])

abbrev origin : ℕ → Origin
origin n = cond (n == 1) (record { own = banka; key = sends centre centre_label }) (record { own = centre; key = sends bankb centre_label })

module _ (room : ℕ) where
  abbrev pub member_a : Member
  member_a = member_with room first

  abbrev pub member_b : Member
  member_b = member_with room second

  abbrev pub member_c : Member
  member_c = member_with room middle

  abbrev members : List Member
  members = member_a ∷ member_b ∷ member_c ∷ []

  link_a : StartLink members origin banka in_a
  link_a = sending_start members origin banka centre centre_label first_pair refl refl first_pair_fits (record { member = member_c; at = refl; link = with_a; found = refl; pair = refl }) refl

  link_b : StartLink members origin bankb in_b
  link_b = taking_start members origin bankb centre centre_label second_pair refl refl second_pair_fits (record { member = member_c; at = refl; link = with_b; found = refl; pair = refl })

  link_to_a : StartLink members origin centre with_a
  link_to_a = taking_start members origin centre banka centre_label first_pair refl refl first_pair_fits (record { member = member_a; at = refl; link = in_a; found = refl; pair = refl })

  link_to_b : StartLink members origin centre with_b
  link_to_b = sending_start members origin centre bankb centre_label second_pair refl refl second_pair_fits (record { member = member_b; at = refl; link = in_b; found = refl; pair = refl }) refl

  all_start : All (StartMember members origin) members
  all_start = All-from_recursion (StartMember members origin) members (
    member_start members origin room Bank banka (in_a ∷ []) refl (All-from_recursion (StartLink members origin banka) (in_a ∷ []) (link_a, tt)) (refl, tt),
    (
      member_start members origin room Bank bankb (in_b ∷ []) refl (All-from_recursion (StartLink members origin bankb) (in_b ∷ []) (link_b, tt)) (refl, tt),
      (
        member_start members origin room Translation centre (with_a ∷ with_b ∷ []) refl (All-from_recursion (StartLink members origin centre) (with_a ∷ with_b ∷ []) (link_to_a, (link_to_b, tt))) (refl, (refl, tt)),
        tt,
      ),
    ),
  )

  abbrev Apart : Member → Member → Type 0
  Apart x y = expands_alike x.party.own y.party.own ≡ false

  apart : AllPairs Apart members
  apart =
      pairs_more Apart member_a (member_b ∷ member_c ∷ []) (All-from_recursion (Apart member_a) (member_b ∷ member_c ∷ []) (apart_ab, (apart_ac, tt)))
      (pairs_more Apart member_b (member_c ∷ []) (All-from_recursion (Apart member_b) (member_c ∷ []) (apart_bc, tt))
      (pairs_more Apart member_c [] (All-nil (Apart member_c)) (λ i j d l m. absurd (omega arith))))

  pub started : IsStart (beginning members)
  started = is_start members origin all_start (refl, (refl, (refl, tt))) apart
