-- The parties of the runs, as they start: each draws one key at one moment, and each link is loaded.
use Rattle.std.proofs.Common.{arith, ◌≡◌, ℕ, true, false, List, [], refl, codes}
use Rattle.std.specs.List.{All}
use Rattle.x_base.specs.Names.{IsIdent, IsLabel}
use Rattle.x_base.specs.Ident.{repeated, expanded}
use Rattle.x_base.specs.declared.party.Role.{Role}
use Rattle.x_base.specs.declared.party.Side.{Side}
use Rattle.x_base.specs.declared.party.Side.TheVariants.{Sends, Takes}
use Rattle.x_mac.specs.declared.pair.Pair.{Pair}
use Rattle.party_tables.specs.declared.link.LinkRec.{LinkRec}
use Rattle.party_tables.specs.Tables.{Distinct}
use Rattle.party_tables.specs.Keys.{same_link, link_key, sends, takes}
use Rattle.party_tables.specs.Ranges.{IsPair}
use Rattle.party_state.specs.State.{Party, expands_alike}
use Rattle.change_code.specs.declared.format.Format.TheVariants.{Two}
use Rattle.change_code.specs.declared.space.Space.{Space}
use Rattle.member.specs.Member.{Member}
use Rattle.world_laws.specs.Starts.{HasOtherEnd}
use Rattle.world_laws.proofs.LiveKeys.Drawing.{generator, seed_below}
use Rattle.world_laws.proofs.LiveKeys.Networks.{Origin, StartLink, StartMember}

abbrev pub banka : List ℕ
banka = codes "BANKA"

abbrev pub bankb : List ℕ
bankb = codes "BANKB"

abbrev pub centre : List ℕ
centre = codes "CENTRE"

abbrev pub first_pair : Pair
first_pair = record { left = 1; right = 2 }

abbrev pub second_pair : Pair
second_pair = record { left = 3; right = 4 }

abbrev pub loaded : List ℕ → List ℕ → Side → Pair → LinkRec
loaded peer label side pair = record { peer = peer; label = label; side = side; pair = pair; next = 1; ready = true }

abbrev pub party_with : Role → List ℕ → List LinkRec → Party
party_with role own links = record { own = own; role = role; generator = generator; links = links; keys = []; exchanges = []; answers = [] }

-- so much room, in format 2
abbrev pub space : ℕ → Space
space room = record { format = Two; room = room }

abbrev pub member_with : ℕ → Party → Member
member_with room p = record { party = p; space = space room }

pub first_pair_fits : IsPair first_pair
first_pair_fits = record { left = omega arith; right = omega arith }

pub second_pair_fits : IsPair second_pair
second_pair_fits = record { left = omega arith; right = omega arith }

pub apart_ab : expands_alike banka bankb ≡ false
unfolding expanded repeated
apart_ab = refl

pub apart_ac : expands_alike banka centre ≡ false
unfolding expanded repeated
apart_ac = refl

pub apart_bc : expands_alike bankb centre ≡ false
unfolding expanded repeated
apart_bc = refl

module _ (ms : List Member) (origin : ℕ → Origin) where
  pub sending_start : (own peer label : List ℕ) (pair : Pair) → IsIdent peer → IsLabel label → IsPair pair → HasOtherEnd ms peer (takes own label) (loaded peer label Sends pair)
      → origin pair.left ≡ record { own = own; key = sends peer label } → StartLink ms origin own (loaded peer label Sends pair)
  sending_start own peer label pair peer_is label_is pair_is end first = record {
    link = record { peer = peer_is; label = label_is; pair = pair_is; next = record { low = omega arith; high = omega arith } };
    unused = record { ready = refl; next = refl };
    sent = λ side. end;
    taken = λ side. absurd (cc side);
    first = λ side. first;
  }

  pub taking_start : (own peer label : List ℕ) (pair : Pair) → IsIdent peer → IsLabel label → IsPair pair → HasOtherEnd ms peer (sends own label) (loaded peer label Takes pair)
      → StartLink ms origin own (loaded peer label Takes pair)
  taking_start own peer label pair peer_is label_is pair_is end = record {
    link = record { peer = peer_is; label = label_is; pair = pair_is; next = record { low = omega arith; high = omega arith } };
    unused = record { ready = refl; next = refl };
    sent = λ side. absurd (cc side);
    taken = λ side. end;
    first = λ side. absurd (cc side);
  }

  pub member_start : (room : ℕ) (role : Role) (own : List ℕ) (links : List LinkRec) → IsIdent own → All (StartLink ms origin own) links → Distinct link_key same_link links
      → StartMember ms origin (member_with room (party_with role own links))
  member_start room role own links own_is all once = record {
    own = own_is;
    generator = record { key = record { left = omega arith; right = omega arith }; v = seed_below };
    links = all;
    once = once;
    empty = record { keys = refl; exchanges = refl; answers = refl };
  }
