-- An image stands for one party, with one space.
use Rattle.std.proofs.Common.{◌≡◌, ℕ, List, ap, sym, ◌∙◌}
use Rattle.key_journal.specs.Journal.{HoldsBodies}
use Rattle.key_journal.specs.States.{room_of}
use Rattle.party_state.specs.State.{Party}
use Rattle.change_code.specs.declared.format.Format.{Format}
use Rattle.change_code.specs.declared.space.Space.{Space}
use Rattle.key_store.specs.Store.{Stands, StandsAs, StandsWith}

pub as_format : (image : List ℕ) (p : Party) (s : Space) → StandsWith image p s → StandsAs image s.format p
as_format image p s with = record { bodies = with.bodies; holds = with.holds; fold = with.fold }

pub in_format : (image : List ℕ) (p : Party) (f : Format) → StandsAs image f p → Stands image p
in_format image p f stands = record { format = f; stands = stands }

-- with a space, and so in its format
pub so : (image : List ℕ) (p : Party) (s : Space) → StandsWith image p s → Stands image p
so image p s with = in_format image p s.format (as_format image p s with)

same_space : (s t : Space) → s.format ≡ t.format → s.room ≡ t.room → s ≡ t
same_space s t format room = let same : (let u : Space = record { format = s.format; room = s.room } in u) ≡ record { format = t.format; room = t.room } = cc in same

module _ (one_party : (image : List ℕ) (first second : Party) → Stands image first → Stands image second → first ≡ second)
    (one_format : (image : List ℕ) (first second : Format) (party other : Party) → StandsAs image first party → StandsAs image second other → first ≡ second)
    (one_list : (image : List ℕ) (first second : List (List ℕ)) → HoldsBodies image first → HoldsBodies image second → first ≡ second) where
  pub one_space : (image : List ℕ) (first second : Party) (space other : Space) → StandsWith image first space → StandsWith image second other → (first ≡ second) × (space ≡ other)
  one_space image first second space other a b = (
    one_party image first second (so image first space a) (so image second other b),
    same_space space other (one_format image space.format other.format first second (as_format image first space a) (as_format image second other b))
        (sym a.left ∙ (ap room_of (one_list image a.bodies b.bodies a.holds b.holds) ∙ b.left)),
  )
