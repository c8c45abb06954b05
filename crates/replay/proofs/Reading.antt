-- What a read of a party's disk gives behind an event that broke off.
use Rattle.std.proofs.Common.{◌≡◌, ◌⊎◌, inl, inr, ℕ, List, Some, sym, ◌∙◌, subst}
use Rattle.x_disk.specs.Disk.{View, Tells}
use Rattle.member.specs.Member.{Member}
use Rattle.node_core.specs.Turns.{IsImageOf}
use Rattle.replay.specs.Breaking.{TellsAndReadsAs}
use Rattle.open_parties.specs.Failing.{ReadsEither}
use Rattle.x_disk.proofs.Alike.{told_now}

-- what a read gives is one image
reads_some : (v : View) (x : Member) (image : List ℕ) → Tells v → v.now ≡ Some image → IsImageOf x image → TellsAndReadsAs v x
reads_some v x image tells is stands = record { tells = tells; stands = λ other now. go other now }
  where
    go : (other : List ℕ) → v.now ≡ Some other → IsImageOf x other
    go other now =
        let both : Some image ≡ Some other = sym is ∙ now in
        let same : image ≡ other = cc both in
        subst (IsImageOf x) same stands

pub reads_one : (v : View) (x y : Member) (keep : Type 0) → ReadsEither v x y keep → TellsAndReadsAs v x ⊎ (keep × TellsAndReadsAs v y)
reads_one v x y keep reads =
    let here = told_now v.now reads.tells in
    go here.0 here.1 (reads.either here.0 here.1)
  where
    go : (image : List ℕ) → v.now ≡ Some image → IsImageOf x image ⊎ (keep × IsImageOf y image) → TellsAndReadsAs v x ⊎ (keep × TellsAndReadsAs v y)
    go image is (inl old) = inl (reads_some v x image reads.tells is old)
    go image is (inr next) = inr (next.0, reads_some v y image reads.tells is next.1)
