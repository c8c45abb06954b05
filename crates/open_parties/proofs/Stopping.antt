-- A stop: from the disk on which an event was begun to the party that is opened again.
use Rattle.std.proofs.Common.{◌≡◌, ◌⊎◌, inl, inr, ℕ, ◌-◌, ◌≤◌, not, List, Bool, true, false, Some, is_some, refl, sym, ◌∙◌, ap, subst, arith}
use Rattle.x_disk.specs.Disk.{View, Tells, LeavesOnly, LeavesNoMore, IsDurable, IsSound}
use Rattle.party_state.specs.State.{Party}
use Rattle.change_code.specs.declared.format.Format.{Format}
use Rattle.key_store.specs.Store.{Stands, StandsAs, IsStore}
use Rattle.member.specs.Member.{Member}
use Rattle.node_core.specs.Turns.{IsImageOf, IsOldOrNext, ReadIsOf, StableIsOf}
use Rattle.open_parties.specs.Stops.{IsDiskAtStop, IsRestarted}
use Rattle.x_disk.proofs.Alike.{told_now}

pub differ : (a : Bool) → a ≡ true → a ≡ false → ⊥
differ a is not = let both : true ≡ false = sym is ∙ not in cc both

-- a disk that is durable leaves what is read of it
pub only_now : (w : View) (P : List ℕ → Type 0) → Tells w → IsDurable w → ((image : List ℕ) → w.now ≡ Some image → P image) → (image : List ℕ) → w.may_leave image → P image
only_now w P tells durable now image left =
    let here = told_now w.now tells in
    subst P (sym (durable.only here.0 image here.1 left)) (now here.0 here.1)

-- nothing was carried out
pub at_stop_idle : (v : View) (x : Member) (n : ℕ) → IsDurable v → ReadIsOf v x → IsDiskAtStop v v x x ⊥ n
at_stop_idle v x n durable stands = record {
  either = λ told image left. inl (only_now v (IsImageOf x) told durable stands image left);
  early = λ told keep. absurd keep;
  stable = λ keep. absurd keep;
  pending = λ keep. absurd keep;
  whole = λ told keep. absurd keep;
  tells = refl;
}

module _ (v w : View) (x y : Member) (keep : Type 0) (n : ℕ) (tells : is_some w.now ≡ is_some v.now) where
  pub at_stop_none : IsDurable w → ReadIsOf w x → (keep → ⊥) → IsDiskAtStop v w x y keep n
  at_stop_none durable stands none = record {
    either = λ told image left. inl (only_now w (IsImageOf x) (tells ∙ told) durable stands image left);
    early = λ told keep few. absurd (none keep);
    stable = λ keep few. absurd (none keep);
    pending = λ keep four quiet. absurd (none keep);
    whole = λ told keep many. absurd (none keep);
    tells = tells;
  }

  pub at_stop_cut : IsSound w → (calls : ℕ) → calls ≡ n - 1 → n ≤ 4 → keep → StableIsOf w x → (calls ≡ 3 → w.faults ≡ 0 → ReadIsOf w y)
      → (Tells v → LeavesOnly v w (IsOldOrNext x y)) → (calls ≤ 1 → Tells v → LeavesOnly v w (IsImageOf x)) → IsDiskAtStop v w x y keep n
  at_stop_cut sound calls is most kept stable pending run early = record {
    either = λ told image left. one_of image ((run told).each image (sound.counts_now v.moment image (run told).later left));
    early = λ told keep low image left. (early (omega (arith, is, low)) told).each image (sound.counts_now v.moment image (early (omega (arith, is, low)) told).later left);
    stable = λ keep low image now. stable image now;
    pending = λ keep four quiet image now. pending (omega (arith, is, four)) quiet image now;
    whole = λ told keep many. absurd (omega (arith, many, most));
    tells = tells;
  }
    where
      one_of : (image : List ℕ) → IsOldOrNext x y image → IsImageOf x image ⊎ (keep × IsImageOf y image)
      one_of image (inl old) = inl old
      one_of image (inr new) = inr (kept, new)

  pub at_stop_whole : 5 ≤ n → IsDurable w → ReadIsOf w y → keep ⊎ (keep → ⊥) → ((keep → ⊥) → y ≡ x) → IsDiskAtStop v w x y keep n
  at_stop_whole many durable stands decided same = record {
    either = λ told image left. go decided image (here told image left);
    early = λ told keep few. absurd (omega (arith, many, few));
    stable = λ keep few. absurd (omega (arith, many, few));
    pending = λ keep four. absurd (omega (arith, many, four));
    whole = λ told keep m image left. here told image left;
    tells = tells;
  }
    where
      here : Tells v → (image : List ℕ) → w.may_leave image → IsImageOf y image
      here told = only_now w (IsImageOf y) (tells ∙ told) durable stands

      go : keep ⊎ (keep → ⊥) → (image : List ℕ) → IsImageOf y image → IsImageOf x image ⊎ (keep × IsImageOf y image)
      go (inl kept) image is = inr (kept, is)
      go (inr none) image is = inl (subst (λ (m : Member). IsImageOf m image) (same none) is)

-- the power went, and the party is opened
pub restarts : (v1 v2 w : View) (choice gate end : ℕ) (format : Format) (party : Party) → IsSound v2 → LeavesNoMore v1 v2 → (choice ≡ 0 → v2.now ≡ v1.stable) → (choice ≡ 1 → v2.now ≡ v1.now) → is_some v2.now ≡ is_some v1.now
    → w.now ≡ v2.now → IsStore w gate end format party
    → ((image : List ℕ) (another : Party) → v2.now ≡ Some image → Stands image another → party ≡ another) → ((image : List ℕ) (other : Format) (another : Party) → v2.now ≡ Some image → StandsAs image other another → format ≡ other)
    → IsRestarted v1 w choice gate end format party
restarts v1 v2 w choice gate end format party sound crash stable now tells same store exact in_format = record {
  store = store;
  among = λ image is. crash image (sound.now_among image (sym same ∙ is));
  stable = λ zero_choice. same ∙ stable zero_choice;
  now = λ one_choice. same ∙ now one_choice;
  exact = λ image other another is stands. (in_format image other another (sym same ∙ is) stands, exact image another (sym same ∙ is) (record { format = other; stands = stands }));
  tells = ap is_some same ∙ tells;
}
