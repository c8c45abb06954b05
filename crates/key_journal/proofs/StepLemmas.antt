-- What a write that is on the disk makes of a journal at rest.
use Rattle.std.proofs.Common.{◌≡◌, ℕ, ◌+◌, ◌≤◌, List, [], ◌∷◌, ◌++◌, length, Option, Some, None, is_some, refl, sym, ◌∙◌, ap, subst, arith}
use Rattle.key_journal.specs.Layout.{area_size}
use Rattle.x_disk.specs.Disk.{View, IsTornAt, overwrite, IsDurable, IsWritten, LeavesOnly}
use Rattle.x_disk.proofs.Runs.{weaker}
use Rattle.key_journal.specs.Journal.{frame_of, frames, start, HoldsBodies, gate_place, IsBody, Stages}
use Rattle.key_journal.specs.States.{HasBodies, HasStaged, IsFrame, IsReady, IsStaged, HoldsOldOrNew, HasRoom, MayTear}
use Rattle.key_journal.proofs.ImageLemmas.{frame_torn, frame_written, gate_torn, gate_written, length-frame_of, length-frames-push, gate_in, gate_long, start_kept, start_in, fits_area}
use Rattle.key_journal.proofs.SameLemmas.{same_holds}

pub told_before : (old new : Option (List ℕ)) (c : List ℕ) → is_some new ≡ is_some old → new ≡ Some c → (b : List ℕ) × (old ≡ Some b)
told_before (Some b) new c tells is = (b, refl)
told_before None None c tells is = absurd (cc is)
told_before None (Some d) c tells is = absurd (cc tells)

-- on a disk at rest, only what a read gives can be torn
pub torn_from_now : (old : View) (at n : ℕ) (image c : List ℕ) → IsDurable old → old.now ≡ Some image → MayTear old at n c → IsTornAt at n image c
torn_from_now old at n image c durable now torn = subst (λ (l : List ℕ). IsTornAt at n l c) (durable.only image torn.0 now torn.1) torn.2

module _ (old new : View) (gate end : ℕ) where
  pub ready_place : IsReady old gate end → (bodies : List (List ℕ)) (image : List ℕ) → old.now ≡ Some image → HoldsBodies image bodies → (gate ≡ gate_place image bodies) × (end ≡ start image + area_size)
  ready_place ready bodies image now holds =
      let at = ready.journal image now in
      let same = same_holds image at.bodies bodies at.holds holds in (
        at.place ∙ ap (λ (bs : List (List ℕ)). gate_place image bs) same,
        at.last,
      )

  pub stage_moment : (n : ℕ) → IsReady old gate end → LeavesOnly old new (MayTear old (gate + 1) n) → (bodies : List (List ℕ)) → HasBodies old bodies → LeavesOnly old new (λ c. HoldsBodies c bodies)
  stage_moment n ready run bodies has =
      let place = ready_place ready bodies has.image has.now has.holds in
      weaker old new (MayTear old (gate + 1) n) (λ c. HoldsBodies c bodies) run
      (λ c torn. frame_torn has.image bodies n c has.holds (subst (λ (g : ℕ). IsTornAt (g + 1) n has.image c) place.0 (torn_from_now old (gate + 1) n has.image c ready.durable has.now torn)))

  stage_image : (bodies : List (List ℕ)) (body image : List ℕ) → HoldsBodies image bodies → IsBody body → gate + 1 + length (frame_of body) ≤ end → gate ≡ gate_place image bodies → end ≡ start image + area_size
      → Stages (overwrite (gate + 1) (frame_of body) image) bodies body
  stage_image bodies body image holds is_body fits place last =
      subst (λ (g : ℕ). Stages (overwrite (g + 1) (frame_of body) image) bodies body) (sym place) (frame_written image bodies body holds is_body (omega (arith, fits, place, last)))

  pub stage_done : (frame body : List ℕ) → IsReady old gate end → IsWritten (gate + 1) frame old new → gate + 1 + length frame ≤ end → frame ≡ frame_of body → IsBody body → (bodies : List (List ℕ)) → HasBodies old bodies → HasStaged new bodies body
  stage_done frame body ready written fits is is_body bodies has =
      let place = ready_place ready bodies has.image has.now has.holds in
      let size : length frame ≡ length (frame_of body) = ap length is in
      record {
        image = overwrite (gate + 1) (frame_of body) has.image;
        now = written has.image has.now ∙ ap (λ (f : List ℕ). Some (overwrite (gate + 1) f has.image)) is;
        stages = stage_image bodies body has.image has.holds is_body (omega (arith, fits, size)) place.0 place.1;
      }

  pub stage_ready : (frame : List ℕ) → IsFrame frame → IsReady old gate end → IsWritten (gate + 1) frame old new → is_some new.now ≡ is_some old.now → IsDurable new → gate + 1 + length frame ≤ end → IsStaged new gate (gate + length frame) end
  stage_ready frame is ready written tells durable fits =
      let size : length frame ≡ length is.body + 5 = ap length is.is ∙ length-frame_of is.body in
      record {
        room = omega (arith, size);
        fits = omega (arith, fits);
        within = ready.within;
        durable = durable;
        journal = λ image now.
            let was = told_before old.now new.now image tells now in
            let at = ready.journal was.0 was.1 in
            let staged = stage_image at.bodies is.body was.0 at.holds is.is_body (omega (arith, fits, ap length is.is)) at.place at.last in
            let same : overwrite (gate + 1) (frame_of is.body) was.0 ≡ image =
            let there : Some (overwrite (gate + 1) frame was.0) ≡ Some image = sym (written was.0 was.1) ∙ now in
            let it : overwrite (gate + 1) frame was.0 ≡ image = cc there in
            ap (λ (f : List ℕ). overwrite (gate + 1) f was.0) (sym is.is) ∙ it in
            let stages : Stages image at.bodies is.body = subst (λ (l : List ℕ). Stages l at.bodies is.body) same staged in
            let kept : start image ≡ start was.0 =
            ap start (sym same) ∙ start_kept (gate + 1) (frame_of is.body) was.0 (omega (arith, at.place, start_in was.0)) (omega (arith, at.place, gate_in was.0 at.bodies at.holds)) in
            record { bodies = at.bodies; body = is.body; stages = stages; place = omega (arith, at.place, kept); after = omega (arith, size); last = omega (arith, at.last, kept) };
      }

module _ (old new : View) (gate next end : ℕ) where
  staged_place : IsStaged old gate next end → (bodies : List (List ℕ)) (body image : List ℕ) → old.now ≡ Some image → Stages image bodies body → gate ≡ gate_place image bodies
  staged_place staged bodies body image now stages =
      let at = staged.journal image now in
      at.place ∙ ap (λ (bs : List (List ℕ)). gate_place image bs) (same_holds image at.bodies bodies at.stages.holds stages.holds)

  pub commit_moment : IsStaged old gate next end → LeavesOnly old new (MayTear old gate 1) → (bodies : List (List ℕ)) (body : List ℕ) → HasStaged old bodies body → LeavesOnly old new (HoldsOldOrNew bodies body)
  commit_moment staged run bodies body has =
      let place = staged_place staged bodies body has.image has.now has.stages in
      weaker old new (MayTear old gate 1) (HoldsOldOrNew bodies body) run
      (λ c torn. gate_torn has.image bodies body has.stages c (subst (λ (g : ℕ). IsTornAt g 1 has.image c) place (torn_from_now old gate 1 has.image c staged.durable has.now torn)))

  commit_image : (bodies : List (List ℕ)) (body image : List ℕ) → Stages image bodies body → gate ≡ gate_place image bodies → HoldsBodies (overwrite gate (1 ∷ []) image) (bodies ++ body ∷ [])
  commit_image bodies body image stages place = subst (λ (g : ℕ). HoldsBodies (overwrite g (1 ∷ []) image) (bodies ++ body ∷ [])) (sym place) (gate_written image bodies body stages)

  pub commit_done : IsStaged old gate next end → IsWritten gate (1 ∷ []) old new → (bodies : List (List ℕ)) (body : List ℕ) → HasStaged old bodies body → HasBodies new (bodies ++ body ∷ [])
  commit_done staged written bodies body has = record {
    image = overwrite gate (1 ∷ []) has.image;
    now = written has.image has.now;
    holds = commit_image bodies body has.image has.stages (staged_place staged bodies body has.image has.now has.stages);
  }

  pub commit_ready : IsStaged old gate next end → IsWritten gate (1 ∷ []) old new → is_some new.now ≡ is_some old.now → IsDurable new → IsReady new next end
  commit_ready staged written tells durable = record {
    room = staged.fits;
    within = staged.within;
    durable = durable;
    journal = λ image now.
        let was = told_before old.now new.now image tells now in
        let at = staged.journal was.0 was.1 in
        let there : Some (overwrite gate (1 ∷ []) was.0) ≡ Some image = sym (written was.0 was.1) ∙ now in
        let same : overwrite gate (1 ∷ []) was.0 ≡ image = cc there in
        let kept : start image ≡ start was.0 =
        ap start (sym same) ∙ start_kept gate (1 ∷ []) was.0 (omega (arith, at.place, start_in was.0)) (omega (arith, at.place, gate_long was.0 at.bodies at.body at.stages)) in
        record {
          bodies = at.bodies ++ at.body ∷ [];
          holds = subst (λ (l : List ℕ). HoldsBodies l (at.bodies ++ at.body ∷ [])) same (commit_image at.bodies at.body was.0 at.stages at.place);
          place = omega (arith, at.place, at.after, kept, length-frames-push at.bodies at.body);
          last = omega (arith, at.last, kept);
        };
  }

pub room_is : (v : View) (gate end : ℕ) → IsReady v gate end → HasRoom v gate end
room_is v gate end ready = λ bodies has.
    let at = ready.journal has.image has.now in
    let same = same_holds has.image at.bodies bodies at.holds has.holds in
    let long : length (frames at.bodies) ≡ length (frames bodies) = ap (λ (bs : List (List ℕ)). length (frames bs)) same in
    omega (arith, at.place, at.last, long, fits_area has.image at.bodies at.holds)
