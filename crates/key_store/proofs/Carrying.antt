-- What became of edits that were to be kept, by the answers of the journal's calls.
use Rattle.std.proofs.Common.{◌≡◌, ℕ, suc, ◌+◌, ◌-◌, ◌≤◌, List, [], length, Ok, Err, refl, sym, ◌∙◌, ap, arith}
use Rattle.std.proofs.Math.Nat.{le_refl}
use Rattle.x_disk.specs.Disk.{View, IsSound, one_less}
use Rattle.key_journal.specs.States.{Site, Pending, Failed}
use Rattle.key_journal.specs.Writing.{IsStaging, IsCommit}
use Rattle.party_state.specs.State.{apply}
use Rattle.party_state.specs.declared.edit.Edit.{Edit}
use Rattle.change_code.specs.Code.{code_of_change}
use Rattle.change_code.specs.Cost.{cost}
use Rattle.change_code.specs.Framed.{IsFramed}
use Rattle.party_state.specs.Limits.{GoOn}
use Rattle.key_store.specs.Store.{Stored, IsStore, space}
use Rattle.key_store.specs.Keeping.{IsKept}
use Rattle.key_store.proofs.Keeping.{Changes, cost_is, at_rest, old_is_either, after_stage, after_commit, stable_staged, stable_commit, now_new, kept, few_calls, never_done, still_told, one_left, frame_long, never_err, faults_later}

plus_none : (gate n : ℕ) → n ≡ 0 → gate ≡ gate + n
plus_none gate n none = omega (arith, none)

-- four calls pass, or more
four_pass : (calls : ℕ) → (calls ≤ 3 → ⊥) → 4 ≤ calls
four_pass calls few = omega (arith, few)

module _ {D : Type 0} (told : D → View) (old : Stored D) (edits : List Edit) (sound : IsSound (told old.disk)) (store : IsStore (told old.disk) old.gate old.end old.format old.party) where
  -- nothing changes
  pub kept_none : edits ≡ [] → IsKept told old edits (Ok old)
  kept_none none = record {
    party = sym (ap (λ (es : List Edit). apply es old.party) none);
    place = (plus_none old.gate (cost old.format edits) (ap (cost old.format) none), refl);
    format = refl;
    stands = store;
    unchanged = λ is. refl;
    any_moment = λ tells. old_is_either (told old.disk) (told old.disk) old.party (space old) edits (at_rest (told old.disk) old.gate old.end old.format old.party sound store tells);
    early = λ calls is few tells. at_rest (told old.disk) old.gate old.end old.format old.party sound store tells;
    cause = tt;
    faults = le_refl _;
    tells = refl;
    calls = λ some. absurd (some none);
    stable = tt;
    pending = tt;
    covered = tt;
  }

  module _ (go_on : GoOn edits old.party) (text : List ℕ) (framed : IsFramed old.format edits text) where
    abbrev site : Site D
    site = record { disk = old.disk; gate = old.gate; end = old.end }

    size : length text ≡ cost old.format edits
    size = ap length framed.is ∙ (frame_long (code_of_change old.format edits) ∙ sym (cost_is old.format edits framed.some))

    change : Changes old.format old.party edits
    change = record { some = framed.some; code = framed.code; body = framed.body; go_on = go_on }

    -- the frame wasn't written
    pub not_staged : (b : Failed D) → IsStaging told site text (Err b) → IsKept told old edits (Err b)
    not_staged b staging =
        let size = size in
        record {
          party = tt;
          place = tt;
          format = tt;
          stands = tt;
          unchanged = λ none. absurd (framed.some none);
          any_moment = λ tells. old_is_either (told old.disk) (told b.disk) old.party (space old) edits (after_stage (told old.disk) (told b.disk) old.gate old.end old.format old.party store staging.any_moment tells);
          early = λ calls is few tells. after_stage (told old.disk) (told b.disk) old.gate old.end old.format old.party store staging.any_moment tells;
          cause = staging.cause;
          faults = staging.faults;
          tells = staging.tells;
          calls = tt;
          stable = stable_staged (told old.disk) (told b.disk) old.gate old.end old.format old.party store staging.stable;
          pending = λ three fault none image now. absurd (still_told (told old.disk).calls_left (told b.disk).calls_left three staging.left none);
          covered = λ end n calls covers le small. staging.covered end n (suc (suc calls)) covers (omega (arith, size, le)) (omega (arith, size, small));
        }

    module _ (s : Pending D) (staging : IsStaging told site text (Ok s)) where
      -- its gate wasn't opened
      pub not_committed : (b : Failed D) → IsCommit told s (Err b) → IsKept told old edits (Err b)
      not_committed b commit =
          let size = size in
          record {
            party = tt;
            place = tt;
            format = tt;
            stands = tt;
            unchanged = λ none. absurd (framed.some none);
            any_moment = λ tells. after_commit (told old.disk) (told s.disk) old.gate old.end old.format old.party store staging.any_moment (told b.disk) edits change text framed.is staging.staged commit.any_moment tells;
            early = λ calls is few tells. absurd (never_err (staging.blows (few_calls (told old.disk).calls_left calls is few)));
            cause = faults_later (told old.disk) (told s.disk) (told b.disk) b.cause staging.faults commit.cause;
            faults = omega (arith, staging.faults, commit.faults);
            tells = commit.tells ∙ staging.tells;
            calls = tt;
            stable = stable_commit (told old.disk) (told s.disk) (told b.disk) old.gate old.end old.format old.party edits store change text framed.is staging.staged staging.tells staging.durable commit.stable;
            pending = λ three fault none image now.
                now_new (told old.disk) (told s.disk) (told b.disk) old.gate old.end old.format old.party edits store change text framed.is staging.staged staging.tells commit.tells
                (λ bodies body has. commit.pending bodies body has (one_left (told old.disk).calls_left (told s.disk).calls_left three staging.calls_left) fault none) image now;
            covered = λ end n calls covers le small.
                commit.covered end (n - length text) calls (staging.covered_then end n (suc (suc calls)) covers (omega (arith, size, le)) (omega (arith, size, small)))
                (omega (arith, staging.place.0, size, le)) (omega (arith, size, small));
          }

      module _ (r : Site D) (commit : IsCommit told s (Ok r)) where
        abbrev new : Stored D
        new = record { disk = r.disk; gate = r.gate; end = r.end; format = old.format; party = apply edits old.party }

        pub new_stands : IsStore (told r.disk) r.gate r.end old.format (apply edits old.party)
        new_stands =
            kept (told old.disk) (told s.disk) (told r.disk) old.gate old.end old.format old.party edits store change text framed.is staging.staged staging.tells r.gate r.end commit.tells commit.committed commit.durable commit.room

        -- it is kept
        pub committed : IsKept told old edits (Ok new)
        committed =
            let size = size in
            record {
              party = refl;
              place = (omega (arith, size, commit.place.0, staging.place.1), commit.place.1 ∙ staging.place.2);
              format = refl;
              stands = new_stands;
              unchanged = λ none. absurd (framed.some none);
              any_moment = λ tells. after_commit (told old.disk) (told s.disk) old.gate old.end old.format old.party store staging.any_moment (told r.disk) edits change text framed.is staging.staged commit.any_moment tells;
              early = λ calls is few tells. absurd (never_err (staging.blows (few_calls (told old.disk).calls_left calls is few)));
              cause = tt;
              faults = omega (arith, staging.faults, commit.faults);
              tells = commit.tells ∙ staging.tells;
              calls = λ some. record {
                calls_left = commit.calls_left ∙ ap (λ p. one_less (one_less p)) staging.calls_left;
                enough = λ calls is.
                    four_pass calls (never_done (told old.disk).calls_left (told s.disk).calls_left (λ low. never_err (staging.blows low)) staging.calls_left (λ low. never_err (commit.blows low)) calls is);
              };
              stable = tt;
              pending = tt;
              covered = tt;
            }
