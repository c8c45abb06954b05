-- A session from a start ends as the run of the events of its deeds.
use Rattle.std.proofs.Common.{arith, ◌≡◌, ℕ, suc, ◌+◌, false, Option, Some, None, List, [], ◌∷◌, ◌++◌, length, refl, sym, ◌∙◌, ap, subst, append-nil, append_assoc}
use Rattle.std.specs.Prelude.{is_some}
use Rattle.x_disk.specs.Disk.{View, Tells, IsSound}
use Rattle.key_journal.specs.Journal.{is_blank}
use Rattle.party_state.specs.State.{Party}
use Rattle.change_code.specs.declared.space.Space.{Space}
use Rattle.key_store.specs.Store.{Stands, StandsWith, IsFirstDamage}
use Rattle.member.specs.Member.{Member}
use Rattle.world_laws.specs.World.{World, member_at}
use Rattle.world_laws.specs.Starts.{IsStart}
use Rattle.world_laws.specs.Steps.{run}
use Rattle.call_laws.specs.Sessions.{Deed, AreDone, StandsOn, deed_texts, texts_in}
use Rattle.world_laws.proofs.Counting.Runs.{one_key_per_count, start_bare}
use Rattle.world_laws.proofs.Counting.Taken.{once}
use Rattle.world_laws.proofs.Agreeing.HonestRuns.{agreement, both_ended}
use Rattle.call_laws.proofs.Reaching.{IsPossible, some_is}
use Rattle.call_laws.specs.Deeds.{EndsAsDone}
use Rattle.call_laws.proofs.Led.{Led, GoesOn}
use Rattle.call_laws.proofs.Called.{deed_goes}

-- what a read gives
abbrev bytes_of : Option (List ℕ) → List ℕ
bytes_of None = []
bytes_of (Some b) = b

start_goes : (start : World) (disks : List ℕ → View) → StandsOn disks start → GoesOn start [] [] disks
start_goes start disks on = record { tells = λ q x h. (on q x h).0; reach = begins }
  where
    begins : (image : List ℕ → List ℕ) → IsPossible start disks image → Led start [] [] image
    begins image possible = record {
      events = [];
      of_deeds = refl;
      are_events = tt;
      at = record {
        stands = λ q x h. (let s = (on q x h).1 in
            let b = some_is (disks q).now (on q x h).0 in
            let is : image q ≡ b.0 = s.durable.only b.0 (image q) b.1 (possible q x h) in
            subst (λ (c : List ℕ). StandsWith c x.party x.space) (sym is) (s.reads b.0 b.1));
        there = λ q. refl;
        texts_are = sym (append-nil start.texts);
      };
    }

end_goes : (start : World) (deeds : List Deed) (disks : List ℕ → View) → IsStart start → ((q : List ℕ) → IsSound (disks q)) → GoesOn start deeds (texts_in deeds) disks → EndsAsDone start deeds disks
end_goes start deeds disks s sound g = record {
  events = r.events;
  of_deeds = r.of_deeds;
  are_events = r.are_events;
  reads = reads;
  texts_are = r.at.texts_are;
  counts = one_key_per_count start r.events (start_bare start s) r.are_events;
  once = once start r.events (start_bare start s).accepted r.are_events;
  agreement = agreement start r.events s r.are_events;
  ended = both_ended start r.events s r.are_events;
}
  where
    now_is : (q b : List ℕ) → (disks q).now ≡ Some b → bytes_of (disks q).now ≡ b
    now_is q b e = ap bytes_of e

    possible : IsPossible start disks (λ q. bytes_of (disks q).now)
    possible q x h =
        let b = some_is (disks q).now (g.tells q x h) in
        subst (disks q).may_leave (sym (now_is q b.0 b.1)) ((sound q).now_among b.0 b.1)

    r : Led start deeds (texts_in deeds) (λ q. bytes_of (disks q).now)
    r = g.reach (λ q. bytes_of (disks q).now) possible

    reads : (q : List ℕ) (x : Member) → member_at q (run 1 start r.events).members ≡ Some x → Tells (disks q) × ((image : List ℕ) → (disks q).now ≡ Some image → StandsWith image x.party x.space)
    reads q x h =
        let was = some_is (member_at q start.members) (sym (r.at.there q) ∙ ap is_some h) in
        (g.tells q was.0 was.1, λ image e. subst (λ (c : List ℕ). StandsWith c x.party x.space) (now_is q image e) (r.at.stands q x h))

module _ (one_space : (image : List ℕ) (first second : Party) (s t : Space) → StandsWith image first s → StandsWith image second t → (first ≡ second) × (s ≡ t))
    (not_blank : (image : List ℕ) (party : Party) → Stands image party → is_blank image ≡ false)
    (undamaged : (image : List ℕ) (party : Party) (place : ℕ) → Stands image party → IsFirstDamage image place → ⊥)
    (start : World) (disks ends : ℕ → List ℕ → View) (sound : (k : ℕ) (q : List ℕ) → IsSound (disks k q)) where
  deeds_go : (ds : List Deed) (k : ℕ) (done : List Deed) (texts : List (List ℕ)) → GoesOn start done texts (disks k) → AreDone start ds k disks ends → GoesOn start (done ++ ds) (texts ++ texts_in ds) (disks (k + length ds))
  deeds_go [] k done texts g is =
      let end : k + 0 ≡ k = omega arith in
      subst (λ (cs : List Deed). GoesOn start cs (texts ++ []) (disks (k + 0))) (sym (append-nil done))
      (subst (λ (ts : List (List ℕ)). GoesOn start done ts (disks (k + 0))) (sym (append-nil texts)) (subst (λ (n : ℕ). GoesOn start done texts (disks n)) (sym end) g))
  deeds_go (d ∷ ds) k done texts g is =
      let next : GoesOn start (done ++ d ∷ []) (texts ++ deed_texts d) (disks (suc k)) = deed_goes one_space not_blank undamaged start done texts d (disks k) (ends k) (disks (suc k)) (sound k) (sound (suc k)) g is.0 in
      let rest : GoesOn start ((done ++ d ∷ []) ++ ds) ((texts ++ deed_texts d) ++ texts_in ds) (disks (suc k + length ds)) = deeds_go ds (suc k) (done ++ d ∷ []) (texts ++ deed_texts d) next is.1 in
      let place : suc k + length ds ≡ k + length (d ∷ ds) = omega arith in
      subst (λ (cs : List Deed). GoesOn start cs (texts ++ texts_in (d ∷ ds)) (disks (k + length (d ∷ ds)))) (append_assoc done (d ∷ []) ds)
      (subst (λ (ts : List (List ℕ)). GoesOn start ((done ++ d ∷ []) ++ ds) ts (disks (k + length (d ∷ ds)))) (append_assoc texts (deed_texts d) (texts_in ds))
      (subst (λ (n : ℕ). GoesOn start ((done ++ d ∷ []) ++ ds) ((texts ++ deed_texts d) ++ texts_in ds) (disks n)) place rest))

  pub session_is_done : (deeds : List Deed) → IsStart start → StandsOn (disks 0) start → AreDone start deeds 0 disks ends → EndsAsDone start deeds (disks (length deeds))
  session_is_done deeds s on is =
      let g : GoesOn start ([] ++ deeds) ([] ++ texts_in deeds) (disks (0 + length deeds)) = deeds_go deeds 0 [] [] (start_goes start (disks 0) on) is in
      let place : 0 + length deeds ≡ length deeds = omega arith in
      end_goes start deeds (disks (length deeds)) s (sound (length deeds)) (subst (λ (n : ℕ). GoesOn start deeds (texts_in deeds) (disks n)) place g)
