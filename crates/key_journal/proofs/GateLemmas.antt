-- What lies at the gates behind the first frames of an image.
use Rattle.std.proofs.Common.{◌≡◌, ◌⊎◌, inl, inr, ℕ, ◌+◌, ◌%◌, ◌/◌, ◌<◌, ◌==◌, nat_le, ◌&&◌, Bool, true, false, List, [], ◌∷◌, ◌++◌, length, get_or, take, drop, Some, None, Ok, refl, sym, ◌∙◌, ap, subst, arith, append_assoc, append-nil, length-append}
use Rattle.key_journal.specs.Layout.{area_size, largest_body}
use Rattle.std.proofs.lemmas.List.{take_at}
use Rattle.std.proofs.Math.Seq.{drop-drop}
use Rattle.key_journal.specs.Journal.{four_bytes, frames, AreBodies, is_blank, has_magic, start, gate_place, HoldsBodies, Begins}
use Rattle.key_journal.specs.Opening.{found_at, stated, is_whole}
use Rattle.key_journal.specs.States.{AreFirst}
use Rattle.key_journal.proofs.ImageLemmas.{whole_of, gate_in}
use Rattle.key_journal.proofs.ReadLemmas.{behind, same_length, same_parts, same_back, frames-append, second_body, stated_is, get_at, open_by, whole_by, room_of, found_by, found_none, refused_by}
use Rattle.key_journal.proofs.OpenLemmas.{open_by_front}

-- an image that stands for bodies begins with them
pub begins_all : (image : List ℕ) (bodies : List (List ℕ)) → HoldsBodies image bodies → Begins image bodies (gate_place image bodies)
begins_all image bodies h =
    let w = whole_of image bodies h in
    record {
      opened = h.opened;
      magic = h.magic;
      all = h.area.all;
      place = refl;
      front = ap (λ (l : List ℕ). take (length (frames bodies)) l) w.whole ∙ take_at (frames bodies) (w.gate ∷ w.tail) (length (frames bodies)) refl;
      room = w.room;
      within = λ some. omega (arith, gate_in image bodies h);
    }

pub head_stands : (image : List ℕ) (bodies : List (List ℕ)) → HoldsBodies image bodies → (is_blank image ≡ false) × (has_magic image ≡ true)
head_stands image bodies h = refused_by (is_blank image) (has_magic image) (open_by_front image h.opened h.magic)

-- of two lists of frames from one place on, one is the longer
either_first : (bs cs : List (List ℕ)) (r s : List ℕ) → AreBodies bs → AreBodies cs → frames bs ++ r ≡ frames cs ++ s → AreFirst bs cs ⊎ AreFirst cs bs
either_first [] cs r s all_b all_c is = inl (record { rest = cs; whole = refl })
either_first (b ∷ bs) [] r s all_b all_c is = inr (record { rest = b ∷ bs; whole = refl })
either_first (b ∷ bs) (c ∷ cs) r s all_b all_c is =
    let high : length b / 65536 % 256 ≡ length c / 65536 % 256 = cc in
    let mid : length b / 256 % 256 ≡ length c / 256 % 256 = cc in
    let low : length b % 256 ≡ length c % 256 = cc in
    let tails : (b ++ frames bs) ++ r ≡ (c ++ frames cs) ++ s = cc in
    let parts = same_parts b c (frames bs ++ r) (frames cs ++ s) (same_length (length b) (length c) all_b.0.small all_c.0.small high mid low) (sym (append_assoc b (frames bs) r) ∙ tails ∙ append_assoc c (frames cs) s) in
    elim (either_first bs cs r s all_b.1 all_c.1 parts.1) [
      | inl more ↦ inl (record { rest = more.rest; whole = ap (λ (x : List ℕ). x ∷ cs) (sym parts.0) ∙ ap (λ (l : List (List ℕ)). b ∷ l) more.whole })
      | inr more ↦ inr (record { rest = more.rest; whole = ap (λ (x : List ℕ). x ∷ bs) parts.0 ∙ ap (λ (l : List (List ℕ)). c ∷ l) more.whole })
    ]

pub either_begins : (image : List ℕ) (bs cs : List (List ℕ)) (g h : ℕ) → Begins image bs g → Begins image cs h → AreFirst bs cs ⊎ AreFirst cs bs
either_begins image bs cs g h b c = either_first bs cs (drop g image) (drop h image) b.all c.all (sym (behind image bs g b) ∙ behind image cs h c)

-- behind the first bodies the next one lies
pub found_next : (image : List ℕ) (bodies rest : List (List ℕ)) (body : List ℕ) (gate last end : ℕ) → Begins image bodies gate → Begins image (bodies ++ body ∷ rest) last → end ≡ start image + area_size
    → found_at image gate end ≡ Ok (Some body)
found_next image bodies rest body gate last end b h is_end =
    let n = length body in
    let is_body = second_body bodies body rest h.all in
    let tail = frames rest ++ drop last image in
    let front : drop gate image ≡ 1 ∷ (four_bytes n ++ (body ++ tail)) =
    same_back (frames bodies) (drop gate image) (frames (body ∷ rest) ++ drop last image) (sym (behind image bodies gate b) ∙ behind image (bodies ++ body ∷ rest) last h ∙ frames-append bodies (body ∷ rest) (drop last image))
    ∙ ap (λ (l : List ℕ). 1 ∷ (four_bytes n ++ l)) (append_assoc body (frames rest) (drop last image)) in
    let long = room_of bodies body rest in
    let inside : last < length image = h.within (omega (arith, length-append bodies (body ∷ rest))) in
    let number = stated_is image gate n (body ++ tail) is_body.small front in
    let opened = open_by gate (length image) (get_or image gate 0) (omega (arith, inside, long, b.place, h.place)) (ap (λ (m : ℕ). get_or image m 0) (omega arith) ∙ get_at image (1 ∷ (four_bytes n ++ (body ++ tail))) gate 0 front) in
    let within = ap (λ (m : ℕ). (nat_le 1 m && nat_le m largest_body) && (nat_le (gate + 6 + m) (length image) && nat_le (gate + 6 + m) end)) number
    ∙ whole_by n gate (length image) end is_body.some is_body.small (omega (arith, inside, long, b.place, h.place)) (omega (arith, is_end, b.place, h.room, long)) in
    let text : take (stated image gate) (drop (gate + 5) image) ≡ body =
    ap (λ (m : ℕ). take m (drop (gate + 5) image)) number ∙ ap (λ (l : List ℕ). take n l) (sym (drop-drop 5 gate image) ∙ ap (λ (l : List ℕ). drop 5 l) front) ∙ take_at body tail n refl in
    ap (λ (t : Bool). found_by t (is_whole image gate end) (gate == start image) gate (take (stated image gate) (drop (gate + 5) image))) opened
    ∙ ap (λ (t : Bool). found_by true t (gate == start image) gate (take (stated image gate) (drop (gate + 5) image))) within
    ∙ ap (λ (l : List ℕ). found_by true true (gate == start image) gate l) text

pub next_at : (image : List ℕ) (bodies rest : List (List ℕ)) (body : List ℕ) (gate last : ℕ) → Begins image bodies gate → Begins image (bodies ++ body ∷ rest) last
    → found_at image gate (start image + area_size) ≡ Ok (Some body)
next_at image bodies rest body gate last b h = found_next image bodies rest body gate last (start image + area_size) b h refl

-- behind all of them none
pub none_at : (image : List ℕ) (bodies : List (List ℕ)) (gate : ℕ) → Begins image bodies gate → HoldsBodies image bodies → found_at image gate (start image + area_size) ≡ Ok None
none_at image bodies gate b h = found_none image bodies gate (start image + area_size) b (subst (λ (l : List (List ℕ)). HoldsBodies image l) (sym (append-nil bodies)) h)

bodies_front : (bodies rest : List (List ℕ)) → AreBodies (bodies ++ rest) → AreBodies bodies
bodies_front [] rest all = tt
bodies_front (b ∷ bodies) rest all = (all.0, bodies_front bodies rest all.1)

-- an image that begins with some bodies begins with the first of them
pub begins_front : (image : List ℕ) (bodies rest : List (List ℕ)) (last : ℕ) → Begins image (bodies ++ rest) last → Begins image bodies (gate_place image bodies)
begins_front image bodies rest last b =
    let tail = frames rest ++ drop last image in
    let is : drop (start image) image ≡ frames bodies ++ tail = behind image (bodies ++ rest) last b ∙ frames-append bodies rest (drop last image) in
    let long : length (frames (bodies ++ rest)) ≡ length (frames bodies) + length (frames rest ++ []) =
    ap length (sym (append-nil (frames (bodies ++ rest))) ∙ frames-append bodies rest []) ∙ length-append (frames bodies) (frames rest ++ []) in
    record {
      opened = b.opened;
      magic = b.magic;
      all = bodies_front bodies rest b.all;
      place = refl;
      front = ap (λ (l : List ℕ). take (length (frames bodies)) l) is ∙ take_at (frames bodies) tail (length (frames bodies)) refl;
      room = omega (arith, b.room, long);
      within = λ some.
          let inside : last < length image = b.within (omega (arith, some, length-append bodies rest)) in
          omega (arith, inside, b.place, long);
    }
