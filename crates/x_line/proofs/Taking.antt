-- Words in which clap finds no fault are words that it takes.
use Rattle.std.proofs.Common.{◌≡◌, ℕ, zero, suc, Bool, true, false, List, [], ◌∷◌, length, drop, Option, Some, None, refl, sym, ◌∙◌, arith}
use Rattle.std.specs.Prelude.{◌&&◌, ◌||◌, not, nat_le, is_some, codes, encode_utf8, slice_get, if◌then◌else◌}
use Rattle.std.specs.List.{list_all, list_any}
use Rattle.std.specs.Option.{option_map_or}
use Rattle.std.specs.Str.{bytes_eq, chars}
use Rattle.std.proofs.lemmas.Bool.{and_from}
use Rattle.std.proofs.lemmas.Bool.Decides.{nat_tests}
use Rattle.clap.specs.Words.{App, Row, Rule, Shape, Text, built, fault_of, is_simple, takes}
use Rattle.clap.specs.Simple.{argument_words}
use Rattle.clap.specs.Lexer.{long_of, short_of}
use Rattle.clap.specs.Facts.{parser_of_value, unwrap_or_range}
use Rattle.clap.specs.Kinds.{Kinds, or_else, range_kinds, check_kinds}
use Rattle.clap.specs.ValueTests.{accepts}
use Rattle.clap.specs.Walk.{Held, Names, Step, Waiting, Walk, action_of, arg_by_id, arg_by_index, arg_by_long, arg_by_short, attached_value, has_row, is_pending, most_values, nothing_held, reacted, settled, subcommand_met, takes_several, takes_values, values_or_missing, walk, walk_from, walked, word_met, finished, next, trailing, subcommand, value}
use Rattle.clap.specs.Takes.{action_passes, bundle_step_passes, count_passes, default_passes, flag_word_passes, flags_pass, is_given, is_valid, level_passes, long_passes, option_passes, other_passes, positional_passes, react_passes, set_passes, settle_passes, short_passes, step_passes, turn_passes, use_passes, values_pass, walk_passes, word_passes}
use Rattle.clap.specs.Faults.{action_fault, bundle_step_fault, check_fault, count_fault, flag_word_fault, flags_fault, level_fault, long_fault, option_fault, other_fault, positional_fault, react_fault, repeat_fault, set_fault, settle_fault, short_fault, step_fault, turn_fault, use_fault, values_fault, walk_fault, word_fault}
use Rattle.clap.specs.declared.builder.action.ArgAction.{ArgAction}
use Rattle.clap.specs.declared.builder.action.ArgAction.TheVariants as action
use Rattle.clap.specs.declared.error.kind.ErrorKind.{ErrorKind}
use Rattle.clap.proofs.TakesLemmas.{leaf_takes}
use Rattle.clap.proofs.FaultLemmas.{leaf_fault}
use Rattle.x_line.specs.Line.{x917_app}

-- ---- no kind comes

both_none : (a b : Kinds) → or_else a b ≡ [] → (a ≡ []) × (b ≡ [])
both_none [] b h = (refl, h)
both_none (k ∷ ks) b h = absurd cc

-- what passes where it has no fault passes where it may be absent
maybe : {A : Type 0} (f : A → Kinds) (g : A → Bool) (o : Option A) → ((x : A) → f x ≡ [] → g x ≡ true) → option_map_or f o [] ≡ [] → option_map_or g o true ≡ true
maybe f g None each h = refl
maybe f g (Some x) each h = each x h

-- ---- values

value_ok : (t : Bool) (k : ErrorKind) → (if t then [] else k ∷ []) ≡ [] → t ≡ true
value_ok true k h = refl
value_ok false k h = absurd cc

values_ok : (a : Rule) (vs : List Text) → values_fault a vs ≡ [] → values_pass a vs ≡ true
values_ok a [] h = refl
values_ok a (v ∷ vs) h =
    let p = both_none _ (values_fault a vs) h in
    and_from _ _ (value_ok (accepts a.ignore_case (parser_of_value a.parser) v) _ p.0) (values_ok a vs p.1)

range_ok : (least most n : ℕ) → range_kinds least most n ≡ [] → (nat_le least n && nat_le n most) ≡ true
range_ok least most n h = grind (arith, nat_tests, h)

not_again : (has again : Bool) (k : ErrorKind) → (if has && not again then k ∷ [] else []) ≡ [] → (not has || again) ≡ true
not_again false again k h = refl
not_again true true k h = refl
not_again true false k h = absurd cc

set_ok : (again : Bool) (a : Rule) (vs : List Text) (rows : List Row) → set_fault again a vs rows ≡ [] → set_passes again a vs rows ≡ true
set_ok again a vs rows h =
    let p = both_none (repeat_fault again a.id rows) (values_fault a vs) h in
    and_from _ _ (not_again (has_row a.id rows) again _ p.0) (values_ok a vs p.1)

count_ok : (a : Rule) (vs : List Text) (rows : List Row) → count_fault a vs rows ≡ [] → count_passes a vs rows ≡ true
count_ok a [] rows h = value_ok _ _ h
count_ok a (v ∷ vs) rows h = values_ok a (v ∷ vs) h

action_ok : (x : ArgAction) (again : Bool) (a : Rule) (vs : List Text) (rows : List Row) → action_fault x again a vs rows ≡ [] → action_passes x again a vs rows ≡ true
action_ok action.Set again a vs rows h = set_ok again a vs rows h
action_ok action.SetTrue again a vs rows h = set_ok again a vs rows h
action_ok action.SetFalse again a vs rows h = set_ok again a vs rows h
action_ok action.Append again a vs rows h = values_ok a vs h
action_ok action.Count again a vs rows h = count_ok a vs rows h
action_ok action.Help again a vs rows h = absurd cc
action_ok action.HelpShort again a vs rows h = absurd cc
action_ok action.HelpLong again a vs rows h = absurd cc
action_ok action.Version again a vs rows h = absurd cc

use_ok : (again : Bool) (a : Rule) (vs : List Text) (rows : List Row) → use_fault again a vs rows ≡ [] → use_passes again a vs rows ≡ true
use_ok again a vs rows h =
    let p = both_none (range_kinds (unwrap_or_range a.range).start_inclusive (most_values a) (length vs)) _ h in
    regroup _ _ _ (range_ok (unwrap_or_range a.range).start_inclusive (most_values a) (length vs) p.0)
    (action_ok (action_of a) again a (values_or_missing a vs) rows p.1)
  where
    regroup : (x y z : Bool) → (x && y) ≡ true → z ≡ true → (x && (y && z)) ≡ true
    regroup x y z h e = grind (arith, h, e)

-- ---- the walk over the words

settle_ok : (c : List Rule) (again : Bool) (h : Held) → settle_fault c again h ≡ [] → settle_passes c again h ≡ true
settle_ok c again h e = maybe _ _ h.pending (λ p. maybe _ _ (arg_by_id c p.0) (λ a. use_ok again a p.1 h.rows)) e

react_ok : (c : List Rule) (again : Bool) (a : Rule) (vs : List Text) (h : Held) → react_fault c again a vs h ≡ [] → react_passes c again a vs h ≡ true
react_ok c again a vs h e =
    let p = both_none (settle_fault c again h) _ e in
    and_from _ _ (settle_ok c again h p.0) (use_ok again a vs (settled c h).rows p.1)

option_ok : (c : List Rule) (again : Bool) (a : Rule) (v : Option Text) (h : Held) → option_fault c again a v h ≡ [] → option_passes c again a v h ≡ true
option_ok c again a (Some v) h e = react_ok c again a (v ∷ []) h e
option_ok c again a None h e = settle_ok c again h e

long_ok : (c : List Rule) (again : Bool) (o : Option Rule) (v : Option Text) (h : Held) → long_fault c again o v h ≡ [] → long_passes c again o v h ≡ true
long_ok c again None v h e = absurd cc
long_ok c again (Some a) v h e = go (takes_values a) v refl e
  where
    go : (t : Bool) (v : Option Text) → takes_values a ≡ t → long_fault c again (Some a) v h ≡ [] → long_passes c again (Some a) v h ≡ true
    go true v q e = rw q (option_ok c again a v h (rw q at e))
    go false (Some v) q e = let bad = rw q at e in absurd cc
    go false None q e = rw q (react_ok c again a [] h (rw q at e))

short_ok : (c : List Rule) (again : Bool) (o : Option Rule) (rest : Text) (h : Held) (f : Held → Kinds) (g : Held → Bool) → ((x : Held) → f x ≡ [] → g x ≡ true)
    → short_fault c again o rest h f ≡ [] → short_passes c again o rest h g ≡ true
short_ok c again None rest h f g each e = absurd cc
short_ok c again (Some a) rest h f g each e = go (takes_values a) refl
  where
    go : (t : Bool) → takes_values a ≡ t → short_passes c again (Some a) rest h g ≡ true
    go true q = rw q (option_ok c again a (attached_value rest) h (rw q at e))
    go false q =
        let p = both_none (react_fault c again a [] h) (f (reacted c a [] h)) (rw q at e) in
        rw q (and_from _ _ (react_ok c again a [] h p.0) (each (reacted c a [] h) p.1))

step_in_bundle_ok : (c : List Rule) (again : Bool) (o : Option ℕ) (flags : Text) (skip : ℕ) (h : Held) (f : Text → ℕ → Held → Kinds) (g : Text → ℕ → Held → Bool)
    → ((t : Text) (k : ℕ) (x : Held) → f t k x ≡ [] → g t k x ≡ true) → bundle_step_fault c again o flags skip h f ≡ [] → bundle_step_passes c again o flags skip h g ≡ true
step_in_bundle_ok c again None flags skip h f g each e = refl
step_in_bundle_ok c again (Some x) flags zero h f g each e =
    let rest = drop (length (encode_utf8 x)) flags in
    short_ok c again (arg_by_short c x) rest h (f rest 0) (g rest 0) (each rest 0) e
step_in_bundle_ok c again (Some x) flags (suc skip) h f g each e = each (drop (length (encode_utf8 x)) flags) skip h e

flags_ok : (c : List Rule) (again : Bool) (k : ℕ) (flags : Text) (skip : ℕ) (h : Held) → flags_fault c again k flags skip h ≡ [] → flags_pass c again k flags skip h ≡ true
unfolding flags_fault flags_pass
flags_ok c again zero flags skip h e = refl
flags_ok c again (suc k) flags skip h e =
    step_in_bundle_ok c again (slice_get (chars flags) 0) flags skip h (flags_fault c again k) (flags_pass c again k) (flags_ok c again k) e

flag_word_ok : (c : List Rule) (again : Bool) (o : Option (Text × Option Text)) (word : Text) (h : Held) → flag_word_fault c again o word h ≡ [] → flag_word_passes c again o word h ≡ true
flag_word_ok c again (Some p) word h e = long_ok c again (arg_by_long c p.0) p.1 h e
flag_word_ok c again None word h e =
    maybe _ _ (short_of word) (λ flags. flags_ok c again (length flags) flags h.skip (record h { skip = 0 })) e

not_asked : (x y : Bool) (k l : ErrorKind) → (if x && not y then k ∷ l ∷ [] else []) ≡ [] → (not x || y) ≡ true
not_asked false y k l e = refl
not_asked true true k l e = refl
not_asked true false k l e = absurd cc

other_ok : (s : Shape) (o : Option Text) (word : Text) (h : Held) → other_fault s o word h ≡ [] → other_passes s o word h ≡ true
other_ok s (Some name) word h e = not_asked (bytes_eq name (codes "help")) s.disable_help_subcommand _ _ e
other_ok s None word h e = go (bytes_eq word (45 ∷ 45 ∷ [])) refl
  where
    go : (x : Bool) → bytes_eq word (45 ∷ 45 ∷ []) ≡ x → other_passes s None word h ≡ true
    go true q = rw q refl
    go false q = rw q (flag_word_ok s.rules s.args_override_self (long_of word) word h (rw q at e))

word_ok : (s : Shape) (names : Names) (t : Bool) (waiting : Waiting) (word : Text) (h : Held) → word_fault s names t waiting word h ≡ [] → word_passes s names t waiting word h ≡ true
word_ok s names true waiting word h e = refl
word_ok s names false waiting word h e = other_ok s (subcommand_met names waiting word) word h e

positional_ok : (c : List Rule) (again : Bool) (a : Rule) (h : Held) → positional_fault c again a h ≡ [] → positional_passes c again a h ≡ true
positional_ok c again a h e = go (is_pending a h.pending && takes_several a) refl
  where
    go : (t : Bool) → (is_pending a h.pending && takes_several a) ≡ t → positional_passes c again a h ≡ true
    go true q = rw q refl
    go false q = rw q (settle_ok c again h (rw q at e))

stray : (t : Bool) (k l : ErrorKind) → (if t then k ∷ [] else k ∷ l ∷ []) ≡ [] → ⊥
stray true k l h = cc
stray false k l h = cc

step_ok : (s : Shape) (position : ℕ) (h : Held) (x : Step) → step_fault s position h x ≡ [] → step_passes s position h x ≡ true
step_ok s position h value e = go (arg_by_index s.rules position) refl
  where
    go : (o : Option Rule) → arg_by_index s.rules position ≡ o → step_passes s position h value ≡ true
    go None q = absurd (stray s.is_leaf _ _ (rw q at e))
    go (Some a) q = rw q (positional_ok s.rules s.args_override_self a h (rw q at e))
step_ok s position h (next w) e = refl
step_ok s position h (trailing n) e = refl
step_ok s position h (subcommand t) e = refl

turn_ok : (s : Shape) (names : Names) (w : Walk) (word : Text) → turn_fault s names w word ≡ [] → turn_passes s names w word ≡ true
turn_ok s names w word e = go (is_some w.stopped) refl
  where
    go : (t : Bool) → is_some w.stopped ≡ t → turn_passes s names w word ≡ true
    go true q = rw q refl
    go false q =
        let met = word_met s.rules names w.is_trailing w.waiting w.position word w.held in
        let p = both_none (word_fault s names w.is_trailing w.waiting word w.held) (step_fault s w.position met.0 met.1) (rw q at e) in
        rw q (and_from _ _ (word_ok s names w.is_trailing w.waiting word w.held p.0) (step_ok s w.position met.0 met.1 p.1))

walk_ok : (s : Shape) (names : Names) (w : Walk) (words : List Text) → walk_fault s names w words ≡ [] → walk_passes s names w words ≡ true
unfolding walk_fault walk_passes
walk_ok s names w [] e = refl
walk_ok s names w (word ∷ rest) e =
    let p = both_none (turn_fault s names w word) _ e in
    and_from _ _ (turn_ok s names w word p.0) (walk_ok s names (walked s.rules names w word) rest p.1)

-- ---- after the walk

checks_ok : (x y z : Bool) → check_kinds x y z ≡ [] → (x ≡ false) × (y ≡ false) × (z ≡ false)
checks_ok true y z h = absurd cc
checks_ok false true z h = absurd cc
checks_ok false false true h = absurd cc
checks_ok false false false h = (refl, refl, refl)

all_from_none : (f g : Rule → Bool) (xs : List Rule) → list_any (λ a. f a && not (g a)) xs ≡ false → list_all (λ a. not (f a) || g a) xs ≡ true
all_from_none f g [] h = refl
all_from_none f g (x ∷ xs) h = grind (arith, h, all_from_none f g xs)

implied : (a b : Bool) → (a && not b) ≡ false → (not a || b) ≡ true
implied false b h = refl
implied true true h = refl
implied true false h = absurd cc

ruled_out : (c : Bool) → c ≡ false → (not c || false) ≡ true
ruled_out false h = refl
ruled_out true h = absurd cc

kept : (d x : Bool) → (not (d && false) && x) ≡ false → x ≡ false
kept true x h = h
kept false x h = h

added : (d x : Bool) → x ≡ true → ((d && false) || x) ≡ true
added true x h = h
added false x h = h

valid_ok : (s : Shape) (rows : List Row) → list_all (λ a. a.is_free) s.rules ≡ true → check_fault s rows false ≡ [] → is_valid s rows false ≡ true
valid_ok s rows free e =
    let p = checks_ok _ _ _ e in
    and_from _ _ (implied s.arg_required_else_help _ p.0)
    (and_from _ _ (ruled_out s.subcommand_required p.1)
    (and_from _ _ free (added s.subcommand_negates_reqs _ (all_from_none (λ a. a.required) (λ a. is_given a.id rows) s.rules (kept s.subcommand_negates_reqs _ p.2)))))

level_ok : (s : Shape) (h : Held) (words : List Text) → list_all (λ a. a.is_free) s.rules ≡ true → list_all default_passes s.rules ≡ true → level_fault s [] h words false [] ≡ [] → level_passes s [] h words false ≡ true
level_ok s h words free defaults e =
    let end = (walk s.rules [] h words).held in
    let p = both_none (walk_fault s [] (walk_from h) words) _ e in
    let q = both_none (settle_fault s.rules s.args_override_self end) _ p.1 in
    let r = both_none _ (check_fault s (finished s.rules end) false) q.1 in
    and_from _ _ (walk_ok s [] (walk_from h) words p.0)
    (and_from _ _ (settle_ok s.rules s.args_override_self end q.0) (and_from _ _ defaults (valid_ok s (finished s.rules end) free r.1)))

from_no_fault : (a : App) (words : List Text) → is_simple a ≡ true → (built a).subs ≡ [] → list_all (λ r. r.is_free) (built a).top.rules ≡ true
    → list_all default_passes (built a).top.rules ≡ true → fault_of a words ≡ [] → takes a words ≡ true
from_no_fault a words simple leaf free defaults h =
    and_from _ _ simple (leaf_takes (built a) nothing_held (argument_words a words) leaf
    (level_ok (built a).top nothing_held (argument_words a words) free defaults (sym (leaf_fault (built a) nothing_held (argument_words a words) leaf) ∙ h)))

simple_app : is_simple x917_app ≡ true
unfolding x917_app
simple_app = refl

leaf_app : (built x917_app).subs ≡ []
unfolding x917_app
leaf_app = refl

free_app : list_all (λ r. r.is_free) (built x917_app).top.rules ≡ true
unfolding x917_app
free_app = refl

default_app : list_all default_passes (built x917_app).top.rules ≡ true
unfolding x917_app
default_app = refl

pub takes_all : (words : List Text) → fault_of x917_app words ≡ [] → takes x917_app words ≡ true
takes_all words h = from_no_fault x917_app words simple_app leaf_app free_app default_app h
