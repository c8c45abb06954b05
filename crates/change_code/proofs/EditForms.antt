-- Edits.
use Rattle.std.proofs.Common.{◌≡◌, ℕ, List, ◌∷◌, ◌++◌, refl}
use Rattle.x_base.specs.declared.party.Role.{Role}
use Rattle.x_base.specs.declared.party.Side.{Side}
use Rattle.x_gen.specs.declared.generator.Gen.{Gen}
use Rattle.party_state.specs.declared.edit.Edit.{Edit}
use Rattle.party_state.specs.declared.edit.Edit.TheVariants.{Begin, PutLink, DropLink, PutKey, DropEnded, PutExchange, DropExchange, PutAnswer, SetGen}
use Rattle.change_code.specs.Reading.{Form, ident_form, label_form, word_form, role_form, side_form, gen_form, link_form, key_form, exchange_form, answer_form, edit_form}
use Rattle.change_code.proofs.Joining.{Apart, both, apart_both}
use Rattle.change_code.proofs.Numbers.{word_apart}
use Rattle.change_code.proofs.Names.{ident_apart, label_apart, gen_apart}
use Rattle.change_code.proofs.RowForms.{role_apart, side_apart, link_apart, key_apart, answer_apart}
use Rattle.change_code.proofs.ExchangeForms.{exchange_apart}
use Rattle.change_code.proofs.Tags.{Tagged, apart_tagged, no_fields, no_fields_apart}

abbrev pub begin : List ℕ × (Role × Gen) → Edit
begin p = Begin p.0 p.1.0 p.1.1

abbrev pub drop_link : List ℕ × (List ℕ × Side) → Edit
drop_link p = DropLink p.0 p.1.0 p.1.1

abbrev pub begin_form : Form (List ℕ × (Role × Gen))
begin_form = both ident_form (both role_form gen_form)

abbrev pub drop_link_form : Form (List ℕ × (List ℕ × Side))
drop_link_form = both ident_form (both label_form side_form)

begin_only : (y : Edit) (rest more : List ℕ) → edit_form.Fits y → 1 ∷ rest ≡ edit_form.code y ++ more
    → (u : List ℕ × (Role × Gen)) × begin_form.Fits u × (y ≡ begin u) × (rest ≡ begin_form.code u ++ more)
unfolding both
begin_only (Begin own role generator) rest more fits is = ((own, (role, generator)), (fits.0, (tt, fits.1)), refl, cc is)
begin_only y rest more fits is = absurd (cc is)

pub begin_tagged : Tagged edit_form 1 begin_form begin
begin_tagged = record { only = begin_only }

put_link_only : (y : Edit) (rest more : List ℕ) → edit_form.Fits y → 2 ∷ rest ≡ edit_form.code y ++ more
    → (u : _) × link_form.Fits u × (y ≡ PutLink u) × (rest ≡ link_form.code u ++ more)
put_link_only (PutLink link) rest more fits is = (link, fits, refl, cc is)
put_link_only y rest more fits is = absurd (cc is)

pub put_link_tagged : Tagged edit_form 2 link_form (λ u. PutLink u)
put_link_tagged = record { only = put_link_only }

drop_link_only : (y : Edit) (rest more : List ℕ) → edit_form.Fits y → 3 ∷ rest ≡ edit_form.code y ++ more
    → (u : List ℕ × (List ℕ × Side)) × drop_link_form.Fits u × (y ≡ drop_link u) × (rest ≡ drop_link_form.code u ++ more)
unfolding both
drop_link_only (DropLink peer label side) rest more fits is = ((peer, (label, side)), (fits.0, (fits.1, tt)), refl, cc is)
drop_link_only y rest more fits is = absurd (cc is)

pub drop_link_tagged : Tagged edit_form 3 drop_link_form drop_link
drop_link_tagged = record { only = drop_link_only }

put_key_only : (y : Edit) (rest more : List ℕ) → edit_form.Fits y → 4 ∷ rest ≡ edit_form.code y ++ more
    → (u : _) × key_form.Fits u × (y ≡ PutKey u) × (rest ≡ key_form.code u ++ more)
put_key_only (PutKey key) rest more fits is = (key, fits, refl, cc is)
put_key_only y rest more fits is = absurd (cc is)

pub put_key_tagged : Tagged edit_form 4 key_form (λ u. PutKey u)
put_key_tagged = record { only = put_key_only }

drop_ended_only : (y : Edit) (rest more : List ℕ) → edit_form.Fits y → 5 ∷ rest ≡ edit_form.code y ++ more
    → (u : Unit {0}) × no_fields.Fits u × (y ≡ DropEnded) × (rest ≡ no_fields.code u ++ more)
drop_ended_only DropEnded rest more fits is = (tt, tt, refl, cc is)
drop_ended_only y rest more fits is = absurd (cc is)

pub drop_ended_tagged : Tagged edit_form 5 no_fields (λ u. DropEnded)
drop_ended_tagged = record { only = drop_ended_only }

put_exchange_only : (y : Edit) (rest more : List ℕ) → edit_form.Fits y → 6 ∷ rest ≡ edit_form.code y ++ more
    → (u : _) × exchange_form.Fits u × (y ≡ PutExchange u) × (rest ≡ exchange_form.code u ++ more)
put_exchange_only (PutExchange exchange) rest more fits is = (exchange, fits, refl, cc is)
put_exchange_only y rest more fits is = absurd (cc is)

pub put_exchange_tagged : Tagged edit_form 6 exchange_form (λ u. PutExchange u)
put_exchange_tagged = record { only = put_exchange_only }

drop_exchange_only : (y : Edit) (rest more : List ℕ) → edit_form.Fits y → 7 ∷ rest ≡ edit_form.code y ++ more
    → (u : List ℕ) × ident_form.Fits u × (y ≡ DropExchange u) × (rest ≡ ident_form.code u ++ more)
drop_exchange_only (DropExchange peer) rest more fits is = (peer, fits, refl, cc is)
drop_exchange_only y rest more fits is = absurd (cc is)

pub drop_exchange_tagged : Tagged edit_form 7 ident_form (λ u. DropExchange u)
drop_exchange_tagged = record { only = drop_exchange_only }

put_answer_only : (y : Edit) (rest more : List ℕ) → edit_form.Fits y → 8 ∷ rest ≡ edit_form.code y ++ more
    → (u : _) × answer_form.Fits u × (y ≡ PutAnswer u) × (rest ≡ answer_form.code u ++ more)
put_answer_only (PutAnswer answer) rest more fits is = (answer, fits, refl, cc is)
put_answer_only y rest more fits is = absurd (cc is)

pub put_answer_tagged : Tagged edit_form 8 answer_form (λ u. PutAnswer u)
put_answer_tagged = record { only = put_answer_only }

set_gen_only : (y : Edit) (rest more : List ℕ) → edit_form.Fits y → 9 ∷ rest ≡ edit_form.code y ++ more
    → (u : ℕ) × word_form.Fits u × (y ≡ SetGen u) × (rest ≡ word_form.code u ++ more)
set_gen_only (SetGen v) rest more fits is = (v, fits, refl, cc is)
set_gen_only y rest more fits is = absurd (cc is)

pub set_gen_tagged : Tagged edit_form 9 word_form (λ u. SetGen u)
set_gen_tagged = record { only = set_gen_only }

edit_same : (x y : Edit) (r s : List ℕ) → edit_form.Fits x → edit_form.Fits y → edit_form.code x ++ r ≡ edit_form.code y ++ s → (x ≡ y) × (r ≡ s)
unfolding both
edit_same (Begin own role generator) y r s fx fy is =
    apart_tagged edit_form 1 begin_form begin begin_tagged (apart_both ident_form (both role_form gen_form) ident_apart (apart_both role_form gen_form role_apart gen_apart))
    (own, (role, generator)) y r s (fx.0, (tt, fx.1)) fy is
edit_same (PutLink link) y r s fx fy is = apart_tagged edit_form 2 link_form (λ u. PutLink u) put_link_tagged link_apart link y r s fx fy is
edit_same (DropLink peer label side) y r s fx fy is =
    apart_tagged edit_form 3 drop_link_form drop_link drop_link_tagged (apart_both ident_form (both label_form side_form) ident_apart (apart_both label_form side_form label_apart side_apart))
    (peer, (label, side)) y r s (fx.0, (fx.1, tt)) fy is
edit_same (PutKey key) y r s fx fy is = apart_tagged edit_form 4 key_form (λ u. PutKey u) put_key_tagged key_apart key y r s fx fy is
edit_same DropEnded y r s fx fy is = apart_tagged edit_form 5 no_fields (λ u. DropEnded) drop_ended_tagged no_fields_apart tt y r s tt fy is
edit_same (PutExchange exchange) y r s fx fy is = apart_tagged edit_form 6 exchange_form (λ u. PutExchange u) put_exchange_tagged exchange_apart exchange y r s fx fy is
edit_same (DropExchange peer) y r s fx fy is = apart_tagged edit_form 7 ident_form (λ u. DropExchange u) drop_exchange_tagged ident_apart peer y r s fx fy is
edit_same (PutAnswer answer) y r s fx fy is = apart_tagged edit_form 8 answer_form (λ u. PutAnswer u) put_answer_tagged answer_apart answer y r s fx fy is
edit_same (SetGen v) y r s fx fy is = apart_tagged edit_form 9 word_form (λ u. SetGen u) set_gen_tagged word_apart v y r s fx fy is

pub edit_apart : Apart edit_form
edit_apart = record { same = edit_same }
