-- What a wiring shows (this project's profile): its table, and how many bits go in.
use Rattle.std.specs.Prelude.{ℕ, List}
use Rattle.x_des.specs.declared.wiring.Wiring.{Wiring}

abbrev pub table_of : {N : ℕ} → Wiring N → List ℕ
table_of w = w.table

abbrev pub width_of : {N : ℕ} → Wiring N → ℕ
width_of w = w.width
