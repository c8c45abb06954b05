-- The blocks of a text, and the chain over them (this project's profile).
use Rattle.std.specs.Prelude.{ℕ, zero, suc, ◌+◌, ◌*◌, ◌/◌, Bool, cond, List, length, take, drop, ◌++◌, replicate}
use Rattle.x_mac.specs.Code.{chained, word_of}

-- the eight bytes of block n of a text, the first at 0, zeros where the text has ended
unfoldable pub block_at_step : List ℕ → ℕ → List ℕ
block_at_step text n = take 8 (drop (8 * n) text ++ replicate 8 0)

-- how many blocks a text has
abbrev pub block_count : List ℕ → ℕ
block_count text = (length text + 7) / 8

-- the key of an error detection code
abbrev pub edc_key : ℕ
edc_key = 0x0123456789ABCDEF

-- the chain over the first n blocks of a text, under that key
unfoldable pub chain_after : List ℕ → ℕ → ℕ
chain_after text zero = 0
chain_after text (suc n) = chained edc_key (chain_after text n) (word_of (block_at_step text n))

-- the chain of a lane after a block, with which it may begin
abbrev pub stepped : Bool → ℕ → ℕ → ℕ
stepped begun chain block = chained edc_key (cond begun 0 chain) block
