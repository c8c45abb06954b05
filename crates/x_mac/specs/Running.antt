-- What a running code has taken in (this project's profile).
use Rattle.std.specs.Prelude.{◌≡◌, ℕ, List, ◌++◌, take, length}
use Rattle.x_mac.specs.Code.{code_from}
use Rattle.x_mac.specs.declared.running.Running.{Running}

-- this text under this key: whatever follows, the chain goes on from here as over the whole text
unfoldable pub Holds : Running → ℕ → List ℕ → Type 0
Holds r key text =
    (r.schedule ≡ key) × (length r.held ≡ 8)
    × ((rest : List ℕ) → code_from key 0 (text ++ rest) ≡ code_from key r.last (take r.count r.held ++ rest))
