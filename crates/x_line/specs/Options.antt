-- The options of the command line, in their order: this project's profile.
use Rattle.std.specs.Prelude.{ℕ, List, [], ◌∷◌, codes}
use Rattle.x_line.specs.declared.opt.Opt.{Opt}
use Rattle.x_line.specs.declared.opt.Opt.TheVariants as opt

abbrev pub name_of : Opt → List ℕ
name_of opt.Party = codes "party"
name_of opt.Role = codes "role"
name_of opt.Genkey = codes "genkey"
name_of opt.Genseed = codes "genseed"
name_of opt.Peer = codes "peer"
name_of opt.Label = codes "label"
name_of opt.Side = codes "side"
name_of opt.Key = codes "key"
name_of opt.New = codes "new"
name_of opt.Ultimate = codes "ultimate"
name_of opt.Name = codes "name"
name_of opt.Seed = codes "seed"
name_of opt.Events = codes "events"
name_of opt.Spool = codes "spool"
name_of opt.Mirror = codes "mirror"
name_of opt.Ledger = codes "ledger"
name_of opt.Amount = codes "amount"
name_of opt.Single = codes "single"
name_of opt.Tell = codes "tell"

-- the order in which the first at fault is sought
abbrev pub options : List Opt
options = opt.Party ∷ opt.Role ∷ opt.Genkey ∷ opt.Genseed ∷ opt.Peer ∷ opt.Label ∷ opt.Side
    ∷ opt.Key ∷ opt.New ∷ opt.Ultimate ∷ opt.Name ∷ opt.Seed ∷ opt.Events ∷ opt.Spool ∷ opt.Mirror
    ∷ opt.Ledger ∷ opt.Amount ∷ opt.Single ∷ opt.Tell ∷ []
