-- The coins of a generated schedule.
use Rattle.std.specs.Prelude.{ℕ, zero, suc, ◌+◌, ◌%◌, List, [], ◌∷◌, ◌++◌, pos, codes}
use Rattle.cs_tx_value.specs.declared.object.Object.{Object}
use Rattle.cs_tx_value.specs.declared.value.Value.TheVariants.{Int}
use Rattle.cs_tx.specs.Token.{token_id}
use Rattle.cs_gen.specs.Draws.{draw}

abbrev pub coin : ℕ → Object
coin worth = record { contract = token_id; type_name = codes "coin"; values = Int (pos worth) ∷ [] }

-- what the coin of this place is worth, where the first is drawn from this state
abbrev pub worth_of : ℕ → ℕ → ℕ
worth_of state place = 100 + draw state place % 900

-- what the first so many coins are worth
unfoldable pub worths_below : ℕ → ℕ → List ℕ
worths_below state zero = []
worths_below state (suc count) = worths_below state count ++ worth_of state count ∷ []
