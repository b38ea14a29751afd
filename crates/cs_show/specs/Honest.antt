-- What an honest node said.
use Rattle.std.specs.Prelude.{◌≡◌, ℕ, ◌+◌, ◌*◌, ◌<◌, Bool, true, List, Some}
use Rattle.cs_client.specs.Inputs.{ClientInput}
use Rattle.cs_show.specs.declared.lookup.Lookup.{Lookup}
use Rattle.cs_show.specs.Words.{shard_asked, word_of}

-- the last word of one of the honest nodes of the shard was this line
pub record WasTold (honest : ℕ → Bool) (l : Lookup) (inputs : List ClientInput) (line : List ℕ) : Type 0 where
  pub index : ℕ
  pub in_shard : index < 3 * l.config.f + 1
  pub is_honest : honest index ≡ true
  pub told : word_of l inputs (record { shard = shard_asked l; index = index }) ≡ Some line
