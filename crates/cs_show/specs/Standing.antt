-- For which inputs a client stands that looks a key up.
use Rattle.std.specs.Prelude.{◌≡◌, List}
use Rattle.cs_client.specs.Inputs.{ClientInput}
use Rattle.cs_client.specs.Sayings.{outs_of_sayings}
use Rattle.cs_show.specs.declared.lookup.Lookup.{Lookup}
use Rattle.cs_show.specs.declared.looker.Looker.{Looker}
use Rattle.cs_show.specs.Words.{words_of}
use Rattle.cs_show.specs.Sayings.{asks}

-- what it keeps is the function of these inputs
pub record LookerStandsFor (l : Lookup) (inputs : List ClientInput) (looker : Looker) : Type 0 where
  pub lookup_is : looker.lookup ≡ l
  pub asks_are : looker.asks ≡ outs_of_sayings l.keys (asks l)
  pub words_are : looker.words.items ≡ words_of l inputs
