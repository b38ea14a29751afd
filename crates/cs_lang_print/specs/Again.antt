-- A printed contract is read again.
use Rattle.std.specs.Prelude.{◌≡◌}
use Rattle.cs_lang.specs.declared.tree.ContractTree.{ContractTree}
use Rattle.cs_lang.specs.Texts.{IsContract}
use Rattle.cs_lang_print.specs.Texts.{contract_text}
use Rattle.cs_lang_print.specs.Places.{without_places}

-- Its text is that of a contract, within the limits of the grammar, and that one is the same but for places.
pub record ContractIsReadAgain (c : ContractTree) : Type 0 where
  pub again : ContractTree
  pub read : IsContract (contract_text c) again
  pub same : without_places again ≡ without_places c
