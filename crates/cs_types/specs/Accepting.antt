-- The accepted contract of a text, as a function of the text: schedules and books are read by it.
use Rattle.std.specs.Prelude.{◌≡◌, ℕ, nat_le, Bool, is_none, List, length, Option, Some, None, Result, Ok, Err, if◌then◌else◌}
use Rattle.std.specs.Result.{result_ok}
use Rattle.cs_lang_token.specs.declared.limits.TheConstants.{MOST_TEXT}
use Rattle.cs_lang_token.specs.declared.token.Token.{Token}
use Rattle.cs_lang_token.specs.Tokens.{tokens_of}
use Rattle.cs_lang_token.specs.Texts.{all_at}
use Rattle.cs_lang.specs.declared.tree.ContractTree.{ContractTree}
use Rattle.cs_lang.specs.Readers.{contract_level}
use Rattle.cs_types_kinds.specs.declared.scope.Costs.{Costs}
use Rattle.cs_types.specs.Accepted.{Accepted, accepted_costs}
use Rattle.cs_types.specs.declared.judging.Unjudged.{Unjudged}
use Rattle.cs_types.specs.declared.judging.Unjudged.TheVariants as unjudged

-- the contract that tokens are, read from the left to the last
abbrev pub contract_of_tokens : Option (List Token) → Option ContractTree
contract_of_tokens None = None
contract_of_tokens (Some tokens) = result_ok (all_at contract_level tokens)

-- the contract that a text is (`IsContract`)
unfoldable pub contract_of : List ℕ → Option ContractTree
contract_of text = if nat_le (length text) MOST_TEXT then contract_of_tokens (result_ok (tokens_of text)) else None

abbrev pub with_costs : ContractTree → Option (List Costs) → Option Accepted
with_costs contract None = None
with_costs contract (Some costs) = Some (record { contract = contract; costs = costs })

abbrev pub accepted_contract : Option ContractTree → Option Accepted
accepted_contract None = None
accepted_contract (Some contract) = with_costs contract (result_ok (accepted_costs contract))

-- the contract that a text is, with its costs, where it is one and is accepted
unfoldable pub accepted_of : List ℕ → Option Accepted
accepted_of text = accepted_contract (contract_of text)

-- a text that is no contract, or one that isn't accepted
abbrev pub is_refused : List ℕ → Bool
is_refused text = is_none (accepted_of text)

-- a text that isn't accepted gives nothing, unless memory ran out
abbrev pub Unaccepts : Unjudged → Option Accepted → Type 0
Unaccepts unjudged.Memory told = Unit {0}
Unaccepts (unjudged.Faulty fault) told = told ≡ None

-- the accepted contract is the answer, unless memory ran out
abbrev pub Judges : Result Accepted Unjudged → Option Accepted → Type 0
Judges (Ok a) told = told ≡ Some a
Judges (Err e) told = Unaccepts e told
