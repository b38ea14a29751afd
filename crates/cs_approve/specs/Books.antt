-- Books of contracts, and which book texts make.
use Rattle.std.specs.Prelude.{ℕ, is_some, List, [], ◌∷◌, ◌++◌, fold, bytes_eq, Option, Some, None, if◌then◌else◌}
use Rattle.std.specs.List.{position_from}
use Rattle.std.specs.Map.{lookup}
use Rattle.sha2.specs.Sha256.{sha256}
use Rattle.cs_types.specs.Accepted.{Accepted}
use Rattle.cs_types.specs.Accepting.{accepted_of, is_refused}

-- the contracts of a book, each under its id; `token` has no text, and isn't listed
abbrev pub Contracts : Type 0
Contracts = List (List ℕ × Accepted)

-- the contract under an id
abbrev pub contract_under : List ℕ → Contracts → Option Accepted
contract_under id contracts = lookup (bytes_eq id) contracts

-- one contract more; of those with one id the first counts
abbrev pub with_contract : Contracts → List ℕ → Accepted → Contracts
with_contract contracts id contract =
    if is_some (contract_under id contracts) then contracts else contracts ++ (id, contract) ∷ []

-- the contract of one text more, whose id is the hash of the text
abbrev pub with_text_accepted : Contracts → List ℕ → Option Accepted → Contracts
with_text_accepted contracts text None = contracts
with_text_accepted contracts text (Some contract) = with_contract contracts (sha256 text) contract

abbrev pub with_text : Contracts → List ℕ → Contracts
with_text contracts text = with_text_accepted contracts text (accepted_of text)

-- the contracts that texts are
abbrev pub contracts_of : List (List ℕ) → Contracts
contracts_of texts = fold with_text [] texts

-- the place of the first text that is refused, from 0 on
abbrev pub first_refused : List (List ℕ) → Option ℕ
first_refused texts = position_from is_refused 0 texts
