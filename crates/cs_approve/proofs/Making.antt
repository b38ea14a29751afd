-- A book is made of its texts one after the other.
use Rattle.std.proofs.Common.{◌≡◌, ℕ, Bool, false, cond, List, [], ◌∷◌, ◌++◌, drop, fold, Option, Some, None, is_some, refl, sym, ap}
use Rattle.std.specs.List.{position_from}
use Rattle.cs_types.specs.Accepted.{Accepted}
use Rattle.cs_types.specs.Accepting.{is_refused}
use Rattle.cs_approve.specs.Books.{Contracts, contract_under, with_contract, with_text, contracts_of, first_refused}

-- the book so far, and the first text that is refused, by the texts from this place on
pub record IsOn (texts : List (List ℕ)) (place : ℕ) (book : Contracts) : Type 0 where
  pub made : fold with_text book (drop place texts) ≡ contracts_of texts
  pub passed : position_from is_refused place (drop place texts) ≡ first_refused texts

-- nothing is found where nothing is
pub missing : {X : Type 0} (found : Option X) → is_some found ≡ false → found ≡ None
missing None is = refl
missing (Some x) is = absurd cc

-- one contract more
pub fresh : (book : Contracts) (id : List ℕ) (a : Accepted) → is_some (contract_under id book) ≡ false → book ++ (id, a) ∷ [] ≡ with_contract book id a
fresh book id a is = sym (ap (λ (b : Bool). cond b book (book ++ (id, a) ∷ [])) is)
