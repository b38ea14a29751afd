-- Reading a text from the left gives a contract exactly where the text is one, and judging it tells whether it is accepted.
use Rattle.std.proofs.Common.{◌≡◌, ℕ, ◌≤◌, true, false, List, [], ◌∷◌, length, Option, Some, None, Result, Ok, Err, refl, sym, ap, subst, ◌∙◌, inl, inr}
use Rattle.std.specs.Prelude.{◌↔◌, nat_le, if◌then◌else◌}
use Rattle.std.specs.Result.{result_ok}
use Rattle.std.proofs.lemmas.Bool.{cases_Bool, le-leb, leb-true}
use Rattle.cs_lang_token.specs.declared.limits.TheConstants.{MOST_TEXT}
use Rattle.cs_lang_token.specs.declared.token.Token.{Token}
use Rattle.cs_lang_token.specs.declared.kind.Kind.TheVariants as kind
use Rattle.cs_lang_token.specs.Grammar.{IsReader}
use Rattle.cs_lang_token.specs.Kinds.{is}
use Rattle.cs_lang_token.specs.Texts.{IsText, all_at}
use Rattle.cs_lang_token.specs.Tokens.{tokens_of}
use Rattle.cs_lang_token.proofs.TextLaws.{text_read, read_text}
use Rattle.cs_lang.specs.declared.tree.ContractTree.{ContractTree}
use Rattle.cs_lang.specs.declared.text.LangError.{LangError}
use Rattle.cs_lang.specs.declared.text.LangError.TheVariants as lang
use Rattle.cs_lang.specs.Rules.{contract}
use Rattle.cs_lang.specs.Readers.{contract_level}
use Rattle.cs_lang.specs.Texts.{IsContract}
use Rattle.cs_lang.proofs.TextRules.{contract_law}
use Rattle.cs_types_kinds.specs.declared.fault.TypeError.{TypeError}
use Rattle.cs_types_kinds.specs.declared.fault.TypeError.TheVariants as types
use Rattle.cs_types_kinds.specs.declared.scope.Costs.{Costs}
use Rattle.cs_types.specs.Answers.{Fails}
use Rattle.cs_types.specs.Accepted.{Accepted, Accepts, accepted_costs}
use Rattle.cs_types.specs.Judging.{unread, unaccepted}
use Rattle.cs_types.specs.Accepting.{contract_of_tokens, contract_of, with_costs, accepted_contract, accepted_of, Unaccepts}

law : (n : ℕ) → IsReader (70 ≤ n) (contract n) (is (kind.Method ∷ [])) contract_level
law n = (contract_law n).reader

-- what was read, where something was
read_some : {X E : Type 0} (r : Result X E) (x : X) → result_ok r ≡ Some x → r ≡ Ok x
read_some (Ok y) x same = let e : y ≡ x = cc in ap Ok e
read_some (Err e) x same = absurd cc

within : (text : List ℕ) (c : ContractTree) → length text ≤ MOST_TEXT → (r : Result (List Token) ℕ) → tokens_of text ≡ r → contract_of_tokens (result_ok r) ≡ Some c → IsContract text c
within text c short (Ok ts) tokens found = record {
  short = short;
  tokens = ts;
  read = tokens;
  spells = read_text contract 70 (is (kind.Method ∷ [])) contract_level law c ts (read_some (all_at contract_level ts) c found);
}
within text c short (Err place) tokens found = absurd cc

pub read_contract : (text : List ℕ) (c : ContractTree) → contract_of text ≡ Some c → IsContract text c
unfolding contract_of
read_contract text c found =
    elim (cases_Bool (nat_le (length text) MOST_TEXT)) [
      | inl short ↦ let inside : contract_of_tokens (result_ok (tokens_of text)) ≡ Some c = rw short at found in within text c (leb-true (length text) MOST_TEXT short) (tokens_of text) refl inside
      | inr long ↦ let none : None ≡ Some c = rw long at found in absurd cc
    ]

pub contract_read : (text : List ℕ) (c : ContractTree) → IsContract text c → contract_of text ≡ Some c
unfolding contract_of
contract_read text c whole =
    let read = text_read contract 70 (is (kind.Method ∷ [])) contract_level law c whole.tokens whole.spells in
    rw (le-leb (length text) MOST_TEXT whole.short, whole.read, read) refl

-- ---- what judging answers

none_accepted : (text : List ℕ) → ((c : ContractTree) → IsContract text c → ⊥) → (found : Option ContractTree) → contract_of text ≡ found → accepted_contract found ≡ None
none_accepted text never None same = refl
none_accepted text never (Some c) same = absurd (never c (read_contract text c same))

-- a text that is no contract
not_accepted : (text : List ℕ) → ((c : ContractTree) → IsContract text c → ⊥) → accepted_of text ≡ None
unfolding accepted_of
not_accepted text never = none_accepted text never (contract_of text) refl

pub unread-exact : (text : List ℕ) (e : LangError) → ((c : ContractTree) → IsContract text c → e ≡ lang.Memory) → Unaccepts (unread e) (accepted_of text)
unread-exact text lang.Memory only = tt
unread-exact text lang.TooLong only = not_accepted text (λ c whole. let same : lang.TooLong ≡ lang.Memory = only c whole in cc)
unread-exact text (lang.Lex place) only = not_accepted text (λ c whole. let same : lang.Lex place ≡ lang.Memory = only c whole in cc)
unread-exact text (lang.Syntax place) only = not_accepted text (λ c whole. let same : lang.Syntax place ≡ lang.Memory = only c whole in cc)

-- a contract that is told something
told_accepted : (text : List ℕ) (c : ContractTree) (costs : Option (List Costs)) → IsContract text c → result_ok (accepted_costs c) ≡ costs → accepted_of text ≡ with_costs c costs
unfolding accepted_of
told_accepted text c costs whole told = ap accepted_contract (contract_read text c whole) ∙ ap (with_costs c) told

pub unaccepted-exact : (text : List ℕ) (c : ContractTree) (e : TypeError) → IsContract text c → Fails e (accepted_costs c) → Unaccepts (unaccepted e) (accepted_of text)
unaccepted-exact text c types.Memory whole told = tt
unaccepted-exact text c (types.Mistyped place) whole told = told_accepted text c None whole (ap result_ok told)
unaccepted-exact text c (types.Unbound place) whole told = told_accepted text c None whole (ap result_ok told)
unaccepted-exact text c (types.Cost cost) whole told = told_accepted text c None whole (ap result_ok told)

pub accepted-exact : (text : List ℕ) (c : ContractTree) (a : Accepted) → IsContract text c → Accepts c (Ok a) → accepted_of text ≡ Some a
accepted-exact text c a whole (same, told) =
    told_accepted text c (Some a.costs) whole (ap result_ok told) ∙ ap (λ (t : ContractTree). Some (record { contract = t; costs = a.costs })) (sym same)
