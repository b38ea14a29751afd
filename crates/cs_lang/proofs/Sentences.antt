-- Contract texts are read exactly.
use Rattle.std.proofs.Common.{◌≡◌, ℕ, ◌+◌, ◌<◌, ◌≤◌, length, arith, true, List, [], ◌∷◌, refl, sym, ap, subst, ◌∙◌}
use Rattle.std.specs.Prelude.{Result, Ok, Err, IfOk, IfErr}
use Rattle.cs_lang_token.specs.declared.token.Token.{Token}
use Rattle.cs_lang_token.specs.declared.kind.Kind.TheVariants as kind
use Rattle.cs_lang_token.specs.Grammar.{Reader, IsReader, ◌>>=◌}
use Rattle.cs_lang_token.specs.Kinds.{is}
use Rattle.cs_lang_token.specs.Texts.{IsText, CanBegin, IsNoText, all_or_bad, all_at}
use Rattle.cs_lang_token.specs.Tokens.{tokens_of}
use Rattle.cs_lang_token.specs.Answers.{place_of}
use Rattle.cs_lang_token.proofs.Grammars.{Answer, went}
use Rattle.cs_lang_token.proofs.TextLaws.{text_read, read_text, read_refused}
use Rattle.cs_lang.specs.declared.tree.ContractTree.{ContractTree}
use Rattle.cs_lang.specs.declared.text.LangError.{LangError}
use Rattle.cs_lang.specs.declared.text.LangError.TheVariants as error
use Rattle.cs_lang.specs.Rules.{contract}
use Rattle.cs_lang.specs.Readers.{contract_level}
use Rattle.cs_lang.specs.Texts.{AnswersTree, IsContract, IsSyntax, IsRefusal, IfSyntax}
use Rattle.cs_lang.proofs.TextRules.{contract_law}

law : (n : ℕ) → IsReader (70 ≤ n) (contract n) (is (kind.Method ∷ [])) contract_level
law n = (contract_law n).reader

found_all : (x : ContractTree) (ts : List Token) → contract_level ts ≡ Ok (x, []) → IsText contract x ts
found_all x ts h = read_text contract 70 (is (kind.Method ∷ [])) contract_level law x ts (ap (λ (a : Answer ContractTree). a >>= all_or_bad) h)

only_one : (x : ContractTree) (ts : List Token) → IsText contract x ts → all_at contract_level ts ≡ Ok x
only_one x ts t = text_read contract 70 (is (kind.Method ∷ [])) contract_level law x ts t

nil_of : (ts : List Token) → length ts ≤ 0 → ts ≡ []
nil_of [] le = refl
nil_of (t ∷ ts) le = absurd (omega (arith, le))

-- reading took all
pub took_all : (ts cs rest : List Token) (x : ContractTree) → cs ≡ ts → contract_level cs ≡ Ok (x, rest) → length rest ≤ 0 → IsText contract x ts
took_all ts cs rest x same h le = found_all x ts (ap contract_level (sym same) ∙ h ∙ ap (λ (l : List Token). went x l) (nil_of rest le))

abbrev whole_of : ContractTree → Result ContractTree (List Token)
whole_of x = Ok x

ok_same : (x y : ContractTree) → whole_of x ≡ whole_of y → x ≡ y
ok_same x y e = cc

pub text_only : (ts : List Token) (x c : ContractTree) → IsText contract x ts → IsText contract c ts → x ≡ c
text_only ts x c s t = ok_same x c (sym (only_one x ts s) ∙ only_one c ts t)

pub only_all : (ts cs rest : List Token) (x c : ContractTree) → cs ≡ ts → contract_level cs ≡ Ok (x, rest) → length rest ≤ 0 → IsText contract c ts → x ≡ c
only_all ts cs rest x c same h le t = text_only ts x c (took_all ts cs rest x same h le) t

pub went_on : (ts cs rest : List Token) (x : ContractTree) → cs ≡ ts → contract_level cs ≡ Ok (x, rest) → 0 < length rest → IsNoText contract ts rest
went_on ts cs [] x same h lt = absurd (omega (arith, lt))
went_on ts cs (t ∷ rest) x same h lt = read_refused contract 70 (is (kind.Method ∷ [])) contract_level law ts (t ∷ rest) (ap (λ (a : Answer ContractTree). a >>= all_or_bad) (ap contract_level (sym same) ∙ h))

pub stopped : (ts cs bad : List Token) → cs ≡ ts → contract_level cs ≡ Err bad → IsNoText contract ts bad
stopped ts cs bad same h = read_refused contract 70 (is (kind.Method ∷ [])) contract_level law ts bad (ap (λ (a : Answer ContractTree). a >>= all_or_bad) (ap contract_level (sym same) ∙ h))

-- ---- from tokens to texts

abbrev good : List Token → Result (List Token) ℕ
good l = Ok l

list_of : (a b : List Token) → good a ≡ good b → a ≡ b
list_of a b e = cc

not_both : (ts : List Token) (place : ℕ) (r : Result (List Token) ℕ) → r ≡ Ok ts → r ≡ Err place → ⊥
not_both ts place r p q = let e : good ts ≡ Err place = sym p ∙ q in absurd cc

-- a text that is no contract for its length, and one that has no tokens
pub too_long : (text : List ℕ) (c : ContractTree) → 65536 < length text → IsContract text c → ⊥
too_long text c long is = omega (arith, long, is.short)

pub no_tokens : (text : List ℕ) (c : ContractTree) (place : ℕ) → tokens_of text ≡ Err place → IsContract text c → ⊥
no_tokens text c place bad is = not_both is.tokens place (tokens_of text) is.read bad

pub its_tokens : (text : List ℕ) (ts : List Token) (c : ContractTree) → tokens_of text ≡ Ok ts → IsContract text c → IsText contract c ts
its_tokens text ts c read is = subst (λ (l : List Token). IsText contract c l) (list_of is.tokens ts (sym is.read ∙ read)) is.spells

pub refusal_of : (text : List ℕ) (ts : List Token) (e : LangError) → length text ≤ 65536 → tokens_of text ≡ Ok ts → IfSyntax e (λ place. (bad : List Token) × IsNoText contract ts bad × (place ≡ place_of (length text) bad)) → IsRefusal text e
refusal_of text ts error.Memory short read h = tt
refusal_of text ts error.TooLong short read h = absurd h
refusal_of text ts (error.Lex place) short read h = absurd h
refusal_of text ts (error.Syntax place) short read h = record { short = short; tokens = ts; read = read; bad = h.0; refused = h.1; at = h.2 }

pub refusal_if : (text : List ℕ) (ts : List Token) (r : Result ContractTree LangError) → length text ≤ 65536 → tokens_of text ≡ Ok ts → IfErr r (λ e. IfSyntax e (λ place. (bad : List Token) × IsNoText contract ts bad × (place ≡ place_of (length text) bad))) → IfErr r (IsRefusal text)
refusal_if text ts (Ok c) short read h = h
refusal_if text ts (Err e) short read h = refusal_of text ts e short read h

pub contract_if : (text : List ℕ) (ts : List Token) (r : Result ContractTree LangError) → length text ≤ 65536 → tokens_of text ≡ Ok ts → IfOk r (λ c. IsText contract c ts) → IfOk r (λ c. IsContract text c)
contract_if text ts (Ok c) short read h = record { short = short; tokens = ts; read = read; spells = h }
contract_if text ts (Err e) short read h = h
