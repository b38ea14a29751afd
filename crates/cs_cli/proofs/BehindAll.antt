-- Words that stand behind all others of a command.
use Rattle.std.proofs.Common.{◌≡◌, ℕ, List, take, drop, cond, Option, Some, None, sym, ap, ◌∙◌, length}
use Rattle.std.specs.Prelude.{string_bytes, not, nat_lt, option_and_then}
use Rattle.std.specs.List.{position, prefix_len}
use Rattle.std.proofs.lemmas.List.{length-map, take-map, drop-map}
use Rattle.cs_cli.specs.Words.{texts_of}
use Rattle.cs_cli.specs.Wished.{is_wish, is_wish_word, with_wishes, wished_at, wished}
use Rattle.cs_cli.specs.declared.deployments.Deployment.{Deployment}
use Rattle.cs_cli.proofs.Behind.{Word, prefix-map}

pub wish-place : (words : List Word) → position is_wish (texts_of words) ≡ position is_wish_word words
wish-place words =
    ap (λ n. cond (nat_lt n (length (texts_of words))) (Some n) None) (prefix-map (λ text. not (is_wish text)) string_bytes words)
    ∙ ap (λ m. cond (nat_lt (prefix_len (λ (word : Word). not (is_wish_word word)) words) m) (Some (prefix_len (λ (word : Word). not (is_wish_word word)) words)) None) (length-map words string_bytes)

-- the words before it, and those from it on
pub front-texts : (words front : List Word) (before : ℕ) → front ≡ take before words → texts_of front ≡ take before (texts_of words)
front-texts words front before is = ap texts_of is ∙ sym (take-map string_bytes before words)

pub behind-texts : (words behind : List Word) (before : ℕ) → behind ≡ drop before words → texts_of behind ≡ drop before (texts_of words)
behind-texts words behind before is = ap texts_of is ∙ sym (drop-map string_bytes before words)

module _ (called : List (List ℕ) → Option Deployment) (words : List (List ℕ)) where
  pub wished-without : None ≡ position is_wish words → wished called words ≡ called words
  wished-without none = ap (wished_at called words) (sym none)

  pub wished-with : (before : ℕ) (behind : List (List ℕ)) (read : Option Deployment) → Some before ≡ position is_wish words → behind ≡ drop before words → called (take before words) ≡ read → wished called words ≡ option_and_then (with_wishes before behind) read
  wished-with before behind read at is reads =
      ap (wished_at called words) (sym at)
      ∙ ap (option_and_then (with_wishes before (drop before words))) reads
      ∙ ap (λ (w : List (List ℕ)). option_and_then (with_wishes before w) read) (sym is)
