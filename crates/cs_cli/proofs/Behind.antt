-- Words that stand in two parts, and those of which there are so many.
use Rattle.std.proofs.Common.{◌≡◌, ◌≢◌, ℕ, ◌+◌, ◌≤◌, Bool, true, false, List, [], ◌∷◌, ◌++◌, length, map, cond, Option, Some, None, option_map, refl, sym, ap, ◌∙◌, arith}
use Rattle.std.specs.Prelude.{String, string_bytes, not, nat_lt, IfSome, option_and_then, if◌then◌else◌}
use Rattle.std.specs.List.{position, prefix_len}
use Rattle.std.specs.declared.alloc.Global.{Global}
use Rattle.std.proofs.lemmas.List.{length-map, length-append}
use Rattle.cs_base.specs.declared.key.Key.{Key}
use Rattle.cs_io.specs.declared.until.Until.{Until}
use Rattle.cs_show.specs.Keys.{key_in}
use Rattle.cs_cli.specs.Words.{texts_of}
use Rattle.cs_cli.specs.Deployed.{word_at, until_in, node_called, client_called, show_at, show_called, StandsNear, is_hosts, is_hosts_word, is_hosts_pair, without_two, with_hosts, hosted_at, hosted}
use Rattle.cs_cli.specs.declared.deployments.Deployment.{Deployment}
use Rattle.cs_cli.specs.declared.deployments.Deployment.TheVariants.{Show}

abbrev pub Word : Type 0
Word = String Global

-- ---- how many there are

pub both-length : (front back : List Word) → length (texts_of front ++ texts_of back) ≡ length front + length back
both-length front back =
    length-append (texts_of front) (texts_of back) ∙ ap (λ n. n + length (texts_of back)) (length-map front string_bytes) ∙ ap (λ n. length front + n) (length-map back string_bytes)

pub four-words : (words : List (List ℕ)) → length words ≡ 4 → word_at words 0 ∷ word_at words 1 ∷ word_at words 2 ∷ word_at words 3 ∷ [] ≡ words
four-words [] is = absurd (omega (arith, is))
four-words (a ∷ []) is = absurd (omega (arith, is))
four-words (a ∷ b ∷ []) is = absurd (omega (arith, is))
four-words (a ∷ b ∷ c ∷ []) is = absurd (omega (arith, is))
four-words (a ∷ b ∷ c ∷ d ∷ []) is = refl
four-words (a ∷ b ∷ c ∷ d ∷ e ∷ words) is = absurd (omega (arith, is))

pub five-words : (words : List (List ℕ)) → length words ≡ 5 → word_at words 0 ∷ word_at words 1 ∷ word_at words 2 ∷ word_at words 3 ∷ word_at words 4 ∷ [] ≡ words
five-words [] is = absurd (omega (arith, is))
five-words (a ∷ []) is = absurd (omega (arith, is))
five-words (a ∷ b ∷ []) is = absurd (omega (arith, is))
five-words (a ∷ b ∷ c ∷ []) is = absurd (omega (arith, is))
five-words (a ∷ b ∷ c ∷ d ∷ []) is = absurd (omega (arith, is))
five-words (a ∷ b ∷ c ∷ d ∷ e ∷ []) is = refl
five-words (a ∷ b ∷ c ∷ d ∷ e ∷ f ∷ words) is = absurd (omega (arith, is))

-- by what stands at their places
pub four-as : (words : List (List ℕ)) (a b c d : List ℕ) → length words ≡ 4 → a ≡ word_at words 0 → b ≡ word_at words 1 → c ≡ word_at words 2 → d ≡ word_at words 3 → a ∷ b ∷ c ∷ d ∷ [] ≡ words
four-as words a b c d is p q r s =
    let same : a ∷ b ∷ c ∷ d ∷ [] ≡ word_at words 0 ∷ word_at words 1 ∷ word_at words 2 ∷ word_at words 3 ∷ [] = cc in
    same ∙ four-words words is

pub five-as : (words : List (List ℕ)) (a b c d e : List ℕ) → length words ≡ 5 → a ≡ word_at words 0 → b ≡ word_at words 1 → c ≡ word_at words 2 → d ≡ word_at words 3 → e ≡ word_at words 4 → a ∷ b ∷ c ∷ d ∷ e ∷ [] ≡ words
five-as words a b c d e is p q r s t =
    let same : a ∷ b ∷ c ∷ d ∷ e ∷ [] ≡ word_at words 0 ∷ word_at words 1 ∷ word_at words 2 ∷ word_at words 3 ∷ word_at words 4 ∷ [] = cc in
    same ∙ five-words words is

pub not-four : (words : List (List ℕ)) → length words ≢ 4 → node_called words ≡ None
not-four [] other = refl
not-four (a ∷ []) other = refl
not-four (a ∷ b ∷ []) other = refl
not-four (a ∷ b ∷ c ∷ []) other = refl
not-four (a ∷ b ∷ c ∷ d ∷ []) other = absurd (other (omega arith))
not-four (a ∷ b ∷ c ∷ d ∷ e ∷ words) other = refl

pub not-five : (words : List (List ℕ)) → length words ≢ 5 → client_called words ≡ None
not-five [] other = refl
not-five (a ∷ []) other = refl
not-five (a ∷ b ∷ []) other = refl
not-five (a ∷ b ∷ c ∷ []) other = refl
not-five (a ∷ b ∷ c ∷ d ∷ []) other = refl
not-five (a ∷ b ∷ c ∷ d ∷ e ∷ []) other = absurd (other (omega arith))
not-five (a ∷ b ∷ c ∷ d ∷ e ∷ f ∷ words) other = refl

pub not-five-shown : (words : List (List ℕ)) → length words ≢ 5 → show_called words ≡ None
not-five-shown [] other = refl
not-five-shown (a ∷ []) other = refl
not-five-shown (a ∷ b ∷ []) other = refl
not-five-shown (a ∷ b ∷ c ∷ []) other = refl
not-five-shown (a ∷ b ∷ c ∷ d ∷ []) other = refl
not-five-shown (a ∷ b ∷ c ∷ d ∷ e ∷ []) other = absurd (other (omega arith))
not-five-shown (a ∷ b ∷ c ∷ d ∷ e ∷ f ∷ words) other = refl

-- ---- where files stand

pub shown-near : (site keys : ℕ) (word limit number : List ℕ) → site ≤ 5 → keys ≤ 5 → IfSome (show_at site keys word limit number) StandsNear
shown-near site keys word limit number first second = by (key_in word) (until_in limit number)
  where
    by : (key : Option Key) (until : Option Until) → IfSome (option_and_then (λ (k : Key). option_map (Show site keys k None) until) key) StandsNear
    by None until = tt
    by (Some key) None = tt
    by (Some key) (Some until) = (first, second)

-- ---- the place of one

pub prefix-map : {X Y : Type 0} (p : Y → Bool) (f : X → Y) (xs : List X) → prefix_len p (map f xs) ≡ prefix_len (λ x. p (f x)) xs
prefix-map p f [] = refl
prefix-map p f (x ∷ xs) = ap (λ n. cond (p (f x)) (1 + n) 0) (prefix-map p f xs)

pub hosts-place : (words : List Word) → position is_hosts (texts_of words) ≡ position is_hosts_word words
hosts-place words =
    ap (λ n. cond (nat_lt n (length (texts_of words))) (Some n) None) (prefix-map (λ text. not (is_hosts text)) string_bytes words)
    ∙ ap (λ m. cond (nat_lt (prefix_len (λ (word : Word). not (is_hosts_word word)) words) m) (Some (prefix_len (λ (word : Word). not (is_hosts_word word)) words)) None) (length-map words string_bytes)

-- ---- with a hosts file, and without

module _ (called : List (List ℕ) → Option Deployment) (words : List (List ℕ)) where
  pub hosted-without : None ≡ position is_hosts words → hosted called words ≡ called words
  hosted-without none = ap (hosted_at called words) (sym none)

  module _ (before : ℕ) (at : Some before ≡ position is_hosts words) where
    pub hosted-no : is_hosts_pair words before ≡ false → hosted called words ≡ None
    hosted-no not_so =
        ap (hosted_at called words) (sym at)
        ∙ ap (λ (b : Bool). if b then option_map (with_hosts before) (called (without_two before words)) else None) not_so

    pub hosted-so : is_hosts_pair words before ≡ true → (read : Option Deployment) → called (without_two before words) ≡ read → hosted called words ≡ option_map (with_hosts before) read
    hosted-so so read is =
        ap (hosted_at called words) (sym at)
        ∙ ap (λ (b : Bool). if b then option_map (with_hosts before) (called (without_two before words)) else None) so
        ∙ ap (option_map (with_hosts before)) is
