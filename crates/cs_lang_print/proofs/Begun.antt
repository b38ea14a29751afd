-- Texts that begin with others.
use Rattle.std.proofs.Common.{◌≡◌, List, [], ◌++◌, ℕ, sym, ap, ◌∙◌, append_assoc}
use Rattle.std.proofs.lemmas.List.{append-nil}
use Rattle.cs_lang_print.specs.Words.{GoesOnBehind}

-- nothing was put
pub unchanged : (text : List ℕ) → GoesOnBehind text text
unchanged text = record { more = []; is = sym (append-nil text) }

-- behind what goes on where something ends, something more was put
pub further : (new mid old : List ℕ) → GoesOnBehind new mid → GoesOnBehind mid old → GoesOnBehind new old
further new mid old begun before = record {
  more = before.more ++ begun.more;
  is = begun.is ∙ ap (λ (text : List ℕ). text ++ begun.more) before.is ∙ append_assoc old before.more begun.more;
}

pub put : (new mid old part : List ℕ) → new ≡ mid ++ part → GoesOnBehind mid old → GoesOnBehind new old
put new mid old part is before = further new mid old (record { more = part; is = is }) before
