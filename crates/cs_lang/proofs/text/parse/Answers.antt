use Rattle.std.proofs.Common.{◌≡◌, ◌∙◌, arith}
use Rattle.cs_lang_token.specs.Texts.{IsText}
use Rattle.cs_lang.specs.Rules.{contract}
use Rattle.cs_lang.proofs.Fitting.{text_fits}
use Rattle.cs_lang.proofs.text.parse.Goals as goal

pub returns-in_ok-tree-in-Ok-clause-fits : goal.returns-in_ok-tree-in-Ok-clause-fits
returns-in_ok-tree-in-Ok-clause-fits c =
    rw c.new.ensures (text_fits c.args.text.now c.in_ok-tree-in-Ok.tree
    (record { short = omega arith; tokens = c.in-Ok.tokens.items; read = c.in-Ok.ensures.read; spells = rw c.as_slice.ensures.value at c.in_ok-tree-in-Ok.ensures.found }))

pub returns-in_ok-tree-in-Ok-clause-only : goal.returns-in_ok-tree-in-Ok-clause-only
returns-in_ok-tree-in-Ok-clause-only c = λ x is.
    let same : is.tokens ≡ c.in-Ok.tokens.items = cc (is.read, c.in-Ok.ensures.read) in
    let spells : IsText contract x c.as_slice.result.now = rw c.as_slice.ensures.value (rw (← same) is.spells) in
    c.new.ensures ∙ c.in_ok-tree-in-Ok.ensures.only x spells
