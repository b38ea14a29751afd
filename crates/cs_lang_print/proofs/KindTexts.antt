-- The texts of kinds, one equation each.
use Rattle.std.proofs.Common.{◌≡◌, ℕ, List, ◌++◌, sym, ap, ◌∙◌}
use Rattle.std.specs.Prelude.{codes}
use Rattle.cs_lang.specs.declared.tree.ValueKind.{ValueKind}
use Rattle.cs_lang.specs.declared.tree.ValueKind.TheVariants as value_kind
use Rattle.cs_lang.specs.declared.tree.ValueKind.TheVariants.{rolls-Int, rolls-Bool, rolls-Bytes, rolls-List}
use Rattle.cs_lang.specs.declared.tree.ValueKind.TheOpen.{ValueKind-F}
use Rattle.cs_lang.specs.declared.tree.ValueKind.TheFolds.{fold-ValueKind, fold-roll-ValueKind}
use Rattle.cs_lang_print.specs.Words.{word}
use Rattle.cs_lang_print.specs.Expressions.{layer_kind, kind_text}

pub kind_int : kind_text value_kind.Int ≡ word (codes "int")
unfolding kind_text
kind_int = ap (fold-ValueKind (List ℕ) layer_kind) (sym rolls-Int) ∙ fold-roll-ValueKind (List ℕ) layer_kind ValueKind-F.Int

pub kind_bool : kind_text value_kind.Bool ≡ word (codes "bool")
unfolding kind_text
kind_bool = ap (fold-ValueKind (List ℕ) layer_kind) (sym rolls-Bool) ∙ fold-roll-ValueKind (List ℕ) layer_kind ValueKind-F.Bool

pub kind_bytes : kind_text value_kind.Bytes ≡ word (codes "bytes")
unfolding kind_text
kind_bytes = ap (fold-ValueKind (List ℕ) layer_kind) (sym rolls-Bytes) ∙ fold-roll-ValueKind (List ℕ) layer_kind ValueKind-F.Bytes

pub kind_list : (items : ValueKind) → kind_text (value_kind.List items) ≡ word (codes "[") ++ (kind_text items ++ word (codes "]"))
unfolding kind_text
kind_list items = ap (fold-ValueKind (List ℕ) layer_kind) (sym (rolls-List items)) ∙ fold-roll-ValueKind (List ℕ) layer_kind (ValueKind-F.List items)

pub ruleset kinds = (kind_int, kind_bool, kind_bytes, kind_list)
