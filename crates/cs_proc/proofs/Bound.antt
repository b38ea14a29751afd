-- Names for returned values, one after the other.
use Rattle.std.proofs.Common.{◌≡◌, ℕ, ◌+◌, ◌<◌, Bool, true, false, List, ◌∷◌, drop, length, get_or, Option, Some, None, sym, ap, ◌∙◌}
use Rattle.std.specs.Prelude.{slice_get}
use Rattle.std.proofs.lemmas.List.{at_drop_more}
use Rattle.cs_base.specs.Fields.{◌>>=◌}
use Rattle.cs_lang_token.specs.declared.token.Text.{Text}
use Rattle.cs_lang.specs.declared.tree.Field.{Field}
use Rattle.cs_tx_value.specs.declared.value.Value.{Value}
use Rattle.cs_eval_values.specs.Namings.{Named}
use Rattle.cs_eval_values.specs.Filling.{Fills}
use Rattle.cs_proc.specs.Acting.{name_bound, names_bound}

pub gave : (fits : Bool) (more : List Named) (found : Option (List Named)) → fits ≡ true → Fills fits more found → found ≡ Some more
gave true more found is h = h
gave false more found is h = absurd cc

pub missed : (fits : Bool) (more : List Named) (found : Option (List Named)) → fits ≡ false → Fills fits more found → found ≡ None
missed true more found is h = absurd cc
missed false more found is h = h

module _ (fields : List Field) (values : List Value) (bound : List Text) (i : ℕ) (name : Text) (f : Option Field) (v : Option Value) (names : List Named) where
  next : i < length bound → name ≡ get_or bound i name → slice_get fields i ≡ f → slice_get values i ≡ v
      → names_bound fields values i (drop i bound) names ≡ (name_bound name f v names >>= names_bound fields values (i + 1) (drop (i + 1) bound))
  next lt is field value =
      at_drop_more (λ (ns : List Text). names_bound fields values i ns names) bound i name lt
      ∙ ap (λ (n : Text). names_bound fields values i (n ∷ drop (i + 1) bound) names) (sym is)
      ∙ ap (λ (o : Option Field). name_bound name o (slice_get values i) names >>= names_bound fields values (i + 1) (drop (i + 1) bound)) field
      ∙ ap (λ (o : Option Value). name_bound name f o names >>= names_bound fields values (i + 1) (drop (i + 1) bound)) value

  pub bound_on : (more : List Named) → i < length bound → name ≡ get_or bound i name → slice_get fields i ≡ f → slice_get values i ≡ v → name_bound name f v names ≡ Some more
      → names_bound fields values i (drop i bound) names ≡ names_bound fields values (i + 1) (drop (i + 1) bound) more
  bound_on more lt is field value one = next lt is field value ∙ ap (λ (o : Option (List Named)). o >>= names_bound fields values (i + 1) (drop (i + 1) bound)) one

  pub bound_not : i < length bound → name ≡ get_or bound i name → slice_get fields i ≡ f → slice_get values i ≡ v → name_bound name f v names ≡ None
      → names_bound fields values i (drop i bound) names ≡ None
  bound_not lt is field value none = next lt is field value ∙ ap (λ (o : Option (List Named)). o >>= names_bound fields values (i + 1) (drop (i + 1) bound)) none
