use Rattle.std.proofs.Common.{◌≡◌, Some, List, ℕ, true, subst, ap, refl, sym, ◌∙◌}
use Rattle.std.specs.Prelude.{slice_get}
use Rattle.std.proofs.lemmas.Option.{slice_get_read}
use Rattle.std.specs.Str.{bytes_eq}
use Rattle.cs_lang_names.specs.Numbering.{AreDistinct}
use Rattle.cs_lang_names.proofs.Numbering.{told_number}
use Rattle.cs_lang_names.proofs.numbers.Numbers.told.Goals as goal

pub returns-then-eq : goal.returns-then-eq
returns-then-eq c =
    let at : Some c.in_ok-get-2.field-0.now ≡ slice_get c.args.self.now c.from-number.result =
    sym (slice_get_read c.as_slice-2.result.now _ c.from-number.result c.in_ok-get-2.field-0.now refl c.in_ok-get-2.ensures.lookup.3.0 c.in_ok-get-2.ensures.lookup.1) ∙ ap (λ (ns : List (List ℕ)). slice_get ns c.from-number.result) (c.as_slice-2.ensures ∙ c.self.view_is) in
    let same : bytes_eq c.in_ok-get-2.field-0.now c.args.name.now ≡ true = cc in
    told_number c.args.self.now c.from-number.result c.in_ok-get-2.field-0.now c.args.name.now (subst AreDistinct c.self.view_is c.self.invariant) at same
