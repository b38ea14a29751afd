use Rattle.std.proofs.Common.{ℤ, List, ℕ, ap, ◌∙◌, rules}
use Rattle.std.specs.Int.{w64}
use Rattle.std.specs.Int.RustNames.{FitsSigned}
use Rattle.std.proofs.lemmas.Int.{to_z-of_z}
use Rattle.cs_tx_value.specs.declared.value.Value.{Value}
use Rattle.cs_tx_value.specs.declared.value.Value.TheOpen.{Value-F}
use Rattle.cs_eval_shared.specs.declared.shared.Form.TheVariants as form
use Rattle.cs_eval_shared.proofs.Opening.{opened}
use Rattle.cs_eval_shared.proofs.shared.Shared.open.Goals as goal

pub returns-in-Int : goal.returns-in-Int
returns-in-Int c =
    let fits : FitsSigned w64 c.in-Int.number = search rules in
    ap (λ (n : ℤ). Value-F.Int n) (to_z-of_z w64 c.in-Int.number fits)
    ∙ opened c.self.inside.form (form.Int c.in-Int.number) c.args.self.now c.in-Int.is c.self.view_is

pub returns-in-Bool : goal.returns-in-Bool
returns-in-Bool c = opened c.self.inside.form (form.Bool c.in-Bool.truth) c.args.self.now c.in-Bool.is c.self.view_is

pub returns-in-Text : goal.returns-in-Text
returns-in-Text c = opened c.self.inside.form (form.Text c.in-Text.bytes) c.args.self.now c.in-Text.is c.self.view_is

pub returns-in-Bytes : goal.returns-in-Bytes
returns-in-Bytes c =
    ap (λ (bytes : List ℕ). Value-F.Bytes bytes) (c.as_slice.ensures ∙ c.as_ref.ensures)
    ∙ opened c.self.inside.form (form.Bytes c.in-Bytes.bytes) c.args.self.now c.in-Bytes.is c.self.view_is

pub returns-in-List : goal.returns-in-List
returns-in-List c =
    ap (λ (items : List Value). Value-F.List items) (c.as_slice-in-List.ensures ∙ c.as_ref-in-List.ensures)
    ∙ opened c.self.inside.form (form.List c.in-List.items c.in-List.field-1) c.args.self.now c.in-List.is c.self.view_is
