-- The method that is called is the nearest above of its name.
use Rattle.std.proofs.Common.{◌≡◌, ℕ, suc, Bool, true, false, cond, Option, Some, None, List, refl, ap, ◌∙◌}
use Rattle.std.specs.Prelude.{slice_get}
use Rattle.cs_lang.specs.declared.tree.ContractTree.{ContractTree}
use Rattle.cs_lang.specs.declared.tree.Method.{Method}
use Rattle.cs_types_kinds.specs.Lookups.{is_method}
use Rattle.cs_eval_values.specs.declared.view.View.{View}
use Rattle.cs_proc.specs.Methods.{callee, callee_here, called}

module _ (contract : ContractTree) (view : View) (name : List ℕ) where
  none_above : called contract view 0 name ≡ None
  unfolding called
  none_above = refl

  one_above : (n : ℕ) → called contract view (suc n) name ≡ callee_here contract view (called contract view n) name (slice_get contract.methods n)
  unfolding called
  one_above n = refl

  pub found_none : (above left : ℕ) → left ≡ 0 → called contract view above name ≡ called contract view left name → called contract view above name ≡ None
  found_none above left is same = same ∙ ap (λ (n : ℕ). called contract view n name) is ∙ none_above

  stepped : (above left more : ℕ) → left ≡ suc more → called contract view above name ≡ called contract view left name
      → called contract view above name ≡ callee_here contract view (called contract view more) name (slice_get contract.methods more)
  stepped above left more is same = same ∙ ap (λ (n : ℕ). called contract view n name) is ∙ one_above more

  pub found_past : (above left more : ℕ) → left ≡ suc more → called contract view above name ≡ called contract view left name → slice_get contract.methods more ≡ None
      → called contract view above name ≡ called contract view more name
  found_past above left more is same at =
      stepped above left more is same ∙ ap (λ (o : Option Method). callee_here contract view (called contract view more) name o) at

  pub found_other : (above left more : ℕ) (m : Method) → left ≡ suc more → called contract view above name ≡ called contract view left name → slice_get contract.methods more ≡ Some m
      → is_method name m ≡ false → called contract view above name ≡ called contract view more name
  found_other above left more m is same at differs =
      stepped above left more is same ∙ ap (λ (o : Option Method). callee_here contract view (called contract view more) name o) at
      ∙ ap (λ (b : Bool). cond b (Some (callee contract view (called contract view more) m)) (called contract view more name)) differs

  pub found_here : (above left more : ℕ) (m : Method) → left ≡ suc more → called contract view above name ≡ called contract view left name → slice_get contract.methods more ≡ Some m
      → is_method name m ≡ true → called contract view above name ≡ Some (callee contract view (called contract view more) m)
  found_here above left more m is same at named =
      stepped above left more is same ∙ ap (λ (o : Option Method). callee_here contract view (called contract view more) name o) at
      ∙ ap (λ (b : Bool). cond b (Some (callee contract view (called contract view more) m)) (called contract view more name)) named
