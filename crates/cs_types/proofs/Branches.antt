-- What is told of statements with parts, and of the names of a method, step by step.
use Rattle.std.proofs.Common.{◌≡◌, ℕ, max, Bool, List, [], Result, Ok, Err, sym, ap, ◌∙◌}
use Rattle.cs_lang_token.specs.Grammar.{◌>>=◌}
use Rattle.cs_lang_token.specs.declared.token.Text.{Text}
use Rattle.cs_lang.specs.declared.tree.Expr.{Expr, out-Expr}
use Rattle.cs_lang.specs.declared.tree.Block.{Block}
use Rattle.cs_lang.specs.declared.tree.Action.{Action}
use Rattle.cs_lang.specs.declared.tree.Action.TheVariants as action
use Rattle.cs_lang.specs.declared.tree.Slot.{Slot}
use Rattle.cs_lang.specs.declared.tree.TypeDef.{TypeDef}
use Rattle.cs_lang.specs.declared.tree.Method.{Method}
use Rattle.cs_types_kinds.specs.declared.fault.TypeError.{TypeError}
use Rattle.cs_types_kinds.specs.declared.scope.Use.{Use}
use Rattle.cs_types_kinds.specs.declared.scope.Use.TheVariants as usage
use Rattle.cs_types_kinds.specs.declared.scope.Entry.{Entry}
use Rattle.cs_types_kinds.specs.declared.expressions.Judged.{Judged}
use Rattle.cs_types_kinds.specs.Told.{Told, plus}
use Rattle.cs_types_kinds.specs.Kinds.{bool}
use Rattle.cs_types_kinds.specs.Scopes.{InSight}
use Rattle.cs_types_kinds.specs.Judging.{wanted}
use Rattle.cs_types_kinds.specs.Parts.{part_of}
use Rattle.cs_types_kinds.proofs.Layers.{part_first}
use Rattle.cs_types.specs.Answers.{Fails}
use Rattle.cs_types.specs.Stating.{Added, for_in_told}
use Rattle.cs_types.specs.Blocks.{action_told, block_told}
use Rattle.cs_types.specs.Declaring.{slots_told, names_told, use_of_created, use_of_returned, method_names}
use Rattle.cs_types.specs.Steps.{SightStays, AddsNames, BindsNames}
use Rattle.cs_types.proofs.Actions.{action_ifelse, action_forin}
use Rattle.cs_types.proofs.Faults.{fails_told, fails_first, fails_as}
use Rattle.cs_types.proofs.Staying.{stays_more}

pub adds_as : (r : Result ℕ TypeError) (a b : InSight) (t u : Told Added) → u ≡ t → AddsNames r a b t → AddsNames r a b u
adds_as (Ok cost) a b t u is h = (is ∙ h.0, h.1)
adds_as (Err e) a b t u is h = fails_as e t u (sym is) h

-- ---- a loop over a list

pub for_in_is : (a : Action) (name : Text) (list : Expr) (each : Block) (place : ℕ) (s : InSight) (told : Told Judged) → a ≡ action.ForIn name list each → told ≡ (part_of s list).found
    → action_told a place s ≡ for_in_told name told (out-Expr list).first (block_told each) s
for_in_is a name list each place s told is h =
    action_forin a name list each place s is
    ∙ ap (λ (r : Told Judged). for_in_told name r (part_of s list).first (block_told each) s) (sym h)
    ∙ ap (λ (first : ℕ). for_in_told name told first (block_told each) s) (part_first s list)

-- ---- two blocks

abbrev both : InSight → ℕ → ℕ → ℕ → Told Added
both s cost d e = Ok (plus cost (max d e), s.names)

abbrev behind : Block → InSight → ℕ → ℕ → Told Added
behind other s cost d = block_told other s >>= both s cost d

abbrev blocks : Block → Block → InSight → ℕ → Told Added
blocks block other s cost = block_told block s >>= behind other s cost

module _ (a : Action) (condition : Expr) (block other : Block) (place : ℕ) (s : InSight) (is : a ≡ action.IfElse condition block other) where
  pub else_cost : (e : TypeError) → Err e ≡ wanted bool (part_of s condition) → Fails e (action_told a place s)
  else_cost e h = fails_as e _ (action_told a place s) (sym (action_ifelse a condition block other place s is)) (fails_first e (wanted bool (part_of s condition)) (blocks block other s) (fails_told e _ (sym h)))

  cost_is : (cost : ℕ) → Ok cost ≡ wanted bool (part_of s condition) → blocks block other s cost ≡ action_told a place s
  cost_is cost h = ap (λ (r : Told ℕ). r >>= blocks block other s) h ∙ sym (action_ifelse a condition block other place s is)

  pub else_first : (cost : ℕ) (e : TypeError) → Ok cost ≡ wanted bool (part_of s condition) → Fails e (block_told block s) → Fails e (action_told a place s)
  else_first cost e h f = fails_as e (blocks block other s cost) (action_told a place s) (cost_is cost h) (fails_first e (block_told block s) (behind other s cost) f)

  first_is : (cost d : ℕ) → Ok cost ≡ wanted bool (part_of s condition) → block_told block s ≡ Ok d → behind other s cost d ≡ action_told a place s
  first_is cost d h i = sym (ap (λ (r : Told ℕ). r >>= behind other s cost) i) ∙ cost_is cost h

  pub else_second : (cost d : ℕ) (e : TypeError) (u : InSight) → Ok cost ≡ wanted bool (part_of s condition) → block_told block s ≡ Ok d → u ≡ s → Fails e (block_told other u) → Fails e (action_told a place s)
  else_second cost d e u h i same f = fails_as e (behind other s cost d) (action_told a place s) (first_is cost d h i) (fails_first e (block_told other s) (both s cost d) (fails_as e _ (block_told other s) (ap (block_told other) same) f))

  pub else_done : (cost d e dearer sum : ℕ) (u v : InSight) → Ok cost ≡ wanted bool (part_of s condition) → block_told block s ≡ Ok d → u ≡ s → block_told other u ≡ Ok e → v ≡ s → dearer ≡ max d e → sum ≡ plus cost dearer
      → action_told a place s ≡ Ok (sum, v.names)
  else_done cost d e dearer sum u v h i same j again m n =
      sym (first_is cost d h i) ∙ ap (λ (r : Told ℕ). r >>= both s cost d) (sym (ap (block_told other) same) ∙ j)
      ∙ ap (λ (x : ℕ). Ok (plus cost x, s.names)) (sym m) ∙ ap (λ (x : ℕ). Ok (x, s.names)) (sym n) ∙ ap (λ (z : InSight). Ok (sum, z.names)) (sym again)

-- ---- the names of a method

pub binds_after : (r : Result Unit TypeError) (a b c : InSight) (t u : Told (List Entry)) → SightStays a b → u ≡ t → BindsNames r b c t → BindsNames r a c u
binds_after (Ok done) a b c t u st is h = (is ∙ h.0, stays_more a b c st h.1)
binds_after (Err e) a b c t u st is h = fails_as e t u (sym is) h

pub types_stay : (a b : InSight) → SightStays a b → b.contract.types ≡ a.contract.types
types_stay a b p = ap (λ (z : InSight). z.contract.types) p.is

pub slots_are : (types all : List TypeDef) (u v : Use) (xs ys : List Slot) (names more : List Entry) → all ≡ types → v ≡ u → ys ≡ xs → slots_told all v ys names ≡ Ok more → slots_told types u xs names ≡ Ok more
slots_are types all u v xs ys names more h i j k =
    ap (λ (t : List TypeDef). slots_told t u xs names) (sym h)
    ∙ ap (λ (w : Use). slots_told all w xs names) (sym i)
    ∙ ap (λ (zs : List Slot). slots_told all v zs names) (sym j) ∙ k

pub names_are : (types : List TypeDef) (in_check : Bool) (m : Method) (a b c d : List Entry) → slots_told types usage.Read m.consumes [] ≡ Ok a → slots_told types usage.Read m.reads a ≡ Ok b → names_told usage.Read m.takes b ≡ Ok c
    → slots_told types (use_of_created in_check) m.creates c ≡ Ok d → method_names types in_check m ≡ names_told (use_of_returned in_check) m.returns d
names_are types in_check m a b c d h i j k =
    ap (λ (r : Told (List Entry)). r >>= λ a. slots_told types usage.Read m.reads a >>= λ b. names_told usage.Read m.takes b >>= λ c. slots_told types (use_of_created in_check) m.creates c >>= λ d. names_told (use_of_returned in_check) m.returns d) h
    ∙ ap (λ (r : Told (List Entry)). r >>= λ b. names_told usage.Read m.takes b >>= λ c. slots_told types (use_of_created in_check) m.creates c >>= λ d. names_told (use_of_returned in_check) m.returns d) i
    ∙ ap (λ (r : Told (List Entry)). r >>= λ c. slots_told types (use_of_created in_check) m.creates c >>= λ d. names_told (use_of_returned in_check) m.returns d) j
    ∙ ap (λ (r : Told (List Entry)). r >>= λ d. names_told (use_of_returned in_check) m.returns d) k
