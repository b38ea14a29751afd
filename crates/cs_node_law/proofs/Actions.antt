-- The actions of what was chosen, in the order in which they are executed.
use Rattle.std.proofs.Common.{◌≡◌, inl, inr, ℕ, zero, suc, ◌+◌, List, [], ◌∷◌, ◌++◌, length, Some, refl, sym, ap, ◌∙◌, arith, append_assoc}
use Rattle.std.specs.Prelude.{slice_get, take}
use Rattle.std.proofs.lemmas.List.{length-append}
use Rattle.cs_base.specs.Lists.{IsIn}
use Rattle.cs_order.specs.declared.proposed.Proposed.{Proposed}
use Rattle.cs_order.specs.Deeds.{chosen_in}
use Rattle.cs_ledger.specs.Table.{Effect}
use Rattle.cs_tx_types.specs.declared.action.Action.{Action}
use Rattle.cs_node_rules.specs.Signs.{Sign}
use Rattle.cs_node_rules.specs.Site.{Site, View}
use Rattle.cs_node_law.specs.Made.{log_in, actions_in, NodeExecutes}

-- ---- lists

pub got-in : {A : Type 0} (xs : List A) (n : ℕ) (x : A) → slice_get xs n ≡ Some x → IsIn x xs
got-in {A} [] n x e = absurd cc
got-in {A} (y ∷ xs) zero x e = let same : y ≡ x = cc in inl (sym same)
got-in {A} (y ∷ xs) (suc n) x e = inr (got-in xs n x e)

-- what stands behind a front
pub get-seam : {A : Type 0} (xs : List A) (x : A) (ys : List A) → slice_get (xs ++ x ∷ ys) (length xs) ≡ Some x
get-seam {A} [] x ys = refl
get-seam {A} (y ∷ xs) x ys = get-seam xs x ys

pub take-seam : {A : Type 0} (xs ys : List A) → take (length xs) (xs ++ ys) ≡ xs
take-seam {A} [] ys = refl
take-seam {A} (x ∷ xs) ys = ap (λ (l : List A). x ∷ l) (take-seam xs ys)

take-got : {A : Type 0} (xs : List A) (n : ℕ) (x : A) → slice_get xs n ≡ Some x → length (take n xs) ≡ n
take-got {A} [] n x e = absurd cc
take-got {A} (y ∷ xs) zero x e = refl
take-got {A} (y ∷ xs) (suc n) x e = ap suc (take-got xs n x e)

-- what stands in a list of one stands in the first place
pub got-alone : {A : Type 0} (xs : List A) (n : ℕ) (x : A) → length xs ≡ 1 → slice_get xs n ≡ Some x → n ≡ 0
got-alone {A} [] n x one e = absurd cc
got-alone {A} (y ∷ xs) zero x one e = refl
got-alone {A} (y ∷ []) (suc n) x one e = absurd cc
got-alone {A} (y ∷ z ∷ xs) (suc n) x one e = absurd (omega (arith, one))

-- ---- all actions

module _ {M : Type 0} (site : Site M) where
  pub actions-append : (a b : List Proposed) → actions_in site (a ++ b) ≡ actions_in site a ++ actions_in site b
  actions-append [] b = refl
  actions-append (p ∷ a) b =
      ap (λ (l : List Action). (site.entry_in p).actions ++ l) (actions-append a b)
      ∙ sym (append_assoc (site.entry_in p).actions (actions_in site a) (actions_in site b))

  -- an action has behind it those of the entries before its own
  pub action-at : (chosen : List Proposed) (slot place : ℕ) (p : Proposed) (action : Action) → slice_get chosen slot ≡ Some p
      → slice_get (site.entry_in p).actions place ≡ Some action → slice_get (actions_in site chosen) (length (actions_in site (take slot chosen)) + place) ≡ Some action
  action-at [] slot place p action there within = absurd cc
  action-at (q ∷ chosen) zero place p action there within =
      let same : q ≡ p = cc in
      let none : 0 + place ≡ place = omega arith in
      ap (λ (n : ℕ). slice_get (actions_in site (q ∷ chosen)) n) none
      ∙ get-front (site.entry_in q).actions (actions_in site chosen) place action (ap (λ (z : Proposed). slice_get (site.entry_in z).actions place) same ∙ within)
    where
      get-front : (xs ys : List Action) (n : ℕ) (x : Action) → slice_get xs n ≡ Some x → slice_get (xs ++ ys) n ≡ Some x
      get-front [] ys n x e = absurd cc
      get-front (y ∷ xs) ys zero x e = e
      get-front (y ∷ xs) ys (suc n) x e = get-front xs ys n x e
  action-at (q ∷ chosen) (suc slot) place p action there within =
      let first = (site.entry_in q).actions in
      let rest = actions_in site (take slot chosen) in
      let behind : length (first ++ rest) + place ≡ length first + (length rest + place) = omega (arith, length-append first rest) in
      ap (λ (n : ℕ). slice_get (actions_in site (q ∷ chosen)) n) behind
      ∙ get-behind first (actions_in site chosen) (length rest + place)
      ∙ action-at chosen slot place p action there within
    where
      get-behind : (xs ys : List Action) (n : ℕ) → slice_get (xs ++ ys) (length xs + n) ≡ slice_get ys n
      get-behind [] ys n = let none : 0 + n ≡ n = omega arith in ap (λ (k : ℕ). slice_get ys k) none
      get-behind (x ∷ xs) ys n =
          let next : length (x ∷ xs) + n ≡ suc (length xs + n) = omega arith in
          ap (λ (k : ℕ). slice_get (x ∷ (xs ++ ys)) k) next ∙ get-behind xs ys n

  -- the next action that is executed
  pub next-is : (v : View M) (signs : List Sign) (slot place : ℕ) (action : Action) (effect : Effect) → NodeExecutes site v signs slot place action effect
      → slice_get (actions_in site (chosen_in v.member.deeds)) (length (log_in signs)) ≡ Some action
  next-is v signs slot place action effect e =
      ap (λ (n : ℕ). slice_get (actions_in site (chosen_in v.member.deeds)) n) e.next
      ∙ action-at (chosen_in v.member.deeds) slot place e.proposed action e.chosen e.within

  -- ---- one action for each slot

  module _ (one : (p : Proposed) → length (site.entry_in p).actions ≡ 1) where
    pub actions-count : (chosen : List Proposed) → length (actions_in site chosen) ≡ length chosen
    actions-count [] = refl
    actions-count (p ∷ chosen) = omega (arith, one p, actions-count chosen, length-append (site.entry_in p).actions (actions_in site chosen))

    pub next-slot : (v : View M) (signs : List Sign) (slot place : ℕ) (action : Action) (effect : Effect) → NodeExecutes site v signs slot place action effect → slot ≡ length (log_in signs)
    next-slot v signs slot place action effect e =
        let first : place ≡ 0 = got-alone (site.entry_in e.proposed).actions place action (one e.proposed) e.within in
        omega (arith, e.next, first, actions-count (take slot (chosen_in v.member.deeds)), take-got (chosen_in v.member.deeds) slot e.proposed e.chosen)
