-- Turns of the machine: what a part of a run gives goes on with what was left to do.
use Rattle.std.proofs.Common.{◌≡◌, ℕ, Bool, true, false, cond, List, [], ◌∷◌, map, Result, Ok, Err, refl, sym, ap, ◌∙◌, subst, ◌+◌, ◌<◌, arith, add-zero, Bor, ◌-◌, ◌≤◌, length, get_or, take, drop}
use Rattle.std.proofs.lemmas.List.{take_all}
use Rattle.std.specs.Prelude.{IfOk}
use Rattle.cs_eval.specs.Work.{left_work}
use Rattle.cs_eval.specs.declared.frame.Frame.TheVariants as frame
use Rattle.cs_tx_value.specs.declared.value.Value.{Value}
use Rattle.cs_lang.specs.declared.tree.Expr.{Expr}
use Rattle.cs_lang.specs.declared.tree.Link.{Link, out-Link}
use Rattle.cs_lang.specs.declared.tree.Step.{Step, out-Step}
use Rattle.cs_eval_values.specs.declared.stop.Stop.{Stop}
use Rattle.cs_eval_values.specs.declared.stop.Stop.TheVariants as stop
use Rattle.cs_eval_values.specs.declared.operators.Unary.{Unary}
use Rattle.cs_eval_values.specs.declared.operators.Binary.{Binary}
use Rattle.cs_eval_values.specs.declared.operators.Binary.TheVariants as two
use Rattle.cs_eval_values.specs.Answers.{Stops}
use Rattle.cs_eval_values.specs.Runs.{Run, Gave, Answered, Trapped, gives, spend, ◌>>=◌, through}
use Rattle.cs_eval_values.specs.Datums.{Datum}
use Rattle.cs_eval_values.specs.Operators.{unary, binary, left_decides, list_of, with_item}
use Rattle.cs_eval.specs.declared.frame.Frame.{Frame}
use Rattle.cs_eval.specs.declared.frame.Next.{Next}
use Rattle.cs_eval.specs.Meaning.{Environment, Meant, Linking, Stepping, of_one, of_right, of_two, item_run, items_run, link_run, links_run, chain_run, step_run, steps_run, path_run, run_of, expr_meant, meaning, link_meant}
use Rattle.cs_eval.specs.Machine.{MachineMoves, continued, resumed, then_resumed}
use Rattle.cs_eval.proofs.RunLaws.{spend_none, spend_spend, spend_bind, bind_bind, gives_bind, under}
use Rattle.cs_eval.proofs.Layers.{link_is}

-- ---- stops

-- what stops stops all behind it
pub stops_bind : {A B : Type 0} (e : Stop) (n : ℕ) (r : Run A) (f : A → Run B) → Stops e n r → Stops e n (r >>= f)
stops_bind (stop.Answer b) n r f is = ap (λ x. x >>= f) is
stops_bind (stop.Trap why place) n r f is = ap (λ x. x >>= f) is
stops_bind stop.Memory n r f is = tt

pub stops_is : {A : Type 0} (e : Stop) (n : ℕ) (r s : Run A) → r ≡ s → Stops e n s → Stops e n r
stops_is {A} e n r s is h = let P : Run A → Type 0 = λ x. Stops e n x in subst P (sym is) h

pub moves_is : (sight : Environment) (answer : Result Next Stop) (n : ℕ) (r s : Run Datum) (fs : List Frame) → r ≡ s → MachineMoves sight answer n s fs → MachineMoves sight answer n r fs
moves_is sight answer n r s fs is h = let P : Run Datum → Type 0 = λ x. MachineMoves sight answer n x fs in subst P (sym is) h

-- so much is spent before
pub moves_spent : (sight : Environment) (answer : Result Next Stop) (n : ℕ) (r : Run Datum) (fs : List Frame) → MachineMoves sight answer 0 r fs → MachineMoves sight answer n (spend n r) fs
moves_spent sight (Ok next) n r fs is =
    ap (spend n) is ∙ spend_spend n 0 (continued sight next fs) ∙ ap (λ (k : ℕ). spend k (continued sight next fs)) (add-zero n)
moves_spent sight (Err (stop.Answer b)) n r fs is = ap (spend n) is ∙ ap (λ (k : ℕ). Answered b k) (add-zero n)
moves_spent sight (Err (stop.Trap why place)) n r fs is = ap (spend n) is ∙ ap (λ (k : ℕ). Trapped why place k) (add-zero n)
moves_spent sight (Err stop.Memory) n r fs is = tt

-- ---- what is done at once

module _ (g : Datum → Run Datum) where
  -- a leaf gives its value
  pub leaf : (r s : Run Datum) (d : Datum) → r ≡ s → s ≡ Gave d 0 → (r >>= g) ≡ spend 0 (g d)
  leaf r s d is gave = ap (λ x. x >>= g) (is ∙ gave)

  pub leaf_stops : (r s : Run Datum) (e : Stop) → r ≡ s → Stops e 0 s → Stops e 0 (r >>= g)
  leaf_stops r s e is h = stops_bind e 0 r g (stops_is e 0 r s is h)

  -- ---- what is begun

  pub one_first : (op : Unary) (place : ℕ) (m : Run Datum) → (of_one op place m >>= g) ≡ spend 0 (m >>= λ d. unary op place d >>= g)
  one_first op place m = bind_bind m (unary op place) g ∙ sym (spend_none (m >>= λ d. unary op place d >>= g))

  pub two_first : (op : Binary) (place : ℕ) (l r : Run Datum) → (of_two op place l r >>= g) ≡ spend 0 (l >>= λ a. r >>= binary op place a >>= g)
  two_first op place l r = bind_bind l (λ a. r >>= binary op place a) g ∙ sym (spend_none (l >>= λ a. r >>= binary op place a >>= g))

  pub right_next : (op : Binary) (place : ℕ) (a : Datum) (r : Run Datum) → (r >>= binary op place a >>= g) ≡ spend 0 (r >>= λ b. binary op place a b >>= g)
  right_next op place a r = bind_bind r (binary op place a) g ∙ sym (spend_none (r >>= λ b. binary op place a b >>= g))

  pub then_first : (m : Run Datum) (f : Datum → Run Datum) → (m >>= f >>= g) ≡ spend 0 (m >>= λ d. f d >>= g)
  then_first m f = bind_bind m f g ∙ sym (spend_none (m >>= λ d. f d >>= g))

  none_behind : (m : Run Datum) (f : Datum → Run Datum) → ((d : Datum) → f d ≡ gives d) → (m >>= f >>= g) ≡ spend 0 (m >>= g)
  none_behind m f none =
      bind_bind m f g
      ∙ under m (λ d. f d >>= g) g (λ d. ap (λ x. x >>= g) (none d) ∙ spend_none (g d))
      ∙ sym (spend_none (m >>= g))

  -- nothing stands behind it
  pub chain_none : (m : Run Datum) → (chain_run m [] >>= g) ≡ spend 0 (m >>= g)
  chain_none m = none_behind m (links_run []) (λ d. refl)

  pub path_none : (m : Run Datum) → (path_run m [] >>= g) ≡ spend 0 (m >>= g)
  path_none m = none_behind m (steps_run []) (λ d. refl)

  -- ---- items

  pub items_first : (place : ℕ) (items : List Value) (r : Run Datum) (rs : List (Run Datum))
      → (items_run place items (r ∷ rs) >>= g) ≡ spend 0 (r >>= λ d. with_item place items d >>= λ more. items_run place more rs >>= g)
  items_first place items r rs =
      bind_bind (item_run place items r >>= λ b. through (item_run place) b rs) (λ all. list_of all place) g
      ∙ bind_bind (r >>= with_item place items) (λ b. through (item_run place) b rs) (λ all. list_of all place >>= g)
      ∙ bind_bind r (with_item place items) (λ b. through (item_run place) b rs >>= λ all. list_of all place >>= g)
      ∙ under r (λ d. with_item place items d >>= λ b. through (item_run place) b rs >>= λ all. list_of all place >>= g)
      (λ d. with_item place items d >>= λ more. items_run place more rs >>= g)
      (λ d. under (with_item place items d) (λ b. through (item_run place) b rs >>= λ all. list_of all place >>= g)
      (λ more. items_run place more rs >>= g)
      (λ b. sym (bind_bind (through (item_run place) b rs) (λ all. list_of all place) g)))
      ∙ sym (spend_none (r >>= λ d. with_item place items d >>= λ more. items_run place more rs >>= g))

  pub items_end : (place : ℕ) (items : List Value) → (items_run place items [] >>= g) ≡ (list_of items place >>= g)
  items_end place items = ap (λ x. x >>= g) (spend_none (list_of items place))

  -- an item with its value
  pub item_added : (place : ℕ) (items more : List Value) (d : Datum) (rs : List (Run Datum)) → with_item place items d ≡ Gave more 0
      → (with_item place items d >>= λ all. items_run place all rs >>= g) ≡ (items_run place more rs >>= g)
  item_added place items more d rs is =
      ap (λ x. x >>= λ all. items_run place all rs >>= g) is ∙ spend_none (items_run place more rs >>= g)

  -- ---- operators and steps

  pub links_first : (l : Linking) (ls : List Linking) (left : Datum)
      → (links_run (l ∷ ls) left >>= g) ≡ (link_run left l >>= λ d. links_run ls d >>= g)
  links_first l ls left = bind_bind (link_run left l) (links_run ls) g

  pub steps_first : (s : Stepping) (ss : List Stepping) (d : Datum)
      → (steps_run (s ∷ ss) d >>= g) ≡ (s.run d >>= λ e. steps_run ss e >>= g)
  steps_first s ss d = bind_bind (step_run d s) (steps_run ss) g

-- the left side is all that counts
pub link_decided : (sight : Environment) (l : Link) (left : Datum) (g : Datum → Run Datum) → left_decides (out-Link l).operator left ≡ true
    → (link_run left (link_meant sight l) >>= g) ≡ spend 0 (g left)
link_decided sight l left g is =
    ap (λ (k : Linking). link_run left k >>= g) (link_is sight l)
    ∙ ap (λ b. (cond b (gives left) (of_right (two.Linked (out-Link l).operator) (out-Link l).place left (meaning sight (out-Link l).right))) >>= g) is

pub link_goes_on : (sight : Environment) (l : Link) (left : Datum) → left_decides (out-Link l).operator left ≡ false
    → link_run left (link_meant sight l) ≡ of_right (two.Linked (out-Link l).operator) (out-Link l).place left (meaning sight (out-Link l).right)
link_goes_on sight l left is =
    ap (λ (k : Linking). link_run left k) (link_is sight l)
    ∙ ap (λ b. cond b (gives left) (of_right (two.Linked (out-Link l).operator) (out-Link l).place left (meaning sight (out-Link l).right))) is

pub ruleset linking = (link_decided, link_goes_on)

-- nothing was left to do
pub whole : (m : Run Datum) → m ≡ spend 0 (m >>= gives)
whole (Gave d n) = ap (λ (k : ℕ). Gave d k) (omega arith)
whole (Answered b n) = ap (λ (k : ℕ). Answered b k) (omega arith)
whole (Trapped why place n) = ap (λ (k : ℕ). Trapped why place k) (omega arith)

-- ---- answers of calls

pub moves_err : (sight : Environment) (answer : Result Next Stop) (e : Stop) (n : ℕ) (r : Run Datum) (fs : List Frame) → answer ≡ Err e → Stops e n r → MachineMoves sight answer n r fs
moves_err sight answer e n r fs is h = let P : Result Next Stop → Type 0 = λ a. MachineMoves sight a n r fs in subst P (sym is) h

-- the frame of the right part is on top
pub right_on_top : (sight : Environment) (op : Binary) (place : ℕ) (a : Datum) (right : Expr) (fs more : List Frame) → more ≡ frame.Second op a place ∷ fs
    → then_resumed sight fs (of_right op place a (meaning sight right)) ≡ spend 0 (meaning sight right >>= resumed sight more)
right_on_top sight op place a right fs more is =
    right_next (resumed sight fs) op place a (meaning sight right)
    ∙ ap (λ (gs : List Frame). spend 0 (meaning sight right >>= resumed sight gs)) (sym is)

-- a list with a first one, and those behind it
pub opened_front : (links : List Link) (link : Link) → 1 ≤ length links → link ≡ get_or links 0 link
    → links ≡ link ∷ take (length links - 1) (drop 1 links)
opened_front [] link some is = absurd (omega arith)
opened_front (x ∷ xs) link some is =
    ap (λ (y : Link). y ∷ xs) (sym is) ∙ ap (λ (ys : List Link). link ∷ ys) (sym (take_all (length (x ∷ xs) - 1) xs (omega arith)))

-- the first operator, and then the others
pub chain_on_top : (sight : Environment) (links : List Link) (link : Link) (rest : Bor (List Link)) (left : Datum) (fs more : List Frame)
    → links ≡ link ∷ rest.now → more ≡ frame.Chain rest ∷ fs
    → then_resumed sight fs (links_run (map (link_meant sight) links) left) ≡ then_resumed sight more (link_run left (link_meant sight link))
chain_on_top sight links link rest left fs more opened is =
    ap (λ (ls : List Link). then_resumed sight fs (links_run (map (link_meant sight) ls) left)) opened
    ∙ links_first (resumed sight fs) (link_meant sight link) (map (link_meant sight) rest.now) left
    ∙ ap (λ (gs : List Frame). then_resumed sight gs (link_run left (link_meant sight link))) (sym is)
