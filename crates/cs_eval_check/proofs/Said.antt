-- What the machine comes to is what a check says and spends.
use Rattle.std.proofs.Common.{◌≡◌, ℕ, ◌+◌, Bool, List, [], ◌∷◌, map, take, length, Bor, refl, sym, ap, ◌∙◌, arith}
use Rattle.cs_lang.specs.declared.tree.Block.{Block, out-Block}
use Rattle.cs_lang.specs.declared.tree.Statement.{Statement}
use Rattle.cs_eval_values.specs.Runs.{Run, Gave, Answered, Trapped, gives, ◌>>=◌, spent}
use Rattle.cs_eval_values.specs.Namings.{Named}
use Rattle.cs_eval.specs.declared.scene.Scene.{Scene}
use Rattle.cs_eval_check.specs.declared.task.Task.{Task}
use Rattle.cs_eval_check.specs.declared.task.Task.TheVariants as task
use Rattle.cs_eval_law.specs.Acting.{all_run, block_run, statement_run}
use Rattle.cs_eval_check.specs.Tasks.{left_to}
use Rattle.cs_eval_law.specs.Checks.{yes_of}
use Rattle.cs_eval_check.proofs.Actions.{block_is}

-- what was given doesn't count
yes_given : {A B : Type 0} (r : Run A) (f : A → B) → yes_of (r >>= λ x. gives (f x)) ≡ yes_of r
yes_given (Gave x n) f = refl
yes_given (Answered b n) f = refl
yes_given (Trapped why place n) f = refl

spent_given : {A B : Type 0} (r : Run A) (f : A → B) → spent (r >>= λ x. gives (f x)) ≡ spent r
spent_given (Gave x n) f = omega arith
spent_given (Answered b n) f = refl
spent_given (Trapped why place n) f = refl

module _ (scene : Scene) (b : Block) (ss : Bor (List Statement)) (tasks : List Task) (names : List Named) (run : Run (List Named))
    (opened : ss.now ≡ (out-Block b).statements) (begun : tasks ≡ task.Statements ss ∷ []) (comes : left_to scene tasks names ≡ run) where
  all : Run (List Named)
  all = all_run scene.contract.now scene.view.now (map (statement_run scene.contract.now scene.view.now) (out-Block b).statements) names

  comes_all : (all >>= λ ns. gives ns) ≡ run
  unfolding all
  comes_all =
      ap (λ (xs : List Statement). all_run scene.contract.now scene.view.now (map (statement_run scene.contract.now scene.view.now) xs) names >>= λ ns. gives ns) (sym opened)
      ∙ ap (λ (ts : List Task). left_to scene ts names) (sym begun) ∙ comes

  pub yes_is : yes_of (block_run scene.contract.now scene.view.now b names) ≡ yes_of run
  unfolding all
  yes_is =
      ap (λ (r : Run (List Named)). yes_of r) (block_is scene.contract.now scene.view.now b names)
      ∙ yes_given all (take (length names)) ∙ sym (yes_given all (λ ns. ns)) ∙ ap (λ (r : Run (List Named)). yes_of r) comes_all

  pub spent_is : spent (block_run scene.contract.now scene.view.now b names) ≡ spent run
  unfolding all
  spent_is =
      ap (λ (r : Run (List Named)). spent r) (block_is scene.contract.now scene.view.now b names)
      ∙ spent_given all (take (length names)) ∙ sym (spent_given all (λ ns. ns)) ∙ ap (λ (r : Run (List Named)). spent r) comes_all
