-- What is left to do of an expression, and what that comes to.
use Rattle.std.specs.Prelude.{◌≡◌, ℕ, List, [], ◌∷◌, map, Result, Ok, Err}
use Rattle.cs_tx_value.specs.declared.value.Value.{Value}
use Rattle.cs_eval_values.specs.declared.stop.Stop.{Stop}
use Rattle.cs_eval_values.specs.Answers.{Stops}
use Rattle.cs_eval_values.specs.Runs.{Run, Gave, gives, spend, ◌>>=◌}
use Rattle.cs_eval_values.specs.Datums.{Datum}
use Rattle.cs_eval_values.specs.Operators.{unary, binary, with_item}
use Rattle.cs_eval_values.specs.Namings.{Named}
use Rattle.cs_eval.specs.declared.scene.Scene.{Scene}
use Rattle.cs_eval.specs.declared.frame.Frame.{Frame}
use Rattle.cs_eval.specs.declared.frame.Frame.TheVariants as frame
use Rattle.cs_eval.specs.declared.frame.Next.{Next}
use Rattle.cs_eval.specs.declared.frame.Next.TheVariants as next
use Rattle.cs_eval.specs.Meaning.{Environment, meaning, items_run, links_run, steps_run, link_meant, step_meant}

-- where an expression stands
abbrev pub seen_from : Scene → List Named → Environment
seen_from scene names = record { contract = scene.contract.now; view = scene.view.now; names = names }

-- ---- expressions

module _ (sight : Environment) where
  -- what the frames make of a value
  abbrev pub resumed : List Frame → Datum → Run Datum
  resumed [] d = gives d
  resumed (frame.Unary op place ∷ fs) d = unary op place d >>= resumed fs
  resumed (frame.First op right place ∷ fs) d = meaning sight right.now >>= binary op place d >>= resumed fs
  resumed (frame.Second op left place ∷ fs) d = binary op place left d >>= resumed fs
  resumed (frame.Chain links ∷ fs) d = links_run (map (link_meant sight) links.now) d >>= resumed fs
  resumed (frame.Path steps ∷ fs) d = steps_run (map (step_meant sight) steps.now) d >>= resumed fs
  resumed (frame.Items rest items place ∷ fs) d =
      with_item place items d >>= λ more. items_run place more (map (meaning sight) rest.now) >>= resumed fs

  -- what the frames make of what a run gives
  abbrev pub then_resumed : List Frame → Run Datum → Run Datum
  then_resumed fs run = run >>= resumed fs

  -- of a list whose items have these runs, behind those that a run gives
  abbrev pub items_resumed : List Frame → ℕ → List (Run Datum) → Run (List Value) → Run Datum
  items_resumed fs place parts run = run >>= λ more. then_resumed fs (items_run place more parts)

  abbrev pub continued : Next → List Frame → Run Datum
  continued (next.Eval e) fs = meaning sight e.now >>= resumed fs
  continued (next.Give d) fs = resumed fs d

-- ---- what calls answer

-- so much was spent, and the rest is what is done next
abbrev pub MachineMoves : Environment → Result Next Stop → ℕ → Run Datum → List Frame → Type 0
MachineMoves sight (Ok n) units run fs = run ≡ spend units (continued sight n fs)
MachineMoves sight (Err e) units run fs = Stops e units run

-- the value, with nothing left to do
abbrev pub Evaluates : Result Datum Stop → ℕ → Run Datum → List Frame → Type 0
Evaluates (Ok d) units run fs = (run ≡ Gave d units) × (fs ≡ [])
Evaluates (Err e) units run fs = Stops e units run
