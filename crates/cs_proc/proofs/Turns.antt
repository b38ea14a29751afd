-- Turns of the machine: what a part of a procedure comes to goes on with what was left to do.
use Rattle.std.proofs.Common.{◌≡◌, ℕ, zero, suc, ◌+◌, ◌-◌, ◌<◌, ◌≤◌, ◌*◌, List, [], ◌∷◌, map, take, drop, length, get_or, Some, Result, Ok, Err, Bor, refl, sym, ap, ◌∙◌, subst, arith, length-append}
use Rattle.std.specs.Prelude.{OnOk, IfErr}
use Rattle.std.proofs.lemmas.List.{take_all}
use Rattle.std.proofs.Math.Nat.{suc-mul}
use Rattle.cs_lang.specs.declared.tree.ContractTree.{ContractTree}
use Rattle.cs_lang.specs.declared.tree.Block.{Block, out-Block}
use Rattle.cs_lang.specs.declared.tree.Statement.{Statement, out-Statement}
use Rattle.cs_eval_values.specs.declared.view.View.{View}
use Rattle.cs_eval_values.specs.Datums.{Datum}
use Rattle.cs_eval_values.specs.Namings.{Named, named, with_named}
use Rattle.cs_eval.specs.declared.scene.Scene.{Scene}
use Rattle.cs_eval.specs.declared.frame.Frame.{Frame}
use Rattle.cs_eval.specs.Stacked.{Stacked}
use Rattle.cs_eval.specs.Work.{all_work}
use Rattle.cs_eval_check.specs.declared.task.Loop.{Loop}
use Rattle.cs_eval_check.specs.declared.task.Task.{Task}
use Rattle.cs_eval_check.specs.declared.task.Task.TheVariants as task
use Rattle.cs_eval_check.specs.Tasks.{left_in, first_datum}
use Rattle.cs_eval_check.specs.TaskWork.{turns_work, most_turns, loop_work, tasks_work, work_of_block, work_of_statement, work_of_action}
use Rattle.cs_eval_check.proofs.ActionWork.{statement_left, block_left}
use Rattle.cs_eval_check.proofs.Turns.{one_more}
use Rattle.cs_proc_parts.specs.declared.ending.Halt.{Halt}
use Rattle.cs_proc_parts.specs.declared.ending.Halt.TheVariants as halt
use Rattle.cs_proc_parts.specs.declared.progress.Doing.{Doing}
use Rattle.cs_proc_parts.specs.Courses.{ProcedureCourse, goes, spending, ◌>>=◌, course_through, Halts}
use Rattle.cs_proc.specs.declared.procedures_running.Running.{Running}
use Rattle.cs_proc.specs.Acting.{ProcedureStep, Calls, with_names, turn_does, turns_do, all_do, block_does, statement_does, action_does}
use Rattle.cs_proc.specs.Tasks.{finished, calls_at, rest_of_procedure, then_rest_of_procedure, TasksDo, Acts}
use Rattle.cs_proc.proofs.Laws.{spending_spending, spending_none, spending_bind, bind_bind, under, went_bind, halts_bind, halts_is, halts_spent}
use Rattle.cs_proc.proofs.Actions.{statement_is, block_is}

-- ---- what calls answer

module _ (scene : Scene) (above : ℕ) where
  -- so much is spent before
  pub acts_spent : (answer : Result Unit Halt) (k m n : ℕ) (c d : ProcedureCourse Doing) (after : Running) → n ≡ k + m → c ≡ spending k d → Acts scene above answer m d after → Acts scene above answer n c after
  acts_spent (Ok done) k m n c d after more is h = (
    is ∙ ap (spending k) h.0 ∙ spending_spending k m (rest_of_procedure scene above after.tasks.items after.doing)
        ∙ ap (λ (j : ℕ). spending j (rest_of_procedure scene above after.tasks.items after.doing)) (sym more),
    h.1,
  )
  acts_spent (Err e) k m n c d after more is h = halts_spent e k m n c d more is h

  -- what was done goes on with the tasks
  pub does_acts : (answer : Result Unit Halt) (n : ℕ) (c d : ProcedureCourse Doing) (before : List Task) (after : Running) → c ≡ d → after.tasks.items ≡ before → TasksDo answer n d after
      → Acts scene above answer n (then_rest_of_procedure scene above before c) after
  does_acts (Ok done) n c d before after is same h = (
    went_bind c after.doing n (rest_of_procedure scene above before) (is ∙ h.0)
        ∙ ap (λ (ts : List Task). spending n (rest_of_procedure scene above ts after.doing)) (sym same),
    h.1,
  )
  does_acts (Err e) n c d before after is same h = halts_bind e n c (rest_of_procedure scene above before) (halts_is e n c d is h)

-- ---- blocks

take_take : (n m : ℕ) (xs : List Named) → n ≤ m → take n (take m xs) ≡ take n xs
take_take zero m xs le = refl
take_take (suc n) zero xs le = absurd (omega arith)
take_take (suc n) (suc m) [] le = refl
take_take (suc n) (suc m) (x ∷ xs) le = ap (λ (ys : List Named). x ∷ ys) (take_take n m xs (omega arith))

front_opened : (ss : List Statement) (one : Statement) (rest : List Statement) → 1 ≤ length ss → one ≡ get_or ss 0 one → rest ≡ take (length ss - 1) (drop 1 ss) → ss ≡ one ∷ rest
front_opened [] one rest some first behind_it = absurd (omega arith)
front_opened (s ∷ ss) one rest some first behind_it =
    ap (λ (z : Statement). z ∷ ss) (sym first) ∙ ap (λ (zs : List Statement). one ∷ zs) (sym (behind_it ∙ take_all (length (s ∷ ss) - 1) ss (omega arith)))

module _ (contract : ContractTree) (view : View) (calls : Calls) where
  every : List Statement → ProcedureStep
  every ss = all_do contract view calls (map (statement_does contract view calls) ss)

  -- a block whose names end, and some before them
  block_cut : (b : Block) (n : ℕ) (s : Doing) → n ≤ length s.names
      → (block_does contract view calls b s >>= λ t. goes (with_names t (take n t.names)))
      ≡ (every (out-Block b).statements s >>= λ t. goes (with_names t (take n t.names)))
  unfolding every
  block_cut b n s le =
      ap (λ c. c >>= λ t. goes (with_names t (take n t.names))) (block_is contract view calls b s)
      ∙ bind_bind (every (out-Block b).statements s) (λ t. goes (with_names t (take (length s.names) t.names))) (λ t. goes (with_names t (take n t.names)))
      ∙ under (every (out-Block b).statements s)
      (λ t. goes (with_names t (take (length s.names) t.names)) >>= λ u. goes (with_names u (take n u.names))) (λ t. goes (with_names t (take n t.names)))
      (λ t. spending_none (goes (with_names t (take n (take (length s.names) t.names)))) ∙ ap (λ (more : List Named). goes (with_names t more)) (take_take n (length s.names) t.names le))

  -- its statements are done next, and then the names end
  cut_next : (ss : List Statement) (n : ℕ) (s : Doing) (ts : List Task)
      → ((every ss s >>= λ t. goes (with_names t (take n t.names))) >>= finished contract view calls ts)
      ≡ (every ss s >>= λ t. finished contract view calls ts (with_names t (take n t.names)))
  cut_next ss n s ts =
      bind_bind (every ss s) (λ t. goes (with_names t (take n t.names))) (finished contract view calls ts)
      ∙ under (every ss s) (λ t. goes (with_names t (take n t.names)) >>= finished contract view calls ts) (λ t. finished contract view calls ts (with_names t (take n t.names)))
      (λ t. spending_none (finished contract view calls ts (with_names t (take n t.names))))

  entered : (b : Block) (ss : Bor (List Statement)) (s : Doing) (ts : List Task) → ss.now ≡ (out-Block b).statements
      → (block_does contract view calls b s >>= finished contract view calls ts)
      ≡ finished contract view calls (task.Statements ss ∷ task.Leave (length s.names) ∷ ts) s
  unfolding every
  entered b ss s ts is =
      ap (λ c. c >>= finished contract view calls ts) (block_is contract view calls b s)
      ∙ cut_next (out-Block b).statements (length s.names) s ts
      ∙ ap (λ (more : List Statement). every more s >>= λ t. finished contract view calls ts (with_names t (take (length s.names) t.names))) (sym is)

  -- ---- turns

  turn_cut : (l : Loop) (s : Doing) (d : Datum)
      → turn_does contract view l.name.now l.kind (block_does contract view calls l.each.now) s d
      ≡ spending 1 (every (out-Block l.each.now).statements (with_names s (with_named s.names l.name.now l.kind d)) >>= λ t. goes (with_names t (take (length s.names) t.names)))
  turn_cut l s d =
      ap (spending 1) (block_cut l.each.now (length s.names) (with_names s (with_named s.names l.name.now l.kind d))
      (omega (arith, length-append s.names (named l.name.now l.kind d ∷ []))))

  -- a turn with what comes next
  loop_turn : (l next : Loop) (ss : Bor (List Statement)) (d : Datum) (s : Doing) (ts : List Task)
      → Some d ≡ first_datum (left_in l.source l.at) → next ≡ record l { at = l.at + 1 } → ss.now ≡ (out-Block l.each.now).statements
      → finished contract view calls (task.Loop l ∷ ts) s
      ≡ spending 1 (finished contract view calls (task.Statements ss ∷ task.Leave (length s.names) ∷ task.Loop next ∷ ts) (with_names s (with_named s.names l.name.now l.kind d)))
  unfolding every
  loop_turn l next ss d s ts is behind_it opened =
      let each : ProcedureStep = block_does contract view calls l.each.now in
      let go : Doing → Datum → ProcedureCourse Doing = turn_does contract view l.name.now l.kind each in
      let rest : List Datum = left_in l.source (l.at + 1) in
      let begun : Doing = with_names s (with_named s.names l.name.now l.kind d) in
      ap (λ (ds : List Datum). turns_do contract view l.name.now l.kind each ds s >>= finished contract view calls ts) (one_more l.source l.at d is)
      ∙ bind_bind (go s d) (λ b. course_through go b rest) (finished contract view calls ts)
      ∙ ap (λ (n : Loop). go s d >>= finished contract view calls (task.Loop n ∷ ts)) (sym behind_it)
      ∙ ap (λ c. c >>= finished contract view calls (task.Loop next ∷ ts)) (turn_cut l s d)
      ∙ spending_bind 1 (every (out-Block l.each.now).statements begun >>= λ t. goes (with_names t (take (length s.names) t.names))) (finished contract view calls (task.Loop next ∷ ts))
      ∙ ap (spending 1) (cut_next (out-Block l.each.now).statements (length s.names) begun (task.Loop next ∷ ts))
      ∙ ap (λ (more : List Statement). spending 1 (every more begun >>= λ t. finished contract view calls (task.Loop next ∷ ts) (with_names t (take (length s.names) t.names)))) (sym opened)

  -- ---- statements

  next_statement : (ss : List Statement) (one : Statement) (rest : Bor (List Statement)) (s : Doing) (ts : List Task)
      → 1 ≤ length ss → one ≡ get_or ss 0 one → rest.now ≡ take (length ss - 1) (drop 1 ss)
      → (every ss s >>= finished contract view calls ts)
      ≡ spending 1 (action_does contract view calls (out-Statement one).action (out-Statement one).place s >>= finished contract view calls (task.Statements rest ∷ ts))
  unfolding every
  next_statement ss one rest s ts some first behind_it =
      ap (λ (more : List Statement). every more s >>= finished contract view calls ts)
      (front_opened ss one rest.now some first behind_it)
      ∙ bind_bind (statement_does contract view calls one s) (λ b. every rest.now b) (finished contract view calls ts)
      ∙ ap (λ c. c >>= finished contract view calls (task.Statements rest ∷ ts)) (statement_is contract view calls one s)
      ∙ spending_bind 1 (action_does contract view calls (out-Statement one).action (out-Statement one).place s) (finished contract view calls (task.Statements rest ∷ ts))

-- ---- calls

module _ (scene : Scene) (above : ℕ) where
  -- a block is done next
  pub block_acts : (answer : Result Unit Halt) (b : Block) (ss : Bor (List Statement)) (n : ℕ) (before after : Running) → before.frames.items ≡ [] → ss.now ≡ (out-Block b).statements → n ≡ length before.doing.names
      → OnOk answer (after.tasks.items ≡ task.Statements ss ∷ task.Leave n ∷ before.tasks.items) → OnOk answer (after.doing ≡ before.doing) → OnOk answer (after.frames ≡ before.frames) → IfErr answer (λ e. e ≡ halt.Memory)
      → Acts scene above answer 0 (then_rest_of_procedure scene above before.tasks.items (block_does scene.contract.now scene.view.now (calls_at scene above) b before.doing)) after
  block_acts (Ok done) b ss n before after idle opened count tasks doing frames memory = (
    entered scene.contract.now scene.view.now (calls_at scene above) b ss before.doing before.tasks.items opened
        ∙ ap (λ (i : ℕ). rest_of_procedure scene above (task.Statements ss ∷ task.Leave i ∷ before.tasks.items) before.doing) (sym count)
        ∙ ap (λ (ts : List Task). rest_of_procedure scene above ts before.doing) (sym tasks)
        ∙ ap (λ (s : Doing). rest_of_procedure scene above after.tasks.items s) (sym doing)
        ∙ sym (spending_none (rest_of_procedure scene above after.tasks.items after.doing)),
    ap (λ (s : Stacked Frame). s.items) frames ∙ idle,
  )
  block_acts (Err e) b ss n before after idle opened count tasks doing frames memory =
      let P : Halt → Type 0 = λ h. Halts h 0 (then_rest_of_procedure scene above before.tasks.items (block_does scene.contract.now scene.view.now (calls_at scene above) b before.doing)) in subst P (sym memory) tt

  -- the next of statements begins
  pub statement_acts : (answer : Result Unit Halt) (ss : List Statement) (one : Statement) (rest : Bor (List Statement)) (m n : ℕ) (before mid after : Running)
      → 1 ≤ length ss → one ≡ get_or ss 0 one → rest.now ≡ take (length ss - 1) (drop 1 ss) → n ≡ 1 + m → mid.tasks.items ≡ task.Statements rest ∷ before.tasks.items → mid.doing ≡ before.doing
      → Acts scene above answer m (then_rest_of_procedure scene above mid.tasks.items (action_does scene.contract.now scene.view.now (calls_at scene above) (out-Statement one).action (out-Statement one).place mid.doing)) after
      → Acts scene above answer n (then_rest_of_procedure scene above before.tasks.items (all_do scene.contract.now scene.view.now (calls_at scene above) (map (statement_does scene.contract.now scene.view.now (calls_at scene above)) ss) before.doing)) after
  unfolding every
  statement_acts answer ss one rest m n before mid after some first behind_it more tasks doing h =
      acts_spent scene above answer 1 m n _ (then_rest_of_procedure scene above mid.tasks.items (action_does scene.contract.now scene.view.now (calls_at scene above) (out-Statement one).action (out-Statement one).place mid.doing)) after more
      (next_statement scene.contract.now scene.view.now (calls_at scene above) ss one rest before.doing before.tasks.items some first behind_it
      ∙ ap (λ (ts : List Task). spending 1 (action_does scene.contract.now scene.view.now (calls_at scene above) (out-Statement one).action (out-Statement one).place before.doing >>= rest_of_procedure scene above ts)) (sym tasks)
      ∙ ap (λ (s : Doing). spending 1 (action_does scene.contract.now scene.view.now (calls_at scene above) (out-Statement one).action (out-Statement one).place s >>= rest_of_procedure scene above mid.tasks.items)) (sym doing)) h

  -- a turn begins
  pub turn_acts : (answer : Result Unit Halt) (l next : Loop) (ss : Bor (List Statement)) (d : Datum) (count n : ℕ) (before mid after : Running)
      → Some d ≡ first_datum (left_in l.source l.at) → next ≡ record l { at = l.at + 1 } → ss.now ≡ (out-Block l.each.now).statements → count ≡ length before.doing.names → n ≡ 1
      → mid.tasks.items ≡ task.Loop next ∷ before.tasks.items → mid.doing ≡ with_names before.doing (with_named before.doing.names l.name.now l.kind d) → mid.frames.items ≡ []
      → OnOk answer (after.tasks.items ≡ task.Statements ss ∷ task.Leave count ∷ mid.tasks.items) → OnOk answer (after.doing ≡ mid.doing) → OnOk answer (after.frames ≡ mid.frames) → IfErr answer (λ e. e ≡ halt.Memory)
      → Acts scene above answer n (rest_of_procedure scene above (task.Loop l ∷ before.tasks.items) before.doing) after
  turn_acts (Ok done) l next ss d count n before mid after is behind_it opened counted one tasks doing idle tasks2 doing2 frames2 memory =
      let begun : Doing = with_names before.doing (with_named before.doing.names l.name.now l.kind d) in (
        loop_turn scene.contract.now scene.view.now (calls_at scene above) l next ss d before.doing before.tasks.items is behind_it opened
            ∙ ap (λ (i : ℕ). spending 1 (rest_of_procedure scene above (task.Statements ss ∷ task.Leave i ∷ task.Loop next ∷ before.tasks.items) begun)) (sym counted)
            ∙ ap (λ (ts : List Task). spending 1 (rest_of_procedure scene above (task.Statements ss ∷ task.Leave count ∷ ts) begun)) (sym tasks)
            ∙ ap (λ (ts : List Task). spending 1 (rest_of_procedure scene above ts begun)) (sym tasks2)
            ∙ ap (λ (s : Doing). spending 1 (rest_of_procedure scene above after.tasks.items s)) (sym (doing2 ∙ doing))
            ∙ ap (λ (i : ℕ). spending i (rest_of_procedure scene above after.tasks.items after.doing)) (sym one),
        ap (λ (s : Stacked Frame). s.items) frames2 ∙ idle,
      )
  turn_acts (Err e) l next ss d count n before mid after is behind_it opened counted one tasks doing idle tasks2 doing2 frames2 memory =
      let P : Halt → Type 0 = λ h. Halts h n (rest_of_procedure scene above (task.Loop l ∷ before.tasks.items) before.doing) in subst P (sym memory) tt

-- ---- what is left to do

pub block_smaller : (answer : Result Unit Halt) (b : Block) (ss : Bor (List Statement)) (n : ℕ) (before after : List Task) → ss.now ≡ (out-Block b).statements
    → OnOk answer (after ≡ task.Statements ss ∷ task.Leave n ∷ before) → OnOk answer (tasks_work after ≡ work_of_block b + tasks_work before)
block_smaller (Ok done) b ss n before after opened tasks =
    let e : tasks_work after ≡ all_work (map work_of_statement ss.now) + (1 + tasks_work before) = ap tasks_work tasks in
    let f : all_work (map work_of_statement ss.now) ≡ all_work (map work_of_statement (out-Block b).statements) = ap (λ (xs : List Statement). all_work (map work_of_statement xs)) opened in
    omega (arith, e, f, block_left b)
block_smaller (Err e) b ss n before after opened tasks = tt

pub turn_smaller : (answer : Result Unit Halt) (l next : Loop) (ss : Bor (List Statement)) (n : ℕ) (before mid after : List Task) → l.at < most_turns l.source → next ≡ record l { at = l.at + 1 }
    → ss.now ≡ (out-Block l.each.now).statements → mid ≡ task.Loop next ∷ before → OnOk answer (after ≡ task.Statements ss ∷ task.Leave n ∷ mid) → OnOk answer (tasks_work after < loop_work l + tasks_work before)
turn_smaller (Ok done) l next ss n before mid after more behind_it opened tasks tasks2 =
    let w : ℕ = work_of_block l.each.now in
    let e : tasks_work after ≡ all_work (map work_of_statement ss.now) + (1 + tasks_work mid) = ap tasks_work tasks2 in
    let f : all_work (map work_of_statement ss.now) ≡ all_work (map work_of_statement (out-Block l.each.now).statements) = ap (λ (xs : List Statement). all_work (map work_of_statement xs)) opened in
    let g : tasks_work mid ≡ turns_work (most_turns l.source - (l.at + 1)) w + tasks_work before = ap tasks_work tasks ∙ ap (λ (n : Loop). loop_work n + tasks_work before) behind_it in
    let h : most_turns l.source - l.at ≡ suc (most_turns l.source - (l.at + 1)) = omega (arith, more) in
    let i : (most_turns l.source - l.at) * (w + 1) ≡ (most_turns l.source - (l.at + 1)) * (w + 1) + (w + 1) = ap (λ (n : ℕ). n * (w + 1)) h ∙ suc-mul (most_turns l.source - (l.at + 1)) (w + 1) in
    omega (arith, e, f, g, i, block_left l.each.now)
turn_smaller (Err e) l next ss n before mid after more behind_it opened tasks tasks2 = tt

pub statement_smaller : (answer : Result Unit Halt) (ss : List Statement) (one : Statement) (rest : Bor (List Statement)) (before mid after : List Task)
    → 1 ≤ length ss → one ≡ get_or ss 0 one → rest.now ≡ take (length ss - 1) (drop 1 ss) → mid ≡ task.Statements rest ∷ before → OnOk answer (tasks_work after < work_of_action (out-Statement one).action + tasks_work mid)
    → OnOk answer (tasks_work after < all_work (map work_of_statement ss) + tasks_work before)
statement_smaller (Ok done) ss one rest before mid after some first behind_it tasks less =
    let e : all_work (map work_of_statement ss) ≡ work_of_statement one + 1 + all_work (map work_of_statement rest.now) = ap (λ (xs : List Statement). all_work (map work_of_statement xs)) (front_opened ss one rest.now some first behind_it) in
    let f : tasks_work mid ≡ all_work (map work_of_statement rest.now) + tasks_work before = ap tasks_work tasks in
    omega (arith, e, f, less, statement_left one)
statement_smaller (Err e) ss one rest before mid after some first behind_it tasks less = tt
