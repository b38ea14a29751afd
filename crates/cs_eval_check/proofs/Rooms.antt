-- Places of loops and of statements, and the room for them.
use Rattle.std.proofs.Common.{◌≡◌, ℕ, zero, suc, ◌+◌, ◌-◌, ◌<◌, ◌≤◌, max, min, List, [], ◌∷◌, map, take, drop, length, get_or, Bor, refl, sym, ap, ◌∙◌, arith}
use Rattle.std.proofs.lemmas.List.{take_all}
use Rattle.cs_lang.specs.declared.tree.Block.{Block, out-Block}
use Rattle.cs_lang.specs.declared.tree.Statement.{Statement, out-Statement}
use Rattle.cs_eval.specs.Blocks.{one_by_one, turns_places, places_of_action, places_of_block, places_of_statement}
use Rattle.cs_eval.proofs.Actions.{statement_is, block_is, one_at_least}
use Rattle.cs_eval_check.specs.declared.task.Task.{Task}
use Rattle.cs_eval_check.specs.declared.task.Task.TheVariants as task
use Rattle.cs_eval_check.specs.TaskRoom.{task_places_above}

-- a loop that has a turn
pub turns_some : (n each : ℕ) → 1 ≤ n → turns_places n each ≡ each + 1
turns_some zero each some = absurd (omega arith)
turns_some (suc n) each some = refl

turns_below : (m n each : ℕ) → m ≤ n → turns_places m each ≤ turns_places n each
turns_below zero zero each le = omega arith
turns_below zero (suc n) each le = omega arith
turns_below (suc m) zero each le = absurd (omega arith)
turns_below (suc m) (suc n) each le = omega arith

-- fewer turns take no more
pub turns_fewer : (n most each : ℕ) → turns_places (min n most) each ≤ turns_places n each
turns_fewer n most each = turns_below (min n most) n each (omega arith)

-- the first of statements, and those behind it
pub first_places : (ss : List Statement) (s : Statement) (rest : List Statement) → 1 ≤ length ss → s ≡ get_or ss 0 s → rest ≡ take (length ss - 1) (drop 1 ss)
    → one_by_one (map places_of_statement ss) ≡ max (places_of_action (out-Statement s).action + 1) (one_by_one (map places_of_statement rest))
first_places [] s rest some is behind_it = absurd (omega arith)
first_places (x ∷ xs) s rest some is behind_it =
    ap (λ (y : Statement). max (places_of_statement y + 1) (one_by_one (map places_of_statement xs))) (sym is)
    ∙ ap (λ (n : ℕ). max (n + 1) (one_by_one (map places_of_statement xs))) (statement_is s)
    ∙ ap (λ (ys : List Statement). max (places_of_action (out-Statement s).action + 1) (one_by_one (map places_of_statement ys))) (sym (behind_it ∙ take_all (length (x ∷ xs) - 1) xs (omega arith)))

-- ---- room

-- the end of the names of a block stands there
pub second_place : (ts mid : List Task) (n most mid_most p : ℕ) → mid ≡ task.Leave n ∷ ts → mid_most ≡ most → max 1 p ≡ p → task_places_above (p + 1) ts ≤ most → length mid < mid_most
second_place ts mid n most mid_most p is same some room = omega (arith, ap (λ (xs : List Task). length xs) is, same, some, room)

-- a block is entered
pub entered_room : (ts mid after : List Task) (ss : Bor (List Statement)) (n most mid_most after_most frames : ℕ) → mid ≡ task.Leave n ∷ ts → after ≡ task.Statements ss ∷ mid
    → mid_most ≡ most → after_most ≡ mid_most → task_places_above (one_by_one (map places_of_statement ss.now) + 1) ts ≤ most → frames ≡ most
    → (task_places_above 0 after ≤ after_most) × (frames ≡ after_most)
entered_room ts mid after ss n most mid_most after_most frames first second same same2 room alike = (
  omega (
    arith,
    ap (task_places_above 0) (second ∙ ap (λ (xs : List Task). task.Statements ss ∷ xs) first),
    one_at_least (map places_of_statement ss.now),
    same,
    same2,
    room,
  ),
  alike ∙ sym (same2 ∙ same),
)

-- the first of statements begins, and those behind it wait
pub next_room : (ss : List Statement) (s : Statement) (rest : Bor (List Statement)) (ts mid : List Task) (most mid_most frames : ℕ) → 1 ≤ length ss → s ≡ get_or ss 0 s → rest.now ≡ take (length ss - 1) (drop 1 ss)
    → mid ≡ task.Statements rest ∷ ts → mid_most ≡ most → task_places_above (one_by_one (map places_of_statement ss)) ts ≤ most → frames ≡ most
    → (task_places_above (places_of_action (out-Statement s).action) mid ≤ mid_most) × (frames ≡ mid_most)
next_room ss s rest ts mid most mid_most frames some is behind_it pushed same room alike = (
  omega (
    arith,
    ap (task_places_above (places_of_action (out-Statement s).action)) pushed,
    first_places ss s rest.now some is behind_it,
    same,
    room,
  ),
  alike ∙ sym same,
)

-- a check begins
pub begun_place : (b : Block) (items : List Task) (most task_most : ℕ) → items ≡ [] → most ≡ places_of_block b → task_most ≡ most → length items < task_most
begun_place b items most task_most none all same = omega (arith, ap (λ (xs : List Task). length xs) none, all, same, block_is b)

pub begun_room : (b : Block) (ss : Bor (List Statement)) (items after : List Task) (most task_most after_most frames : ℕ) → ss.now ≡ (out-Block b).statements → items ≡ [] → after ≡ task.Statements ss ∷ items
    → most ≡ places_of_block b → task_most ≡ most → after_most ≡ task_most → frames ≡ most
    → (task_places_above 0 after ≤ after_most) × (frames ≡ after_most)
begun_room b ss items after most task_most after_most frames opened none pushed all same same2 alike = (
  omega (
    arith,
    ap (task_places_above 0) (pushed ∙ ap (λ (xs : List Task). task.Statements ss ∷ xs) none),
    ap (λ (xs : List Statement). one_by_one (map places_of_statement xs)) opened,
    one_at_least (map places_of_statement ss.now),
    block_is b,
    all,
    same,
    same2,
  ),
  alike ∙ sym (same2 ∙ same),
)
