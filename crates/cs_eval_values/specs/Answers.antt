-- What a call answers that is a part of an evaluation.
use Rattle.std.specs.Prelude.{◌≡◌, ℕ, Result, Ok, Err}
use Rattle.cs_eval_values.specs.declared.stop.Stop.{Stop}
use Rattle.cs_eval_values.specs.declared.stop.Stop.TheVariants as stop
use Rattle.cs_eval_values.specs.Runs.{Run, Gave, Answered, Trapped}

-- it stopped as this run does, with so much spent; memory may run out
abbrev pub Stops : {X : Type 0} → Stop → ℕ → Run X → Type 0
Stops (stop.Answer b) n run = run ≡ Answered b n
Stops (stop.Trap why place) n run = run ≡ Trapped why place n
Stops stop.Memory n run = Unit {0}

-- a call that spends nothing
abbrev pub RunEnds : {X : Type 0} → Result X Stop → Run X → Type 0
RunEnds (Ok x) run = run ≡ Gave x 0
RunEnds (Err e) run = Stops e 0 run
