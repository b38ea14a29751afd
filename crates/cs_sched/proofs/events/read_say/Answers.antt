use Rattle.std.specs.Prelude.{List, [], ◌∷◌, ℕ, length, Err}
use denote.Ref.{Bor}
use Rattle.std.proofs.Common.{◌≡◌, ◌≢◌, refl, arith}
use Rattle.cs_base.specs.Lines.{views}
use Rattle.cs_sched.specs.Events.{say_said}
use Rattle.cs_sched.specs.declared.schedule.Schedule.{Schedule}
use Rattle.cs_text.specs.declared.cause.Cause.TheVariants as cause
use Rattle.cs_sched.proofs.events.read_say.Goals as goal
use Rattle.cs_sched.proofs.events.read_say.Goals.{in_default-via-then-fields-lt4, in_default-via-else-fields-lt4+else-fields-lt5}

not_four : (schedule : Schedule) (fields : List (Bor (List ℕ))) → length fields ≢ 4 → say_said schedule (views fields) ≡ Err cause.Count
not_four schedule [] other = refl
not_four schedule (a ∷ []) other = refl
not_four schedule (a ∷ b ∷ []) other = refl
not_four schedule (a ∷ b ∷ c ∷ []) other = refl
not_four schedule (a ∷ b ∷ c ∷ d ∷ []) other = absurd (other refl)
not_four schedule (a ∷ b ∷ c ∷ d ∷ e ∷ more) other = refl

pub returns-in_default : goal.returns-in_default
returns-in_default c =
    not_four c.args.schedule.now c.args.fields.now (elim c.in_default.branch [
      | in_default-via-then-fields-lt4 w ↦ λ four. grind arith
      | in_default-via-else-fields-lt4+else-fields-lt5 w ↦ λ four. grind arith
    ])
