use Rattle.std.specs.Prelude.{List, [], ◌∷◌, ℕ, length, Err}
use denote.Ref.{Bor}
use Rattle.std.proofs.Common.{◌≡◌, ◌≢◌, refl, arith}
use Rattle.cs_base.specs.Lines.{views}
use Rattle.cs_sched.specs.Events.{inject_said}
use Rattle.cs_sched.specs.declared.schedule.Schedule.{Schedule}
use Rattle.cs_text.specs.declared.cause.Cause.TheVariants as cause
use Rattle.cs_sched.proofs.events.read_inject.Goals as goal
use Rattle.cs_sched.proofs.events.read_inject.Goals.{in_default-via-then-fields-lt2, in_default-via-else-fields-lt2+else-fields-lt3}

not_two : (schedule : Schedule) (fields : List (Bor (List ℕ))) → length fields ≢ 2 → inject_said schedule (views fields) ≡ Err cause.Count
not_two schedule [] other = refl
not_two schedule (a ∷ []) other = refl
not_two schedule (a ∷ b ∷ []) other = absurd (other refl)
not_two schedule (a ∷ b ∷ c ∷ more) other = refl

pub returns-in_default : goal.returns-in_default
returns-in_default c =
    not_two c.args.schedule.now c.args.fields.now (elim c.in_default.branch [
      | in_default-via-then-fields-lt2 w ↦ λ two. grind arith
      | in_default-via-else-fields-lt2+else-fields-lt3 w ↦ λ two. grind arith
    ])
