-- Schedules in which nothing is injected, so that nothing is forged.
use Rattle.std.specs.List.{AllByRecursion}
use Rattle.cs_sched.specs.declared.schedule.Event.{Event}
use Rattle.cs_sched.specs.declared.schedule.Event.TheVariants.{Say, Inject, Deliver, Tick, Drain}
use Rattle.cs_sched.specs.declared.schedule.Schedule.{Schedule}

abbrev pub IsNoInjection : Event → Type 0
IsNoInjection (Say from to kind body) = Unit {0}
IsNoInjection (Inject to bytes) = ⊥
IsNoInjection (Deliver number) = Unit {0}
IsNoInjection (Tick node) = Unit {0}
IsNoInjection (Drain times) = Unit {0}

abbrev pub InjectsNothing : Schedule → Type 0
InjectsNothing schedule = AllByRecursion (λ numbered. IsNoInjection numbered.1) schedule.events
