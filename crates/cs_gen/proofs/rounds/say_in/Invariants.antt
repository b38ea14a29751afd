use Rattle.std.proofs.Common.{◌≡◌, ◌++◌, map}
use Rattle.cs_base.specs.NodeId.{members_below}
use Rattle.cs_sched.specs.declared.schedule.Event.TheVariants.{Say}
use Rattle.cs_gen.specs.Rounds.{client}
use Rattle.cs_gen.proofs.rounds.say_in.Given as goal

abbrev pub invariant-loop-index : goal.invariant-loop-index
invariant-loop-index l = l.events.items ≡ l.initial.events.items ++ map (λ node. Say client node 1 l.body) (members_below l.shard l.index)
