use Rattle.std.proofs.Common.{◌≤◌, ◌++◌, take, arith}
use Rattle.std.proofs.KnownBytes.{Appends-trans}
use Rattle.cs_base.proofs.Known.{front_grown}
use Rattle.cs_base.proofs.printing.print.Goals as goal

pub loop-rest-preserved : goal.loop-rest-preserved
loop-rest-preserved g c =
    let (front, whole, appended, later) = c.loop-rest.invariant in
    let count = c.in-Took.count in
    let later_still : g.K.Sink.faults c.args.output.now ≤ g.K.Sink.faults c.write.new.self = omega arith in (
      front ++ take count c.loop-rest.rest.now,
      rw c.split_at.ensures.back (front_grown _ front c.loop-rest.rest.now count whole),
      Appends-trans _ _ _ front (take count c.loop-rest.rest.now) appended (c.in-Took.ensures.bytes.2),
      later_still,
    )
