use Rattle.std.proofs.Common.{ap}
use Rattle.cs_order.specs.Limits.{rest_at}
use Rattle.cs_order_open.specs.Look.{look_of, left_by}
use Rattle.cs_log.specs.Replicas.{kept}
use Rattle.cs_log.proofs.Mirroring.{cuts}
use Rattle.cs_log.proofs.replica.Replica.cut.Goals as goal

pub returns-clause-call : goal.returns-clause-call
returns-clause-call c = λ s p below.
    let called = c.cut.ensures.keeps s.log p.log below in
    (cuts (kept c.args.self.now) s (record { first = c.cut.new.self.first; entries = c.cut.new.self.entries.items }) p called.1, called.0)

pub returns-clause-rest : goal.returns-clause-rest
returns-clause-rest c = ap (λ n. rest_at n c.args.self.now.view (left_by (look_of c.args.self.now.current))) c.cut.ensures.next
