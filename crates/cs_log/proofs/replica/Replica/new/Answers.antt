use Rattle.std.proofs.Common.{refl}
use Rattle.cs_log.specs.Replicas.{at_first}
use Rattle.cs_log.proofs.Mirroring.{begins}
use Rattle.cs_log.proofs.replica.Replica.new.Goals as goal

pub returns-clause-mirrors : goal.returns-clause-mirrors
returns-clause-mirrors c = begins c.args.f c.args.me (record { f = c.args.f; me = c.args.me; log = record { first = c.new-2.result.first; entries = c.new-2.result.entries.items }; view = 0; wait = 0; current = c.in_ok-current.current; later = c.new-3.result.items }) c.requires.few c.requires.member refl refl c.new-2.ensures.keeps refl refl c.new-3.ensures.items (c.in_ok-current.ensures.shows (at_first c.args.f c.args.me) refl refl refl refl)
