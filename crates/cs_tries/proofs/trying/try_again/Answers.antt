use Rattle.std.proofs.Common.{ℕ, ◌-◌, ap, subst, ◌∙◌}
use Rattle.std.proofs.lemmas.Bool.Decides.{nat_tests}
use Rattle.std.proofs.Common.{List, arith}
use Rattle.std.specs.Io.KnownBytes.{Appends}
use Rattle.cs_client.specs.Lines.{known_line}
use Rattle.cs_serve.proofs.Giving.{AppendsFront-all}
use Rattle.cs_waits.specs.declared.noted.NotedClient.{NotedClient}
use Rattle.cs_tries.proofs.TryRuns.{begun-goes, unwritten-sink}
use Rattle.cs_tries.proofs.trying.try_again.Goals as goal

pub again-requires : goal.again-requires
again-requires g c = let may = c.requires in grind (arith, nat_tests)

pub returns-in-Ok-again-clause-goes : goal.returns-in-Ok-again-clause-goes
returns-in-Ok-again-clause-goes g c = λ t stands detailed left.
    begun-goes t c.in-Ok-again.noted (c.args.tries - 1) (c.in-Ok-again.ensures t.errand t.details t.inputs stands) (ap (λ (n : ℕ). n - 1) left)

-- memory ran out behind the line
pub returns-in-Ok-print-clause-printed : goal.returns-in-Ok-print-clause-printed
returns-in-Ok-print-clause-printed g c =
    AppendsFront-all (g.K.Sink.written c.args.out.now) (g.K.Sink.written c.print.new.output) (known_line c.args.known)
    (subst (λ (text : List ℕ). Appends (g.K.Sink.written c.args.out.now) (g.K.Sink.written c.print.new.output) text) (c.as_bytes.ensures.value ∙ c.in-Ok.ensures) c.in-Ok-print.ensures.done)

pub returns-clause-sink : goal.returns-clause-sink
returns-clause-sink g c = unwritten-sink (NotedClient × ℕ) (g.K.Sink.faults c.args.out.now) (g.K.Sink.faults c.print.new.output) c.in-Err.error c.unwritten.result c.unwritten.ensures c.in-Err.ensures.cause
