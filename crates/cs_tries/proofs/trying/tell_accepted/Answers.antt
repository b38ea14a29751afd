use Rattle.std.specs.Io.KnownBytes.{Appends}
use Rattle.std.proofs.Common.{List, ℕ, Err, sym, subst, ◌∙◌}
use Rattle.cs_base.specs.Answers.{AppendsFront}
use Rattle.cs_client.specs.declared.known.Known.TheVariants as known
use Rattle.cs_tries.specs.declared.ending.TryEnding.{TryEnding}
use Rattle.cs_tries.specs.Tries.{line_between}
use Rattle.cs_tries.specs.Trying.{GoesBehind, PrintsBehind}
use Rattle.cs_tries.proofs.TryRuns.{none-goes, none-printed, unwritten-told}
use Rattle.cs_tries.proofs.trying.tell_accepted.Goals as goal

pub returns-in-Ok-print-clause-printed : goal.returns-in-Ok-print-clause-printed
returns-in-Ok-print-clause-printed g c = λ t stands detailed.
    subst (λ (text : List ℕ). Appends (g.K.Sink.written c.args.out.now) (g.K.Sink.written c.print.new.output) text) (c.as_bytes.ensures.value ∙ c.in-Ok.ensures t stands detailed) c.in-Ok-print.ensures.done

pub returns-clause-goes : goal.returns-clause-goes
returns-clause-goes g c = λ t stands is.
    subst (λ (ending : TryEnding). GoesBehind t (Err ending)) (sym c.unwritten.ensures) (none-goes t c.in-Err.error)

pub returns-clause-printed : goal.returns-clause-printed
returns-clause-printed g c = λ t stands detailed.
    subst (λ (ending : TryEnding). PrintsBehind (line_between (known.Accepted c.args.digest) t) (g.K.Sink.written c.args.out.now) (g.K.Sink.written c.print.new.output) (Err ending)) (sym c.unwritten.ensures)
    (none-printed (line_between (known.Accepted c.args.digest) t) (g.K.Sink.written c.args.out.now) (g.K.Sink.written c.print.new.output) c.in-Err.error
    (subst (λ (text : List ℕ). AppendsFront (g.K.Sink.written c.args.out.now) (g.K.Sink.written c.print.new.output) text) (c.as_bytes.ensures.value ∙ c.in-Ok.ensures t stands detailed) c.in-Err.ensures.part))

pub returns-clause-sink : goal.returns-clause-sink
returns-clause-sink g c = unwritten-told (g.K.Sink.faults c.args.out.now) (g.K.Sink.faults c.print.new.output) c.in-Err.error c.unwritten.result c.unwritten.ensures c.in-Err.ensures.cause
