use Rattle.std.proofs.Common.{drop, take, arith, ◌∙◌, ap}
use Rattle.cs_base.proofs.Parts.{front_taken}
use Rattle.cs_base.proofs.mem_source.MemSourceSource.read.Goals as goal

pub returns-clause-bytes : goal.returns-clause-bytes
returns-clause-bytes c =
    let copied = c.fill-count.ensures.filled ∙ ap (λ bytes. take c.fill-count.result bytes) (c.split_at.ensures.back ∙ ap (λ bytes. drop c.args.self.now.taken bytes) c.deref.ensures.value) in
    (omega arith, omega arith, front_taken _ _ _ _ copied)
