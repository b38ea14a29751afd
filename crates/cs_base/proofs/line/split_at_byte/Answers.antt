use Rattle.std.proofs.Common.{◌==◌, sym}
use Rattle.cs_base.proofs.Lines.{split_found, split_none}
use Rattle.cs_base.proofs.line.split_at_byte.Goals as goal

pub returns-in-Some-clause-found : goal.returns-in-Some-clause-found
returns-in-Some-clause-found c =
    rw (c.split_at.ensures.front, c.split_at-in-Some.ensures.back) (split_found (λ byte. byte == c.args.wanted) c.args.text.now c.in-Some.at (sym c.in-Some.ensures))

pub returns-in-None-clause-none : goal.returns-in-None-clause-none
returns-in-None-clause-none c = split_none (λ byte. byte == c.args.wanted) c.args.text.now (sym c.in-None.ensures)
