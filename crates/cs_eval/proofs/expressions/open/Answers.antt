use Rattle.std.proofs.Common.{List, map, ap, arith}
use Rattle.cs_lang.specs.declared.tree.Link.{Link}
use Rattle.cs_eval.specs.Work.{work, work_of_link, all_work}
use Rattle.cs_eval.proofs.WorkLayers.{work_compared, work_chain}
use Rattle.cs_eval.proofs.expressions.open.Goals as goal

pub returns-in-Compared-clause-smaller : goal.returns-in-Compared-clause-smaller
returns-in-Compared-clause-smaller c =
    omega (arith, c.open_two-in-Compared.ensures.smaller, work_compared c.args.expr.now c.in-Compared.comparison c.in-Compared.left c.in-Compared.right c.in-Compared.is, ap work c.get-in-Compared.ensures, ap work c.get-in-Compared-2.ensures)

pub returns-in-Chain-clause-smaller : goal.returns-in-Chain-clause-smaller
returns-in-Chain-clause-smaller c =
    omega (arith, c.open_chain.ensures.smaller, work_chain c.args.expr.now _ _ _ c.in-Chain.is, ap work c.get-in-Chain.ensures, ap (λ (ls : List Link). all_work (map work_of_link ls)) c.as_slice-in-Chain.ensures)
