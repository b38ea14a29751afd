use Rattle.std.proofs.Common.{Option, sym, subst, arith}
use Rattle.std.specs.Prelude.{IfSome}
use Rattle.cs_cli.specs.declared.deployments.Deployment.{Deployment}
use Rattle.cs_cli.specs.Deployed.{StandsNear}
use Rattle.cs_cli.proofs.Behind.{shown-near}
use Rattle.cs_cli.proofs.runs.show_among.Goals as goal

pub returns-then-are_files-clause-near : goal.returns-then-are_files-clause-near
returns-then-are_files-clause-near c =
    subst (λ (read : Option Deployment). IfSome read StandsNear) (sym c.show_at.ensures)
    (shown-near 1 2 c.args.c.now c.args.d.now c.args.e.now (omega arith) (omega arith))

pub returns-then-are_files-2-clause-near : goal.returns-then-are_files-2-clause-near
returns-then-are_files-2-clause-near c =
    subst (λ (read : Option Deployment). IfSome read StandsNear) (sym c.show_at-then-are_files-2.ensures)
    (shown-near 1 2 c.args.e.now c.args.c.now c.args.d.now (omega arith) (omega arith))

pub returns-then-are_files-3-clause-near : goal.returns-then-are_files-3-clause-near
returns-then-are_files-3-clause-near c =
    subst (λ (read : Option Deployment). IfSome read StandsNear) (sym c.show_at-then-are_files-3.ensures)
    (shown-near 1 4 c.args.e.now c.args.b.now c.args.c.now (omega arith) (omega arith))

pub returns-then-are_files-4-clause-near : goal.returns-then-are_files-4-clause-near
returns-then-are_files-4-clause-near c =
    subst (λ (read : Option Deployment). IfSome read StandsNear) (sym c.show_at-then-are_files-4.ensures)
    (shown-near 3 4 c.args.e.now c.args.a.now c.args.b.now (omega arith) (omega arith))
