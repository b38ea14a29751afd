-- What a command leaves alone, by what its words call for.
use Rattle.std.proofs.Common.{◌≡◌, Option, sym, subst}
use Rattle.cs_io.specs.Outside.{Outside}
use Rattle.cs_cli.specs.declared.words.Command.{Command}
use Rattle.cs_cli.specs.declared.deployments.Deployment.{Deployment}
use Rattle.cs_cli.specs.Alone.{DeploymentLeaves, CommandLeaves, LeavesAlone}

module _ (a b : Outside) where
  pub leaves-as : (x command : Option Command) → x ≡ command → LeavesAlone x a b → LeavesAlone command a b
  leaves-as x command is = subst (λ (z : Option Command). LeavesAlone z a b) is

  pub leaves-so : (x command : Command) → command ≡ x → CommandLeaves x a b → CommandLeaves command a b
  leaves-so x command is = subst (λ (z : Command). CommandLeaves z a b) (sym is)

  pub deployment-leaves : (x deployment : Deployment) → deployment ≡ x → DeploymentLeaves x a b → DeploymentLeaves deployment a b
  deployment-leaves x deployment is = subst (λ (z : Deployment). DeploymentLeaves z a b) (sym is)
