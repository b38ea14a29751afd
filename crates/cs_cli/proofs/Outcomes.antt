-- What words call for.
use Rattle.std.proofs.Common.{◌≡◌, ℕ, Option, Some, sym, ◌∙◌}
use Rattle.cs_cli.specs.declared.words.Command.{Command}
use Rattle.cs_cli.specs.declared.words.Command.TheVariants.{Simulate}

-- words that call for a command call for no other
pub one-command : (x y : Command) (command : Option Command) → Some x ≡ command → command ≡ Some y → x ≡ y
one-command x y command here there = let q : Some x ≡ Some y = here ∙ there in cc

pub simulate-same : (number size n s : ℕ) (x : Command) → x ≡ Simulate number size → x ≡ Simulate n s → (number ≡ n) × (size ≡ s)
simulate-same number size n s x here there = let q : Simulate number size ≡ Simulate n s = sym here ∙ there in (cc, cc)
