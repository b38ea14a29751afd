-- The order of a single member has no message to carry.
use Rattle.std.proofs.Common.{◌≡◌, true, false, Some, None, arith}
use Rattle.cs_wire_message.specs.declared.message.Message.TheVariants as message
use Rattle.cs_order.specs.Solo.{solo}
use Rattle.cs_node_rules.specs.Site.{Carriers}
use Rattle.cs_node_rules.specs.Carrying.{AllCarry}

-- any message within the limits would do
abbrev pub solo_carrier : {M : Type 0} → Carriers M
solo_carrier {M} version = record { written = λ m. message.Want 0; read = λ said. None }

pub solo_carries : {M : Type 0} → AllCarry {M = M} solo solo_carrier
solo_carries {M} version = record {
  fits = λ m. omega arith;
  ours = λ m is entries. let q : false ≡ true = is in cc;
  back = λ m is entries. let q : false ≡ true = is in cc;
  theirs = λ said m is. let q : None ≡ Some m = is in cc;
  proper = λ said m fits is. let q : None ≡ Some m = is in cc;
  entries = λ said m is. let q : None ≡ Some m = is in cc;
}
