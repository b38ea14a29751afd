-- The laws of the numbers of kinds.
use Rattle.std.proofs.Common.{◌≡◌, ◌<◌, true, refl, arith}
use Rattle.cs_wire_message.specs.declared.message.Message.{Message}
use Rattle.cs_wire_message.specs.declared.message.Message.TheVariants as message
use Rattle.cs_wire_message.specs.Message.{kind_of, is_kind}

-- each message is of a kind
pub kind_passes : (m : Message) → is_kind (kind_of m) ≡ true
kind_passes (message.Submit x) = refl
kind_passes m = refl

-- and its number is a byte
pub kind_small : (m : Message) → kind_of m < 256
kind_small (message.Submit x) = omega arith
kind_small m = omega arith
