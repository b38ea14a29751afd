use Rattle.std.proofs.Common.{◌≤◌, ◌∷◌, [], length, arith}
use Rattle.std.specs.Int.{w8}
use Rattle.cs_base.specs.Fields.{IsBytes, IsForm, bytes_at, upto_at}
use Rattle.cs_base.proofs.Forms.{byte_form, bytes_form, upto_form, tested_form}
use Rattle.cs_tx_value.specs.Name.{is_spelled, name_encoding, NameFits, name_at}

pub name_form : IsForm name_encoding NameFits name_at
name_form =
    tested_form (λ name. length name ∷ name) (λ name. (length name ≤ 32) × IsBytes name) (upto_at w8 32 bytes_at)
    (upto_form w8 256 (λ n. n ∷ []) byte_form 32 (omega arith) length (λ name. name) IsBytes bytes_at bytes_form)
    is_spelled
