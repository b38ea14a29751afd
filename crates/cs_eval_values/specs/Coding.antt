-- How what is held is stored.
use Rattle.std.specs.Prelude.{◌≡◌, List, refl, ◌⊎◌}
use Rattle.std.proofs.Common.{inl, inr}
use Rattle.std.specs.Coded.{Coded, code_by, coded_list, coded⊎}
use Rattle.cs_tx_value.specs.declared.object.Object.{Object}
use Rattle.cs_tx_value.specs.declared.value.Value.{Value}
use Rattle.cs_tx_value.specs.contracts.value.Value as values
use Rattle.cs_tx_value.specs.contracts.object.Object as objects
use Rattle.cs_eval_values.specs.Datums.{Datum, Plain, One, Many}

abbrev Parts : Type 0
Parts = Value ⊎ (Object ⊎ List Object)

abbrev parted : Datum → Parts
parted (Plain v) = inl v
parted (One o) = inr (inl o)
parted (Many os) = inr (inr os)

abbrev joined : Parts → Datum
joined (inl v) = Plain v
joined (inr (inl o)) = One o
joined (inr (inr os)) = Many os

abbrev joined_parts : (d : Datum) → joined (parted d) ≡ d
joined_parts (Plain v) = refl
joined_parts (One o) = refl
joined_parts (Many os) = refl

abbrev pub datum_code : Coded Datum
datum_code =
    code_by Parts (coded⊎ values.the_row.coded (coded⊎ objects.the_row.coded (coded_list objects.the_row.coded)))
    parted joined joined_parts
