-- The law of the form of objects.
use Rattle.std.proofs.Common.{◌≤◌, List, length, refl, arith}
use Rattle.std.specs.List.{AllByRecursion}
use Rattle.cs_base.specs.declared.limits.TheConstants.{MOST_OBJECT}
use Rattle.cs_base.specs.Fields.{IsForm, counted, bytes_at, counted_at, pair_at, within_at}
use Rattle.cs_base.proofs.Forms.{bytes_form, pair_form, within_form, mapped_form, weaker_form}
use Rattle.cs_tx_value.specs.declared.object.Object.{Object}
use Rattle.cs_tx_value.specs.declared.value.Value.{Value}
use Rattle.cs_tx_value.specs.Encoding.{value_encoding, ValueFits}
use Rattle.cs_tx_value.specs.Reading.{value_at}
use Rattle.cs_tx_value.specs.Name.{name_encoding, NameFits, name_at}
use Rattle.cs_tx_value.specs.laws.Name.{name_form}
use Rattle.cs_tx_value.specs.laws.Value.{value_form, counted_form}
use Rattle.cs_tx_value.specs.Object.{object_encoding, DigestFits, ObjectFits, object_of, object_fields_at, object_at}

abbrev Few : List Value → Type 0
Few values = (length values ≤ 16) × AllByRecursion ValueFits values

abbrev FieldsFit : Object → Type 0
FieldsFit o = DigestFits o.contract × (NameFits o.type_name × Few o.values)

fields_form : IsForm object_encoding FieldsFit object_fields_at
fields_form =
    mapped_form _ (λ p. DigestFits p.0 × (NameFits p.1.0 × Few p.1.1))
    (pair_at (bytes_at 32) (pair_at name_at (counted_at 16 (value_at 4))))
    (pair_form (λ digest. digest) DigestFits (bytes_at 32) (bytes_form 32) _ (λ p. NameFits p.0 × Few p.1) (pair_at name_at (counted_at 16 (value_at 4)))
    (pair_form name_encoding NameFits name_at name_form (counted value_encoding) Few (counted_at 16 (value_at 4)) (counted_form value_encoding ValueFits (value_at 4) (value_form 4) 16 (omega arith))))
    object_of (λ o. (o.contract, (o.type_name, o.values))) FieldsFit (λ p h. (refl, h)) (λ o h. (refl, h))

pub object_form : IsForm object_encoding ObjectFits object_at
unfolding object_at
object_form =
    weaker_form object_encoding (λ o. FieldsFit o × (length (object_encoding o) ≤ MOST_OBJECT))
    (within_at MOST_OBJECT object_fields_at)
    (within_form object_encoding FieldsFit object_fields_at fields_form MOST_OBJECT) ObjectFits
    (λ o h. record { contract = h.0.0; type_name = h.0.1.0; values = h.0.1.1; small = h.1 })
    (λ o h. ((h.contract, (h.type_name, h.values)), h.small))
