-- The object that each dummy carries.
use Rattle.std.specs.Prelude.{[], codes, replicate}
use Rattle.cs_tx_value.specs.declared.object.Object.{Object}

abbrev pub dummy_object : Object
dummy_object = record { contract = replicate 32 0; type_name = codes "dummy"; values = [] }
