-- How objects beside their keys, and slots that are filled, are stored.
use Rattle.std.specs.Prelude.{ℕ, Bool, List, refl}
use Rattle.std.specs.Coded.{Coded, code_by, coded_list, coded_ℕ, coded_bool, coded×}
use Rattle.cs_tx_value.specs.declared.object.Object.{Object}
use Rattle.cs_tx_value.specs.contracts.object.Object as objects
use Rattle.cs_tx_types.specs.Transaction.{Keyed}
use Rattle.cs_proc_parts.specs.Creating.{Created}

abbrev pub keyed_code : Coded (List Keyed)
keyed_code = coded_list (coded× (coded_list coded_ℕ) objects.the_row.coded)

abbrev created_code : Coded Created
created_code =
    code_by (List ℕ × (Bool × List Object))
    (coded× (coded_list coded_ℕ) (coded× coded_bool (coded_list objects.the_row.coded)))
    (λ c. (c.name, (c.many, c.objects))) (λ p. record { name = p.0; many = p.1.0; objects = p.1.1 }) (λ _. refl)

abbrev pub slots_code : Coded (List Created)
slots_code = coded_list created_code
