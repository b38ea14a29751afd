-- How names are stored.
use Rattle.std.specs.Prelude.{ℕ, List, refl}
use Rattle.std.specs.Coded.{Coded, code_by, coded_list, coded_ℕ, coded×}
use Rattle.cs_types_kinds.specs.declared.kind.Kind.{Kind}
use Rattle.cs_types_kinds.specs.contracts.kind.Kind as kinds
use Rattle.cs_eval_values.specs.Datums.{Datum}
use Rattle.cs_eval_values.specs.Coding.{datum_code}
use Rattle.cs_eval_values.specs.Namings.{Named}

abbrev named_code : Coded Named
named_code =
    code_by (List ℕ × (Kind × Datum)) (coded× (coded_list coded_ℕ) (coded× kinds.the_row.coded datum_code))
    (λ n. (n.name, (n.kind, n.datum))) (λ p. record { name = p.0; kind = p.1.0; datum = p.1.1 }) (λ _. refl)

abbrev pub names_code : Coded (List Named)
names_code = coded_list named_code
