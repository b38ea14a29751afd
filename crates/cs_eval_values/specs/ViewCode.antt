-- How a view is stored.
use Rattle.std.specs.Prelude.{ℕ, List, refl}
use Rattle.std.specs.Coded.{Coded, code_by, coded_list, coded_ℕ, coded×}
use Rattle.cs_tx_value.specs.declared.object.Object.{Object}
use Rattle.cs_tx_value.specs.declared.value.Value.{Value}
use Rattle.cs_tx_value.specs.contracts.value.Value as values
use Rattle.cs_tx_value.specs.contracts.object.Object as objects
use Rattle.cs_eval_values.specs.declared.view.View.{View}
use Rattle.cs_eval_values.specs.declared.view.Dep.{Dep}

abbrev Front : Type 0
Front = List ℕ × (List Object × (List Object × List Value))

abbrev Back : Type 0
Back = List Object × (List Value × List Dep)

abbrev Trace : Type 0
Trace = List ℕ × (List ℕ × List Value)

abbrev trace_code : Coded Trace
trace_code = coded× (coded_list coded_ℕ) (coded× (coded_list coded_ℕ) (coded_list values.the_row.coded))

abbrev dep_code : Coded Dep
dep_code =
    code_by Trace trace_code
    (λ d. (d.contract, (d.method, d.returns)))
    (λ p. record { contract = p.0; method = p.1.0; returns = p.1.1 })
    (λ _. refl)

abbrev front_code : Coded Front
front_code =
    coded× (coded_list coded_ℕ) (coded× (coded_list objects.the_row.coded)
    (coded× (coded_list objects.the_row.coded) (coded_list values.the_row.coded)))

abbrev back_code : Coded Back
back_code = coded× (coded_list objects.the_row.coded) (coded× (coded_list values.the_row.coded) (coded_list dep_code))

abbrev pub view_code : Coded View
view_code =
    code_by (Front × Back) (coded× front_code back_code)
    (λ v. ((v.contract, (v.inputs, (v.reads, v.params))), (v.outputs, (v.returns, v.deps))))
    (λ p. record {
      contract = p.0.0;
      inputs = p.0.1.0;
      reads = p.0.1.1.0;
      params = p.0.1.1.1;
      outputs = p.1.0;
      returns = p.1.1.0;
      deps = p.1.1.1;
    })
    (λ _. refl)
