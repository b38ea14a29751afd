-- What is lent.
use Rattle.std.specs.Prelude.{ℕ, List}
use Rattle.cs_tx_value.specs.declared.object.Object.{Object}
use Rattle.cs_eval_values.specs.declared.view.Dep.{Dep}
use Rattle.cs_eval_values.specs.declared.view.LentDep.{LentDep}

-- the object beside its key
abbrev pub lent_object : List ℕ × Object → Object
lent_object keyed = keyed.1

abbrev pub dep_of : LentDep → Dep
dep_of d = record { contract = d.contract.now; method = d.method.now; returns = d.returns.now }
