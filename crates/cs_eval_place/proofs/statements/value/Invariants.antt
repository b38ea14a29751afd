use Rattle.cs_eval_place.proofs.statements.value.Given as goal

abbrev pub ghosts-value_counted : goal.ghosts-value_counted
ghosts-value_counted a = record { name = a.blank.name; parts = a.blank.parts }
