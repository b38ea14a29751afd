use Rattle.cs_approve.proofs.judging.says_yes.Given as goal

abbrev pub ghosts-says_in : goal.ghosts-says_in
ghosts-says_in a = record { name = a.blank.name; parts = a.blank.parts }
