-- The parts of a dump are the whole.
use Rattle.std.proofs.Common.{◌≡◌, ℕ, ◌+◌, List, [], ◌∷◌, ◌++◌, refl, ap, sym, ◌∙◌, append_assoc}
use Rattle.std.specs.Prelude.{codes}
use Rattle.std.specs.List.{flat_map}
use Rattle.std.specs.Fmt.{decimal}
use Rattle.cs_tx_value.specs.declared.object.Object.{Object}
use Rattle.cs_node_state.specs.Deployed.{genesis_from}
use Rattle.cs_replay_rules.specs.Dumps.{number_line, dumped_genesis}
use Rattle.cs_replay.specs.Lines.{settings_text, object_line}

-- a line of a number in front of a text
line-before : (word : List ℕ) (n : ℕ) (rest : List ℕ) → number_line word n ++ rest ≡ word ++ (decimal n ++ (codes "\n" ++ rest))
line-before word n rest =
    append_assoc word (decimal n ++ codes "\n") rest ∙ ap (λ text. word ++ text) (append_assoc (decimal n) (codes "\n") rest)

module _ (shards faulty dummies : ℕ) (rest : List ℕ) where
  abbrev dummies_on : List ℕ
  dummies_on = decimal dummies ++ (codes "\n" ++ rest)

  abbrev faulty_on : List ℕ
  faulty_on = decimal faulty ++ (codes "\ndummies " ++ dummies_on)

  -- the numbers in front of a text
  numbers-before : settings_text shards faulty dummies ++ rest ≡ codes "dump\nshards " ++ (decimal shards ++ (codes "\nfaulty " ++ faulty_on))
  numbers-before =
      let last = decimal dummies ++ codes "\n" in
      let later = decimal faulty ++ (codes "\ndummies " ++ last) in
      append_assoc (codes "dump\nshards ") (decimal shards ++ (codes "\nfaulty " ++ later)) rest
      ∙ ap (λ text. codes "dump\nshards " ++ text)
      (append_assoc (decimal shards) (codes "\nfaulty " ++ later) rest
      ∙ ap (λ text. decimal shards ++ text)
      (append_assoc (codes "\nfaulty ") later rest
      ∙ ap (λ text. codes "\nfaulty " ++ text)
      (append_assoc (decimal faulty) (codes "\ndummies " ++ last) rest
      ∙ ap (λ text. decimal faulty ++ text)
      (append_assoc (codes "\ndummies ") last rest ∙ ap (λ text. codes "\ndummies " ++ text) (append_assoc (decimal dummies) (codes "\n") rest)))))

  lines-before : codes "dump\n" ++ (number_line (codes "shards ") shards ++ (number_line (codes "faulty ") faulty ++ (number_line (codes "dummies ") dummies ++ rest)))
      ≡ codes "dump\nshards " ++ (decimal shards ++ (codes "\nfaulty " ++ faulty_on))
  lines-before =
      let third = line-before (codes "dummies ") dummies rest in
      let second = line-before (codes "faulty ") faulty (number_line (codes "dummies ") dummies ++ rest) ∙ ap (λ text. codes "faulty " ++ (decimal faulty ++ (codes "\n" ++ text))) third in
      let first = line-before (codes "shards ") shards (number_line (codes "faulty ") faulty ++ (number_line (codes "dummies ") dummies ++ rest))
      ∙ ap (λ text. codes "shards " ++ (decimal shards ++ (codes "\n" ++ text))) second in
      ap (λ text. codes "dump\n" ++ text) first

  pub settings-before : settings_text shards faulty dummies ++ rest
      ≡ codes "dump\n" ++ (number_line (codes "shards ") shards ++ (number_line (codes "faulty ") faulty ++ (number_line (codes "dummies ") dummies ++ rest)))
  settings-before = numbers-before ∙ sym lines-before

-- the names of genesis objects aren't printed
pub objects-printed : (place : ℕ) (objects : List Object) → flat_map object_line objects ≡ flat_map dumped_genesis (genesis_from place objects)
objects-printed place [] = refl
objects-printed place (object ∷ objects) = ap (λ more. object_line object ++ more) (objects-printed (place + 1) objects)

-- parts one after the other
pub parts-joined : (settings contracts genesis logs history end : List ℕ) → (((((settings ++ contracts) ++ genesis) ++ logs) ++ history) ++ end)
    ≡ settings ++ (contracts ++ (genesis ++ (logs ++ (history ++ end))))
parts-joined settings contracts genesis logs history end =
    append_assoc (((settings ++ contracts) ++ genesis) ++ logs) history end
    ∙ append_assoc ((settings ++ contracts) ++ genesis) logs (history ++ end)
    ∙ append_assoc (settings ++ contracts) genesis (logs ++ (history ++ end))
    ∙ append_assoc settings contracts (genesis ++ (logs ++ (history ++ end)))
