-- What was made of a log stays as slots come.
use Rattle.std.proofs.Common.{◌≡◌, ℕ, zero, suc, ◌+◌, ◌*◌, ◌<◌, ◌≤◌, List, [], ◌∷◌, ◌++◌, length, take, drop, refl, ap, ◌∙◌, arith, length-drop}
use Rattle.std.proofs.lemmas.List.{drop-append-le, take-append-le, get_or_append_left}
use Rattle.cs_check_rules.specs.Chain.{Log, head_of, checkpoint_behind, head_before, checkpoint_of, covered_of, covered_below}

covered_stays : (number : ℕ) (leaves more : List (List ℕ)) → 16 * number + 16 ≤ length leaves →
    take 16 (drop (16 * number) (leaves ++ more)) ≡ take 16 (drop (16 * number) leaves)
covered_stays number leaves more enough =
    ap (take 16) (drop-append-le (16 * number) leaves more (omega (arith, enough)))
    ∙ take-append-le 16 (drop (16 * number) leaves) more
    (omega (arith, enough, length-drop (16 * number) leaves))

module _ (log new : Log) (more roots : List (List ℕ)) (shard : new.shard ≡ log.shard)
    (leaves : new.leaves ≡ log.leaves ++ more)
    (table_roots : new.table_roots ≡ log.table_roots ++ roots) where
  behind_stays : (previous : List ℕ) (number : ℕ) → 16 * number + 16 ≤ length log.leaves →
      number < length log.table_roots →
      checkpoint_behind previous new number ≡ checkpoint_behind previous log number
  behind_stays previous number enough there =
      rw (
        shard,
        leaves,
        table_roots,
        covered_stays number log.leaves more enough,
        get_or_append_left log.table_roots roots [] number there,
      ) refl

  pub head_stays : (number : ℕ) → 16 * number ≤ length log.leaves →
      number ≤ length log.table_roots → head_before new number ≡ head_before log number
  head_stays zero enough there = refl
  head_stays (suc number) enough there =
      ap (λ (previous : List ℕ). head_of (checkpoint_behind previous new number))
      (head_stays number (omega (arith, enough)) (omega (arith, there)))
      ∙ ap head_of (behind_stays (head_before log number) number
      (omega (arith, enough)) (omega (arith, there)))

  pub checkpoint_stays : (number : ℕ) → 16 * number + 16 ≤ length log.leaves →
      number < length log.table_roots → checkpoint_of new number ≡ checkpoint_of log number
  checkpoint_stays number enough there =
      ap (λ (previous : List ℕ). checkpoint_behind previous new number)
      (head_stays number (omega (arith, enough)) (omega (arith, there)))
      ∙ behind_stays (head_before log number) number enough there

  one_stays : (number : ℕ) → 16 * number + 16 ≤ length log.leaves → number < length log.table_roots →
      covered_of new number ≡ covered_of log number
  one_stays number enough there =
      let checkpoint = checkpoint_stays number enough there in
      let part : take 16 (drop (16 * number) new.leaves) ≡ take 16 (drop (16 * number) log.leaves) =
      ap (λ (xs : List (List ℕ)). take 16 (drop (16 * number) xs)) leaves ∙ covered_stays number log.leaves more enough in
      λ i. record { checkpoint = checkpoint i; leaves = part i }

  pub below_stays : (number : ℕ) → 16 * number ≤ length log.leaves → number ≤ length log.table_roots →
      covered_below new number ≡ covered_below log number
  below_stays zero enough there = refl
  below_stays (suc number) enough there =
      let before = below_stays number (omega (arith, enough)) (omega (arith, there)) in
      let one = one_stays number (omega (arith, enough)) (omega (arith, there)) in
      λ i. before i ++ one i ∷ []
