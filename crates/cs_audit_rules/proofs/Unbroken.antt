-- A dump of which no rule is broken is sound.
use Rattle.std.proofs.Common.{◌≡◌, ℕ, zero, suc, ◌+◌, ◌/◌, List, [], ◌∷◌, length, Some, None, subst, arith}
use Rattle.std.specs.Prelude.{slice_get}
use Rattle.std.specs.List.{All}
use Rattle.std.proofs.lemmas.Option.{slice_get_within, get_or_from_slice_get}
use Rattle.cs_node_state.specs.Setup.{Setup}
use Rattle.cs_audit_dump.specs.declared.dump.Log.{Log}
use Rattle.cs_audit_dump.specs.Formed.{IsFormedLog}
use Rattle.cs_audit_rules.specs.Slots.{log_fault, logs_fault}
use Rattle.cs_audit_rules.specs.Support.{support_fault}
use Rattle.cs_audit_rules.specs.Verdicts.{setup_in, told_fault}
use Rattle.cs_audit_rules.specs.Sound.{UnbrokenIsSound}
use Rattle.cs_audit_rules.proofs.Parts.{neither_there}
use Rattle.cs_audit_rules.proofs.Logs.{log_sound}
use Rattle.cs_audit_rules.proofs.Supported.{all_supported}
use Rattle.cs_audit_rules.proofs.Told.{history_so}

unbroken_log : (setup : Setup) (shard : ℕ) (logs : List Log) → logs_fault setup shard logs ≡ None → (k : ℕ) (log : Log) → slice_get logs k ≡ Some log
    → log_fault setup (shard + k) log ≡ None
unbroken_log setup shard [] none k log is = absurd cc
unbroken_log setup shard (first ∷ logs) none zero log is =
    let here : shard ≡ shard + 0 = omega arith in
    let same : first ≡ log = cc in
    subst (λ n. log_fault setup n log ≡ None) here
    (subst (λ l. log_fault setup shard l ≡ None) same (neither_there (log_fault setup shard first) (logs_fault setup (shard + 1) logs) none).0)
unbroken_log setup shard (first ∷ logs) none (suc k) log is =
    let there : shard + 1 + k ≡ shard + suc k = omega arith in
    subst (λ n. log_fault setup n log ≡ None) there
    (unbroken_log setup (shard + 1) logs (neither_there (log_fault setup shard first) (logs_fault setup (shard + 1) logs) none).1 k log is)

heads_formed : (logs : List Log) → All IsFormedLog logs → (k : ℕ) (log : Log) → slice_get logs k ≡ Some log → length log.heads ≡ length log.leaves / 16
heads_formed logs formed k log is =
    let there = slice_get_within logs k log is in
    let same = get_or_from_slice_get logs k log log is in
    subst (λ (l : Log). length l.heads ≡ length l.leaves / 16) same (formed k log there).heads

pub unbroken_sound : UnbrokenIsSound
unbroken_sound approves dump formed none =
    let setup = setup_in approves dump in
    let first = neither_there (logs_fault setup 0 dump.logs) _ none in
    let second = neither_there (support_fault setup dump.logs 0 dump.logs) (told_fault setup dump) first.1 in
    record {
      logs = λ shard log is.
          let none_here : log_fault setup (0 + shard) log ≡ None = unbroken_log setup 0 dump.logs first.0 shard log is in
          let here : 0 + shard ≡ shard = omega arith in
          log_sound setup shard log (heads_formed dump.logs formed.logs shard log is) (subst (λ n. log_fault setup n log ≡ None) here none_here);
      support = all_supported setup dump.logs 0 dump.logs second.0;
      history = history_so setup dump.logs dump.history second.1;
    }
