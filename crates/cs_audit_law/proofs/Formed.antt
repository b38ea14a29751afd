-- What a schedule's replay dumps is formed and encoded as what is read.
use Rattle.std.proofs.Common.{◌≡◌, ℕ, zero, suc, ◌<◌, ◌≤◌, ◌^◌, List, [], ◌∷◌, length, ◌∙◌, arith}
use Rattle.std.specs.List.{All, AllByRecursion}
use Rattle.std.proofs.lemmas.List.Elements.{All-nil, All-push, recursion_from_All}
use Rattle.cs_base.specs.Fields.{IsBytes}
use Rattle.cs_tx_types.specs.declared.session.Session.{Session}
use Rattle.cs_base.specs.declared.version.Version.TheVariants.{One}
use Rattle.cs_tx_types.specs.Log.{leaf_encoding, LeafFits}
use Rattle.cs_tx_value.specs.Object.{object_encoding, ObjectFits, DigestFits}
use Rattle.cs_node_state.specs.Setup.{Setup}
use Rattle.cs_node_rules.specs.World.{Execution}
use Rattle.cs_sched.specs.declared.schedule.Schedule.{Schedule}
use Rattle.cs_sched.specs.Playable.{IsPlayable}
use Rattle.cs_audit_dump.specs.declared.dump.Dump.{Dump}
use Rattle.cs_audit_dump.specs.declared.dump.Log.{Log}
use Rattle.cs_audit_dump.specs.Again.{IsEncodedLog, IsEncoded}
use Rattle.cs_audit_dump.specs.Formed.{IsFormedLog, IsFormed}
use Rattle.cs_audit_dump.specs.Printed.{printed_dump}
use Rattle.cs_audit_law.specs.Dumped.{dumped_leaves, dumped_stand, dumped_log, dumped_logs}
use Rattle.cs_audit_law.specs.Passing.{told_digests}
use Rattle.cs_audit_law.proofs.Unbroken.{count_logs, heads_there}
use Rattle.cs_audit_law.proofs.Bytes.{object_bytes, leaf_bytes}
use Rattle.cs_audit_law.proofs.Counts.{leaves_lines, logs_within, history_within}
use Rattle.cs_audit_law.proofs.Digests.{heads_fit, told_fit}

all_bytes : {X : Type 0} (Fits : X → Type 0) (write : X → List ℕ) → ((x : X) → Fits x → IsBytes (write x)) → (xs : List X) → AllByRecursion Fits xs → AllByRecursion (λ x. IsBytes (write x)) xs
all_bytes Fits write bytes [] fits = tt
all_bytes Fits write bytes (x ∷ xs) fits = (bytes x fits.0, all_bytes Fits write bytes xs fits.1)

-- ---- logs

module _ (setup : Setup) (firsts : List Execution) where
  log_formed : (shard : ℕ) → All (LeafFits One) (dumped_leaves shard firsts) → IsFormedLog (dumped_log setup firsts shard)
  log_formed shard fits = record { leaves = fits; heads = heads_there setup firsts shard }

  log_encoded : (shard : ℕ) → All (LeafFits One) (dumped_leaves shard firsts) → length (dumped_leaves shard firsts) < 2 ^ 64 → IsEncodedLog (dumped_log setup firsts shard)
  log_encoded shard fits few = record {
    leaves = all_bytes (LeafFits One) (leaf_encoding One) leaf_bytes (dumped_leaves shard firsts) (recursion_from_All (LeafFits One) (dumped_leaves shard firsts) fits);
    heads = heads_fit (dumped_stand setup shard firsts).log (length (dumped_stand setup shard firsts).log.table_roots);
    slots = few;
  }

  logs_all : (Holds : Log → Type 0) (n : ℕ) → ((shard : ℕ) → shard < n → Holds (dumped_log setup firsts shard)) → All Holds (dumped_logs setup firsts n)
  logs_all Holds zero each = All-nil Holds
  logs_all Holds (suc n) each =
      All-push Holds (dumped_logs setup firsts n) (dumped_log setup firsts n)
      (logs_all Holds n (λ shard less. each shard (omega arith))) (each n (omega arith))

-- ---- the whole

-- the dump of what first executions leave of a schedule, by this setup
abbrev pub schedule_dump : Schedule → Setup → List Execution → Dump
schedule_dump schedule setup firsts = record {
  config = schedule.config;
  contracts = schedule.contracts;
  genesis = schedule.genesis;
  logs = dumped_logs setup firsts setup.shards;
  history = told_digests setup firsts;
}

module _ (schedule : Schedule) (playable : IsPlayable schedule) (setup : Setup) (shards : setup.shards ≡ schedule.config.shards) (firsts : List Execution)
    (limit : ℕ) (low : limit < 2 ^ 64) (small : length (printed_dump (schedule_dump schedule setup firsts)) ≤ limit)
    (leaves : (shard : ℕ) → length (dumped_leaves shard firsts) ≤ 2 ^ 64 → All (LeafFits One) (dumped_leaves shard firsts)) where
  abbrev dump : Dump
  dump = schedule_dump schedule setup firsts

  few : (shard : ℕ) → shard < setup.shards → length (dumped_leaves shard firsts) < 2 ^ 64
  few shard less =
      let told = leaves_lines setup firsts setup.shards shard less in
      let within = logs_within dump limit small in
      omega arith

  fits : (shard : ℕ) → shard < setup.shards → All (LeafFits One) (dumped_leaves shard firsts)
  fits shard less = leaves shard (omega (arith, few shard less))

  pub formed : IsFormed dump
  formed = record {
    version = playable.version;
    contracts = playable.contracts;
    few_contracts = playable.few_contracts;
    objects = playable.objects;
    few_objects = playable.few_objects;
    keys_differ = playable.keys_differ;
    shards = count_logs setup firsts setup.shards ∙ shards;
    logs = logs_all setup firsts IsFormedLog setup.shards (λ shard less. log_formed setup firsts shard (fits shard less));
  }

  pub encoded : ((x : Session) → DigestFits (setup.session_of x).transaction.digest) → IsEncoded dump
  encoded named = record {
    objects = all_bytes ObjectFits object_encoding object_bytes schedule.genesis (recursion_from_All ObjectFits schedule.genesis playable.objects);
    logs = recursion_from_All IsEncodedLog (dumped_logs setup firsts setup.shards)
        (logs_all setup firsts IsEncodedLog setup.shards (λ shard less. log_encoded setup firsts shard (fits shard less) (few shard less)));
    history = told_fit setup named firsts;
    txs = omega (arith, history_within dump limit small, low);
  }
