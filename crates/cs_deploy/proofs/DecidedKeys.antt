-- What decides where no fault came about, and which statuses there are.
use Rattle.std.specs.Prelude.{◌≡◌, ◌≢◌, ℕ, List, Option, Some, None, Result, Ok, Err, IsErrOf}
use Rattle.std.proofs.Common.{refl, sym, inl, inr, ◌∙◌}
use Rattle.cs_io.specs.Store.{Files}
use Rattle.cs_io.specs.Outside.{SpawnerTold, Beside}
use Rattle.cs_config.specs.FileNames.{key_file}
use Rattle.cs_config.specs.Saving.{ByFault}
use Rattle.cs_config.specs.declared.saving.SaveError.{SaveError}
use Rattle.cs_config.specs.declared.saving.SaveError.TheVariants as save
use Rattle.cs_spawn.specs.declared.error.ClusterError.{ClusterError}
use Rattle.cs_spawn.specs.declared.error.ClusterError.TheVariants as spawn
use Rattle.cs_config.specs.declared.plan.Plan.{Plan}
use Rattle.cs_config.specs.declared.site.Site.{Site}
use Rattle.cs_deploy.specs.declared.cause.Untaken.{Untaken}
use Rattle.cs_deploy.specs.declared.cause.Untaken.TheVariants as untaken
use Rattle.cs_deploy.specs.declared.cause.Cause.TheVariants as cause
use Rattle.cs_deploy.specs.Taking.{Taken, AnswersTaken, IsStoreFault, TakesFiles, FilesCome}
use Rattle.cs_deploy.specs.Files.{site_taken, cluster_taken}
use Rattle.cs_deploy.specs.Untaken.{untaken_answer, TellsUntaken, IsUntaken, EndsBy, IsDecided}
use Rattle.cs_deploy.specs.Keys.{TellsUnsaved, TellsSaved, KeysRuns}
use Rattle.cs_deploy.specs.Cluster.{spawn_answer, TellsEnd, ClusterGoes, ClusterRuns}
use Rattle.cs_deploy.proofs.Answered.{answers-other}

-- ---- a file that isn't taken

pub untaken-decided : {A : Type 0} (Come : Files → Taken A → Type 0) (Done : ℕ → Type 0) (Failed : Type 0) (files : Option Files) (written written' : Option (List ℕ)) (status : ℕ)
    → IsUntaken Come Failed files written written' status → (Failed → ⊥) → status ≢ 6 → IsDecided Come Done files status
untaken-decided {A} Come Done Failed None written written' status is stores writes = λ other. tt
untaken-decided {A} Come Done Failed (Some told) written written' status is stores writes = λ other. by is.why is.is_so is.failed is.told other
  where
    by : (why : Untaken) → AnswersTaken Come told (Err why) → (IsStoreFault why → Failed) → TellsUntaken why written written' status → status ≢ 8 → (outcome : Taken A) × Come told outcome × EndsBy Done outcome status
    by (untaken.Refused name cause.Fault) so failed tells other = absurd (stores (failed tt))
    by (untaken.Refused name cause.Absent) so failed tells other = (Err (name, cause.Absent), so, (tells.verdict writes other).0)
    by (untaken.Refused name cause.TooLong) so failed tells other = (Err (name, cause.TooLong), so, (tells.verdict writes other).0)
    by (untaken.Refused name cause.Toml) so failed tells other = (Err (name, cause.Toml), so, (tells.verdict writes other).0)
    by (untaken.Refused name (cause.Field f)) so failed tells other = (Err (name, cause.Field f), so, (tells.verdict writes other).0)
    by (untaken.Refused name (cause.Limit f)) so failed tells other = (Err (name, cause.Limit f), so, (tells.verdict writes other).0)
    by (untaken.Refused name cause.Contract) so failed tells other = (Err (name, cause.Contract), so, (tells.verdict writes other).0)
    by (untaken.Refused name cause.Key) so failed tells other = (Err (name, cause.Key), so, (tells.verdict writes other).0)
    by (untaken.Refused name cause.Journal) so failed tells other = (Err (name, cause.Journal), so, (tells.verdict writes other).0)
    by untaken.Memory so failed tells other = absurd (other tells.0)

pub untaken-other : {A : Type 0} (Come : Files → Taken A → Type 0) (Failed : Type 0) (files : Option Files) (written written' : Option (List ℕ)) (status n : ℕ)
    → IsUntaken Come Failed files written written' status → 12 ≢ n → 6 ≢ n → 8 ≢ n → status ≢ n
untaken-other {A} Come Failed files written written' status n is own six eight = by is.why is.told
  where
    by : (why : Untaken) → TellsUntaken why written written' status → status ≢ n
    by (untaken.Refused name c) tells = answers-other (untaken_answer name c) written written' status n tells own six eight
    by untaken.Memory tells = λ p. eight (sym tells.0 ∙ p)

-- ---- `keys`

unsaved-other : (error : SaveError) (written written' : Option (List ℕ)) (status n : ℕ) → TellsUnsaved error written written' status → 12 ≢ n → 6 ≢ n → 8 ≢ n → status ≢ n
unsaved-other (save.Fault me) written written' status n tells own six eight = answers-other (untaken_answer (key_file me) cause.Fault) written written' status n tells own six eight
unsaved-other save.Memory written written' status n tells own six eight = λ p. eight (sym tells.0 ∙ p)

pub saved-other : (result : Result (Unit {0}) SaveError) (written written' : Option (List ℕ)) (status n : ℕ) → TellsSaved result written written' status → 0 ≢ n → 12 ≢ n → 6 ≢ n → 8 ≢ n → status ≢ n
saved-other (Ok done) written written' status n tells zero own six eight = λ p. zero (sym tells.0 ∙ p)
saved-other (Err error) written written' status n tells zero own six eight = unsaved-other error written written' status n tells own six eight

pub saved-done : (result : Result (Unit {0}) SaveError) (Failed : Type 0) (written written' : Option (List ℕ)) (status : ℕ) → (ByFault result → Failed) → TellsSaved result written written' status → (Failed → ⊥) → status ≢ 8 → status ≡ 0
saved-done (Ok done) Failed written written' status failed tells stores other = tells.0
saved-done (Err (save.Fault me)) Failed written written' status failed tells stores other = absurd (stores (failed tt))
saved-done (Err save.Memory) Failed written written' status failed tells stores other = absurd (other tells.0)

module _ (name master : List ℕ) (Failed : Type 0) (files files' : Option Files) (written written' : Option (List ℕ)) (status : ℕ) where
  pub keys-decided : KeysRuns name master Failed files files' written written' status → (Failed → ⊥) → status ≢ 6 → IsDecided (FilesCome (site_taken name)) (λ s. s ≡ 0) files status
  keys-decided (inl (kept, is)) stores writes = untaken-decided (FilesCome (site_taken name)) (λ s. s ≡ 0) Failed files written written' status is stores writes
  keys-decided (inr (site, taken, is)) stores writes = by files taken
    where
      by : (files : Option Files) → TakesFiles (FilesCome (site_taken name)) files (Ok site) → IsDecided (FilesCome (site_taken name)) (λ s. s ≡ 0) files status
      by None taken = λ other. tt
      by (Some told) taken = λ other. (Ok site, taken, saved-done is.result Failed written written' status is.failed is.told stores other)

  pub keys-other : (n : ℕ) → KeysRuns name master Failed files files' written written' status → 0 ≢ n → 12 ≢ n → 6 ≢ n → 8 ≢ n → status ≢ n
  keys-other n (inl (kept, is)) zero own six eight = untaken-other (FilesCome (site_taken name)) Failed files written written' status n is own six eight
  keys-other n (inr (site, taken, is)) zero own six eight = saved-other is.result written written' status n is.told zero own six eight

-- ---- `cluster`

ended-other : (result : Result (Unit {0}) ClusterError) (written written' : Option (List ℕ)) (status n : ℕ) → TellsEnd result written written' status → 0 ≢ n → 11 ≢ n → 6 ≢ n → 8 ≢ n → status ≢ n
ended-other (Ok done) written written' status n tells zero own six eight = λ p. zero (sym tells.0 ∙ p)
ended-other (Err spawn.SpawnFault) written written' status n tells zero own six eight = answers-other spawn_answer written written' status n tells own six eight
ended-other (Err spawn.WriteFault) written written' status n tells zero own six eight = λ p. six (sym tells.0 ∙ p)
ended-other (Err spawn.Memory) written written' status n tells zero own six eight = λ p. eight (sym tells.0 ∙ p)

ended-done : (result : Result (Unit {0}) ClusterError) (Failed : Type 0) (written written' : Option (List ℕ)) (status : ℕ) → (IsErrOf result spawn.SpawnFault → Failed) → TellsEnd result written written' status → (Failed → ⊥) → status ≢ 6 → status ≢ 8
    → status ≡ 0
ended-done (Ok done) Failed written written' status failed tells starts writes other = tells.0
ended-done (Err spawn.SpawnFault) Failed written written' status failed tells starts writes other = absurd (starts (failed refl))
ended-done (Err spawn.WriteFault) Failed written written' status failed tells starts writes other = absurd (writes tells.0)
ended-done (Err spawn.Memory) Failed written written' status failed tells starts writes other = absurd (other tells.0)

module _ (name : List ℕ) (Failed Spawn : Type 0) (files files' : Option Files) (old new : Beside SpawnerTold) (status : ℕ) where
  going-done : (plan : Plan) (site : Site) → ClusterGoes plan site Failed Spawn files files' old new status → (Failed → ⊥) → (Spawn → ⊥) → status ≢ 6 → status ≢ 8 → status ≡ 0
  going-done plan site (inl is) stores starts writes other = saved-done (Err is.error) Failed old.written new.written status is.failed is.told stores other
  going-done plan site (inr (saved, is)) stores starts writes other = ended-done is.result Spawn is.written new.written status is.failed is.told starts writes other

  pub cluster-decided : ClusterRuns name Failed Spawn files files' old new status → (Failed → ⊥) → (Spawn → ⊥) → status ≢ 6 → IsDecided (FilesCome (cluster_taken name)) (λ s. s ≡ 0) files status
  cluster-decided (inl is) stores starts writes = untaken-decided (FilesCome (cluster_taken name)) (λ s. s ≡ 0) Failed files old.written new.written status is.untaken stores writes
  cluster-decided (inr (taken, takes, goes)) stores starts writes = by files takes
    where
      by : (files : Option Files) → TakesFiles (FilesCome (cluster_taken name)) files (Ok taken) → IsDecided (FilesCome (cluster_taken name)) (λ s. s ≡ 0) files status
      by None takes = λ other. tt
      by (Some told) takes = λ other. (Ok taken, takes, going-done taken.0 taken.1 goes stores starts writes other)

  going-other : (plan : Plan) (site : Site) (n : ℕ) → ClusterGoes plan site Failed Spawn files files' old new status → 0 ≢ n → 11 ≢ n → 12 ≢ n → 6 ≢ n → 8 ≢ n → status ≢ n
  going-other plan site n (inl is) zero eleven own six eight = unsaved-other is.error old.written new.written status n is.told own six eight
  going-other plan site n (inr (saved, is)) zero eleven own six eight = ended-other is.result is.written new.written status n is.told zero eleven six eight

  pub cluster-other : (n : ℕ) → ClusterRuns name Failed Spawn files files' old new status → 0 ≢ n → 11 ≢ n → 12 ≢ n → 6 ≢ n → 8 ≢ n → status ≢ n
  cluster-other n (inl is) zero eleven own six eight = untaken-other (FilesCome (cluster_taken name)) Failed files old.written new.written status n is.untaken own six eight
  cluster-other n (inr (taken, takes, goes)) zero eleven own six eight = going-other taken.0 taken.1 n goes zero eleven own six eight
