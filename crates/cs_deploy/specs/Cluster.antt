-- The command `cluster`: the nodes of a plan, and its calls.
use Rattle.std.specs.Prelude.{◌≡◌, ◌⊎◌, ℕ, List, codes, Option, Result, Ok, Err, IsErrOf}
use Rattle.std.specs.Io.KnownBytes.{Keeps}
use Rattle.cs_base.specs.Answers.{Answer, Answers}
use Rattle.cs_io.specs.Told.{Changes, Stays}
use Rattle.cs_io.specs.Store.{Files}
use Rattle.cs_io.specs.Outside.{SpawnerTold, Beside}
use Rattle.cs_config.specs.declared.plan.Plan.{Plan}
use Rattle.cs_config.specs.declared.site.Site.{Site}
use Rattle.cs_wire.specs.AllNames.{names_of}
use Rattle.cs_config.specs.Saving.{SavesUpTo, SavesKeys, ByFault}
use Rattle.cs_config.specs.declared.saving.SaveError.{SaveError}
use Rattle.cs_spawn.specs.Deeds.{cluster_deeds}
use Rattle.cs_spawn.specs.Running.{IsIdle, ClusterEnds}
use Rattle.cs_spawn.specs.declared.error.ClusterError.{ClusterError}
use Rattle.cs_spawn.specs.declared.error.ClusterError.TheVariants.{SpawnFault, WriteFault, Memory}
use Rattle.cs_deploy.specs.Taking.{TakesFiles, FilesCome}
use Rattle.cs_deploy.specs.Files.{cluster_taken}
use Rattle.cs_deploy.specs.Untaken.{IsSilent, IsUntaken}
use Rattle.cs_deploy.specs.Keys.{TellsUnsaved}

-- A file isn't taken, and no child is started.
pub record IsUnplanned (name : List ℕ) (StoreFailed : Type 0) (files files' : Option Files) (old new : Beside SpawnerTold)
    (status : ℕ) : Type 0 where
  pub kept : Stays files files'
  pub idle : IsIdle old new
  pub untaken : IsUntaken (FilesCome (cluster_taken name)) StoreFailed files old.written new.written status

-- Not all key files are saved, and no child is started.
pub record IsUnsaved (master : List ℕ) (site : Site) (StoreFailed : Type 0) (files files' : Option Files) (old new : Beside SpawnerTold)
    (status : ℕ) : Type 0 where
  pub error : SaveError
  pub saved : Changes (SavesUpTo site.config master (names_of site.config) (Err error)) files files'
  pub failed : ByFault (Err error) → StoreFailed
  pub idle : IsIdle old new
  pub told : TellsUnsaved error old.written new.written status

abbrev pub spawn_answer : Answer
spawn_answer = record { status = 11; printed = codes "spawn fault\n" }

-- what is printed behind the lines of the children, and the status
abbrev pub TellsEnd : Result Unit ClusterError → Option (List ℕ) → Option (List ℕ) → ℕ → Type 0
TellsEnd (Ok done) written written' status = (status ≡ 0) × Keeps written written'
TellsEnd (Err SpawnFault) written written' status = Answers spawn_answer written written' status
TellsEnd (Err WriteFault) written written' status = (status ≡ 6) × Keeps written written'
TellsEnd (Err Memory) written written' status = IsSilent written written' status

-- The plan is run, from its first child on.
pub record PlanRuns (plan : Plan) (site : Site) (SpawnFailed : Type 0) (old new : Beside SpawnerTold) (status : ℕ) : Type 0 where
  pub result : Result Unit ClusterError
  pub written : Option (List ℕ)
  pub ends : ClusterEnds (cluster_deeds plan site.config old.told.children) old (record new { written = written }) result
  pub failed : IsErrOf result SpawnFault → SpawnFailed
  pub told : TellsEnd result written new.written status

-- what becomes of a plan that is taken, with its site: not all key files are saved; or all are, and then the plan is run
abbrev pub ClusterGoes : Plan → Site → Type 0 → Type 0 → Option Files → Option Files → Beside SpawnerTold → Beside SpawnerTold → ℕ → Type 0
ClusterGoes plan site StoreFailed SpawnFailed files files' old new status =
    IsUnsaved plan.master site StoreFailed files files' old new status
    ⊎ (Changes (SavesKeys site.config plan.master (names_of site.config)) files files'
    × PlanRuns plan site SpawnFailed old new status)

-- what the command comes to
abbrev pub ClusterRuns : List ℕ → Type 0 → Type 0 → Option Files → Option Files → Beside SpawnerTold → Beside SpawnerTold → ℕ → Type 0
ClusterRuns name StoreFailed SpawnFailed files files' old new status =
    IsUnplanned name StoreFailed files files' old new status
    ⊎ ((taken : Plan × Site) × TakesFiles (FilesCome (cluster_taken name)) files (Ok taken)
    × ClusterGoes taken.0 taken.1 StoreFailed SpawnFailed files files' old new status)
