-- What becomes of a plan, from before its files were taken on.
use Rattle.std.proofs.Common.{◌≡◌, ℕ, ◌+◌, ◌≤◌, inl, inr, List, [], Option, Some, None, Err, refl, sym, append-nil, arith}
use Rattle.std.specs.Prelude.{◌++◌}
use Rattle.cs_base.specs.Outside.{Rose}
use Rattle.cs_io.specs.Told.{Changes, Stays}
use Rattle.cs_io.specs.Store.{Files}
use Rattle.cs_io.specs.Spawner.{Children}
use Rattle.cs_io.specs.Outside.{SpawnerTold, Beside, beside}
use Rattle.cs_config.specs.declared.plan.Plan.{Plan}
use Rattle.cs_config.specs.declared.site.Site.{Site}
use Rattle.cs_wire.specs.AllNames.{names_of}
use Rattle.cs_config.specs.Saving.{SavesUpTo, SavesKeys}
use Rattle.cs_spawn.specs.Running.{IsIdle}
use Rattle.cs_deploy.specs.Cluster.{ClusterGoes}
use Rattle.cs_deploy.proofs.Answered.{rose-later}
use Rattle.cs_io.specs.laws.Told.{stays-same, changes-after}

-- no child was started, no start was tried, and no child was told to end
pub idle-same : (told : SpawnerTold) (written written' : Option (List ℕ)) → IsIdle (beside told written) (beside told written')
idle-same told written written' = record {
  starts = record {
    started = none told.started;
    children = let same : told.children ≡ told.children + 0 = omega arith in same;
    statuses = stays-same told.statuses;
  };
  tried = refl;
  ended = refl;
}
  where
    none : (started : Option Children) → Changes (λ (before now : Children). now ≡ before ++ []) started started
    none None = tt
    none (Some words) = sym (append-nil words)

-- the store kept its files until then
pub going-later : (plan : Plan) (site : Site) (first middle last : ℕ) (Spawn : Type 0) (files files' files'' : Option Files) (old new : Beside SpawnerTold) (status : ℕ) → Stays files files' → first ≤ middle
    → ClusterGoes plan site (Rose middle last) Spawn files' files'' old new status → ClusterGoes plan site (Rose first last) Spawn files files'' old new status
going-later plan site first middle last Spawn files files' files'' old new status kept later (inl is) = inl (record {
  error = is.error;
  saved = changes-after (SavesUpTo site.config plan.master (names_of site.config) (Err is.error)) files files' files'' kept is.saved;
  failed = λ failed. rose-later first middle last later (is.failed failed);
  idle = is.idle;
  told = is.told;
})
going-later plan site first middle last Spawn files files' files'' old new status kept later (inr (saved, is)) =
    inr (changes-after (SavesKeys site.config plan.master (names_of site.config)) files files' files'' kept saved, is)
