use Rattle.std.proofs.Common.{rules, ◌≡◌, ◌*◌, ◌<◌, ◌≤◌, true, length, ap, subst, inl, inr, ◌∙◌}
use Rattle.std.specs.Result.{is_ok}
use Rattle.std.specs.List.{AllByRecursion}
use Rattle.std.proofs.lemmas.Bool.{cases_lt, true≢false}
use Rattle.cs_base.specs.declared.version.Version.TheVariants.{One}
use Rattle.cs_tx_value.specs.Object.{DigestFits}
use Rattle.cs_tx_types.specs.declared.checkpoint.Checkpoint.{Checkpoint}
use Rattle.cs_check_rules.specs.Chain.{cut_slot, kept_of}
use Rattle.cs_check.specs.Archives.{Archived}
use Rattle.cs_check.proofs.ArchiveCovered.{proof_fits, proof_is}
use Rattle.cs_check.proofs.archive.Archive.prove.Goals as goal

pub returns-in-Ok-clause-proof : goal.returns-in-Ok-clause-proof
returns-in-Ok-clause-proof c = λ log is.
    let here : c.self.inside.chain.kept ≡ kept_of log = ap (λ (a : Archived). a.kept) c.self.view_is ∙ is in
    let covered : c.args.slot < 16 * length log.table_roots =
    elim (cases_lt c.args.slot (16 * length log.table_roots)) [
      | inl before ↦ before
      | inr past ↦ absurd (true≢false (ap is_ok ((c.in-Ok.ensures.not_yet log here).1 past)))
    ] in
    let uncut : cut_slot log ≤ c.args.slot =
    elim (cases_lt c.args.slot (cut_slot log)) [
      | inl before ↦ absurd (true≢false (ap is_ok ((c.in-Ok.ensures.cut log here).1 before)))
      | inr past ↦ past
    ] in
    proof_is log c.args.slot c.in-Ok.proof (c.in-Ok.ensures.proof log here) covered uncut

pub returns-in-Ok-clause-fits : goal.returns-in-Ok-clause-fits
returns-in-Ok-clause-fits c = λ small.
    let whole : c.self.inside.whole ≡ true = search rules in
    let of = c.self.invariant whole in
    let is = c.in-Ok.ensures.proof of.log of.kept_is in
    proof_fits of.log c.args.slot c.in-Ok.proof of.in_place small is
    (c.in-Ok.ensures.shown of.log of.kept_is) (c.checkpoint_fits.ensures One (ap (λ (k : Checkpoint). k.leaves) is.checkpoint))
    (subst (AllByRecursion DigestFits) c.as_slice.ensures c.digests_fit.ensures)
