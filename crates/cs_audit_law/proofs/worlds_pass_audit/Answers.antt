use Rattle.std.proofs.Common.{◌≡◌, inl, inr, [], refl, ap, ◌∙◌, arith}
use Rattle.std.proofs.lemmas.Bool.{cases_lt}
use Rattle.cs_node_rules.specs.World.{firsts_of}
use Rattle.cs_audit_law.specs.Dumped.{dumped_logs}
use Rattle.cs_audit_law.specs.Passing.{PassesAudit, DumpsFirsts, LeavesFit}
use Rattle.cs_audit_law.proofs.Passed.{passes, steps_pass}
use Rattle.cs_world_law.proofs.Whole.{place, At, by-world, sound, came, lawful-here, whole}
use Rattle.cs_audit_law.proofs.Worlds.{dumps_firsts, no_first, dumped_fit, no_leaf}
use Rattle.cs_audit_law.proofs.worlds_pass_audit.Goals as goal

pub returns-clause-passes : goal.returns-clause-passes
returns-clause-passes g c carrier carries config net genesis approves world few small is_net is_world apart first =
    let rules = g.O.Order.rules in
    let p = place rules g.met.O.Order.law g.met.O.Order.holds c.marks_are_made.ensures.made carrier carries config net genesis approves world few small is_net is_world in
    let site = At rules p in
    elim (cases_lt 0 config.shards) [
      | inl some ↦
          let m = whole rules p some apart in
          let here = sound rules p some in
          λ dump logs_are history_is.
          steps_pass site.setup here.bound (firsts_of world) (record { first = first; allowed = m.world_is.0; computed = came rules p some (lawful-here rules p some apart); apart = m.world_is.1 })
          dump logs_are history_is
      | inr none ↦
          let no_shard : config.shards ≡ 0 = omega arith in
          by-world rules p (λ z. PassesAudit site z)
          (λ dump logs_are history_is.
          passes site.setup dump [] [] (logs_are ∙ ap (dumped_logs site.setup []) no_shard) history_is refl refl refl)
          (λ some. absurd (omega arith))
    ]

pub returns-clause-longest : goal.returns-clause-longest
returns-clause-longest g c carrier carries config net genesis approves world few small is_net is_world apart first =
    let rules = g.O.Order.rules in
    let p = place rules g.met.O.Order.law g.met.O.Order.holds c.marks_are_made.ensures.made carrier carries config net genesis approves world few small is_net is_world in
    by-world rules p (λ z. DumpsFirsts (At rules p) z) (no_first (At rules p)) (λ some. dumps_firsts rules p some apart first)

pub returns-clause-fit : goal.returns-clause-fit
returns-clause-fit g c carrier carries config net genesis approves world few small is_net is_world apart first =
    let rules = g.O.Order.rules in
    let p = place rules g.met.O.Order.law g.met.O.Order.holds c.marks_are_made.ensures.made carrier carries config net genesis approves world few small is_net is_world in
    by-world rules p (λ z. LeavesFit (At rules p) z) (no_leaf (At rules p)) (λ some. dumped_fit rules p some apart first)
