use Rattle.std.proofs.Common.{◌≡◌, ◌+◌, ◌*◌, ◌/◌, ◌≤◌, ◌<◌, length, false, Some, inl, inr, refl, ap, ◌∙◌, arith}
use Rattle.std.specs.Prelude.{slice_get, Err}
use Rattle.std.proofs.lemmas.Bool.{cases_lt, both_ways}
use Rattle.std.proofs.lemmas.Option.{slice_get_read}
use Rattle.cs_merkle.specs.Tree.{leaves_of_vectors}
use Rattle.cs_check_rules.specs.Chain.{kept_of, cut_slot, Covered, covered_of}
use Rattle.cs_check.specs.Kept.{kept_by}
use Rattle.cs_check.specs.Leaves.{Chained}
use Rattle.cs_check_rules.proofs.Covered.{chain_shows}
use Rattle.cs_check.specs.declared.chain.ProveError.TheVariants.{NotYet, Cut}
use Rattle.cs_check.proofs.Keeping.{heads_long, covered_long, cut_is, covered_at, enough, proof_is}
use Rattle.cs_check.proofs.chain.Chain.prove.Goals as goal

pub returns-in_ok-prove-in-Some-get-clause-proof :
    goal.returns-in_ok-prove-in-Some-get-clause-proof
returns-in_ok-prove-in-Some-get-clause-proof c = λ log is.
    let kept = kept_by c.self.inside.shard c.self.inside.slots c.self.inside.covered.items (leaves_of_vectors c.self.inside.uncovered.items) c.self.inside.heads.items in
    let here : kept ≡ kept_of log = ap (λ (x : Chained). x.kept) c.self.view_is ∙ is in
    let covered : Covered = c.in-Some-get.covered.now in
    let within : c.in-Some.place < c.self.inside.covered.len = c.in-Some-get.ensures.variant.0 refl in
    let there : slice_get kept.covered c.in-Some.place ≡ Some covered =
    slice_get_read kept.covered c.self.inside.covered.len c.in-Some.place covered c.self.inside.covered.ok.0 within
    c.in-Some-get.ensures.lookup in
    let number : cut_slot log / 16 + c.in-Some.place ≡ c.args.slot / 16 =
    omega (arith, cut_is log kept here, c.self.inside.heads.ok.0, c.self.inside.covered.ok.0) in
    proof_is log c.args.slot covered c.in_ok-prove-in-Some-get.field-0
    (covered_at log kept here c.in-Some.place covered there ∙ ap (covered_of log) number)
    c.in_ok-prove-in-Some-get.ensures

pub returns-in_ok-prove-in-Some-get-clause-shown :
    goal.returns-in_ok-prove-in-Some-get-clause-shown
returns-in_ok-prove-in-Some-get-clause-shown c = λ log is of_slot.
    let kept = kept_by c.self.inside.shard c.self.inside.slots c.self.inside.covered.items (leaves_of_vectors c.self.inside.uncovered.items) c.self.inside.heads.items in
    let here : kept ≡ kept_of log = ap (λ (x : Chained). x.kept) c.self.view_is ∙ is in
    let within : c.in-Some.place < c.self.inside.covered.len = c.in-Some-get.ensures.variant.0 refl in
    let whole : 16 * (c.args.slot / 16) + 16 ≤ length log.leaves =
    omega (arith, within, cut_is log kept here, covered_long log kept here, heads_long log kept here, enough log kept here c.self.invariant, c.self.inside.heads.ok.0, c.self.inside.covered.ok.0) in
    chain_shows log c.args.slot c.in_ok-prove-in-Some-get.field-0 whole
    (returns-in_ok-prove-in-Some-get-clause-proof c log is) of_slot

pub returns-in-None-get-clause-not_yet : goal.returns-in-None-get-clause-not_yet
returns-in-None-get-clause-not_yet c = λ log is.
    let kept = kept_by c.self.inside.shard c.self.inside.slots c.self.inside.covered.items (leaves_of_vectors c.self.inside.uncovered.items) c.self.inside.heads.items in
    let here : kept ≡ kept_of log = ap (λ (x : Chained). x.kept) c.self.view_is ∙ is in
    let none : c.self.inside.covered.len ≤ c.in-Some.place =
    elim (cases_lt c.in-Some.place c.self.inside.covered.len) [
      | inl less ↦ absurd (both_ways false refl (c.in-None-get.ensures.variant.1 less))
      | inr past ↦ past
    ] in
    let past : 16 * length log.table_roots ≤ c.args.slot =
    omega (arith, none, cut_is log kept here, covered_long log kept here, heads_long log kept here, c.self.inside.heads.ok.0, c.self.inside.covered.ok.0) in (
      λ e. past,
      λ e. refl,
    )

pub returns-in-None-get-clause-cut : goal.returns-in-None-get-clause-cut
returns-in-None-get-clause-cut c = λ log is.
    let kept = kept_by c.self.inside.shard c.self.inside.slots c.self.inside.covered.items (leaves_of_vectors c.self.inside.uncovered.items) c.self.inside.heads.items in
    let here : kept ≡ kept_of log = ap (λ (x : Chained). x.kept) c.self.view_is ∙ is in
    let uncut : cut_slot log ≤ c.args.slot =
    omega (arith, cut_is log kept here, c.self.inside.heads.ok.0, c.self.inside.covered.ok.0) in (
      λ e. let q : Err NotYet ≡ Err Cut = e in cc,
      λ less. absurd (omega (arith, less, uncut)),
    )
