use Rattle.std.proofs.Common.{◌≡◌, List, ℕ, length, refl, sym, ap, ◌∙◌}
use Rattle.std.specs.Prelude.{slice_get}
use Rattle.std.proofs.lemmas.Option.{slice_get_read, slice_get_past}
use Rattle.cs_merkle.specs.Tree.{leaves_of_vectors}
use Rattle.cs_check_rules.specs.Chain.{kept_of}
use Rattle.cs_check.specs.Kept.{kept_by}
use Rattle.cs_check.specs.Leaves.{Chained}
use Rattle.cs_check.proofs.Keeping.{head_is}
use Rattle.cs_check.proofs.chain.Chain.head.Goals as goal

pub returns-in-Some : goal.returns-in-Some
returns-in-Some c = λ log is.
    let kept = kept_by c.self.inside.shard c.self.inside.slots c.self.inside.covered.items (leaves_of_vectors c.self.inside.uncovered.items) c.self.inside.heads.items in
    let here : kept ≡ kept_of log = ap (λ (x : Chained). x.kept) c.self.view_is ∙ is in
    let heads = c.deref.result.now in
    let look = c.in-Some.ensures.lookup in
    sym (slice_get_read heads (length heads) c.args.number c.in-Some.head.now refl look.3.0 look.1)
    ∙ ap (λ (hs : List (List ℕ)). slice_get hs c.args.number) c.deref.ensures.value ∙ head_is log kept here c.args.number

pub returns-in-None : goal.returns-in-None
returns-in-None c = λ log is.
    let kept = kept_by c.self.inside.shard c.self.inside.slots c.self.inside.covered.items (leaves_of_vectors c.self.inside.uncovered.items) c.self.inside.heads.items in
    let here : kept ≡ kept_of log = ap (λ (x : Chained). x.kept) c.self.view_is ∙ is in
    let heads = c.deref.result.now in
    sym (slice_get_past heads c.args.number c.in-None.ensures.lookup.3)
    ∙ ap (λ (hs : List (List ℕ)). slice_get hs c.args.number) c.deref.ensures.value ∙ head_is log kept here c.args.number
