use Rattle.std.proofs.Common.{◌≡◌, Some, List, slice_get, slice_set, sym, ap, subst, ◌∙◌, arith}
use Rattle.cs_node_rules.specs.Lines.{Parcel}
use Rattle.cs_replay_play.specs.Post.{IsKeptPost, parcels_with_arrived}
use Rattle.cs_replay_play.proofs.Fronts.{kept-arrived, get-read}
use Rattle.cs_replay_play.proofs.post.Post.arrive.Goals as goal

pub invariant_of-self : goal.invariant_of-self
invariant_of-self c =
    let parcels = c.self.inside.parcels.items in
    let parcel = c.index_mut.result.now in
    let is : slice_get parcels c.args.number ≡ Some parcel = get-read parcels c.args.number parcel (omega (arith, c.if-place-len.true, c.len.ensures)) c.index_mut.ensures.value in
    subst (λ (p : Parcel). IsKeptPost (slice_set parcels c.args.number p) c.self.inside.size c.self.inside.delivered c.self.inside.numbers.entries) (sym c.arrive.ensures)
    (kept-arrived parcels c.self.inside.size c.self.inside.delivered c.args.number c.self.inside.numbers.entries parcel c.self.invariant is)

pub returns-then-place-len : goal.returns-then-place-len
returns-then-place-len c =
    let parcels = c.self.inside.parcels.items in
    let parcel = c.index_mut.result.now in
    let is : slice_get parcels c.args.number ≡ Some parcel = get-read parcels c.args.number parcel (omega (arith, c.if-place-len.true, c.len.ensures)) c.index_mut.ensures.value in
    ap (λ p. slice_set parcels c.args.number p) c.arrive.ensures
    ∙ ap (λ found. parcels_with_arrived c.args.number found parcels) (sym is)
    ∙ ap (λ (ps : List Parcel). parcels_with_arrived c.args.number (slice_get ps c.args.number) ps) c.self.view_is
