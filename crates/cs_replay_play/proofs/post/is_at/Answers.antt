use Rattle.std.proofs.Common.{length, sym, ◌∙◌}
use Rattle.std.proofs.lemmas.Bool.{ltb-true}
use Rattle.cs_replay_play.proofs.Fronts.{get-read}
use Rattle.cs_replay_play.proofs.Tails.{sent-at}
use Rattle.cs_replay_play.proofs.post.is_at.Goals as goal

pub returns-in-Some : goal.returns-in-Some
returns-in-Some c = λ is.
    let parcels = c.args.parcels.now in
    let parcel = c.in-Some.parcel.now in
    let found = c.in-Some.ensures.lookup in
    sent-at c.args.from c.args.to c.args.bytes.now parcels c.args.number parcel
    (sym (get-read parcels c.args.number parcel (ltb-true c.args.number (length parcels) (sym found.0)) found.1))
    (sym c.is.ensures ∙ is)
