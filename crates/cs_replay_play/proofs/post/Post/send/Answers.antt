use Rattle.std.proofs.Common.{◌≡◌, ◌≤◌, ◌+◌, length, bytes_eq, ap, ◌∙◌, arith}
use Rattle.indexmap.specs.IndexMap.{insert_entry}
use Rattle.cs_replay_rules.specs.Play.{size_of, most_sent}
use Rattle.cs_replay_play.specs.Post.{tail_of}
use Rattle.cs_replay_play.proofs.Fronts.{kept-push, kept-noted}
use Rattle.cs_replay_play.proofs.post.Post.send.Goals as goal

pub invariant_of-self-in_err-push : goal.invariant_of-self-in_err-push
invariant_of-self-in_err-push c =
    rw (c.in_ok-insert.ensures.entries, c.in_err-push.ensures.items)
    (kept-noted c.self.inside.parcels.items c.self.inside.size c.self.inside.delivered c.self.inside.numbers.entries c.tail_of.result c.len-number.result c.self.invariant)

pub invariant_of-self-2 : goal.invariant_of-self-2
invariant_of-self-2 c =
    let same = ap length c.bytes.ensures in
    let within : c.self.inside.size + length c.args.parcel.bytes ≤ most_sent = omega (arith, same, c.if-length-self.false, c.self.invariant.within) in
    let tail : c.tail_of.result ≡ tail_of c.args.parcel.bytes = c.tail_of.ensures ∙ ap tail_of c.bytes-2.ensures in
    let entries : c.insert.new.self.entries ≡ insert_entry bytes_eq c.self.inside.numbers.entries (tail_of c.args.parcel.bytes) c.len-number.result =
    c.in_ok-insert.ensures.entries ∙ ap (λ t. insert_entry bytes_eq c.self.inside.numbers.entries t c.len-number.result) tail in
    rw (entries, c.in_ok-push.ensures.items, c.bytes.ensures)
    (kept-push c.self.inside.parcels.items c.self.inside.size c.self.inside.delivered c.self.inside.numbers.entries c.args.parcel c.len-number.result c.self.invariant within)

pub returns-clause-within : goal.returns-clause-within
returns-clause-within c =
    let same = ap length c.bytes.ensures in
    let within : c.self.inside.size + length c.args.parcel.bytes ≤ most_sent = omega (arith, same, c.if-length-self.false, c.self.invariant.within) in
    let kept = kept-push c.self.inside.parcels.items c.self.inside.size c.self.inside.delivered c.self.inside.numbers.entries c.args.parcel 0 c.self.invariant within in
    let sent : size_of c.push.new.self.items ≤ most_sent = rw c.in_ok-push.ensures.items (omega (arith, kept.counted, kept.within)) in
    sent
