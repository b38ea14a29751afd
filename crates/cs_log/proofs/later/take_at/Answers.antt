use Rattle.std.proofs.Common.{refl, length}
use Rattle.std.proofs.lemmas.Option.{slice_get_read}
use Rattle.cs_log.proofs.LaterSlots.{take_result, same_slot}
use Rattle.cs_log.proofs.later.take_at.Goals as goal

pub take-requires-clause-member : goal.take-requires-clause-member
take-requires-clause-member c =
    let items = c.args.later.now.items in
    (c.requires.may c.index_mut-slot.result.now (slice_get_read items (length items) c.args.place c.index_mut-slot.result.now refl c.requires.within c.index_mut-slot.ensures.value)).member

pub take-requires-clause-other : goal.take-requires-clause-other
take-requires-clause-other c =
    let items = c.args.later.now.items in
    (c.requires.may c.index_mut-slot.result.now (slice_get_read items (length items) c.args.place c.index_mut-slot.result.now refl c.requires.within c.index_mut-slot.ensures.value)).other

pub take-requires-clause-slot : goal.take-requires-clause-slot
take-requires-clause-slot c =
    let items = c.args.later.now.items in
    (c.requires.may c.index_mut-slot.result.now (slice_get_read items (length items) c.args.place c.index_mut-slot.result.now refl c.requires.within c.index_mut-slot.ensures.value)).slot

pub take-requires-clause-led : goal.take-requires-clause-led
take-requires-clause-led c =
    let items = c.args.later.now.items in
    (c.requires.may c.index_mut-slot.result.now (slice_get_read items (length items) c.args.place c.index_mut-slot.result.now refl c.requires.within c.index_mut-slot.ensures.value)).leads

pub returns : goal.returns
returns c = λ k at.
    let items = c.args.later.now.items in
    let x = c.index_mut-slot.result.now in
    let here = slice_get_read items (length items) c.args.place x refl c.requires.within c.index_mut-slot.ensures.value in
    take_result c.take.result k x c.take.new.self items c.args.place c.args.from c.args.message (same_slot items c.args.place k x at here) c.take.ensures.call
