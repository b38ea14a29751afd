use Rattle.std.proofs.Common.{rules, length, ap, sym, ◌∙◌}
use Rattle.std.proofs.lemmas.List.{map-id}
use Rattle.std.proofs.lemmas.Iterator.Adapters.{YieldsList-from_vec}
use Rattle.std.proofs.lemmas.Iterator.Consumers.{YieldsList-turn, YieldsList-end}
use Rattle.cs_replay_play.specs.Logged.{note_logged, notes_logged}
use Rattle.cs_replay_play.proofs.Notes.{fits-at}
use Rattle.cs_replay_play.proofs.Places.{logged-push}
use Rattle.cs_replay_play.proofs.node_log.NodeLog.take.Goals as goal

pub take_note-requires : goal.take_note-requires
take_note-requires c =
    let all = c.args.notes.items in
    let road = YieldsList-from_vec {s = c.into_iter-note-iterator.result} all (search rules) (search rules) in
    let t = YieldsList-turn road c.loop-note.yielded c.loop-note.note-iterator c.loop-note.yielded_by c.next.result c.next.new.self c.in-Some.note c.in-Some.is c.next.ensures.steps in
    fits-at all (length c.loop-note.yielded) c.in-Some.note c.requires t.0 t.1

pub loop-note-preserved : goal.loop-note-preserved
loop-note-preserved c =
    c.in_ok-take_note.ensures ∙ ap (note_logged c.in-Some.note) c.loop-note.invariant ∙ sym (logged-push c.loop-note.yielded c.in-Some.note c.args.self.now)

pub returns : goal.returns
returns c =
    let all = c.args.notes.items in
    let road = YieldsList-from_vec {s = c.into_iter-note-iterator.result} all (search rules) (search rules) in
    let t = YieldsList-end road c.loop-note.yielded c.loop-note.note-iterator c.loop-note.yielded_by c.next.result c.next.new.self c.in-None.is c.next.ensures.steps in
    c.loop-note.invariant ∙ ap (λ notes. notes_logged notes c.args.self.now) (sym (map-id c.loop-note.yielded) ∙ t.0)
