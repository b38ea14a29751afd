use Rattle.std.proofs.Common.{◌≡◌, ◌+◌, [], ◌∷◌, ◌++◌, take, sym, ap, ◌∙◌}
use Rattle.std.proofs.lemmas.List.{take_more}
use Rattle.cs_serve.specs.Telling.{served_notes_text}
use Rattle.cs_serve.proofs.Noted.{text-push, fits-at}
use Rattle.cs_serve.proofs.telling.notes_text.Goals as goal

pub loop-note-preserved : goal.loop-note-preserved
loop-note-preserved c =
    let notes = c.args.notes.now in
    let i = c.loop-note.note-index in
    let told = c.note-item.result in
    let more : take (i + 1) notes ≡ take i notes ++ told ∷ [] = take_more notes i told c.loop-note-test.true ∙ ap (λ n. take i notes ++ n ∷ []) (sym c.note-item.is) in
    c.in_ok-push_str.ensures.bytes
    ∙ ap (λ text. text ++ c.deref.result.now) c.loop-note.invariant
    ∙ ap (λ line. served_notes_text c.args.me (take i notes) ++ line) (c.deref.ensures ∙ c.in_ok-line.ensures)
    ∙ sym (text-push c.args.me (take i notes) told)
    ∙ ap (served_notes_text c.args.me) (sym more)

pub note_text-requires : goal.note_text-requires
note_text-requires c = fits-at c.args.notes.now c.loop-note.note-index c.note-item.result c.requires c.loop-note-test.true c.note-item.is
