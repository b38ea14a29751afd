use Rattle.std.proofs.Common.{◌≡◌, ◌+◌, ◌<◌, List, [], ◌∷◌, ◌++◌, take, sym, ap, subst, ◌∙◌}
use Rattle.std.proofs.lemmas.List.{take_more}
use Rattle.cs_node_rules.specs.World.{Execution}
use Rattle.cs_node.specs.declared.draft.Note.{Note}
use Rattle.cs_replay_play.specs.Kept.{KeepsHistory}
use Rattle.cs_replay_play.specs.Told.{notes_text, noted_firsts, note_aborted, noted_aborted}
use Rattle.cs_base.specs.declared.config.Config.{Config}
use Rattle.cs_replay_play.proofs.Notes.{text-push, firsts-push, aborted-push, fits-at}
use Rattle.cs_replay_play.proofs.telling.tell.Goals as goal

pub loop-note-preserved : goal.loop-note-preserved
loop-note-preserved c =
    let notes = c.args.notes.now in
    let i = c.loop-note.note-index in
    let told = c.note-item.result in
    let inv = c.loop-note.invariant in
    let more : take (i + 1) notes ≡ take i notes ++ told ∷ [] = take_more notes i told c.loop-note-test.true ∙ ap (λ n. take i notes ++ n ∷ []) (sym c.note-item.is) in (
      c.in_ok-push_str.ensures.bytes
          ∙ ap (λ text. text ++ c.deref.result.now) inv.0
          ∙ ap (λ line. notes_text c.args.traced c.args.me (take i notes) ++ line) (c.deref.ensures ∙ c.in_ok-line.ensures.line)
          ∙ sym (text-push c.args.traced c.args.me (take i notes) told)
          ∙ ap (notes_text c.args.traced c.args.me) (sym more),
      λ setup firsts within k.
          subst (λ (ns : List Note). KeepsHistory setup (noted_firsts c.args.me.shard ns firsts) c.tell_note.new.history) (sym more)
          (subst (λ (fs : List Execution). KeepsHistory setup fs c.tell_note.new.history) (sym (firsts-push c.args.me.shard (take i notes) told firsts))
          (c.in_ok-line.ensures.kept setup (noted_firsts c.args.me.shard (take i notes) firsts) (subst (λ (config : Config). c.args.me.shard < config.shards) (sym inv.2) within) (inv.1 setup firsts within k))),
      c.in_ok-line.ensures.config ∙ inv.2,
      c.in_ok-line.ensures.aborted
          ∙ ap (note_aborted told) inv.3
          ∙ sym (aborted-push (take i notes) told c.args.history.now.aborted)
          ∙ ap (λ ns. noted_aborted ns c.args.history.now.aborted) (sym more),
    )

pub tell_note-requires : goal.tell_note-requires
tell_note-requires c = record { fits = fits-at c.args.notes.now c.loop-note.note-index c.note-item.result c.requires.fit c.loop-note-test.true c.note-item.is }
