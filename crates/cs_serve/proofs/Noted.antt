-- What an event tells and sends is what its marks print and send.
use Rattle.std.proofs.Common.{◌≡◌, ℕ, zero, suc, ◌<◌, length, get_or, arith, List, [], ◌∷◌, ◌++◌, map, false, refl, sym, ap, subst, ◌∙◌, append-nil}
use Rattle.std.proofs.lemmas.Grind.{flat_map-append}
use Rattle.std.proofs.lemmas.List.{map-append}
use Rattle.cs_base.specs.declared.node_id.NodeId.{NodeId}
use Rattle.cs_tx.specs.Digest.{digest_of_session}
use Rattle.cs_tx_types.specs.declared.session.Session.{Session}
use Rattle.cs_ledger.specs.Table as Shard
use Rattle.cs_node_state.specs.Setup.{Setup, digest_of}
use Rattle.cs_tx_types.specs.Session.{session_in}
use Rattle.cs_node_rules.specs.Net.{Net, sealed_by_net}
use Rattle.cs_node_rules.specs.Signs.{Sign, Dropped, Took, Entered, Viewed, Did, Headed, Kept, Sent}
use Rattle.cs_node_rules.specs.Lines.{Parcel, parcels_of, slot_line, head_line, sign_lines}
use Rattle.cs_table.specs.Effects.{effect_of}
use Rattle.cs_wire.specs.declared.input.Out.{Out}
use Rattle.cs_io.specs.Link.{Offers}
use Rattle.cs_node.specs.declared.draft.Note.{Note}
use Rattle.cs_node.specs.declared.draft.Note.TheVariants as note
use Rattle.cs_node.specs.Notes.{NoteFits, NotesFit, notes_of, outs_of}
use Rattle.cs_node_state.specs.Bench.{effect_from}
use Rattle.cs_serve.specs.Telling.{served_note_text, served_notes_text}
use Rattle.cs_serve.specs.Offering.{offers_in}

-- the datagrams of an event
pub outs-noted : (net : Net) (me : NodeId) (signs : List Sign) → offers_in (outs_of net me signs) ≡ map (λ (p : Parcel). (p.to, p.bytes)) (parcels_of net me signs)
outs-noted net me [] = refl
outs-noted net me (Dropped cause ∷ past) = outs-noted net me past
outs-noted net me (Took sender vote x ∷ past) = outs-noted net me past
outs-noted net me (Entered x ∷ past) = outs-noted net me past
outs-noted net me (Viewed slot view ∷ past) = outs-noted net me past
outs-noted net me (Headed number head ∷ past) = outs-noted net me past
outs-noted net me (Kept index checkpoint ∷ past) = outs-noted net me past
outs-noted net me (Did slot place entry effect ∷ past) = outs-noted net me past
outs-noted net me (Sent to message ∷ past) =
    let bytes = sealed_by_net net me to message in
    let out : Out = record { to = to; bytes = bytes } in
    let parcel : Parcel = record { from = me; to = to; bytes = bytes; arrived = false } in
    map-append (λ (o : Out). (o.to, o.bytes)) (outs_of net me past) (out ∷ [])
    ∙ ap (λ (offers : Offers). offers ++ (to, bytes) ∷ []) (outs-noted net me past)
    ∙ sym (map-append (λ (p : Parcel). (p.to, p.bytes)) (parcels_of net me past) (parcel ∷ []))

pub text-push : (me : NodeId) (notes : List Note) (n : Note) → served_notes_text me (notes ++ n ∷ []) ≡ served_notes_text me notes ++ served_note_text me n
text-push me notes n = flat_map-append (served_note_text me) notes (n ∷ []) ∙ ap (λ bytes. served_notes_text me notes ++ bytes) (append-nil (served_note_text me n))

-- a note at a place fits
pub fits-at : (notes : List Note) (k : ℕ) (n : Note) → NotesFit notes → k < length notes → n ≡ get_or notes k n → NoteFits n
fits-at [] k n fit within is = absurd (omega arith)
fits-at (m ∷ notes) zero n fit within is = subst NoteFits (sym is) fit.0
fits-at (m ∷ notes) (suc k) n fit within is = fits-at notes k n fit.1 (omega arith) is

effect-same : (effect : Shard.Effect) → effect_of (effect_from effect) ≡ effect
effect-same (Shard.Voted Shard.Commit) = refl
effect-same (Shard.Voted Shard.Abort) = refl
effect-same Shard.Accepted = refl
effect-same Shard.Aborted = refl
effect-same Shard.Skipped = refl
effect-same Shard.Void = refl

-- the lines of an event, where sessions are named by their digests
module _ (setup : Setup) (digests : (x : Session) → digest_of setup x ≡ digest_of_session x) (me : NodeId) where
  plain : (past : List Sign) → served_notes_text me (notes_of past) ≡ sign_lines setup false me past → served_notes_text me (notes_of past) ≡ sign_lines setup false me past ++ []
  plain past is = is ∙ sym (append-nil (sign_lines setup false me past))

  pub lines-noted : (signs : List Sign) → served_notes_text me (notes_of signs) ≡ sign_lines setup false me signs
  lines-noted [] = refl
  lines-noted (Dropped cause ∷ past) = text-push me (notes_of past) (note.Dropped cause) ∙ ap (λ bytes. bytes ++ []) (lines-noted past)
  lines-noted (Viewed slot view ∷ past) = text-push me (notes_of past) (note.Viewed slot view) ∙ ap (λ bytes. bytes ++ []) (lines-noted past)
  lines-noted (Headed number head ∷ past) =
      text-push me (notes_of past) (note.Headed number head) ∙ ap (λ bytes. bytes ++ head_line me number head) (lines-noted past)
  lines-noted (Kept index checkpoint ∷ past) = plain past (lines-noted past)
  lines-noted (Took sender vote x ∷ past) = plain past (lines-noted past)
  lines-noted (Entered x ∷ past) = plain past (lines-noted past)
  lines-noted (Sent to message ∷ past) = plain past (lines-noted past)
  lines-noted (Did slot place entry effect ∷ past) =
      text-push me (notes_of past) (note.Executed slot place entry (effect_from effect))
      ∙ ap (λ bytes. bytes ++ served_note_text me (note.Executed slot place entry (effect_from effect))) (lines-noted past)
      ∙ ap (λ e. sign_lines setup false me past ++ slot_line me slot (digest_of_session (session_in entry)) e) (effect-same effect)
      ∙ ap (λ d. sign_lines setup false me past ++ slot_line me slot d effect) (sym (digests (session_in entry)))
