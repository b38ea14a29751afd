-- What notes tell is what the signs of an event say.
use Rattle.std.proofs.Common.{◌≡◌, ℕ, zero, suc, ◌<◌, Bool, true, cond, bytes_eq, List, [], ◌∷◌, ◌++◌, length, get_or, refl, sym, ap, subst, ◌∙◌, append-nil, arith}
use Rattle.std.proofs.lemmas.Grind.{flat_map-append}
use Rattle.std.proofs.lemmas.Slice.Eq.{bytes_eq-Decides}
use Rattle.cs_ledger.specs.Ledger.{Bytes}
use Rattle.cs_base.specs.declared.config.Config.{Config}
use Rattle.cs_base.specs.declared.node_id.NodeId.{NodeId}
use Rattle.cs_ledger.specs.Table as Shard
use Rattle.cs_node_state.specs.Setup.{Setup, digest_of}
use Rattle.cs_tx_types.specs.Session.{session_in}
use Rattle.cs_node_rules.specs.Net.{Net, sealed_by_net}
use Rattle.cs_node_rules.specs.Signs.{Sign, Dropped, Took, Entered, Viewed, Did, Headed, Kept, Sent}
use Rattle.cs_replay_rules.specs.Aborts.{with_aborted_digest, aborted_after, aborted_by}
use Rattle.cs_node_rules.specs.World.{Execution, with_first_execution, firsts_after}
use Rattle.cs_node_rules.specs.Lines.{parcels_of, slot_line, drop_line, view_line, head_line, if_traced, sign_lines}
use Rattle.cs_tx.specs.Digest.{digest_of_session}
use Rattle.cs_tx_types.specs.declared.action.Action.{Action}
use Rattle.cs_tx_types.specs.declared.action.Action.TheVariants.{Prepare, Decide}
use Rattle.cs_tx_types.specs.declared.session.Session.{Session}
use Rattle.cs_table.specs.Effects.{effect_of}
use Rattle.cs_wire.specs.declared.input.Out.{Out}
use Rattle.cs_node.specs.declared.draft.Note.{Note}
use Rattle.cs_node.specs.declared.draft.Note.TheVariants as note
use Rattle.cs_node_state.specs.Bench.{effect_from}
use Rattle.cs_node.specs.Notes.{NoteFits, NotesFit, notes_of, outs_of}
use Rattle.cs_replay_play.specs.Kept.{Deploys, with_abort}
use Rattle.cs_replay_play.specs.Told.{note_text, notes_text, note_first, noted_firsts, note_aborted, noted_aborted}
use Rattle.cs_replay_play.specs.Ends.{parcel_from, parcels_from}
use Rattle.std.proofs.lemmas.List.{map-append}

effect-same : (effect : Shard.Effect) → effect_of (effect_from effect) ≡ effect
effect-same (Shard.Voted Shard.Commit) = refl
effect-same (Shard.Voted Shard.Abort) = refl
effect-same Shard.Accepted = refl
effect-same Shard.Aborted = refl
effect-same Shard.Skipped = refl
effect-same Shard.Void = refl

pub firsts-push : (shard : ℕ) (notes : List Note) (n : Note) (firsts : List Execution) → noted_firsts shard (notes ++ n ∷ []) firsts ≡ note_first shard n (noted_firsts shard notes firsts)
firsts-push shard [] n firsts = refl
firsts-push shard (m ∷ notes) n firsts = firsts-push shard notes n (note_first shard m firsts)

pub text-push : (traced : Bool) (me : NodeId) (notes : List Note) (n : Note) → notes_text traced me (notes ++ n ∷ []) ≡ notes_text traced me notes ++ note_text traced me n
text-push traced me notes n = flat_map-append (note_text traced me) notes (n ∷ []) ∙ ap (λ bytes. notes_text traced me notes ++ bytes) (append-nil (note_text traced me n))

-- the first executions after an event
pub firsts-noted : (shard : ℕ) (firsts : List Execution) (signs : List Sign) → noted_firsts shard (notes_of signs) firsts ≡ firsts_after shard firsts signs
firsts-noted shard firsts [] = refl
firsts-noted shard firsts (Dropped cause ∷ past) = firsts-push shard (notes_of past) (note.Dropped cause) firsts ∙ firsts-noted shard firsts past
firsts-noted shard firsts (Took sender vote x ∷ past) = firsts-noted shard firsts past
firsts-noted shard firsts (Entered x ∷ past) = firsts-noted shard firsts past
firsts-noted shard firsts (Sent to message ∷ past) = firsts-noted shard firsts past
firsts-noted shard firsts (Viewed slot view ∷ past) = firsts-push shard (notes_of past) (note.Viewed slot view) firsts ∙ firsts-noted shard firsts past
firsts-noted shard firsts (Headed number head ∷ past) = firsts-push shard (notes_of past) (note.Headed number head) firsts ∙ firsts-noted shard firsts past
firsts-noted shard firsts (Kept index checkpoint ∷ past) = firsts-noted shard firsts past
firsts-noted shard firsts (Did slot place entry effect ∷ past) =
    firsts-push shard (notes_of past) (note.Executed slot place entry (effect_from effect)) firsts
    ∙ ap (λ e. with_first_execution shard (Did slot place entry e) (noted_firsts shard (notes_of past) firsts)) (effect-same effect)
    ∙ ap (λ earlier. with_first_execution shard (Did slot place entry effect) earlier) (firsts-noted shard firsts past)

pub aborted-push : (notes : List Note) (n : Note) (aborted : List Bytes) → noted_aborted (notes ++ n ∷ []) aborted ≡ note_aborted n (noted_aborted notes aborted)
aborted-push [] n aborted = refl
aborted-push (m ∷ notes) n aborted = aborted-push notes n (note_aborted m aborted)

bytes-same : (d : Bytes) → bytes_eq d d ≡ true
bytes-same d = (bytes_eq-Decides d d).1 refl

-- the sessions on which an abort was decided, after an event
module _ (config : Config) (setup : Setup) (deploys : Deploys config setup) where
  -- a decision abort on a session
  abort-is : (x : Session) (aborted : List Bytes) → cond (bytes_eq (digest_of setup x) (digest_of setup x)) (with_aborted_digest (digest_of setup x) aborted) aborted ≡ with_aborted_digest (digest_of_session x) aborted
  abort-is x aborted =
      ap (λ b. cond b (with_aborted_digest (digest_of setup x) aborted) aborted) (bytes-same (digest_of setup x))
      ∙ ap (λ d. with_aborted_digest d aborted) (deploys.session x)

  abort-after : (entry : Action) (effect : Shard.Effect) (aborted : List Bytes) → aborted_after setup entry effect aborted ≡ with_abort entry effect aborted
  abort-after (Prepare x) (Shard.Voted Shard.Commit) aborted = refl
  abort-after (Prepare x) (Shard.Voted Shard.Abort) aborted = abort-is x aborted
  abort-after (Prepare x) Shard.Accepted aborted = refl
  abort-after (Prepare x) Shard.Aborted aborted = refl
  abort-after (Prepare x) Shard.Skipped aborted = refl
  abort-after (Prepare x) Shard.Void aborted = refl
  abort-after (Decide vote x) (Shard.Voted given) aborted = refl
  abort-after (Decide vote x) Shard.Accepted aborted = refl
  abort-after (Decide vote x) Shard.Aborted aborted = abort-is x aborted
  abort-after (Decide vote x) Shard.Skipped aborted = refl
  abort-after (Decide vote x) Shard.Void aborted = refl

  pub aborted-noted : (aborted : List Bytes) (signs : List Sign) → noted_aborted (notes_of signs) aborted ≡ aborted_by setup signs aborted
  aborted-noted aborted [] = refl
  aborted-noted aborted (Dropped cause ∷ past) = aborted-push (notes_of past) (note.Dropped cause) aborted ∙ aborted-noted aborted past
  aborted-noted aborted (Took sender vote x ∷ past) = aborted-noted aborted past
  aborted-noted aborted (Entered x ∷ past) = aborted-noted aborted past
  aborted-noted aborted (Sent to message ∷ past) = aborted-noted aborted past
  aborted-noted aborted (Viewed slot view ∷ past) = aborted-push (notes_of past) (note.Viewed slot view) aborted ∙ aborted-noted aborted past
  aborted-noted aborted (Headed number head ∷ past) = aborted-push (notes_of past) (note.Headed number head) aborted ∙ aborted-noted aborted past
  aborted-noted aborted (Kept index checkpoint ∷ past) = aborted-noted aborted past
  aborted-noted aborted (Did slot place entry effect ∷ past) =
      aborted-push (notes_of past) (note.Executed slot place entry (effect_from effect)) aborted
      ∙ ap (λ e. with_abort entry e (noted_aborted (notes_of past) aborted)) (effect-same effect)
      ∙ ap (λ earlier. with_abort entry effect earlier) (aborted-noted aborted past)
      ∙ sym (abort-after entry effect (aborted_by setup past aborted))

-- the lines of an event
module _ (config : Config) (setup : Setup) (deploys : Deploys config setup) (traced : Bool) (me : NodeId) where
  pub text-noted : (signs : List Sign) → notes_text traced me (notes_of signs) ≡ sign_lines setup traced me signs
  text-noted [] = refl
  text-noted (Dropped cause ∷ past) =
      text-push traced me (notes_of past) (note.Dropped cause) ∙ ap (λ bytes. bytes ++ if_traced traced (drop_line me cause)) (text-noted past)
  text-noted (Viewed slot view ∷ past) =
      text-push traced me (notes_of past) (note.Viewed slot view) ∙ ap (λ bytes. bytes ++ if_traced traced (view_line me slot view)) (text-noted past)
  text-noted (Headed number head ∷ past) =
      text-push traced me (notes_of past) (note.Headed number head) ∙ ap (λ bytes. bytes ++ head_line me number head) (text-noted past)
  text-noted (Kept index checkpoint ∷ past) = text-noted past ∙ sym (append-nil (sign_lines setup traced me past))
  text-noted (Took sender vote x ∷ past) = text-noted past ∙ sym (append-nil (sign_lines setup traced me past))
  text-noted (Entered x ∷ past) = text-noted past ∙ sym (append-nil (sign_lines setup traced me past))
  text-noted (Sent to message ∷ past) = text-noted past ∙ sym (append-nil (sign_lines setup traced me past))
  text-noted (Did slot place entry effect ∷ past) =
      text-push traced me (notes_of past) (note.Executed slot place entry (effect_from effect))
      ∙ ap (λ bytes. bytes ++ note_text traced me (note.Executed slot place entry (effect_from effect))) (text-noted past)
      ∙ ap (λ e. sign_lines setup traced me past ++ slot_line me slot (digest_of_session (session_in entry)) e) (effect-same effect)
      ∙ ap (λ d. sign_lines setup traced me past ++ slot_line me slot d effect) (sym (deploys.session (session_in entry)))

-- what an event sent
pub parcels-noted : (net : Net) (me : NodeId) (signs : List Sign) → parcels_from me (outs_of net me signs) ≡ parcels_of net me signs
parcels-noted net me [] = refl
parcels-noted net me (Dropped cause ∷ past) = parcels-noted net me past
parcels-noted net me (Took sender vote x ∷ past) = parcels-noted net me past
parcels-noted net me (Entered x ∷ past) = parcels-noted net me past
parcels-noted net me (Viewed slot view ∷ past) = parcels-noted net me past
parcels-noted net me (Headed number head ∷ past) = parcels-noted net me past
parcels-noted net me (Kept index checkpoint ∷ past) = parcels-noted net me past
parcels-noted net me (Did slot place entry effect ∷ past) = parcels-noted net me past
parcels-noted net me (Sent to message ∷ past) =
    let out : Out = record { to = to; bytes = sealed_by_net net me to message } in
    map-append (parcel_from me) (outs_of net me past) (out ∷ [])
    ∙ ap (λ parcels. parcels ++ parcel_from me out ∷ []) (parcels-noted net me past)

-- a note at a place fits
pub fits-at : (notes : List Note) (k : ℕ) (n : Note) → NotesFit notes → k < length notes → n ≡ get_or notes k n → NoteFits n
fits-at [] k n fit within is = absurd (omega arith)
fits-at (m ∷ notes) zero n fit within is = subst NoteFits (sym is) fit.0
fits-at (m ∷ notes) (suc k) n fit within is = fits-at notes k n fit.1 (omega arith) is
