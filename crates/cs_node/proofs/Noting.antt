-- Notes of executions, and that their entries have encodings.
use Rattle.std.proofs.Common.{◌≡◌, List, [], ◌∷◌, ◌++◌, refl, sym, subst}
use Rattle.cs_ledger.specs.Table as Shard
use Rattle.cs_tx_types.specs.declared.effect.Effect.{Effect}
use Rattle.cs_tx_types.specs.declared.effect.Effect.TheVariants.{Voted, Accepted, Aborted, Skipped, Void}
use Rattle.cs_table.specs.Effects.{effect_of}
use Rattle.cs_tx_types.specs.declared.vote.Vote.TheVariants.{Commit, Abort}
use Rattle.cs_base.specs.declared.version.Version.TheVariants.{One}
use Rattle.cs_wire_message.specs.Message.{MessageFits}
use Rattle.cs_node.specs.declared.draft.Note.{Note}
use Rattle.cs_node.specs.declared.draft.Said.{Said}
use Rattle.cs_node.specs.Drafts.{Draft}
use Rattle.cs_node_state.specs.Bench.{effect_from}
use Rattle.cs_node.specs.Notes.{NoteFits, NotesFit, AllSaidFit, DraftFits}

pub effect-again : (effect : Effect) (seen : Shard.Effect) → effect_of effect ≡ seen → effect ≡ effect_from seen
effect-again effect seen is = let P : Shard.Effect → Type 0 = λ e. effect ≡ effect_from e in subst P is (back effect)
  where
    back : (e : Effect) → e ≡ effect_from (effect_of e)
    back (Voted Commit) = refl
    back (Voted Abort) = refl
    back Accepted = refl
    back Aborted = refl
    back Skipped = refl
    back Void = refl

notes-push : (notes : List Note) (note : Note) → NotesFit notes → NoteFits note → NotesFit (notes ++ note ∷ [])
notes-push [] note fits fit = (fit, tt)
notes-push (n ∷ notes) note fits fit = (fits.0, notes-push notes note fits.1 fit)

noted-fits : (old new : List Note) (note : Note) → new ≡ old ++ note ∷ [] → NoteFits note → NotesFit old → NotesFit new
noted-fits old new note is fit fits = subst NotesFit (sym is) (notes-push old note fits fit)

-- a note more
pub draft-noted : (old new : Draft) (note : Note) → new.notes ≡ old.notes ++ note ∷ [] → new.said ≡ old.said → NoteFits note → DraftFits old → DraftFits new
draft-noted old new note is same fit fits = record {
  notes = noted-fits old.notes new.notes note is fit fits.notes;
  said = subst AllSaidFit (sym same) fits.said;
}

said-push : (all : List Said) (said : Said) → AllSaidFit all → MessageFits One said.message → AllSaidFit (all ++ said ∷ [])
said-push [] said fits fit = (fit, tt)
said-push (s ∷ all) said fits fit = (fits.0, said-push all said fits.1 fit)

-- a message more
pub draft-said : (old new : Draft) (said : Said) → new.said ≡ old.said ++ said ∷ [] → new.notes ≡ old.notes → MessageFits One said.message → DraftFits old → DraftFits new
draft-said old new said is same fit fits = record {
  notes = subst NotesFit (sym same) fits.notes;
  said = subst AllSaidFit (sym is) (said-push old.said said fits.said fit);
}
