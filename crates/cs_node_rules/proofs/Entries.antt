-- What is read of the bytes of a proposal has an encoding, and what is proposed is read as it was.
use Rattle.std.proofs.Common.{◌≡◌, ℕ, ◌≤◌, ◌<◌, Bool, true, false, if◌then◌else◌, List, [], ◌∷◌, length, Option, Some, None, refl, ap, sym, ◌∙◌, arith}
use Rattle.std.specs.List.{AllByRecursion}
use Rattle.std.proofs.lemmas.List.{length-append}
use Rattle.cs_base.specs.Fields.{IsBytes, whole_at}
use Rattle.cs_base.specs.declared.node_id.NodeId.{NodeId}
use Rattle.cs_base.specs.declared.version.Version.{Version}
use Rattle.cs_base.specs.declared.version.Version.TheVariants.{One, Two}
use Rattle.cs_base.proofs.Forms.{whole-takes, whole-again}
use Rattle.cs_tx_types.specs.declared.action.Action.{Action}
use Rattle.cs_tx_types.specs.declared.action.Action.TheVariants.{Prepare}
use Rattle.cs_tx_types.specs.declared.entry.Entry.{Entry}
use Rattle.cs_tx_types.specs.Session.{action_encoding, ActionFits, session_in}
use Rattle.cs_tx_types.specs.Entry.{entry_encoding, EntryFits, entry_alone, entry_at}
use Rattle.cs_tx_types.specs.laws.Session.{action_short}
use Rattle.cs_tx_types.specs.laws.Entry.{entry_form}
use Rattle.cs_wire_message.proofs.Spelled.{entry-bytes}
use Rattle.cs_order.specs.declared.proposed.Proposed.{Proposed}
use Rattle.cs_order.specs.Digests.{are_bytes}
use Rattle.cs_order.specs.laws.Digests.{bytes-pass, bytes-are}
use Rattle.cs_node_state.specs.Setup.{Setup}
use Rattle.cs_node_state.specs.Bench.{Bench, executed}
use Rattle.cs_node_rules.specs.Signs.{ran_signs, actions_signs}
use Rattle.cs_node_rules.specs.Deployment.{proposed_of, entry_read, no_session, entry_or_void, entry_in}
use Rattle.cs_node_rules.proofs.Void.{nothing_fits}

-- ---- the actions of an entry that has an encoding

pub some-action : (version : Version) (e : Entry) → EntryFits version e → 0 < length e.actions
some-action One e fits = omega (arith, fits.0)
some-action Two e fits = omega (arith, fits.some)

pub actions-fit : (version : Version) (e : Entry) → EntryFits version e → AllByRecursion ActionFits e.actions
actions-fit One e fits = fits.1
actions-fit Two e fits = fits.actions.1

pub few-actions : (version : Version) (e : Entry) → EntryFits version e → length e.actions ≤ 32
few-actions One e fits = omega (arith, fits.0)
few-actions Two e fits = omega (arith, fits.actions.0)

-- in version 1 there is one
pub only-action : (actions : List Action) → length actions ≡ 1 → (action : Action) × (actions ≡ action ∷ [])
only-action [] one = absurd (omega (arith, one))
only-action (action ∷ []) one = (action, refl)
only-action (action ∷ next ∷ more) one = absurd (omega (arith, one))

pub alone-fits : (version : Version) (action : Action) → ActionFits action → EntryFits version (entry_alone action)
alone-fits One action fits = (refl, (fits, tt))
alone-fits Two action fits = record {
  some = omega arith;
  actions = (omega arith, (fits, tt));
  small = omega (arith, action_short action fits, length-append (action_encoding action) []);
}

-- the signs of one action by itself
pub alone-signs : (setup : Setup) (me : NodeId) (b : Bench) (slot : ℕ) (actions : List Action) (action : Action) → actions ≡ action ∷ []
    → actions_signs setup me b slot 0 actions ≡ ran_signs setup me b slot 0 action (session_in action) (executed setup me.shard b action)
alone-signs setup me b slot actions action is = ap (actions_signs setup me b slot 0) is

-- ---- proposals

module _ (version : Version) where
  pub read-fits : (p : Proposed) (entry : Entry) → entry_read version p ≡ Some entry → EntryFits version entry
  read-fits p entry h = by_bytes (are_bytes p.bytes) refl h
    where
      by_bytes : (b : Bool) → are_bytes p.bytes ≡ b → (if b then whole_at (entry_at version) p.bytes else None) ≡ Some entry → EntryFits version entry
      by_bytes true pass k =
          (whole-takes (entry_encoding version) (EntryFits version) (entry_at version) (entry_form version) p.bytes entry (bytes-are p.bytes pass) k).0
      by_bytes false pass k = (let q : ◌≡◌ {A = Option Entry} None (Some entry) = k in cc)

  pub read-bytes : (p : Proposed) → IsBytes p.bytes → whole_at (entry_at version) p.bytes ≡ entry_read version p
  read-bytes p are = ap (λ b. if b then whole_at (entry_at version) p.bytes else None) (sym (bytes-pass p.bytes are))

  pub read-again : (entry : Entry) → EntryFits version entry → entry_read version (proposed_of version entry) ≡ Some entry
  read-again entry fits =
      ap (λ b. if b then whole_at (entry_at version) (entry_encoding version entry) else None) (bytes-pass (entry_encoding version entry) (entry-bytes version entry fits))
      ∙ whole-again (entry_encoding version) (EntryFits version) (entry_at version) (entry_form version) entry fits

  -- what is no entry stands for one that has an encoding
  pub in-fits : (p : Proposed) → EntryFits version (entry_in version p)
  in-fits p = by_read (entry_read version p) refl
    where
      by_read : (o : Option Entry) → entry_read version p ≡ o → EntryFits version (entry_or_void o)
      by_read (Some entry) is = read-fits p entry is
      by_read None is = alone-fits version (Prepare no_session) nothing_fits

  pub in-again : (entry : Entry) → EntryFits version entry → entry_in version (proposed_of version entry) ≡ entry
  in-again entry fits = ap entry_or_void (read-again entry fits)
