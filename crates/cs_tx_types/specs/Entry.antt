-- The encodings and limits of entries, in either version.
use Rattle.std.specs.Prelude.{ℕ, zero, suc, ◌≡◌, ◌≤◌, List, [], ◌∷◌, length, None}
use Rattle.std.specs.List.{AllByRecursion}
use Rattle.cs_base.specs.declared.limits.TheConstants.{MOST_ENTRY, MOST_ACTIONS, MOST_BATCH}
use Rattle.cs_base.specs.declared.version.Version.{Version}
use Rattle.cs_base.specs.declared.version.Version.TheVariants.{One, Two}
use Rattle.cs_base.specs.Fields.{counted, Found, ◌<$>◌, some_at, within_at}
use Rattle.cs_tx_value.specs.Encoding.{AtMost}
use Rattle.cs_tx_value.specs.Kinds.{kinds_at}
use Rattle.cs_tx_types.specs.declared.action.Action.{Action}
use Rattle.cs_tx_types.specs.declared.entry.Entry.{Entry}
use Rattle.cs_tx_types.specs.Session.{action_encoding, ActionFits}
use Rattle.cs_tx_types.specs.Reading.{action_at}

-- of one action
abbrev pub encoding_alone : List Action → List ℕ
encoding_alone [] = []
encoding_alone (action ∷ more) = action_encoding action

-- in version 1 an entry is written as its action; in version 2 a 2, the number of its actions, and the actions
abbrev pub entry_encoding : Version → Entry → List ℕ
entry_encoding One e = encoding_alone e.actions
entry_encoding Two e = 2 ∷ counted action_encoding e.actions

abbrev pub entry_limit : Version → ℕ
entry_limit One = MOST_ENTRY
entry_limit Two = MOST_BATCH

pub record BatchFits (e : Entry) : Type 0 where
  pub some : 1 ≤ length e.actions
  pub actions : AtMost MOST_ACTIONS ActionFits e.actions
  pub small : length (entry_encoding Two e) ≤ MOST_BATCH

abbrev pub EntryFits : Version → Entry → Type 0
EntryFits One e = (length e.actions ≡ 1) × AllByRecursion ActionFits e.actions
EntryFits Two e = BatchFits e

-- ---- what stands at the front of a list of bytes

abbrev pub entry_of : List Action → Entry
entry_of actions = record { actions = actions }

abbrev pub entry_alone : Action → Entry
entry_alone action = entry_of (action ∷ [])

abbrev pub alone_at : List ℕ → Found Entry
alone_at bytes = entry_alone <$> action_at bytes

abbrev pub batch_kind_at : ℕ → List ℕ → Found Entry
batch_kind_at zero bytes = None
batch_kind_at (suc zero) bytes = None
batch_kind_at (suc (suc zero)) bytes = entry_of <$> some_at MOST_ACTIONS action_at bytes
batch_kind_at (suc (suc (suc kind))) bytes = None

unfoldable pub batch_at : List ℕ → Found Entry
batch_at = within_at MOST_BATCH (kinds_at batch_kind_at)

abbrev pub entry_at : Version → List ℕ → Found Entry
entry_at One = alone_at
entry_at Two = batch_at
