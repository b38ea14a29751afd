-- The laws of the forms of entries.
use Rattle.std.proofs.Common.{◌≡◌, ℕ, zero, suc, ◌≤◌, ◌++◌, List, [], ◌∷◌, length, Some, None, refl, ap, subst, arith}
use Rattle.std.specs.List.{AllByRecursion}
use Rattle.cs_base.specs.declared.limits.TheConstants.{MOST_ENTRY, MOST_ACTIONS, MOST_BATCH}
use Rattle.cs_base.specs.declared.version.Version.{Version}
use Rattle.cs_base.specs.declared.version.Version.TheVariants.{One, Two}
use Rattle.cs_base.specs.Fields.{IsBytes, IsForm, Splits, counted, Found, ◌<$>◌, some_at}
use Rattle.cs_base.proofs.Forms.{some_of, mapped_of, within_of, weaker_form}
use Rattle.cs_tx_value.specs.Encoding.{AtMost}
use Rattle.cs_tx_value.specs.Kinds.{kinds_at}
use Rattle.cs_tx_value.specs.laws.Kinds.{kinds_form, takes_part, part_kinded, Kinded}
use Rattle.cs_tx_types.specs.declared.action.Action.{Action}
use Rattle.cs_tx_types.specs.declared.entry.Entry.{Entry}
use Rattle.cs_tx_types.specs.Session.{action_encoding, ActionFits}
use Rattle.cs_tx_types.specs.Reading.{action_at}
use Rattle.cs_tx_types.specs.Entry.{encoding_alone, entry_encoding, entry_limit, BatchFits, EntryFits, entry_of, entry_alone, alone_at, batch_kind_at, batch_at, entry_at}
use Rattle.cs_tx_types.specs.laws.Session.{action_form, action_short}

-- ---- of one action

alone_takes : (bytes : List ℕ) (e : Entry) (rest : List ℕ) → IsBytes bytes → alone_at bytes ≡ Some (e, rest)
    → Splits bytes (entry_encoding One e) rest × EntryFits One e
alone_takes bytes e rest fits is = go (action_at bytes) refl is
  where
    go : (o : Found Action) → action_at bytes ≡ o → (entry_alone <$> o) ≡ Some (e, rest)
        → Splits bytes (entry_encoding One e) rest × EntryFits One e
    go None found h = absurd cc
    go (Some p) found h =
        let t = action_form.takes bytes p.0 p.1 fits found in
        let same : ◌≡◌ {A = Entry × List ℕ} (entry_alone p.0, p.1) (e, rest) = cc in
        subst (λ (q : Entry × List ℕ). Splits bytes (entry_encoding One q.0) q.1 × EntryFits One q.0) same
        (t.0, (refl, (t.1, tt)))

alone_again : (actions : List Action) (rest : List ℕ) → length actions ≡ 1 → AllByRecursion ActionFits actions
    → alone_at (encoding_alone actions ++ rest) ≡ Some (entry_of actions, rest)
alone_again [] rest one fits = absurd (omega (arith, one))
alone_again (action ∷ []) rest one fits =
    ap (λ (o : Found Action). entry_alone <$> o) (action_form.again action rest fits.0)
alone_again (action ∷ next ∷ more) rest one fits = absurd (omega (arith, one))

-- ---- batches

abbrev BatchParts : Entry → Type 0
BatchParts e = (1 ≤ length e.actions) × AtMost MOST_ACTIONS ActionFits e.actions

actions_form : IsForm (λ actions. counted action_encoding actions)
    (λ actions. (1 ≤ length actions) × AtMost MOST_ACTIONS ActionFits actions) (some_at MOST_ACTIONS action_at)
actions_form = some_of action_form MOST_ACTIONS (omega arith)

batch_takes : (kind : ℕ) (bytes : List ℕ) (e : Entry) (rest : List ℕ) → IsBytes bytes
    → batch_kind_at kind bytes ≡ Some (e, rest) → Splits (kind ∷ bytes) (entry_encoding Two e) rest × BatchParts e
batch_takes zero bytes e rest fits is = absurd cc
batch_takes (suc zero) bytes e rest fits is = absurd cc
batch_takes (suc (suc zero)) bytes e rest fits is =
    takes_part (entry_encoding Two) BatchParts batch_kind_at actions_form entry_of 2 (λ actions. refl) (λ actions h. h)
    bytes e rest fits is
batch_takes (suc (suc (suc kind))) bytes e rest fits is = absurd cc

batch_again : (e : Entry) (rest : List ℕ) → BatchParts e → Kinded (entry_encoding Two) batch_kind_at e rest
batch_again e rest fits =
    part_kinded (entry_encoding Two) BatchParts batch_kind_at actions_form entry_of 2 (omega arith) (λ actions. refl)
    (λ bytes. refl) e.actions rest fits

batch_form : IsForm (entry_encoding Two) BatchFits batch_at
unfolding batch_at
batch_form =
    weaker_form (entry_encoding Two) (λ e. BatchParts e × (length (entry_encoding Two e) ≤ MOST_BATCH)) batch_at
    (within_of (kinds_form (entry_encoding Two) BatchParts batch_kind_at batch_takes batch_again) MOST_BATCH) BatchFits
    (λ e h. record { some = h.0.0; actions = h.0.1; small = h.1 }) (λ e h. ((h.some, h.actions), h.small))

-- ---- of either version

pub entry_form : (version : Version) → IsForm (entry_encoding version) (EntryFits version) (entry_at version)
entry_form One = record {
  takes = alone_takes;
  again = λ e rest fits. alone_again e.actions rest fits.0 fits.1;
}
entry_form Two = batch_form

alone_short : (actions : List Action) → AllByRecursion ActionFits actions → length (encoding_alone actions) ≤ MOST_ENTRY
alone_short [] fits = omega arith
alone_short (action ∷ more) fits = action_short action fits.0

pub entry_short : (version : Version) (e : Entry) → EntryFits version e → length (entry_encoding version e) ≤ entry_limit version
entry_short One e fits = alone_short e.actions fits.1
entry_short Two e fits = fits.small
