-- In version 1 the first executions of a shard are of its slots, one of each.
use Rattle.std.proofs.Common.{◌≡◌, inl, inr, ℕ, suc, ◌==◌, Bool, true, false, if◌then◌else◌, List, [], ◌∷◌, Option, Some, None, arith, refl, sym, ap, subst, ◌∙◌}
use Rattle.std.proofs.lemmas.Bool.{eqb-true}
use Rattle.std.specs.Prelude.{slice_get}
use Rattle.cs_base.specs.declared.version.Version.{Version}
use Rattle.cs_base.specs.declared.version.Version.TheVariants.{One}
use Rattle.cs_tx_types.specs.declared.action.Action.{Action}
use Rattle.cs_tx_types.specs.declared.entry.Entry.{Entry}
use Rattle.cs_tx_types.specs.Entry.{EntryFits}
use Rattle.cs_node_state.specs.Setup.{Setup}
use Rattle.cs_node_law.proofs.Actions.{got-alone}
use Rattle.cs_node_rules.specs.World.{Execution, count_executed, newest_of}
use Rattle.cs_world_law.specs.Steps.{Follows, AllComputed}

module _ (setup : Setup) (edition : setup.version ≡ One) where
  -- a place of an entry of version 1
  first-place : (whole : Entry) (place : ℕ) (action : Action) → EntryFits setup.version whole → slice_get whole.actions place ≡ Some action → place ≡ 0
  first-place whole place action fits within =
      let alone : EntryFits One whole = subst (λ (v : Version). EntryFits v whole) edition fits in
      got-alone whole.actions place action alone.0 within

  -- so many slots were executed, up to the newest
  abbrev IsCounted : ℕ → Option Execution → Type 0
  IsCounted count None = count ≡ 0
  IsCounted count (Some e) = count ≡ suc e.slot

  follows-counted : (slot place count : ℕ) (newest : Option Execution) → place ≡ 0 → Follows slot place newest → IsCounted count newest → slot ≡ count
  follows-counted slot place count None first f is = f.0 ∙ sym is
  follows-counted slot place count (Some e) first f is = elim f [
    | inl same ↦ absurd (omega (arith, same.1, first))
    | inr next ↦ next.0 ∙ sym is
  ]

  counted : (firsts : List Execution) (shard : ℕ) → AllComputed setup firsts → IsCounted (count_executed shard firsts) (newest_of shard firsts)
  counted [] shard computed = refl
  counted (e ∷ earlier) shard computed = go (e.shard == shard) refl (counted earlier shard computed.1)
    where
      go : (b : Bool) → (e.shard == shard) ≡ b → IsCounted (count_executed shard earlier) (newest_of shard earlier)
          → IsCounted (if b then suc (count_executed shard earlier) else count_executed shard earlier) (if b then Some e else newest_of shard earlier)
      go false other before = before
      go true here before =
          let same = eqb-true e.shard shard here in
          let first = first-place computed.0.whole e.place e.entry computed.0.fits computed.0.within in
          let follows : Follows e.slot e.place (newest_of shard earlier) = subst (λ (k : ℕ). Follows e.slot e.place (newest_of k earlier)) same computed.0.next in
          ap suc (sym (follows-counted e.slot e.place (count_executed shard earlier) (newest_of shard earlier) first follows before))

  -- so a first execution is of the next slot of its shard
  pub slot-counted : (e : Execution) (earlier : List Execution) → AllComputed setup (e ∷ earlier) → e.slot ≡ count_executed e.shard earlier
  slot-counted e earlier computed =
      let first = first-place computed.0.whole e.place e.entry computed.0.fits computed.0.within in
      follows-counted e.slot e.place (count_executed e.shard earlier) (newest_of e.shard earlier) first computed.0.next (counted earlier e.shard computed.1)
