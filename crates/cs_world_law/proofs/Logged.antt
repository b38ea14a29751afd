-- The log that a node keeps for its checkpoints is that of its executions.
use Rattle.std.proofs.Common.{◌≡◌, ℕ, ◌<◌, ◌≤◌, ◌^◌, List, [], ◌∷◌, ◌++◌, length, map, refl, sym, ap, ◌∙◌, arith}
use Rattle.std.specs.Prelude.{All}
use Rattle.std.proofs.lemmas.List.{length_push, map_push, length-map}
use Rattle.std.proofs.lemmas.List.Elements.{All-push}
use Rattle.cs_base.specs.declared.node_id.NodeId.{NodeId}
use Rattle.cs_order.specs.declared.proposed.Proposed.{Proposed}
use Rattle.cs_tx_value.specs.Object.{DigestFits}
use Rattle.cs_tx_types.specs.declared.action.Action.{Action}
use Rattle.cs_tx_types.specs.declared.leaf.Leaf.{Leaf}
use Rattle.cs_base.specs.declared.version.Version.TheVariants.{One}
use Rattle.cs_tx_types.specs.Log.{leaf_encoding, LeafFits}
use Rattle.cs_tx_types.specs.Session.{ActionFits}
use Rattle.cs_check_rules.specs.Chain.{Log, empty_log, with_slot}
use Rattle.cs_check_rules.specs.Root.{root_under}
use Rattle.cs_ledger.specs.Table.{Effect}
use Rattle.cs_node_state.specs.Bench.{executed, effect_from, next_leaf}
use Rattle.cs_node_rules.specs.Signs.{Sign, Dropped, Took, Entered, Viewed, Did, Headed, Kept, Sent}
use Rattle.cs_node_rules.specs.Site.{Mark, In, Ordered, Plain, Site, signs_of}
use Rattle.cs_node_rules.specs.World.{Execution}
use Rattle.cs_node_rules.specs.Ready.{Executed}
use Rattle.cs_node_law.specs.Made.{view_at, log_in, AllMade}
use Rattle.cs_node_law.proofs.Actions.{next-slot}
use Rattle.cs_node_law.proofs.Heads.{root_hashed}
use Rattle.cs_world_law.specs.Steps.{executions_in}
use Rattle.cs_world_law.specs.Shown.{leaf_by, leaves_of}

abbrev pub entry_at : Execution → Action
entry_at e = e.entry

-- ---- executions and their leaves

pub entries-in : (shard : ℕ) (signs : List Sign) → map entry_at (executions_in shard signs) ≡ log_in signs
entries-in shard [] = refl
entries-in shard (Dropped cause ∷ past) = entries-in shard past
entries-in shard (Took sender vote x ∷ past) = entries-in shard past
entries-in shard (Entered x ∷ past) = entries-in shard past
entries-in shard (Viewed slot view ∷ past) = entries-in shard past
entries-in shard (Headed number head ∷ past) = entries-in shard past
entries-in shard (Kept index checkpoint ∷ past) = entries-in shard past
entries-in shard (Sent to message ∷ past) = entries-in shard past
entries-in shard (Did slot place entry effect ∷ past) = ap (λ (l : List Action). entry ∷ l) (entries-in shard past)

pub executions-count : (shard : ℕ) (signs : List Sign) → length (executions_in shard signs) ≡ length (log_in signs)
executions-count shard signs = sym (length-map (executions_in shard signs) entry_at) ∙ ap length (entries-in shard signs)

pub leaf-count : (es : List Execution) → length (leaves_of es) ≡ length es
leaf-count [] = refl
leaf-count (e ∷ earlier) = omega (arith, leaf-count earlier, length_push (leaves_of earlier) (leaf_by e))

module _ {M : Type 0} (site : Site M) (me : NodeId) where
  abbrev pub LogAt : List (Mark M) → Log
  LogAt t = (view_at site me t).bench.log

  -- what stays so with each slot stays so with each mark
  pub by-sign : (P : Log → Type 0) → ((log : Log) (leaf root : List ℕ) → DigestFits root → P log → P (with_slot leaf root log))
      → (sign : Sign) (t : List (Mark M)) → P (LogAt t) → P (LogAt (Plain sign ∷ t))
  by-sign P more (Dropped cause) t h = h
  by-sign P more (Took sender vote x) t h = h
  by-sign P more (Entered x) t h = h
  by-sign P more (Viewed slot view) t h = h
  by-sign P more (Headed number head) t h = h
  by-sign P more (Kept index checkpoint) t h = h
  by-sign P more (Sent to message) t h = h
  by-sign P more (Did slot place entry effect) t h =
      let v = view_at site me t in
      let ran = executed site.setup v.me.shard v.bench entry in
      more v.bench.log (leaf_encoding One (next_leaf v.bench entry ran.effect)) (root_under ran.bench.keys ran.bench.table) (root_hashed _) h

  pub by-slots : (P : Log → Type 0) → P (empty_log me.shard) → ((log : Log) (leaf root : List ℕ) → DigestFits root → P log → P (with_slot leaf root log))
      → (t : List (Mark M)) → P (LogAt t)
  by-slots P start more [] = start
  by-slots P start more (In input ∷ t) = by-slots P start more t
  by-slots P start more (Ordered deed ∷ t) = by-slots P start more t
  by-slots P start more (Plain sign ∷ t) = by-sign P more sign t (by-slots P start more t)

  abbrev pub DoneAt : List (Mark M) → List Execution
  DoneAt t = executions_in me.shard (signs_of t)

  abbrev pub IsAlone : Type 0
  IsAlone = (p : Proposed) → length (site.entry_in p).actions ≡ 1

  -- leaf by leaf, where each entry has one action
  pub leaves-kept : IsAlone → (t : List (Mark M)) → AllMade site me t → (LogAt t).leaves ≡ map (leaf_encoding One) (leaves_of (DoneAt t))
  leaves-kept one [] made = refl
  leaves-kept one (In input ∷ t) made = leaves-kept one t made.1
  leaves-kept one (Ordered deed ∷ t) made = leaves-kept one t made.1
  leaves-kept one (Plain (Dropped cause) ∷ t) made = leaves-kept one t made.1
  leaves-kept one (Plain (Took sender vote x) ∷ t) made = leaves-kept one t made.1
  leaves-kept one (Plain (Entered x) ∷ t) made = leaves-kept one t made.1
  leaves-kept one (Plain (Viewed slot view) ∷ t) made = leaves-kept one t made.1
  leaves-kept one (Plain (Headed number head) ∷ t) made = leaves-kept one t made.1
  leaves-kept one (Plain (Kept index checkpoint) ∷ t) made = leaves-kept one t made.1
  leaves-kept one (Plain (Sent to message) ∷ t) made = leaves-kept one t made.1
  leaves-kept one (Plain (Did slot place entry effect) ∷ t) made =
      let v = view_at site me t in
      let ran = executed site.setup v.me.shard v.bench entry in
      let past = leaves_of (DoneAt t) in
      let now : Execution = record { shard = me.shard; slot = slot; place = place; entry = entry; effect = effect } in
      let before = leaves-kept one t made.1 in
      let next : length v.bench.log.leaves ≡ slot =
      ap length before ∙ length-map past (leaf_encoding One) ∙ leaf-count (DoneAt t) ∙ executions-count me.shard (signs_of t) ∙ sym (next-slot site one v (signs_of t) slot place entry effect made.0) in
      let came : ran.effect ≡ effect = sym made.0.computed in
      let is : next_leaf v.bench entry ran.effect ≡ leaf_by now =
      ap (λ (n : ℕ). let l : Leaf = record { slot = n; place = 0; action = entry; result = effect_from ran.effect } in l) next
      ∙ ap (λ (e : Effect). let l : Leaf = record { slot = slot; place = 0; action = entry; result = effect_from e } in l) came in
      ap (λ (l : List (List ℕ)). l ++ leaf_encoding One (next_leaf v.bench entry ran.effect) ∷ []) before
      ∙ ap (λ (l : Leaf). map (leaf_encoding One) past ++ leaf_encoding One l ∷ []) is
      ∙ sym (map_push (leaf_encoding One) past (leaf_by now))

  -- ---- each of them has an encoding

  abbrev pub AreEntries : List Sign → Type 0
  AreEntries signs = (entry : Action) → Executed signs entry → ActionFits entry

  entries-before : (sign : Sign) (past : List Sign) → AreEntries (sign ∷ past) → AreEntries past
  entries-before sign past all entry e =
      all entry (record { slot = e.slot; place = e.place; effect = e.effect; later = sign ∷ e.later; earlier = e.earlier; split = ap (λ (l : List Sign). sign ∷ l) e.split })

  pub leaves-fit : IsAlone → (t : List (Mark M)) → AllMade site me t → AreEntries (signs_of t) → length (DoneAt t) ≤ 2 ^ 64 → All (LeafFits One) (leaves_of (DoneAt t))
  leaves-fit one [] made all few = λ i d below. absurd (omega (arith, below))
  leaves-fit one (In input ∷ t) made all few = leaves-fit one t made.1 all few
  leaves-fit one (Ordered deed ∷ t) made all few = leaves-fit one t made.1 all few
  leaves-fit one (Plain (Dropped cause) ∷ t) made all few = leaves-fit one t made.1 (entries-before (Dropped cause) (signs_of t) all) few
  leaves-fit one (Plain (Took sender vote x) ∷ t) made all few = leaves-fit one t made.1 (entries-before (Took sender vote x) (signs_of t) all) few
  leaves-fit one (Plain (Entered x) ∷ t) made all few = leaves-fit one t made.1 (entries-before (Entered x) (signs_of t) all) few
  leaves-fit one (Plain (Viewed slot view) ∷ t) made all few = leaves-fit one t made.1 (entries-before (Viewed slot view) (signs_of t) all) few
  leaves-fit one (Plain (Headed number head) ∷ t) made all few = leaves-fit one t made.1 (entries-before (Headed number head) (signs_of t) all) few
  leaves-fit one (Plain (Kept index checkpoint) ∷ t) made all few = leaves-fit one t made.1 (entries-before (Kept index checkpoint) (signs_of t) all) few
  leaves-fit one (Plain (Sent to message) ∷ t) made all few = leaves-fit one t made.1 (entries-before (Sent to message) (signs_of t) all) few
  leaves-fit one (Plain (Did slot place entry effect) ∷ t) made all few =
      let past = signs_of t in
      let fewer : length (DoneAt t) ≤ 2 ^ 64 = omega (arith, few) in
      let below : slot < 2 ^ 64 = omega (arith, few, next-slot site one (view_at site me t) past slot place entry effect made.0, executions-count me.shard past) in
      let fits = all entry (record { slot = slot; place = place; effect = effect; later = []; earlier = past; split = refl }) in
      All-push (LeafFits One) (leaves_of (DoneAt t)) (leaf_by (record { shard = me.shard; slot = slot; place = place; entry = entry; effect = effect }))
      (leaves-fit one t made.1 (entries-before (Did slot place entry effect) past all) fewer)
      (record { slot = below; place = refl; action = fits })
