-- What is said of the first executions is so after each event.
use Rattle.std.proofs.Common.{◌≡◌, ℕ, true, List, [], ◌∷◌, ◌++◌, refl, sym, ap, ◌∙◌, append_assoc}
use Rattle.std.proofs.lemmas.Bool.{cond_both}
use Rattle.cs_base.specs.declared.node_id.NodeId.{NodeId}
use Rattle.cs_tx_types.specs.declared.session.Session.{Session}
use Rattle.cs_base.specs.Lists.{IsIn}
use Rattle.cs_node_state.specs.Setup.{digest_of, is_concerned_shard}
use Rattle.cs_node_rules.specs.Signs.{Sign, Dropped, Took, Entered, Viewed, Did, Headed, Kept, Sent}
use Rattle.cs_node_rules.specs.Site.{Site, signs_of}
use Rattle.cs_node_rules.specs.World.{Happening, Execution, newest_of, is_after, with_first_execution, firsts_after, firsts_of, all_recorded, recorded_history, aborts_in}
use Rattle.cs_node_rules.specs.Collisions.{known_sessions}
use Rattle.cs_world_law.specs.Worlds.{is_honest, signs_at}
use Rattle.cs_world_law.specs.Steps.{IsOlderPart, TellsCommitted}

-- ---- first executions come on top of those before

first-grows : (shard : ℕ) (sign : Sign) (firsts : List Execution) → IsOlderPart firsts (with_first_execution shard sign firsts)
first-grows shard (Dropped cause) firsts = record { newer = []; is = refl }
first-grows shard (Took sender vote x) firsts = record { newer = []; is = refl }
first-grows shard (Entered x) firsts = record { newer = []; is = refl }
first-grows shard (Viewed slot view) firsts = record { newer = []; is = refl }
first-grows shard (Headed number head) firsts = record { newer = []; is = refl }
first-grows shard (Kept index checkpoint) firsts = record { newer = []; is = refl }
first-grows shard (Sent to message) firsts = record { newer = []; is = refl }
first-grows shard (Did slot place entry effect) firsts =
    let new : Execution = record { shard = shard; slot = slot; place = place; entry = entry; effect = effect } in
    cond_both (is_after slot place (newest_of shard firsts)) (new ∷ firsts) firsts (λ all. IsOlderPart firsts all)
    (λ e. record { newer = new ∷ []; is = refl })
    (λ e. record { newer = []; is = refl })

part-of-part : {A : Type 0} (a b c : List A) → IsOlderPart a b → IsOlderPart b c → IsOlderPart a c
part-of-part {A} a b c p q = record {
  newer = q.newer ++ p.newer;
  is = q.is ∙ ap (λ l. q.newer ++ l) p.is ∙ sym (append_assoc q.newer p.newer a);
}

after-grows : (shard : ℕ) (firsts : List Execution) (signs : List Sign)
    → IsOlderPart firsts (firsts_after shard firsts signs)
after-grows shard firsts [] = record { newer = []; is = refl }
after-grows shard firsts (sign ∷ past) =
    part-of-part firsts (firsts_after shard firsts past) (with_first_execution shard sign (firsts_after shard firsts past))
    (after-grows shard firsts past) (first-grows shard sign (firsts_after shard firsts past))

pub firsts-grow : {M : Type 0} (later earlier : List (Happening M))
    → IsOlderPart (firsts_of earlier) (firsts_of (later ++ earlier))
firsts-grow {M} [] earlier = record { newer = []; is = refl }
firsts-grow {M} (h ∷ later) earlier =
    let firsts = firsts_of (later ++ earlier) in
    part-of-part (firsts_of earlier) firsts (firsts_after h.node.shard firsts (signs_of h.marks))
    (firsts-grow later earlier) (after-grows h.node.shard firsts (signs_of h.marks))

-- After an event at which all concerned shards have voted commit the transaction is in the history, and no honest node
-- decides abort on the session at that event, before or after it.
pub committed-at-events : {M : Type 0} (site : Site M) (world : List (Happening M)) → TellsCommitted site world →
    (later earlier : List (Happening M)) → world ≡ later ++ earlier →
    (x : Session) → IsIn x (known_sessions site world) → (shard : ℕ) → is_concerned_shard site.setup x shard ≡ true →
    all_recorded site.setup (firsts_of earlier) x ≡ true →
    IsIn (site.setup.session_of x).transaction (recorded_history site earlier)
    × ((i : NodeId) → is_honest site i ≡ true →
    aborts_in site.setup (digest_of site.setup x) (signs_at i world) ≡ true → ⊥)
committed-at-events {M} site world tells later earlier split =
    let part = firsts-grow later earlier in
    tells part.newer (firsts_of earlier) (ap (λ z. firsts_of z) split ∙ part.is)
