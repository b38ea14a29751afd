-- The table of a node is that of its log, and the votes that it gave are those of its log.
use Rattle.std.proofs.Common.{◌≡◌, ℕ, ◌&&◌, ◌||◌, List, [], ◌∷◌, refl, ap, ◌∙◌}
use Rattle.cs_base.specs.declared.node_id.NodeId.{NodeId}
use Rattle.cs_tx_types.specs.declared.action.Action.{Action}
use Rattle.cs_tx_types.specs.declared.action.Action.TheVariants.{Prepare, Decide}
use Rattle.cs_ledger.specs.Ledger.{Bytes}
use Rattle.cs_ledger.specs.Table.{Vote, Effect, Table, exec, table_of}
use Rattle.cs_ledger.specs.Table as Shard
use Rattle.cs_ledger.specs.ShardWorld.{votes_in, is_prepare_of, is_vote}
use Rattle.cs_node_state.specs.Setup.{Setup, entry_of, prepares}
use Rattle.cs_node_rules.specs.Signs.{Dropped, Took, Entered, Viewed, Did, Headed, Kept, Sent}
use Rattle.cs_node_rules.specs.Site.{Mark, In, Ordered, Plain, Site, signs_of}
use Rattle.cs_node_law.specs.Made.{view_at, log_in, has_given, AllMade}

-- a log, as the ledger sees it
abbrev pub seen : Setup → List Action → List Shard.Entry
seen setup [] = []
seen setup (entry ∷ log) = entry_of setup entry ∷ seen setup log

abbrev pub seen_log : {M : Type 0} → Site M → List (Mark M) → List Shard.Entry
seen_log {M} site t = seen site.setup (log_in (signs_of t))

pub table-is : {M : Type 0} (site : Site M) (me : NodeId) (t : List (Mark M)) → (view_at site me t).bench.table ≡ table_of site.setup.rules (view_at site me t).me.shard (seen_log site t)
table-is {M} site me [] = refl
table-is {M} site me (In input ∷ t) = table-is site me t
table-is {M} site me (Ordered deed ∷ t) = table-is site me t
table-is {M} site me (Plain (Dropped cause) ∷ t) = table-is site me t
table-is {M} site me (Plain (Took sender vote x) ∷ t) = table-is site me t
table-is {M} site me (Plain (Entered x) ∷ t) = table-is site me t
table-is {M} site me (Plain (Viewed slot view) ∷ t) = table-is site me t
table-is {M} site me (Plain (Headed number head) ∷ t) = table-is site me t
table-is {M} site me (Plain (Kept index checkpoint) ∷ t) = table-is site me t
table-is {M} site me (Plain (Sent to message) ∷ t) = table-is site me t
table-is {M} site me (Plain (Did slot place entry effect) ∷ t) =
    ap (λ (u : Table). (exec site.setup.rules (view_at site me t).me.shard u (entry_of site.setup entry)).table) (table-is site me t)

-- what an execution on the table of the log came to
pub effect-is : {M : Type 0} (site : Site M) (me : NodeId) (t : List (Mark M)) (slot place : ℕ) (entry : Action) (effect : Effect) → AllMade site me (Plain (Did slot place entry effect) ∷ t)
    → effect ≡ (exec site.setup.rules (view_at site me t).me.shard (table_of site.setup.rules (view_at site me t).me.shard (seen_log site t)) (entry_of site.setup entry)).effect
effect-is {M} site me t slot place entry effect made =
    made.0.computed ∙ ap (λ (u : Table). (exec site.setup.rules (view_at site me t).me.shard u (entry_of site.setup entry)).effect) (table-is site me t)

pub prepares-seen : (setup : Setup) (d : Bytes) (entry : Action) → prepares setup d entry ≡ is_prepare_of d (entry_of setup entry)
prepares-seen setup d (Prepare x) = refl
prepares-seen setup d (Decide vote x) = refl

pub given-is : {M : Type 0} (site : Site M) (me : NodeId) (d : Bytes) (vote : Vote) (t : List (Mark M)) → AllMade site me t
    → has_given site.setup d vote (signs_of t) ≡ votes_in site.setup.rules (view_at site me t).me.shard d vote (seen_log site t)
given-is {M} site me d vote [] made = refl
given-is {M} site me d vote (In input ∷ t) made = given-is site me d vote t made.1
given-is {M} site me d vote (Ordered deed ∷ t) made = given-is site me d vote t made.1
given-is {M} site me d vote (Plain (Dropped cause) ∷ t) made = given-is site me d vote t made.1
given-is {M} site me d vote (Plain (Took sender other x) ∷ t) made = given-is site me d vote t made.1
given-is {M} site me d vote (Plain (Entered x) ∷ t) made = given-is site me d vote t made.1
given-is {M} site me d vote (Plain (Viewed slot view) ∷ t) made = given-is site me d vote t made.1
given-is {M} site me d vote (Plain (Headed number head) ∷ t) made = given-is site me d vote t made.1
given-is {M} site me d vote (Plain (Kept index checkpoint) ∷ t) made = given-is site me d vote t made.1
given-is {M} site me d vote (Plain (Sent to message) ∷ t) made = given-is site me d vote t made.1
given-is {M} site me d vote (Plain (Did slot place entry effect) ∷ t) made =
    let before = given-is site me d vote t made.1 in
    let now = prepares-seen site.setup d entry in
    let came = effect-is site me t slot place entry effect made in
    λ i. (now i && is_vote vote (came i)) || before i
