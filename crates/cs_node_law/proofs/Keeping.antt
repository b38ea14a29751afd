-- What leaves the log of a node as it is: all signs but an execution.
use Rattle.std.proofs.Common.{◌≡◌, ℕ, Bool, true, not, ◌&&◌, List, [], ◌∷◌, ◌++◌, Option, Some, None, refl, ap, ◌∙◌}
use Rattle.std.proofs.lemmas.Bool.{cond_both}
use Rattle.cs_base.specs.declared.node_id.NodeId.{NodeId}
use Rattle.cs_tx_types.specs.declared.session.Session.{Session}
use Rattle.cs_tx_types.specs.declared.vote.Vote.{Vote}
use Rattle.cs_tx_types.specs.declared.vote.Vote.TheVariants.{Commit}
use Rattle.cs_tx_types.specs.declared.action.Action.{Action}
use Rattle.cs_tx_types.specs.declared.checkpoint.Checkpoint.{Checkpoint}
use Rattle.cs_wire_message.specs.declared.message.Message.{Message}
use Rattle.cs_wire_message.specs.declared.message.Message.TheVariants as message
use Rattle.cs_order.specs.declared.answers.Outgoing.{Outgoing}
use Rattle.cs_node_state.specs.Setup.{Setup, digest_of, concerned}
use Rattle.cs_node_state.specs.Pool.{Pool, is_pooled}
use Rattle.cs_node_state.specs.Bench.{Bench, Ran, action_executed, vote_told}
use Rattle.cs_node_rules.specs.Members.{is_other_member, others}
use Rattle.cs_node_rules.specs.Signs.{Sign, Dropped, Took, Entered, Viewed, Did, Headed, Kept, Sent, bench_step, sends, vote_signs, own_signs, entered_signs, ran_signs, headed_signs, asked_again}
use Rattle.cs_node_rules.specs.Site.{Mark, Site, View, view_after, plain}
use Rattle.cs_node_rules.specs.Trail.{out_signs, handed}
use Rattle.cs_node_rules.proofs.Heard.{AllHeard}
use Rattle.cs_node_law.proofs.Silent.{plain-onto}

-- the sign leaves the log
abbrev pub KeepsLog : Sign → Type 0
KeepsLog sign = (setup : Setup) (shard : ℕ) (b : Bench) → (bench_step setup shard sign b).log ≡ b.log

abbrev pub AllKeepLog : List Sign → Type 0
AllKeepLog [] = Unit {0}
AllKeepLog (sign ∷ signs) = KeepsLog sign × AllKeepLog signs

pub keep-append : (a b : List Sign) → AllKeepLog a → AllKeepLog b → AllKeepLog (a ++ b)
keep-append [] b of_a of_b = of_b
keep-append (sign ∷ a) b of_a of_b = (of_a.0, keep-append a b of_a.1 of_b)

-- ---- signs

keep-sent : (to : NodeId) (said : Message) → AllKeepLog (Sent to said ∷ [])
keep-sent to said = (λ setup shard b. refl, tt)

pub keep-sends : (names : List NodeId) (said : Message) → AllKeepLog (sends names said)
keep-sends [] said = tt
keep-sends (to ∷ names) said = keep-append (sends names said) (Sent to said ∷ []) (keep-sends names said) (keep-sent to said)

-- what is said to a node, but for its order
pub keep-heard : (sender : NodeId) (signs : List Sign) → AllHeard sender signs → AllKeepLog signs
keep-heard sender [] all = tt
keep-heard sender (Dropped cause ∷ signs) all = (λ setup shard b. refl, keep-heard sender signs all)
keep-heard sender (Took from vote x ∷ signs) all = (λ setup shard b. refl, keep-heard sender signs all)
keep-heard sender (Entered x ∷ signs) all = (λ setup shard b. refl, keep-heard sender signs all)
keep-heard sender (Viewed slot view ∷ signs) all = absurd all
keep-heard sender (Did slot place entry effect ∷ signs) all = absurd all
keep-heard sender (Headed number head ∷ signs) all = absurd all
keep-heard sender (Kept index checkpoint ∷ signs) all = (λ setup shard b. refl, keep-heard sender signs all)
keep-heard sender (Sent to said ∷ signs) all = (λ setup shard b. refl, keep-heard sender signs all.1)

keep-votes : (setup : Setup) (me : NodeId) (x : Session) (told : Option (Vote × Bool)) → AllKeepLog (vote_signs setup me x told)
keep-votes setup me x None = tt
keep-votes setup me x (Some told) = keep-sends (others setup.f me (concerned setup x)) (message.Voted told.0 told.1 x)

keep-own : (me : NodeId) (x : Session) (told : Option (Vote × Bool)) → AllKeepLog (own_signs me x told)
keep-own me x None = tt
keep-own me x (Some told) = cond_both told.1 (Took me told.0 x ∷ []) [] AllKeepLog (λ e. (λ setup shard b. refl, tt)) (λ e. tt)

keep-entered : (x : Session) (pooled : Bool) (told : Option (Vote × Bool)) → AllKeepLog (entered_signs x pooled told)
keep-entered x pooled None = tt
keep-entered x pooled (Some told) = cond_both (told.1 && not pooled) (Entered x ∷ []) [] AllKeepLog (λ e. (λ setup shard b. refl, tt)) (λ e. tt)

pub keep-headed : (setup : Setup) (me : NodeId) (o : Option Checkpoint) → AllKeepLog (headed_signs setup me o)
keep-headed setup me None = tt
keep-headed setup me (Some c) =
    keep-append (sends (others setup.f me (me.shard ∷ [])) (message.Head c)) (Headed c.number _ ∷ []) (keep-sends (others setup.f me (me.shard ∷ [])) (message.Head c)) (λ setup shard b. refl, tt)

pub keep-again : (setup : Setup) (me : NodeId) (pool : Pool) → AllKeepLog (asked_again setup me pool)
keep-again setup me [] = tt
keep-again setup me (e ∷ pool) =
    keep-append (asked_again setup me pool) _ (keep-again setup me pool)
    (cond_both e.1.locked (vote_signs setup me e.1.session (Some (Commit, true))) [] AllKeepLog (λ locked. keep-votes setup me e.1.session (Some (Commit, true))) (λ free. tt))

-- ---- what is handed out, and the log behind signs

module _ {M : Type 0} (site : Site M) where
  keep-out : (me : NodeId) (to : Option ℕ) (m : M) → AllKeepLog (out_signs site me to m)
  keep-out me None m = keep-sends (others site.setup.f me (me.shard ∷ [])) (site.carrier.written m)
  keep-out me (Some index) m =
      let name : NodeId = record { shard = me.shard; index = index } in
      cond_both (is_other_member site.setup.f me name) (Sent name (site.carrier.written m) ∷ []) [] AllKeepLog (λ e. keep-sent name (site.carrier.written m)) (λ e. tt)

  pub keep-handed : (me : NodeId) (outs : List (Outgoing M)) → AllKeepLog (handed site me outs)
  keep-handed me [] = tt
  keep-handed me (out ∷ outs) = keep-append (handed site me outs) (out_signs site me out.to out.message) (keep-handed me outs) (keep-out me out.to out.message)

  pub log-said : (signs : List Sign) (past : List (Mark M)) (v : View M) → AllKeepLog signs → (view_after site (plain signs ++ past) v).bench.log ≡ (view_after site past v).bench.log
  log-said [] past v kept = refl
  log-said (sign ∷ signs) past v kept =
      let w = view_after site (plain signs ++ past) v in
      kept.0 site.setup w.me.shard w.bench ∙ log-said signs past v kept.1

  pub log-ahead : (a b : List Sign) (past : List (Mark M)) (v : View M) → AllKeepLog a → (view_after site (plain (a ++ b) ++ past) v).bench.log ≡ (view_after site (plain b ++ past) v).bench.log
  log-ahead a b past v kept = ap (λ (t : List (Mark M)). (view_after site t v).bench.log) (plain-onto a b past) ∙ log-said a (plain b ++ past) v kept

  -- an execution, with the session that it brings into the pool, the votes that are sent and the node's own: one slot more
  pub ran-log : (past : List (Mark M)) (v : View M) (who : NodeId) (b : Bench) (slot place : ℕ) (entry : Action) (x : Session) (ran : Ran) → let w = view_after site past v in
      (view_after site (plain (ran_signs site.setup who b slot place entry x ran) ++ past) v).bench.log ≡ (action_executed site.setup w.me.shard w.bench entry).log
  ran-log past v who b slot place entry x ran =
      let told = vote_told site.setup who.shard x ran in
      let pooled = is_pooled (digest_of site.setup x) b.pool in
      let did : List Sign = Did slot place entry ran.effect ∷ [] in
      let entering = entered_signs x pooled told in
      let voting = vote_signs site.setup who x told in
      log-ahead (own_signs who x told) (voting ++ (entering ++ did)) past v (keep-own who x told)
      ∙ log-ahead voting (entering ++ did) past v (keep-votes site.setup who x told)
      ∙ log-ahead entering did past v (keep-entered x pooled told)
