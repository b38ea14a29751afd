-- A world of a deployment is a story, whose first executions are allowed steps of the shards together: the theorem on these does the rest.
use Rattle.std.proofs.Common.{◌≡◌, inl, inr, true, false, List, [], ◌∷◌, ◌++◌, length, map, Some, refl, sym, ap, ◌∙◌, subst, append_assoc}
use Rattle.std.proofs.lemmas.Bool.{both_ways}
use Rattle.cs_base.specs.Lists.{IsIn}
use Rattle.cs_base.specs.declared.node_id.NodeId.{NodeId}
use Rattle.cs_tx_types.specs.declared.session.Session.{Session}
use Rattle.cs_tx_types.specs.declared.action.Action.{Action}
use Rattle.cs_tx_types.specs.declared.action.Action.TheVariants.{Prepare}
use Rattle.cs_wire_message.specs.declared.message.Message.TheVariants as message
use Rattle.cs_ledger.specs.Ledger.{Item, Serial, IsSpentOnce, genesis_ledger, ledger_of}
use Rattle.cs_ledger.specs.Session as Seen
use Rattle.cs_ledger.specs.Session.{Object as Named, all_items}
use Rattle.cs_ledger.specs.Table.{Commit, Abort, Accepted, Aborted, Table, table_of, free_object}
use Rattle.cs_ledger.specs.Standing.{stands_aborted}
use Rattle.cs_ledger.specs.ShardWorld.{log, sessions, sessions_of, votes_in, decided_in, all_commit}
use Rattle.cs_ledger.specs.ShardWorld as World
use Rattle.cs_ledger.proofs.Decisions.{decided_behind, all_concerned}
use Rattle.cs_ledger.specs.Table as Shard
use Rattle.cs_node_state.specs.Setup.{Setup, digest_of, is_fit, entry_of}
use Rattle.cs_tx_types.specs.Session.{session_in}
use Rattle.cs_node_rules.specs.Signs.{Sent}
use Rattle.cs_node_rules.specs.Site.{signs_of}
use Rattle.cs_node_rules.specs.World.{firsts_of, steps_of, count_executed, trail_of}
use Rattle.cs_node_rules.specs.Ready.{Executed, AcceptsLocked}
use Rattle.cs_node_law.specs.Made.{view_at, log_in}
use Rattle.cs_node_law.proofs.Views.{me-same}
use Rattle.cs_node_law.proofs.Logs.{seen, seen_log, table-is}
use Rattle.cs_world_law.specs.Worlds.{IsSerial, SpendsOnce, ExecutesGiven, ExecutesKnown, ExecutesFit, HoldsFree}
use Rattle.cs_world_law.specs.Steps.{StepsAllowed, AllComputed, StepsComputed, VotesOnce, TellsCommitted, TellsBefore}
use Rattle.cs_world_law.specs.Chain.{moments}
use Rattle.cs_world_law.proofs.Stories.{trail-same, firsts-same}
use Rattle.cs_world_law.proofs.Told.{computed-earlier}
use Rattle.cs_world_law.proofs.Middle.{decided-session, voted-session, known-there, commit-later, serial-once, whole-table}
use Rattle.cs_world_law.proofs.Chosen.{executes-chosen}
use Rattle.cs_world_law.proofs.Before.{settled-before}
use Rattle.cs_world_law.proofs.Standing.{aborted-log}
use Rattle.cs_world_law.proofs.Clients.{log-sessions, told, told-accepted, told-aborted}
use Rattle.cs_world_law.proofs.Readiness.{prepare-fit, accepts-locked}
use Rattle.cs_world_law.proofs.Sending.{world-tells}
use Rattle.cs_world_law.proofs.Freedom.{votes-free, prepare-own}
use Rattle.cs_world_law.proofs.Alone.{leads-alone}
use Rattle.cs_world_law.proofs.Whole.{place, At, Here, by-world, by-node, sound, story, made, level, within, executed, fine, came, follow, lawful-trusted, lawful-here, names, whole, until, accepts-here, aborts-here}
use Rattle.cs_world_law.proofs.worlds.settled_world.Goals as goal

-- nothing was executed before the first event
no-split : {A B : Type 0} (later : List B) (x : B) (earlier : List B) → [] ≡ later ++ x ∷ earlier → A
no-split {A} [] x earlier e = absurd cc
no-split {A} (other ∷ later) x earlier e = absurd cc

-- a log, as the ledger sees it
seen-map : (setup : Setup) (log : List Action) → seen setup log ≡ map (entry_of setup) log
seen-map setup [] = refl
seen-map setup (entry ∷ log) = ap (λ (l : List Shard.Entry). entry_of setup entry ∷ l) (seen-map setup log)

-- no sessions are told apart
none-apart : (genesis : List Item) → World.AreNamedApart genesis []
none-apart genesis = record {
  session = λ x y i j same. absurd i;
  transaction = λ x y i j same. absurd i;
  outputs = λ x y a b i j k l same. absurd i;
  places = λ x i. absurd i;
  genesis_names = λ x a i j k. absurd i;
}

pub returns-clause-serial : goal.returns-clause-serial
returns-clause-serial g c carrier carries config net genesis approves world few small is_net is_world apart =
    let rules = g.O.Order.rules in
    let p = place rules g.met.O.Order.law g.met.O.Order.holds c.marks_are_made.ensures.made carrier carries config net genesis approves world few small is_net is_world in
    let site = At rules p in
    by-world rules p (λ z. IsSerial site z) tt
    (λ some.
    let m = whole rules p some apart in
    subst (λ h. Serial (genesis_ledger site.setup.rules.genesis) h) (sym m.history_is) (c.composition.ensures.serial site.setup.rules (steps_of site.setup (firsts_of world)) m.world_is))

pub returns-clause-spent_once : goal.returns-clause-spent_once
returns-clause-spent_once g c carrier carries config net genesis approves world few small is_net is_world apart =
    let rules = g.O.Order.rules in
    let p = place rules g.met.O.Order.law g.met.O.Order.holds c.marks_are_made.ensures.made carrier carries config net genesis approves world few small is_net is_world in
    let site = At rules p in
    by-world rules p (λ z. SpendsOnce site z) (tt, λ tx i. absurd i)
    (λ some.
    let m = whole rules p some apart in
    let steps = steps_of site.setup (firsts_of world) in (
      subst (λ h. IsSpentOnce h) (sym m.history_is) (c.composition.ensures.spent_once site.setup.rules steps m.world_is),
      λ tx i. serial-once (genesis_ledger site.setup.rules.genesis) _ (c.composition.ensures.serial site.setup.rules steps m.world_is) tx (subst (λ h. IsIn tx h) m.history_is i),
    ))

pub returns-clause-one_decision : goal.returns-clause-one_decision
returns-clause-one_decision g c carrier carries config net genesis approves world few small is_net is_world apart =
    let rules = g.O.Order.rules in
    let p = place rules g.met.O.Order.law g.met.O.Order.holds c.marks_are_made.ensures.made carrier carries config net genesis approves world few small is_net is_world in
    let site = At rules p in
    λ i j d hi hj accepts aborts.
    let some = by-node rules p i hi in
    let m = whole rules p some apart in
    let steps = steps_of site.setup (firsts_of world) in
    let a = accepts-here rules p some apart i d hi accepts in
    let y = decided-session site.setup.rules i.shard d Accepted steps a in
    let accepted = subst (λ k. decided_in site.setup.rules i.shard k Accepted (log i.shard steps) ≡ true) y.2 a in
    elim (aborts-here rules p some apart j d hj aborts) as (λ z. ⊥) [
      | inl h ↦ c.composition.ensures.one_decision site.setup.rules steps m.world_is y.0 y.1 i.shard j.shard accepted (subst (λ k. decided_in site.setup.rules j.shard k Aborted (log j.shard steps) ≡ true) y.2 h)
      | inr h ↦ c.composition.ensures.no_late_abort site.setup.rules steps m.world_is y.0 y.1 i.shard j.shard accepted (subst (λ k. votes_in site.setup.rules j.shard k Abort (log j.shard steps) ≡ true) y.2 h)
    ]

pub returns-clause-executed : goal.returns-clause-executed
returns-clause-executed g c carrier carries config net genesis approves world few small is_net is_world =
    let rules = g.O.Order.rules in
    let p = place rules g.met.O.Order.law g.met.O.Order.holds c.marks_are_made.ensures.made carrier carries config net genesis approves world few small is_net is_world in
    let site = At rules p in
    by-world rules p (λ z. ExecutesGiven site z) (λ i entry e. no-split e.later _ e.earlier e.split) (λ some i entry e. (executed rules p some i entry e).session)

pub returns-clause-executed_known : goal.returns-clause-executed_known
returns-clause-executed_known g c carrier carries config net genesis approves world few small is_net is_world =
    let rules = g.O.Order.rules in
    let p = place rules g.met.O.Order.law g.met.O.Order.holds c.marks_are_made.ensures.made carrier carries config net genesis approves world few small is_net is_world in
    let site = At rules p in
    by-world rules p (λ z. ExecutesKnown site z) (λ i entry e. no-split e.later _ e.earlier e.split) (λ some i entry e. let done = executed rules p some i entry e in (done.entry, done.listed, done.among))

pub returns-clause-executed_fit : goal.returns-clause-executed_fit
returns-clause-executed_fit g c carrier carries config net genesis approves world few small is_net is_world =
    let rules = g.O.Order.rules in
    let p = place rules g.met.O.Order.law g.met.O.Order.holds c.marks_are_made.ensures.made carrier carries config net genesis approves world few small is_net is_world in
    let site = At rules p in
    by-world rules p (λ z. ExecutesFit site z) (λ i entry e. no-split e.later _ e.earlier e.split) (λ some i entry e. (executed rules p some i entry e).fits)

pub returns-clause-executes_chosen : goal.returns-clause-executes_chosen
returns-clause-executes_chosen g c carrier carries config net genesis approves world few small is_net is_world =
    let rules = g.O.Order.rules in
    let p = place rules g.met.O.Order.law g.met.O.Order.holds c.marks_are_made.ensures.made carrier carries config net genesis approves world few small is_net is_world in
    λ i hi. executes-chosen (At rules p) i (trail_of i world) (level rules p (by-node rules p i hi) i)

pub returns-clause-allowed : goal.returns-clause-allowed
returns-clause-allowed g c carrier carries config net genesis approves world few small is_net is_world apart =
    let rules = g.O.Order.rules in
    let p = place rules g.met.O.Order.law g.met.O.Order.holds c.marks_are_made.ensures.made carrier carries config net genesis approves world few small is_net is_world in
    let site = At rules p in
    by-world rules p (λ z. StepsAllowed site z) tt (λ some. (fine rules p some (lawful-here rules p some apart)).allowed)

pub returns-clause-allowed_alone : goal.returns-clause-allowed_alone
returns-clause-allowed_alone g c carrier carries config net genesis approves world few small is_net is_world =
    let rules = g.O.Order.rules in
    let p = place rules g.met.O.Order.law g.met.O.Order.holds c.marks_are_made.ensures.made carrier carries config net genesis approves world few small is_net is_world in
    let site = At rules p in
    λ trusted. by-world rules p (λ z. StepsAllowed site z) tt (λ some. (fine rules p some (lawful-trusted rules p some trusted)).allowed)

pub returns-clause-computed : goal.returns-clause-computed
returns-clause-computed g c carrier carries config net genesis approves world few small is_net is_world apart =
    let rules = g.O.Order.rules in
    let p = place rules g.met.O.Order.law g.met.O.Order.holds c.marks_are_made.ensures.made carrier carries config net genesis approves world few small is_net is_world in
    let site = At rules p in
    by-world rules p (λ z. StepsComputed site z) tt (λ some. came rules p some (lawful-here rules p some apart))

pub returns-clause-computed_alone : goal.returns-clause-computed_alone
returns-clause-computed_alone g c carrier carries config net genesis approves world few small is_net is_world =
    let rules = g.O.Order.rules in
    let p = place rules g.met.O.Order.law g.met.O.Order.holds c.marks_are_made.ensures.made carrier carries config net genesis approves world few small is_net is_world in
    let site = At rules p in
    λ trusted. by-world rules p (λ z. StepsComputed site z) tt (λ some. came rules p some (lawful-trusted rules p some trusted))

pub returns-clause-logs : goal.returns-clause-logs
returns-clause-logs g c carrier carries config net genesis approves world few small is_net is_world apart =
    let rules = g.O.Order.rules in
    let p = place rules g.met.O.Order.law g.met.O.Order.holds c.marks_are_made.ensures.made carrier carries config net genesis approves world few small is_net is_world in
    let site = At rules p in
    λ i hi. let some = by-node rules p i hi in follow rules p some (lawful-here rules p some apart) i hi

pub returns-clause-logs_alone : goal.returns-clause-logs_alone
returns-clause-logs_alone g c carrier carries config net genesis approves world few small is_net is_world =
    let rules = g.O.Order.rules in
    let p = place rules g.met.O.Order.law g.met.O.Order.holds c.marks_are_made.ensures.made carrier carries config net genesis approves world few small is_net is_world in
    let site = At rules p in
    λ trusted i hi. let some = by-node rules p i hi in follow rules p some (lawful-trusted rules p some trusted) i hi

pub returns-clause-one_vote : goal.returns-clause-one_vote
returns-clause-one_vote g c carrier carries config net genesis approves world few small is_net is_world apart =
    let rules = g.O.Order.rules in
    let p = place rules g.met.O.Order.law g.met.O.Order.holds c.marks_are_made.ensures.made carrier carries config net genesis approves world few small is_net is_world in
    let site = At rules p in
    by-world rules p (λ z. VotesOnce site z) (λ shard d v w first other. absurd (both_ways false refl first))
    (λ some shard d v w first other.
    let m = whole rules p some apart in
    let steps = steps_of site.setup (firsts_of world) in
    let a = sym (m.recorded_is d v shard) ∙ first in
    let b = sym (m.recorded_is d w shard) ∙ other in
    let y = voted-session site.setup.rules shard d v steps a in
    c.composition.ensures.one_vote site.setup.rules steps m.world_is y.0 y.1 shard v w
    (subst (λ k. votes_in site.setup.rules shard k v (log shard steps) ≡ true) y.2 a)
    (subst (λ k. votes_in site.setup.rules shard k w (log shard steps) ≡ true) y.2 b))

pub returns-clause-accepted : goal.returns-clause-accepted
returns-clause-accepted g c carrier carries config net genesis approves world few small is_net is_world apart =
    let rules = g.O.Order.rules in
    let p = place rules g.met.O.Order.law g.met.O.Order.holds c.marks_are_made.ensures.made carrier carries config net genesis approves world few small is_net is_world in
    let site = At rules p in
    λ i x hi knows accepts.
    let some = by-node rules p i hi in
    let m = whole rules p some apart in
    let steps = steps_of site.setup (firsts_of world) in
    let d = digest_of site.setup x in
    let a = accepts-here rules p some apart i d hi accepts in
    let there = known-there site (Here rules p) (firsts_of world) (names rules p some apart) m x knows (decided-session site.setup.rules i.shard d Accepted steps a) in
    subst (λ h. IsIn (site.setup.session_of x).transaction h) (sym m.history_is) (c.composition.ensures.accepted site.setup.rules steps m.world_is (site.setup.session_of x) there i.shard a)

pub returns-clause-before : goal.returns-clause-before
returns-clause-before g c carrier carries config net genesis approves world few small is_net is_world apart =
    let rules = g.O.Order.rules in
    let p = place rules g.met.O.Order.law g.met.O.Order.holds c.marks_are_made.ensures.made carrier carries config net genesis approves world few small is_net is_world in
    let site = At rules p in
    by-world rules p (λ z. TellsBefore site z) (λ later e earlier split. no-split later e earlier split)
    (λ some later e earlier split accepted.
    let now = until rules p some apart later (e ∷ earlier) split in
    let before = until rules p some apart (later ++ e ∷ []) earlier (split ∙ sym (append_assoc later (e ∷ []) earlier)) in
    let came_to = computed-earlier site.setup later (e ∷ earlier) (subst (λ f. AllComputed site.setup f) split (came rules p some (lawful-here rules p some apart))) in
    let s = settled-before site (Here rules p) (names rules p some apart) e earlier now before came_to.0 accepted in
    let listed = c.composition.ensures.complete site.setup.rules (steps_of site.setup earlier) before.world_is s.x s.there e.shard s.among s.all in
    subst (λ h. IsIn (site.setup.session_of (session_in e.entry)).transaction h) (sym before.history_is)
    (subst (λ (z : Seen.Session). IsIn z.transaction (World.history site.setup.rules (steps_of site.setup earlier))) (sym s.is) listed))

pub returns-clause-committed : goal.returns-clause-committed
returns-clause-committed g c carrier carries config net genesis approves world few small is_net is_world apart =
    let rules = g.O.Order.rules in
    let p = place rules g.met.O.Order.law g.met.O.Order.holds c.marks_are_made.ensures.made carrier carries config net genesis approves world few small is_net is_world in
    let site = At rules p in
    by-world rules p (λ z. TellsCommitted site z) (λ later earlier split x knows. absurd knows)
    (λ some later earlier split x knows shard among all.
    let m = whole rules p some apart in
    let n = until rules p some apart later earlier split in
    let seen = site.setup.session_of x in
    let before = steps_of site.setup earlier in
    let steps = steps_of site.setup (firsts_of world) in
    let apart_names = names rules p some apart in
    let all_before : all_commit site.setup.rules before seen ≡ true = sym (n.all_recorded_is x) ∙ all in
    let votes = all_concerned site.setup.rules before seen Commit shard (all_items seen.transaction) all_before among in
    let there = known-there site (Here rules p) earlier apart_names n x knows (voted-session site.setup.rules shard seen.digest Commit before votes) in
    let all_now : all_commit site.setup.rules steps seen ≡ true =
    subst (λ f. all_commit site.setup.rules (steps_of site.setup f) seen ≡ true) (sym split) (commit-later site.setup seen later earlier all_before) in
    let votes_now = all_concerned site.setup.rules steps seen Commit shard (all_items seen.transaction) all_now among in
    let there_now = known-there site (Here rules p) (firsts_of world) apart_names m x knows (voted-session site.setup.rules shard seen.digest Commit steps votes_now) in (
      subst (λ h. IsIn seen.transaction h) (sym n.history_is) (c.composition.ensures.complete site.setup.rules before n.world_is seen there shard among all_before),
      λ i hi aborts.
          let none = c.composition.ensures.no_abort site.setup.rules steps m.world_is seen there_now all_now i.shard in
          elim (aborts-here rules p some apart i seen.digest hi aborts) as (λ z. ⊥) [
            | inl h ↦ none.1 h
            | inr h ↦ none.0 h
          ],
    ))

pub returns-clause-told_accepted : goal.returns-clause-told_accepted
returns-clause-told_accepted g c carrier carries config net genesis approves world few small is_net is_world apart =
    let rules = g.O.Order.rules in
    let p = place rules g.met.O.Order.law g.met.O.Order.holds c.marks_are_made.ensures.made carrier carries config net genesis approves world few small is_net is_world in
    let site = At rules p in
    λ i to d hi sent.
    let some = by-node rules p i hi in
    let m = whole rules p some apart in
    let steps = steps_of site.setup (firsts_of world) in
    let there_sent = subst (λ t. IsIn (Sent to (message.Decided d true)) (signs_of t)) (sym (trail-same i world)) sent in
    let t = told site (sound rules p some) (Here rules p) (lawful-here rules p some apart) (moments world) (story rules p some) i hi to d true there_sent in
    let x = t.session in
    let a = ap (λ f. decided_in site.setup.rules i.shard (digest_of site.setup x) Accepted (log i.shard (steps_of site.setup f))) (firsts-same world)
    ∙ told-accepted site (sound rules p some) (Here rules p) (lawful-here rules p some apart) (moments world) (story rules p some) i hi d t in
    let there = known-there site (Here rules p) (firsts_of world) (names rules p some apart) m x t.known_is (decided-session site.setup.rules i.shard (digest_of site.setup x) Accepted steps a) in
    let listed = subst (λ h. IsIn (site.setup.session_of x).transaction h) (sym m.history_is) (c.composition.ensures.accepted site.setup.rules steps m.world_is (site.setup.session_of x) there i.shard a) in
    (x, t.digest_is, t.known_is, listed)

pub returns-clause-told_aborted : goal.returns-clause-told_aborted
returns-clause-told_aborted g c carrier carries config net genesis approves world few small is_net is_world apart =
    let rules = g.O.Order.rules in
    let p = place rules g.met.O.Order.law g.met.O.Order.holds c.marks_are_made.ensures.made carrier carries config net genesis approves world few small is_net is_world in
    let site = At rules p in
    λ i j to d hi hj sent accepts.
    let some = by-node rules p i hi in
    let m = whole rules p some apart in
    let steps = steps_of site.setup (firsts_of world) in
    let unique = m.world_is.1.session in
    let there_sent = subst (λ t. IsIn (Sent to (message.Decided d false)) (signs_of t)) (sym (trail-same i world)) sent in
    let t = told site (sound rules p some) (Here rules p) (lawful-here rules p some apart) (moments world) (story rules p some) i hi to d false there_sent in
    let seen = site.setup.session_of t.session in
    let a = subst (λ k. decided_in site.setup.rules j.shard k Accepted (log j.shard steps) ≡ true) t.digest_is (accepts-here rules p some apart j d hj accepts) in
    let there = known-there site (Here rules p) (firsts_of world) (names rules p some apart) m t.session t.known_is (decided-session site.setup.rules j.shard seen.digest Accepted steps a) in
    let behind = decided_behind site.setup.rules (sessions steps) unique seen there j.shard Accepted Commit refl steps m.world_is.0 (λ z k. k) a in
    let commits = all_concerned site.setup.rules steps seen Commit i.shard (all_items seen.transaction) behind.1 t.concerned in
    let within = λ (z : Seen.Session) (k : IsIn z (sessions_of (log i.shard steps))). log-sessions i.shard steps z k in
    let stood = told-aborted site (sound rules p some) (Here rules p) (lawful-here rules p some apart) (moments world) (story rules p some) i hi d t (sessions steps) unique there
    (subst (λ f. (z : Seen.Session) → IsIn z (sessions_of (log i.shard (steps_of site.setup f))) → IsIn z (sessions steps)) (firsts-same world) within) in
    let stands = subst (λ f. stands_aborted ((table_of site.setup.rules i.shard (log i.shard (steps_of site.setup f))).at t.anchored.key) seen.digest ≡ true) (sym (firsts-same world)) stood in
    elim (aborted-log site.setup.rules i.shard (sessions steps) unique seen there t.anchored.key t.anchored.is (log i.shard steps) within stands commits) as (λ z. ⊥) [
      | inl aborted ↦ c.composition.ensures.one_decision site.setup.rules steps m.world_is seen there j.shard i.shard a aborted
      | inr voted ↦ c.composition.ensures.no_late_abort site.setup.rules steps m.world_is seen there j.shard i.shard a voted
    ]

pub returns-clause-votes_free : goal.returns-clause-votes_free
returns-clause-votes_free g c carrier carries config net genesis approves world few small is_net is_world apart =
    let rules = g.O.Order.rules in
    let p = place rules g.met.O.Order.law g.met.O.Order.holds c.marks_are_made.ensures.made carrier carries config net genesis approves world few small is_net is_world in
    let site = At rules p in
    λ i hi.
    let some = by-node rules p i hi in
    votes-free site (Here rules p) i (trail_of i world) (made rules p some i) (within rules p some i) (world-tells site world is_world.life i)
    (subst (λ t. (x : Session) → Executed (signs_of t) (Prepare x) → is_fit site.setup i.shard x ≡ true) (trail-same i world)
    (prepare-fit site (sound rules p some) (Here rules p) (lawful-here rules p some apart) (moments world) (story rules p some) i hi))

pub returns-clause-votes_free_alone : goal.returns-clause-votes_free_alone
returns-clause-votes_free_alone g c carrier carries config net genesis approves world few small is_net is_world =
    let rules = g.O.Order.rules in
    let p = place rules g.met.O.Order.law g.met.O.Order.holds c.marks_are_made.ensures.made carrier carries config net genesis approves world few small is_net is_world in
    let site = At rules p in
    λ trusted i hi.
    let some = by-node rules p i hi in
    votes-free site (Here rules p) i (trail_of i world) (made rules p some i) (within rules p some i) (world-tells site world is_world.life i)
    (prepare-own site (sound rules p some) (Here rules p) trusted i hi (trail_of i world) (made rules p some i) (within rules p some i))

pub returns-clause-accepts_locked : goal.returns-clause-accepts_locked
returns-clause-accepts_locked g c carrier carries config net genesis approves world few small is_net is_world apart =
    let rules = g.O.Order.rules in
    let p = place rules g.met.O.Order.law g.met.O.Order.holds c.marks_are_made.ensures.made carrier carries config net genesis approves world few small is_net is_world in
    let site = At rules p in
    λ i hi.
    let some = by-node rules p i hi in
    subst (λ t. AcceptsLocked site.setup i.shard (signs_of t)) (trail-same i world)
    (accepts-locked site (sound rules p some) (Here rules p) (lawful-here rules p some apart) (moments world) (story rules p some) i hi (names rules p some apart))

pub returns-clause-objects : goal.returns-clause-objects
returns-clause-objects g c carrier carries config net genesis approves world few small is_net is_world apart =
    let rules = g.O.Order.rules in
    let p = place rules g.met.O.Order.law g.met.O.Order.holds c.marks_are_made.ensures.made carrier carries config net genesis approves world few small is_net is_world in
    let site = At rules p in
    by-world rules p (λ z. HoldsFree site z) (λ shard name object free. c.composition.ensures.objects site.setup.rules [] (tt, none-apart site.setup.rules.genesis) shard name object free)
    (λ some shard name object free.
    let m = whole rules p some apart in
    subst (λ h. (ledger_of (genesis_ledger site.setup.rules.genesis) h).active name ≡ Some object) (sym m.history_is)
    (c.composition.ensures.objects site.setup.rules (steps_of site.setup (firsts_of world)) m.world_is shard name object free))

pub returns-clause-tables : goal.returns-clause-tables
returns-clause-tables g c carrier carries config net genesis approves world few small is_net is_world =
    let rules = g.O.Order.rules in
    let p = place rules g.met.O.Order.law g.met.O.Order.holds c.marks_are_made.ensures.made carrier carries config net genesis approves world few small is_net is_world in
    let site = At rules p in
    λ i hi.
    let t = trail_of i world in
    table-is site i t
    ∙ ap (λ (n : NodeId). table_of site.setup.rules n.shard (seen_log site t)) (me-same site i t)
    ∙ ap (λ l. table_of site.setup.rules i.shard l) (seen-map site.setup (log_in (signs_of t)))

pub returns-clause-node_objects : goal.returns-clause-node_objects
returns-clause-node_objects g c carrier carries config net genesis approves world few small is_net is_world apart =
    let rules = g.O.Order.rules in
    let p = place rules g.met.O.Order.law g.met.O.Order.holds c.marks_are_made.ensures.made carrier carries config net genesis approves world few small is_net is_world in
    let site = At rules p in
    λ i hi all name object free.
    let some = by-node rules p i hi in
    let m = whole rules p some apart in
    let steps = steps_of site.setup (firsts_of world) in
    let done = ap (λ t. length (log_in (signs_of t))) (trail-same i world) ∙ all ∙ ap (λ f. count_executed i.shard f) (firsts-same world) in
    let table = ap (λ t. (view_at site i t).bench.table) (sym (trail-same i world))
    ∙ whole-table site (sound rules p some) (Here rules p) (lawful-here rules p some apart) (moments world) i (story rules p some) hi done
    ∙ ap (λ f. table_of site.setup.rules i.shard (log i.shard (steps_of site.setup f))) (sym (firsts-same world)) in
    let here = ap (λ (t : Table). free_object (t.at (Named name)).state) (sym table) ∙ free in
    subst (λ h. (ledger_of (genesis_ledger site.setup.rules.genesis) h).active name ≡ Some object) (sym m.history_is)
    (c.composition.ensures.objects site.setup.rules steps m.world_is i.shard name object here)

pub returns-clause-alone : goal.returns-clause-alone
returns-clause-alone g c carrier carries config net genesis approves world few small is_net is_world =
    let rules = g.O.Order.rules in
    let p = place rules g.met.O.Order.law g.met.O.Order.holds c.marks_are_made.ensures.made carrier carries config net genesis approves world few small is_net is_world in
    let site = At rules p in
    λ trusted i hi.
    let some = by-node rules p i hi in
    ap (λ t. length (log_in (signs_of t))) (sym (trail-same i world))
    ∙ leads-alone site (sound rules p some) (Here rules p) trusted i hi (moments world) (story rules p some)
    ∙ ap (λ f. count_executed i.shard f) (sym (firsts-same world))
