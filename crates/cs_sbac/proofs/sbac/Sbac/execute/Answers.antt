use Rattle.std.proofs.Common.{◌≡◌, ◌∙◌, sym, subst, true, false, None, rules}
use Rattle.cs_tx_types.specs.declared.session.Session.{Session}
use Rattle.cs_tx.specs.WellFormed.{IsWellFormed}
use Rattle.cs_tx_types.specs.Session.{session_in}
use Rattle.cs_sbac.specs.Held.{Held}
use Rattle.cs_node_pool.specs.Deployed.{deployed_setup}
use Rattle.cs_sbac.specs.Calls.{Executes}
use Rattle.cs_sbac.proofs.Settings.{formed, known-formed, known-named}
use Rattle.cs_check.proofs.Hashing.{leaves_stay}
use Rattle.cs_sbac.proofs.Running.{stays, marked, anchored, executes, executes-nothing}
use Rattle.cs_tx_types.specs.declared.effect.Effect.TheVariants.{Void}
use Rattle.cs_sbac.proofs.sbac.Sbac.execute.Goals as goal

pub run-requires-clause-anchored : goal.run-requires-clause-anchored
run-requires-clause-anchored c =
    let whole : c.self.inside.whole ≡ true = search rules in
    let fit : c.in_ok-fit.fit ≡ true = search rules in
    anchored c.self.inside.config c.self.inside.me c.self.inside.table (c.self.invariant.placed whole) (λ tx. true) (session_in c.args.entry.now) (c.in_ok-fit.ensures.anchored fit)

pub run-requires-clause-formed : goal.run-requires-clause-formed
run-requires-clause-formed c =
    let fit : c.in_ok-fit.fit ≡ true = search rules in
    let x : Session = session_in c.args.entry.now in
    subst (λ config. IsWellFormed config x) (sym c.self.invariant.same)
    (formed c.self.inside.config c.self.inside.me.shard x (λ genesis approves. sym (c.in_ok-fit.ensures.fit genesis approves) ∙ fit))

pub invariant_of-self-2 : goal.invariant_of-self-2
invariant_of-self-2 c =
    let whole : c.self.inside.whole ≡ true = search rules in
    record {
      node = c.self.invariant.node;
      same = c.run.ensures.config ∙ c.self.invariant.same;
      placed = λ again. stays (λ tx. true) c.self.inside.config c.self.inside.me c.args.entry.now c.self.inside.table c.run.new.table c.self.inside.pool.sessions c.run.new.pool.sessions c.in_ok-outcome.outcome
          (c.self.invariant.placed whole) (c.in_ok-outcome.ensures.runs (λ tx. true));
      leaves = λ again. leaves_stay c.self.inside.table c.run.new.table c.self.inside.archive.hashed
          (marked (λ tx. true) c.self.inside.me c.args.entry.now c.self.inside.table c.run.new.table c.self.inside.pool.sessions c.run.new.pool.sessions c.in_ok-outcome.outcome (c.in_ok-outcome.ensures.runs (λ tx. true)))
          (c.self.invariant.leaves whole);
    }

pub returns-then-not-fit : goal.returns-then-not-fit
returns-then-not-fit c genesis approves log =
    let whole : c.self.inside.whole ≡ true = search rules in
    let unfit : c.in_ok-fit.fit ≡ false = search rules in
    let Does : Held → Type 0 = λ held. Executes (deployed_setup held.config genesis approves) log c.args.entry.now held held (record { effect = Void; voted = None }) in
    subst Does c.self.view_is
    (executes-nothing c.self.inside.config c.self.inside.me c.self.inside.table (c.self.invariant.placed whole) genesis approves c.root_is_shown.ensures.keys c.self.inside.archive log c.args.entry.now c.self.inside.pool.sessions
    (sym (c.in_ok-fit.ensures.fit genesis approves) ∙ unfit))

pub returns : goal.returns
returns c genesis approves log =
    let whole : c.self.inside.whole ≡ true = search rules in
    let fit : c.in_ok-fit.fit ≡ true = search rules in
    let after : Held = record { config = c.self.inside.config; me = c.self.inside.me; table = c.run.new.table; pool = c.run.new.pool.sessions; archived = c.self.inside.archive } in
    let Does : Held → Type 0 = λ held. Executes (deployed_setup held.config genesis approves) log c.args.entry.now held after c.in_ok-outcome.outcome in
    subst Does c.self.view_is
    (executes c.self.inside.config c.self.inside.me c.self.inside.table (c.self.invariant.placed whole) genesis approves c.root_is_shown.ensures.keys c.self.inside.archive log c.args.entry.now c.run.new.table c.self.inside.pool.sessions c.run.new.pool.sessions c.in_ok-outcome.outcome
    (sym (c.in_ok-fit.ensures.fit genesis approves) ∙ fit) c.root_is_shown-2.ensures.keys (c.in_ok-outcome.ensures.runs approves))

pub is_fit_entry-requires-clause-known : goal.is_fit_entry-requires-clause-known
is_fit_entry-requires-clause-known c = λ h.
    known-formed c.self.inside.config c.self.inside.pool.config (session_in c.args.entry.now) c.in_ok-known.known c.self.invariant.same c.in_ok-known.ensures.known (sym c.is_some.ensures ∙ h)

pub digest_in-requires-clause-known : goal.digest_in-requires-clause-known
digest_in-requires-clause-known c =
    known-named c.self.inside.config c.self.inside.pool.config (session_in c.args.entry.now) c.in_ok-known.known c.self.invariant.same c.in_ok-known.ensures.known
