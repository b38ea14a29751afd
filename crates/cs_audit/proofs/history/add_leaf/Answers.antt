use Rattle.std.proofs.Common.{◌≡◌, ◌∙◌, true, false, Some, sym, ap, rules}
use Rattle.cs_tx_types.specs.declared.session.Session.{Session}
use Rattle.cs_tx_types.specs.Session.{session_in}
use Rattle.cs_node_pool.specs.Deployed.{deployed_setup}
use Rattle.cs_audit.proofs.Collecting.{none-of, one-of}
use Rattle.cs_audit.proofs.history.add_leaf.Goals as goal

pub returns-then-not-branch : goal.returns-then-not-branch
returns-then-not-branch c objects approves logs sessions keeps at finds =
    let no : c.in_ok-commits.field-0 ≡ false = search rules in
    none-of (deployed_setup c.args.config.now objects approves) logs c.args.leaf.now.action sessions c.args.found.now.entries (sym (c.in_ok-commits.ensures objects approves logs keeps) ∙ no) finds

pub returns : goal.returns
returns c objects approves logs sessions keeps at finds =
    let yes : c.in_ok-commits.field-0 ≡ true = search rules in
    let is : (session_in c.args.leaf.now.action).tx ≡ c.session.result.now.tx = sym (ap (λ (x : Session). x.tx) c.session.ensures.is) in
    one-of (deployed_setup c.args.config.now objects approves) logs c.args.leaf.now.action sessions c.add.new.found.entries (sym (c.in_ok-commits.ensures objects approves logs keeps) ∙ yes)
    (c.in_ok-add.ensures logs sessions (session_in c.args.leaf.now.action) is (at ∙ ap (λ tx. Some tx) is) finds)
