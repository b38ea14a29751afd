use Rattle.std.proofs.Common.{◌≡◌, ◌∙◌, Some, is_some, cond, sym, ap}
use Rattle.std.specs.Prelude.{bytes_eq}
use Rattle.std.specs.Map.{lookup}
use Rattle.cs_tx.specs.Digest.{digest_of_tx}
use Rattle.cs_audit.proofs.Telling.{added, stays, missing}
use Rattle.cs_audit.proofs.history.add.Goals as goal

pub returns-then-contains_key : goal.returns-then-contains_key
returns-then-contains_key c logs sessions session is at finds =
    let named : c.in_ok-digest.digest ≡ digest_of_tx session.tx = c.in_ok-digest.ensures ∙ ap digest_of_tx (sym is) in
    stays logs c.args.found.now.entries sessions session
    (ap (λ d. is_some (lookup (bytes_eq d) c.args.found.now.entries)) (sym named) ∙ sym c.contains_key.ensures ∙ c.if-contains_key.true) finds

pub returns : goal.returns
returns c logs sessions session is at finds =
    let named : c.in_ok-digest.digest ≡ digest_of_tx session.tx = c.in_ok-digest.ensures ∙ ap digest_of_tx (sym is) in
    added logs c.args.found.now.entries c.insert.new.self.entries sessions session c.args.place (at ∙ ap (λ tx. Some tx) (sym is))
    (missing _ (ap (λ d. is_some (lookup (bytes_eq d) c.args.found.now.entries)) (sym named) ∙ sym c.contains_key.ensures ∙ c.if-contains_key.false))
    (λ q. c.in_ok-insert.ensures.updates.0 q ∙ ap (λ d. cond (bytes_eq d q) (Some c.args.place) (lookup (bytes_eq q) c.args.found.now.entries)) named) finds
