use Rattle.std.proofs.Common.{◌≡◌, ◌∙◌, ap, ℕ, List, arith}
use Rattle.cs_tx_types.specs.declared.transaction.Tx.{Tx}
use Rattle.cs_gen.specs.Rounds.{split_tx, session}
use Rattle.cs_gen.proofs.Fitting.{made_fits, split_is}
use Rattle.cs_gen.proofs.sessions.make_offer.Goals as goal

pub concerned-requires : goal.concerned-requires
concerned-requires c =
    let place = c.args.place in
    let tx = c.in_ok-transfer.field-0 in
    let is : tx ≡ split_tx place c.args.worth c.args.share = split_is place c.args.worth c.args.share c.in_ok-name.name c.in_ok-spent.spent tx c.in_ok-spent.ensures c.in_ok-name.ensures c.in_ok-transfer.ensures in
    made_fits place c.args.worth c.args.share _
    (ap (λ (t : Tx). session t c.from.result c.new.result) is ∙ ap (λ (n : ℕ). session (split_tx place c.args.worth c.args.share) n c.new.result) c.from.ensures
    ∙ ap (λ (dummies : List (ℕ × ℕ)). session (split_tx place c.args.worth c.args.share) place dummies) c.new.ensures)
    c.requires.worth c.requires.share (omega arith)
