use Rattle.std.proofs.Common.{List, ℕ, sym, subst}
use Rattle.std.proofs.lemmas.Result.{IfOk-weaker}
use Rattle.cs_onetime.specs.Halves.{public_key}
use Rattle.cs_onetime.specs.Signature.{Verifies}
use Rattle.cs_onetime.proofs.Signs.{signature-verifies}
use Rattle.cs_onetime.proofs.wallet.Wallet.sign.Goals as goal

pub returns-in-Some-clause-verifies : goal.returns-in-Some-clause-verifies
returns-in-Some-clause-verifies c =
    let seed = c.args.self.now.seed in
    let message = c.args.message.now in
    IfOk-weaker c.sign_again.result _ _ (λ texts is. subst (λ (t : List (List ℕ)). Verifies (public_key seed c.args.number) message t) (sym is) (signature-verifies seed c.args.number message)) c.sign_again.ensures.signed

pub returns-in-None-clause-verifies : goal.returns-in-None-clause-verifies
returns-in-None-clause-verifies c =
    let seed = c.args.self.now.seed in
    let message = c.args.message.now in
    IfOk-weaker c.sign_first.result _ _ (λ texts is. subst (λ (t : List (List ℕ)). Verifies (public_key seed c.args.number) message t) (sym is) (signature-verifies seed c.args.number message)) c.sign_first.ensures.signed
