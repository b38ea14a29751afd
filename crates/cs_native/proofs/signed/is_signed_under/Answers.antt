use Rattle.std.proofs.Common.{ℕ, List, ap, ◌∙◌}
use Rattle.std.proofs.lemmas.Bool.Decides.{same_from_decides}
use Rattle.cs_tx_value.specs.declared.value.Value.{Value}
use Rattle.cs_native.specs.Message.{message_of_trace}
use Rattle.cs_native.specs.Signed.{texts_of, verifies}
use Rattle.cs_native.proofs.Verified.{verified}
use Rattle.cs_native.proofs.signed.is_signed_under.Goals as goal

pub returns : goal.returns
returns c =
    let key = c.args.key.now in
    let given : List (List ℕ) = texts_of c.parameters.result.now in
    same_from_decides c.verify_texts.result (verifies key c.message.result given) c.verify_texts.ensures
    (verified key c.message.result given)
    ∙ ap (λ (message : List ℕ). verifies key message given) c.message.ensures
    ∙ ap (λ (values : List Value). verifies key (message_of_trace c.args.view.now) (texts_of values)) c.parameters.ensures
