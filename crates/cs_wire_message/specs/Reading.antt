-- What stands at the front of a list of bytes.
use Rattle.std.specs.Prelude.{◌≡◌, ℕ, zero, suc, Bool, List, [], ◌∷◌, Option, Some, None, Result, Ok, Err, nat_le, nat_lt, if◌then◌else◌}
use Rattle.std.specs.Int.{w8, w16}
use Rattle.cs_base.specs.declared.key.Key.{Key}
use Rattle.cs_base.specs.declared.limits.TheConstants.{LAST_VIEW, MOST_ECHOED, MOST_ACTIONS}
use Rattle.cs_base.specs.declared.version.Version.{Version}
use Rattle.cs_base.specs.declared.version.Version.TheVariants.{One, Two}
use Rattle.cs_base.specs.Fields.{Found, ◌>>=◌, ◌<$>◌, number_at, bytes_at, upto_at, pair_at, tested_at}
use Rattle.cs_tx_value.specs.Kinds.{kinds_at}
use Rattle.cs_tx_value.specs.Key.{key_at}
use Rattle.cs_tx_value.specs.declared.form.FormError.{FormError}
use Rattle.cs_tx_value.specs.declared.form.FormError.TheVariants as errors
use Rattle.cs_tx_types.specs.declared.session.Session.{Session}
use Rattle.cs_tx_types.specs.declared.vote.Vote.{Vote}
use Rattle.cs_tx_types.specs.declared.entry.Entry.{Entry}
use Rattle.cs_tx_types.specs.declared.state.State.{State}
use Rattle.cs_tx_types.specs.Reading.{session_at, vote_at, state_at}
use Rattle.cs_tx_types.specs.Entry.{entry_at}
use Rattle.cs_tx_types.specs.Log.{slot_at, checkpoint_at, proof_at}
use Rattle.cs_wire_message.specs.declared.change.Change.{Change}
use Rattle.cs_wire_message.specs.declared.message.Message.{Message}
use Rattle.cs_wire_message.specs.declared.message.Message.TheVariants as message
use Rattle.cs_wire_message.specs.Message.{is_after_last}

-- What a call answered that takes no memory.
abbrev pub Gets : {X : Type 0} → Result X FormError → List ℕ → Found X → Type 0
Gets (Ok x) rest found = found ≡ Some (x, rest)
Gets (Err e) rest found = (e ≡ errors.BadForm) × (found ≡ None)

abbrev pub view_number_at : List ℕ → Found ℕ
view_number_at = tested_at (λ n. nat_le n LAST_VIEW) (number_at w16)

abbrev pub below_at : ℕ → List ℕ → Found ℕ
below_at view = tested_at (λ n. nat_lt n view) (number_at w16)

unfoldable pub flag_at : List ℕ → Found Bool
flag_at bytes = nat_le 1 <$> tested_at (λ n. nat_le n 1) (number_at w8) bytes

-- ---- what a member claims as it enters a view

abbrev pub above_at : Option (List ℕ) → List ℕ → Found (List ℕ)
above_at last = tested_at (is_after_last last) (bytes_at 32)

abbrev pub echo_at : ℕ → Option (List ℕ) → List ℕ → Found (List ℕ × ℕ)
echo_at view last = pair_at (above_at last) (below_at view)

-- so many digests that rise from the last one
unfoldable pub rising_at : ℕ → Option (List ℕ) → ℕ → List ℕ → Found (List (List ℕ × ℕ))
rising_at view last zero bytes = Some ([], bytes)
rising_at view last (suc n) bytes = do
  first ← echo_at view last bytes
  others ← rising_at view (Some first.0.0) n first.1
  Some (first.0 ∷ others.0, others.1)

abbrev pub echoed_at : ℕ → List ℕ → Found (List (List ℕ × ℕ))
echoed_at view = upto_at w8 MOST_ECHOED (rising_at view None)

abbrev pub some_pair : ℕ × List ℕ → Option (ℕ × List ℕ)
some_pair pair = Some pair

abbrev pub prepared_kind_at : ℕ → ℕ → List ℕ → Found (Option (ℕ × List ℕ))
prepared_kind_at view zero bytes = Some (None, bytes)
prepared_kind_at view (suc zero) bytes = some_pair <$> pair_at (below_at view) (bytes_at 32) bytes
prepared_kind_at view (suc (suc kind)) bytes = None

abbrev pub prepared_at : ℕ → List ℕ → Found (Option (ℕ × List ℕ))
prepared_at view = kinds_at (prepared_kind_at view)

-- a view and a claim
abbrev pub Claim : Type 0
Claim = ℕ × Change

abbrev pub claim_of_parts : ℕ → Option (ℕ × List ℕ) × List (List ℕ × ℕ) → Claim
claim_of_parts view p = (view, record { prepared = p.0; echoed = p.1 })

-- what is claimed at a view: from 1 to the last one
unfoldable pub claimed_at : ℕ → List ℕ → Found Claim
claimed_at view bytes =
    if nat_le 1 view
    then (if nat_le view LAST_VIEW then claim_of_parts view <$> pair_at (prepared_at view) (echoed_at view) bytes else None)
    else None

unfoldable pub claim_at : List ℕ → Found (ℕ × Claim)
claim_at = pair_at slot_at (upto_at w16 LAST_VIEW claimed_at)

-- ---- bodies

unfoldable pub propose_at : Version → List ℕ → Found (ℕ × (ℕ × Entry))
propose_at version = pair_at slot_at (pair_at view_number_at (entry_at version))

unfoldable pub step_at : List ℕ → Found (ℕ × (ℕ × List ℕ))
step_at = pair_at slot_at (pair_at view_number_at (bytes_at 32))

unfoldable pub voted_at : List ℕ → Found (Vote × (Bool × Session))
voted_at = pair_at vote_at (pair_at flag_at session_at)

unfoldable pub decided_message_at : List ℕ → Found (List ℕ × Bool)
decided_message_at = pair_at (bytes_at 32) flag_at

unfoldable pub done_at : Version → List ℕ → Found (ℕ × Entry)
done_at version = pair_at slot_at (entry_at version)

-- the place of an action in a slot, which version 1 leaves out
abbrev pub asked_place_at : Version → List ℕ → Found ℕ
asked_place_at One bytes = Some (0, bytes)
asked_place_at Two bytes = tested_at (λ n. nat_lt n MOST_ACTIONS) (number_at w8) bytes

unfoldable pub ask_proof_at : Version → List ℕ → Found (ℕ × ℕ)
ask_proof_at version = pair_at slot_at (asked_place_at version)

unfoldable pub told_message_at : List ℕ → Found (Key × State)
told_message_at = pair_at key_at state_at

abbrev pub propose_of : ℕ × (ℕ × Entry) → Message
propose_of p = message.Propose p.0 p.1.0 p.1.1

abbrev pub echo_of : ℕ × (ℕ × List ℕ) → Message
echo_of p = message.Echo p.0 p.1.0 p.1.1

abbrev pub confirm_of : ℕ × (ℕ × List ℕ) → Message
confirm_of p = message.Confirm p.0 p.1.0 p.1.1

abbrev pub change_from : ℕ × Claim → Message
change_from p = message.Change p.0 p.1.0 p.1.1

abbrev pub voted_of : Vote × (Bool × Session) → Message
voted_of p = message.Voted p.0 p.1.0 p.1.1

abbrev pub decided_of : List ℕ × Bool → Message
decided_of p = message.Decided p.0 p.1

abbrev pub done_of : ℕ × Entry → Message
done_of p = message.Done p.0 p.1

abbrev pub asked_of : Key → Message
asked_of key = message.Ask (Some key)

abbrev pub ask_proof_of : ℕ × ℕ → Message
ask_proof_of p = message.AskProof p.0 p.1

abbrev pub told_message : Key × State → Message
told_message p = message.Told p.0 p.1

-- the body of a message of this kind, but for one of no byte
abbrev pub message_at : Version → ℕ → List ℕ → Found Message
message_at version zero bytes = None
message_at version (suc zero) bytes = message.Submit <$> session_at bytes
message_at version (suc (suc zero)) bytes = propose_of <$> propose_at version bytes
message_at version (suc (suc (suc zero))) bytes = echo_of <$> step_at bytes
message_at version (suc (suc (suc (suc zero)))) bytes = confirm_of <$> step_at bytes
message_at version (suc (suc (suc (suc (suc zero))))) bytes = change_from <$> claim_at bytes
message_at version (suc (suc (suc (suc (suc (suc zero)))))) bytes = voted_of <$> voted_at bytes
message_at version (suc (suc (suc (suc (suc (suc (suc zero))))))) bytes = decided_of <$> decided_message_at bytes
message_at version (suc (suc (suc (suc (suc (suc (suc (suc zero)))))))) bytes = message.Want <$> slot_at bytes
message_at version (suc (suc (suc (suc (suc (suc (suc (suc (suc zero))))))))) bytes = done_of <$> done_at version bytes
message_at version (suc (suc (suc (suc (suc (suc (suc (suc (suc (suc zero)))))))))) bytes = asked_of <$> key_at bytes
message_at version (suc (suc (suc (suc (suc (suc (suc (suc (suc (suc (suc zero))))))))))) bytes = told_message <$> told_message_at bytes
message_at version (suc (suc (suc (suc (suc (suc (suc (suc (suc (suc (suc (suc zero)))))))))))) bytes =
    message.Head <$> checkpoint_at version bytes
message_at version (suc (suc (suc (suc (suc (suc (suc (suc (suc (suc (suc (suc (suc zero))))))))))))) bytes =
    ask_proof_of <$> ask_proof_at version bytes
message_at version (suc (suc (suc (suc (suc (suc (suc (suc (suc (suc (suc (suc (suc (suc zero)))))))))))))) bytes =
    message.Proof <$> proof_at version bytes
message_at version (suc (suc (suc (suc (suc (suc (suc (suc (suc (suc (suc (suc (suc (suc (suc kind))))))))))))))) bytes = None
