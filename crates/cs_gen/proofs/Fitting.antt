-- The coins, transactions and sessions of a generated schedule are within all limits.
use Rattle.std.proofs.Common.{◌≡◌, ℕ, zero, suc, ◌+◌, ◌-◌, ◌<◌, ◌≤◌, ◌^◌, List, [], ◌∷◌, ◌++◌, length, refl, ap, ◌∙◌, arith, pos}
use Rattle.std.proofs.lemmas.List.{length-append}
use Rattle.std.specs.Prelude.{codes, slice_index}
use Rattle.std.proofs.lemmas.Int.{ints}
use Rattle.std.specs.Int.RustNames.{FitsSigned}
use Rattle.std.specs.Int.{w32, w64, to_be_bytes, cast_unsigned}
use Rattle.sha2.specs.Sha256.{digest_bytes, sha256}
use Rattle.sha2.proofs.Facts256.{length-sha256}
use Rattle.cs_base.specs.Fields.{IsBytes, counted}
use Rattle.cs_base.proofs.Forms.{wide64}
use Rattle.cs_tx_value.specs.declared.object.Object.{Object}
use Rattle.cs_tx_value.specs.declared.value.Value.TheVariants.{Int}
use Rattle.cs_tx_value.specs.Encoding.{value_encoding, AtMost}
use Rattle.cs_tx_value.specs.Name.{name_encoding, NameFits}
use Rattle.cs_tx_value.specs.Object.{object_encoding, DigestFits, ObjectFits}
use Rattle.cs_tx_value.specs.laws.Layers.{encoding_int, int_fits}
use Rattle.cs_tx_types.specs.declared.session.Session.{Session}
use Rattle.cs_tx_types.specs.declared.trace.Trace.{Trace}
use Rattle.cs_tx_types.specs.declared.transaction.Tx.{Tx}
use Rattle.cs_tx_types.specs.Transaction.{keyed_encoding, trace_front, trace_back, TraceFits, tx_encoding, TxFits}
use Rattle.cs_tx_types.specs.Session.{DummyFits, SessionFits}
use Rattle.cs_tx.specs.Digest.{name_of_genesis}
use Rattle.cs_tx.specs.Token.{token_id}
use Rattle.cs_wire_message.proofs.Bytes.{bytes-nil, bytes-append, bytes-32}
use Rattle.cs_gen.specs.Coins.{coin}
use Rattle.cs_gen.specs.Rounds.{transfer, split_tx, session}

bytes-digest : (words : List ℕ) (n : ℕ) → IsBytes (digest_bytes words n)
unfolding digest_bytes
bytes-digest words zero = bytes-nil
bytes-digest words (suc n) = bytes-append (digest_bytes words n) (to_be_bytes w32 (slice_index words n)) (bytes-digest words n) (bytes-32 (slice_index words n))

pub hash_fits : (bytes : List ℕ) → DigestFits (sha256 bytes)
unfolding sha256
hash_fits bytes = (length-sha256 bytes, bytes-digest _ 8)

coin_bytes : IsBytes (codes "coin")
coin_bytes zero = omega arith
coin_bytes (suc zero) = omega arith
coin_bytes (suc (suc zero)) = omega arith
coin_bytes (suc (suc (suc zero))) = omega arith
coin_bytes (suc (suc (suc (suc i)))) = omega arith

coin_name_fits : NameFits (codes "coin")
coin_name_fits = ((omega arith, coin_bytes), refl)

transfer_bytes : IsBytes (codes "transfer")
transfer_bytes zero = omega arith
transfer_bytes (suc zero) = omega arith
transfer_bytes (suc (suc zero)) = omega arith
transfer_bytes (suc (suc (suc zero))) = omega arith
transfer_bytes (suc (suc (suc (suc zero)))) = omega arith
transfer_bytes (suc (suc (suc (suc (suc zero))))) = omega arith
transfer_bytes (suc (suc (suc (suc (suc (suc zero)))))) = omega arith
transfer_bytes (suc (suc (suc (suc (suc (suc (suc zero))))))) = omega arith
transfer_bytes (suc (suc (suc (suc (suc (suc (suc (suc i)))))))) = omega arith

transfer_name_fits : NameFits (codes "transfer")
transfer_name_fits = ((omega arith, transfer_bytes), refl)

signed_fits : (worth : ℕ) → worth < 2 ^ 63 → FitsSigned w64 (pos worth)
signed_fits worth small = omega (arith, ints)

value_length : (worth : ℕ) → length (value_encoding (Int (pos worth))) ≡ 9
value_length worth = ap length (encoding_int (pos worth)) ∙ ap suc (wide64.len (cast_unsigned w64 (pos worth)))

pub coin_length : (worth : ℕ) → length (object_encoding (coin worth)) ≡ 47
coin_length worth =
    let value = value_encoding (Int (pos worth)) in
    let head = length-sha256 (codes "token") in
    let body = length-append token_id (4 ∷ (codes "coin" ++ (1 ∷ (value ++ [])))) in
    let last = length-append value [] in
    omega (arith, head, body, last, value_length worth)

pub coin_fits : (worth : ℕ) → worth < 2 ^ 63 → ObjectFits (coin worth)
coin_fits worth small = record {
  contract = hash_fits (codes "token");
  type_name = coin_name_fits;
  values = (omega arith, (int_fits 4 (Int (pos worth)) (pos worth) refl (signed_fits worth small), tt));
  small = omega (arith, coin_length worth);
}

-- a transfer of a coin to two
module _ (name : List ℕ) (worth first second : ℕ) (of_name : DigestFits name) (w : worth < 2 ^ 63) (a : first < 2 ^ 63) (b : second < 2 ^ 63) where
  abbrev tx : Tx
  tx = transfer (name, coin worth) first second

  abbrev trace : Trace
  trace = record {
    contract = token_id;
    method = codes "transfer";
    inputs = (name, coin worth) ∷ [];
    references = [];
    parameters = [];
    outputs = coin first ∷ coin second ∷ [];
    returns = [];
    deps = [];
  }

  trace_fits : TraceFits trace
  trace_fits = record {
    contract = hash_fits (codes "token");
    method = transfer_name_fits;
    inputs = (omega arith, ((of_name, coin_fits worth w), tt));
    references = (omega arith, tt);
    parameters = (omega arith, tt);
    outputs = (omega arith, (coin_fits first a, (coin_fits second b, tt)));
    returns = (omega arith, tt);
    deps = (omega arith, tt);
  }

  inputs_length : length (counted keyed_encoding ((name, coin worth) ∷ [])) ≡ 80
  inputs_length =
      let taken = name ++ object_encoding (coin worth) in
      let parts : length taken ≡ length name + length (object_encoding (coin worth)) = length-append name (object_encoding (coin worth)) in
      let all : length (taken ++ []) ≡ length taken + 0 = length-append taken [] in
      let sum : length (taken ++ []) ≡ 79 = omega (arith, parts, all, of_name.0, coin_length worth) in
      ap suc sum

  outputs_length : length (counted object_encoding (coin first ∷ coin second ∷ [])) ≡ 95
  outputs_length =
      let made = object_encoding (coin first) in
      let rest = object_encoding (coin second) in
      let both : length (made ++ (rest ++ [])) ≡ length made + length (rest ++ []) = length-append made (rest ++ []) in
      let last : length (rest ++ []) ≡ length rest + 0 = length-append rest [] in
      let sum : length (made ++ (rest ++ [])) ≡ 94 = omega (arith, both, last, coin_length first, coin_length second) in
      ap suc sum

  front_length : length (trace_front trace) ≡ 122
  front_length =
      let inputs = counted keyed_encoding ((name, coin worth) ∷ []) in
      let behind : length (inputs ++ (0 ∷ [])) ≡ length inputs + 1 = length-append inputs (0 ∷ []) in
      let named : length (name_encoding (codes "transfer") ++ (inputs ++ (0 ∷ []))) ≡ 9 + length (inputs ++ (0 ∷ [])) = length-append (name_encoding (codes "transfer")) (inputs ++ (0 ∷ [])) in
      length-append token_id (name_encoding (codes "transfer") ++ (inputs ++ (0 ∷ []))) ∙ omega (arith, length-sha256 (codes "token"), named, behind, inputs_length)

  back_length : length (trace_back trace) ≡ 98
  back_length =
      let outputs = counted object_encoding (coin first ∷ coin second ∷ []) in
      let behind : length (outputs ++ (0 ∷ 0 ∷ [])) ≡ length outputs + 2 = length-append outputs (0 ∷ 0 ∷ []) in
      let sum : length (outputs ++ (0 ∷ 0 ∷ [])) ≡ 97 = omega (arith, behind, outputs_length) in
      ap suc sum

  tx_length : length (tx_encoding tx) ≡ 221
  tx_length =
      let code = trace_front trace ++ trace_back trace in
      let parts : length code ≡ length (trace_front trace) + length (trace_back trace) = length-append (trace_front trace) (trace_back trace) in
      let all : length (code ++ []) ≡ length code + 0 = length-append code [] in
      let sum : length (code ++ []) ≡ 220 = omega (arith, parts, all, front_length, back_length) in
      ap suc sum

  pub transfer_fits : TxFits (transfer (name, coin worth) first second)
  transfer_fits = record {
    some = omega arith;
    traces = (omega arith, (trace_fits, tt));
    small = omega (arith, tx_length);
  }

-- the transaction of a round
pub split_fits : (place worth share : ℕ) → worth < 2 ^ 63 → share ≤ worth → TxFits (split_tx place worth share)
split_fits place worth share small part =
    transfer_fits (name_of_genesis place (coin worth)) worth share (worth - share) (hash_fits _) small (omega arith) (omega arith)

pub session_fits : (place worth share number : ℕ) (dummies : List (ℕ × ℕ)) → worth < 2 ^ 63 → share ≤ worth → number < 2 ^ 64 → AtMost 15 DummyFits dummies
    → SessionFits (session (split_tx place worth share) number dummies)
session_fits place worth share number dummies small part low fit = record { tx = split_fits place worth share small part; number = low; dummies = fit }

-- so is the session that is made of one, before it has dummies
pub made_fits : (place worth share : ℕ) (x : Session) → x ≡ session (split_tx place worth share) place [] → worth < 2 ^ 63 → share ≤ worth → place < 2 ^ 32 → SessionFits x
made_fits place worth share x is small part low = rw is (session_fits place worth share place [] small part (omega arith) (omega arith, tt))

pub split_is : (place worth share : ℕ) (name : List ℕ) (spent : Object) (made : Tx) → spent ≡ coin worth → name ≡ name_of_genesis place spent → made ≡ transfer (name, spent) share (worth - share)
    → made ≡ split_tx place worth share
split_is place worth share name spent made of_coin of_name is =
    is ∙ ap (λ (n : List ℕ). transfer (n, spent) share (worth - share)) of_name ∙ ap (λ (object : Object). transfer (name_of_genesis place object, object) share (worth - share)) of_coin
