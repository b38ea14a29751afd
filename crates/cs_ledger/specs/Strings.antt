-- The strings that are hashed, and that they do not collide.
use Rattle.std.specs.Prelude.{◌≡◌, Bool, true, List, [], ◌∷◌, ◌++◌}
use Rattle.cs_base.specs.Lists.{IsIn}
use Rattle.cs_ledger.specs.Ledger.{Bytes, Item, Transaction, all_differ}
use Rattle.cs_ledger.specs.Session.{Session, DummyName}

-- an output: its place in the transaction (two numbers of two bytes), and the object
pub record Output : Type 0 where
  pub place : Bytes
  pub object : Bytes

-- a transaction as it is written, with its encoding
pub record Written : Type 0 where
  pub code : Bytes
  pub inputs : List Item
  pub references : List Item
  pub outputs : List Output
  pub sound : Bool
  pub approved : Bool

pub record WrittenSession : Type 0 where
  pub code : Bytes
  pub transaction : Written
  pub dummies : List DummyName

-- a genesis object: its number (four bytes), and the object
pub record Origin : Type 0 where
  pub place : Bytes
  pub object : Bytes

-- the strings under the letters T, S, O and G
abbrev pub transaction_string : Written → Bytes
transaction_string tx = 84 ∷ tx.code

abbrev pub session_string : WrittenSession → Bytes
session_string x = 83 ∷ x.code

abbrev pub output_string : (Bytes → Bytes) → Written → Output → Bytes
output_string hash tx output = 79 ∷ (hash (transaction_string tx) ++ output.place)

abbrev pub genesis_string : Origin → Bytes
genesis_string origin = 71 ∷ (origin.place ++ origin.object)

-- what the shards need, read off what is written
abbrev pub written_outputs : (Bytes → Bytes) → Written → List Output → List Item
written_outputs hash tx [] = []
written_outputs hash tx (output ∷ outputs) =
    record { name = hash (output_string hash tx output); object = output.object } ∷ written_outputs hash tx outputs

abbrev pub transaction_of : (Bytes → Bytes) → Written → Transaction
transaction_of hash tx =
    record {
      digest = hash (transaction_string tx);
      inputs = tx.inputs;
      references = tx.references;
      outputs = written_outputs hash tx tx.outputs;
      sound = tx.sound;
      approved = tx.approved;
    }

abbrev pub session_from : (Bytes → Bytes) → WrittenSession → Session
session_from hash x =
    record {
      digest = hash (session_string x);
      transaction = transaction_of hash x.transaction;
      dummies = x.dummies;
    }

abbrev pub sessions_from : (Bytes → Bytes) → List WrittenSession → List Session
sessions_from hash [] = []
sessions_from hash (x ∷ xs) = session_from hash x ∷ sessions_from hash xs

abbrev pub genesis_of_origins : (Bytes → Bytes) → List Origin → List Item
genesis_of_origins hash [] = []
genesis_of_origins hash (origin ∷ origins) =
    record { name = hash (genesis_string origin); object = origin.object } ∷ genesis_of_origins hash origins

abbrev pub places_of : List Output → List Bytes
places_of [] = []
places_of (output ∷ outputs) = output.place ∷ places_of outputs

-- a string that is hashed
pub data IsString (hash : Bytes → Bytes) (origins : List Origin) (written : List WrittenSession) : Bytes → Type 0 where
  Genesis : (origin : Origin) → IsIn origin origins → IsString hash origins written (genesis_string origin)
  OfSession : (x : WrittenSession) → IsIn x written → IsString hash origins written (session_string x)
  OfTransaction : (x : WrittenSession) → IsIn x written
      → IsString hash origins written (transaction_string x.transaction)
  OfOutput : (x : WrittenSession) (output : Output) → IsIn x written → IsIn output x.transaction.outputs →
      IsString hash origins written (output_string hash x.transaction output)

-- any two of them with one hash are one
abbrev pub NoHashCollision : (Bytes → Bytes) → List Origin → List WrittenSession → Type 0
NoHashCollision hash origins written =
    (a b : Bytes) → IsString hash origins written a → IsString hash origins written b → hash a ≡ hash b → a ≡ b

-- what the encodings promise: one encoding is that of one value, and the places of one transaction differ
pub record IsFaithful (written : List WrittenSession) : Type 0 where
  pub sessions : (x y : WrittenSession) → IsIn x written → IsIn y written → x.code ≡ y.code → x ≡ y
  pub transactions : (x y : WrittenSession) → IsIn x written → IsIn y written →
      x.transaction.code ≡ y.transaction.code → x.transaction ≡ y.transaction
  pub places : (x : WrittenSession) → IsIn x written → all_differ (places_of x.transaction.outputs) ≡ true
