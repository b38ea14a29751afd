-- The plain ledger. It has no shards, votes, locks, sessions or messages.
use Rattle.std.specs.Prelude.{◌≡◌, ℕ, Bool, true, false, not, ◌&&◌, ◌||◌, List, [], ◌∷◌, ◌++◌, Option, Some, None, bytes_eq, if◌then◌else◌}
use Rattle.cs_base.specs.Options.{or_else}
use Rattle.cs_base.specs.Lists.{IsIn, is_empty}

-- the 32 bytes of a name or a digest, or the encoding of an object
abbrev pub Bytes : Type 0
Bytes = List ℕ

-- an object under its name
pub record Item : Type 0 where
  pub name : Bytes
  pub object : Bytes

-- what the ledger needs of a transaction
pub record Transaction : Type 0 where
  pub digest : Bytes
  pub inputs : List Item
  pub references : List Item
  pub outputs : List Item
  pub sound : Bool  -- the objects of each trace are of its contract, and it rests on earlier traces alone
  pub approved : Bool  -- the check of each trace says yes

abbrev pub names : List Item → List Bytes
names [] = []
names (item ∷ items) = item.name ∷ names items

abbrev pub has : Bytes → List Bytes → Bool
has name [] = false
has name (other ∷ others) = bytes_eq name other || has name others

-- no name stands twice
abbrev pub all_differ : List Bytes → Bool
all_differ [] = true
all_differ (name ∷ others) = not (has name others) && all_differ others

-- no name of the first list is in the second
abbrev pub apart : List Bytes → List Bytes → Bool
apart [] others = true
apart (name ∷ more) others = not (has name others) && apart more others

-- no input stands twice, and none is a reference too
abbrev pub uses_once : Transaction → Bool
uses_once tx = all_differ (names tx.inputs) && apart (names tx.inputs) (names tx.references)

-- it has an input, uses each once, and its traces are sound
abbrev pub is_well_formed : Transaction → Bool
is_well_formed tx = not (is_empty tx.inputs) && (uses_once tx && tx.sound)

-- the object under a name, the first one
abbrev pub object_named : List Item → Bytes → Option Bytes
object_named [] name = None
object_named (item ∷ items) name = if bytes_eq name item.name then Some item.object else object_named items name

pub record Ledger : Type 0 where
  pub active : Bytes → Option Bytes  -- the object under each name
  pub created : List Bytes  -- every name that was ever created

abbrev pub genesis_ledger : List Item → Ledger
genesis_ledger genesis = record { active = object_named genesis; created = names genesis }

-- without the inputs and with the outputs
abbrev pub ledger_after : Ledger → Transaction → Ledger
ledger_after ledger tx =
    record {
      active = λ name.
          or_else (object_named tx.outputs name) (if has name (names tx.inputs) then None else ledger.active name);
      created = ledger.created ++ names tx.outputs;
    }

-- each item is in the ledger with exactly the carried object
abbrev pub HoldsAll : Ledger → List Item → Type 0
HoldsAll ledger items = (item : Item) → IsIn item items → ledger.active item.name ≡ Some item.object

-- the ledger takes a transaction
pub record Takes (ledger : Ledger) (tx : Transaction) : Type 0 where
  pub well_formed : is_well_formed tx ≡ true
  pub approved : tx.approved ≡ true
  pub inputs : HoldsAll ledger tx.inputs
  pub references : HoldsAll ledger tx.references
  pub fresh : (item : Item) → IsIn item tx.outputs → IsIn item.name ledger.created → ⊥
  pub differ : all_differ (names tx.outputs) ≡ true

-- the ledger takes these transactions one after the other
abbrev pub Serial : Ledger → List Transaction → Type 0
Serial ledger [] = Unit {0}
Serial ledger (tx ∷ later) = Takes ledger tx × Serial (ledger_after ledger tx) later

-- the ledger after all of them
abbrev pub ledger_of : Ledger → List Transaction → Ledger
ledger_of ledger [] = ledger
ledger_of ledger (tx ∷ later) = ledger_of (ledger_after ledger tx) later

-- no object is an input of two of these transactions
abbrev pub IsSpentOnce : List Transaction → Type 0
IsSpentOnce [] = Unit {0}
IsSpentOnce (tx ∷ later) =
    ((item again : Item) (other : Transaction) → IsIn item tx.inputs → IsIn other later → IsIn again other.inputs →
    item.name ≡ again.name → ⊥)
    × IsSpentOnce later
