-- Whoever is opened has a key.
use Rattle.std.proofs.Common.{◌≡◌, ℕ, ◌-◌, Bool, true, false, List, Option, Some, None, Ok, Err, IsSome, refl, ap, subst, nat_lt, bytes_eq, cond, length, take}
use Rattle.cs_base.specs.declared.node_id.NodeId.{NodeId}
use Rattle.cs_wire_message.specs.declared.message.Message.{Message}
use Rattle.cs_wire_message.specs.Body.{message_whole}
use Rattle.cs_wire.specs.declared.head.Head.{Head}
use Rattle.cs_wire.specs.declared.keys.Row.{Row}
use Rattle.cs_wire.specs.declared.keys.Keys.{Keys}
use Rattle.cs_wire.specs.declared.opening.OpenError.{OpenError}
use Rattle.cs_wire.specs.declared.opening.OpenError.TheVariants as errors
use Rattle.cs_wire_message.specs.Message.{is_kind}
use Rattle.cs_wire.specs.Datagram.{magic_of, body_in}
use Rattle.cs_wire.specs.Heads.{head_seen}
use Rattle.cs_wire.specs.Keys.{row_of}
use Rattle.cs_base.specs.NodeId.{same_name}
use Rattle.cs_base.specs.Fields.{IsBytes}
use Rattle.cs_base.proofs.Forms.{IsBytes-drop, IsBytes-take}
use Rattle.cs_wire.specs.Opened.{Opened, opened, opened_body, said_by, unless_fault}
use Rattle.cs_wire.specs.Opens.{Opens, unless, keyed_fault, head_fault, open_fault}
use Rattle.cs_wire.specs.declared.view.MessageView.{MessageView}
use Rattle.cs_wire.proofs.Masters.{opened_ok, opened_err}
use Rattle.cs_node.specs.Speaking.{sender_of}

-- what follows where no test fails
past-test : (test : Bool) (error : OpenError) (later : Option OpenError) → unless test error later ≡ None → later ≡ None
past-test true error later none = none
past-test false error later none = let q : Some error ≡ None = none in cc

keyed : (head : Head) (bytes : List ℕ) (row : Option Row) → keyed_fault head bytes row ≡ None → IsSome row
keyed head bytes None none = let q : Some errors.Stranger ≡ None = none in cc
keyed head bytes (Some row) none = refl

headed : (keys : Keys) (bytes : List ℕ) (head : Head) → head_fault keys bytes (Some head) ≡ None → IsSome (row_of head.from keys)
headed keys bytes head none =
    keyed head bytes (row_of head.from keys)
    (past-test (same_name head.to keys.me) errors.NotMine _ (past-test (is_kind head.kind) errors.Kind _ (past-test (bytes_eq head.magic (magic_of keys.version)) errors.Magic _ none)))

long : (short : Bool) (later : Option OpenError) → cond short (Some errors.Short) later ≡ None → later ≡ None
long true later none = let q : Some errors.Short ≡ None = none in cc
long false later none = none

abbrev who : NodeId → Opened → NodeId
who from (Ok said) = said.0
who from (Err error) = from

sayer : (from sender : NodeId) (found : Option Message) (m : Message) → said_by from found ≡ Ok (sender, m) → from ≡ sender
sayer from sender None m is = let q : Err errors.Body ≡ Ok (sender, m) = is in cc
sayer from sender (Some n) m is = ap (who from) is

by-head : (keys : Keys) (bytes : List ℕ) (sender : NodeId) (m : Message) (found : Option Head) → head_fault keys bytes found ≡ None → opened_body keys.version bytes found ≡ Ok (sender, m) → IsSome (row_of sender keys)
by-head keys bytes sender m None none is = let q : Err errors.Short ≡ Ok (sender, m) = is in cc
by-head keys bytes sender m (Some head) none is =
    subst (λ (n : NodeId). IsSome (row_of n keys)) (sayer head.from sender (message_whole keys.version head.kind (body_in bytes)) m is) (headed keys bytes head none)

by-fault : (keys : Keys) (bytes : List ℕ) (sender : NodeId) (m : Message) (fault : Option OpenError) → open_fault keys bytes ≡ fault → unless_fault fault (opened_body keys.version bytes (head_seen bytes)) ≡ Ok (sender, m) → IsSome (row_of sender keys)
by-fault keys bytes sender m (Some error) at is = let q : Err error ≡ Ok (sender, m) = is in cc
by-fault keys bytes sender m None at is = by-head keys bytes sender m (head_seen bytes) (long (nat_lt (length bytes) 49) (head_fault keys bytes (head_seen bytes)) at) is

pub opener-held : (keys : Keys) (bytes : List ℕ) (sender : NodeId) (m : Message) → opened keys bytes ≡ Ok (sender, m) → IsSome (row_of sender keys)
opener-held keys bytes sender m is = by-fault keys bytes sender m (open_fault keys bytes) refl is

-- ---- as whom bytes open

pub sender-found : (keys : Keys) (bytes : List ℕ) (found : NodeId × MessageView) → Opens keys bytes (Ok found) → Some found.0 ≡ sender_of (opened keys bytes)
sender-found keys bytes found o = ap sender_of (opened_ok keys bytes found o.0 o o.2)

pub sender-none : (keys : Keys) (bytes : List ℕ) (e : OpenError) → IsBytes bytes → Opens keys bytes (Err e) → None ≡ sender_of (opened keys bytes)
sender-none keys bytes e byte o =
    ap sender_of (opened_err keys bytes e (IsBytes-drop 17 (take (length bytes - 32) bytes) (IsBytes-take (length bytes - 32) bytes byte)) o)
