-- Reading, and the keys that a master key gives.
use Rattle.std.proofs.Common.{◌≡◌, ℕ, Bool, true, false, cond, List, [], ◌∷◌, length, Option, Some, None, Ok, Err, refl, sym, ap, ◌∙◌}
use Rattle.std.specs.Prelude.{◌||◌, not, nat_lt, bytes_eq}
use Rattle.cs_base.specs.declared.config.Config.{Config}
use Rattle.cs_base.specs.declared.node_id.NodeId.{NodeId}
use Rattle.cs_base.specs.NodeId.{is_named, same_name}
use Rattle.cs_base.specs.Fields.{IsBytes}
use Rattle.cs_base.specs.declared.version.Version.{Version}
use Rattle.cs_wire_message.specs.declared.message.Message.{Message}
use Rattle.cs_wire_message.specs.Message.{kind_of, body_of, is_kind}
use Rattle.cs_wire_message.specs.Body.{Has, message_whole}
use Rattle.cs_wire_message.proofs.Wholes.{whole_has, has_whole}
use Rattle.cs_wire.specs.declared.head.Head.{Head}
use Rattle.cs_wire.specs.declared.keys.Row.{Row}
use Rattle.cs_wire.specs.declared.keys.Keys.{Keys}
use Rattle.cs_wire.specs.declared.opening.OpenError.{OpenError}
use Rattle.cs_wire.specs.declared.opening.OpenError.TheVariants as errors
use Rattle.cs_wire.specs.declared.view.MessageView.{MessageView}
use Rattle.cs_wire.specs.Datagram.{magic_of, sealed, body_in, datagram_with}
use Rattle.cs_wire.specs.Heads.{head_seen}
use Rattle.cs_wire.specs.Keys.{row_of_peer, row_of, row_between, row_expected, IsOfMaster}
use Rattle.cs_wire.specs.Opens.{ShowsMessage, open_fault, head_fault, keyed_fault, HasNoBody, Opens, unless}
use Rattle.cs_wire.specs.Opened.{opened, opened_body, said_by, unless_fault, rows_with, keys_of_master}
use Rattle.cs_wire.specs.AllNames.{names_of, has_name}
use Rattle.cs_wire.proofs.Parts.{are_same}
use Rattle.cs_wire.proofs.Named.{has_named}
use Rattle.cs_wire.proofs.Rows.{row_skipped}
use Rattle.cs_wire.proofs.Unsealed.{is_clear}

-- ---- sealing

pub sealed_is : (version : Version) (key : List ℕ) (from to : NodeId) (m : Message) → sealed version key from to m ≡ datagram_with version key from to (kind_of m) (body_of version m)
sealed_is version key from to m = refl

-- ---- reading

-- what was opened is what the bytes say
pub opened_ok : (keys : Keys) (bytes : List ℕ) (found : NodeId × MessageView) (m : Message) → Opens keys bytes (Ok found) → ShowsMessage found.1 m → Ok (found.0, m) ≡ opened keys bytes
opened_ok keys bytes found m o shown =
    let c = is_clear keys bytes found.0 o.0 o.1 in
    let one : Some o.0 ≡ Some m = sym (has_whole found.1.version found.1.kind found.1.body.now o.0 o.2) ∙ has_whole found.1.version found.1.kind found.1.body.now m shown in
    let whole : message_whole keys.version (kind_of o.0) (body_in bytes) ≡ Some m = has_whole keys.version (kind_of o.0) (body_in bytes) o.0 c.has ∙ one in
    sym (
    ap (λ (e : Option OpenError). unless_fault e (opened_body keys.version bytes (head_seen bytes))) c.none
    ∙ ap (opened_body keys.version bytes) c.seen
    ∙ ap (said_by found.0) whole
    )

fault_is : (keys : Keys) (bytes : List ℕ) (e : OpenError) → open_fault keys bytes ≡ Some e → Err e ≡ opened keys bytes
fault_is keys bytes e is = sym (ap (λ (f : Option OpenError). unless_fault f (opened_body keys.version bytes (head_seen bytes))) is)

-- what is long enough to have no fault has a head
headless : (keys : Keys) (bytes : List ℕ) (short : Bool) → cond short (Some errors.Short) (head_fault keys bytes None) ≡ None → ⊥
headless keys bytes true e = absurd cc
headless keys bytes false e = absurd cc

no_message : (version : Version) (kind : ℕ) (body : List ℕ) (found : Option Message) → message_whole version kind body ≡ found → IsBytes body → ((m : Message) × Has version kind body m → ⊥) → found ≡ None
no_message version kind body None is byte none = refl
no_message version kind body (Some m) is byte none = absurd (none (m, whole_has version kind body m byte is))

bodiless : (keys : Keys) (bytes : List ℕ) (found : Option Head) → head_seen bytes ≡ found → open_fault keys bytes ≡ None → IsBytes (body_in bytes) → HasNoBody keys.version bytes found → Err errors.Body ≡ opened_body keys.version bytes found
bodiless keys bytes None is clear byte none =
    absurd (headless keys bytes (nat_lt (length bytes) 49) (sym (ap (λ (h : Option Head). cond (nat_lt (length bytes) 49) (Some errors.Short) (head_fault keys bytes h)) is) ∙ clear))
bodiless keys bytes (Some head) is clear byte none =
    sym (ap (said_by head.from) (no_message keys.version head.kind (body_in bytes) (message_whole keys.version head.kind (body_in bytes)) refl byte none))

-- what wasn't opened failed the test that is named
pub opened_err : (keys : Keys) (bytes : List ℕ) (e : OpenError) → IsBytes (body_in bytes) → Opens keys bytes (Err e) → Err e ≡ opened keys bytes
opened_err keys bytes errors.Short byte o = fault_is keys bytes errors.Short o
opened_err keys bytes errors.Magic byte o = fault_is keys bytes errors.Magic o
opened_err keys bytes errors.Kind byte o = fault_is keys bytes errors.Kind o
opened_err keys bytes errors.NotMine byte o = fault_is keys bytes errors.NotMine o
opened_err keys bytes errors.Stranger byte o = fault_is keys bytes errors.Stranger o
opened_err keys bytes errors.Length byte o = fault_is keys bytes errors.Length o
opened_err keys bytes errors.Tag byte o = fault_is keys bytes errors.Tag o
opened_err keys bytes errors.Body byte o =
    bodiless keys bytes (head_seen bytes) refl o.0 byte o.1
    ∙ sym (ap (λ (f : Option OpenError). unless_fault f (opened_body keys.version bytes (head_seen bytes))) o.0)

-- ---- rows

or_comm : (a b : Bool) → (a || b) ≡ (b || a)
or_comm true true = refl
or_comm true false = refl
or_comm false true = refl
or_comm false false = refl

row_seen : (master : List ℕ) (me peer name : NodeId) (rows : List Row) (one : Bool) → same_name name me ≡ false → row_of_peer peer rows ≡ row_expected master me one peer
    → (same : Bool) → same_name name peer ≡ same → cond same (Some (row_between master me name)) (row_of_peer peer rows) ≡ row_expected master me (same || one) peer
row_seen master me peer name rows one other later true same =
    let is : name ≡ peer = are_same name peer same in
    let apart : same_name peer me ≡ false = ap (λ (n : NodeId). same_name n me) (sym is) ∙ other in
    ap (λ (n : NodeId). Some (row_between master me n)) is ∙ sym (ap (λ b. cond (not b) (Some (row_between master me peer)) None) apart)
row_seen master me peer name rows one other later false same = later

row_by : (master : List ℕ) (me peer name : NodeId) (rows : List Row) (one : Bool) → row_of_peer peer rows ≡ row_expected master me one peer → (mine : Bool) → same_name name me ≡ mine
    → row_of_peer peer (cond mine rows (row_between master me name ∷ rows)) ≡ row_expected master me (same_name name peer || one) peer
row_by master me peer name rows one later true is =
    row_skipped master me peer name rows one is later ∙ ap (λ b. row_expected master me b peer) (or_comm one (same_name name peer))
row_by master me peer name rows one later false is = row_seen master me peer name rows one is later (same_name name peer) refl

row_within : (master : List ℕ) (me peer : NodeId) (names : List NodeId) → row_of_peer peer (rows_with master me names) ≡ row_expected master me (has_name peer names) peer
row_within master me peer [] = refl
row_within master me peer (name ∷ names) = row_by master me peer name (rows_with master me names) (has_name peer names) (row_within master me peer names) (same_name name me) refl

row_alike : (config : Config) (master : List ℕ) (me peer : NodeId) → row_of peer (keys_of_master config master me) ≡ row_expected master me (is_named config peer) peer
row_alike config master me peer = row_within master me peer (names_of config) ∙ ap (λ b. row_expected master me b peer) (has_named config peer)

-- ---- keys of one holder with the same rows

module _ (keys keys2 : Keys) (mine : keys.me ≡ keys2.me) (one : keys.version ≡ keys2.version) (rows : (peer : NodeId) → row_of peer keys ≡ row_of peer keys2) (bytes : List ℕ) where
  head_alike : (found : Option Head) → head_fault keys bytes found ≡ head_fault keys2 bytes found
  head_alike None = refl
  head_alike (Some head) =
      let F : Version → NodeId → Option Row → Option OpenError = λ version me row.
      unless (bytes_eq head.magic (magic_of version)) errors.Magic
      (unless (is_kind head.kind) errors.Kind
      (unless (same_name head.to me) errors.NotMine
      (keyed_fault head bytes row))) in
      ap (λ (version : Version). F version keys.me (row_of head.from keys)) one
      ∙ ap (λ (me : NodeId). F keys2.version me (row_of head.from keys)) mine ∙ ap (F keys2.version keys2.me) (rows head.from)

  alike : opened keys bytes ≡ opened keys2 bytes
  alike =
      let faults : open_fault keys bytes ≡ open_fault keys2 bytes = ap (cond (nat_lt (length bytes) 49) (Some errors.Short)) (head_alike (head_seen bytes)) in
      ap (λ (f : Option OpenError). unless_fault f (opened_body keys.version bytes (head_seen bytes))) faults
      ∙ ap (λ (version : Version). unless_fault (open_fault keys2 bytes) (opened_body version bytes (head_seen bytes))) one

pub opened_alike : (config : Config) (master : List ℕ) (me : NodeId) (keys : Keys) (bytes : List ℕ) → IsOfMaster config master me keys → opened keys bytes ≡ opened (keys_of_master config master me) bytes
opened_alike config master me keys bytes is =
    alike keys (keys_of_master config master me) is.me is.version (λ peer. is.rows peer ∙ sym (row_alike config master me peer)) bytes
