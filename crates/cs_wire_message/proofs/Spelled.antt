-- What is within the limits is written in bytes.
use Rattle.std.proofs.Common.{ℕ, zero, suc, ◌<◌, ◌≤◌, Bool, true, false, if◌then◌else◌, List, [], ◌∷◌, ◌++◌, length, Option, Some, None, subst, arith}
use Rattle.std.specs.Int.{w16, w32, w64, to_be_bytes, cast_unsigned}
use Rattle.std.specs.List.{AllByRecursion}
use Rattle.cs_base.specs.declared.key.Key.{Key}
use Rattle.cs_base.specs.declared.key.Key.TheVariants as key
use Rattle.cs_base.specs.declared.limits.TheConstants.{MOST_READERS}
use Rattle.cs_base.specs.Fields.{IsBytes, each, counted}
use Rattle.cs_base.specs.declared.version.Version.{Version}
use Rattle.cs_base.specs.declared.version.Version.TheVariants.{One, Two}
use Rattle.cs_tx_value.specs.declared.object.Object.{Object}
use Rattle.cs_tx_value.specs.declared.value.Value.{Value, out-Value, roll-Value}
use Rattle.cs_tx_value.specs.declared.value.Value.TheVariants.{rolls-Int, rolls-Bool, rolls-Bytes, rolls-List}
use Rattle.cs_tx_value.specs.declared.value.Value.TheOpen.{Value-F}
use Rattle.cs_tx_value.specs.Encoding.{value_encoding, LayerFits, ValueFitsIn, AtMost}
use Rattle.cs_tx_value.specs.laws.Layers.{roll-out, encoding_int, encoding_bool, encoding_bytes, encoding_list}
use Rattle.cs_tx_value.specs.Name.{name_encoding, NameFits}
use Rattle.cs_tx_value.specs.Key.{key_encoding, KeyFits}
use Rattle.cs_tx_value.specs.Object.{object_encoding, DigestFits, ObjectFits}
use Rattle.cs_tx_types.specs.declared.trace.Trace.{Trace}
use Rattle.cs_tx_types.specs.declared.transaction.Tx.{Tx}
use Rattle.cs_tx_types.specs.declared.session.Session.{Session}
use Rattle.cs_tx_types.specs.declared.vote.Vote.{Vote}
use Rattle.cs_tx_types.specs.declared.vote.Vote.TheVariants as vote
use Rattle.cs_tx_types.specs.declared.entry.Entry.{Entry}
use Rattle.cs_tx_types.specs.declared.action.Action.{Action}
use Rattle.cs_tx_types.specs.declared.action.Action.TheVariants.{Prepare, Decide}
use Rattle.cs_tx_types.specs.declared.effect.Effect.{Effect}
use Rattle.cs_tx_types.specs.declared.effect.Effect.TheVariants as effect
use Rattle.cs_tx_types.specs.declared.leaf.Leaf.{Leaf}
use Rattle.cs_tx_types.specs.declared.checkpoint.Checkpoint.{Checkpoint}
use Rattle.cs_tx_types.specs.declared.proof.Proof.{Proof}
use Rattle.cs_tx_types.specs.declared.state.State.{State}
use Rattle.cs_tx_types.specs.declared.state.State.TheVariants as state
use Rattle.cs_tx_types.specs.Transaction.{Keyed, keyed_encoding, KeyedFits, trace_front, trace_back, trace_encoding, TraceFits, tx_encoding, TxFits}
use Rattle.cs_tx_types.specs.Session.{dummy_encoding, session_encoding, SessionFits, vote_encoding, action_encoding, ActionFits}
use Rattle.cs_tx_types.specs.State.{readers_encoding, state_encoding, StateFits}
use Rattle.cs_tx_types.specs.Sized.{sized}
use Rattle.cs_tx_types.specs.Entry.{encoding_alone, entry_encoding, EntryFits}
use Rattle.cs_tx_types.specs.Log.{effect_encoding, PlaceFits, place_encoding, leaves_encoding, leaf_encoding, LeafFits, checkpoint_encoding, CheckpointFits, last_place, most_path, index_encoding, proof_encoding, ProofFits}
use Rattle.cs_wire_message.specs.declared.change.Change.{Change}
use Rattle.cs_wire_message.specs.declared.message.Message.{Message}
use Rattle.cs_wire_message.specs.declared.message.Message.TheVariants as message
use Rattle.cs_wire_message.specs.Message.{prepared_encoding, PreparedFits, echo_encoding, Rise, change_encoding, ChangeFits, flag_encoding, step_encoding, asked_encoding, AskedKeyFits, AskedPlaceFits, body_of, MessageFits}
use Rattle.cs_wire_message.proofs.Bytes as plain

-- ---- numbers and lists

-- each is a byte: a word that is not opened, so that lists can be left out
unfoldable AreSmall : List ℕ → Type 0
AreSmall bytes = IsBytes bytes

small : (bytes : List ℕ) → IsBytes bytes → AreSmall bytes
unfolding AreSmall
small bytes h = h

are-bytes : (bytes : List ℕ) → AreSmall bytes → IsBytes bytes
unfolding AreSmall
are-bytes bytes h = h

none : AreSmall []
none = small [] plain.bytes-nil

cons : (byte : ℕ) (bytes : List ℕ) → byte < 256 → AreSmall bytes → AreSmall (byte ∷ bytes)
cons byte bytes low rest = small (byte ∷ bytes) (plain.bytes-cons byte bytes low (are-bytes bytes rest))

join : (a b : List ℕ) → AreSmall a → AreSmall b → AreSmall (a ++ b)
join a b of_a of_b = small (a ++ b) (plain.bytes-append a b (are-bytes a of_a) (are-bytes b of_b))

bytes-16 : (n : ℕ) → AreSmall (to_be_bytes w16 n)
bytes-16 n = small (to_be_bytes w16 n) (plain.bytes-16 n)

bytes-32 : (n : ℕ) → AreSmall (to_be_bytes w32 n)
bytes-32 n = small (to_be_bytes w32 n) (plain.bytes-32 n)

number-64 : (n : ℕ) → IsBytes (to_be_bytes w64 n)
number-64 n zero = omega arith
number-64 n (suc zero) = omega arith
number-64 n (suc (suc zero)) = omega arith
number-64 n (suc (suc (suc zero))) = omega arith
number-64 n (suc (suc (suc (suc zero)))) = omega arith
number-64 n (suc (suc (suc (suc (suc zero))))) = omega arith
number-64 n (suc (suc (suc (suc (suc (suc zero)))))) = omega arith
number-64 n (suc (suc (suc (suc (suc (suc (suc zero))))))) = omega arith
number-64 n (suc (suc (suc (suc (suc (suc (suc (suc i)))))))) = omega arith

bytes-64 : (n : ℕ) → AreSmall (to_be_bytes w64 n)
bytes-64 n = small (to_be_bytes w64 n) (number-64 n)

byte : (n : ℕ) → n < 256 → AreSmall (n ∷ [])
byte n low = cons n [] low none

bytes-each : {X : Type 0} (write : X → List ℕ) (Fits : X → Type 0) → ((x : X) → Fits x → AreSmall (write x)) → (xs : List X) → AllByRecursion Fits xs → AreSmall (each write xs)
bytes-each write Fits f [] fits = none
bytes-each write Fits f (x ∷ xs) fits = join (write x) (each write xs) (f x fits.0) (bytes-each write Fits f xs fits.1)

bytes-counted : {X : Type 0} (write : X → List ℕ) (Fits : X → Type 0) → ((x : X) → Fits x → AreSmall (write x)) → (most : ℕ) → most < 256 → (xs : List X) → AtMost most Fits xs → AreSmall (counted write xs)
bytes-counted write Fits f most low xs fits = cons (length xs) (each write xs) (few (length xs) most fits.0 low) (bytes-each write Fits f xs fits.1)
  where
    few : (n most : ℕ) → n ≤ most → most < 256 → n < 256
    few n most a b = omega arith

-- ---- values and objects

bytes-flag : (b : Bool) → AreSmall ((if b then 1 else 0) ∷ [])
bytes-flag true = byte 1 (omega arith)
bytes-flag false = byte 0 (omega arith)

-- one value, where items are written in bytes
bytes-layer : (ItemsFit : List Value → Type 0) → ((items : List Value) → ItemsFit items → AreSmall (length items ∷ each value_encoding items)) → (layer : Value-F Value) → LayerFits ItemsFit layer → AreSmall (value_encoding (roll-Value layer))
bytes-layer ItemsFit of_items (Value-F.Int n) fits = rw (rolls-Int n, encoding_int n) (cons 0 _ (omega arith) (bytes-64 (cast_unsigned w64 n)))
bytes-layer ItemsFit of_items (Value-F.Bool b) fits = rw (rolls-Bool b, encoding_bool b) (cons 1 _ (omega arith) (bytes-flag b))
bytes-layer ItemsFit of_items (Value-F.Bytes text) fits = rw (rolls-Bytes text, encoding_bytes text) (cons 2 _ (omega arith) (join (to_be_bytes w16 (length text)) text (bytes-16 (length text)) (small text fits.1)))
bytes-layer ItemsFit of_items (Value-F.List items) fits = rw (rolls-List items, encoding_list items) (cons 3 _ (omega arith) (of_items items fits))

bytes-value : (depth : ℕ) (v : Value) → ValueFitsIn depth v → AreSmall (value_encoding v)
bytes-value zero v fits = subst (λ u. AreSmall (value_encoding u)) (roll-out v) (bytes-layer (λ items. ⊥) (λ items none. absurd none) (out-Value v) fits)
bytes-value (suc depth) v fits =
    subst (λ u. AreSmall (value_encoding u)) (roll-out v)
    (bytes-layer (AtMost 64 (ValueFitsIn depth)) (λ items few. bytes-counted value_encoding (ValueFitsIn depth) (bytes-value depth) 64 (omega arith) items few) (out-Value v) fits)

bytes-name : (name : List ℕ) → NameFits name → AreSmall (name_encoding name)
bytes-name name fits = cons (length name) name (few (length name) fits.0.0) (small name fits.0.1)
  where
    few : (n : ℕ) → n ≤ 32 → n < 256
    few n a = omega arith

bytes-object : (o : Object) → ObjectFits o → AreSmall (object_encoding o)
bytes-object o fits =
    join o.contract _ (small o.contract fits.contract.1)
    (join (name_encoding o.type_name) _ (bytes-name o.type_name fits.type_name)
    (bytes-counted value_encoding (ValueFitsIn 4) (bytes-value 4) 16 (omega arith) o.values fits.values))

bytes-key : (k : Key) → KeyFits k → AreSmall (key_encoding k)
bytes-key (key.Object digest) fits = cons 0 digest (omega arith) (small digest fits.1)
bytes-key (key.Dummy shard serial) fits = cons 1 _ (omega arith) (join (to_be_bytes w16 shard) (to_be_bytes w64 serial) (bytes-16 shard) (bytes-64 serial))

-- ---- sessions and entries

bytes-keyed : (k : Keyed) → KeyedFits k → AreSmall (keyed_encoding k)
bytes-keyed k fits = join k.0 (object_encoding k.1) (small k.0 fits.0.1) (bytes-object k.1 fits.1)

bytes-trace : (t : Trace) → TraceFits t → AreSmall (trace_encoding t)
bytes-trace t fits =
    let many = bytes-counted keyed_encoding KeyedFits bytes-keyed 64 (omega arith) in
    let values = bytes-counted value_encoding (ValueFitsIn 4) (bytes-value 4) 16 (omega arith) in
    let front : AreSmall (trace_front t) =
    join t.contract _ (small t.contract fits.contract.1)
    (join (name_encoding t.method) _ (bytes-name t.method fits.method)
    (join (counted keyed_encoding t.inputs) (counted keyed_encoding t.references) (many t.inputs fits.inputs) (many t.references fits.references))) in
    let back : AreSmall (trace_back t) =
    join (counted value_encoding t.parameters) _ (values t.parameters fits.parameters)
    (join (counted object_encoding t.outputs) _ (bytes-counted object_encoding ObjectFits bytes-object 64 (omega arith) t.outputs fits.outputs)
    (join (counted value_encoding t.returns) _ (values t.returns fits.returns)
    (bytes-counted (λ n. n ∷ []) (λ n. n < 256) byte 15 (omega arith) t.deps fits.deps))) in
    join (trace_front t) (trace_back t) front back

bytes-tx : (tx : Tx) → TxFits tx → AreSmall (tx_encoding tx)
bytes-tx tx fits = bytes-counted trace_encoding TraceFits bytes-trace 16 (omega arith) tx.traces fits.traces

bytes-dummy : (d : ℕ × ℕ) → AreSmall (dummy_encoding d)
bytes-dummy d = join (to_be_bytes w16 d.0) (to_be_bytes w64 d.1) (bytes-16 d.0) (bytes-64 d.1)

bytes-session : (x : Session) → SessionFits x → AreSmall (session_encoding x)
bytes-session x fits =
    join (tx_encoding x.tx) _ (bytes-tx x.tx fits.tx)
    (join (to_be_bytes w64 x.number) _ (bytes-64 x.number)
    (bytes-counted dummy_encoding _ (λ d f. bytes-dummy d) 15 (omega arith) x.dummies fits.dummies))

bytes-vote : (v : Vote) → AreSmall (vote_encoding v)
bytes-vote vote.Abort = byte 0 (omega arith)
bytes-vote vote.Commit = byte 1 (omega arith)

bytes-action : (a : Action) → ActionFits a → AreSmall (action_encoding a)
bytes-action (Prepare x) fits = cons 0 _ (omega arith) (bytes-session x fits)
bytes-action (Decide vote x) fits = cons 1 _ (omega arith) (join (vote_encoding vote) (session_encoding x) (bytes-vote vote) (bytes-session x fits))

bytes-alone : (actions : List Action) → AllByRecursion ActionFits actions → AreSmall (encoding_alone actions)
bytes-alone [] fits = none
bytes-alone (action ∷ more) fits = bytes-action action fits.0

bytes-entry : (version : Version) (e : Entry) → EntryFits version e → AreSmall (entry_encoding version e)
bytes-entry One e fits = bytes-alone e.actions fits.1
bytes-entry Two e fits = cons 2 _ (omega arith) (bytes-counted action_encoding ActionFits bytes-action 32 (omega arith) e.actions fits.actions)

-- ---- what is kept and proved of a log

bytes-effect : (e : Effect) → AreSmall (effect_encoding e)
bytes-effect (effect.Voted vote.Abort) = byte 0 (omega arith)
bytes-effect (effect.Voted vote.Commit) = byte 1 (omega arith)
bytes-effect effect.Accepted = byte 2 (omega arith)
bytes-effect effect.Aborted = byte 3 (omega arith)
bytes-effect effect.Skipped = byte 4 (omega arith)
bytes-effect effect.Void = byte 5 (omega arith)

bytes-sized : {X : Type 0} (write : X → List ℕ) (x : X) → AreSmall (write x) → AreSmall (sized write x)
unfolding sized
bytes-sized write x fits = join (to_be_bytes w32 (length (write x))) (write x) (bytes-32 (length (write x))) fits

bytes-place : (version : Version) (place : ℕ) → PlaceFits version place → AreSmall (place_encoding version place)
bytes-place One place fits = none
bytes-place Two place fits = byte place fits

bytes-leaf : (version : Version) (l : Leaf) → LeafFits version l → AreSmall (leaf_encoding version l)
bytes-leaf version l fits =
    join (to_be_bytes w64 l.slot) _ (bytes-64 l.slot)
    (join (place_encoding version l.place) _ (bytes-place version l.place fits.place)
    (join (sized action_encoding l.action) (effect_encoding l.result) (bytes-sized action_encoding l.action (bytes-action l.action fits.action)) (bytes-effect l.result)))

bytes-leaves : (version : Version) (leaves : ℕ) → AreSmall (leaves_encoding version leaves)
bytes-leaves One leaves = none
bytes-leaves Two leaves = bytes-16 leaves

bytes-checkpoint : (version : Version) (c : Checkpoint) → CheckpointFits version c → AreSmall (checkpoint_encoding version c)
bytes-checkpoint version c fits =
    join (to_be_bytes w16 c.shard) _ (bytes-16 c.shard)
    (join (to_be_bytes w64 c.number) _ (bytes-64 c.number)
    (join c.previous _ (small c.previous fits.previous.1) (join c.leaf_root _ (small c.leaf_root fits.leaf_root.1)
    (join c.table_root (leaves_encoding version c.leaves) (small c.table_root fits.table_root.1) (bytes-leaves version c.leaves)))))

bytes-index : (version : Version) (place : ℕ) → place ≤ last_place version → AreSmall (index_encoding version place)
bytes-index One place fits = byte place (omega (arith, fits))
bytes-index Two place fits = bytes-16 place

path-bytes : (version : Version) → most_path version < 256
path-bytes One = omega arith
path-bytes Two = omega arith

bytes-proof : (version : Version) (p : Proof) → ProofFits version p → AreSmall (proof_encoding version p)
bytes-proof version p fits =
    join (checkpoint_encoding version p.checkpoint) _ (bytes-checkpoint version p.checkpoint fits.checkpoint)
    (join (index_encoding version p.place) _ (bytes-index version p.place fits.place)
    (join (sized (leaf_encoding version) p.leaf) _ (bytes-sized (leaf_encoding version) p.leaf (bytes-leaf version p.leaf fits.leaf))
    (bytes-counted (λ digest. digest) DigestFits (λ digest f. small digest f.1) (most_path version) (path-bytes version) p.path fits.path)))

bytes-state : (s : State) → StateFits s → AreSmall (state_encoding s)
bytes-state state.Unknown fits = byte 0 (omega arith)
bytes-state (state.Active object) fits = cons 1 _ (omega arith) (bytes-object object fits)
bytes-state (state.Locked object by) fits = cons 2 _ (omega arith) (join (object_encoding object) by (bytes-object object fits.0) (small by fits.1.1))
bytes-state (state.Inactive by) fits = cons 3 by (omega arith) (small by fits.1)
bytes-state (state.Shared object readers) fits =
    cons 4 _ (omega arith)
    (join (object_encoding object) (readers_encoding readers) (bytes-object object fits.0)
    (bytes-counted (λ digest. digest) DigestFits (λ digest f. small digest f.1) MOST_READERS (omega arith) readers fits.1.0.1))

-- ---- messages

bytes-prepared : (view : ℕ) (p : Option (ℕ × List ℕ)) → PreparedFits view p → AreSmall (prepared_encoding p)
bytes-prepared view None fits = byte 0 (omega arith)
bytes-prepared view (Some pair) fits = cons 1 _ (omega arith) (join (to_be_bytes w16 pair.0) pair.1 (bytes-16 pair.0) (small pair.1 fits.1.1))

bytes-echoed : (view : ℕ) (last : Option (List ℕ)) (xs : List (List ℕ × ℕ)) → Rise view last xs → AreSmall (each echo_encoding xs)
bytes-echoed view last [] rise = none
bytes-echoed view last (x ∷ xs) rise =
    join (echo_encoding x) (each echo_encoding xs)
    (join x.0 (to_be_bytes w16 x.1) (small x.0 rise.0.0.0.1) (bytes-16 x.1))
    (bytes-echoed view (Some x.0) xs rise.1)

bytes-change : (view : ℕ) (c : Change) → ChangeFits view c → AreSmall (change_encoding c)
bytes-change view c fits =
    join (prepared_encoding c.prepared) (counted echo_encoding c.echoed) (bytes-prepared view c.prepared fits.prepared)
    (cons (length c.echoed) (each echo_encoding c.echoed) (few (length c.echoed) fits.few) (bytes-echoed view None c.echoed fits.rise))
  where
    few : (n : ℕ) → n ≤ 16 → n < 256
    few n a = omega arith

bytes-step : (slot view : ℕ) (digest : List ℕ) → AreSmall digest → AreSmall (step_encoding slot view digest)
bytes-step slot view digest fits =
    join (to_be_bytes w64 slot) (to_be_bytes w16 view ++ digest) (bytes-64 slot) (join (to_be_bytes w16 view) digest (bytes-16 view) fits)

bytes-asked : (o : Option Key) → AskedKeyFits o → AreSmall (asked_encoding o)
bytes-asked None fits = none
bytes-asked (Some k) fits = bytes-key k fits

bytes-asked-place : (version : Version) (place : ℕ) → AskedPlaceFits version place → AreSmall (place_encoding version place)
bytes-asked-place One place fits = none
bytes-asked-place Two place fits = byte place (omega (arith, fits))

message-small : (version : Version) (m : Message) → MessageFits version m → AreSmall (body_of version m)
message-small version (message.Submit x) fits = bytes-session x fits
message-small version (message.Propose slot view entry) fits = bytes-step slot view (entry_encoding version entry) (bytes-entry version entry fits.1.1)
message-small version (message.Echo slot view digest) fits = bytes-step slot view digest (small digest fits.1.1.1)
message-small version (message.Confirm slot view digest) fits = bytes-step slot view digest (small digest fits.1.1.1)
message-small version (message.Change slot view change) fits = bytes-step slot view (change_encoding change) (bytes-change view change fits.1.1.1)
message-small version (message.Voted vote asks x) fits =
    join (vote_encoding vote) (flag_encoding asks ++ session_encoding x) (bytes-vote vote) (join (flag_encoding asks) (session_encoding x) (bytes-flag asks) (bytes-session x fits))
message-small version (message.Decided digest accepted) fits = join digest (flag_encoding accepted) (small digest fits.1) (bytes-flag accepted)
message-small version (message.Want slot) fits = bytes-64 slot
message-small version (message.Done slot entry) fits = join (to_be_bytes w64 slot) (entry_encoding version entry) (bytes-64 slot) (bytes-entry version entry fits.1)
message-small version (message.Ask asked) fits = bytes-asked asked fits
message-small version (message.Told key state) fits = join (key_encoding key) (state_encoding state) (bytes-key key fits.0) (bytes-state state fits.1)
message-small version (message.Head checkpoint) fits = bytes-checkpoint version checkpoint fits
message-small version (message.AskProof slot place) fits = join (to_be_bytes w64 slot) (place_encoding version place) (bytes-64 slot) (bytes-asked-place version place fits.1)
message-small version (message.Proof proof) fits = bytes-proof version proof fits

pub bytes-want : (version : Version) (slot : ℕ) → IsBytes (body_of version (message.Want slot))
bytes-want version slot = number-64 slot

pub bytes-body : (version : Version) (m : Message) → MessageFits version m → IsBytes (body_of version m)
bytes-body version m fits = are-bytes (body_of version m) (message-small version m fits)

-- an entry by itself
pub entry-bytes : (version : Version) (e : Entry) → EntryFits version e → IsBytes (entry_encoding version e)
entry-bytes version e fits = are-bytes (entry_encoding version e) (bytes-entry version e fits)
