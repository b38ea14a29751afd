-- The site of a deployment is sound, and its hashed strings are those that the ledger asks of.
use Rattle.std.proofs.Common.{◌≡◌, inl, inr, ℕ, suc, ◌+◌, ◌*◌, ◌<◌, ◌≤◌, ◌^◌, nat_lt, nat_le, Bool, true, false, List, [], ◌∷◌, ◌++◌, map, Option, Some, None, refl, sym, ap, ◌∙◌, subst, arith, append_assoc}
use Rattle.std.specs.Prelude.{Ok, Err, ◌==◌, length, slice_get}
use Rattle.std.specs.Int.{w16, w32, w64, to_be_bytes}
use Rattle.std.proofs.lemmas.Bool.{cases_Bool, and_parts, eqb-true, ltb-true}
use Rattle.std.proofs.lemmas.Nat.{mod_below}
use Rattle.sha2.specs.Sha256.{sha256}
use Rattle.sha2.proofs.Facts256.{length-sha256}
use Rattle.cs_base.specs.Lists.{IsIn}
use Rattle.cs_base.specs.Fields.{IsBytes}
use Rattle.cs_base.specs.declared.node_id.NodeId.{NodeId}
use Rattle.cs_base.specs.declared.node_id.TheConstants.{CLIENT_SHARD, CLIENTS}
use Rattle.cs_base.specs.NodeId.{is_node, is_client}
use Rattle.cs_base.specs.declared.config.Config.{Config}
use Rattle.cs_base.proofs.Forms.{some_is}
use Rattle.cs_hash.specs.Hash.{hmac}
use Rattle.cs_tx_value.specs.declared.object.Object.{Object}
use Rattle.cs_tx_value.specs.Object.{object_encoding}
use Rattle.cs_tx_types.specs.declared.checkpoint.Checkpoint.{Checkpoint}
use Rattle.cs_tx_types.specs.declared.trace.Trace.{Trace}
use Rattle.cs_tx_types.specs.declared.transaction.Tx.{Tx}
use Rattle.cs_tx_types.specs.declared.session.Session.{Session}
use Rattle.cs_tx_types.specs.declared.entry.Entry.{Entry}
use Rattle.cs_tx_types.specs.Session.{SessionFits}
use Rattle.cs_tx_types.specs.Entry.{entry_encoding}
use Rattle.cs_tx.specs.Digest.{digest_of_tx}
use Rattle.cs_wire_message.specs.declared.kinds.TheConstants.{WANT, HEAD}
use Rattle.cs_wire_message.specs.declared.message.Message.{Message}
use Rattle.cs_wire_message.specs.declared.message.Message.TheVariants as message
use Rattle.cs_base.specs.declared.version.Version.{Version}
use Rattle.cs_base.specs.Version.{version_of}
use Rattle.cs_wire_message.specs.Message.{kind_of, body_of, MessageFits}
use Rattle.cs_wire_message.specs.laws.Kinds.{kind_small}
use Rattle.cs_wire_message.specs.Body.{message_whole}
use Rattle.cs_wire_message.proofs.Wholes.{whole_has, has_whole}
use Rattle.cs_wire_message.proofs.Short.{body_short}
use Rattle.cs_wire_message.proofs.Spelled.{bytes-want}
use Rattle.cs_wire.specs.declared.keys.Keys.{Keys}
use Rattle.cs_wire.specs.declared.opening.OpenError.{OpenError}
use Rattle.cs_wire.specs.Datagram.{message_text, body_in}
use Rattle.cs_wire.specs.Datagram as wire
use Rattle.cs_wire.specs.Heads.{head_at, first, head_seen}
use Rattle.cs_wire.specs.Opens.{IsName, open_fault}
use Rattle.cs_wire.specs.Opened.{Opened, said_by, opened_body, unless_fault, opened}
use Rattle.cs_wire.proofs.Parts.{head_encoding, HeadFits, head_form, head_for, head_length, magic_bytes, magic_four, text_parts, split}
use Rattle.cs_wire.proofs.Masters.{sealed_is}
use Rattle.cs_tx.specs.Sessions.{outputs_written_at, outputs_written, written_of, ledger_session}
use Rattle.cs_tx.proofs.Faithful.{are-faithful}
use Rattle.cs_order.specs.Deeds.{Machine}
use Rattle.cs_order.specs.Law.{Law, Holds}
use Rattle.cs_ledger.specs.Ledger.{Bytes, Item}
use Rattle.cs_ledger.specs.Session as Seen
use Rattle.cs_ledger.specs.ShardWorld as World
use Rattle.cs_ledger.specs.Strings as Strings
use Rattle.cs_ledger.specs.Strings.{Origin, Output, WrittenSession, IsString, sessions_from}
use Rattle.cs_ledger.proofs.Basics.{in_either}
use Rattle.cs_ledger.proofs.Strings.{no_collision}
use Rattle.cs_node_rules.specs.Net.{Net, sealed_by_net}
use Rattle.cs_node_rules.specs.Site.{Input, Datagram, Tick, Mark, In, Ordered, Plain, Carriers, Site}
use Rattle.cs_node_rules.specs.World.{Happening, view_of, IsLife}
use Rattle.cs_node_rules.specs.Collisions.{sessions_in, in_opened, known_sessions, known_entries, IsHashed, OfGenesis, OfSession, OfTransaction, OfOutput, OfEntry, NoCollision}
use Rattle.cs_node_rules.specs.Carrying.{AllCarry}
use Rattle.cs_node_rules.proofs.Entries.{in-fits, in-again}
use Rattle.cs_node_state.specs.Deployed.{genesis_from}
use Rattle.cs_node_law.specs.Made.{InputFits}
use Rattle.cs_node_law.specs.Given.{InputIsBytes, AreBytes}
use Rattle.cs_node_law.proofs.Views.{sessions_given}
use Rattle.cs_node_law.proofs.NoIns.{event-shape}
use Rattle.cs_node_law.proofs.Speaking.{opened-fits}
use Rattle.cs_node_law.proofs.Fitting.{sessions-fit}
use Rattle.cs_node_law.proofs.Heads.{bytes-head, length-head}
use Rattle.cs_world_law.specs.Worlds.{is_honest, IsWorld, IsNet, deployed_site}
use Rattle.cs_world_law.specs.Chain.{IsSoundSite, IsUnique}
use Rattle.cs_world_law.proofs.Stories.{InsFit, ins-fit}

-- ---- datagrams of messages

-- what a head and a body say
said-whole : (from sender : NodeId) (said : Message) (o : Option Message) → said_by from o ≡ Ok (sender, said) → o ≡ Some said
said-whole from sender said None e = absurd cc
said-whole from sender said (Some m) e =
    let that : (from, m) ≡ (sender, said) = cc in
    ap (λ (s : NodeId × Message). Some s.1) that

no-fault : (fault : Option OpenError) (later : Opened) (sender : NodeId) (said : Message) → unless_fault fault later ≡ Ok (sender, said) → later ≡ Ok (sender, said)
no-fault (Some error) later sender said e = absurd cc
no-fault None later sender said e = e

-- a datagram that opens says what its body is
opens-whole : (version : Version) (keys : Keys) (key : Bytes) (from to sender : NodeId) (m said : Message) → keys.version ≡ version → IsName from → IsName to → length (body_of version m) < 2 ^ 32 → opened keys (wire.sealed version key from to m) ≡ Ok (sender, said) → message_whole version (kind_of m) (body_of version m) ≡ Some said
opens-whole version keys key from to sender m said edition of_from of_to short reads =
    let h = head_for version from to m in
    let body = body_of version m in
    let text = message_text version from to m in
    let tag = hmac key text in
    let bytes = wire.sealed version key from to m in
    let fits : HeadFits h = ((magic_four version, magic_bytes version), (kind_small m, (of_from, (of_to, short)))) in
    let is : bytes ≡ (head_encoding h ++ body) ++ tag = ap (λ (t : Bytes). t ++ tag) (text_parts version from to m) in
    let parts = split (head_encoding h) body tag bytes (head_length h (magic_four version)) (length-sha256 _) is in
    let found : head_at bytes ≡ Some (h, body ++ tag) = ap head_at (is ∙ append_assoc (head_encoding h) body tag) ∙ head_form.again h (body ++ tag) fits in
    let seen : head_seen bytes ≡ Some h = ap first found in
    let clear = no-fault (open_fault keys bytes) (opened_body version bytes (head_seen bytes)) sender said
    (subst (λ v. unless_fault (open_fault keys bytes) (opened_body v bytes (head_seen bytes)) ≡ Ok (sender, said)) edition reads) in
    let here : said_by h.from (message_whole version h.kind (body_in bytes)) ≡ Ok (sender, said) = sym (ap (opened_body version bytes) seen) ∙ clear in
    ap (message_whole version (kind_of m)) (sym parts.body) ∙ said-whole h.from sender said (message_whole version h.kind (body_in bytes)) here

want-of : (m : Message) → kind_of m ≡ WANT → (slot : ℕ) × (m ≡ message.Want slot)
want-of (message.Want slot) e = (slot, refl)
want-of m e = absurd (omega (arith, e))

head-of : (m : Message) → kind_of m ≡ HEAD → (c : Checkpoint) × (m ≡ message.Head c)
head-of (message.Head checkpoint) e = (checkpoint, refl)
head-of m e = absurd (omega (arith, e))

-- ---- nodes

-- honest nodes are nodes
node-of : (config : Config) (name : NodeId) → is_node config name ≡ true → (name.shard < config.shards) × (name.index ≤ 3 * config.f)
node-of config name e =
    let p = and_parts (nat_lt name.shard config.shards) (nat_le name.index (3 * config.f)) e in
    (ltb-true name.shard config.shards p.0, within name.index (3 * config.f) p.1)
  where
    within : (a b : ℕ) → nat_le a b ≡ true → a ≤ b
    within a b e = grind arith

small-name : (name : NodeId) (shards f : ℕ) → shards ≤ 16 → f ≤ 5 → name.shard < shards → name.index ≤ 3 * f → IsName name
small-name name shards f a b c d = (omega arith, omega arith)

no-client : (name : NodeId) (shards : ℕ) → shards ≤ 16 → name.shard < shards → is_client name ≡ false
no-client name shards few less =
    elim (cases_Bool (is_client name)) [
      | inl e ↦ absurd (far name.shard shards few less (eqb-true name.shard CLIENT_SHARD (and_parts (name.shard == CLIENT_SHARD) (nat_lt name.index CLIENTS) e).0))
      | inr e ↦ e
    ]
  where
    far : (shard shards : ℕ) → shards ≤ 16 → shard < shards → shard ≡ CLIENT_SHARD → ⊥
    far shard shards few less is = omega arith

module _ {M : Type 0} (config : Config) (net : Net) (is_net : IsNet config net) (genesis : List Object) (approves : Tx → Bool) (machine : Machine M) (carrier : Carriers M) where
  abbrev pub At : Site M
  At = deployed_site config net genesis approves machine carrier

  abbrev edition : Version
  edition = version_of config.version

  -- ---- what was given

  pub opens-fit : (me sender : NodeId) (bytes : Bytes) (said : Message) → IsBytes bytes → At.net.opened me bytes ≡ Ok (sender, said) → MessageFits edition said
  opens-fit me sender bytes said fits reads =
      subst (λ v. MessageFits v said) (is_net.editions me) (opened-fits (is_net.keys me) bytes (sender, said) fits (sym (is_net.opens me bytes) ∙ reads))

  input-fits : (me : NodeId) (input : Input) → InputIsBytes input → InputFits At me input
  input-fits me (Datagram bytes) fits = λ sender said reads. opens-fit me sender bytes said fits reads
  input-fits me Tick fits = tt

  given-fits : (me : NodeId) (marks : List (Mark M)) (x : Session) → InsFit At me marks → IsIn x (sessions_given At me marks) → SessionFits x
  given-fits me [] x fit i = absurd i
  given-fits me (In (Datagram bytes) ∷ marks) x fit i =
      elim (in_either x (in_opened sessions_in (At.net.opened me bytes)) (sessions_given At me marks) i) [
        | inl here ↦ opens (At.net.opened me bytes) refl here
        | inr later ↦ given-fits me marks x fit.1 later
      ]
    where
      opens : (o : Opened) → (deployed_site config net genesis approves machine carrier).net.opened me bytes ≡ o → IsIn x (in_opened sessions_in o) → SessionFits x
      opens (Ok said) is j = sessions-fit edition said.1 (fit.0 said.0 said.1 is) x j
      opens (Err error) is j = absurd j
  given-fits me (In Tick ∷ marks) x fit i = given-fits me marks x fit.1 i
  given-fits me (Ordered deed ∷ marks) x fit i = given-fits me marks x fit i
  given-fits me (Plain sign ∷ marks) x fit i = given-fits me marks x fit i

  pub known-fits : (world : List (Happening M)) → IsLife At world → AreBytes world → (x : Session) → IsIn x (known_sessions At world) → SessionFits x
  known-fits [] life bytes x i = absurd i
  known-fits (h ∷ past) life bytes x i =
      let shape = event-shape At (view_of At past h.node) h.input in
      let fit = subst (λ z. InsFit At h.node z) (sym (life.0 ∙ shape.is)) (ins-fit At h.node shape.fresh h.input shape.none (input-fits h.node h.input bytes.0)) in
      elim (in_either x (sessions_given At h.node h.marks) (known_sessions At past) i) [
        | inl here ↦ given-fits h.node h.marks x fit here
        | inr before ↦ known-fits past life.1 bytes.1 x before
      ]

  -- ---- the site

  -- what was sealed for a name, as its keys open it
  opened-there : (from to sender : NodeId) (m said : Message) → At.net.opened to (sealed_by_net At.net from to m) ≡ Ok (sender, said) → opened (is_net.keys to) (wire.sealed edition (is_net.key from to) from to m) ≡ Ok (sender, said)
  opened-there from to sender m said reads =
      ap (opened (is_net.keys to))
      (sealed_is edition (is_net.key from to) from to m ∙ sym (is_net.seals from to (kind_of m) (body_of edition m))
      ∙ ap (λ (v : Version). At.net.datagram from to (kind_of m) (body_of v m)) (sym is_net.version))
      ∙ sym (is_net.opens to (sealed_by_net At.net from to m)) ∙ reads

  pub is-sound : Law machine → Holds machine → AllCarry machine carrier → (world : List (Happening M)) → 0 < config.shards → config.shards ≤ 16 → config.f ≤ 5 → IsWorld At world → IsSoundSite At
  is-sound law holds carries world some few small w =
      let nodes = λ (name : NodeId) (e : is_honest At name ≡ true). node-of config name (is_net.nodes name e) in
      let names = λ (name : NodeId) (e : is_honest At name ≡ true). small-name name config.shards config.f few small (nodes name e).0 (nodes name e).1 in
      record {
        law = law;
        holds = holds;
        carries = carries edition;
        serves = w.serves;
        few = w.few;
        shard = λ name e. (nodes name e).0;
        index = λ name e. (let n = (nodes name e).1 in omega arith);
        apart = λ name e. no-client name config.shards few (nodes name e).0;
        exact = λ from to sender m said hf ht fits reads.
            let whole = opens-whole edition (is_net.keys to) (is_net.key from to) from to sender m said (is_net.editions to) (names from hf) (names to ht) (let s = body_short edition m fits in omega (arith, s)) (opened-there from to sender m said reads) in
            some_is said m (sym whole ∙ has_whole edition (kind_of m) (body_of edition m) m (record { kind = refl; body = refl; fits = fits }));
        wanted = λ from to sender slot said hf ht reads.
            let m = message.Want slot in
            let whole = opens-whole edition (is_net.keys to) (is_net.key from to) from to sender m said (is_net.editions to) (names from hf) (names to ht) (omega arith) (opened-there from to sender m said reads) in
            want-of said (whole_has edition 8 (to_be_bytes w64 slot) said (bytes-want edition slot) whole).kind;
        headed = λ from to sender c said hf ht digests reads.
            let m = message.Head c in
            let short : length (body_of edition m) < 2 ^ 32 = (let all = length-head edition c digests in omega (arith, all)) in
            let whole = opens-whole edition (is_net.keys to) (is_net.key from to) from to sender m said (is_net.editions to) (names from hf) (names to ht) short (opened-there from to sender m said reads) in
            head-of said (whole_has edition 12 (body_of edition m) said (bytes-head edition c digests) whole).kind;
        proposes = λ entry. refl;
        reads = λ entry fits. in-again edition entry fits;
        read = λ p. in-fits edition p;
        bound = λ name. mod_below _ config.shards some;
      }

  -- ---- hashed strings

  abbrev origins : ℕ → List Object → List Origin
  origins place [] = []
  origins place (object ∷ objects) = record { place = to_be_bytes w32 place; object = object_encoding object } ∷ origins (place + 1) objects

  genesis-is : (place : ℕ) (objects : List Object) → Strings.genesis_of_origins sha256 (origins place objects) ≡ genesis_from place objects
  genesis-is place [] = refl
  genesis-is place (object ∷ objects) = ap (λ (l : List Item). record { name = sha256 (71 ∷ (to_be_bytes w32 place ++ object_encoding object)); object = object_encoding object } ∷ l) (genesis-is (place + 1) objects)

  sessions-are : (known : List Session) → sessions_from sha256 (map (written_of approves) known) ≡ map (ledger_session approves) known
  sessions-are [] = refl
  sessions-are (x ∷ known) = ap (λ l. ledger_session approves x ∷ l) (sessions-are known)

  origin-of : (from : ℕ) (objects : List Object) (origin : Origin) → IsIn origin (origins from objects)
      → (place : ℕ) × (object : Object) × (slice_get objects place ≡ Some object) × (origin ≡ record { place = to_be_bytes w32 (from + place); object = object_encoding object })
  origin-of from [] origin i = absurd i
  origin-of from (object ∷ objects) origin (inl e) =
      let none : from ≡ from + 0 = omega arith in
      (0, object, refl, e ∙ ap (λ (n : ℕ). let o : Origin = record { place = to_be_bytes w32 n; object = object_encoding object } in o) none)
  origin-of from (object ∷ objects) origin (inr i) =
      let r = origin-of (from + 1) objects origin i in
      let next : from + 1 + r.0 ≡ from + suc r.0 = omega arith in
      (suc r.0, r.1, r.2, r.3 ∙ ap (λ (n : ℕ). let o : Origin = record { place = to_be_bytes w32 n; object = object_encoding r.1 } in o) next)

  output-at : (number from : ℕ) (objects : List Object) (output : Output) → IsIn output (outputs_written_at number from objects)
      → (place : ℕ) × (object : Object) × (slice_get objects place ≡ Some object) × (output.place ≡ to_be_bytes w16 number ++ to_be_bytes w16 (from + place))
  output-at number from [] output i = absurd i
  output-at number from (object ∷ objects) output (inl e) =
      let none : from ≡ from + 0 = omega arith in
      (0, object, refl, ap (λ (o : Output). o.place) e ∙ ap (λ (n : ℕ). to_be_bytes w16 number ++ to_be_bytes w16 n) none)
  output-at number from (object ∷ objects) output (inr i) =
      let r = output-at number (from + 1) objects output i in
      let next : from + 1 + r.0 ≡ from + suc r.0 = omega arith in
      (suc r.0, r.1, r.2, r.3 ∙ ap (λ (n : ℕ). to_be_bytes w16 number ++ to_be_bytes w16 n) next)

  pub record IsOutput (from : ℕ) (traces : List Trace) (output : Output) : Type 0 where
    pub number : ℕ
    pub place : ℕ
    pub trace : Trace
    pub object : Object
    pub has_trace : slice_get traces number ≡ Some trace
    pub has_object : slice_get trace.outputs place ≡ Some object
    pub is : output.place ≡ to_be_bytes w16 (from + number) ++ to_be_bytes w16 place

  output-of : (from : ℕ) (traces : List Trace) (output : Output) → IsIn output (outputs_written from traces) → IsOutput from traces output
  output-of from [] output i = absurd i
  output-of from (trace ∷ traces) output i =
      elim (in_either output (outputs_written_at from 0 trace.outputs) (outputs_written (from + 1) traces) i) [
        | inl here ↦
            let r = output-at from 0 trace.outputs output here in
            let none : from ≡ from + 0 = omega arith in
            let first : 0 + r.0 ≡ r.0 = omega arith in
            record { number = 0; place = r.0; trace = trace; object = r.1; has_trace = refl; has_object = r.2; is = r.3 ∙ ap (λ (n : ℕ). to_be_bytes w16 from ++ to_be_bytes w16 n) first ∙ ap (λ (n : ℕ). to_be_bytes w16 n ++ to_be_bytes w16 r.0) none }
        | inr there ↦
            let r = output-of (from + 1) traces output there in
            let next : from + 1 + r.number ≡ from + suc r.number = omega arith in
            record { number = suc r.number; place = r.place; trace = r.trace; object = r.object; has_trace = r.has_trace; has_object = r.has_object; is = r.is ∙ ap (λ (n : ℕ). to_be_bytes w16 n ++ to_be_bytes w16 r.place) next }
      ]

  written-from : (known : List Session) (w : WrittenSession) → IsIn w (map (written_of approves) known) → (x : Session) × (IsIn x known) × (w ≡ written_of approves x)
  written-from [] w i = absurd i
  written-from (x ∷ known) w (inl e) = (x, inl refl, e)
  written-from (x ∷ known) w (inr i) = let r = written-from known w i in (r.0, inr r.1, r.2)

  module _ (known : List Session) (entries : List Entry) where
    abbrev Hashed : Bytes → Type 0
    Hashed string = IsHashed edition genesis known entries string

    string-hashed : (string : Bytes) → IsString sha256 (origins 0 genesis) (map (written_of approves) known) string → Hashed string
    string-hashed string (Strings.Genesis origin i) =
        let r = origin-of 0 genesis origin i in
        let first : 0 + r.0 ≡ r.0 = omega arith in
        let is : origin ≡ record { place = to_be_bytes w32 r.0; object = object_encoding r.1 } = r.3 ∙ ap (λ (n : ℕ). let o : Origin = record { place = to_be_bytes w32 n; object = object_encoding r.1 } in o) first in
        subst (λ (o : Origin). Hashed (Strings.genesis_string o)) (sym is) (OfGenesis r.0 r.1 r.2)
    string-hashed string (Strings.OfSession w i) =
        let x = written-from known w i in
        subst (λ (z : WrittenSession). Hashed (Strings.session_string z)) (sym x.2) (OfSession x.0 x.1)
    string-hashed string (Strings.OfTransaction w i) =
        let x = written-from known w i in
        subst (λ (z : WrittenSession). Hashed (Strings.transaction_string z.transaction)) (sym x.2) (OfTransaction x.0 x.1)
    string-hashed string (Strings.OfOutput w output i j) =
        let x = written-from known w i in
        let r = output-of 0 x.0.tx.traces output (subst (λ (z : WrittenSession). IsIn output z.transaction.outputs) x.2 j) in
        let first : 0 + r.number ≡ r.number = omega arith in
        let place : output.place ≡ to_be_bytes w16 r.number ++ to_be_bytes w16 r.place = r.is ∙ ap (λ (n : ℕ). to_be_bytes w16 n ++ to_be_bytes w16 r.place) first in
        subst (λ (z : WrittenSession). Hashed (Strings.output_string sha256 z.transaction output)) (sym x.2)
        (subst (λ (p : Bytes). Hashed (79 ∷ (digest_of_tx x.0.tx ++ p))) (sym place) (OfOutput x.0 x.1 r.number r.place r.trace r.object r.has_trace r.has_object))

  pub are-apart : (world : List (Happening M)) → IsLife At world → AreBytes world → NoCollision At genesis world
      → World.AreNamedApart At.setup.rules.genesis (map At.setup.session_of (known_sessions At world))
  are-apart world life bytes apart =
      let known = known_sessions At world in
      let entries = known_entries At world in
      let lengths = λ (a b : Bytes). length-sha256 a ∙ sym (length-sha256 b) in
      let faithful = are-faithful approves known (known-fits world life bytes) in
      let strings = λ (a b : Bytes) (s : IsString sha256 (origins 0 genesis) (map (written_of approves) known) a) (t : IsString sha256 (origins 0 genesis) (map (written_of approves) known) b) (e : sha256 a ≡ sha256 b). apart a b (string-hashed known entries a s) (string-hashed known entries b t) e in
      let none = no_collision sha256 lengths (origins 0 genesis) (map (written_of approves) known) faithful strings in
      subst (λ (l : List Item). World.AreNamedApart l (map (ledger_session approves) known)) (genesis-is 0 genesis)
      (subst (λ (l : List Seen.Session). World.AreNamedApart (Strings.genesis_of_origins sha256 (origins 0 genesis)) l) (sessions-are known) none)

  -- no two known entries have one digest
  pub are-unique : (world : List (Happening M)) → NoCollision At genesis world → IsUnique edition (known_entries At world)
  are-unique world apart a b i j e =
      let one : 69 ∷ entry_encoding edition a ≡ 69 ∷ entry_encoding edition b = apart (69 ∷ entry_encoding edition a) (69 ∷ entry_encoding edition b) (OfEntry a i) (OfEntry b j) e in
      cc
