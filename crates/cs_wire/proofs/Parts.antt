-- The parts of a datagram.
use Rattle.std.proofs.Common.{◌≡◌, ℕ, zero, suc, ◌+◌, ◌-◌, ◌^◌, ◌<◌, ◌≤◌, Bool, true, false, List, [], ◌∷◌, ◌++◌, length, take, drop, Some, None, refl, sym, ap, ◌∙◌, append_assoc, arith}
use Rattle.std.specs.Prelude.{◌&&◌, ◌==◌, bytes_eq}
use Rattle.std.specs.Int.{w16, w32, to_be_bytes}
use Rattle.std.proofs.lemmas.Bool.{eqb-true, eq-eqb}
use Rattle.std.proofs.lemmas.List.{length-append, length-drop, take_at, drop_at, take-append-drop}
use Rattle.cs_base.specs.declared.node_id.NodeId.{NodeId}
use Rattle.cs_base.specs.Fields.{IsBytes, Found, IsForm}
use Rattle.cs_base.proofs.Forms.{wide16, wide32, number_form, byte_form, bytes_form, pair_of, mapped_of, some_is}
use Rattle.cs_base.specs.declared.version.Version.{Version}
use Rattle.cs_base.specs.declared.version.Version.TheVariants.{One, Two}
use Rattle.cs_wire_message.specs.declared.message.Message.{Message}
use Rattle.cs_wire_message.specs.Message.{kind_of, body_of}
use Rattle.cs_wire.specs.declared.head.Head.{Head}
use Rattle.cs_wire.specs.declared.head.TheConstants.{MAGIC, MAGIC_OF_BATCHES}
use Rattle.cs_wire.specs.Datagram.{magic_of, node_name_encoding, text_with, message_text, text_in, tag_in, body_in}
use Rattle.cs_wire.specs.Heads.{name_of, node_name_at, head_from, head_at, first, head_seen}
use Rattle.cs_base.specs.NodeId.{same_name}
use Rattle.cs_wire.specs.Opens.{IsName}

-- ---- heads

name_form : IsForm node_name_encoding IsName node_name_at
unfolding node_name_at
name_form = mapped_of (pair_of (number_form w16 (2 ^ 16) wide16) (number_form w16 (2 ^ 16) wide16)) name_of (λ n. (n.shard, n.index)) IsName (λ p h. (refl, h)) (λ n h. (refl, h))

abbrev pub head_encoding : Head → List ℕ
head_encoding h = h.magic ++ ((h.kind ∷ []) ++ (node_name_encoding h.from ++ (node_name_encoding h.to ++ to_be_bytes w32 h.size)))

abbrev pub HeadFits : Head → Type 0
HeadFits h = ((length h.magic ≡ 4) × IsBytes h.magic) × ((h.kind < 256) × (IsName h.from × (IsName h.to × (h.size < 2 ^ 32))))

pub head_form : IsForm head_encoding HeadFits head_at
unfolding head_at
head_form = mapped_of (pair_of (bytes_form 4) (pair_of byte_form (pair_of name_form (pair_of name_form (number_form w32 (2 ^ 32) wide32))))) head_from (λ h. (h.magic, (h.kind, (h.from, (h.to, h.size))))) HeadFits
    (λ p h. (refl, h)) (λ h f. (refl, f))

pub head_length : (h : Head) → length h.magic ≡ 4 → length (head_encoding h) ≡ 17
head_length h four = omega (arith, four, length-append h.magic ((h.kind ∷ []) ++ (node_name_encoding h.from ++ (node_name_encoding h.to ++ to_be_bytes w32 h.size))))

pub first_some : (found : Found Head) (h : Head) → first found ≡ Some h → (rest : List ℕ) × (found ≡ Some (h, rest))
first_some (Some x) h e = (x.1, ap (λ (k : Head). Some (k, x.1)) (some_is x.0 h e))
first_some None h e = absurd cc

letters : (last : ℕ) → last < 256 → IsBytes (67 ∷ 83 ∷ 80 ∷ last ∷ [])
letters last fits zero = omega arith
letters last fits (suc zero) = omega arith
letters last fits (suc (suc zero)) = omega arith
letters last fits (suc (suc (suc zero))) = fits
letters last fits (suc (suc (suc (suc i)))) = omega arith

pub magic_bytes : (version : Version) → IsBytes (magic_of version)
magic_bytes One = letters 49 (omega arith)
magic_bytes Two = letters 50 (omega arith)

pub magic_four : (version : Version) → length (magic_of version) ≡ 4
magic_four One = refl
magic_four Two = refl

pub magic_same : (version : Version) → bytes_eq (magic_of version) (magic_of version) ≡ true
magic_same One = refl
magic_same Two = refl

-- the head of a message's datagram
abbrev pub head_for : Version → NodeId → NodeId → Message → Head
head_for version from to m =
    record { magic = magic_of version; kind = kind_of m; from = from; to = to; size = length (body_of version m) }

pub text_parts : (version : Version) (from to : NodeId) (m : Message) → message_text version from to m ≡ head_encoding (head_for version from to m) ++ body_of version m
unfolding text_with
text_parts One from to m = refl
text_parts Two from to m = refl

head_of_fields : (a : List ℕ) (b : ℕ) (c d : NodeId) (e : ℕ) (a2 : List ℕ) (b2 : ℕ) (c2 d2 : NodeId) (e2 : ℕ) → a ≡ a2 → b ≡ b2 → c ≡ c2 → d ≡ d2 → e ≡ e2
    → ◌≡◌ {A = Head} (record { magic = a; kind = b; from = c; to = d; size = e }) (record { magic = a2; kind = b2; from = c2; to = d2; size = e2 })
head_of_fields a b c d e a2 b2 c2 d2 e2 p q r s t = rw (p, q, r, s, t) refl

pub same_head : (version : Version) (h : Head) (from to : NodeId) (m : Message) → h.magic ≡ magic_of version → kind_of m ≡ h.kind → h.from ≡ from → h.to ≡ to → h.size ≡ length (body_of version m) → h ≡ head_for version from to m
same_head version h from to m magic kind is_from is_to size =
    head_of_fields h.magic h.kind h.from h.to h.size (magic_of version) (kind_of m) from to (length (body_of version m)) magic (sym kind) is_from is_to size

-- ---- head, body and tag

pub record Split (front inner last bytes : List ℕ) : Type 0 where
  pub text : text_in bytes ≡ front ++ inner
  pub tag : tag_in bytes ≡ last
  pub body : body_in bytes ≡ inner
  pub size : length bytes ≡ length inner + 49

pub split : (head body tag bytes : List ℕ) → length head ≡ 17 → length tag ≡ 32 → bytes ≡ (head ++ body) ++ tag → Split head body tag bytes
split head body tag bytes seventeen long is =
    let size : length bytes ≡ length body + 49 = ap (λ (b : List ℕ). length b) is ∙ omega (arith, seventeen, long, length-append (head ++ body) tag, length-append head body) in
    let front : length (head ++ body) ≡ length bytes - 32 = omega (arith, size, seventeen, length-append head body) in
    let text : text_in bytes ≡ head ++ body = ap (λ (b : List ℕ). take (length bytes - 32) b) is ∙ take_at (head ++ body) tag (length bytes - 32) front in
    record {
      text = text;
      tag = ap (λ (b : List ℕ). drop (length bytes - 32) b) is ∙ drop_at (head ++ body) tag (length bytes - 32) front;
      body = ap (λ (t : List ℕ). drop 17 t) text ∙ drop_at head body 17 seventeen;
      size = size;
    }

-- what is long enough and begins with a head has a body and a tag
pub record Cut (h : Head) (bytes : List ℕ) : Type 0 where
  pub body : List ℕ
  pub tag : List ℕ
  pub fits : HeadFits h
  pub is : bytes ≡ (head_encoding h ++ body) ++ tag
  pub parts : Split (head_encoding h) body tag bytes

pub cut : (h : Head) (bytes : List ℕ) → IsBytes bytes → 49 ≤ length bytes → head_seen bytes ≡ Some h → Cut h bytes
cut h bytes byte long seen =
    let found = first_some (head_at bytes) h seen in
    let t = head_form.takes bytes h found.0 byte found.1 in
    let rest = found.0 in
    let seventeen = head_length h t.1.0.0 in
    let size : length bytes ≡ 17 + length rest = ap (λ (b : List ℕ). length b) t.0.parts ∙ omega (arith, seventeen, length-append (head_encoding h) rest) in
    let body = take (length rest - 32) rest in
    let tag = drop (length rest - 32) rest in
    let rejoined : body ++ tag ≡ rest = take-append-drop (length rest - 32) rest in
    let is : bytes ≡ (head_encoding h ++ body) ++ tag = t.0.parts ∙ ap (λ (r : List ℕ). head_encoding h ++ r) (sym rejoined) ∙ sym (append_assoc (head_encoding h) body tag) in
    let thirty_two : length tag ≡ 32 = omega (arith, long, size, length-drop (length rest - 32) rest) in
    record { body = body; tag = tag; fits = t.1; is = is; parts = split (head_encoding h) body tag bytes seventeen thirty_two is }

-- ---- names

both : (a b : Bool) → (a && b) ≡ true → (a ≡ true) × (b ≡ true)
both true b e = (refl, e)
both false b e = absurd cc

pub both_are : (a b : Bool) → (a && b) ≡ true → (a ≡ true) × (b ≡ true)
both_are a b e = both a b e

of_fields : (s i s2 i2 : ℕ) → s ≡ s2 → i ≡ i2 → ◌≡◌ {A = NodeId} (record { shard = s; index = i }) (record { shard = s2; index = i2 })
of_fields s i s2 i2 p q = rw (p, q) refl

pub are_same : (a b : NodeId) → same_name a b ≡ true → a ≡ b
are_same a b e =
    let h = both (a.shard == b.shard) (a.index == b.index) e in
    of_fields a.shard a.index b.shard b.index (eqb-true a.shard b.shard h.0) (eqb-true a.index b.index h.1)

pub is_same : (a : NodeId) → same_name a a ≡ true
is_same a = rw (eq-eqb a.shard a.shard refl, eq-eqb a.index a.index refl) refl
