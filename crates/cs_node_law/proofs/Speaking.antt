-- A datagram opens, if at all, as from the name that stands in it.
use Rattle.std.proofs.Common.{◌≡◌, ℕ, ◌^◌, ◌<◌, List, ◌++◌, length, Option, Some, None, refl, sym, ap, ◌∙◌, subst, append_assoc}
use Rattle.std.specs.Prelude.{Ok, ◌-◌, take}
use Rattle.cs_base.specs.Fields.{IsBytes}
use Rattle.cs_base.specs.declared.node_id.NodeId.{NodeId}
use Rattle.cs_base.proofs.Forms.{IsBytes-drop, IsBytes-take}
use Rattle.cs_hash.specs.Hash.{hmac}
use Rattle.cs_wire_message.specs.declared.message.Message.{Message}
use Rattle.cs_base.specs.declared.version.Version.{Version}
use Rattle.cs_base.specs.declared.version.Version.TheVariants.{One, Two}
use Rattle.cs_wire_message.specs.Message.{MessageFits}
use Rattle.cs_wire_message.specs.Body.{message_whole}
use Rattle.cs_wire_message.proofs.Wholes.{whole_has}
use Rattle.cs_wire.specs.declared.head.Head.{Head}
use Rattle.cs_wire.specs.declared.keys.Keys.{Keys}
use Rattle.cs_wire.specs.declared.opening.OpenError.{OpenError}
use Rattle.cs_wire.specs.Datagram.{magic_of, body_in, text_with, datagram_with}
use Rattle.cs_wire.specs.Heads.{first, head_seen}
use Rattle.cs_wire.specs.Opens.{IsName, open_fault}
use Rattle.cs_wire.specs.Opened.{said_by, opened_body, unless_fault, opened}
use Rattle.cs_wire.proofs.Parts.{head_encoding, HeadFits, head_form, magic_bytes, magic_four}

-- ---- what opens is within the limits

message-fits : (version : Version) (bytes : List ℕ) (fault : Option OpenError) (seen : Option Head) (said : NodeId × Message) → IsBytes bytes → unless_fault fault (opened_body version bytes seen) ≡ Ok said → MessageFits version said.1
message-fits version bytes (Some error) seen said fits e = absurd cc
message-fits version bytes None None said fits e = absurd cc
message-fits version bytes None (Some head) said fits e = whole (message_whole version head.kind (body_in bytes)) refl e
  where
    whole : (o : Option Message) → message_whole version head.kind (body_in bytes) ≡ o → said_by head.from o ≡ Ok said → MessageFits version said.1
    whole None is e = absurd cc
    whole (Some m) is e =
        let that : (head.from, m) ≡ said = cc in
        subst (λ (s : NodeId × Message). MessageFits version s.1) that (whole_has version head.kind (body_in bytes) m (IsBytes-drop 17 (take (length bytes - 32) bytes) (IsBytes-take (length bytes - 32) bytes fits)) is).fits

pub opened-fits : (keys : Keys) (bytes : List ℕ) (said : NodeId × Message) → IsBytes bytes → opened keys bytes ≡ Ok said → MessageFits keys.version said.1
opened-fits keys bytes said fits e = message-fits keys.version bytes (open_fault keys bytes) (head_seen bytes) said fits e

-- ---- the speaker

text-parts : (version : Version) (from to : NodeId) (kind : ℕ) (body : List ℕ) → text_with version from to kind body ≡ head_encoding (record { magic = magic_of version; kind = kind; from = from; to = to; size = length body }) ++ body
unfolding text_with
text-parts One from to kind body = refl
text-parts Two from to kind body = refl

module _ (version : Version) (key : List ℕ) (from to : NodeId) (kind : ℕ) (body : List ℕ) (named : IsName from) (addressed : IsName to) (small : kind < 256) (short : length body < 2 ^ 32) where
  abbrev Front : Head
  Front = record { magic = magic_of version; kind = kind; from = from; to = to; size = length body }

  seen : head_seen (datagram_with version key from to kind body) ≡ Some Front
  seen =
      let text = text_with version from to kind body in
      let tag = hmac key text in
      let fits : HeadFits Front = ((magic_four version, magic_bytes version), (small, (named, (addressed, short)))) in
      let is : text ++ tag ≡ head_encoding Front ++ (body ++ tag) = ap (λ (t : List ℕ). t ++ tag) (text-parts version from to kind body) ∙ append_assoc (head_encoding Front) body tag in
      ap (λ (b : List ℕ). head_seen b) is ∙ ap first (head_form.again Front (body ++ tag) fits)

  said-from : (edition : Version) (bytes : List ℕ) (fault : Option OpenError) (found : Option Head) (said : NodeId × Message) → found ≡ Some Front → unless_fault fault (opened_body edition bytes found) ≡ Ok said → said.0 ≡ from
  said-from edition bytes (Some error) found said is e = absurd cc
  said-from edition bytes None None said is e = absurd cc
  said-from edition bytes None (Some head) said is e = whole (message_whole edition head.kind (body_in bytes)) e
    where
      whole : (o : Option Message) → said_by head.from o ≡ Ok said → said.0 ≡ from
      whole None e = absurd cc
      whole (Some m) e =
          let that : (head.from, m) ≡ said = cc in
          let same : head ≡ Front = cc in
          ap (λ (s : NodeId × Message). s.0) (sym that) ∙ ap (λ (h : Head). h.from) same

  pub opens-from : (keys : Keys) (said : NodeId × Message) → opened keys (datagram_with version key from to kind body) ≡ Ok said → said.0 ≡ from
  opens-from keys said e =
      let bytes = datagram_with version key from to kind body in
      said-from keys.version bytes (open_fault keys bytes) (head_seen bytes) said seen e
