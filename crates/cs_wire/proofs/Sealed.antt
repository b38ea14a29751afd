-- Datagrams that pass all tests are the sealed ones.
use Rattle.std.proofs.Common.{◌≡◌, ℕ, ◌+◌, ◌≤◌, Bool, true, false, cond, List, ◌++◌, length, Option, Some, None, Err, refl, sym, ap, subst, ◌∙◌, arith}
use Rattle.std.specs.Prelude.{◌==◌, bytes_eq, nat_lt, nat_le}
use Rattle.std.proofs.lemmas.Bool.{eqb-true, le-ltb}
use Rattle.std.proofs.lemmas.Slice.Eq.{bytes_eq-Decides}
use Rattle.cs_base.specs.Fields.{IsBytes}
use Rattle.cs_hash.specs.Hash.{hmac}
use Rattle.cs_base.specs.declared.version.Version.{Version}
use Rattle.cs_wire_message.specs.declared.message.Message.{Message}
use Rattle.cs_wire_message.specs.Message.{body_of, is_kind}
use Rattle.cs_wire_message.specs.Body.{Has, IsBody}
use Rattle.cs_wire.specs.declared.head.Head.{Head}
use Rattle.cs_wire.specs.declared.keys.Row.{Row}
use Rattle.cs_wire.specs.declared.keys.Keys.{Keys}
use Rattle.cs_wire.specs.declared.opening.OpenError.{OpenError}
use Rattle.cs_wire.specs.declared.opening.OpenError.TheVariants as errors
use Rattle.cs_wire.specs.Datagram.{magic_of, message_text, is_sized, has_tag, text_in, tag_in, body_in}
use Rattle.cs_wire.specs.Heads.{head_seen}
use Rattle.cs_wire.specs.Keys.{row_of}
use Rattle.cs_base.specs.NodeId.{same_name}
use Rattle.cs_wire.specs.Opens.{IsName, IsSealed, unless, keyed_fault, head_fault, open_fault, HasNoBody, Opens}
use Rattle.cs_wire.proofs.Parts.{head_encoding, head_for, text_parts, same_head, cut, both_are, are_same}

-- ---- what passes all tests

passed : (test : Bool) (error : OpenError) (later : Option OpenError) → unless test error later ≡ None → (test ≡ true) × (later ≡ None)
passed true error later e = (refl, e)
passed false error later e = absurd cc

record Keyed (head : Head) (bytes : List ℕ) (found : Option Row) : Type 0 where
  pub row : Row
  pub held : found ≡ Some row
  pub sized : is_sized head.size bytes ≡ true
  pub tagged : has_tag row.from bytes ≡ true

keyed : (head : Head) (bytes : List ℕ) (found : Option Row) → keyed_fault head bytes found ≡ None → Keyed head bytes found
keyed head bytes None e = absurd cc
keyed head bytes (Some row) e =
    let a = passed (is_sized head.size bytes) errors.Length (unless (has_tag row.from bytes) errors.Tag None) e in
    let b = passed (has_tag row.from bytes) errors.Tag None a.1 in
    record { row = row; held = refl; sized = a.0; tagged = b.0 }

pub is_sealed : (keys : Keys) (bytes : List ℕ) (h : Head) (m : Message) → IsBytes bytes → 49 ≤ length bytes → head_seen bytes ≡ Some h → open_fault keys bytes ≡ None → Has keys.version h.kind (body_in bytes) m → IsSealed keys bytes h.from m
is_sealed keys bytes h m byte long seen none has =
    let c = cut h bytes byte long seen in
    let not_short : nat_lt (length bytes) 49 ≡ false = le-ltb _ _ long in
    let clear : head_fault keys bytes (Some h) ≡ None = sym (ap (head_fault keys bytes) seen) ∙ sym (ap (λ (b : Bool). cond b (Some errors.Short) (head_fault keys bytes (head_seen bytes))) not_short) ∙ none in
    let keyed_later = keyed_fault h bytes (row_of h.from keys) in
    let mine_later = unless (same_name h.to keys.me) errors.NotMine keyed_later in
    let kind_later = unless (is_kind h.kind) errors.Kind mine_later in
    let magic = passed (bytes_eq h.magic (magic_of keys.version)) errors.Magic kind_later clear in
    let kind = passed (is_kind h.kind) errors.Kind mine_later magic.1 in
    let mine = passed (same_name h.to keys.me) errors.NotMine keyed_later kind.1 in
    let k = keyed h bytes (row_of h.from keys) mine.1 in
    let sized = both_are (length bytes == h.size + 49) (nat_le (length bytes) 32768) k.sized in
    let total : length bytes ≡ h.size + 49 = eqb-true _ _ sized.0 in
    let body : c.body ≡ body_of keys.version m = sym c.parts.body ∙ sym has.body in
    let size : h.size ≡ length (body_of keys.version m) = omega (arith, total, c.parts.size) ∙ ap (λ (b : List ℕ). length b) body in
    let is_head : h ≡ head_for keys.version h.from keys.me m = same_head keys.version h h.from keys.me m ((bytes_eq-Decides h.magic (magic_of keys.version)).0 magic.0) has.kind refl (are_same h.to keys.me mine.0) size in
    let text : head_encoding h ++ c.body ≡ message_text keys.version h.from keys.me m = ap (λ (g : Head). head_encoding g ++ c.body) is_head ∙ ap (λ (b : List ℕ). head_encoding (head_for keys.version h.from keys.me m) ++ b) body ∙ sym (text_parts keys.version h.from keys.me m) in
    let tag : c.tag ≡ hmac k.row.from (message_text keys.version h.from keys.me m) = sym c.parts.tag ∙ (bytes_eq-Decides (tag_in bytes) (hmac k.row.from (text_in bytes))).0 k.tagged ∙ ap (hmac k.row.from) (c.parts.text ∙ text) in
    record {
      named = c.fits.1.1.0;
      mine = subst IsName (are_same h.to keys.me mine.0) c.fits.1.1.1.0;
      row = k.row;
      held = k.held;
      fits = has.fits;
      is = c.is ∙ ap (λ (t : List ℕ). t ++ c.tag) text ∙ ap (λ (t : List ℕ). message_text keys.version h.from keys.me m ++ t) tag;
    }

-- ---- what a call answers

pub opens_err : (keys : Keys) (bytes : List ℕ) (e : OpenError) → (open_fault keys bytes ≡ Some e) × (e ≡ errors.Body → ⊥) → Opens keys bytes (Err e)
opens_err keys bytes errors.Short h = h.0
opens_err keys bytes errors.Magic h = h.0
opens_err keys bytes errors.Kind h = h.0
opens_err keys bytes errors.NotMine h = h.0
opens_err keys bytes errors.Stranger h = h.0
opens_err keys bytes errors.Length h = h.0
opens_err keys bytes errors.Tag h = h.0
opens_err keys bytes errors.Body h = absurd (h.1 refl)

pub no_body : (version : Version) (bytes : List ℕ) (found : Option Head) (h : Head) → found ≡ Some h → (IsBody version h.kind (body_in bytes) → ⊥) → HasNoBody version bytes found
no_body version bytes found h is none = subst (HasNoBody version bytes) (sym is) none
