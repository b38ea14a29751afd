-- Sealed datagrams pass all tests, and are those of one message alone.
use Rattle.std.proofs.Common.{◌≡◌, ℕ, ◌+◌, Bool, true, false, cond, List, [], ◌++◌, length, Some, None, Result, Ok, Err, refl, sym, ap, subst, ◌∙◌, append_assoc, arith}
use Rattle.std.specs.Prelude.{not, ◌&&◌, nat_lt}
use Rattle.std.proofs.lemmas.Bool.{eq-eqb, le-ltb, le-leb}
use Rattle.std.proofs.lemmas.Slice.Eq.{bytes_eq-Decides}
use Rattle.sha2.proofs.Facts256.{length-sha256}
use Rattle.cs_base.specs.declared.node_id.NodeId.{NodeId}
use Rattle.cs_hash.specs.Hash.{hmac}
use Rattle.cs_base.specs.declared.version.Version.{Version}
use Rattle.cs_wire_message.specs.declared.message.Message.{Message}
use Rattle.cs_wire_message.specs.Message.{kind_of, body_of, MessageFits}
use Rattle.cs_wire_message.specs.laws.Kinds.{kind_passes, kind_small}
use Rattle.cs_wire_message.specs.Body.{Has}
use Rattle.cs_wire_message.proofs.Short.{body_short}
use Rattle.cs_wire.specs.declared.head.Head.{Head}
use Rattle.cs_wire.specs.declared.keys.Row.{Row}
use Rattle.cs_wire.specs.declared.keys.Keys.{Keys}
use Rattle.cs_wire.specs.declared.opening.OpenError.{OpenError}
use Rattle.cs_wire.specs.declared.opening.OpenError.TheVariants as errors
use Rattle.cs_wire.specs.Datagram.{message_text, sealed, is_sized, has_tag, text_in, tag_in, body_in}
use Rattle.cs_wire.specs.Heads.{head_at, first, head_seen}
use Rattle.cs_wire.specs.Keys.{row_of, row_between, IsOfMaster}
use Rattle.cs_base.specs.declared.config.Config.{Config}
use Rattle.cs_base.specs.NodeId.{is_named, same_name}
use Rattle.cs_base.proofs.Forms.{some_is, when_some}
use Rattle.cs_wire.specs.declared.view.MessageView.{MessageView}
use Rattle.cs_wire.specs.Opens.{IsName, Seals, IsSealed, keyed_fault, head_fault, open_fault, HasNoBody, Opens, OpensAs, ShowsMessage}
use Rattle.cs_wire.proofs.Parts.{head_encoding, HeadFits, head_form, head_for, head_length, magic_bytes, magic_four, magic_same, text_parts, split, is_same}

pub record IsClear (keys : Keys) (bytes : List ℕ) (sender : NodeId) (m : Message) : Type 0 where
  pub seen : head_seen bytes ≡ Some (head_for keys.version sender keys.me m)
  pub none : open_fault keys bytes ≡ None
  pub has : Has keys.version (kind_of m) (body_in bytes) m

tag_length : (key text : List ℕ) → length (hmac key text) ≡ 32
tag_length key text = length-sha256 _

pub is_clear : (keys : Keys) (bytes : List ℕ) (sender : NodeId) (m : Message) → IsSealed keys bytes sender m → IsClear keys bytes sender m
is_clear keys bytes sender m s =
    let h = head_for keys.version sender keys.me m in
    let key = s.row.from in
    let body = body_of keys.version m in
    let text = message_text keys.version sender keys.me m in
    let tag = hmac key text in
    let thirty_two : length tag ≡ 32 = tag_length key text in
    let short = body_short keys.version m s.fits in
    let fits : HeadFits h = ((magic_four keys.version, magic_bytes keys.version), (kind_small m, (s.named, (s.mine, omega (arith, short))))) in
    let is : bytes ≡ (head_encoding h ++ body) ++ tag = s.is ∙ ap (λ (t : List ℕ). t ++ tag) (text_parts keys.version sender keys.me m) in
    let parts = split (head_encoding h) body tag bytes (head_length h (magic_four keys.version)) thirty_two is in
    let found : head_at bytes ≡ Some (h, body ++ tag) = ap head_at (is ∙ append_assoc (head_encoding h) body tag) ∙ head_form.again h (body ++ tag) fits in
    let seen : head_seen bytes ≡ Some h = ap first found in
    let not_short : nat_lt (length bytes) 49 ≡ false = le-ltb _ _ (omega (arith, parts.size)) in
    let sized : is_sized (length body) bytes ≡ true = rw (eq-eqb (length bytes) (length body + 49) parts.size, le-leb (length bytes) 32768 (omega (arith, parts.size, short))) refl in
    let tagged : has_tag key bytes ≡ true = (bytes_eq-Decides (tag_in bytes) (hmac key (text_in bytes))).1 (parts.tag ∙ sym (ap (hmac key) (parts.text ∙ sym (text_parts keys.version sender keys.me m)))) in
    let keyed : keyed_fault h bytes (row_of sender keys) ≡ None = ap (keyed_fault h bytes) s.held ∙ rw (sized, tagged) refl in
    let clear : head_fault keys bytes (Some h) ≡ None = rw (magic_same keys.version, kind_passes m, is_same keys.me) keyed in
    record {
      seen = seen;
      none = ap (λ (b : Bool). cond b (Some errors.Short) (head_fault keys bytes (head_seen bytes))) not_short ∙ ap (head_fault keys bytes) seen ∙ clear;
      has = record { kind = refl; body = sym parts.body; fits = s.fits };
    }

same_shown : (keys : Keys) (bytes : List ℕ) (found : NodeId × MessageView) (m2 : Message) → IsSealed keys bytes found.0 m2 → ShowsMessage found.1 m2 → found.1.version ≡ keys.version → (sender : NodeId) (m : Message) → IsSealed keys bytes sender m → (found.0 ≡ sender) × ShowsMessage found.1 m
same_shown keys bytes found m2 s2 shown version sender m s =
    let a = is_clear keys bytes sender m s in
    let b = is_clear keys bytes found.0 m2 s2 in
    let heads : head_for keys.version found.0 keys.me m2 ≡ head_for keys.version sender keys.me m = some_is _ _ (sym b.seen ∙ a.seen) in
    let same : Has keys.version found.1.kind found.1.body.now m2 = subst (λ (v : Version). Has v found.1.kind found.1.body.now m2) version shown in
    let kinds : kind_of m2 ≡ kind_of m = ap (λ (h : Head). h.kind) heads in (
      ap (λ (h : Head). h.from) heads,
      subst (λ (v : Version). Has v found.1.kind found.1.body.now m) (sym version)
          (record {
            kind = sym kinds ∙ same.kind;
            body = a.has.body ∙ sym b.has.body ∙ same.body;
            fits = s.fits;
          }),
    )

pub opens_as : (keys : Keys) (bytes : List ℕ) (r : Result (NodeId × MessageView) OpenError) → Opens keys bytes r → (sender : NodeId) (m : Message) → IsSealed keys bytes sender m → OpensAs r sender m
opens_as keys bytes (Ok found) o sender m s = same_shown keys bytes found o.0 o.1 o.2 o.3 sender m s
opens_as keys bytes (Err errors.Body) o sender m s = let a = is_clear keys bytes sender m s in (subst (HasNoBody keys.version bytes) a.seen o.1) (m, a.has)
opens_as keys bytes (Err errors.Short) o sender m s = let n = (is_clear keys bytes sender m s).none in absurd cc
opens_as keys bytes (Err errors.Magic) o sender m s = let n = (is_clear keys bytes sender m s).none in absurd cc
opens_as keys bytes (Err errors.Kind) o sender m s = let n = (is_clear keys bytes sender m s).none in absurd cc
opens_as keys bytes (Err errors.NotMine) o sender m s = let n = (is_clear keys bytes sender m s).none in absurd cc
opens_as keys bytes (Err errors.Stranger) o sender m s = let n = (is_clear keys bytes sender m s).none in absurd cc
opens_as keys bytes (Err errors.Length) o sender m s = let n = (is_clear keys bytes sender m s).none in absurd cc
opens_as keys bytes (Err errors.Tag) o sender m s = let n = (is_clear keys bytes sender m s).none in absurd cc

pub sealed_for : (config : Config) (master : List ℕ) (i j : NodeId) (a b : Keys) (m : Message) (bytes : List ℕ) → IsOfMaster config master i a → IsOfMaster config master j b → IsName i → IsName j → is_named config i ≡ true → same_name i j ≡ false
    → MessageFits a.version m → Seals a j m [] bytes → IsSealed b bytes i m
sealed_for config master i j a b m bytes of_i of_j name_i name_j named apart fits s =
    let to_j = when_some (is_named config j && not (same_name j i)) (Some (row_between master i j)) s.row (sym (of_i.rows j) ∙ s.held) in
    let row : row_between master i j ≡ s.row = some_is _ _ to_j.1 in
    let one : a.version ≡ b.version = of_i.version ∙ sym of_j.version in
    let held : row_of i b ≡ Some (row_between master j i) = of_j.rows i ∙ rw (named, apart) refl in
    record {
      named = name_i;
      mine = subst IsName (sym of_j.me) name_j;
      row = row_between master j i;
      held = held;
      fits = subst (λ (v : Version). MessageFits v m) one fits;
      is = s.is ∙ ap (λ (v : Version). sealed v s.row.to a.me j m) one ∙ ap (λ (r : Row). sealed b.version r.to a.me j m) (sym row)
          ∙ ap (λ (n : NodeId). sealed b.version (row_between master i j).to n j m) of_i.me ∙ ap (λ (n : NodeId). sealed b.version (row_between master j i).from i n m) (sym of_j.me);
    }
