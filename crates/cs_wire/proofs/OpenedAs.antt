-- Bytes open as a sender's message exactly where they are its datagram, and else the first test that fails is told.
use Rattle.std.proofs.Common.{◌≡◌, ℕ, ◌-◌, ◌≤◌, Bool, true, false, cond, List, length, take, Option, Some, None, Ok, Err, refl, sym, ap, subst, ◌∙◌, arith}
use Rattle.std.specs.Prelude.{◌↔◌, nat_lt, bytes_eq}
use Rattle.std.proofs.lemmas.Bool.Decides.{nat_tests}
use Rattle.cs_base.specs.declared.node_id.NodeId.{NodeId}
use Rattle.cs_base.specs.Fields.{IsBytes}
use Rattle.cs_base.specs.NodeId.{same_name}
use Rattle.cs_base.proofs.Forms.{IsBytes-drop, IsBytes-take}
use Rattle.cs_base.specs.declared.version.Version.{Version}
use Rattle.cs_wire_message.specs.declared.message.Message.{Message}
use Rattle.cs_wire_message.specs.Message.{kind_of, is_kind}
use Rattle.cs_wire_message.specs.Body.{IsBody, message_whole}
use Rattle.cs_wire_message.proofs.Wholes.{whole_has, has_whole}
use Rattle.cs_wire.specs.declared.head.Head.{Head}
use Rattle.cs_wire.specs.declared.keys.Row.{Row}
use Rattle.cs_wire.specs.declared.keys.Keys.{Keys}
use Rattle.cs_wire.specs.declared.opening.OpenError.{OpenError}
use Rattle.cs_wire.specs.declared.opening.OpenError.TheVariants as errors
use Rattle.cs_wire.specs.Datagram.{magic_of, is_sized, has_tag, body_in}
use Rattle.cs_wire.specs.Heads.{head_seen}
use Rattle.cs_wire.specs.Keys.{row_of}
use Rattle.cs_wire.specs.Opens.{IsSealed, unless, keyed_fault, head_fault, open_fault, HasNoBody}
use Rattle.cs_wire.specs.Opened.{Opened, opened, opened_body, said_by, unless_fault}
use Rattle.cs_wire.specs.OpenedAs.{FailsFirst, IsOpenedAs}
use Rattle.cs_wire.proofs.Masters.{opened_err}
use Rattle.cs_wire.proofs.Sealed.{is_sealed}
use Rattle.cs_wire.proofs.Unsealed.{is_clear}

-- ---- no test before that of the body is told as that one

not_body : (test : Bool) (error : OpenError) (later : Option OpenError) → (Some error ≡ Some errors.Body → ⊥) → (later ≡ Some errors.Body → ⊥) → unless test error later ≡ Some errors.Body → ⊥
not_body true error later this others e = others e
not_body false error later this others e = this e

keyed_not_body : (head : Head) (bytes : List ℕ) (found : Option Row) → keyed_fault head bytes found ≡ Some errors.Body → ⊥
keyed_not_body head bytes None e = cc
keyed_not_body head bytes (Some row) e =
    not_body (is_sized head.size bytes) errors.Length (unless (has_tag row.from bytes) errors.Tag None) (λ other. cc)
    (λ other. not_body (has_tag row.from bytes) errors.Tag None (λ last. cc) (λ last. cc) other) e

head_not_body : (keys : Keys) (bytes : List ℕ) (found : Option Head) → head_fault keys bytes found ≡ Some errors.Body → ⊥
head_not_body keys bytes None e = cc
head_not_body keys bytes (Some head) e =
    let keyed_later = keyed_fault head bytes (row_of head.from keys) in
    let mine_later = unless (same_name head.to keys.me) errors.NotMine keyed_later in
    let kind_later = unless (is_kind head.kind) errors.Kind mine_later in
    not_body (bytes_eq head.magic (magic_of keys.version)) errors.Magic kind_later (λ other. cc)
    (λ kind. not_body (is_kind head.kind) errors.Kind mine_later (λ other. cc)
    (λ mine. not_body (same_name head.to keys.me) errors.NotMine keyed_later (λ other. cc) (keyed_not_body head bytes (row_of head.from keys)) mine) kind) e

short_not_body : (short : Bool) (later : Option OpenError) → (later ≡ Some errors.Body → ⊥) → cond short (Some errors.Short) later ≡ Some errors.Body → ⊥
short_not_body true later others e = cc
short_not_body false later others e = others e

module _ (keys : Keys) (bytes : List ℕ) where
  fault_not_body : open_fault keys bytes ≡ Some errors.Body → ⊥
  fault_not_body = short_not_body (nat_lt (length bytes) 49) (head_fault keys bytes (head_seen bytes)) (head_not_body keys bytes (head_seen bytes))

  fails : (e : OpenError) → open_fault keys bytes ≡ Some e → FailsFirst keys bytes e
  fails errors.Short is = is
  fails errors.Magic is = is
  fails errors.Kind is = is
  fails errors.NotMine is = is
  fails errors.Stranger is = is
  fails errors.Length is = is
  fails errors.Tag is = is
  fails errors.Body is = absurd (fault_not_body is)

  -- ---- what passes all tests before that of the body is long, and has a head

  passed_long : (short : Bool) (later : Option OpenError) → cond short (Some errors.Short) later ≡ None → short ≡ false
  passed_long true later e = absurd cc
  passed_long false later e = refl

  passed_head : (short : Bool) → cond short (Some errors.Short) (head_fault keys bytes None) ≡ None → ⊥
  passed_head true e = cc
  passed_head false e = cc

  is_long : open_fault keys bytes ≡ None → 49 ≤ length bytes
  is_long clear =
      let not_short : nat_lt (length bytes) 49 ≡ false = passed_long (nat_lt (length bytes) 49) (head_fault keys bytes (head_seen bytes)) clear in
      grind (arith, nat_tests)

  -- ---- the two directions

  to_body : (head : Head) → IsBytes bytes → head_seen bytes ≡ Some head → open_fault keys bytes ≡ None → (found : Option Message) → message_whole keys.version head.kind (body_in bytes) ≡ found → (said : Opened) → said_by head.from found ≡ said → IsOpenedAs keys bytes said
  to_body head fits seen clear (Some m) whole said is =
      let body : IsBytes (body_in bytes) = IsBytes-drop 17 (take (length bytes - 32) bytes) (IsBytes-take (length bytes - 32) bytes fits) in
      subst (IsOpenedAs keys bytes) is (is_sealed keys bytes head m fits (is_long clear) seen clear (whole_has keys.version head.kind (body_in bytes) m body whole))
  to_body head fits seen clear None whole said is =
      let none : IsBody keys.version head.kind (body_in bytes) → ⊥ = λ b. let has = has_whole keys.version head.kind (body_in bytes) b.0 b.1 in cc in
      subst (IsOpenedAs keys bytes) is (clear, subst (HasNoBody keys.version bytes) (sym seen) none)

  to_head : IsBytes bytes → open_fault keys bytes ≡ None → (found : Option Head) → head_seen bytes ≡ found → (said : Opened) → opened_body keys.version bytes found ≡ said → IsOpenedAs keys bytes said
  to_head fits clear None seen said is =
      absurd (passed_head (nat_lt (length bytes) 49) (sym (ap (λ (h : Option Head). cond (nat_lt (length bytes) 49) (Some errors.Short) (head_fault keys bytes h)) seen) ∙ clear))
  to_head fits clear (Some head) seen said is = to_body head fits seen clear (message_whole keys.version head.kind (body_in bytes)) refl said is

  to_fault : IsBytes bytes → (fault : Option OpenError) → open_fault keys bytes ≡ fault → (said : Opened) → unless_fault fault (opened_body keys.version bytes (head_seen bytes)) ≡ said → IsOpenedAs keys bytes said
  to_fault fits (Some error) fault said is = subst (IsOpenedAs keys bytes) is (fails error fault)
  to_fault fits None clear said is = to_head fits clear (head_seen bytes) refl said is

  of_sealed : (from : NodeId) (m : Message) → IsSealed keys bytes from m → opened keys bytes ≡ Ok (from, m)
  of_sealed from m sealed =
      let c = is_clear keys bytes from m sealed in
      let whole : message_whole keys.version (kind_of m) (body_in bytes) ≡ Some m = has_whole keys.version (kind_of m) (body_in bytes) m c.has in
      ap (λ (e : Option OpenError). unless_fault e (opened_body keys.version bytes (head_seen bytes))) c.none
      ∙ ap (opened_body keys.version bytes) c.seen
      ∙ ap (said_by from) whole

  of_failed : IsBytes (body_in bytes) → (e : OpenError) → FailsFirst keys bytes e → opened keys bytes ≡ Err e
  of_failed fits errors.Short is = sym (opened_err keys bytes errors.Short fits is)
  of_failed fits errors.Magic is = sym (opened_err keys bytes errors.Magic fits is)
  of_failed fits errors.Kind is = sym (opened_err keys bytes errors.Kind fits is)
  of_failed fits errors.NotMine is = sym (opened_err keys bytes errors.NotMine fits is)
  of_failed fits errors.Stranger is = sym (opened_err keys bytes errors.Stranger fits is)
  of_failed fits errors.Length is = sym (opened_err keys bytes errors.Length fits is)
  of_failed fits errors.Tag is = sym (opened_err keys bytes errors.Tag fits is)
  of_failed fits errors.Body is = sym (opened_err keys bytes errors.Body fits is)

  of_said : IsBytes bytes → (said : Opened) → IsOpenedAs keys bytes said → opened keys bytes ≡ said
  of_said fits (Ok said) is = of_sealed said.0 said.1 is
  of_said fits (Err error) is = of_failed (IsBytes-drop 17 (take (length bytes - 32) bytes) (IsBytes-take (length bytes - 32) bytes fits)) error is

pub opened_exactly : (keys : Keys) (bytes : List ℕ) (said : Opened) → IsBytes bytes → (opened keys bytes ≡ said) ↔ IsOpenedAs keys bytes said
opened_exactly keys bytes said fits = (to_fault keys bytes fits (open_fault keys bytes) refl said, of_said keys bytes fits said)
