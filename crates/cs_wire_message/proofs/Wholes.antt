-- The whole of a body is that of one message.
use Rattle.std.proofs.Common.{◌≡◌, ℕ, Bool, true, false, cond, eqb, List, [], ◌∷◌, ◌++◌, length, Option, Some, None, refl, sym, ap, subst, ◌∙◌}
use Rattle.std.specs.Prelude.{◌&&◌, ◌==◌, ◌↔◌, is_some, Result, Ok, Err, IfOk}
use Rattle.cs_tx_value.specs.declared.form.FormError.{FormError}
use Rattle.cs_tx_value.specs.declared.form.FormError.TheVariants as errors
use Rattle.cs_tx_value.specs.Reading.{GivesAll, AnswersValue}
use Rattle.std.proofs.Math.Dec.{eqb-suc-zero}
use Rattle.std.proofs.lemmas.Bool.{eqb-true}
use Rattle.std.proofs.lemmas.List.{append-nil, nil_from_length}
use Rattle.cs_base.specs.declared.key.Key.{Key}
use Rattle.cs_base.specs.declared.key.Key.TheVariants as key
use Rattle.cs_base.specs.declared.version.Version.{Version}
use Rattle.cs_base.specs.Fields.{IsBytes, whole_at}
use Rattle.cs_base.proofs.Forms.{bind_some, when_some, some_is}
use Rattle.cs_wire_message.specs.declared.message.Message.{Message}
use Rattle.cs_wire_message.specs.declared.message.Message.TheVariants as message
use Rattle.cs_wire_message.specs.Message.{kind_of, body_of, MessageFits}
use Rattle.cs_wire_message.specs.Reading.{message_at}
use Rattle.cs_wire_message.specs.laws.Message.{spelled, IsLong, message_takes, message_again}
use Rattle.cs_wire_message.specs.Body.{Has, IsBody, is_dummy_question, message_whole}

heads : (x y : ℕ) (xs ys : List ℕ) → x ∷ xs ≡ y ∷ ys → x ≡ y
heads x y xs ys e = cc

tails : (x y : ℕ) (xs ys : List ℕ) → x ∷ xs ≡ y ∷ ys → xs ≡ ys
tails x y xs ys e = cc

module _ (version : Version) where
  -- what fits, but for one, is found again
  found_in : (m : Message) → IsLong version m → message_at version (kind_of m) (body_of version m) ≡ Some (m, [])
  found_in m long =
      let k = message_again version m [] long in
      let kind : kind_of m ≡ k.kind = heads (kind_of m) k.kind (body_of version m) k.text k.spelled in
      let text : body_of version m ≡ k.text = tails (kind_of m) k.kind (body_of version m) k.text k.spelled in
      rw (kind, text) (subst (λ (t : List ℕ). message_at version k.kind t ≡ Some (m, [])) (append-nil k.text) k.found)

  from_long : (m : Message) → IsLong version m → is_dummy_question (kind_of m) (body_of version m) ≡ false → message_whole version (kind_of m) (body_of version m) ≡ Some m
  from_long m long bare = rw (bare, found_in m long) refl

  key_bare : (k : Key) → is_dummy_question 10 (body_of version (message.Ask (Some k))) ≡ false
  key_bare (key.Object digest) = eqb-suc-zero (length digest)
  key_bare (key.Dummy shard serial) = refl

  whole_fits : (m : Message) → MessageFits version m → message_whole version (kind_of m) (body_of version m) ≡ Some m
  whole_fits (message.Ask None) fits = refl
  whole_fits (message.Ask (Some key)) fits = from_long (message.Ask (Some key)) fits (key_bare key)
  whole_fits m fits = from_long m fits refl

  long_fits : (m : Message) → IsLong version m → MessageFits version m
  long_fits (message.Ask None) long = absurd long
  long_fits m long = long

  both_true : (a b : Bool) → (a && b) ≡ true → (a ≡ true) × (b ≡ true)
  both_true true b e = (refl, e)
  both_true false b e = absurd cc

  abbrev read_or_bare : Bool → ℕ → List ℕ → Option Message
  read_or_bare bare kind body = cond bare (Some (message.Ask None)) (whole_at (message_at version kind) body)

  in_either : (bare : Bool) (kind : ℕ) (body : List ℕ) (m : Message) → is_dummy_question kind body ≡ bare → IsBytes body → read_or_bare bare kind body ≡ Some m → Has version kind body m
  in_either true kind body m is fits e =
      let b = both_true (kind == 10) (length body == 0) is in
      let ten : kind ≡ 10 = eqb-true _ _ b.0 in
      let none : body ≡ [] = nil_from_length body (eqb-true _ _ b.1) in
      let that : message.Ask None ≡ m = some_is (message.Ask None) m e in
      subst (λ (n : Message). Has version kind body n) that (record { kind = sym ten; body = sym none; fits = tt })
  in_either false kind body m is fits e =
      let a = bind_some (message_at version kind body) (λ found. cond (eqb (length found.1) 0) (Some found.0) None) m e in
      let g = when_some (eqb (length a.0.1) 0) (Some a.0.0) m a.2 in
      let t = message_takes version kind body a.0.0 a.0.1 fits a.1 in
      let nothing : a.0.1 ≡ [] = nil_from_length a.0.1 (eqb-true _ _ g.0) in
      let all : kind ∷ body ≡ spelled version a.0.0 = t.0.parts ∙ ap (λ (r : List ℕ). spelled version a.0.0 ++ r) nothing ∙ append-nil (spelled version a.0.0) in
      let kind_is : kind_of a.0.0 ≡ kind = sym (heads kind (kind_of a.0.0) body (body_of version a.0.0) all) in
      let body_is : body_of version a.0.0 ≡ body = sym (tails kind (kind_of a.0.0) body (body_of version a.0.0) all) in
      subst (λ (n : Message). Has version kind body n) (some_is a.0.0 m g.1) (record { kind = kind_is; body = body_is; fits = long_fits a.0.0 t.1 })

  pub whole_has : (kind : ℕ) (body : List ℕ) (m : Message) → IsBytes body → message_whole version kind body ≡ Some m → Has version kind body m
  whole_has kind body m fits e = in_either (is_dummy_question kind body) kind body m refl fits e

  pub has_whole : (kind : ℕ) (body : List ℕ) (m : Message) → Has version kind body m → message_whole version kind body ≡ Some m
  has_whole kind body m h = rw (sym h.kind, sym h.body) (whole_fits m h.fits)

  -- what a look at the whole tells
  pub tells : (kind : ℕ) (body : List ℕ) (found : Option Message) → IsBytes body → message_whole version kind body ≡ found → (is_some found ≡ true) ↔ IsBody version kind body
  tells kind body (Some m) fits e = ((λ t. (m, whole_has kind body m fits e)), λ b. refl)
  tells kind body None fits e = ((λ t. absurd cc), λ b. let h = has_whole kind body b.0 b.1 in absurd cc)

  pub is_found : (kind : ℕ) (body : List ℕ) (r : Result Message FormError) → IsBytes body → GivesAll r (message_whole version kind body) → IfOk r (λ m. Has version kind body m)
  is_found kind body (Ok m) fits given = whole_has kind body m fits given
  is_found kind body (Err e) fits given = tt

  pub is_only : (kind : ℕ) (body : List ℕ) (r : Result Message FormError) → GivesAll r (message_whole version kind body) → (m : Message) → Has version kind body m → AnswersValue r m
  is_only kind body (Ok x) given m h = some_is x m (sym given ∙ has_whole kind body m h)
  is_only kind body (Err errors.Memory) given m h = refl
  is_only kind body (Err errors.BadForm) given m h = let e = has_whole kind body m h in absurd cc
  is_only kind body (Err errors.TooLong) given m h = absurd given
