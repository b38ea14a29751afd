-- The contracts of a site, one after the other.
use Rattle.std.proofs.Common.{◌≡◌, inl, inr, ℕ, suc, ◌+◌, ◌<◌, ◌≤◌, Bool, true, false, List, [], ◌∷◌, ◌++◌, length, get_or, take, drop, Option, Some, None, Ok, Err, refl, sym, ap, subst, ◌∙◌, cond, drop-cons, add-one}
use Rattle.std.specs.Prelude.{if◌then◌else◌}
use Rattle.std.specs.List.{position_from}
use Rattle.std.proofs.lemmas.List.{take_more, take_all, take-append-drop}
use Rattle.cs_io.specs.Told.{Stays}
use Rattle.cs_io.specs.Store.{Files}
use Rattle.cs_types.specs.Accepting.{is_refused}
use Rattle.cs_approve.specs.Books.{first_refused}
use Rattle.cs_deploy.specs.declared.cause.Cause.{Cause}
use Rattle.cs_deploy.specs.declared.cause.Cause.TheVariants as cause
use Rattle.cs_deploy.specs.declared.cause.Untaken.{Untaken}
use Rattle.cs_deploy.specs.Taking.{Taken, ◌>>=◌, without_file, IsStoreFault, TakesFiles, FilesCome, bytes_taken}
use Rattle.cs_deploy.specs.Refusing.{Refuses}
use Rattle.cs_deploy.specs.Files.{accepted_text, text_taken, texts_taken}
use Rattle.cs_deploy.proofs.Steps.{takes-ok, takes-not, first-not, then-next, back, refusal-so, Stable, stable-same, stable-then, stable-bytes}

-- ---- one text

accepts : (name text : List ℕ) → is_refused text ≡ false → accepted_text name text ≡ Ok text
accepts name text is = ap (λ (b : Bool). if b then Err (name, cause.Contract) else Ok text) is

pub text-accepted : (name text : List ℕ) (a : Option Files) → TakesFiles (FilesCome (bytes_taken name)) a (Ok text) → is_refused text ≡ false → TakesFiles (FilesCome (text_taken name)) a (Ok text)
text-accepted name text a loaded is =
    then-next (bytes_taken name) (λ files text. accepted_text name text) a text (Ok text) (stable-bytes name) loaded
    (takes-ok (λ (outcome : Taken (List ℕ)). accepted_text name text ≡ outcome) a text (accepts name text is))

-- a text that is no contract is refused
refuses : (name text : List ℕ) → is_refused text ≡ true → accepted_text name text ≡ Err (name, cause.Contract)
refuses name text is = ap (λ (b : Bool). if b then Err (name, cause.Contract) else Ok text) is

pub text-refused : (name text : List ℕ) (a : Option Files) (why : Untaken) → TakesFiles (FilesCome (bytes_taken name)) a (Ok text) → is_refused text ≡ true → Refuses name cause.Contract why → (IsStoreFault why → ⊥)
    → TakesFiles (FilesCome (text_taken name)) a (Err why)
text-refused name text a why loaded is told sound =
    then-next (bytes_taken name) (λ files text. accepted_text name text) a text (Err why) (stable-bytes name) loaded
    (takes-not (λ (outcome : Taken (List ℕ)). accepted_text name text ≡ outcome) a name cause.Contract why sound (refuses name text is) told)

pub text-not : (name : List ℕ) (a : Option Files) (why : Untaken) → TakesFiles (FilesCome (bytes_taken name)) a (Err why) → TakesFiles (FilesCome (text_taken name)) a (Err why)
text-not name a why = first-not (bytes_taken name) (λ files text. accepted_text name text) a why

stable-text : (name : List ℕ) → Stable (text_taken name)
stable-text name = stable-then (bytes_taken name) (λ files text. accepted_text name text) (stable-bytes name) (λ text. stable-same (accepted_text name text))

-- ---- all texts

abbrev Texts : Type 0
Texts = List (List ℕ)

ok-same : (s : Taken Texts) → (s >>= λ texts. Ok texts) ≡ s
ok-same (Ok texts) = refl
ok-same (Err told) = refl

joined : (r : Taken (List ℕ)) (s q : Taken Texts)
    → (r >>= λ text. (s >>= λ first. q >>= λ more. Ok (first ++ more)) >>= λ texts. Ok (text ∷ texts)) ≡ ((r >>= λ text. s >>= λ texts. Ok (text ∷ texts)) >>= λ first. q >>= λ more. Ok (first ++ more))
joined (Err told) s q = refl
joined (Ok text) (Err told) q = refl
joined (Ok text) (Ok texts) (Err told) = refl
joined (Ok text) (Ok texts) (Ok more) = refl

-- those of a front of the names, and then the others
parted : (names rest : List (List ℕ)) (files : Files) → texts_taken (names ++ rest) files ≡ (texts_taken names files >>= λ first. texts_taken rest files >>= λ more. Ok (first ++ more))
parted [] rest files = sym (ok-same (texts_taken rest files))
parted (name ∷ names) rest files =
    ap (λ (s : Taken Texts). text_taken name files >>= λ text. s >>= λ texts. Ok (text ∷ texts)) (parted names rest files)
    ∙ joined (text_taken name files) (texts_taken names files) (texts_taken rest files)

parted-ok : (names rest : List (List ℕ)) (texts : Texts) (files : Files) → texts_taken names files ≡ Ok texts → texts_taken (names ++ rest) files ≡ (texts_taken rest files >>= λ more. Ok (texts ++ more))
parted-ok names rest texts files is =
    parted names rest files ∙ ap (λ (s : Taken Texts). s >>= λ first. texts_taken rest files >>= λ more. Ok (first ++ more)) is

one-more : (names : List (List ℕ)) (name : List ℕ) (texts : Texts) (text : List ℕ) (files : Files) → texts_taken names files ≡ Ok texts → text_taken name files ≡ Ok text → texts_taken (names ++ name ∷ []) files ≡ Ok (texts ++ text ∷ [])
one-more names name texts text files is next =
    parted-ok names (name ∷ []) texts files is
    ∙ ap (λ (r : Taken (List ℕ)). (r >>= λ text. Ok (text ∷ [])) >>= λ more. Ok (texts ++ more)) next

pub stable-texts : (names : List (List ℕ)) → Stable (texts_taken names)
stable-texts [] = stable-same (Ok [])
stable-texts (name ∷ names) =
    stable-then (text_taken name) (λ files text. texts_taken names files >>= λ texts. Ok (text ∷ texts)) (stable-text name)
    (λ text. stable-then (texts_taken names) (λ files texts. Ok (text ∷ texts)) (stable-texts names) (λ texts. stable-same (Ok (text ∷ texts))))

one-not : (names : List (List ℕ)) (name : List ℕ) (rest : List (List ℕ)) (texts : Texts) (files : Files) (told : List ℕ × Cause)
    → texts_taken names files ≡ Ok texts → text_taken name files ≡ Err told → texts_taken (names ++ name ∷ rest) files ≡ Err told
one-not names name rest texts files told is next =
    parted-ok names (name ∷ rest) texts files is
    ∙ ap (λ (r : Taken (List ℕ)). (r >>= λ text. texts_taken rest files >>= λ texts. Ok (text ∷ texts)) >>= λ more. Ok (texts ++ more)) next

-- ---- with the names from the first on

module _ (names : List (List ℕ)) (i : ℕ) (name other : List ℕ) (within : i < length names) (is : name ≡ get_or names i other) where
  front : take (i + 1) names ≡ take i names ++ name ∷ []
  front = take_more names i other within ∙ ap (λ (n : List ℕ). take i names ++ n ∷ []) (sym is)

  whole : names ≡ take i names ++ name ∷ drop (i + 1) names
  whole = sym (take-append-drop i names) ∙ ap (λ (l : List (List ℕ)). take i names ++ l)
      (drop-cons names i other within ∙ ap (λ (n : List ℕ). n ∷ drop (suc i) names) (sym is) ∙ ap (λ (j : ℕ). name ∷ drop j names) (sym (add-one i)))

  pub texts-next : (texts : Texts) (text : List ℕ) (a b : Option Files) → TakesFiles (FilesCome (texts_taken (take i names))) a (Ok texts) → Stays a b → TakesFiles (FilesCome (text_taken name)) b (Ok text)
      → TakesFiles (FilesCome (texts_taken (take (i + 1) names))) a (Ok (texts ++ text ∷ []))
  texts-next texts text None b before stays next = tt
  texts-next texts text (Some files) None before stays next = absurd stays
  texts-next texts text (Some files) (Some now) before stays next =
      ap (λ (l : List (List ℕ)). texts_taken l files) front ∙ one-more (take i names) name texts text files before (ap (text_taken name) (sym stays) ∙ next)

  pub texts-refused : (texts : Texts) (why : Untaken) (a b : Option Files) → TakesFiles (FilesCome (texts_taken (take i names))) a (Ok texts) → Stays a b → TakesFiles (FilesCome (text_taken name)) b (Err why)
      → TakesFiles (FilesCome (texts_taken names)) a (Err why)
  texts-refused texts why a b before stays next = by a before (back (FilesCome (text_taken name)) a b (Err why) stays next)
    where
      by : (a : Option Files) → TakesFiles (FilesCome (texts_taken (take i names))) a (Ok texts) → TakesFiles (FilesCome (text_taken name)) a (Err why) → TakesFiles (FilesCome (texts_taken names)) a (Err why)
      by None before next = tt
      by (Some files) before next =
          refusal-so (FilesCome (text_taken name)) (FilesCome (texts_taken names)) files
          (λ told so. ap (λ (l : List (List ℕ)). texts_taken l files) whole ∙ one-not (take i names) name (drop (i + 1) names) texts files told before so)
          (λ gone so. let now = without_file gone files in ap (λ (l : List (List ℕ)). texts_taken l now) whole ∙ (elim (stable-texts (take i names) gone files) [
            | inl same ↦ one-not (take i names) name (drop (i + 1) names) texts now (gone, cause.Absent) (same ∙ before) so
            | inr absent ↦ parted (take i names) (name ∷ drop (i + 1) names) now
                ∙ ap (λ (s : Taken Texts). s >>= λ first. texts_taken (name ∷ drop (i + 1) names) now >>= λ more. Ok (first ++ more)) absent
          ]))
          why next

pub texts-all : (names : List (List ℕ)) (i : ℕ) (texts : List (List ℕ)) (a : Option Files) → length names ≤ i → TakesFiles (FilesCome (texts_taken (take i names))) a (Ok texts) → TakesFiles (FilesCome (texts_taken names)) a (Ok texts)
texts-all names i texts a beyond = subst (λ (l : List (List ℕ)). TakesFiles (FilesCome (texts_taken l)) a (Ok texts)) (take_all i names beyond)

-- ---- refused texts

none-more : (n : ℕ) (texts : Texts) (text : List ℕ) → position_from is_refused n texts ≡ None → is_refused text ≡ false → position_from is_refused n (texts ++ text ∷ []) ≡ None
none-more n [] text none is = ap (λ (b : Bool). cond b (Some n) None) is
none-more n (first ∷ texts) text none is = by (is_refused first) none (λ later. none-more (n + 1) texts text later is)
  where
    by : (b : Bool) → cond b (Some n) (position_from is_refused (n + 1) texts) ≡ None → (position_from is_refused (n + 1) texts ≡ None → position_from is_refused (n + 1) (texts ++ text ∷ []) ≡ None)
        → cond b (Some n) (position_from is_refused (n + 1) (texts ++ text ∷ [])) ≡ None
    by true none next = absurd cc
    by false none next = next none

pub none-refused : (texts : Texts) (text : List ℕ) → first_refused texts ≡ None → is_refused text ≡ false → first_refused (texts ++ text ∷ []) ≡ None
none-refused = none-more 0
