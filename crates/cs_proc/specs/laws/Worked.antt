-- The definitions on small cases, worked out.
use Rattle.std.specs.Prelude.{◌≡◌, ℕ, false, true, List, [], ◌∷◌, Some, refl}
use Rattle.std.specs.List.{list_all}
use Rattle.cs_lang_token.specs.declared.token.Text.{Text}
use Rattle.cs_lang.specs.declared.tree.ContractTree.{ContractTree}
use Rattle.cs_lang.specs.declared.tree.Method.{Method}
use Rattle.cs_tx_value.specs.declared.object.Object.{Object}
use Rattle.cs_tx_types.specs.declared.trace.Trace.{Trace}
use Rattle.cs_eval_values.specs.declared.view.View.{View}
use Rattle.cs_eval_values.specs.Namings.{Named}
use Rattle.cs_proc_parts.specs.declared.ending.Ending.TheVariants as ending
use Rattle.cs_proc_parts.specs.declared.progress.Progress.{Progress}
use Rattle.cs_proc_parts.specs.declared.progress.Doing.{Doing}
use Rattle.cs_proc_parts.specs.Courses.{goes, ends}
use Rattle.cs_proc_parts.specs.Creating.{Created, created, is_filled, all_made, with_made, room_for}
use Rattle.cs_proc.specs.Acting.{Calls, make_does, call_does, object_of, dep_number_of}

-- a slot `a` for one object, and a slot `b` for any number
abbrev a : List ℕ
a = 97 ∷ []

abbrev b : List ℕ
b = 98 ∷ []

abbrev slots : List Object → List Object → List Created
slots os ps = created a false os ∷ created b true ps ∷ []

abbrev text : List ℕ → Text
text bytes = record { bytes = bytes; place = 7 }

-- ---- slots

room_at_first : room_for a (slots [] []) ≡ Some true
room_at_first = refl

module _ (o p q : Object) where
  full : room_for a (with_made a o (slots [] [])) ≡ Some false
  full = refl

  never_full : room_for b (with_made b o (slots [] [])) ≡ Some true
  never_full = refl

  -- in the order of the slots, whatever was made first
  made : all_made (with_made a q (with_made b p (with_made b o (slots [] [])))) ≡ q ∷ o ∷ p ∷ []
  made = refl

  unfilled : list_all is_filled (with_made b o (slots [] [])) ≡ false
  unfilled = refl

  filled : list_all is_filled (with_made a o (slots [] [])) ≡ true
  filled = refl

-- ---- statements

module _ (contract : ContractTree) (view : View) (names : List Named) (deps : List ℕ) (progress : Progress) where
  abbrev doing : List Created → Doing
  doing made = record { names = names; made = made; deps = deps; progress = progress }

  -- an object without fields
  abbrev thing : Object
  thing = object_of contract view (text b) []

  make_once : make_does contract view (text a) (text b) [] 3 (doing (slots [] []))
      ≡ goes (doing (slots (thing ∷ []) []))
  make_once = refl

  make_twice : make_does contract view (text a) (text b) [] 3 (doing (slots (thing ∷ []) []))
      ≡ ends (ending.Filled 3)
  make_twice = refl

  make_more : make_does contract view (text b) (text b) [] 3 (doing (slots [] (thing ∷ [])))
      ≡ goes (doing (slots [] (thing ∷ thing ∷ [])))
  make_more = refl

  -- a method that adds its trace, and returns nothing to names
  module _ (m : Method) (t u : Trace) where
    abbrev after : Progress
    after = record { inputs = []; reads = []; traces = t ∷ u ∷ [] }

    abbrev calls : Calls
    calls name = Some (record { method = m; run = λ values p. goes after })

    -- the caller, with the numbers of the traces that it stands on
    abbrev calling : List ℕ → Progress → Doing
    calling numbers p = record { names = names; made = slots [] []; deps = numbers; progress = p }

    call_once : call_does contract view calls [] (text a) [] 3 (calling [] progress) ≡ goes (calling (1 ∷ []) after)
    call_once = refl

    -- what ends the method that is called, ends its caller
    abbrev missing : Calls
    missing name = Some (record { method = m; run = λ values p. ends ending.Missing })

    call_missing : call_does contract view missing [] (text a) [] 3 (doing (slots [] [])) ≡ ends ending.Missing
    call_missing = refl

-- ---- deps

byte : dep_number_of 255 ≡ 255
byte = refl

more_than_a_byte : dep_number_of 256 ≡ 255
more_than_a_byte = refl
