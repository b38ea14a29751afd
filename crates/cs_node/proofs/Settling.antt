-- How the marks of the turns add up to those of an event.
use Rattle.std.proofs.Common.{◌≡◌, ℕ, zero, suc, ◌<◌, ◌^◌, true, false, List, [], ◌∷◌, ◌++◌, Option, Some, None, arith, sym, ◌∙◌, ap, subst, refl, append_assoc, append-nil}
use Rattle.cs_node_rules.specs.Signs.{Sign}
use Rattle.cs_node_rules.specs.Site.{Input, Mark, In, Site, View, view_after, signs_of}
use Rattle.cs_node_rules.specs.Trail.{turn_marks, continued, settled, input_marks, event_marks}
use Rattle.cs_node.specs.Drafts.{Draft}
use Rattle.cs_node.specs.Notes.{nothing_said, TellsSigns}
use Rattle.cs_node.specs.Steps.{MakesMarks, TurnDone, Settles, Settling, Drafts}
use Rattle.cs_node.proofs.Sums.{signs-append, view-append, marks-none, marks-more}

module _ {M : Type 0} (site : Site M) where
  pub settled-more : (turns : ℕ) (v : View M) (fresh : List (Mark M)) → turn_marks site v ≡ Some fresh → settled site (suc turns) v ≡ settled site turns (view_after site fresh v) ++ fresh
  unfolding settled
  settled-more turns v fresh e = ap (continued site (settled site turns) v) e

  pub settled-end : (turns : ℕ) (v : View M) → turn_marks site v ≡ None → settled site turns v ≡ []
  unfolding settled
  settled-end zero v e = refl
  settled-end (suc turns) v e = ap (continued site (settled site turns) v) e

  pub settling-starts : (v : View M) (old : Draft) (After : View M → Type 0) (rest : ℕ) → After v → rest < 2 ^ 80 → Settling site v old old After rest
  settling-starts v old After rest after enough = record {
    done = [];
    left = 2 ^ 80;
    goes_on = sym (append-nil _);
    marks = marks-none site v old After after;
    enough = enough;
  }

  pub goes-with : (v : View M) (done fresh : List (Mark M)) (old now next : Draft) (After Later : View M → Type 0) (left before rest : ℕ)
      → settled site (2 ^ 80) v ≡ settled site left (view_after site done v) ++ done → MakesMarks site done v old now After → before < left → turn_marks site (view_after site done v) ≡ Some fresh
      → MakesMarks site fresh (view_after site done v) now next Later → rest < before → Settling site v old next Later rest
  goes-with v done fresh old now next After Later zero before rest goes marks enough e more less = absurd (omega arith)
  goes-with v done fresh old now next After Later (suc left) before rest goes marks enough e more less = record {
    done = fresh ++ done;
    left = left;
    goes_on = goes ∙ ap (λ x. x ++ done) (settled-more left (view_after site done v) fresh e) ∙ append_assoc (settled site left (view_after site fresh (view_after site done v))) fresh done
        ∙ ap (λ w. settled site left w ++ (fresh ++ done)) (sym (view-append site fresh done v));
    marks = marks-more site done fresh v old now next After Later marks more;
    enough = omega arith;
  }

  -- a turn, by what its marks are
  pub turn-goes : (v : View M) (old now next : Draft) (After Later : View M → Type 0) (before rest : ℕ) (found : Option (List (Mark M)))
      → (s : Settling site v old now After before) → turn_marks site (view_after site s.done v) ≡ found → TurnDone site found (view_after site s.done v) true now next Later → rest < before → Settling site v old next Later rest
  turn-goes v old now next After Later before rest None s e turn less = let x : true ≡ false = turn.0 in cc
  turn-goes v old now next After Later before rest (Some fresh) s e turn less = goes-with v s.done fresh old now next After Later s.left before rest s.goes_on s.marks s.enough e turn.1 less

  pub turn-ends : (v : View M) (old now next : Draft) (After Later : View M → Type 0) (before : ℕ) (found : Option (List (Mark M)))
      → (s : Settling site v old now After before) → turn_marks site (view_after site s.done v) ≡ found → TurnDone site found (view_after site s.done v) false now next Later → Settles site v old next Later
  turn-ends v old now next After Later before None s e turn =
      let q : settled site (2 ^ 80) v ≡ s.done = s.goes_on ∙ ap (λ x. x ++ s.done) (settled-end s.left (view_after site s.done v) e) in
      let P : List (Mark M) → Type 0 = λ x. MakesMarks site x v old next Later in
      let Q : List (Mark M) → Type 0 = λ x. turn_marks site (view_after site x v) ≡ None in
      let R : Draft → Type 0 = λ m. MakesMarks site s.done v old m Later in
      record {
        marks = subst P (sym q) (subst R (sym turn.1) (record { tells = s.marks.tells; after = turn.2 }));
        quiet = subst Q (sym q) e;
      }
  turn-ends v old now next After Later before (Some fresh) s e turn = let x : false ≡ true = turn.0 in cc

  -- an input's own marks, and then the rules until none applies
  pub event-made : (v : View M) (input : Input) (mid made : Draft) (After Later : View M → Type 0) → MakesMarks site (input_marks site v input ++ In input ∷ []) v nothing_said mid After
      → Settles site (view_after site (input_marks site v input ++ In input ∷ []) v) mid made Later → Drafts site v input made Later
  unfolding event_marks
  event-made v input mid made After Later first s =
      let start : List (Mark M) = input_marks site v input ++ In input ∷ [] in
      let later : List (Mark M) = settled site (2 ^ 80) (view_after site start v) in
      let P : View M → Type 0 = λ w. turn_marks site w ≡ None in
      record {
        marks = marks-more site start later v nothing_said mid made After Later first s.marks;
        quiet = subst P (sym (view-append site later start v)) s.quiet;
      }

  -- the mark of the input changes nothing
  pub with-input : (marks : List (Mark M)) (input : Input) (v : View M) (old new : Draft) (After : View M → Type 0) → MakesMarks site marks v old new After → MakesMarks site (marks ++ In input ∷ []) v old new After
  with-input marks input v old new After m =
      let P : List Sign → Type 0 = λ signs. TellsSigns signs old new in
      record {
        tells = subst P (sym (signs-append marks (In input ∷ []) ∙ append-nil (signs_of marks))) m.tells;
        after = subst After (sym (view-append site marks (In input ∷ []) v)) m.after;
      }
