-- Which expressions are chains and paths, and what is known of them.
use Rattle.std.proofs.Common.{◌≡◌, ℕ, suc, ◌≤◌, Bool, true, false, List, [], ◌∷◌, ◌++◌, map, refl, sym, ap, subst, ◌∙◌}
use Rattle.cs_lang_token.specs.Grammar.{Rule, pair}
use Rattle.cs_lang_token.specs.Rules.{room_of, less_one}
use Rattle.cs_lang.specs.declared.tree.Rank.{Rank}
use Rattle.cs_lang.specs.declared.tree.Expr.{Expr, out-Expr}
use Rattle.cs_lang.specs.declared.tree.Shape.{Shape}
use Rattle.cs_lang.specs.declared.tree.Shape.TheVariants as shape
use Rattle.cs_lang.specs.declared.tree.Link.{Link}
use Rattle.cs_lang.specs.declared.tree.Step.{Step}
use Rattle.cs_lang.specs.declared.tree.Access.{Access}
use Rattle.cs_lang.specs.Trees.{tree, first_token_of, shape_of, same_rank, shape_is_chain, is_chain, with_link, shape_is_path, is_path, with_step, grouped}
use Rattle.cs_lang.specs.Rules.{access, operators, Whole, expression}
use Rattle.cs_lang_print.specs.Words.{word, operator_text}
use Rattle.cs_lang_print.specs.Spelling.{Spelled, tightness_of, operand_tightness, held_together, run_text}
use Rattle.cs_lang_print.specs.Expressions.{Linked, spelled, spelled_link, step_text, access_text}
use Rattle.cs_lang_print.proofs.RunTexts.{runs_map}
use Rattle.cs_lang_print.proofs.Layers.{spelled_is, link_is, step_is, shape_path, shape_chain}
use Rattle.cs_lang_print.proofs.Says.{says_same, says_text}
use Rattle.cs_lang.proofs.Opened.{out_path, out_chain}
use Rattle.cs_lang.proofs.Chains.{same_ranks, Item, link_of, step_of, link_joins, link_begins, step_joins, step_begins}
use Rattle.cs_lang_print.proofs.Moves.{bare_item, bare_way, move_link, move_step, grouped_bare}
use Rattle.cs_lang_print.proofs.Rungs.{rule_at}
use Rattle.cs_lang_print.proofs.Known.{Spelt, Run}

map_append : {X Y : Type 0} (f : X → Y) (xs ys : List X) → map f (xs ++ ys) ≡ map f xs ++ map f ys
map_append f [] ys = refl
map_append f (x ∷ xs) ys = ap (λ l. f x ∷ l) (map_append f xs ys)

-- ---- chains

abbrev pub chain_link : Rank → ℕ → ℕ → Bool → Rule Item
chain_link r n left more = pair (operators r more) (rule_at (operand_tightness r) n left)

abbrev pub chain_text : Rank → Item → List ℕ
chain_text r p = word (operator_text p.0.0) ++ held_together (operand_tightness r) (spelled p.1)

abbrev pub link_texts : Rank → List Link → List (List ℕ)
link_texts r = map (λ (l : Link). spelled_link l (operand_tightness r))

pub record ChainBuilt (r : Rank) (e s : Expr) (ts : List (List ℕ)) : Type 0 where
  pub first : ℕ
  pub place : ℕ
  pub links : List Link
  pub is : e ≡ tree first place (shape.Chain r s links)
  pub texts : link_texts r links ≡ ts

pub chain_add : (r : Rank) (e s : Expr) (ts : List (List ℕ)) (x : Item) → ChainBuilt r e s ts → ChainBuilt r (with_link r e x) s (ts ++ chain_text r x ∷ [])
chain_add r e s ts x h =
    let left = tree h.first h.place (shape.Chain r s h.links) in
    record {
      first = h.first;
      place = x.0.1;
      links = h.links ++ link_of left x ∷ [];
      is = ap (λ (y : Expr). with_link r y x) h.is ∙ link_joins r h.first h.place s h.links x;
      texts = map_append (λ (l : Link). spelled_link l (operand_tightness r)) h.links (link_of left x ∷ [])
          ∙ ap (λ (l : List (List ℕ)). l ++ spelled_link (link_of left x) (operand_tightness r) ∷ []) h.texts
          ∙ ap (λ (t : List ℕ). ts ++ t ∷ []) (link_is (link_of left x) (operand_tightness r));
    }

pub chain_new : (r : Rank) (e : Expr) (x : Item) → is_chain r e ≡ false → ChainBuilt r (with_link r e x) e (chain_text r x ∷ [])
chain_new r e x test = record {
  first = first_token_of e;
  place = x.0.1;
  links = link_of e x ∷ [];
  is = link_begins r e x test;
  texts = ap (λ (t : List ℕ). t ∷ []) (link_is (link_of e x) (operand_tightness r));
}

pub chain_is : (r : Rank) (e s : Expr) (ts : List (List ℕ)) → ChainBuilt r e s ts → spelled e ≡ record { tightness = tightness_of r; text = run_text (held_together (operand_tightness r) (spelled s)) ts }
chain_is r e s ts h =
    ap spelled h.is ∙ spelled_is (tree h.first h.place (shape.Chain r s h.links)) ∙ shape_chain r s h.links
    ∙ ap (λ (l : List (List ℕ)). of l) (runs_map (λ (link : Linked). link (operand_tightness r)) spelled_link h.links ∙ h.texts)
  where
    of : List (List ℕ) → Spelled
    of l = record { tightness = tightness_of r; text = run_text (held_together (operand_tightness r) (spelled s)) l }

-- ---- paths

abbrev pub path_link : ℕ → ℕ → Bool → Rule (ℕ × Access)
path_link n left = access (expression (suc n) (less_one left) Whole) (room_of left)

abbrev pub path_text : ℕ × Access → List ℕ
path_text p = access_text p.1

pub record PathBuilt (e s : Expr) (ts : List (List ℕ)) : Type 0 where
  pub first : ℕ
  pub place : ℕ
  pub steps : List Step
  pub is : e ≡ tree first place (shape.Path s steps)
  pub texts : map step_text steps ≡ ts

pub path_add : (e s : Expr) (ts : List (List ℕ)) (x : ℕ × Access) → PathBuilt e s ts → PathBuilt (with_step e x) s (ts ++ path_text x ∷ [])
path_add e s ts x h =
    let left = tree h.first h.place (shape.Path s h.steps) in
    record {
      first = h.first;
      place = x.0;
      steps = h.steps ++ step_of left x ∷ [];
      is = ap (λ (y : Expr). with_step y x) h.is ∙ step_joins h.first h.place s h.steps x;
      texts = map_append step_text h.steps (step_of left x ∷ [])
          ∙ ap (λ (l : List (List ℕ)). l ++ step_text (step_of left x) ∷ []) h.texts
          ∙ ap (λ (t : List ℕ). ts ++ t ∷ []) (step_is (step_of left x));
    }

pub path_new : (e : Expr) (x : ℕ × Access) → is_path e ≡ false → PathBuilt (with_step e x) e (path_text x ∷ [])
path_new e x test = record {
  first = first_token_of e;
  place = x.0;
  steps = step_of e x ∷ [];
  is = step_begins e x test;
  texts = ap (λ (t : List ℕ). t ∷ []) (step_is (step_of e x));
}

pub path_is : (e s : Expr) (ts : List (List ℕ)) → PathBuilt e s ts → spelled e ≡ record { tightness = 7; text = run_text (held_together 8 (spelled s)) ts }
path_is e s ts h =
    ap spelled h.is ∙ spelled_is (tree h.first h.place (shape.Path s h.steps)) ∙ shape_path s h.steps
    ∙ ap (λ (l : List (List ℕ)). of l) h.texts
  where
    of : List (List ℕ) → Spelled
    of l = record { tightness = 7; text = run_text (held_together 8 (spelled s)) l }

-- ---- what is known of an expression

abbrev pub ChainRun : Rank → Expr → ℕ → Type 0
ChainRun r = Run (with_link r) bare_item (move_link r) (chain_link r) (chain_text r) (operand_tightness r) (ChainBuilt r)

abbrev pub PathRun : Expr → ℕ → Type 0
PathRun = Run with_step bare_way move_step path_link path_text 8 PathBuilt

pub record Known (e : Expr) (l : ℕ) : Type 0 where
  pub spelt : Spelt e l
  pub chains : (r : Rank) → is_chain r e ≡ true → ChainRun r e l
  pub paths : is_path e ≡ true → PathRun e l

-- neither a chain nor a path
pub known_plain : (e : Expr) (l : ℕ) → Spelt e l → ((r : Rank) → is_chain r e ≡ false) → is_path e ≡ false → Known e l
known_plain e l s no_chain no_path = record {
  spelt = s;
  chains = λ r is. (let no = no_chain r in absurd cc);
  paths = λ is. absurd cc;
}

pub known_chain : (r : Rank) (e : Expr) (l : ℕ) → Spelt e l → ChainRun r e l → Known e l
known_chain r e l s run = record {
  spelt = s;
  chains = λ q is.
      let b = run.at.built in
      let same : same_rank r q ≡ true = sym (ap (is_chain q) b.is ∙ ap (shape_is_chain q) (out_chain r run.start b.links)) ∙ is in
      subst (λ (k : Rank). ChainRun k e l) (same_ranks r q same) run;
  paths = λ is.
      let b = run.at.built in
      let no : is_path e ≡ false = ap is_path b.is ∙ ap shape_is_path (out_chain r run.start b.links) in
      absurd cc;
}

pub known_path : (e : Expr) (l : ℕ) → Spelt e l → PathRun e l → Known e l
known_path e l s run = record {
  spelt = s;
  chains = λ q is.
      let b = run.at.built in
      let no : is_chain q e ≡ false = ap (is_chain q) b.is ∙ ap (shape_is_chain q) (out_path run.start b.steps) in
      absurd cc;
  paths = λ is. run;
}

-- ---- in parentheses

grouped_spelled : (p : ℕ × (Expr × ℕ)) → spelled (grouped p) ≡ spelled p.1.0
grouped_spelled p = spelled_is (grouped p) ∙ sym (spelled_is p.1.0)

grouped_spelt : (p : ℕ × (Expr × ℕ)) (l : ℕ) → Spelt p.1.0 l → Spelt (grouped p) l
grouped_spelt p l s = record {
  says = λ t n left le a b.
      let is = grouped_spelled p in
      let tight : t ≤ (spelled p.1.0).tightness = subst (λ (x : Spelled). t ≤ x.tightness) is le in
      says_same (grouped p) (sym (grouped_bare p)) (says_text (spelled (grouped p)).text (sym (ap (λ (x : Spelled). x.text) is)) (s.says t n left tight a b));
}

grouped_chain : (r : Rank) (p : ℕ × (Expr × ℕ)) (l : ℕ) → ChainRun r p.1.0 l → ChainRun r (grouped p) l
grouped_chain r p l run =
    let b = run.at.built in
    record {
      start = run.start;
      v = run.v;
      first = run.first;
      others = run.others;
      at = record {
        says = run.at.says;
        built = record { first = p.0; place = (out-Expr p.1.0).place; links = b.links; is = ap (λ (s : Shape). tree p.0 (out-Expr p.1.0).place s) (ap shape_of b.is); texts = b.texts };
        same = grouped_bare p ∙ run.at.same;
      };
      level = run.level;
    }

grouped_path : (p : ℕ × (Expr × ℕ)) (l : ℕ) → PathRun p.1.0 l → PathRun (grouped p) l
grouped_path p l run =
    let b = run.at.built in
    record {
      start = run.start;
      v = run.v;
      first = run.first;
      others = run.others;
      at = record {
        says = run.at.says;
        built = record { first = p.0; place = (out-Expr p.1.0).place; steps = b.steps; is = ap (λ (s : Shape). tree p.0 (out-Expr p.1.0).place s) (ap shape_of b.is); texts = b.texts };
        same = grouped_bare p ∙ run.at.same;
      };
      level = run.level;
    }

pub known_grouped : (p : ℕ × (Expr × ℕ)) (l : ℕ) → Known p.1.0 l → Known (grouped p) l
known_grouped p l k = record {
  spelt = grouped_spelt p l k.spelt;
  chains = λ r is. grouped_chain r p l (k.chains r is);
  paths = λ is. grouped_path p l (k.paths is);
}
