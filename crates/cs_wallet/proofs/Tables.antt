-- The tables and lines that are printed, one after the other.
use Rattle.std.proofs.Common.{◌≡◌, ℕ, ◌+◌, ◌<◌, List, [], ◌∷◌, ◌++◌, Vec, length, take, get_or, refl, sym, ap, ◌∙◌, append_assoc}
use Rattle.std.specs.Prelude.{codes}
use Rattle.std.specs.declared.alloc.Global.{Global}
use Rattle.std.proofs.lemmas.List.{take_more, map-append}
use Rattle.hex.specs.Hex.{encode_lower}
use Rattle.toml.specs.Data.{Items, item, table, push_item}
use Rattle.toml.specs.View.{view, items_view}
use Rattle.toml.specs.declared.value.Value.{Value}
use Rattle.toml.proofs.Views.{items_view-push}
use Rattle.cs_onetime.specs.Signature.{texts_in}
use Rattle.cs_wallet.specs.Commands.{part_lines}
use Rattle.cs_wallet.specs.Printed.{signed_data, used_data}

-- ---- one more number

used-push : (used : List (ℕ × List ℕ)) (x : ℕ × List ℕ) → used_data (used ++ x ∷ []) ≡ push_item (used_data used) (table (signed_data x))
used-push [] x = refl
used-push (y ∷ used) x = ap (item (table (signed_data y))) (used-push used x)

pub signed_more : (values : List Value) (v : Value) (used : List (ℕ × List ℕ)) (k : ℕ) (d : ℕ × List ℕ) → k < length used → items_view values ≡ used_data (take k used) → view v ≡ table (signed_data (get_or used k d))
    → items_view (values ++ v ∷ []) ≡ used_data (take (k + 1) used)
signed_more values v used k d within so_far seen =
    items_view-push values v
    ∙ (ap (λ (items : Items). push_item items (view v)) so_far
    ∙ (ap (push_item (used_data (take k used))) seen
    ∙ (sym (used-push (take k used) (get_or used k d))
    ∙ ap used_data (sym (take_more used k d within)))))

-- ---- one more line

abbrev line_of : List ℕ → List ℕ
line_of text = codes "part " ++ (encode_lower text ++ codes "\n")

lines-push : (texts : List (List ℕ)) (text : List ℕ) → part_lines (texts ++ text ∷ []) ≡ part_lines texts ++ line_of text
lines-push [] text = refl
lines-push (x ∷ texts) text =
    ap (λ (r : List ℕ). codes "part " ++ (encode_lower x ++ (codes "\n" ++ r))) (lines-push texts text)
    ∙ ap (λ (r : List ℕ). codes "part " ++ r) (sym (append_assoc (encode_lower x) (codes "\n" ++ part_lines texts) (line_of text)))

pub lines_more : (texts : List (Vec ℕ Global)) (i : ℕ) (v : Vec ℕ Global) (old new text : List ℕ) → i < length texts → v ≡ get_or texts i v → text ≡ v.items → old ≡ part_lines (texts_in (take i texts)) → new ≡ old ++ line_of text
    → new ≡ part_lines (texts_in (take (i + 1) texts))
lines_more texts i v old new text within at is so_far grown =
    let so = texts_in (take i texts) in
    let one : texts_in (take (i + 1) texts) ≡ so ++ v.items ∷ [] =
    ap texts_in (take_more texts i v within) ∙ (map-append (λ (t : Vec ℕ Global). t.items) (take i texts) (get_or texts i v ∷ []) ∙ ap (λ (t : Vec ℕ Global). so ++ t.items ∷ []) (sym at)) in
    grown
    ∙ (ap (λ (l : List ℕ). l ++ line_of text) so_far
    ∙ (ap (λ (t : List ℕ). part_lines so ++ line_of t) is
    ∙ (sym (lines-push so v.items) ∙ ap part_lines (sym one))))
