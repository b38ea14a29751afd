-- The tables of peers, one after the other.
use Rattle.std.proofs.Common.{◌≡◌, ℕ, ◌+◌, ◌<◌, List, [], ◌∷◌, ◌++◌, length, take, get_or, refl, sym, ap, ◌∙◌}
use Rattle.std.proofs.lemmas.List.{take_more}
use Rattle.toml.specs.Data.{item, table, push_item}
use Rattle.toml.specs.View.{view, items_view}
use Rattle.toml.specs.declared.value.Value.{Value}
use Rattle.toml.proofs.Views.{items_view-push}
use Rattle.cs_wire.specs.Keys.{Listed}
use Rattle.cs_config.specs.Printed.{peer_data, peers_data}

-- one more peer
peers-push : (list : List Listed) (x : Listed) → peers_data (list ++ x ∷ []) ≡ push_item (peers_data list) (table (peer_data x))
peers-push [] x = refl
peers-push (y ∷ list) x = ap (item (table (peer_data y))) (peers-push list x)

pub peer_more : (values : List Value) (v : Value) (list : List Listed) (k : ℕ) (d : Listed) → k < length list → items_view values ≡ peers_data (take k list) → view v ≡ table (peer_data (get_or list k d))
    → items_view (values ++ v ∷ []) ≡ peers_data (take (k + 1) list)
peer_more values v list k d within so_far seen =
    items_view-push values v
    ∙ ap (λ items. push_item items (view v)) so_far
    ∙ ap (push_item (peers_data (take k list))) seen
    ∙ sym (peers-push (take k list) (get_or list k d))
    ∙ ap peers_data (sym (take_more list k d within))
