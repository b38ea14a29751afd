-- Genesis objects under their keys have encodings where they had them before.
use Rattle.std.proofs.Common.{◌≡◌, ℕ, zero, suc, ◌+◌, List, [], ◌∷◌, sym, subst, arith}
use Rattle.std.specs.List.{All}
use Rattle.cs_base.specs.declared.key.Key.{Key}
use Rattle.cs_base.specs.declared.key.Key.TheVariants as key
use Rattle.cs_tx_value.specs.declared.object.Object.{Object}
use Rattle.cs_tx_value.specs.Object.{ObjectFits}
use Rattle.cs_sbac.specs.Genesis.{keyed_from, AreObjects}

from-fit : (number : ℕ) (objects : List Object) → All ObjectFits objects → AreObjects (keyed_from number objects)
from-fit number [] fit = tt
from-fit number (object ∷ objects) fit = (fit 0 object (omega arith), from-fit (number + 1) objects (λ k d within. fit (suc k) d (omega arith)))

pub keyed-fit : (objects : List Object) (items : List (Key × Object)) → items ≡ keyed_from 0 objects → All ObjectFits objects → AreObjects items
keyed-fit objects items is fit = subst (λ (xs : List (Key × Object)). AreObjects xs) (sym is) (from-fit 0 objects fit)

pub all-fit : (items : List (Key × Object)) → AreObjects items → All (λ item. ObjectFits item.1) items
all-fit [] fit k d within = absurd (omega arith)
all-fit ((key.Object name, object) ∷ items) fit zero d within = fit.0
all-fit ((key.Object name, object) ∷ items) fit (suc k) d within = all-fit items fit.1 k d (omega arith)
all-fit ((key.Dummy shard serial, object) ∷ items) fit k d within = absurd fit
