-- Objects, wherever they stand.
use Rattle.std.specs.Prelude.{List, map}
use Rattle.cs_tx_value.specs.declared.object.Object.{Object}
use Rattle.cs_eval_values.specs.declared.objects.Placed.{Placed}
use Rattle.cs_eval_values.specs.declared.objects.Placed.TheVariants as placed
use Rattle.cs_eval_values.specs.Lending.{lent_object}

abbrev pub placed_objects : Placed → List Object
placed_objects (placed.Alone os) = os.now
placed_objects (placed.Keyed os) = map lent_object os.now
